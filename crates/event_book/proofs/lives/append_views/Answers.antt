use Rattle.std.proofs.Common.{◌++◌, ◌+◌, suc, drop, ap, sym, ◌∙◌}
use Rattle.std.proofs.lemmas.List.{append-nil}
use Rattle.win_events.specs.Spelling.{spelling}
use Rattle.event_book.specs.declared.lives.Recorded.{Recorded}
use Rattle.event_book.specs.Lives.{views_from}
use Rattle.event_book.specs.Shown.{shown}
use Rattle.event_book.proofs.ShownLemmas.{views_step_as, views-end}
use Rattle.event_book.proofs.lives.append_views.Goals as goal

pub loop-i-preserved : goal.loop-i-preserved
loop-i-preserved c =
    ap (λ vs. vs ++ views_from c.args.window (suc (c.loop-i.i + 1))
    (drop (c.loop-i.i + 1) (shown c.args.settled c.args.all.now))) c.in_ok-push.ensures.ok
    ∙ views_step_as c.args.window c.loop-i.i c.args.settled c.args.all.now c.index-all-i.result c.loop-i.views
    c.shown_life-life.result c.in_ok-spelled.spelled c.loop-i-test.true c.shown_life-life.ensures
    (c.in_ok-spelled.ensures ∙ ap (λ (e : Recorded). spelling e.item) (sym c.index-all-i.is)) c.index-all-i.is
    ∙ c.loop-i.invariant

pub returns : goal.returns
returns c =
    sym (append-nil c.loop-i.views)
    ∙ ap (λ t. c.loop-i.views ++ t) (sym (views-end c.args.window c.loop-i.i c.args.settled c.args.all.now
    c.loop-i-test.false))
    ∙ c.loop-i.invariant
