use Rattle.std.proofs.Common.{◌≡◌, Some, sym, ap, ◌∙◌, subst, append-nil, ◌++◌, List, [], ◌∷◌}
use Rattle.acme_watch.specs.Watching.{WatchState, after_serve}
use Rattle.core_events.specs.declared.response.Response.{Response}
use Rattle.core_watch.specs.Serving.{next_served, response_to, watch_after_serving}
use Rattle.core_watch.specs.Sound.{IsWatchIdle}
use Rattle.core_watch.proofs.Turns.{said_more, more_said, after_all_more, all_none, none_next, idle, after_all_none}
use Rattle.core_watch.proofs.Turns.{fewer, sound_after}
use Rattle.core_watch.proofs.serving.serve_watch.Goals as goal

pub loop-said-smaller : goal.loop-said-smaller
loop-said-smaller c =
    fewer c.args.at c.loop-said.watch.present c.serve_next.new.watch.present c.in-Some.read c.in-Some.piece
    (sym c.in_ok-read.ensures.answer ∙ c.in-Some.is) c.in_ok-read.ensures.ok

pub loop-said-preserved : goal.loop-said-preserved
loop-said-preserved c =
    let found : next_served c.loop-said.watch.present ≡ Some (c.in-Some.read, c.in-Some.piece) =
    sym c.in_ok-read.ensures.answer ∙ c.in-Some.is in
    let after : c.serve_next.new.watch.present ≡ after_serve c.loop-said.watch.present c.args.at =
    c.in_ok-read.ensures.ok in
    let pushed : c.push.new.self ≡ c.loop-said.said ++ response_to (c.in-Some.read, c.in-Some.piece) ∷ [] =
    c.in_ok-push.ensures.ok ∙ ap (λ (x : Response). c.loop-said.said ++ x ∷ []) c.response_to.ensures in
    record {
      exact = said_more c.args.at c.args.watch.now.present c.loop-said.watch.present
          c.serve_next.new.watch.present c.in-Some.read c.in-Some.piece c.loop-said.said c.push.new.self
          found after c.loop-said.invariant.exact pushed;
      rest = ap (watch_after_serving c.args.at) after
          ∙ sym (after_all_more c.args.at c.loop-said.watch.present c.in-Some.read c.in-Some.piece found)
          ∙ c.loop-said.invariant.rest;
      kept = c.in_ok-read.ensures.kept ∙ c.loop-said.invariant.kept;
      said = more_said c.loop-said.watch.present c.in-Some.read c.in-Some.piece c.loop-said.said c.push.new.self
          c.loop-said.invariant.sound found
          c.loop-said.invariant.said pushed;
      sound = sound_after c.args.at c.loop-said.watch.present c.serve_next.new.watch.present
          c.loop-said.invariant.sound after;
    }

pub returns-clause-exact : goal.returns-clause-exact
returns-clause-exact c =
    let none = all_none c.args.at c.loop-said.watch.present (sym c.in_ok-read.ensures.answer ∙ c.in_default.is) in
    sym (append-nil c.loop-said.said)
    ∙ ap (λ (l : List Response). c.loop-said.said ++ l) (sym none)
    ∙ c.loop-said.invariant.exact

pub returns-clause-ok : goal.returns-clause-ok
returns-clause-ok c =
    let none = sym c.in_ok-read.ensures.answer ∙ c.in_default.is in
    c.in_ok-read.ensures.ok
    ∙ idle c.args.at c.loop-said.watch.present none
    ∙ sym (after_all_none c.args.at c.loop-said.watch.present none)
    ∙ c.loop-said.invariant.rest

pub returns-clause-idle : goal.returns-clause-idle
returns-clause-idle c =
    let none = sym c.in_ok-read.ensures.answer ∙ c.in_default.is in
    subst IsWatchIdle (sym (c.in_ok-read.ensures.ok ∙ idle c.args.at c.loop-said.watch.present none))
    (none_next c.loop-said.watch.present none)
