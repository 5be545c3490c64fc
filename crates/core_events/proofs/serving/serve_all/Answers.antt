use Rattle.std.proofs.Common.{◌≡◌, Some, sym, ap, ◌∙◌, append-nil, ◌++◌, List}
use Rattle.am_text.specs.Twice.{Twice}
use Rattle.event_book.specs.BookState.{BookState, served_of, after_serve}
use Rattle.core_events.specs.declared.response.Response.{Response}
use Rattle.core_events.specs.Serving.{book_served_all}
use Rattle.core_events.proofs.Turns.{said_more, more_said, book_all_more, all_none, idle, book_all_none, fewer}
use Rattle.core_events.proofs.Turns.{sound_after}
use Rattle.core_events.proofs.serving.serve_all.Goals as goal

pub loop-said-smaller : goal.loop-said-smaller
loop-said-smaller c =
    fewer c.args.at c.loop-said.book.present c.serve.new.self.present c.in-Some.asker c.in-Some.piece
    (sym c.in_ok-asker.ensures.answer ∙ c.in-Some.is)
    (ap (λ (t : Twice BookState). t.present) c.in_ok-asker.ensures.ok)

pub loop-said-preserved : goal.loop-said-preserved
loop-said-preserved c =
    let found : served_of c.loop-said.book.present ≡ Some (c.in-Some.asker, c.in-Some.piece) =
    sym c.in_ok-asker.ensures.answer ∙ c.in-Some.is in
    let after : c.serve.new.self.present ≡ after_serve c.loop-said.book.present c.args.at =
    ap (λ (t : Twice BookState). t.present) c.in_ok-asker.ensures.ok in
    record {
      exact = said_more c.args.at c.args.book.now.present c.loop-said.book.present c.serve.new.self.present
          c.in-Some.asker c.in-Some.piece c.loop-said.said c.push.new.self
          found after c.loop-said.invariant.exact c.in_ok-push.ensures.ok;
      rest = ap (λ (s : BookState). book_served_all c.args.at s) after
          ∙ sym (book_all_more c.args.at c.loop-said.book.present c.in-Some.asker c.in-Some.piece found)
          ∙ c.loop-said.invariant.rest;
      kept = ap (λ (t : Twice BookState). t.kept) c.in_ok-asker.ensures.ok ∙ c.loop-said.invariant.kept;
      said = more_said c.args.at c.loop-said.book.present c.in-Some.asker c.in-Some.piece c.loop-said.said
          c.push.new.self c.loop-said.invariant.sound found
          c.loop-said.invariant.said c.in_ok-push.ensures.ok;
      sound = sound_after c.args.at c.loop-said.book.present c.serve.new.self.present c.loop-said.invariant.sound after;
    }

pub returns-clause-exact : goal.returns-clause-exact
returns-clause-exact c =
    let none = all_none c.args.at c.loop-said.book.present (sym c.in_ok-asker.ensures.answer ∙ c.in_default.is) in
    sym (append-nil c.loop-said.said)
    ∙ ap (λ (l : List Response). c.loop-said.said ++ l) (sym none)
    ∙ c.loop-said.invariant.exact

pub returns-clause-ok : goal.returns-clause-ok
returns-clause-ok c =
    let none = sym c.in_ok-asker.ensures.answer ∙ c.in_default.is in
    ap (λ (t : Twice BookState). t.present) c.in_ok-asker.ensures.ok
    ∙ idle c.args.at c.loop-said.book.present none
    ∙ sym (book_all_none c.args.at c.loop-said.book.present none)
    ∙ c.loop-said.invariant.rest
