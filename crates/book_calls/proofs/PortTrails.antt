-- Calls behind calls.
use Rattle.std.proofs.Common.{◌≡◌, List, [], ◌∷◌, ◌++◌, refl, sym, ap, ◌∙◌, append_assoc}
use Rattle.plumb_ports.specs.PortsState.{PortsState}
use Rattle.plumb_ports.specs.Laws.{Call, after_call}
use Rattle.book_calls.specs.Calls.{Answers}
use Rattle.book_calls.specs.PortCalls.{CanCallAll, answers_of, after_calls, all_answers}

pub can_more : (s : PortsState) (cs ds : List Call) → CanCallAll s cs → CanCallAll (after_calls s cs) ds
    → CanCallAll s (cs ++ ds)
unfolding CanCallAll after_calls
can_more s [] ds a b = b
can_more s (c ∷ cs) ds a b = (a.0, can_more (after_call s c) cs ds a.1 b)

pub after_more : (s : PortsState) (cs ds : List Call) → after_calls s (cs ++ ds) ≡ after_calls (after_calls s cs) ds
unfolding after_calls
after_more s [] ds = refl
after_more s (c ∷ cs) ds = after_more (after_call s c) cs ds

pub answers_more : (s : PortsState) (cs ds : List Call) → all_answers s (cs ++ ds) ≡ all_answers s cs
    ++ all_answers (after_calls s cs) ds
unfolding after_calls all_answers
answers_more s [] ds = refl
answers_more s (c ∷ cs) ds =
    ap (λ (l : Answers). answers_of s c ++ l) (answers_more (after_call s c) cs ds)
    ∙ sym (append_assoc (answers_of s c) (all_answers (after_call s c) cs)
    (all_answers (after_calls (after_call s c) cs) ds))
