-- Calls, one after another.
use Rattle.std.proofs.Common.{◌≡◌, ◌==◌, ℕ, cond, List, [], ◌∷◌, ◌++◌, refl, sym, ap, ◌∙◌, subst, append_assoc}
use Rattle.std.proofs.Common.{append-nil}
use Rattle.plumb_ports.specs.PortsState.{PortsState}
use Rattle.plumb_ports.specs.Laws.{after_call}
use Rattle.plumb_ports.proofs.NumberLemmas.{call_numbers}
use Rattle.book_calls.specs.Calls.{Answers, bytes_to}
use Rattle.book_calls.specs.PortCalls.{CanCallAll, answers_of, comes_to, after_calls, all_answers, all_coming}
use Rattle.book_calls.specs.PortLaws.{GetsItsMessages, IsLawfulRun, CallsAreLawful}
use Rattle.book_calls.proofs.PortSteps.{numbers, gets_call}

pub bytes_more : (x : ℕ) (ls bs : Answers) → bytes_to x (ls ++ bs) ≡ bytes_to x ls ++ bytes_to x bs
bytes_more x [] bs = refl
bytes_more x (a ∷ ls) bs =
    ap (λ (l : List ℕ). cond (a.0.opening == x) a.1.bytes [] ++ l) (bytes_more x ls bs)
    ∙ sym (append_assoc (cond (a.0.opening == x) a.1.bytes []) (bytes_to x ls) (bytes_to x bs))

-- the same, written otherwise
same : (s : PortsState) (x : ℕ) (given other : List ℕ) (coming more : List (List ℕ))
    → given ≡ other → coming ≡ more → GetsItsMessages given coming s x → GetsItsMessages other more s x
same s x given other coming more e f g =
    subst (λ (l : List ℕ). GetsItsMessages l more s x) e (subst (λ (l : List (List ℕ)). GetsItsMessages given l s x) f
    g)

pub lawful : CallsAreLawful
unfolding CanCallAll after_calls all_answers all_coming
lawful s [] n a = record {
  numbered = n;
  gets = λ x given coming g. same s x given (given ++ []) coming (coming ++ []) (sym (append-nil given))
      (sym (append-nil coming)) g;
}
lawful s (c ∷ cs) n a =
    let rest : IsLawfulRun (after_call s c) cs = lawful (after_call s c) cs (call_numbers s c (numbers s c a.0) n)
    a.1 in
    record {
      numbered = rest.numbered;
      gets = λ x given coming g.
          same (after_calls (after_call s c) cs) x _ (given ++ bytes_to x
          (answers_of s c ++ all_answers (after_call s c) cs)) _
          (coming ++ (comes_to x s c ++ all_coming x (after_call s c) cs))
          (append_assoc given (bytes_to x (answers_of s c)) (bytes_to x (all_answers (after_call s c) cs))
          ∙ ap (λ (l : List ℕ). given ++ l) (sym (bytes_more x (answers_of s c) (all_answers (after_call s c) cs))))
          (append_assoc coming (comes_to x s c) (all_coming x (after_call s c) cs))
          (rest.gets x (given ++ bytes_to x (answers_of s c)) (coming ++ comes_to x s c)
          (gets_call given coming s c x n a.0 g));
    }
