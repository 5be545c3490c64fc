-- Calls one after another.
use Rattle.std.proofs.Common.{◌≡◌, ℕ, List, [], ◌∷◌, ◌++◌, refl, sym, ap, ◌∙◌, subst, append_assoc, append-nil}
use Rattle.event_book.specs.BookState.{BookState}
use Rattle.book_calls.specs.Calls.{Making, Ending, CanMake, made, Answers, given, CanMakeAll, all_made, all_given}
use Rattle.book_calls.specs.Calls.{CanEnd, ended, CanEndAll, all_ended}

-- a book that calls make of the first one, with the answers that they give
pub record IsMade (at : ℕ) (first : BookState) (answers : Answers) (s : BookState) : Type 0 where
  pub makes : List Making
  pub can : CanMakeAll at first makes
  pub gives : all_given at first makes ≡ answers
  pub book : all_made at first makes ≡ s

pub none_made : (at : ℕ) (s : BookState) → IsMade at s [] s
unfolding CanMakeAll all_made all_given
none_made at s = record { makes = []; can = tt; gives = refl; book = refl }

last_can : (at : ℕ) (s : BookState) (cs : List Making) (c : Making) → CanMakeAll at s cs → CanMake (all_made at s cs) c
    → CanMakeAll at s (cs ++ c ∷ [])
unfolding CanMakeAll all_made
last_can at s [] c all own = (own, tt)
last_can at s (x ∷ cs) c all own = (all.0, last_can at (made at s x) cs c all.1 own)

last_made : (at : ℕ) (s : BookState) (cs : List Making) (c : Making)
    → all_made at s (cs ++ c ∷ []) ≡ made at (all_made at s cs) c
unfolding all_made
last_made at s [] c = refl
last_made at s (x ∷ cs) c = last_made at (made at s x) cs c

last_given : (at : ℕ) (s : BookState) (cs : List Making) (c : Making)
    → all_given at s (cs ++ c ∷ []) ≡ all_given at s cs ++ given (all_made at s cs) c
unfolding all_made all_given
last_given at s [] c = append-nil (given s c)
last_given at s (x ∷ cs) c =
    ap (λ (g : Answers). given s x ++ g) (last_given at (made at s x) cs c)
    ∙ sym (append_assoc (given s x) (all_given at (made at s x) cs) (given (all_made at (made at s x) cs) c))

pub one_made : (at : ℕ) (first : BookState) (g : Answers) (s : BookState) (c : Making) → IsMade at first g s
    → CanMake s c → IsMade at first (g ++ given s c) (made at s c)
one_made at first g s c l own = record {
  makes = l.makes ++ c ∷ [];
  can = last_can at first l.makes c l.can (subst (λ (t : BookState). CanMake t c) (sym l.book) own);
  gives = last_given at first l.makes c ∙ ap (λ (x : Answers). x ++ given (all_made at first l.makes) c) l.gives
      ∙ ap (λ (t : BookState). g ++ given t c) l.book;
  book = last_made at first l.makes c ∙ ap (λ (t : BookState). made at t c) l.book;
}

-- a book that calls end at
pub record IsEnded (at : ℕ) (first s : BookState) : Type 0 where
  pub ends : List Ending
  pub can : CanEndAll at first ends
  pub book : all_ended at first ends ≡ s

pub none_ended : (at : ℕ) (s : BookState) → IsEnded at s s
unfolding CanEndAll all_ended
none_ended at s = record { ends = []; can = tt; book = refl }

last_can_end : (at : ℕ) (s : BookState) (cs : List Ending) (c : Ending) → CanEndAll at s cs
    → CanEnd (all_ended at s cs) c → CanEndAll at s (cs ++ c ∷ [])
unfolding CanEndAll all_ended
last_can_end at s [] c all own = (own, tt)
last_can_end at s (x ∷ cs) c all own = (all.0, last_can_end at (ended at s x) cs c all.1 own)

last_ended : (at : ℕ) (s : BookState) (cs : List Ending) (c : Ending)
    → all_ended at s (cs ++ c ∷ []) ≡ ended at (all_ended at s cs) c
unfolding all_ended
last_ended at s [] c = refl
last_ended at s (x ∷ cs) c = last_ended at (ended at s x) cs c

pub one_ended : (at : ℕ) (first s : BookState) (c : Ending) → IsEnded at first s → CanEnd s c
    → IsEnded at first (ended at s c)
one_ended at first s c l own = record {
  ends = l.ends ++ c ∷ [];
  can = last_can_end at first l.ends c l.can (subst (λ (t : BookState). CanEnd t c) (sym l.book) own);
  book = last_ended at first l.ends c ∙ ap (λ (t : BookState). ended at t c) l.book;
}
