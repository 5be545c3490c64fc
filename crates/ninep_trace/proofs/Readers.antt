-- The choice of a reader by the name.
use Rattle.std.proofs.Common.{◌⊎◌, inl, inr, ◌≡◌, ℕ, Bool, true, false, cond, List, [], ◌∷◌, Option, Some, refl, sym}
use Rattle.std.proofs.Common.{subst}
use Rattle.std.specs.Str.{bytes_eq}
use Rattle.std.proofs.lemmas.Slice.Eq.{bytes_eq-Decides}
use Rattle.ninep_trace.specs.Reading.{read_by}

chosen_by : {A : Type 0} (b : Bool) (p q r : A) → cond b p q ≡ r → ((b ≡ true) × (p ≡ r)) ⊎ ((b ≡ false) × (q ≡ r))
chosen_by true p q r e = inl (refl, e)
chosen_by false p q r e = inr (refl, e)

abbrev pub AllTake : {B : Type 0} → (List ℕ → List ℕ → B → List ℕ → Type 0)
    → List (List ℕ × (List ℕ → Option (B × List ℕ))) → Type 0
AllTake {B} P [] = Unit {0}
AllTake {B} P (r ∷ rs) = ((bytes : List ℕ) (x : B × List ℕ) → r.1 bytes ≡ Some x → P r.0 bytes x.0 x.1) × AllTake P rs

pub read_by_takes : {B : Type 0} (P : List ℕ → List ℕ → B → List ℕ → Type 0)
    (rs : List (List ℕ × (List ℕ → Option (B × List ℕ)))) → AllTake P rs → (name bytes : List ℕ) (x : B × List ℕ)
    → read_by rs name bytes ≡ Some x → P name bytes x.0 x.1
read_by_takes P [] all name bytes x e = absurd cc
read_by_takes P (r ∷ rs) all name bytes x e =
    elim (chosen_by (bytes_eq name r.0) (r.1 bytes) (read_by rs name bytes) (Some x) e) [
      | inl h ↦ subst (λ (k : List ℕ). P k bytes x.0 x.1) (sym ((bytes_eq-Decides name r.0).0 h.0)) (all.0 bytes x h.1)
      | inr h ↦ read_by_takes P rs all.1 name bytes x h.1
    ]
