-- The head of a message, and the choice of a reader by the type byte.
use Rattle.std.proofs.Common.{◌⊎◌, inl, inr, ◌≡◌, ℕ, ◌+◌, ◌^◌, ◌<◌, ◌≤◌, Bool, true, false, cond, eqb, ltb, eq-eqb}
use Rattle.std.proofs.Common.{List, [], ◌∷◌, ◌++◌, length, get_or, take, drop, Result, Ok, Err, refl, sym, ap, subst}
use Rattle.std.proofs.Common.{◌∙◌, arith}
use Rattle.std.specs.Int.{w16, w32, from_le_bytes, to_le_bytes}
use Rattle.std.proofs.lemmas.Bool.{eqb-true, ltb-false, le-ltb}
use Rattle.std.proofs.lemmas.List.{length-take, length-drop}
use Rattle.ninep_types.specs.declared.fault.WireFault.{WireFault}
use Rattle.ninep_types.specs.declared.fault.WireFault.TheVariants.{Size}
use Rattle.ninep_types.specs.Reading.{head_at, read_by}
use Rattle.ninep_types.specs.Spelling.{head, framed}
use Rattle.ninep_wire.proofs.FieldLaws.{IsBytes, IsBytes-take, IsBytes-drop, guard_else, guard_then, ok_is, wide16}
use Rattle.ninep_wire.proofs.FieldLaws.{wide32}

seven : (bytes : List ℕ) → 7 ≤ length bytes → bytes ≡ take 4 bytes
    ++ (get_or bytes 4 0 ∷ (take 2 (drop 5 bytes) ++ drop 7 bytes))
seven (a ∷ b ∷ c ∷ d ∷ e ∷ f ∷ g ∷ rest) h = refl
seven _ h = absurd (omega arith)

abbrev pub Head : List ℕ → ℕ × ℕ × List ℕ → Type 0
Head bytes x = (length x.2 + 7 ≡ length bytes) × (length bytes < 2 ^ 32) × (x.1 < 2 ^ 16) × IsBytes x.2
    × (bytes ≡ head (length bytes) x.0 x.1 ++ x.2)

pub head_takes : (bytes : List ℕ) (x : ℕ × ℕ × List ℕ) → IsBytes bytes → head_at bytes ≡ Ok x → Head bytes x
unfolding head_at
head_takes bytes x fits e =
    let made : ℕ × ℕ × List ℕ = (get_or bytes 4 0, from_le_bytes w16 (take 2 (drop 5 bytes)), drop 7 bytes) in
    let g = guard_else (ltb (length bytes) 7) Size (cond (eqb (from_le_bytes w32 (take 4 bytes)) (length bytes))
    (Ok made) (Err Size)) x e in
    let u = guard_then (eqb (from_le_bytes w32 (take 4 bytes)) (length bytes)) Size (Ok made) x g.1 in
    let long : 7 ≤ length bytes = ltb-false _ _ g.0 in
    let size : from_le_bytes w32 (take 4 bytes) ≡ length bytes = eqb-true _ _ u.0 in
    let front : to_le_bytes w32 (length bytes) ≡ take 4 bytes = ap (to_le_bytes w32) (sym size)
    ∙ wide32.back (take 4 bytes) (omega (arith, length-take 4 bytes)) (IsBytes-take 4 bytes fits) in
    let tag : to_le_bytes w16 made.1 ≡ take 2 (drop 5 bytes) = wide16.back (take 2 (drop 5 bytes))
    (omega (arith, length-take 2 (drop 5 bytes), length-drop 5 bytes))
    (IsBytes-take 2 (drop 5 bytes) (IsBytes-drop 5 bytes fits)) in
    let parts : bytes ≡ to_le_bytes w32 (length bytes) ++ (made.0 ∷ (to_le_bytes w16 made.1 ++ made.2)) =
    seven bytes long ∙ ap (λ (l : List ℕ). l ++ (made.0 ∷ (take 2 (drop 5 bytes) ++ made.2))) (sym front)
    ∙ ap (λ (l : List ℕ). to_le_bytes w32 (length bytes) ++ (made.0 ∷ (l ++ made.2))) (sym tag) in
    subst (Head bytes) (ok_is made x u.1) (
      omega (arith, length-drop 7 bytes),
      omega (arith, size, wide32.below (take 4 bytes) (IsBytes-take 4 bytes fits)),
      wide16.below (take 2 (drop 5 bytes)) (IsBytes-take 2 (drop 5 bytes) (IsBytes-drop 5 bytes fits)),
      IsBytes-drop 7 bytes fits,
      parts,
    )

chosen : {A : Type 0} (b c : Bool) (d : WireFault) (x y : A) → b ≡ false → c ≡ true → x ≡ y → cond b (Err d)
    (cond c (Ok x) (Err d)) ≡ Ok y
chosen true c d x y h k e = absurd cc
chosen false true d x y h k e = ap (λ z. Ok z) e
chosen false false d x y h k e = absurd cc

pub head_again : (kind tag : ℕ) (fields : List ℕ) → tag < 2 ^ 16 → 7 + length fields < 2 ^ 32
    → head_at (framed kind tag fields) ≡ Ok (kind, tag, fields)
unfolding head_at
head_again kind tag fields h k =
    let len : 7 + length fields ≡ length (framed kind tag fields) = omega arith in
    chosen _ _ Size _ (kind, tag, fields) (le-ltb (length (framed kind tag fields)) 7 (omega arith))
    (eq-eqb _ _ (wide32.again (7 + length fields) k ∙ len))
    (ap (λ (n : ℕ). (kind, n, fields)) (wide16.again tag h))

-- ---- the choice of a reader

chosen_by : {A : Type 0} (b : Bool) (p q r : A) → cond b p q ≡ r → ((b ≡ true) × (p ≡ r)) ⊎ ((b ≡ false) × (q ≡ r))
chosen_by true p q r e = inl (refl, e)
chosen_by false p q r e = inr (refl, e)

abbrev pub AllTake : {B : Type 0} → (ℕ → List ℕ → B → List ℕ → Type 0)
    → List (ℕ × (List ℕ → Result (B × List ℕ) WireFault)) → Type 0
AllTake {B} P [] = Unit {0}
AllTake {B} P (r ∷ rs) = ((bytes : List ℕ) (x : B × List ℕ) → IsBytes bytes → r.1 bytes ≡ Ok x → P r.0 bytes x.0 x.1)
    × AllTake P rs

pub read_by_takes : {B : Type 0} (P : ℕ → List ℕ → B → List ℕ → Type 0)
    (rs : List (ℕ × (List ℕ → Result (B × List ℕ) WireFault))) → AllTake P rs
    → (kind : ℕ) (bytes : List ℕ) (x : B × List ℕ) → IsBytes bytes → read_by rs kind bytes ≡ Ok x → P kind bytes x.0 x.1
read_by_takes P [] all kind bytes x fits e = absurd cc
read_by_takes P (r ∷ rs) all kind bytes x fits e =
    elim (chosen_by (eqb kind r.0) (r.1 bytes) (read_by rs kind bytes) (Ok x) e) [
      | inl h ↦ subst (λ (k : ℕ). P k bytes x.0 x.1) (sym (eqb-true kind r.0 h.0)) (all.0 bytes x fits h.1)
      | inr h ↦ read_by_takes P rs all.1 kind bytes x fits h.1
    ]
