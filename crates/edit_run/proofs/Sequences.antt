-- Changes inside a text are at fault only where they aren't in sequence.
use Rattle.std.proofs.Common.{◌≡◌, ℕ, ◌+◌, ◌<◌, ◌≤◌, ◌⊎◌, true, false, ltb, leb, List, [], ◌∷◌, Some, None, Err, refl}
use Rattle.std.proofs.Common.{inl, inr, arith}
use Rattle.std.proofs.lemmas.Bool.{cases_lt, le-leb}
use Rattle.std.proofs.lemmas.Bool.Decides.{nat_tests}
use Rattle.edit_log.specs.declared.types.Edit.{Edit}
use Rattle.edit_log.specs.declared.types.SpliceFault.TheVariants as fault
use Rattle.edit_log.specs.Splices.{is_inside, first_fault_from}
use Rattle.edit_run.specs.Within.{AreChangesOf}
use Rattle.edit_run.specs.declared.fault.EditFault.TheVariants.{Sequence}
use Rattle.edit_run.specs.Plan.{are_in_sequence, edits_of}

abbrev Told : ℕ → ℕ → ℕ → List Edit → Type 0
Told len end k cs =
    ((first_fault_from len end k cs ≡ None) × (are_in_sequence end cs ≡ true))
    ⊎ ((n : ℕ) × (first_fault_from len end k cs ≡ Some (fault.Sequence n)) × (are_in_sequence end cs ≡ false))

inside_is : (len : ℕ) (c : Edit) → c.q0 ≤ c.q1 → c.q1 ≤ len → is_inside len c ≡ true
inside_is len c a b = grind (arith, nat_tests)

not_early : (a b : ℕ) → b ≤ a → ltb a b ≡ false
not_early a b h = grind (arith, nat_tests)

early : (a b : ℕ) → a < b → (ltb a b ≡ true) × (leb b a ≡ false)
early a b h = (grind (arith, nat_tests), grind (arith, nat_tests))

pub told_by : (len end k : ℕ) (cs : List Edit) → AreChangesOf len cs → Told len end k cs
told_by len end k [] h = inl (refl, refl)
told_by len end k (c ∷ cs) h = elim (cases_lt c.q0 end) [
  | inl o ↦ let a = early c.q0 end o in inr (k, rw a.0 refl, rw a.1 refl)
  | inr o ↦
      let a = not_early c.q0 end o in
      let b = inside_is len c h.0 h.1 in
      let d = le-leb end c.q0 o in
      elim (told_by len c.q1 (k + 1) cs h.2) [
        | inl both ↦ inl (rw (a, b) both.0, rw d both.1)
        | inr some ↦ inr (some.0, rw (a, b) some.1, rw d some.2)
      ]
]

pub no_range : (len k : ℕ) (cs : List Edit) → AreChangesOf len cs → first_fault_from len 0 0 cs ≡ Some (fault.Range k)
    → ⊥
no_range len k cs h e = elim (told_by len 0 0 cs h) [
  | inl both ↦ let none = both.0 in cc
  | inr some ↦ let other = some.1 in cc
]

pub at_fault : (len k : ℕ) (cs : List Edit) → AreChangesOf len cs → first_fault_from len 0 0
    cs ≡ Some (fault.Sequence k) → edits_of cs ≡ Err Sequence
at_fault len k cs h e = elim (told_by len 0 0 cs h) [
  | inl both ↦ let none = both.0 in absurd (cc)
  | inr some ↦ rw some.2 refl
]

pub faultless : (len : ℕ) (cs : List Edit) → AreChangesOf len cs → first_fault_from len 0 0 cs ≡ None →
    are_in_sequence 0 cs ≡ true
faultless len cs h e = elim (told_by len 0 0 cs h) [
  | inl both ↦ both.1
  | inr some ↦ let other = some.1 in absurd (cc)
]
