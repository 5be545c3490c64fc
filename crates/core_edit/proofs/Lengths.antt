-- How long a text is after edits, and the ranges of edits.
use Rattle.std.proofs.Common.{◌≡◌, ℕ, ◌+◌, ◌-◌, ◌<◌, ◌≤◌, Bool, true, false, eqb, ◌&&◌, List, [], ◌∷◌, ◌++◌, length}
use Rattle.std.proofs.Common.{take, drop, refl, sym, ap, subst, ◌∙◌, arith}
use Rattle.std.proofs.lemmas.Bool.Decides.{nat_tests}
use Rattle.std.proofs.lemmas.List.{length-append, length-take, length-drop}
use Rattle.edit_log.specs.declared.types.Edit.{Edit}
use Rattle.edit_log.specs.Edited.{after, text_after}
use Rattle.edit_log.specs.Splices as splices
use Rattle.sam_address.specs.Value as sam
use Rattle.am_text.specs.declared.range.Range.{Range}
use Rattle.win_text.specs.Bodies.{IsInside, IsEditOf, AreInRange}
use Rattle.edit_run.specs.declared.types.EditPlan.{EditPlan}
use Rattle.core_edit.specs.Plans.{IsPlanOf, length_with, length_after}

-- ---- how long a text gets

cut_length : (t text : List ℕ) (q0 q1 : ℕ) → q0 ≤ q1 → q1 ≤ length t
    → length (take q0 t ++ text ++ drop q1 t) ≡ length t - (q1 - q0) + length text
cut_length t text q0 q1 h k = simp (length-append, length-take, length-drop) (omega arith)

pub length_of_after : (t : List ℕ) (es : List Edit) → AreInRange t es
    → length (text_after t es) ≡ length_after (length t) es
length_of_after t [] h = refl
length_of_after t (e ∷ es) h =
    length_of_after (after t e) es h.1 ∙ ap (λ (n : ℕ). length_after n es)
    (cut_length t e.text e.q0 e.q1 h.0.order h.0.bounds)

-- ---- the ranges of edits

some_left : (a b n : ℕ) → a ≤ b → (eqb a b && eqb n 0) ≡ false → a < b + n
some_left a b n h e = grind (arith, nat_tests)

are_in_range : (t : List ℕ) (es : List Edit) → splices.AreInRange t es → AreInRange t es
are_in_range t [] h = tt
are_in_range t (e ∷ es) h = (
  record { order = h.0; bounds = h.1; some = some_left e.q0 e.q1 (length e.text) h.0 h.2 },
  are_in_range (after t e) es h.3,
)

is_inside : (t : List ℕ) (r : Range) → sam.IsInside t r → IsInside t r
is_inside t r h = record { order = h.order; bounds = h.within }

pub is_inside_too : (t : List ℕ) (r : Range) → IsInside t r → sam.IsInside t r
is_inside_too t r h = record { order = h.order; within = h.bounds }

-- what is known of a plan of edit_run
pub is_plan : (t : List ℕ) (plan : EditPlan) → splices.AreInRange t plan.edits
    → sam.IsInside (text_after t plan.edits) plan.dot → IsPlanOf t plan
is_plan t plan edits dot = record {
  edits = are_in_range t plan.edits edits;
  dot = is_inside (text_after t plan.edits)
      plan.dot dot;
}

pub ruleset lengths = (length_of_after)

pub ruleset ranges = (is_inside_too)
