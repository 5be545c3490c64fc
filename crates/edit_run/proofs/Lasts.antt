-- Dot after the last of some edits.
use Rattle.std.proofs.Common.{◌≡◌, ℕ, suc, ◌+◌, ◌-◌, ◌<◌, ◌≤◌, List, [], ◌∷◌, ◌++◌, length, get_or, take, drop, refl}
use Rattle.std.proofs.Common.{sym, ap, ◌∙◌, arith}
use Rattle.std.proofs.lemmas.List.{length-append, length-take-le}
use Rattle.am_text.specs.declared.range.Range.{Range}
use Rattle.edit_log.specs.declared.types.Edit.{Edit}
use Rattle.edit_log.specs.Edited.{after, text_after}
use Rattle.edit_log.specs.Splices.{AreInRange}
use Rattle.sam_address.specs.Value.{IsInside}
use Rattle.edit_run.specs.Plan.{dot_after}

abbrev put_range : Edit → Range
put_range e = record { q0 = e.q0; q1 = e.q0 + length e.text }

pub last_put : (dot : Range) (es : List Edit) (d : Edit) → 0 < length es
    → dot_after dot es ≡ put_range (get_or es (length es - 1) d)
last_put dot [] d l = absurd (omega arith)
last_put dot (e ∷ []) d l = refl
last_put dot (e ∷ f ∷ es) d l =
    let same : length (e ∷ f ∷ es) - 1 ≡ suc (length (f ∷ es) - 1) = omega arith in
    last_put (put_range e) (f ∷ es) d (omega arith) ∙ sym (ap (λ (k : ℕ). put_range (get_or (e ∷ f ∷ es) k d)) same)

put_inside : (t : List ℕ) (e : Edit) → e.q0 ≤ e.q1 → e.q1 ≤ length t → IsInside (after t e) (put_range e)
put_inside t e o w =
    let front : length (take e.q0 t) ≡ e.q0 = length-take-le e.q0 t (omega arith) in
    let all = length-append (take e.q0 t ++ e.text) (drop e.q1 t) in
    let most = length-append (take e.q0 t) e.text in
    record { order = omega arith; within = omega arith }

pub dot_inside : (t : List ℕ) (dot : Range) (es : List Edit) → IsInside t dot → AreInRange t es
    → IsInside (text_after t es) (dot_after dot es)
dot_inside t dot [] h r = h
dot_inside t dot (e ∷ es) h r = dot_inside (after t e) (put_range e) es (put_inside t e r.0 r.1) r.3
