-- Windows after the deeds of actions.
use Rattle.std.proofs.Common.{◌≡◌, ℕ, ◌+◌, ◌-◌, ◌<◌, ◌≤◌, Bool, true, false, cond, eqb, ◌&&◌, List, [], ◌∷◌, ◌++◌}
use Rattle.std.proofs.Common.{length, take, drop, Option, Some, None, refl, sym, ap, subst, ◌∙◌, arith}
use Rattle.std.specs.Prelude.{IsSome}
use Rattle.std.specs.Option.{option_map}
use Rattle.std.proofs.lemmas.Bool.Decides.{nat_tests}
use Rattle.std.proofs.lemmas.List.{append-nil, length-append, length-take, length-drop}
use Rattle.am_text.specs.declared.range.Range.{Range}
use Rattle.edit_log.specs.declared.types.Edit.{Edit}
use Rattle.edit_log.specs.Edited.{text_after}
use Rattle.win_text.specs.Bodies.{null_range, IsInside, AreInRange}
use Rattle.core_addresses.specs.Data.{replacement}
use Rattle.core_windows.specs.Places.{at_place}
use Rattle.core_windows.specs.Possible.{text_in}
use Rattle.core_windows.specs.Windows.{Window, window_at, edited}
use Rattle.core_windows.proofs.Steps.{window_then, lives_then}
use Rattle.core_scene.proofs.Dids.{did_then}
use Rattle.core_actions.specs.Editing.{range_put}

-- ---- the window of a deed

pub still_lives : (f : Window → Window) (w : ℕ) (a b : List (Option Window)) → b ≡ at_place (option_map f) (w - 1) a
    → IsSome (window_at a w) → IsSome (window_at b w)
still_lives f w a b e h = subst (λ (ws : List (Option Window)). IsSome (window_at ws w)) (sym e) (lives_then f w a h)

text_edited : (es : List Edit) (at : ℕ) (o : Option Window) → IsSome o
    → text_in (option_map (edited es at) o) ≡ text_after (text_in o) es
text_edited es at None h = absurd cc
text_edited es at (Some w) h = refl

pub text_then : (es : List Edit) (at w : ℕ) (a b : List (Option Window))
    → b ≡ at_place (option_map (edited es at)) (w - 1) a → IsSome (window_at a w)
    → text_in (window_at b w) ≡ text_after (text_in (window_at a w)) es
text_then es at w a b e h =
    ap (λ (ws : List (Option Window)). text_in (window_at ws w)) e ∙ ap text_in (window_then (edited es at) w a)
    ∙ text_edited es at (window_at a w) h

-- ---- an edit in the place of a range

some_left : (a b n : ℕ) → a ≤ b → (eqb a b && eqb n 0) ≡ false → a < b + n
some_left a b n h e = grind (arith, nat_tests)

replaced_by : (t text : List ℕ) (r : Range) (b : Bool) → IsInside t r → (eqb r.q0 r.q1 && eqb (length text) 0) ≡ b
    → AreInRange t (cond b [] (record { q0 = r.q0; q1 = r.q1; text = text } ∷ []))
replaced_by t text r true i e = tt
replaced_by t text r false i e = (
  record {
    order = i.order;
    bounds = i.bounds;
    some = some_left r.q0 r.q1 (length text)
        i.order e;
  },
  tt,
)

pub replacing_in_range : (t text : List ℕ) (r : Range) → IsInside t r → AreInRange t (replacement r text)
replacing_in_range t text r i = replaced_by t text r (eqb r.q0 r.q1 && eqb (length text) 0) i refl

none_put : (a b n : ℕ) → (eqb a b && eqb n 0) ≡ true → n ≡ 0
none_put a b n e = grind (arith, nat_tests)

nil_of : (xs : List ℕ) → length xs ≡ 0 → [] ≡ xs
nil_of [] h = refl
nil_of (c ∷ xs) h = absurd (omega arith)

put_front : (text : List ℕ) (b : Bool) → (eqb 0 0 && eqb (length text) 0) ≡ b → text_after []
    (cond b [] (record { q0 = 0; q1 = 0; text = text } ∷ [])) ≡ text
put_front text true e = nil_of text (none_put 0 0 (length text) e)
put_front text false e = append-nil text

pub front_text : (text : List ℕ) → text_after [] (replacement null_range text) ≡ text
front_text text = put_front text (eqb 0 0 && eqb (length text) 0) refl

-- the text that was put lies in the text that is left
put_length : (t text : List ℕ) (q0 q1 : ℕ) → q0 ≤ q1 → q1 ≤ length t
    → q0 + length text ≤ length (take q0 t ++ text ++ drop q1 t)
put_length t text q0 q1 h k = simp (length-append, length-take, length-drop) (omega arith)

put_inside : (t text : List ℕ) (r : Range) (b : Bool) → IsInside t r → (eqb r.q0 r.q1 && eqb (length text) 0) ≡ b
    → IsInside (text_after t (cond b [] (record { q0 = r.q0; q1 = r.q1; text = text } ∷ []))) (range_put r text)
put_inside t text r true i e = let n : length text ≡ 0 = none_put r.q0 r.q1 (length text) e in
    record { order = omega arith; bounds = omega (arith, i.order, i.bounds) }
put_inside t text r false i e = record { order = omega arith; bounds = put_length t text r.q0 r.q1 i.order i.bounds }

pub range_put_inside : (t text : List ℕ) (r : Range) → IsInside t r
    → IsInside (text_after t (replacement r text)) (range_put r text)
range_put_inside t text r i = put_inside t text r (eqb r.q0 r.q1 && eqb (length text) 0) i refl

pub ruleset joins = (did_then)

pub ruleset editing = (did_then, replacing_in_range)

pub ruleset made = (did_then, replacing_in_range, front_text)

pub ruleset putting = (did_then, replacing_in_range, range_put_inside)
