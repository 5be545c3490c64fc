-- A text that is put at the end, and how long a text is then.
use Rattle.std.proofs.Common.{◌≡◌, ℕ, ◌+◌, ◌-◌, ◌*◌, ◌≤◌, List, ◌++◌, length, take, drop, ap, sym, ◌∙◌, length-append}
use Rattle.std.proofs.Common.{length-drop, length-take-le, take_all, arith}
use Rattle.std.proofs.lemmas.List.{append-nil, drop_all}
use Rattle.rune_gap.specs.Marks.{stride, size, noted, IsMarkedBack}

pub at_end : (items text : List ℕ) (q0 q1 : ℕ) → q0 ≡ length items → q0 ≤ q1 → q1 ≤ length items
    → items ++ text ≡ take q0 items ++ text ++ drop q1 items
at_end items text q0 q1 e le within =
    sym (ap (λ (x : List ℕ). x ++ text ++ drop q1 items) (take_all q0 items (omega (arith, e)))
    ∙ ap (λ (x : List ℕ). items ++ text ++ x) (drop_all q1 items (omega (arith, e, le)))
    ∙ append-nil (items ++ text))

-- what is put and what is left of the room are as long as what was cut and the room that was there
pub total_after : (items text new : List ℕ) (q0 q1 was left : ℕ) → q0 ≤ q1 → q1 ≤ length items
    → length text ≤ was + (q1 - q0)
    → new ≡ take q0 items ++ text ++ drop q1 items → left ≡ was + (q1 - q0) - length text
    → length new + left ≡ length items + was
total_after items text new q0 q1 was left le within room e l =
    omega (
      arith,
      ap (λ (x : List ℕ). length x) e,
      length-append (take q0 items ++ text) (drop q1 items),
      length-append (take q0 items) text,
      length-take-le q0 items (omega (arith, le, within)),
      length-drop q1 items,
      le,
      within,
      room,
      l,
    )

-- of no runes nothing is noted
pub none_back : (marks text : List ℕ) → IsMarkedBack marks text 0
none_back marks text k le =
    let none : k ≡ 0 = omega (arith, le) in
    ap (noted marks) none ∙ ap (λ (l : List ℕ). size l) (sym (drop_all (length text - k * stride) text
    (omega (arith, none))))

pub ruleset ends = (at_end, total_after)
