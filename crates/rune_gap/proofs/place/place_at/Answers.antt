use Rattle.std.proofs.Common.{◌-◌, ◌∙◌, List, ℕ, length, length-drop, take, drop, refl, sym, ap, subst, arith}
use Rattle.rune_gap.specs.Gap.{around}
use Rattle.rune_gap.specs.Marks.{size, IsMarkedBack}
use Rattle.rune_gap.proofs.Marked.{whole_side, to_side, fewer_back, size_behind}
use Rattle.rune_gap.proofs.place.place_at.Goals as goal

pub place_behind-place-requires-clause-marked : goal.place_behind-place-requires-clause-marked
place_behind-place-requires-clause-marked c =
    let buffer = c.args.buffer.now in
    let side = drop c.args.gap.q1 buffer in
    let marks = c.as_slice-2.result.now in
    let n = length buffer - c.args.gap.q1 in
    let behind = subst (λ (m : List ℕ). IsMarkedBack m (around c.args.gap buffer) n) (sym c.as_slice-2.ensures.value)
    c.requires.behind_gap in
    let marked = to_side c.args.gap buffer c.requires.placed marks n (omega arith) behind in
    subst (λ (s : List ℕ). IsMarkedBack marks s (length s)) (sym (whole_side c.args.gap buffer c.requires.placed
    (length buffer) refl))
    (fewer_back marks side n (length side) (omega (arith, length-drop c.args.gap.q1 buffer)) marked)

pub returns-clause-exact : goal.returns-clause-exact
returns-clause-exact c =
    let buffer = c.args.buffer.now in
    let runes = c.place_behind-place.result.runes in
    let whole = whole_side c.args.gap buffer c.requires.placed (length buffer) refl in
    let place = c.place_behind-place.ensures.exact ∙ ap (λ (s : List ℕ). size (take runes s)) whole in
    omega (arith, c.bytes_before-before.ensures, place, size_behind c.args.gap buffer c.requires.placed runes)
