use Rattle.std.proofs.Common.{◌≡◌, ◌-◌, List, ℕ, take, length, length-drop, drop, refl, sym, subst, take_at, arith}
use Rattle.rune_gap.specs.Gap.{around}
use Rattle.rune_gap.specs.Marks.{size, IsMarkedBack}
use Rattle.rune_gap.proofs.Marked.{whole_side, to_side, from_side, fewer_back, plain_left, plain_right}
use Rattle.rune_gap.proofs.marks.Marks.note.Goals as goal

pub mark_front-requires-clause-plain : goal.mark_front-requires-clause-plain
mark_front-requires-clause-plain c p = plain_left (take c.args.gap.q0 c.args.buffer.now)
    (drop c.args.gap.q1 c.args.buffer.now) (c.requires.plain p)

pub mark_back-requires-clause-plain : goal.mark_back-requires-clause-plain
mark_back-requires-clause-plain c p =
    let buffer = c.args.buffer.now in
    subst (λ (s : List ℕ). size s ≡ length s) (sym (whole_side c.args.gap buffer c.requires.gap (length buffer) refl))
    (plain_right (take c.args.gap.q0 buffer) (drop c.args.gap.q1 buffer) (c.requires.plain p))

pub mark_back-requires-clause-marked : goal.mark_back-requires-clause-marked
mark_back-requires-clause-marked c =
    let buffer = c.args.buffer.now in
    let n = c.args.unchanged.end in
    let behind = subst (λ (m : List ℕ). IsMarkedBack m (around c.args.gap buffer) n)
    (sym c.as_mut_slice-2.ensures.value) c.requires.behind in
    subst (λ (s : List ℕ). IsMarkedBack c.as_mut_slice-2.result.now s n)
    (sym (whole_side c.args.gap buffer c.requires.gap (length buffer) refl))
    (to_side c.args.gap buffer c.requires.gap c.as_mut_slice-2.result.now n c.requires.end behind)

pub returns-clause-behind : goal.returns-clause-behind
returns-clause-behind c =
    let buffer = c.args.buffer.now in
    let new = c.mark_back.new.marks in
    let n = length buffer - c.args.gap.q1 in
    let whole = whole_side c.args.gap buffer c.requires.gap (length buffer) refl in
    let marked = subst (λ (s : List ℕ). IsMarkedBack new s (length s)) whole c.mark_back.ensures.marked in
    let few = fewer_back new (drop c.args.gap.q1 buffer) (length (drop c.args.gap.q1 buffer)) n
    (omega (arith, length-drop c.args.gap.q1 buffer)) marked in
    subst (λ (m : List ℕ). IsMarkedBack m (around c.args.gap buffer) n)
    (sym (take_at new _ c.args.self.now.behind.len (omega (
      arith,
      c.mark_back.ensures.length,
      c.as_mut_slice-2.ensures.len,
    ))))
    (from_side c.args.gap buffer c.requires.gap new n (omega arith) few)
