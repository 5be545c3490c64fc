use Rattle.std.proofs.Common.{◌≡◌, ◌-◌, ◌+◌, ◌++◌, ◌≤◌, List, ℕ, length, length-append, length-drop, take, drop, sym}
use Rattle.std.proofs.Common.{subst, ap, take_at, arith, ◌∙◌}
use Rattle.am_text.specs.Room.{Room}
use Rattle.rune_gap.specs.Gap.{around}
use Rattle.rune_gap.specs.Marks.{size, IsMarked, IsMarkedBack}
use Rattle.rune_gap.proofs.Gaps.{wider, length-around}
use Rattle.rune_gap.proofs.Marked.{front_after, back_after, plain_after}
use Rattle.rune_gap.proofs.text.RuneText.replace_at_gap.Goals as goal

pub note-requires-clause-end : goal.note-requires-clause-end
note-requires-clause-end c =
    let len = c.self.inside.buffer.len in
    let two = c.filled-self-inside.new.buffer in
    let second : c.as_slice.result.now ≡ two = c.as_slice.ensures.value ∙ take_at two _ len
    (omega (arith, c.filled-self-inside.ensures.length, c.as_mut_slice-2.ensures.len)) in
    let old = length-around c.self.inside.gap c.self.inside.buffer.items c.self.invariant.kept.placed in
    let same = ap (λ (r : Room ℕ). length r.items) c.self.view_is in
    let first = ap (λ (x : List ℕ). length x) c.as_mut_slice.ensures.value in
    omega (
      arith,
      old,
      same,
      first,
      ap (λ (x : List ℕ). length x) second,
      c.len.ensures,
      c.min-2.ensures,
      c.moved-gap.ensures.begins,
      c.moved-gap.ensures.width,
      c.moved-gap.ensures.gap.order,
      c.filled-self-inside.ensures.ends,
      c.filled-self-inside.ensures.length,
      c.as_mut_slice-2.ensures.len,
      c.as_mut_slice.ensures.len,
      c.requires.order,
      c.requires.bounds,
      c.self.invariant.kept.placed.order,
      c.self.invariant.kept.placed.within,
    )

pub note-requires-clause-before : goal.note-requires-clause-before
note-requires-clause-before c =
    let len = c.self.inside.buffer.len in
    let text = c.args.text.now in
    let one = c.moved-gap.new.buffer in
    let two = c.filled-self-inside.new.buffer in
    let first : c.as_mut_slice-2.result.now ≡ one = c.as_mut_slice-2.ensures.value ∙ take_at one _ len
    (omega (arith, c.moved-gap.ensures.length, c.as_mut_slice.ensures.len)) in
    let second : c.as_slice.result.now ≡ two = c.as_slice.ensures.value ∙ take_at two _ len
    (omega (arith, c.filled-self-inside.ensures.length, c.as_mut_slice-2.ensures.len)) in
    let view = ap (λ (r : Room ℕ). r.items) c.self.view_is in
    let same = c.moved-gap.ensures.text ∙ ap (around c.self.inside.gap) c.as_mut_slice.ensures.value ∙ view in
    let new = ap (around c.filled-self-inside.result) second ∙ c.filled-self-inside.ensures.text
    ∙ ap (λ (x : List ℕ). take c.args.q0 x ++ text ++ drop (c.moved-gap.result.q1 + (c.args.q1 - c.args.q0)) x) first
    ∙ wider one c.moved-gap.result c.moved-gap.ensures.gap c.args.q0 c.args.q1 c.moved-gap.ensures.begins
    c.requires.order text
    ∙ ap (λ (x : List ℕ). take c.args.q0 x ++ text ++ drop c.args.q1 x) same in
    let marks = c.self.inside.marks.before.items in
    let before = subst (λ (x : List ℕ). IsMarked marks x c.self.inside.gap.q0) view c.self.invariant.kept.before_gap in
    subst (λ (x : List ℕ). IsMarked marks x c.min.result) (sym new)
    (front_after marks c.args.self.now.items text c.args.q0 c.args.q1 c.self.inside.gap.q0 c.min.result
    (omega (arith, c.requires.order, c.requires.bounds)) (omega (arith, c.min.ensures))
    (omega (arith, c.min.ensures)) before)

pub note-requires-clause-behind : goal.note-requires-clause-behind
note-requires-clause-behind c =
    let len = c.self.inside.buffer.len in
    let text = c.args.text.now in
    let one = c.moved-gap.new.buffer in
    let two = c.filled-self-inside.new.buffer in
    let first : c.as_mut_slice-2.result.now ≡ one = c.as_mut_slice-2.ensures.value ∙ take_at one _ len
    (omega (arith, c.moved-gap.ensures.length, c.as_mut_slice.ensures.len)) in
    let second : c.as_slice.result.now ≡ two = c.as_slice.ensures.value ∙ take_at two _ len
    (omega (arith, c.filled-self-inside.ensures.length, c.as_mut_slice-2.ensures.len)) in
    let view = ap (λ (r : Room ℕ). r.items) c.self.view_is in
    let same = c.moved-gap.ensures.text ∙ ap (around c.self.inside.gap) c.as_mut_slice.ensures.value ∙ view in
    let new = ap (around c.filled-self-inside.result) second ∙ c.filled-self-inside.ensures.text
    ∙ ap (λ (x : List ℕ). take c.args.q0 x ++ text ++ drop (c.moved-gap.result.q1 + (c.args.q1 - c.args.q0)) x) first
    ∙ wider one c.moved-gap.result c.moved-gap.ensures.gap c.args.q0 c.args.q1 c.moved-gap.ensures.begins
    c.requires.order text
    ∙ ap (λ (x : List ℕ). take c.args.q0 x ++ text ++ drop c.args.q1 x) same in
    let marks = c.self.inside.marks.behind.items in
    let n = length c.self.inside.buffer.items - c.self.inside.gap.q1 in
    let behind = subst (λ (x : List ℕ). IsMarkedBack marks x n) view c.self.invariant.kept.behind_gap in
    let fits : n ≤ length c.args.self.now.items = omega (
      arith,
      ap (λ (x : List ℕ). length x) view,
      length-append (take c.self.inside.gap.q0 c.self.inside.buffer.items)
          (drop c.self.inside.gap.q1 c.self.inside.buffer.items),
      length-drop c.self.inside.gap.q1
          c.self.inside.buffer.items,
    ) in
    subst (λ (x : List ℕ). IsMarkedBack marks x c.min-2.result) (sym new)
    (back_after marks c.args.self.now.items text c.args.q0 c.args.q1 n c.min-2.result c.requires.bounds fits
    (omega (arith, c.min-2.ensures, c.len.ensures)) (omega (arith, c.min-2.ensures, c.len-2.ensures)) behind)

pub note-requires-clause-plain : goal.note-requires-clause-plain
note-requires-clause-plain c p =
    let len = c.self.inside.buffer.len in
    let text = c.args.text.now in
    let one = c.moved-gap.new.buffer in
    let two = c.filled-self-inside.new.buffer in
    let first : c.as_mut_slice-2.result.now ≡ one = c.as_mut_slice-2.ensures.value ∙ take_at one _ len
    (omega (arith, c.moved-gap.ensures.length, c.as_mut_slice.ensures.len)) in
    let second : c.as_slice.result.now ≡ two = c.as_slice.ensures.value ∙ take_at two _ len
    (omega (arith, c.filled-self-inside.ensures.length, c.as_mut_slice-2.ensures.len)) in
    let view = ap (λ (r : Room ℕ). r.items) c.self.view_is in
    let same = c.moved-gap.ensures.text ∙ ap (around c.self.inside.gap) c.as_mut_slice.ensures.value ∙ view in
    let new = ap (around c.filled-self-inside.result) second ∙ c.filled-self-inside.ensures.text
    ∙ ap (λ (x : List ℕ). take c.args.q0 x ++ text ++ drop (c.moved-gap.result.q1 + (c.args.q1 - c.args.q0)) x) first
    ∙ wider one c.moved-gap.result c.moved-gap.ensures.gap c.args.q0 c.args.q1 c.moved-gap.ensures.begins
    c.requires.order text
    ∙ ap (λ (x : List ℕ). take c.args.q0 x ++ text ++ drop c.args.q1 x) same in
    let known = c.stays_plain-self-inside.ensures p in
    let before = subst (λ (x : List ℕ). size x ≡ length x) view (c.self.invariant.kept.is_plain known.0) in
    subst (λ (x : List ℕ). size x ≡ length x) (sym new) (plain_after c.args.self.now.items text c.args.q0 c.args.q1
    before known.1)

pub returns-clause-items : goal.returns-clause-items
returns-clause-items c =
    let len = c.self.inside.buffer.len in
    let text = c.args.text.now in
    let one = c.moved-gap.new.buffer in
    let two = c.filled-self-inside.new.buffer in
    let first : c.as_mut_slice-2.result.now ≡ one = c.as_mut_slice-2.ensures.value ∙ take_at one _ len
    (omega (arith, c.moved-gap.ensures.length, c.as_mut_slice.ensures.len)) in
    let second : take len (two ++ _) ≡ two = take_at two _ len (omega (
      arith,
      c.filled-self-inside.ensures.length,
      c.as_mut_slice-2.ensures.len,
    )) in
    let same = c.moved-gap.ensures.text ∙ ap (around c.self.inside.gap) c.as_mut_slice.ensures.value
    ∙ ap (λ (r : Room ℕ). r.items) c.self.view_is in
    ap (around c.filled-self-inside.result) second ∙ c.filled-self-inside.ensures.text
    ∙ ap (λ (x : List ℕ). take c.args.q0 x ++ text ++ drop (c.moved-gap.result.q1 + (c.args.q1 - c.args.q0)) x) first
    ∙ wider one c.moved-gap.result c.moved-gap.ensures.gap c.args.q0 c.args.q1 c.moved-gap.ensures.begins
    c.requires.order text
    ∙ ap (λ (x : List ℕ). take c.args.q0 x ++ text ++ drop c.args.q1 x) same
