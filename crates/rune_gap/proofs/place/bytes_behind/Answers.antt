use Rattle.std.proofs.Common.{◌*◌, ◌-◌, ◌/◌, ◌∙◌, length, arith}
use Rattle.rune_gap.proofs.Marked.{size_split, size_few}
use Rattle.rune_gap.proofs.place.bytes_behind.Goals as goal

pub overflow_add-result : goal.overflow_add-result
overflow_add-result c =
    let side = c.args.side.now in
    let strides = length side / 256 in
    let marked = c.noted.ensures ∙ c.requires.marked strides (omega arith) in
    omega (
      arith,
      marked,
      c.size.ensures.exact,
      size_split side (length side - strides * 256),
      size_few side,
      c.requires.small,
    )

pub returns : goal.returns
returns c =
    let side = c.args.side.now in
    let strides = length side / 256 in
    let marked = c.noted.ensures ∙ c.requires.marked strides (omega arith) in
    omega (arith, marked, c.size.ensures.exact, size_split side (length side - strides * 256))
