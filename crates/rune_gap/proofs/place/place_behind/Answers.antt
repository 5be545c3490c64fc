use Rattle.std.proofs.Common.{◌*◌, ◌+◌, ◌-◌, ◌∙◌, length, arith}
use Rattle.rune_gap.proofs.Marked.{size_split}
use Rattle.rune_gap.proofs.place.place_behind.Goals as goal

pub overflow_sub-result-2 : goal.overflow_sub-result-2
overflow_sub-result-2 c =
    let side = c.args.side.now in
    let n = c.strides_within-strides.result + 1 in
    let marked = c.noted.ensures ∙ c.requires.marked n (omega (
      arith,
      c.strides_within-strides.ensures.most,
      c.if-strides-most.false,
    )) in
    omega (arith, marked, c.bytes_behind-all.ensures, size_split side (length side - n * 256))

pub returns-clause-exact : goal.returns-clause-exact
returns-clause-exact c =
    let side = c.args.side.now in
    let n = c.strides_within-strides.result + 1 in
    let marked = c.noted.ensures ∙ c.requires.marked n (omega (
      arith,
      c.strides_within-strides.ensures.most,
      c.if-strides-most.false,
    )) in
    omega (arith, marked, c.bytes_behind-all.ensures, size_split side (length side - n * 256))
