use Rattle.std.proofs.Common.{take_all, ◌∙◌, arith}
use Rattle.rune_gap.proofs.Narrow.{own_bytes}
use Rattle.rune_gap.proofs.marks.plain_bytes.Goals as goal

pub returns : goal.returns
returns c =
    let text = c.args.text.now in
    c.loop-rune.invariant ∙ take_all c.loop-rune.rune-index text (omega (
      arith,
      c.loop-rune-test.false,
      c.loop-rune.auto.rune-index-end,
    )) ∙ own_bytes text c.requires
