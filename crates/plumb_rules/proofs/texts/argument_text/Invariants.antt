use Rattle.std.proofs.Common.{◌≡◌, take}
use Rattle.plumb_rules.specs.Texts.{argument_text}
use Rattle.plumb_rules.proofs.texts.argument_text.Given as goal

abbrev pub invariant-loop-piece : goal.invariant-loop-piece
invariant-loop-piece l = l.text ≡ argument_text l.state (take l.piece-index l.pieces)
