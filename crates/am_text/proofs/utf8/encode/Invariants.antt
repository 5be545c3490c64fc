use Rattle.std.proofs.Common.{◌≡◌, take}
use Rattle.am_text.specs.Utf8.{utf8}
use Rattle.am_text.proofs.utf8.encode.Given as goal

abbrev pub invariant-loop-i : goal.invariant-loop-i
invariant-loop-i g l = l.bytes ≡ utf8 (take l.i (g.T.Letters.letters l.text))
