use Rattle.std.proofs.Common.{◌≡◌, ◌∷◌, take}
use Rattle.std.specs.List.{flat_map}
use Rattle.plumb_msg.specs.Spelling.{doubled}
use Rattle.plumb_msg.proofs.writing.quoted.Given as goal

abbrev pub invariant-loop-b : goal.invariant-loop-b
invariant-loop-b l = l.text ≡ 39 ∷ flat_map doubled (take l.b-index l.value)
