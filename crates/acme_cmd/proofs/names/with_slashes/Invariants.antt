use Rattle.std.proofs.Common.{◌≡◌, ◌++◌, drop}
use Rattle.std.specs.List.{flat_map, join_with_byte}
use Rattle.acme_cmd.proofs.Cuts.{after_slash}
use Rattle.acme_cmd.proofs.names.with_slashes.Given as goal

abbrev pub invariant-loop-part : goal.invariant-loop-part
invariant-loop-part l = l.text ++ flat_map after_slash (drop l.part-index l.others) ≡ join_with_byte 47 l.parts
