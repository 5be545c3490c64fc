use Rattle.std.proofs.Common.{◌≡◌, ◌++◌, map, length}
use Rattle.core_scene.specs.declared.deed.Deed.TheVariants as deed
use Rattle.core_rules.proofs.Named.{texts}
use Rattle.core_rules.proofs.new_names.NewNames.deeds.Given as goal

-- the deeds so far, and those of the names that are left, are all
abbrev pub invariant-loop-rest : goal.invariant-loop-rest
invariant-loop-rest l = l.deeds ++ map deed.AddsPort (texts l.rest) ≡ map deed.AddsPort l.self

abbrev pub decreases-loop-rest : goal.decreases-loop-rest
decreases-loop-rest l = length l.rest
