use Rattle.std.proofs.Common.{◌≡◌, drop}
use Rattle.std.specs.List.{list_any}
use Rattle.am_server.specs.Texts.{has_failed}
use Rattle.am_server.proofs.writing.any_failed.Given as goal

abbrev pub invariant-loop-slot : goal.invariant-loop-slot
invariant-loop-slot g l = list_any has_failed (drop l.slot-index l.slots) ≡ list_any has_failed l.slots
