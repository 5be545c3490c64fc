use Rattle.std.proofs.Common.{◌≡◌, drop}
use Rattle.std.specs.List.{list_any}
use Rattle.am_server.specs.Ends.{wants_untold}
use Rattle.am_server.proofs.writing.any_wants_untold.Given as goal

abbrev pub invariant-loop-slot : goal.invariant-loop-slot
invariant-loop-slot g l = list_any wants_untold (drop l.slot-index l.slots) ≡ list_any wants_untold l.slots
