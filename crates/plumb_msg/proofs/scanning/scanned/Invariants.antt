use Rattle.std.proofs.Common.{◌≡◌, drop}
use Rattle.plumb_msg.specs.Attributes.{scan}
use Rattle.plumb_msg.proofs.scanning.scanned.Given as goal

abbrev pub invariant-loop-b : goal.invariant-loop-b
invariant-loop-b l = scan l.scan (drop l.b-index l.bytes) ≡ scan l.fn.from l.bytes
