use Rattle.std.proofs.Common.{◌≡◌, Some}
use Rattle.std.specs.Prelude.{slice_range}
use Rattle.am_text.specs.Number.{number_after}
use Rattle.addr_syntax.proofs.scan.number.Given as goal

abbrev pub invariant-loop-at : goal.invariant-loop-at
invariant-loop-at l = number_after 0 (slice_range l.text l.from l.at) ≡ Some l.n
