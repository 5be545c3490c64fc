use Rattle.std.proofs.Common.{◌≡◌, ◌≤◌, ◌+◌, length, drop}
use Rattle.rule_syntax.specs.Cutting.{IsScanOf}
use Rattle.rule_syntax.proofs.cutting.Scan.go_on.Given as goal

abbrev pub invariant-loop-rest : goal.invariant-loop-rest
invariant-loop-rest l = record {
  scan : IsScanOf l.scan l.text;
  rest : l.rest ≡ drop l.scan.at l.text;
  here : l.scan.at + length l.rest ≡ length l.text;
}

abbrev pub decreases-loop-rest : goal.decreases-loop-rest
decreases-loop-rest l = length l.rest
