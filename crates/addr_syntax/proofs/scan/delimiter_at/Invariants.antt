use Rattle.std.proofs.Common.{◌≡◌, ◌+◌, false, drop}
use Rattle.addr_syntax.specs.Scan.{body_length}
use Rattle.addr_syntax.proofs.scan.delimiter_at.Given as goal

abbrev pub invariant-loop-at : goal.invariant-loop-at
invariant-loop-at l = l.from + body_length l.delimiter false (drop l.from l.text) ≡ l.at + body_length l.delimiter
    l.escaped (drop l.at l.text)
