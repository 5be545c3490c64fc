use Rattle.std.proofs.Common.{◌≡◌, ◌≤◌, Some}
use Rattle.std.specs.Prelude.{slice_range}
use Rattle.re_syntax.specs.Read.{Reading, begin, reads, Follows}
use Rattle.re_syntax.proofs.parser.parse_re.Given as goal

-- what was read so far leads to a reading, and the parser follows it
abbrev pub invariant-loop-at : goal.invariant-loop-at
invariant-loop-at l =
    (m : Reading) × (reads (Some (begin l.stop)) (slice_range l.text l.from l.at) ≡ Some m) × Follows l.parser m
    × (m.scanner.depth ≤ l.at)
