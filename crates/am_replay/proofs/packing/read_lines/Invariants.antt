use Rattle.std.proofs.Common.{◌≡◌, ◌≤◌, ◌+◌, length}
use Rattle.std.specs.List.{AllByRecursion}
use Rattle.am_text.specs.Lines.{lines_of}
use Rattle.am_journal.specs.Lawful.{IsLawful, IsInRange}
use Rattle.am_replay.specs.Packing.{pack, packing_in}
use Rattle.am_replay.proofs.packing.read_lines.Given as goal

abbrev pub invariant-loop-rest : goal.invariant-loop-rest
invariant-loop-rest l = record {
  count : l.k + length l.rest ≤ length l.input + 2;
  read : pack l.journal l.k (lines_of l.rest) ≡ packing_in (lines_of l.input);
  lawful : AllByRecursion IsLawful l.journal.events;
  in_range : AllByRecursion IsInRange l.journal.events;
}

abbrev pub decreases-loop-rest : goal.decreases-loop-rest
decreases-loop-rest l = length l.rest
