use Rattle.std.proofs.Common.{◌≡◌, ◌≤◌, ◌+◌, length}
use Rattle.am_text.specs.Lines.{lines_of}
use Rattle.am_do.specs.Lines.{lines_from}
use Rattle.am_do.specs.Lawful.{AreLawful}
use Rattle.am_do.proofs.Read.{onto_all}
use Rattle.am_do.proofs.reading.read_do_lines.Given as goal

abbrev pub invariant-loop-rest : goal.invariant-loop-rest
invariant-loop-rest l = record {
  count : l.k + length l.rest ≤ length l.input + 1;
  read : onto_all l.lines (lines_from l.k (lines_of l.rest)) ≡ lines_from 1 (lines_of l.input);
  lawful : AreLawful l.lines;
}

abbrev pub decreases-loop-rest : goal.decreases-loop-rest
decreases-loop-rest l = length l.rest
