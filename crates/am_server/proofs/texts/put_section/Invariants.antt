use Rattle.std.proofs.Common.{◌≤◌, take}
use Rattle.std.specs.List.{concat}
use Rattle.am_base.specs.Seen.{seen}
use Rattle.am_base.specs.Written.{IsWhole}
use Rattle.am_journal.specs.Sections.{section_parts}
use Rattle.am_server.proofs.texts.put_section.Given as goal

abbrev pub invariant-loop-at : goal.invariant-loop-at
invariant-loop-at g l = record {
  put : IsWhole (seen (g.O.Sink.told l.fn.output) (g.O.Sink.told l.output))
      (concat (take l.at (section_parts l.view l.section)));
  later : (g.O.Sink.told l.fn.output).faults ≤ (g.O.Sink.told l.output).faults;
}
