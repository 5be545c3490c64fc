use Rattle.std.proofs.Common.{◌≡◌, ◌≤◌, take}
use Rattle.std.specs.List.{concat, flat_map}
use Rattle.am_base.specs.Seen.{seen}
use Rattle.am_base.specs.Written.{IsWhole}
use Rattle.am_journal.specs.Sections.{section_parts, sections}
use Rattle.am_server.proofs.texts.put_view.Given as goal

abbrev pub invariant-loop-section : goal.invariant-loop-section
invariant-loop-section g l = record {
  all : l.section-items ≡ sections;
  put : IsWhole (seen (g.O.Sink.told l.fn.output) (g.O.Sink.told l.output))
      (concat (flat_map (section_parts l.view) (take l.section-index l.section-items)));
  later : (g.O.Sink.told l.fn.output).faults ≤ (g.O.Sink.told l.output).faults;
}
