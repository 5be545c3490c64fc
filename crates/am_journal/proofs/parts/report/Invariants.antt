use Rattle.std.proofs.Common.{◌≡◌, take}
use Rattle.std.specs.List.{concat, flat_map}
use Rattle.am_journal.specs.Sections.{sections, section_parts}
use Rattle.am_journal.proofs.parts.report.Given as goal

abbrev pub invariant-loop-section : goal.invariant-loop-section
invariant-loop-section l = record {
  all : l.section-items ≡ sections;
  out : l.out ≡ concat (flat_map (section_parts l.view) (take l.section-index l.section-items));
}
