use Rattle.std.proofs.Common.{◌≡◌, ◌++◌, take}
use Rattle.std.specs.List.{concat}
use Rattle.am_journal.specs.Sections.{section_parts}
use Rattle.am_journal.proofs.parts.put_section.Given as goal

abbrev pub invariant-loop-at : goal.invariant-loop-at
invariant-loop-at l = l.out ≡ l.fn.out ++ concat (take l.at (section_parts l.view l.section))
