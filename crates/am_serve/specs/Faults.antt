-- The words for lines that are refused.
use Rattle.std.specs.Prelude.{ℕ, List, codes}
use Rattle.am_journal.specs.Texts.{word_of}
use Rattle.am_serve.specs.declared.fault.LineFault.{LineFault}
use Rattle.am_serve.specs.declared.fault.LineFault.TheVariants as fault

-- the word for a line that is refused
abbrev pub fault_word : LineFault → List ℕ
fault_word fault.Line = codes "line"
fault_word fault.Alone = codes "alone"
fault_word (fault.NotEnabled why) = word_of why
