-- What a machine is.
use Rattle.std.specs.Prelude.{ℕ}
use Rattle.re_syntax.specs.Tree.{Tree}
use Rattle.re_sets.specs.Readings.{mirrored}
use Rattle.re_sets.specs.Tables.{IsTable}
use Rattle.re_machine.specs.Whole.{table_of, IsWhole}
use Rattle.re_machine.specs.declared.tables.Tables.{Tables}
use Rattle.re_machine.specs.declared.machine.Form.{Form}
use Rattle.re_machine.specs.declared.machine.Form.TheVariants.{Word, Wide, Spans}
use Rattle.re_machine.specs.declared.wide.Wide as wide
use Rattle.re_machine.specs.Wides.{value_of}

-- the tables are those of the tree
abbrev pub IsTablesOf : {S : Type 0} → (S → ℕ) → ℕ → Tree → Tables S → Type 0
IsTablesOf bits size r t = IsWhole bits size t × IsTable r (table_of bits size t)

-- the number that several words are
abbrev pub words_of : wide.Wide → ℕ
words_of set = value_of set.words

-- the form has the tables of the tree, and those of the mirrored tree
abbrev pub IsFormOf : Tree → Form → Type 0
IsFormOf r (Word on back) = IsTablesOf (λ w. w) 64 r on × IsTablesOf (λ w. w) 64 (mirrored r) back
IsFormOf r (Wide on back) = IsTablesOf words_of 1024 r on × IsTablesOf words_of 1024 (mirrored r) back
IsFormOf r Spans = Unit {0}
