-- Why a connection ended, in words.
use Rattle.std.specs.Prelude.{ℕ, List, [], ◌∷◌, ◌++◌, Option, Some, None, codes, if◌then◌else◌}
use Rattle.std.specs.Str.{bytes_eq}
use Rattle.ninep_types.specs.declared.fault.WireFault.{WireFault}
use Rattle.ninep_types.specs.declared.fault.WireFault.TheVariants as fault
use Rattle.am_journal.specs.declared.ending.Bad.{Bad}
use Rattle.am_journal.specs.declared.ending.Bad.TheVariants as bad
use Rattle.am_journal.specs.declared.ending.Ending.{Ending}
use Rattle.am_journal.specs.declared.ending.Ending.TheVariants as ending

-- ---- the words

-- the word of a fault in a message
abbrev pub fault_word : WireFault → List ℕ
fault_word fault.Size = codes "size"
fault_word fault.Kind = codes "type"
fault_word fault.Short = codes "short"
fault_word fault.Long = codes "long"
fault_word fault.Text = codes "text"
fault_word fault.Names = codes "names"

-- the word of a bad message
abbrev pub bad_word : Bad → List ℕ
bad_word (bad.Wire f) = fault_word f
bad_word bad.Size = codes "msize"
bad_word bad.Tag = codes "tag"

-- the word of a cause
abbrev pub cause : Ending → List ℕ
cause ending.End = codes "end"
cause ending.Torn = codes "torn"
cause ending.ReadFault = codes "fault"
cause (ending.Broken b) = codes "broken " ++ bad_word b
cause ending.Spent = codes "spent"
cause ending.Gone = codes "gone"
cause ending.NoMemory = codes "memory"

-- ---- reading them

-- what stands beside these bytes in a table
abbrev pub looked_up : List (List ℕ × Ending) → List ℕ → Option Ending
looked_up [] word = None
looked_up (r ∷ rs) word = if bytes_eq word r.0 then Some r.1 else looked_up rs word

-- the causes of one word
abbrev pub plain_causes : List (List ℕ × Ending)
plain_causes =
    (codes "end", ending.End) ∷ (codes "torn", ending.Torn) ∷ (codes "fault", ending.ReadFault)
    ∷ (codes "spent", ending.Spent) ∷ (codes "gone", ending.Gone) ∷ (codes "memory", ending.NoMemory) ∷ []

-- the causes that say what was wrong with the bytes of the connection
abbrev pub broken_causes : List (List ℕ × Ending)
broken_causes =
    (codes "broken size", ending.Broken (bad.Wire fault.Size)) ∷ (
      codes "broken type",
      ending.Broken (bad.Wire fault.Kind),
    )
    ∷ (codes "broken short", ending.Broken (bad.Wire fault.Short))
    ∷ (codes "broken long", ending.Broken (bad.Wire fault.Long))
    ∷ (codes "broken text", ending.Broken (bad.Wire fault.Text)) ∷ (
      codes "broken names",
      ending.Broken (bad.Wire fault.Names),
    )
    ∷ (codes "broken msize", ending.Broken bad.Size) ∷ (codes "broken tag", ending.Broken bad.Tag) ∷ []

-- the cause, or that of a size that no message has
abbrev pub or_broken : Option Ending → List ℕ → Option Ending
or_broken None word = looked_up broken_causes word
or_broken (Some e) word = Some e

-- the cause that these words tell
unfoldable pub ending_of : List ℕ → Option Ending
ending_of word = or_broken (looked_up plain_causes word) word
