-- Events that a line of a transcript spells.
use Rattle.std.specs.Prelude.{◌≡◌, ℕ, ◌<◌, ◌≤◌, ◌^◌, true, List, length, slice_index}
use Rattle.std.specs.Char.{IsScalar}
use Rattle.std.specs.List.{AllByRecursion}
use Rattle.ninep_types.specs.Limits.{max_msize}
use Rattle.ninep_types.specs.Spelling.{spelling_t, Fits_t, InRange_t}
use Rattle.am_journal.specs.declared.event.Event.{Event}
use Rattle.am_journal.specs.declared.event.Event.TheVariants as event
use Rattle.am_journal.specs.declared.event.Spot.{Spot}
use Rattle.am_journal.specs.Limits.{connection_count}
use Rattle.am_journal.specs.Paths.{is_path_text}

-- A connection is one of 64, a message has a spelling of at most 65,560 bytes, a text is of Unicode scalar values
-- alone, a range doesn't end before it begins, and a path is one of a file or a directory below `/`.
abbrev pub IsLawful : Event → Type 0
IsLawful (event.Dial c) = c < connection_count
IsLawful (event.Msg c m) = (c < connection_count) × Fits_t m × (length (spelling_t m) ≤ max_msize)
IsLawful (event.Hang c why) = c < connection_count
IsLawful (event.Took c) = c < connection_count
IsLawful event.New = Unit {0}
IsLawful (event.Key w side text) = AllByRecursion IsScalar text
IsLawful (event.Sel w range) = range.q0 ≤ range.q1
IsLawful (event.Exec at) = at.range.q0 ≤ at.range.q1
IsLawful (event.Arg at chord) = (at.range.q0 ≤ at.range.q1) × (chord.range.q0 ≤ chord.range.q1)
IsLawful (event.Look at) = at.range.q0 ≤ at.range.q1
IsLawful (event.File path text) = (is_path_text path ≡ true) × AllByRecursion IsScalar text
IsLawful (event.Dir path) = is_path_text path ≡ true

-- each is below 256; past the end stands 0
abbrev pub AreBytes : List ℕ → Type 0
AreBytes bytes = (i : ℕ) → slice_index bytes i < 256

-- the numbers of a place fit their types
abbrev pub IsSpotInRange : Spot → Type 0
IsSpotInRange at = (at.window < 2 ^ 32) × (at.range.q0 < 2 ^ 64) × (at.range.q1 < 2 ^ 64)

-- each number fits its field, as each of an event of the program does
abbrev pub IsInRange : Event → Type 0
IsInRange (event.Dial c) = c < 2 ^ 32
IsInRange (event.Msg c m) = (c < 2 ^ 32) × InRange_t m × AreBytes (spelling_t m)
IsInRange (event.Hang c why) = c < 2 ^ 32
IsInRange (event.Took c) = c < 2 ^ 32
IsInRange event.New = Unit {0}
IsInRange (event.Key w side text) = w < 2 ^ 32
IsInRange (event.Sel w range) = (w < 2 ^ 32) × (range.q0 < 2 ^ 64) × (range.q1 < 2 ^ 64)
IsInRange (event.Exec at) = IsSpotInRange at
IsInRange (event.Arg at chord) = IsSpotInRange at × IsSpotInRange chord
IsInRange (event.Look at) = IsSpotInRange at
IsInRange (event.File path text) = Unit {0}
IsInRange (event.Dir path) = Unit {0}
