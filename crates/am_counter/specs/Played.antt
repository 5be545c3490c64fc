-- Journals whose events were enabled, and what they say of connections.
use Rattle.std.specs.Prelude.{◌≡◌, ℕ, ◌==◌, ◌++◌, Bool, true, false, List, [], ◌∷◌, Option, Some, None, if◌then◌else◌}
use Rattle.std.specs.List.{list_any}
use Rattle.am_journal.specs.declared.event.Event.{Event}
use Rattle.am_journal.specs.declared.event.Event.TheVariants as event
use Rattle.am_journal.specs.declared.event.Refused.{Refused}
use Rattle.am_journal.specs.declared.event.Refused.TheVariants.{NotEnabled, NoMemory}
use Rattle.am_journal.specs.declared.event.Why.{Why}
use Rattle.am_journal.specs.declared.event.Why.TheVariants as why
use Rattle.am_journal.specs.Lawful.{IsLawful}

-- the second list begins with the first
abbrev pub IsPrefix : List Event → List Event → Type 0
IsPrefix xs ys = (rest : List Event) × (xs ++ rest ≡ ys)

-- each of these events is lawful, and was enabled after those before it
unfoldable pub ArePlayed : (List Event → Event → Option Why) → List Event → List Event → Type 0
ArePlayed enabled before [] = Unit {0}
ArePlayed enabled before (e ∷ events) =
    IsLawful e × (enabled before e ≡ None) × ArePlayed enabled (before ++ e ∷ []) events

-- a journal: each event is lawful, and was enabled at its place
abbrev pub IsPlayed : (List Event → Event → Option Why) → List Event → Type 0
IsPlayed enabled journal = ArePlayed enabled [] journal

-- ---- connections

-- whether an event is the dialling of this connection
abbrev pub is_dial_of : ℕ → Event → Bool
is_dial_of conn (event.Dial c) = c == conn
is_dial_of conn (event.Msg c msg) = false
is_dial_of conn (event.Hang c why) = false
is_dial_of conn (event.Took c) = false
is_dial_of conn event.New = false
is_dial_of conn (event.Key w side text) = false
is_dial_of conn (event.Sel w range) = false
is_dial_of conn (event.Exec at) = false
is_dial_of conn (event.Arg at chord) = false
is_dial_of conn (event.Look at) = false
is_dial_of conn (event.File path text) = false
is_dial_of conn (event.Dir path) = false

-- whether an event is the end of this connection
abbrev pub is_hang_of : ℕ → Event → Bool
is_hang_of conn (event.Dial c) = false
is_hang_of conn (event.Msg c msg) = false
is_hang_of conn (event.Hang c why) = c == conn
is_hang_of conn (event.Took c) = false
is_hang_of conn event.New = false
is_hang_of conn (event.Key w side text) = false
is_hang_of conn (event.Sel w range) = false
is_hang_of conn (event.Exec at) = false
is_hang_of conn (event.Arg at chord) = false
is_hang_of conn (event.Look at) = false
is_hang_of conn (event.File path text) = false
is_hang_of conn (event.Dir path) = false

-- whether the journal has the dialling of a connection, and its hang-up
abbrev pub has_dial : List Event → ℕ → Bool
has_dial journal conn = list_any (is_dial_of conn) journal

-- whether a connection has ended in a journal
abbrev pub has_hang : List Event → ℕ → Bool
has_hang journal conn = list_any (is_hang_of conn) journal

-- ---- refusals

-- whether an event is the end of a connection
abbrev pub is_hang : Event → Bool
is_hang (event.Dial c) = false
is_hang (event.Msg c msg) = false
is_hang (event.Hang c why) = true
is_hang (event.Took c) = false
is_hang event.New = false
is_hang (event.Key w side text) = false
is_hang (event.Sel w range) = false
is_hang (event.Exec at) = false
is_hang (event.Arg at chord) = false
is_hang (event.Look at) = false
is_hang (event.File path text) = false
is_hang (event.Dir path) = false

-- an event is the end of a connection
abbrev pub IsHang : Event → Type 0
IsHang e = is_hang e ≡ true

-- an event was refused for a reason, and not for want of memory
abbrev pub IsWhy : Refused → Type 0
IsWhy (NotEnabled why) = Unit {0}
IsWhy NoMemory = ⊥

-- a refusal is the reason why the event isn't enabled, or want of memory where it is
abbrev pub Refuses : Refused → Option Why → Type 0
Refuses (NotEnabled why) enabled = enabled ≡ Some why
Refuses NoMemory enabled = enabled ≡ None

-- the reason why a dialling isn't enabled: its connection was dialled
abbrev pub dial_why : List Event → ℕ → Option Why
dial_why journal conn = if has_dial journal conn then Some why.Dialed else None

-- the reason why a hang-up isn't enabled: its connection wasn't dialled, or has ended
abbrev pub hang_why : List Event → ℕ → Option Why
hang_why journal conn =
    if has_dial journal conn then (if has_hang journal conn then Some why.Ended else None) else Some why.Conn

-- the reasons why a message isn't enabled
abbrev pub IsMessageWhy : List Event → ℕ → Option Why → Type 0
IsMessageWhy journal conn None = Unit {0}
IsMessageWhy journal conn (Some why.Conn) = has_dial journal conn ≡ false
IsMessageWhy journal conn (Some why.Dialed) = ⊥
IsMessageWhy journal conn (Some why.Ended) = has_hang journal conn ≡ true
IsMessageWhy journal conn (Some why.Size) = Unit {0}
IsMessageWhy journal conn (Some why.Tag) = Unit {0}
IsMessageWhy journal conn (Some why.Replies) = Unit {0}
IsMessageWhy journal conn (Some why.Nothing) = ⊥
IsMessageWhy journal conn (Some why.Window) = ⊥
IsMessageWhy journal conn (Some why.Range) = ⊥
IsMessageWhy journal conn (Some why.Windows) = ⊥
IsMessageWhy journal conn (Some why.Length) = ⊥
IsMessageWhy journal conn (Some why.Tree) = ⊥
