-- What a seat knows, and what the calls of a counter do to that.
use Rattle.std.specs.Prelude.{◌≡◌, ◌≢◌, ℕ, ◌+◌, ◌-◌, Bool, true, false, List, [], ◌∷◌, ◌++◌, length, Option, None}
use Rattle.am_journal.specs.declared.event.Event.{Event}
use Rattle.am_journal.specs.declared.event.Event.TheVariants.{Took}
use Rattle.am_journal.specs.declared.event.Why.{Why}
use Rattle.am_counter.specs.Played.{IsPrefix}

-- the seat's parts, the entries that it has seen, its own entries with their numbers in the journal, and those of
-- each seat that ended in it
pub record Known : Type 0 where
  pub parts : ℕ
  pub seen : List Event
  pub mine : List (ℕ × Event)
  pub ended : List (List (ℕ × Event))

-- the journal was seen, and nothing was added
abbrev pub with_seen : Known → List Event → Known
with_seen v now = record v { seen = now }

-- an event was added to the journal that was seen, and is the seat's own
abbrev pub with_entry : Known → List Event → Event → Known
with_entry v now e = record v { seen = now ++ e ∷ []; mine = v.mine ++ (length now + 1, e) ∷ [] }

-- the journal is seen as it is at one turn, and nothing is added
abbrev pub Looks : Known → Known → Type 0
Looks v w = (now : List Event) × IsPrefix v.seen now × (w ≡ with_seen v now)

-- the event is enabled after the journal at one turn, and is added to it with this number
abbrev pub Submits : (List Event → Event → Option Why) → Known → Event → ℕ → Known → Type 0
Submits enabled v e n w =
    (now : List Event) × IsPrefix v.seen now × (enabled now e ≡ None) × (n ≡ length now + 1) × (w ≡ with_entry v now e)

-- the replies of a connection that are unsent after the journal at one turn are taken, some bytes at least
abbrev pub TakesBytes : (List Event → Event → Option Why) → (List Event → ℕ → List ℕ) → Known → ℕ → List ℕ
    → Known → Type 0
TakesBytes enabled unsent v conn bytes w =
    (now : List Event) × IsPrefix v.seen now × (enabled now (Took conn) ≡ None)
    × (bytes ≡ unsent now conn) × (bytes ≢ []) × (w ≡ with_entry v now (Took conn))

-- ---- seats that are split, and taken in

-- it gave up n parts
abbrev pub without_parts : ℕ → Known → Known
without_parts n v = record v { parts = v.parts - n }

-- a seat that was split off, with n parts
abbrev pub new_known : ℕ → Known → Known
new_known n v = record { parts = n; seen = v.seen; mine = []; ended = [] }

-- the seat's own entries, and those of each seat that ended in it
abbrev pub lists_of : Known → List (List (ℕ × Event))
lists_of v = v.mine ∷ v.ended

-- the first has the parts and the lists of the second beside its own, and has seen this journal
abbrev pub united : Known → Known → List Event → Known
united v w now = record { parts = v.parts + w.parts; seen = now; mine = v.mine; ended = v.ended ++ w.mine ∷ w.ended }

-- The first took in the second, and saw the journal as it is at one turn. It begins with what both had seen.
abbrev pub TakesIn : Known → Known → Known → Type 0
TakesIn v w u = (now : List Event) × IsPrefix v.seen now × IsPrefix w.seen now × (u ≡ united v w now)
