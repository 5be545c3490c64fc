-- What a side adds to the entries of its seat.
use Rattle.std.specs.Prelude.{◌≡◌, ℕ, ◌+◌, Bool, not, List, [], ◌∷◌, ◌++◌, length, map, drop, Option, if◌then◌else◌}
use Rattle.turn_lock.specs.Journal.{Stands}
use Rattle.am_journal.specs.declared.ending.Ending.{Ending}
use Rattle.am_journal.specs.declared.event.Event.{Event}
use Rattle.am_journal.specs.declared.event.Event.TheVariants.{Hang}
use Rattle.am_journal.specs.declared.event.Why.{Why}
use Rattle.am_counter.specs.declared.ask.Ask.{Ask}
use Rattle.am_counter.specs.Known.{Known}
use Rattle.am_counter.specs.Played.{IsPrefix, has_hang}

-- the events of entries
abbrev pub plain : List (ℕ × Event) → List Event
plain entries = map (λ (x : ℕ × Event). x.1) entries

-- the entries that a seat has gained
abbrev pub gained : Known → Known → List (ℕ × Event)
gained v w = drop (length v.mine) w.mine

-- A seat goes on and gains these entries: each stands, at its number, in what it has seen since.
pub record Gains (v : Known) (entries : List (ℕ × Event)) (w : Known) : Type 0 where
  pub parts : w.parts ≡ v.parts
  pub ended : w.ended ≡ v.ended
  pub seen : IsPrefix v.seen w.seen
  pub mine : w.mine ≡ v.mine ++ entries
  pub stand : Stands w.seen (length v.seen) entries

-- ---- hang-ups

-- what is enabled after a journal, and what isn't, with the reason
abbrev pub Rule : Type 0
Rule = List Event → Event → Option Why

-- the answers to what is asked of a journal
abbrev pub Answers : Type 0
Answers = List Event → Ask → Bool

-- the entry that ends a connection after a journal; none where another has ended it
abbrev pub hang_up : List Event → ℕ → Ending → List (ℕ × Event)
hang_up now conn why = if has_hang now conn then [] else (length now + 1, Hang conn why) ∷ []

-- what a seat knows after a turn in which it ends a connection, unless that has ended
abbrev pub hung_up : Known → List Event → ℕ → Ending → Known
hung_up v now conn why = record v { seen = now ++ plain (hang_up now conn why); mine = v.mine ++ hang_up now conn why }

-- a connection is ended at one turn, unless it has ended, and whether it was
abbrev pub HangsUp : Known → ℕ → Ending → Bool → Known → Type 0
HangsUp v conn why made w = (now : List Event) × IsPrefix v.seen now × (made ≡ not (has_hang now conn))
    × (w ≡ hung_up v now conn why)

-- The entries that a seat has gained are some of this kind, and then the one that ended the connection with this cause.
-- There is no such entry where another has ended it.
abbrev pub EndsWith : (List (ℕ × Event) → Type 0) → ℕ → Ending → Known → Known → Type 0
EndsWith kind conn why v w =
    (entries : List (ℕ × Event)) × (now : List Event) × kind entries
    × (gained v w ≡ entries ++ hang_up now conn why) × (w.seen ≡ now ++ plain (hang_up now conn why))
