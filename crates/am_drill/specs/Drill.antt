-- The events of a drill.
use Rattle.std.specs.Prelude.{ℕ, zero, suc, ◌+◌, ◌*◌, ◌/◌, ◌%◌, ◌^◌, ◌==◌, List, [], ◌∷◌, ◌++◌, codes, if◌then◌else◌}
use Rattle.ninep_types.specs.declared.message.TBody.{TBody}
use Rattle.ninep_types.specs.declared.message.TBody.TheVariants as t
use Rattle.am_journal.specs.declared.event.Event.{Event}
use Rattle.am_journal.specs.declared.event.Event.TheVariants as event
use Rattle.am_journal.specs.declared.event.Format.TheVariants.{One}
use Rattle.am_journal.specs.declared.event.Journal.{Journal}
use Rattle.am_journal.specs.Journal.{journal_in}
use Rattle.am_journal.specs.declared.event.Side.TheVariants.{Body}
use Rattle.ninep_types.specs.Limits.{no_tag, no_fid, version_name}
use Rattle.am_drill.specs.declared.numbers.Turn.{Turn}
use Rattle.am_drill.specs.declared.numbers.Turn.TheVariants as turn

-- ---- its numbers

-- the most rounds; the program's words may ask for as many
abbrev pub most_rounds : ℕ
most_rounds = 100000

-- `a`
abbrev pub letter_a : ℕ
letter_a = 97

-- the seed after this one
abbrev pub next_seed : ℕ → ℕ
next_seed s = (s * 1103515245 + 12345) % 2 ^ 31

-- the seed of a round, by its number from 1; the one before the first round is 1
unfoldable pub seed_of : ℕ → ℕ
seed_of zero = 1
seed_of (suc k) = next_seed (seed_of k)

-- the number that a seed draws
abbrev pub drawn : ℕ → ℕ
drawn s = s / 65536

-- the letter of a number, from `a` on
abbrev pub letter : ℕ → ℕ
letter r = letter_a + (r / 4) % 26

-- the turn that a number draws
abbrev pub turn_of : ℕ → Turn
turn_of r =
    if r % 4 == 0 then turn.Write else (if r % 4 == 1 then turn.Events
    else (if r % 4 == 2 then turn.Key else turn.Read))

-- ---- its events

-- a message of connection 0
abbrev pub message : ℕ → TBody → Event
message tag body = event.Msg 0 (record { tag = tag; body = body })

-- the msize that is asked for
abbrev pub asked_msize : ℕ
asked_msize = 8192

-- how many bytes of the event file are read at once
abbrev pub event_bytes : ℕ
event_bytes = 64

-- how many bytes of the body are read at once
abbrev pub body_bytes : ℕ
body_bytes = 32

-- what comes first: fid 0 is the root, fid 1 the body of a new window, and fid 2 its event file
abbrev pub opening : List Event
opening = event.Dial 0
    ∷ message no_tag (t.Version asked_msize version_name)
    ∷ message 1 (t.Attach 0 no_fid (codes "u") [])
    ∷ message 2 (t.Walk 0 1 (codes "new" ∷ codes "body" ∷ []))
    ∷ message 3 (t.Open 1 2)
    ∷ message 2 (t.Walk 0 2 (codes "1" ∷ codes "event" ∷ []))
    ∷ message 3 (t.Open 2 0)
    ∷ []

-- a letter is written to the body
abbrev pub write : ℕ → Event
write l = message 4 (t.Write 1 0 (l ∷ []))

-- the event file is read, and the read is flushed
abbrev pub poll : Event
poll = message 10 (t.Read 2 0 event_bytes)

-- the flush of that read
abbrev pub flush : Event
flush = message 11 (t.Flush 10)

-- a letter is typed into the body
abbrev pub key : ℕ → Event
key l = event.Key 1 Body (l ∷ [])

-- the body is read
abbrev pub read : Event
read = message 5 (t.Read 1 0 body_bytes)

-- the events of a turn
abbrev pub played_turn : Turn → ℕ → List Event
played_turn turn.Write l = write l ∷ []
played_turn turn.Events l = poll ∷ flush ∷ []
played_turn turn.Key l = key l ∷ []
played_turn turn.Read l = read ∷ []

-- Each fiftieth round reads the body, and then the replies are taken.
abbrev pub round : ℕ → ℕ → List Event
round k r = if k % 50 == 0 then read ∷ event.Took 0 ∷ [] else played_turn (turn_of r) (letter r)

-- so many rounds, from round 1
unfoldable pub rounds : ℕ → List Event
rounds zero = []
rounds (suc k) = rounds k ++ round (k + 1) (drawn (seed_of (k + 1)))

-- all events of a drill of so many rounds
abbrev pub events : ℕ → List Event
events n = opening ++ rounds n

-- its journal
abbrev pub drill_journal : ℕ → Journal
drill_journal n = journal_in One (events n)
