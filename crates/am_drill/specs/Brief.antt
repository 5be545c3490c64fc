-- Events that can be done next, each with few replies.
use Rattle.std.specs.Prelude.{◌≡◌, ◌≤◌, ◌<◌, ◌*◌, ◌^◌, List, [], ◌∷◌, ◌++◌, length, sum_by, None}
use Rattle.am_journal.specs.declared.event.Event.{Event}
use Rattle.am_journal.specs.declared.event.Journal.{Journal}
use Rattle.am_journal.specs.Journal.{journal_in, longer}
use Rattle.am_journal.specs.Lawful.{IsLawful}
use Rattle.core_outputs.specs.declared.reply.Reply.{Reply}
use Rattle.acme_core.specs.Run.{run, enabled}
use Rattle.am_drill.specs.declared.counting.Count.{Count}
use Rattle.am_drill.specs.Summary.{bytes_in, count_at}

-- at most one reply, of at most 128 bytes
pub record IsBrief (replies : List Reply) : Type 0 where
  pub few : length replies ≤ 1
  pub bytes : sum_by bytes_in replies ≤ 128

-- an event that can be done after a journal, and that makes few replies
pub record IsNext (journal : Journal) (e : Event) : Type 0 where
  pub lawful : IsLawful e
  pub allowed : enabled journal e ≡ None
  pub brief : IsBrief (run (longer journal e)).replies
  pub short : length journal.events < 2 ^ 32

-- each of these after those before it
abbrev pub AreNext : Journal → List Event → Type 0
AreNext journal [] = Unit {0}
AreNext journal (e ∷ es) = IsNext journal e × AreNext (longer journal e) es

-- the count is that of the journal's replies, each of which was brief
pub record IsCounted (count : Count) (journal : Journal) : Type 0 where
  pub exact : count ≡ count_at journal
  pub few : count.replies ≤ length journal.events
  pub bytes : count.bytes ≤ 128 * length journal.events

-- these, and perhaps more behind them
abbrev pub IsFront : List Event → List Event → Type 0
IsFront front whole = (rest : List Event) × (front ++ rest ≡ whole)

-- a journal, and these events behind its own
abbrev pub followed : Journal → List Event → Journal
followed journal events = journal_in journal.format (journal.events ++ events)

-- a journal of the same format has the first of the other's events
abbrev pub IsBegun : Journal → Journal → Type 0
IsBegun journal whole = (rest : List Event) × (followed journal rest ≡ whole)

-- a front of the events was done
abbrev pub Stopped : Journal → List Event → Journal → Type 0
Stopped before events now = (done : List Event) × IsFront done events × (now ≡ followed before done)
