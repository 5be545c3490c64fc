-- How a connection ends whose objects have not failed, and whose messages may all come.
use Rattle.std.specs.Prelude.{◌≡◌, ◌≢◌, ◌⊎◌, ℕ, true, false, List, [], ◌∷◌, ◌++◌, Some, Ok}
use Rattle.ninep_types.specs.declared.message.TMsg.{TMsg}
use Rattle.ninep_types.specs.Reading.{t_of}
use Rattle.ninep_cut.specs.Cuts.{cut_stream}
use Rattle.am_journal.specs.declared.ending.Ending.{Ending}
use Rattle.am_journal.specs.declared.ending.Ending.TheVariants as ending
use Rattle.am_journal.specs.declared.event.Event.{Event}
use Rattle.am_journal.specs.declared.event.Journal.{Journal}
use Rattle.am_journal.specs.declared.event.Event.TheVariants.{Msg}
use Rattle.am_journal.specs.declared.event.Why.TheVariants as why
use Rattle.am_journal.specs.Journal.{journal_in}
use Rattle.am_counter.specs.Played.{IsPrefix, has_hang}
use Rattle.acme_core.specs.Run.{enabled}
use Rattle.am_serve.specs.Budget.{fits_budget}
use Rattle.am_serve.specs.Reading.{messages_of}
use Rattle.am_slots.specs.Slots.{Outside}
use Rattle.am_server.specs.declared.served.Served.{Served}
use Rattle.am_server.specs.declared.served.ServedEnd.TheVariants as served

-- after a journal a message isn't refused for its size or its tag
abbrev pub IsInTurn : Journal → ℕ → TMsg → Type 0
IsInTurn seen conn msg = (enabled seen (Msg conn msg) ≢ Some why.Size) × (enabled seen (Msg conn msg) ≢ Some why.Tag)

-- Each message can be read, and may come in its turn: after each beginning of the journal that has the connection's
-- messages before it, none from it on, and no hang-up of the connection.
abbrev pub MayCome : Journal → ℕ → List (List ℕ) → Type 0
MayCome journal conn messages =
    (before after : List (List ℕ)) (m : List ℕ) → messages ≡ before ++ m ∷ after
    → (msg : TMsg) × (t_of m ≡ Ok msg)
    × ((seen : List Event) → IsPrefix seen journal.events → messages_of seen conn ≡ before
    → has_hang seen conn ≡ false → IsInTurn (journal_in journal.format seen) conn msg)

module _ {G L S K : Type 0} where
  -- The source tells its bytes, which are whole messages within the limits that may come in their turn, and neither it
  -- nor the sink has failed.
  pub record IsSound (m : Outside G L S K) (journal : Journal) (s : Served G L S K) : Type 0 where
    pub link : L
    pub linked : s.link ≡ Some link
    pub reader : S
    pub read : s.reader ≡ Some reader
    pub writer : K
    pub written : s.writer ≡ Some writer
    pub bytes : List ℕ
    pub told : (m.link link).begins ≡ Some bytes
    pub reads : (m.reader reader).faults ≡ 0
    pub writes : (m.writer writer).faults ≡ 0
    pub whole : (cut_stream bytes).rest ≡ []
    pub fits : fits_budget (cut_stream bytes).messages ≡ true
    pub may_come : MayCome journal s.slot (cut_stream bytes).messages

  -- then the connection ends with the end of the source, or for want of memory
  abbrev pub EndsWell : Outside G L S K → Journal → Served G L S K → Type 0
  EndsWell m journal s = (cause : Ending) → s.end ≡ served.Ended cause → IsSound m journal s → (cause ≡ ending.End)
      ⊎ (cause ≡ ending.NoMemory)
