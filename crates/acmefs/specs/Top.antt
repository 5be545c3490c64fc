-- What the program promises of a run: a record for each thing that words can ask for, and one of
-- all words, which says that what they ask for is done as its record has it.
use Rattle.std.specs.Prelude.{◌≡◌, ◌⊎◌, ℕ, List, [], IfSome, is_some, if◌then◌else◌, string_bytes}
use Rattle.std.specs.List.{AllByRecursion}
use Rattle.am_base.specs.Outside.{HasRisen}
use Rattle.am_base.specs.Seen.{Given, Seen}
use Rattle.am_journal.specs.declared.event.Format.{Format}
use Rattle.am_journal.specs.declared.event.Format.TheVariants.{One, Two}
use Rattle.am_journal.specs.declared.event.Journal.{Journal}
use Rattle.am_journal.specs.Journal.{journal_in}
use Rattle.am_words.specs.Words.{asks_serve, tree_name, AreKnown, AsksFor}
use Rattle.am_words.specs.declared.asked.Asked.{Asked}
use Rattle.am_words.specs.declared.asked.Asked.TheVariants as asked
use Rattle.am_words.specs.declared.asked.Tree.{Tree}
use Rattle.acme_core.specs.Run.{AreEnabled}
use Rattle.core_laws.specs.Journals.{JournalLaws}
use Rattle.am_slots.specs.Slots.{Outside}
use Rattle.am_server.specs.Ends.{SaysServe}
use Rattle.am_server.specs.Replied.{GotAll}
use Rattle.am_server.specs.Sound.{EndsWell}
use Rattle.am_server.specs.declared.served.Served.{Served}
use Rattle.am_server.specs.declared.writing.ServeEnd.{ServeEnd}
use Rattle.am_replay.specs.declared.replaying.End.{End}
use Rattle.am_replay.specs.declared.replaying.End.TheVariants as ends
use Rattle.am_replay.specs.Scripts.{script_of}
use Rattle.am_replay.specs.Ends.{Says, IsIdle, RanTold}
use Rattle.am_replay.specs.Own.{PutsOwn, RoundTrips}
use Rattle.acmefs.specs.Ends.{IsComplete, Drilled, IsDrilled, IsServeComplete, status_of}
use Rattle.acmefs.specs.Ends.{serve_status}
use Rattle.acmefs.specs.Does.{AsksAt, Does}
use Rattle.acmefs.specs.Packs.{PackEnds}
use Rattle.acmefs.specs.Traces.{TraceEnds}
use Rattle.acmefs.specs.declared.status.Status.{Status}
use Rattle.acmefs.specs.declared.status.Status.TheVariants as exit

-- All that is seen of a run: the exit status, what the outside's objects tell, what was given (what
-- the input and the host tell), the output, the journal and the connections.
pub record Run (G L S K : Type 0) : Type 0 where
  pub status : Status
  pub objects : Outside G L S K
  pub given : Given
  pub output : Seen
  pub journal : Journal
  pub served : List (Served G L S K)

-- of each journal whose events were done: all but that of packing
pub record OfJournal (journal : Journal) : Type 0 where
  -- Each event is lawful, and was enabled at its place.
  pub played : AreEnabled journal
  -- The journal's lines and then its report ask for the journal's events again, and are a
  -- transcript, where they aren't too long, that gives the same report.
  pub round_trip : RoundTrips journal
  -- All laws of journals hold of it: addresses follow edits, the text is the fold of its history,
  -- and the others.
  pub laws : JournalLaws journal

-- the format of the empty journal where no line was read: 2 where the words ask for serving, else 1
abbrev pub idle_format : List (List ℕ) → Format
idle_format words = if is_some (asks_serve words) then Two else One

module _ {G L S K : Type 0} where
  abbrev pub run : Status → Outside G L S K → Given → Seen → Journal → List (Served G L S K)
      → Run G L S K
  run status objects given output journal served = record {
    status = status;
    objects = objects;
    given = given;
    output = output;
    journal = journal;
    served = served;
  }

  -- of words that ask for nothing that is known: nothing is read, written or done
  pub record OfOther (r : Run G L S K) : Type 0 where
    pub usage : r.status ≡ exit.Usage
    pub unread : r.given.input.now.bytes ≡ r.given.input.before.bytes
    pub idle : IsIdle One r.output r.journal
    pub unserved : r.served ≡ []
    pub journal : OfJournal r.journal

  -- of the word `replay`
  pub record OfReplay (r : Run G L S K) : Type 0 where
    -- Status 0: no line is refused, the journal is the events of the script, and the whole text is
    -- written.
    pub done : r.status ≡ exit.Done
        → RanTold ends.Done r.given.input.before.bytes r.output r.journal
    -- Status 2: a line, or the whole input, is refused; all events before it are done and written.
    pub script : r.status ≡ exit.Refused
        → RanTold ends.Script r.given.input.before.bytes r.output r.journal
    -- Status 4: all events are done, a front of the text is written.
    pub write_fault : r.status ≡ exit.WriteFault
        → RanTold ends.WriteFault r.given.input.before.bytes r.output r.journal
    -- Status 6: a front of the events is done, and the lines of their replies are written.
    pub no_memory : r.status ≡ exit.NoMemory
        → RanTold ends.NoMemory r.given.input.before.bytes r.output r.journal
    -- No line refused and no fault outside: the whole text, or want of memory.
    pub complete : IfSome r.given.input.before.bytes (λ bytes. IsComplete r.status (script_of bytes)
        r.given.input.before r.given.input.now r.output r.journal)
    -- The same of any input, also of one that doesn't tell its bytes: some bytes were replayed so.
    pub headline : (end : End) × (r.status ≡ status_of end)
        × Says end r.given.input.before r.given.input.now r.output r.journal
    -- The output got the lines of the journal's replies, and then the report of its run or a line
    -- `refused`: by the status all of it, or a front.
    pub own_text : (end : End) × (r.status ≡ status_of end) × PutsOwn end r.output r.journal
    pub unserved : r.served ≡ []
    pub journal : OfJournal r.journal

  -- of the word `trace`: a replay whose text is in words
  pub record OfTrace (r : Run G L S K) : Type 0 where
    pub traces : TraceEnds r.status r.given.input.before r.given.input.now r.output r.journal
    pub unserved : r.served ≡ []
    pub journal : OfJournal r.journal

  -- of the word `pack`: the events that a text in words spells, which needn't be enabled, and their
  -- lines
  pub record OfPack (r : Run G L S K) : Type 0 where
    pub packs : PackEnds r.status r.given.input.before r.given.input.now r.output r.journal
    pub unserved : r.served ≡ []

  -- of the word `drill` with a number of rounds: the drill's events, and the summary of their run
  pub record OfDrill (rounds : ℕ) (r : Run G L S K) : Type 0 where
    pub drills : Drilled r.status rounds r.output r.journal
    -- No fault outside: the whole summary, or want of memory.
    pub drilled : IsDrilled r.status rounds r.output r.journal
    pub reads_none : r.given.input.now.bytes ≡ r.given.input.before.bytes
    pub unserved : r.served ≡ []
    pub journal : OfJournal r.journal

  -- of the word `serve` with a path and a number of clients
  pub record OfServe (path : List ℕ) (clients : ℕ) (r : Run G L S K) : Type 0 where
    -- One journal has the entries of all connections and of the script and no others. What each
    -- connection was sent, and the text that is written at the end, are those of that journal.
    pub serves : (end : ServeEnd) × (r.status ≡ serve_status end)
        × SaysServe r.objects path clients r.given r.output r.journal r.served end
    -- With status 0 or 4 each sink that has not failed holds all replies that were ever made to its
    -- connection, unless that ended for want of memory.
    pub replied : (r.status ≡ exit.Done) ⊎ (r.status ≡ exit.WriteFault)
        → AllByRecursion (GotAll r.objects r.journal) r.served
    -- A connection whose source tells whole messages within the limits that may come in their turn
    -- ends with the end of its source, or for want of memory, where neither its source nor its sink
    -- has failed.
    pub sound : AllByRecursion (EndsWell r.objects r.journal) r.served
    -- No line of the script refused and no fault outside: the whole text, or want of memory.
    pub complete : IfSome r.given.input.before.bytes (λ bytes. IsServeComplete r.status r.objects
        clients bytes r.given r.output r.journal r.served)
    pub journal : OfJournal r.journal

  -- of the word `do` with a path and a tree: what the server is sent and what is written are those
  -- of the lines and of the replies to them, or fronts of them, as the status and the connection's
  -- end tell. All lines are checked before anything is dialled.
  pub record OfDo (path : List ℕ) (tree : Tree) (r : Run G L S K) : Type 0 where
    pub does : Does r.status r.objects (tree_name tree) r.given r.output r.served
    -- The link of the client that is told of was dialled at the path, and the host gave no other.
    pub dialled : AsksAt r.objects path r.given.host r.served
    -- No journal is kept.
    pub empty : r.journal ≡ journal_in One []
    pub journal : OfJournal r.journal

  -- by what is asked for
  abbrev pub OfAsked : Asked → Run G L S K → Type 0
  OfAsked asked.Replay r = OfReplay r
  OfAsked asked.Trace r = OfTrace r
  OfAsked asked.Pack r = OfPack r
  OfAsked (asked.Drill rounds) r = OfDrill rounds r
  OfAsked (asked.Serve path clients) r = OfServe (string_bytes path) clients r
  OfAsked (asked.Do path tree) r = OfDo (string_bytes path) tree r

  -- of all words
  pub record OfWords (words : List (List ℕ)) (r : Run G L S K) : Type 0 where
    -- What they ask for is done as its record says.
    pub asked : (a : Asked) → AsksFor words a → OfAsked a r
    pub other : ¬ AreKnown words → OfOther r
    -- Status 1 comes only where they ask for nothing that is known.
    pub usage : r.status ≡ exit.Usage → ¬ AreKnown words
    -- Status 3 comes only where the input's count of faults rose; then nothing is written or done.
    pub read_fault : r.status ≡ exit.ReadFault
        → HasRisen r.given.input.before.faults r.given.input.now.faults
    pub idle_fault : r.status ≡ exit.ReadFault → IsIdle (idle_format words) r.output r.journal
    -- Status 4 comes only where the output's count rose.
    pub write_cause : r.status ≡ exit.WriteFault
        → HasRisen r.output.before.faults r.output.now.faults
