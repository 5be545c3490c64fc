-- What holds of a journal whose events were done.
use Rattle.std.proofs.Common.{◌≡◌, []}
use Rattle.am_journal.specs.declared.event.Format.TheVariants.{One}
use Rattle.am_journal.specs.declared.event.Journal.{Journal}
use Rattle.am_journal.specs.Journal.{journal_in}
use Rattle.acme_core.specs.Run.{IsPossible}
use Rattle.core_laws.specs.Journals.{JournalLaws, JournalsAreLawful}
use Rattle.am_replay.proofs.Idle as idle
use Rattle.am_replay.proofs.RoundTrip.{IsDone, played-done, trips}
use Rattle.acmefs.specs.Top.{OfJournal}

pub with_laws : (journal : Journal) → IsDone journal → JournalLaws journal → OfJournal journal
with_laws journal done laws = record {
  played = played-done journal done;
  round_trip = trips journal done;
  laws =
      laws;
}

pub of_done : JournalsAreLawful → (journal : Journal) → IsDone journal → IsPossible journal → OfJournal journal
of_done all journal done possible = with_laws journal done (all journal
    (record { played = played-done journal done; possible = possible }))

-- the empty journal
pub of_none : JournalsAreLawful → (journal : Journal) → journal ≡ journal_in One [] → OfJournal journal
of_none all journal none = record {
  played = idle.plays One journal none;
  round_trip = idle.trips One journal none;
  laws =
      idle.laws all One journal none;
}
