-- What holds of the empty journal.
use Rattle.std.proofs.Common.{◌≡◌, [], sym, subst}
use Rattle.am_journal.specs.declared.event.Format.{Format}
use Rattle.am_journal.specs.declared.event.Journal.{Journal}
use Rattle.am_journal.specs.Journal.{journal_in}
use Rattle.am_counter.specs.Played.{ArePlayed}
use Rattle.acme_core.specs.Run.{AreEnabled, IsPossible}
use Rattle.acme_core.proofs.Goes.{none_possible}
use Rattle.core_laws.specs.Journals.{JournalLaws, JournalsAreLawful}
use Rattle.am_replay.specs.Own.{RoundTrips}
use Rattle.am_replay.proofs.RoundTrip as round

pub trips : (format : Format) (journal : Journal) → journal ≡ journal_in format [] → RoundTrips journal
trips format journal none = subst RoundTrips (sym none) (round.trips (journal_in format []) tt)

pub plays : (format : Format) (journal : Journal) → journal ≡ journal_in format [] → AreEnabled journal
unfolding ArePlayed
plays format journal none = subst AreEnabled (sym none) tt

pub laws : JournalsAreLawful → (format : Format) (journal : Journal) → journal ≡ journal_in format []
    → JournalLaws journal
laws all format journal none = all journal (record {
  played = plays format journal none;
  possible = subst IsPossible (sym none) (none_possible format);
})
