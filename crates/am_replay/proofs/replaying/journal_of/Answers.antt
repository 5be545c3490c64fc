use Rattle.std.proofs.Common.{sym, subst}
use Rattle.core_laws.specs.Journals.{JournalLaws}
use Rattle.am_replay.proofs.replaying.journal_of.Goals as goal

pub returns-clause-laws : goal.returns-clause-laws
returns-clause-laws c =
    subst JournalLaws (sym c.into_journal.ensures)
    (c.journals_are_lawful.ensures _ (record {
      played = c.events_were_enabled.ensures;
      possible =
          c.events_were_possible.ensures;
    }))
