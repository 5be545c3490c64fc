use Rattle.std.proofs.Common.{List, sym, subst}
use Rattle.am_journal.specs.declared.event.Event.{Event}
use Rattle.am_journal.specs.declared.event.Format.TheVariants.{One}
use Rattle.am_journal.specs.Journal.{journal_in}
use Rattle.acme_core.specs.Run.{IsPossible}
use Rattle.acme_core.proofs.Goes.{none_possible}
use Rattle.am_drill.proofs.driving.nothing_done.Goals as goal

pub returns-clause-possible : goal.returns-clause-possible
returns-clause-possible c =
    subst (λ (l : List Event). IsPossible (journal_in One l)) (sym c.new.ensures) (none_possible One)
