use Rattle.std.proofs.Common.{List, sym, subst}
use Rattle.am_journal.specs.declared.event.Event.{Event}
use Rattle.am_journal.specs.declared.event.Format.TheVariants.{Two}
use Rattle.am_journal.specs.Journal.{journal_in}
use Rattle.acme_core.specs.Run.{IsPossible}
use Rattle.acme_core.proofs.Goes.{none_possible}
use Rattle.am_server.proofs.writing.idle.Goals as goal

pub returns-clause-possible : goal.returns-clause-possible
returns-clause-possible g c =
    subst (λ (l : List Event). IsPossible (journal_in Two l)) (sym c.new.ensures) (none_possible Two)
