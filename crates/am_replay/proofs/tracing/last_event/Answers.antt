use Rattle.std.proofs.Common.{List, [], length, ap, sym, subst, arith}
use Rattle.am_counter.specs.Played.{IsPlayed}
use Rattle.am_journal.specs.declared.event.Event.{Event}
use Rattle.am_journal.specs.Lawful.{IsLawful}
use Rattle.acme_core.specs.Run.{enabled_in}
use Rattle.am_replay.proofs.Traced.{played_lawful}
use Rattle.am_replay.proofs.tracing.last_event.Goals as goal

pub words_of-requires : goal.words_of-requires
words_of-requires c =
    let P : List Event → Type 0 = λ l. IsPlayed (enabled_in c.args.core.now.journal.format) l in
    subst IsLawful (sym c.index-entries-last.is)
    (played_lawful (enabled_in c.args.core.now.journal.format) [] _ _ c.index-entries-last.result
    (subst P (sym c.events-entries.ensures)
    c.events_were_enabled.ensures) (omega (arith, ap length c.events-entries.ensures)))
