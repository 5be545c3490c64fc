-- What a drill's ends say of its status and its journal.
use Rattle.std.proofs.Common.{◌≡◌, inl, inr, ℕ, List, [], ◌∙◌, sym, subst, arith, ap}
use Rattle.std.specs.List.{AllByRecursion}
use Rattle.am_base.specs.Outside.{HasRisen}
use Rattle.am_base.specs.Seen.{Seen}
use Rattle.am_journal.specs.declared.event.Journal.{Journal}
use Rattle.am_journal.specs.Lawful.{IsInRange}
use Rattle.acme_core.specs.Run.{AreEnabled}
use Rattle.am_drill.specs.declared.driving.DrillEnd.{DrillEnd}
use Rattle.am_drill.specs.declared.driving.DrillEnd.TheVariants as end
use Rattle.am_drill.specs.Drill.{drill_journal, events}
use Rattle.am_drill.specs.Ends.{DrillSays}
use Rattle.acmefs.specs.Ends.{drill_status, Drilled, IsDrilled}
use Rattle.am_replay.proofs.RoundTrip.{IsDone, enabled-done, front-done}
use Rattle.acmefs.specs.declared.status.Status.{Status}
use Rattle.acmefs.specs.declared.status.Status.TheVariants as exit
use Rattle.acmefs.specs.Statuses.{number_of}
use Rattle.acmefs.specs.Top.{OfDrill, OfJournal, Run}

-- ---- the journal

said-done : (e : DrillEnd) (rounds : ℕ) (o : Seen) (journal : Journal) → IsDone (drill_journal rounds)
    → DrillSays e rounds o journal → IsDone journal
said-done end.Done rounds o journal d h = subst IsDone (sym h.0) d
said-done end.WriteFault rounds o journal d h = subst IsDone (sym h.0) d
said-done end.NoMemory rounds o journal d h = front-done journal (drill_journal rounds) h.0 d

pub drill_done : (e : DrillEnd) (rounds : ℕ) (o : Seen) (journal : Journal) → AreEnabled (drill_journal rounds)
    → AllByRecursion IsInRange (events rounds)
    → DrillSays e rounds o journal → IsDone journal
drill_done e rounds o journal played ranged says = said-done e rounds o journal
    (enabled-done (drill_journal rounds) played ranged) says

-- ---- the status

no_usage : (e : DrillEnd) → drill_status e ≡ exit.Usage → ⊥
no_usage end.Done h = absurd (omega (arith, ap number_of h))
no_usage end.WriteFault h = absurd (omega (arith, ap number_of h))
no_usage end.NoMemory h = absurd (omega (arith, ap number_of h))

pub drill_usage : (status : Status) (rounds : ℕ) (o : Seen) (journal : Journal) → Drilled status rounds o journal
    → status ≡ exit.Usage → ⊥
drill_usage status rounds o journal d h = no_usage d.0 (sym d.1 ∙ h)

no_read_fault : (e : DrillEnd) → drill_status e ≡ exit.ReadFault → ⊥
no_read_fault end.Done h = absurd (omega (arith, ap number_of h))
no_read_fault end.WriteFault h = absurd (omega (arith, ap number_of h))
no_read_fault end.NoMemory h = absurd (omega (arith, ap number_of h))

pub drill_read_fault : (status : Status) (rounds : ℕ) (o : Seen) (journal : Journal)
    → Drilled status rounds o journal → status ≡ exit.ReadFault → ⊥
drill_read_fault status rounds o journal d h = no_read_fault d.0 (sym d.1 ∙ h)

risen_at : (e : DrillEnd) (rounds : ℕ) (o : Seen) (journal : Journal)
    → drill_status e ≡ exit.WriteFault → DrillSays e rounds o journal → HasRisen o.before.faults o.now.faults
risen_at end.Done rounds o journal h says = absurd (omega (arith, ap number_of h))
risen_at end.WriteFault rounds o journal h says = says.1.risen
risen_at end.NoMemory rounds o journal h says = absurd (omega (arith, ap number_of h))

pub drill_write_fault : (status : Status) (rounds : ℕ) (o : Seen) (journal : Journal)
    → Drilled status rounds o journal → status ≡ exit.WriteFault → HasRisen o.before.faults o.now.faults
drill_write_fault status rounds o journal d h = risen_at d.0 rounds o journal (sym d.1 ∙ h) d.2

complete_at : (e : DrillEnd) (status : Status) (rounds : ℕ) (o : Seen) (journal : Journal) → status ≡ drill_status e
    → DrillSays e rounds o journal → IsDrilled status rounds o journal
complete_at end.Done status rounds o journal h says = λ unrisen. inl (h, says.0, says.1)
complete_at end.WriteFault status rounds o journal h says = λ unrisen. absurd (unrisen says.1.risen)
complete_at end.NoMemory status rounds o journal h says = λ unrisen. inr h

-- all that is promised of a drill
pub of_drill : {G L S K : Type 0} (rounds : ℕ) (r : Run G L S K) → Drilled r.status rounds r.output r.journal
    → r.given.input.now.bytes ≡ r.given.input.before.bytes
    → r.served ≡ [] → OfJournal r.journal → OfDrill rounds r
of_drill {G} {L} {S} {K} rounds r d unread none journal = record {
  drills = d;
  drilled = complete_at d.0 r.status rounds r.output r.journal d.1 d.2;
  reads_none = unread;
  unserved = none;
  journal = journal;
}
