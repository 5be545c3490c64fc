-- What each exit status of a replay says, from how it ended.
use Rattle.std.proofs.Common.{◌≡◌, inl, inr, ℕ, List, [], Option, Some, None, sym, subst, arith, ap}
use Rattle.std.specs.Prelude.{IfSome}
use Rattle.am_base.specs.Outside.{BytesTold, HasRisen}
use Rattle.am_journal.specs.declared.event.Format.TheVariants.{One}
use Rattle.am_journal.specs.declared.event.Journal.{Journal}
use Rattle.am_replay.specs.declared.replaying.End.{End}
use Rattle.am_replay.specs.declared.replaying.End.TheVariants.{Done, Usage, Script, ReadFault, WriteFault, NoMemory}
use Rattle.am_replay.specs.Scripts.{script_of}
use Rattle.am_replay.specs.Scripts as scripts
use Rattle.am_base.specs.Seen.{Seen}
use Rattle.acmefs.specs.Ends.{IsComplete, status_of}
use Rattle.am_replay.specs.Ends.{Ran, RanTold, Replays, Says, IsIdle}
use Rattle.acmefs.specs.declared.status.Status.{Status}
use Rattle.acmefs.specs.declared.status.Status.TheVariants as exit
use Rattle.acmefs.specs.Statuses.{number_of}
use Rattle.acmefs.specs.Top.{OfJournal, OfReplay, Run}
use Rattle.am_replay.proofs.OwnText.{says_own}

told_ran : (end : End) (told : Option (List ℕ)) (o : Seen) (journal : Journal) → Replays end told o journal
    → RanTold end told o journal
told_ran end None o journal r = tt
told_ran end (Some bytes) o journal r = subst (λ (x : List ℕ). Ran end (script_of x) o journal) (sym r.1) r.2

told_part : (end : End) (status : Status) (told : Option (List ℕ)) (before now : BytesTold) (o : Seen)
    (journal : Journal) → Replays end told o journal
    → ((script : scripts.Script) → Ran end script o journal → IsComplete status script before now o journal)
    → IfSome told (λ bytes. IsComplete status (script_of bytes) before now o journal)
told_part end status None before now o journal r f = tt
told_part end status (Some bytes) before now o journal r f = f (script_of bytes)
    (subst (λ (x : List ℕ). Ran end (script_of x) o journal) (sym r.1) r.2)

-- status 1 comes only for other words
pub usage : (end : End) (status : Status) (before now : BytesTold) (o : Seen) (journal : Journal)
    → status ≡ status_of end → Says end before now o journal → status ≡ exit.Usage → ⊥
usage Done status before now o journal e p h = absurd (omega (arith, ap number_of e, ap number_of h))
usage Usage status before now o journal e p h = absurd p
usage Script status before now o journal e p h = absurd (omega (arith, ap number_of e, ap number_of h))
usage ReadFault status before now o journal e p h = absurd (omega (arith, ap number_of e, ap number_of h))
usage WriteFault status before now o journal e p h = absurd (omega (arith, ap number_of e, ap number_of h))
usage NoMemory status before now o journal e p h = absurd (omega (arith, ap number_of e, ap number_of h))

-- where the input failed nothing is written or done
pub idle_fault : (end : End) (status : Status) (before now : BytesTold) (o : Seen) (journal : Journal)
    → status ≡ status_of end → Says end before now o journal → status ≡ exit.ReadFault → IsIdle One o journal
idle_fault Done status before now o journal e p h = absurd (omega (arith, ap number_of e, ap number_of h))
idle_fault Usage status before now o journal e p h = absurd p
idle_fault Script status before now o journal e p h = absurd (omega (arith, ap number_of e, ap number_of h))
idle_fault ReadFault status before now o journal e p h = p.0
idle_fault WriteFault status before now o journal e p h = absurd (omega (arith, ap number_of e, ap number_of h))
idle_fault NoMemory status before now o journal e p h = absurd (omega (arith, ap number_of e, ap number_of h))

-- status 3 comes only where the count of the input has risen
pub read_fault : (end : End) (status : Status) (before now : BytesTold) (o : Seen) (journal : Journal)
    → status ≡ status_of end → Says end before now o journal → status ≡ exit.ReadFault → HasRisen before.faults
    now.faults
read_fault Done status before now o journal e p h = absurd (omega (arith, ap number_of e, ap number_of h))
read_fault Usage status before now o journal e p h = absurd p
read_fault Script status before now o journal e p h = absurd (omega (arith, ap number_of e, ap number_of h))
read_fault ReadFault status before now o journal e p h = p.1
read_fault WriteFault status before now o journal e p h = absurd (omega (arith, ap number_of e, ap number_of h))
read_fault NoMemory status before now o journal e p h = absurd (omega (arith, ap number_of e, ap number_of h))

-- with status 0 all was done and written
pub done : (end : End) (status : Status) (before now : BytesTold) (o : Seen) (journal : Journal)
    → status ≡ status_of end → Says end before now o journal → status ≡ exit.Done → RanTold Done before.bytes o journal
done Done status before now o journal e p h = told_ran Done before.bytes o journal p
done Usage status before now o journal e p h = absurd p
done Script status before now o journal e p h = absurd (omega (arith, ap number_of e, ap number_of h))
done ReadFault status before now o journal e p h = absurd (omega (arith, ap number_of e, ap number_of h))
done WriteFault status before now o journal e p h = absurd (omega (arith, ap number_of e, ap number_of h))
done NoMemory status before now o journal e p h = absurd (omega (arith, ap number_of e, ap number_of h))

-- with status 2 a line is refused
pub script : (end : End) (status : Status) (before now : BytesTold) (o : Seen) (journal : Journal)
    → status ≡ status_of end → Says end before now o journal → status ≡ exit.Refused → RanTold Script before.bytes o
    journal
script Done status before now o journal e p h = absurd (omega (arith, ap number_of e, ap number_of h))
script Usage status before now o journal e p h = absurd p
script Script status before now o journal e p h = told_ran Script before.bytes o journal p
script ReadFault status before now o journal e p h = absurd (omega (arith, ap number_of e, ap number_of h))
script WriteFault status before now o journal e p h = absurd (omega (arith, ap number_of e, ap number_of h))
script NoMemory status before now o journal e p h = absurd (omega (arith, ap number_of e, ap number_of h))

-- with status 4 all was done and a front was written
pub write_fault : (end : End) (status : Status) (before now : BytesTold) (o : Seen) (journal : Journal)
    → status ≡ status_of end → Says end before now o journal → status ≡ exit.WriteFault → RanTold WriteFault
    before.bytes o journal
write_fault Done status before now o journal e p h = absurd (omega (arith, ap number_of e, ap number_of h))
write_fault Usage status before now o journal e p h = absurd p
write_fault Script status before now o journal e p h = absurd (omega (arith, ap number_of e, ap number_of h))
write_fault ReadFault status before now o journal e p h = absurd (omega (arith, ap number_of e, ap number_of h))
write_fault WriteFault status before now o journal e p h = told_ran WriteFault before.bytes o journal p
write_fault NoMemory status before now o journal e p h = absurd (omega (arith, ap number_of e, ap number_of h))

-- with status 6 memory ran out
pub no_memory : (end : End) (status : Status) (before now : BytesTold) (o : Seen) (journal : Journal)
    → status ≡ status_of end → Says end before now o journal → status ≡ exit.NoMemory → RanTold NoMemory before.bytes o
    journal
no_memory Done status before now o journal e p h = absurd (omega (arith, ap number_of e, ap number_of h))
no_memory Usage status before now o journal e p h = absurd p
no_memory Script status before now o journal e p h = absurd (omega (arith, ap number_of e, ap number_of h))
no_memory ReadFault status before now o journal e p h = absurd (omega (arith, ap number_of e, ap number_of h))
no_memory WriteFault status before now o journal e p h = absurd (omega (arith, ap number_of e, ap number_of h))
no_memory NoMemory status before now o journal e p h = told_ran NoMemory before.bytes o journal p

-- status 4 comes only where the count of the output has risen
pub write_cause : (end : End) (status : Status) (before now : BytesTold) (o : Seen) (journal : Journal)
    → status ≡ status_of end → Says end before now o journal → status ≡ exit.WriteFault → HasRisen o.before.faults
    o.now.faults
write_cause Done status before now o journal e p h = absurd (omega (arith, ap number_of e, ap number_of h))
write_cause Usage status before now o journal e p h = absurd p
write_cause Script status before now o journal e p h = absurd (omega (arith, ap number_of e, ap number_of h))
write_cause ReadFault status before now o journal e p h = absurd (omega (arith, ap number_of e, ap number_of h))
write_cause WriteFault status before now o journal e p h = p.2.2.risen
write_cause NoMemory status before now o journal e p h = absurd (omega (arith, ap number_of e, ap number_of h))

risen_in : (told : Option (List ℕ)) (status : Status) (before now : BytesTold) (o : Seen) (journal : Journal)
    → HasRisen before.faults now.faults
    → IfSome told (λ bytes. IsComplete status (script_of bytes) before now o journal)
risen_in None status before now o journal r = tt
risen_in (Some bytes) status before now o journal r = λ none in_ok out_ok. absurd (in_ok r)

-- an input of enabled events with no fault outside is done and written whole, or memory ran out
pub complete : (end : End) (status : Status) (before now : BytesTold) (o : Seen) (journal : Journal)
    → status ≡ status_of end → Says end before now o journal → IfSome before.bytes
    (λ bytes. IsComplete status (script_of bytes) before now o journal)
complete Done status before now o journal e p = told_part Done status before.bytes before now o journal p
    (λ s r none in_ok out_ok. inl (e, r))
complete Usage status before now o journal e p = absurd p
complete Script status before now o journal e p = told_part Script status before.bytes before now o journal p
    (λ s r none in_ok out_ok. absurd (let a = r.1.1 in cc))
complete ReadFault status before now o journal e p = risen_in before.bytes status before now o journal p.1
complete WriteFault status before now o journal e p = told_part WriteFault status before.bytes before now o journal p
    (λ s r none in_ok out_ok. absurd (out_ok r.2.risen))
complete NoMemory status before now o journal e p = told_part NoMemory status before.bytes before now o journal p
    (λ s r none in_ok out_ok. inr e)

-- all that is promised of a replay
pub of_replay : {G L S K : Type 0} (r : Run G L S K) (end : End) → r.status ≡ status_of end
    → Says end r.given.input.before r.given.input.now r.output r.journal
    → r.served ≡ [] → OfJournal r.journal → OfReplay r
of_replay {G} {L} {S} {K} r end is says none journal =
    let before : BytesTold = r.given.input.before in
    let now : BytesTold = r.given.input.now in
    record {
      done = done end r.status before now r.output r.journal is says;
      script = script end r.status before now r.output r.journal is says;
      write_fault = write_fault end r.status before now r.output r.journal is says;
      no_memory = no_memory end r.status before now r.output r.journal is says;
      complete = complete end r.status before now r.output r.journal is says;
      headline = (end, is, says);
      own_text = (end, is, says_own end before now r.output r.journal says);
      unserved = none;
      journal = journal;
    }
