-- What a trace comes to, from how it ended.
use Rattle.std.proofs.Common.{◌≡◌, ◌⊎◌, inl, inr, ℕ, List, [], Option, Some, None, refl, sym, ap, subst, arith}
use Rattle.std.specs.Prelude.{IfSome}
use Rattle.am_base.specs.Outside.{BytesTold, AreTold, HasRisen}
use Rattle.am_base.specs.Seen.{Seen, seen}
use Rattle.am_journal.specs.declared.event.Format.TheVariants.{One}
use Rattle.am_journal.specs.declared.event.Journal.{Journal}
use Rattle.am_journal.specs.Journal.{journal_in}
use Rattle.am_replay.specs.declared.replaying.End.{End}
use Rattle.am_replay.specs.declared.replaying.End.TheVariants.{Done, Usage, Script, ReadFault, WriteFault, NoMemory}
use Rattle.acmefs.specs.Ends.{status_of}
use Rattle.am_replay.specs.Ends.{IsIdle}
use Rattle.am_replay.specs.Scripts as scripts
use Rattle.am_replay.specs.Scripts.{script_of}
use Rattle.acmefs.specs.Traces.{IsTraced, TraceEnds}
use Rattle.am_replay.specs.Traces.{Traces, TracesSome, TraceSays, AllHaveWords, PacksBack}
use Rattle.am_replay.proofs.PackBack.{packs_back}
use Rattle.am_replay.proofs.RoundTrip.{IsDone, none-done, part-done, script-done}
use Rattle.am_replay.proofs.Traced.{says_none}
use Rattle.acmefs.specs.declared.status.Status.{Status}
use Rattle.acmefs.specs.declared.status.Status.TheVariants as exit
use Rattle.acmefs.specs.Statuses.{number_of}

-- ---- its statuses

pub usage : (end : End) (status : Status) (before now : BytesTold) (o : Seen) (journal : Journal)
    → status ≡ status_of end → TraceSays end before now o journal → status ≡ exit.Usage → ⊥
usage Done status before now o journal e p h = absurd (omega (arith, ap number_of e, ap number_of h))
usage Usage status before now o journal e p h = absurd p
usage Script status before now o journal e p h = absurd (omega (arith, ap number_of e, ap number_of h))
usage ReadFault status before now o journal e p h = absurd (omega (arith, ap number_of e, ap number_of h))
usage WriteFault status before now o journal e p h = absurd (omega (arith, ap number_of e, ap number_of h))
usage NoMemory status before now o journal e p h = absurd (omega (arith, ap number_of e, ap number_of h))

pub read_fault : (end : End) (status : Status) (before now : BytesTold) (o : Seen) (journal : Journal)
    → status ≡ status_of end → TraceSays end before now o journal → status ≡ exit.ReadFault → IsIdle One o journal
    × HasRisen before.faults now.faults
read_fault Done status before now o journal e p h = absurd (omega (arith, ap number_of e, ap number_of h))
read_fault Usage status before now o journal e p h = absurd p
read_fault Script status before now o journal e p h = absurd (omega (arith, ap number_of e, ap number_of h))
read_fault ReadFault status before now o journal e p h = p
read_fault WriteFault status before now o journal e p h = absurd (omega (arith, ap number_of e, ap number_of h))
read_fault NoMemory status before now o journal e p h = absurd (omega (arith, ap number_of e, ap number_of h))

pub write_cause : (end : End) (status : Status) (before now : BytesTold) (o : Seen) (journal : Journal)
    → status ≡ status_of end → TraceSays end before now o journal → status ≡ exit.WriteFault → HasRisen o.before.faults
    o.now.faults
write_cause Done status before now o journal e p h = absurd (omega (arith, ap number_of e, ap number_of h))
write_cause Usage status before now o journal e p h = absurd p
write_cause Script status before now o journal e p h = absurd (omega (arith, ap number_of e, ap number_of h))
write_cause ReadFault status before now o journal e p h = absurd (omega (arith, ap number_of e, ap number_of h))
write_cause WriteFault status before now o journal e p h = p.2.2.risen
write_cause NoMemory status before now o journal e p h = absurd (omega (arith, ap number_of e, ap number_of h))

-- ---- completeness

told_part : (end : End) (status : Status) (told : Option (List ℕ)) (before now : BytesTold) (o : Seen)
    (journal : Journal) → TracesSome end told o journal
    → ((script : scripts.Script) → Traces end script o journal → IsTraced status script before now o journal)
    → IfSome told (λ bytes. IsTraced status (script_of bytes) before now o journal)
told_part end status None before now o journal r f = tt
told_part end status (Some bytes) before now o journal r f = f (script_of bytes)
    (subst (λ (x : List ℕ). Traces end (script_of x) o journal) (sym r.1) r.2)

risen_in : (told : Option (List ℕ)) (status : Status) (before now : BytesTold) (o : Seen) (journal : Journal)
    → HasRisen before.faults now.faults → IfSome told (λ bytes. IsTraced status (script_of bytes) before now o journal)
risen_in None status before now o journal r = tt
risen_in (Some bytes) status before now o journal r = λ none in_ok out_ok. absurd (in_ok r)

complete : (end : End) (status : Status) (before now : BytesTold) (o : Seen) (journal : Journal)
    → status ≡ status_of end → TraceSays end before now o journal → IfSome before.bytes
    (λ bytes. IsTraced status (script_of bytes) before now o journal)
complete Done status before now o journal e p = told_part Done status before.bytes before now o journal p
    (λ s r none in_ok out_ok. inl (e, r))
complete Usage status before now o journal e p = absurd p
complete Script status before now o journal e p = told_part Script status before.bytes before now o journal p
    (λ s r none in_ok out_ok. absurd (let a = r.1.1 in cc))
complete ReadFault status before now o journal e p = risen_in before.bytes status before now o journal p.1
complete WriteFault status before now o journal e p = told_part WriteFault status before.bytes before now o journal p
    (λ s r none in_ok out_ok. absurd (out_ok r.2.risen))
complete NoMemory status before now o journal e p = told_part NoMemory status before.bytes before now o journal p
    (λ s r none in_ok out_ok. inr e)

-- ---- its events were done

traces-done : (end : End) (script : scripts.Script) (o : Seen) (journal : Journal) → IsDone script.journal
    → Traces end script o journal → IsDone journal
traces-done Done script o journal d h = subst IsDone (sym h.0) d
traces-done Usage script o journal d h = absurd h
traces-done Script script o journal d h = subst IsDone (sym h.0) d
traces-done ReadFault script o journal d h = absurd h
traces-done WriteFault script o journal d h = subst IsDone (sym h.0) d
traces-done NoMemory script o journal d h = part-done journal script.journal h.0 d

pub says-done : (end : End) (before now : BytesTold) (o : Seen) (journal : Journal)
    → TraceSays end before now o journal → IsDone journal
says-done Done before now o journal h = traces-done Done (script_of h.0) o journal (script-done h.0) h.2
says-done Usage before now o journal h = absurd h
says-done Script before now o journal h = traces-done Script (script_of h.0) o journal (script-done h.0) h.2
says-done ReadFault before now o journal h = none-done One journal h.0.empty
says-done WriteFault before now o journal h = traces-done WriteFault (script_of h.0) o journal (script-done h.0) h.2
says-done NoMemory before now o journal h = traces-done NoMemory (script_of h.0) o journal (script-done h.0) h.2

done_back : (end : End) (status : Status) (before now : BytesTold) (o : Seen) (journal : Journal)
    → status ≡ status_of end → TraceSays end before now o journal → status ≡ exit.Done → PacksBack journal
done_back Done status before now o journal e p h = packs_back journal (says-done Done before now o journal p) p.2.3
done_back Usage status before now o journal e p h = absurd p
done_back Script status before now o journal e p h = absurd (omega (arith, ap number_of e, ap number_of h))
done_back ReadFault status before now o journal e p h = absurd (omega (arith, ap number_of e, ap number_of h))
done_back WriteFault status before now o journal e p h = absurd (omega (arith, ap number_of e, ap number_of h))
done_back NoMemory status before now o journal e p h = absurd (omega (arith, ap number_of e, ap number_of h))

-- ---- the whole

pub ends : (end : End) (status : Status) (before now : BytesTold) (o : Seen) (journal : Journal)
    → status ≡ status_of end → TraceSays end before now o journal → TraceEnds status before now o journal
ends end status before now o journal e p = record {
  says = (end, e, p);
  complete = complete end status before now o journal e p;
  packs_back = done_back end status before now o journal e p;
}

-- memory ran out before the words were read
pub idle : (status : Status) (before now first : BytesTold) (journal : Journal)
    → status ≡ exit.NoMemory → journal ≡ journal_in One []
    → TraceEnds status before now (seen first first) journal
idle status before now first journal e none =
    ends NoMemory status before now (seen first first) journal e
    (subst (λ (j : Journal). TraceSays NoMemory before now (seen first first) j) (sym none)
    (says_none before now first))
