-- What packing comes to, from how it ended.
use Rattle.std.proofs.Common.{◌≡◌, ◌⊎◌, inl, inr, ℕ, List, [], Option, Some, None, refl, sym, subst, arith, ap}
use Rattle.std.specs.Prelude.{IfSome}
use Rattle.am_base.specs.Outside.{BytesTold, HasRisen}
use Rattle.am_base.specs.Seen.{Seen, seen}
use Rattle.am_journal.specs.declared.event.Format.TheVariants.{One}
use Rattle.am_journal.specs.declared.event.Journal.{Journal}
use Rattle.am_journal.specs.Journal.{journal_in}
use Rattle.am_journal.specs.Journal.{AreSpelled}
use Rattle.am_replay.specs.declared.packing.Packing.{Packing}
use Rattle.am_replay.specs.declared.program.PackEnd.{PackEnd}
use Rattle.am_replay.specs.declared.program.PackEnd.TheVariants.{Done, Script, ReadFault, WriteFault, NoMemory}
use Rattle.am_replay.specs.PackEnds.{Packs, PacksSome, PackSays}
use Rattle.am_replay.specs.Packing.{packing_of}
use Rattle.am_replay.specs.Ends as replays
use Rattle.acmefs.specs.Packs.{pack_status, IsPacked, PackEnds}
use Rattle.acmefs.specs.declared.status.Status.{Status}
use Rattle.acmefs.specs.declared.status.Status.TheVariants as exit
use Rattle.acmefs.specs.Statuses.{number_of}

pub usage : (end : PackEnd) (status : Status) → status ≡ pack_status end → status ≡ exit.Usage → ⊥
usage Done status e h = absurd (omega (arith, ap number_of e, ap number_of h))
usage Script status e h = absurd (omega (arith, ap number_of e, ap number_of h))
usage ReadFault status e h = absurd (omega (arith, ap number_of e, ap number_of h))
usage WriteFault status e h = absurd (omega (arith, ap number_of e, ap number_of h))
usage NoMemory status e h = absurd (omega (arith, ap number_of e, ap number_of h))

pub read_fault : (end : PackEnd) (status : Status) (before now : BytesTold) (o : Seen) (journal : Journal)
    → status ≡ pack_status end → PackSays end before now o journal → status ≡ exit.ReadFault
    → replays.IsIdle One o journal × HasRisen before.faults now.faults
read_fault Done status before now o journal e p h = absurd (omega (arith, ap number_of e, ap number_of h))
read_fault Script status before now o journal e p h = absurd (omega (arith, ap number_of e, ap number_of h))
read_fault ReadFault status before now o journal e p h = (record { silent = p.0.silent; empty = p.0.empty }, p.1)
read_fault WriteFault status before now o journal e p h = absurd (omega (arith, ap number_of e, ap number_of h))
read_fault NoMemory status before now o journal e p h = absurd (omega (arith, ap number_of e, ap number_of h))

pub write_cause : (end : PackEnd) (status : Status) (before now : BytesTold) (o : Seen) (journal : Journal)
    → status ≡ pack_status end → PackSays end before now o journal
    → status ≡ exit.WriteFault → HasRisen o.before.faults o.now.faults
write_cause Done status before now o journal e p h = absurd (omega (arith, ap number_of e, ap number_of h))
write_cause Script status before now o journal e p h = absurd (omega (arith, ap number_of e, ap number_of h))
write_cause ReadFault status before now o journal e p h = absurd (omega (arith, ap number_of e, ap number_of h))
write_cause WriteFault status before now o journal e p h = p.2.2.risen
write_cause NoMemory status before now o journal e p h = absurd (omega (arith, ap number_of e, ap number_of h))

told_part : (end : PackEnd) (status : Status) (told : Option (List ℕ)) (before now : BytesTold) (o : Seen)
    (journal : Journal) → PacksSome end told o journal
    → ((packing : Packing) → Packs end packing o journal → IsPacked status packing before now o journal)
    → IfSome told (λ bytes. IsPacked status (packing_of bytes) before now o journal)
told_part end status None before now o journal r f = tt
told_part end status (Some bytes) before now o journal r f = f (packing_of bytes)
    (subst (λ (x : List ℕ). Packs end (packing_of x) o journal) (sym r.1) r.2)

risen_in : (told : Option (List ℕ)) (status : Status) (before now : BytesTold) (o : Seen) (journal : Journal)
    → HasRisen before.faults now.faults → IfSome told (λ bytes. IsPacked status (packing_of bytes) before now o journal)
risen_in None status before now o journal r = tt
risen_in (Some bytes) status before now o journal r = λ none in_ok out_ok. absurd (in_ok r)

ran_out : (told : Option (List ℕ)) (status : Status) (before now : BytesTold) (o : Seen) (journal : Journal)
    → status ≡ exit.NoMemory → IfSome told (λ bytes. IsPacked status (packing_of bytes) before now o journal)
ran_out None status before now o journal e = tt
ran_out (Some bytes) status before now o journal e = λ none in_ok out_ok. inr e

complete : (end : PackEnd) (status : Status) (before now : BytesTold) (o : Seen) (journal : Journal)
    → status ≡ pack_status end → PackSays end before now o journal
    → IfSome before.bytes (λ bytes. IsPacked status (packing_of bytes) before now o journal)
complete Done status before now o journal e p = told_part Done status before.bytes before now o journal p
    (λ s r none in_ok out_ok. inl (e, r))
complete Script status before now o journal e p = told_part Script status before.bytes before now o journal p
    (λ s r none in_ok out_ok. absurd (let a = r.1.1 in cc))
complete ReadFault status before now o journal e p = risen_in before.bytes status before now o journal p.1
complete WriteFault status before now o journal e p = told_part WriteFault status before.bytes before now o journal p
    (λ s r none in_ok out_ok. absurd (out_ok r.2.risen))
complete NoMemory status before now o journal e p = ran_out before.bytes status before now o journal e

pub ends : (end : PackEnd) (status : Status) (before now : BytesTold) (o : Seen) (journal : Journal)
    → status ≡ pack_status end → PackSays end before now o journal → AreSpelled journal.events
    → PackEnds status before now o journal
ends end status before now o journal e p s = record {
  says = (end, e, p);
  complete = complete end status before now o
      journal e p;
  spelled = s;
}

-- memory ran out before the words were read
pub idle : (status : Status) (before now first : BytesTold) (journal : Journal)
    → status ≡ exit.NoMemory → journal ≡ journal_in One []
    → PackEnds status before now (seen first first) journal
idle status before now first journal e none =
    ends NoMemory status before now (seen first first) journal e (record { silent = refl; empty = none })
    (subst (λ (j : Journal). AreSpelled j.events) (sym none) (tt, tt))
