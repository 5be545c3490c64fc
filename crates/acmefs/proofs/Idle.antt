-- What holds where nothing is done.
use Rattle.std.proofs.Common.{◌≡◌, inl, inr, ℕ, List, [], ◌++◌, Option, Some, None, ◌∙◌, refl, sym, ap, subst, arith}
use Rattle.std.specs.Prelude.{string_bytes}
use Rattle.std.proofs.lemmas.List.{append-nil}
use Rattle.am_base.specs.Outside.{BytesTold, AreTold, told_then}
use Rattle.am_base.specs.Seen.{Given, Seen, seen}
use Rattle.am_journal.specs.declared.event.Format.TheVariants.{One}
use Rattle.am_journal.specs.declared.event.Journal.{Journal}
use Rattle.am_journal.specs.Journal.{journal_in}
use Rattle.am_drill.specs.declared.driving.DrillEnd.TheVariants as drilling
use Rattle.am_drill.specs.Brief.{followed}
use Rattle.am_drill.specs.Drill.{events}
use Rattle.am_slots.specs.Slots.{Outside}
use Rattle.am_server.specs.declared.served.Served.{Served}
use Rattle.am_server.specs.declared.writing.ServeEnd.TheVariants as serving
use Rattle.am_words.specs.declared.asked.Asked.{Asked}
use Rattle.am_words.specs.declared.asked.Asked.TheVariants as asked
use Rattle.am_words.specs.Words.{tree_name, AreKnown}
use Rattle.am_replay.specs.declared.replaying.End.TheVariants as end
use Rattle.am_replay.specs.Scripts as scripts
use Rattle.am_replay.specs.Scripts.{script_of, replied_from, text_of}
use Rattle.am_replay.specs.Ends.{RanOut}
use Rattle.acmefs.specs.Statuses.{number_of}
use Rattle.acmefs.specs.Top.{OfAsked, OfJournal, OfWords, Run, run}
use Rattle.acmefs.specs.declared.status.Status.{Status}
use Rattle.acmefs.specs.declared.status.Status.TheVariants as exit
use Rattle.acmefs.proofs.Does as does
use Rattle.acmefs.proofs.Drills.{of_drill}
use Rattle.acmefs.proofs.PackEnds as packs
use Rattle.acmefs.proofs.Promised.{of_replay}
use Rattle.acmefs.proofs.ServeEnds.{none_complete, none_ended, none_replied}
use Rattle.acmefs.proofs.TraceEnds as traces

nothing_told : (held : Option (List ℕ)) → held ≡ told_then held []
nothing_told None = refl
nothing_told (Some bytes) = ap Some (sym (append-nil bytes))

-- want of memory before the first event
ran_out : (script : scripts.Script) (o : Seen) (journal : Journal) → o.now.bytes ≡ o.before.bytes
    → journal ≡ journal_in One [] → RanOut script o journal
unfolding replied_from
ran_out script o journal silent none = subst (RanOut script o) (sym none) (record {
  events = inl refl;
  put = ([], inl refl, (text_of script, refl), inl (silent ∙ nothing_told o.before.bytes));
})

bytes_in : Option (List ℕ) → List ℕ
bytes_in None = []
bytes_in (Some bytes) = bytes

are_told : (told : Option (List ℕ)) → AreTold told (bytes_in told)
unfolding bytes_in
are_told None = tt
are_told (Some bytes) = refl

module _ {G L S K : Type 0} where
  -- the run in which memory ran out before anything was read or written
  abbrev Nothing : Status → Outside G L S K → Given → BytesTold → Journal → List (Served G L S K) → Run G L S K
  Nothing status m i first journal served = run status m i (seen first first) journal served

  -- whatever was asked for, that is one of its ends
  asked_idle : (a : Asked) (status : Status) (m : Outside G L S K) (i : Given) (first : BytesTold)
      (journal : Journal) (served : List (Served G L S K))
      → status ≡ exit.NoMemory → i.input.now.bytes ≡ i.input.before.bytes → i.host.now ≡ i.host.before
      → journal ≡ journal_in One [] → served ≡ [] → OfJournal journal
      → OfAsked a (Nothing status m i first journal served)
  asked_idle asked.Replay status m i first journal served is unread unasked empty none of =
      of_replay (Nothing status m i first journal served) end.NoMemory is (
        bytes_in i.input.before.bytes,
        are_told i.input.before.bytes,
        ran_out (script_of (bytes_in i.input.before.bytes)) (seen first first) journal refl empty,
      ) none of
  asked_idle asked.Trace status m i first journal served is unread unasked empty none of = record {
    traces = traces.idle status i.input.before i.input.now first journal is empty;
    unserved = none;
    journal = of;
  }
  asked_idle asked.Pack status m i first journal served is unread unasked empty none of = record {
    packs = packs.idle status i.input.before i.input.now first journal is empty;
    unserved = none;
  }
  asked_idle (asked.Drill rounds) status m i first journal served is unread unasked empty none of =
      of_drill rounds (Nothing status m i first journal served)
      (drilling.NoMemory, is, ((events rounds, ap (λ (j : Journal). followed j (events rounds)) empty), (refl, refl)))
      unread none of
  asked_idle (asked.Serve path clients) status m i first journal served is unread unasked empty none of = record {
    serves = (
      serving.NoMemory,
      is,
      inr (inr (inl (refl, record { silent = refl; empty = ap (λ (j : Journal). j.events) empty; none = none }))),
    );
    replied = λ h. none_replied m journal served none;
    sound = none_ended m journal served none;
    complete = none_complete m clients i.input.before.bytes i (seen first first) journal served status is;
    journal = of;
  }
  asked_idle (asked.Do path tree) status m i first journal served is unread unasked empty none of = record {
    does = does.idle status m (tree_name tree) i (seen first first) served refl is none;
    dialled = does.none_asked m (string_bytes path) i.host served none unasked;
    empty = empty;
    journal = of;
  }

  -- memory ran out before the words were read
  pub of_want : (words : List (List ℕ)) (status : Status) (m : Outside G L S K) (i : Given) (first : BytesTold)
      (journal : Journal) (served : List (Served G L S K))
      → AreKnown words → status ≡ exit.NoMemory → i.input.now.bytes ≡ i.input.before.bytes →
      i.host.now ≡ i.host.before → journal ≡ journal_in One [] → served ≡ [] → OfJournal journal
      → OfWords words (Nothing status m i first journal served)
  of_want words status m i first journal served known is unread unasked empty none of = record {
    asked = λ a x. asked_idle a status m i first journal served is unread unasked empty none of;
    other = λ unknown. absurd (unknown known);
    usage = λ h. absurd (omega (arith, ap number_of is, ap number_of h));
    read_fault = λ h. absurd (omega (arith, ap number_of is, ap number_of h));
    idle_fault = λ h. absurd (omega (arith, ap number_of is, ap number_of h));
    write_cause = λ h. absurd (omega (arith, ap number_of is, ap number_of h));
  }
