-- What each exit status says where connections are served.
use Rattle.std.proofs.Common.{◌≡◌, ◌⊎◌, inl, inr, ℕ, Bool, true, false, cond, List, [], ◌∙◌, Option, Some, None, refl}
use Rattle.std.proofs.Common.{sym, ap, subst, ⊎_elim, arith}
use Rattle.std.specs.Prelude.{IfSome}
use Rattle.std.specs.List.{list_any, AllByRecursion}
use Rattle.am_base.specs.Outside.{HasRisen}
use Rattle.am_journal.specs.declared.event.Format.{Format}
use Rattle.am_journal.specs.declared.event.Format.TheVariants.{Two}
use Rattle.am_journal.specs.declared.event.Journal.{Journal}
use Rattle.am_journal.specs.Journal.{journal_in}
use Rattle.am_serve.specs.declared.scripting.ScriptEnd.{ScriptEnd}
use Rattle.am_serve.specs.declared.scripting.ScriptEnd.TheVariants as script
use Rattle.am_slots.specs.Slots.{Outside}
use Rattle.am_slots.specs.declared.slot.Slot.{Slot}
use Rattle.am_server.specs.Ends as ends
use Rattle.am_server.specs.Ends.{SaysServe, AllDone, end_at, end_done, wants_untold, Writes}
use Rattle.am_server.specs.Complete.{IsComplete}
use Rattle.am_server.specs.Replied.{GotAll}
use Rattle.am_server.specs.Sound.{EndsWell}
use Rattle.am_server.proofs.Completing.{says_complete}
use Rattle.am_replay.proofs.RoundTrip.{AreDone, IsDone, enabled-done, none-done}
use Rattle.acme_core.specs.Run.{IsPossible}
use Rattle.core_laws.specs.Journals.{JournalsAreLawful}
use Rattle.acmefs.specs.Top.{OfServe, run}
use Rattle.acmefs.proofs.Kept.{of_done}
use Rattle.am_server.specs.Texts.{has_failed}
use Rattle.am_server.specs.declared.served.Served.{Served}
use Rattle.am_server.specs.declared.writing.ServeEnd.{ServeEnd}
use Rattle.am_server.specs.declared.writing.ServeEnd.TheVariants as end
use Rattle.acmefs.specs.Ends.{IsServeComplete, serve_status}
use Rattle.am_base.specs.Seen.{Given, Seen}
use Rattle.acmefs.specs.declared.status.Status.{Status}
use Rattle.acmefs.specs.declared.status.Status.TheVariants as exit
use Rattle.acmefs.specs.Statuses.{number_of}

-- no end of serving has status 1
pub never_usage : (e : ServeEnd) → serve_status e ≡ exit.Usage → ⊥
never_usage end.Done h = absurd (omega (arith, ap number_of h))
never_usage end.Script h = absurd (omega (arith, ap number_of h))
never_usage end.ReadFault h = absurd (omega (arith, ap number_of h))
never_usage end.HostFault h = absurd (omega (arith, ap number_of h))
never_usage end.NoMemory h = absurd (omega (arith, ap number_of h))
never_usage end.WriteFault h = absurd (omega (arith, ap number_of h))

host_or : (b : Bool) (e : ServeEnd) (n : Status) → (exit.HostFault ≡ n → ⊥) → (serve_status e ≡ n → ⊥)
    → serve_status (cond b end.HostFault e) ≡ n → ⊥
host_or true e n f g h = f h
host_or false e n f g h = g h

done_or : (untold failed : Bool) → serve_status (end_done untold failed) ≡ exit.ReadFault → ⊥
done_or true failed h = absurd (omega (arith, ap number_of h))
done_or false true h = absurd (omega (arith, ap number_of h))
done_or false false h = absurd (omega (arith, ap number_of h))

whole_or : (untold : Bool) → serve_status (end_done untold false) ≡ exit.WriteFault → ⊥
whole_or true h = absurd (omega (arith, ap number_of h))
whole_or false h = absurd (omega (arith, ap number_of h))

-- with status 0 and 4 all was done
all_done : (e : ServeEnd) (status : Status) → status ≡ serve_status e → (status ≡ exit.Done)
    ⊎ (status ≡ exit.WriteFault) → AllDone e
all_done end.Done status is h = tt
all_done end.WriteFault status is h = tt
all_done end.Script status is h = absurd (⊎_elim (λ (x : status ≡ exit.Done).
    omega (arith, ap number_of is, ap number_of x)) (λ (x : status ≡ exit.WriteFault).
    omega (arith, ap number_of is, ap number_of x)) h)
all_done end.ReadFault status is h = absurd (⊎_elim (λ (x : status ≡ exit.Done).
    omega (arith, ap number_of is, ap number_of x)) (λ (x : status ≡ exit.WriteFault).
    omega (arith, ap number_of is, ap number_of x)) h)
all_done end.HostFault status is h = absurd (⊎_elim (λ (x : status ≡ exit.Done).
    omega (arith, ap number_of is, ap number_of x)) (λ (x : status ≡ exit.WriteFault).
    omega (arith, ap number_of is, ap number_of x)) h)
all_done end.NoMemory status is h = absurd (⊎_elim (λ (x : status ≡ exit.Done).
    omega (arith, ap number_of is, ap number_of x)) (λ (x : status ≡ exit.WriteFault).
    omega (arith, ap number_of is, ap number_of x)) h)

module _ {G L S K : Type 0} where
  -- after a script was done no end tells of the input
  no_read_fault : (slots : List (Slot G L S K)) (s : ScriptEnd) (failed : Bool)
      → serve_status (end_at slots s failed) ≡ exit.ReadFault → ⊥
  no_read_fault slots (script.Refused line why) failed h = absurd (omega (arith, ap number_of h))
  no_read_fault slots script.NoMemory failed h = host_or (list_any has_failed slots) end.NoMemory exit.ReadFault
      (λ x. absurd (omega (arith, ap number_of x))) (λ x. absurd (omega (arith, ap number_of x))) h
  no_read_fault slots script.Done failed h =
      host_or (list_any has_failed slots) (end_done (list_any wants_untold slots) failed) exit.ReadFault
      (λ x. absurd (omega (arith, ap number_of x))) (done_or (list_any wants_untold slots) failed) h

  -- and none of the output, where that has not failed
  no_write_fault : (slots : List (Slot G L S K)) (s : ScriptEnd) →
      serve_status (end_at slots s false) ≡ exit.WriteFault → ⊥
  no_write_fault slots (script.Refused line why) h = absurd (omega (arith, ap number_of h))
  no_write_fault slots script.NoMemory h = host_or (list_any has_failed slots) end.NoMemory exit.WriteFault
      (λ x. absurd (omega (arith, ap number_of x))) (λ x. absurd (omega (arith, ap number_of x))) h
  no_write_fault slots script.Done h =
      host_or (list_any has_failed slots) (end_done (list_any wants_untold slots) false) exit.WriteFault
      (λ x. absurd (omega (arith, ap number_of x))) (whole_or (list_any wants_untold slots)) h

  writes_read : (journal : Journal) (slots : List (Slot G L S K)) (s : ScriptEnd) (o : Seen) (e : ServeEnd)
      → serve_status e ≡ exit.ReadFault → Writes journal slots s o e → ⊥
  writes_read journal slots s o e h (inl w) = no_read_fault slots s false (ap serve_status (sym w.0) ∙ h)
  writes_read journal slots s o e h (inr (inl w)) = no_read_fault slots s true (ap serve_status (sym w.0) ∙ h)
  writes_read journal slots s o e h (inr (inr w)) = absurd (omega (
    arith,
    ap number_of (ap serve_status w.0),
    ap number_of h,
  ))

  writes_fault : (journal : Journal) (slots : List (Slot G L S K)) (s : ScriptEnd) (o : Seen) (e : ServeEnd)
      → serve_status e ≡ exit.WriteFault → Writes journal slots s o e → HasRisen o.before.faults o.now.faults
  writes_fault journal slots s o e h (inl w) = absurd (no_write_fault slots s (ap serve_status (sym w.0) ∙ h))
  writes_fault journal slots s o e h (inr (inl w)) = w.1.risen
  writes_fault journal slots s o e h (inr (inr w)) = absurd (omega (
    arith,
    ap number_of (ap serve_status w.0),
    ap number_of h,
  ))

  too_long_ends : (o : Seen) (journal : Journal) (served : List (Served G L S K)) (e : ServeEnd)
      → ends.IsTooLong o journal served e → (serve_status e ≡ exit.Refused) ⊎ (serve_status e ≡ exit.NoMemory)
  too_long_ends o journal served e t = ⊎_elim (λ w. inl (ap serve_status w.0)) (λ w. inr (ap serve_status w.0)) t.put

  -- status 3 comes only where the input's count has risen
  pub serve_read_fault : (m : Outside G L S K) (path : List ℕ) (clients : ℕ) (i : Given) (o : Seen)
      (journal : Journal) (served : List (Served G L S K)) (status : Status) (e : ServeEnd)
      → status ≡ serve_status e → SaysServe m path clients i o journal served e
      → status ≡ exit.ReadFault → HasRisen i.input.before.faults i.input.now.faults
      × (o.now.bytes ≡ o.before.bytes) × (journal ≡ journal_in Two [])
  serve_read_fault m path clients i o journal served status e is (inl s) h =
      (s.1, s.2.silent, ap (λ (f : Format). journal_in f journal.events) s.3 ∙ ap (journal_in Two) s.2.empty)
  serve_read_fault m path clients i o journal served status e is (inr (inl (long, t))) h =
      ⊎_elim (λ (x : serve_status e ≡ exit.Refused). absurd (omega (
        arith,
        ap number_of x,
        ap number_of is,
        ap number_of h,
      ))) (λ (x : serve_status e ≡ exit.NoMemory).
      absurd (omega (arith, ap number_of x, ap number_of is, ap number_of h))) (too_long_ends o journal served e t)
  serve_read_fault m path clients i o journal served status e is (inr (inr (inl w))) h =
      absurd (omega (arith, ap number_of (ap serve_status w.0), ap number_of is, ap number_of h))
  serve_read_fault m path clients i o journal served status e is (inr (inr (inr (lines, told, fits, s)))) h =
      absurd (writes_read journal s.slots s.done o e (sym is ∙ h) s.writes)

  -- status 4 comes only where the output's count has risen
  pub serve_write_fault : (m : Outside G L S K) (path : List ℕ) (clients : ℕ) (i : Given) (o : Seen)
      (journal : Journal) (served : List (Served G L S K)) (status : Status) (e : ServeEnd)
      → status ≡ serve_status e → SaysServe m path clients i o journal served e
      → status ≡ exit.WriteFault → HasRisen o.before.faults o.now.faults
  serve_write_fault m path clients i o journal served status e is (inl s) h =
      absurd (omega (arith, ap number_of (ap serve_status s.0), ap number_of is, ap number_of h))
  serve_write_fault m path clients i o journal served status e is (inr (inl (long, t))) h =
      ⊎_elim (λ (x : serve_status e ≡ exit.Refused). absurd (omega (
        arith,
        ap number_of x,
        ap number_of is,
        ap number_of h,
      ))) (λ (x : serve_status e ≡ exit.NoMemory).
      absurd (omega (arith, ap number_of x, ap number_of is, ap number_of h))) (too_long_ends o journal served e t)
  serve_write_fault m path clients i o journal served status e is (inr (inr (inl w))) h =
      absurd (omega (arith, ap number_of (ap serve_status w.0), ap number_of is, ap number_of h))
  serve_write_fault m path clients i o journal served status e is (inr (inr (inr (lines, told, fits, s)))) h =
      writes_fault journal s.slots s.done o e (sym is ∙ h) s.writes

  -- where nothing was served, no sink lacks a reply
  pub none_replied : (m : Outside G L S K) (journal : Journal) (served : List (Served G L S K)) → served ≡ []
      → AllByRecursion (GotAll m journal) served
  none_replied m journal served none = subst (λ (l : List (Served G L S K)). AllByRecursion (GotAll m journal) l)
      (sym none) tt

  -- with status 0 and 4 each sink that has not failed got all replies
  serve_replied : (m : Outside G L S K) (path : List ℕ) (clients : ℕ) (i : Given) (o : Seen) (journal : Journal)
      (served : List (Served G L S K)) (status : Status) (e : ServeEnd)
      → status ≡ serve_status e → SaysServe m path clients i o journal served e → (status ≡ exit.Done)
      ⊎ (status ≡ exit.WriteFault) → AllByRecursion (GotAll m journal) served
  serve_replied m path clients i o journal served status e is (inl s) h = none_replied m journal served s.2.none
  serve_replied m path clients i o journal served status e is (inr (inl (long, t))) h = none_replied m journal served
      t.none
  serve_replied m path clients i o journal served status e is (inr (inr (inl w))) h = none_replied m journal served
      w.1.none
  serve_replied m path clients i o journal served status e is (inr (inr (inr (lines, told, fits, s)))) h =
      s.replied (all_done e status is h)

nothing_done : (journal : Journal) → journal.events ≡ [] → IsDone journal
nothing_done journal e = subst (AreDone (journal_in journal.format [])) (sym e) tt

module _ {G L S K : Type 0} where
  -- where nothing was served, none ended otherwise
  pub none_ended : (m : Outside G L S K) (journal : Journal) (served : List (Served G L S K)) → served ≡ []
      → AllByRecursion (EndsWell m journal) served
  none_ended m journal served none = subst (λ (l : List (Served G L S K)). AllByRecursion (EndsWell m journal) l)
      (sym none) tt

  -- a connection with sound objects ends well
  serve_sound : (m : Outside G L S K) (path : List ℕ) (clients : ℕ) (i : Given) (o : Seen) (journal : Journal)
      (served : List (Served G L S K)) (e : ServeEnd)
      → SaysServe m path clients i o journal served e → AllByRecursion (EndsWell m journal) served
  serve_sound m path clients i o journal served e (inl s) = none_ended m journal served s.2.none
  serve_sound m path clients i o journal served e (inr (inl (long, t))) = none_ended m journal served t.none
  serve_sound m path clients i o journal served e (inr (inr (inl w))) = none_ended m journal served w.1.none
  serve_sound m path clients i o journal served e (inr (inr (inr (lines, told, fits, s)))) = s.sound

  -- the journal's events were enabled, and their numbers fit their fields
  serve_done : (m : Outside G L S K) (path : List ℕ) (clients : ℕ) (i : Given) (o : Seen) (journal : Journal)
      (served : List (Served G L S K)) (e : ServeEnd)
      → SaysServe m path clients i o journal served e → IsDone journal
  serve_done m path clients i o journal served e (inl s) = nothing_done journal s.2.empty
  serve_done m path clients i o journal served e (inr (inl (long, t))) = none-done Two journal t.empty
  serve_done m path clients i o journal served e (inr (inr (inl w))) = nothing_done journal w.1.empty
  serve_done m path clients i o journal served e (inr (inr (inr (lines, told, fits, s)))) = enabled-done journal
      s.played s.in_range

  complete_as : (m : Outside G L S K) (clients : ℕ) (lines : List ℕ) (i : Given) (o : Seen) (journal : Journal)
      (served : List (Served G L S K)) (status : Status) (e : ServeEnd)
      → status ≡ serve_status e → IsComplete m clients lines i o journal served e
      → IsServeComplete status m clients lines i o journal served
  complete_as m clients lines i o journal served status e is h = λ n. ⊎_elim (λ w. inl (is ∙ ap serve_status w.0, w.1))
      (λ w. inr (is ∙ ap serve_status w)) (h n)

  -- a script that tells its bytes is done, and its text written, where nothing fails
  serve_complete : (m : Outside G L S K) (path : List ℕ) (clients : ℕ) (i : Given) (o : Seen) (journal : Journal)
      (served : List (Served G L S K)) (status : Status) (e : ServeEnd)
      → status ≡ serve_status e → SaysServe m path clients i o journal served e
      → IfSome i.input.before.bytes (λ bytes. IsServeComplete status m clients bytes i o journal served)
  serve_complete m path clients i o journal served status e is says = by_case i.input.before.bytes refl
    where
      by_case : (t : Option (List ℕ)) → i.input.before.bytes ≡ t → IfSome t
          (λ bytes. IsServeComplete status m clients bytes i o journal served)
      by_case None told = tt
      by_case (Some bytes) told = complete_as m clients bytes i o journal served status e is
          (says_complete m path clients bytes i o journal served e told says)

  pub none_complete : (m : Outside G L S K) (clients : ℕ) (told : Option (List ℕ)) (i : Given) (o : Seen)
      (journal : Journal) (served : List (Served G L S K)) (status : Status)
      → status ≡ exit.NoMemory → IfSome told (λ bytes. IsServeComplete status m clients bytes i o journal served)
  none_complete m clients None i o journal served status is = tt
  none_complete m clients (Some bytes) i o journal served status is = λ h. inr is

  -- all that is promised of serving
  pub of_serve : JournalsAreLawful → (m : Outside G L S K) (path : List ℕ) (clients : ℕ) (i : Given) (o : Seen)
      (journal : Journal) (served : List (Served G L S K)) (status : Status) (e : ServeEnd)
      → status ≡ serve_status e → SaysServe m path clients i o journal served e → IsPossible journal
      → OfServe path clients (run status m i o journal served)
  of_serve all m path clients i o journal served status e is says possible = record {
    serves = (e, is, says);
    replied = serve_replied m path clients i o journal served status e is says;
    sound = serve_sound m path clients i o journal served e says;
    complete = serve_complete m path clients i o journal served status e is says;
    journal = of_done all journal (serve_done m path clients i o journal served e says) possible;
  }
