-- Where nothing outside fails and no line is refused, all is done and written, or memory runs out.
use Rattle.std.proofs.Common.{◌≡◌, ◌⊎◌, inl, inr, ℕ, zero, suc, ◌+◌, ◌<◌, ◌≤◌, Bool, true, false, cond, List, [], ◌∷◌}
use Rattle.std.proofs.Common.{◌++◌, ◌∙◌, length, Option, Some, None, refl, sym, ap, subst, arith, append_assoc}
use Rattle.std.specs.Prelude.{◌||◌, IfSome, filter}
use Rattle.std.specs.List.{list_any, AllByRecursion}
use Rattle.std.proofs.lemmas.Bool.{or_from}
use Rattle.std.proofs.lemmas.List.{append-nil, length-append}
use Rattle.std.proofs.lemmas.List.Elements.{filter-append}
use Rattle.am_base.specs.Outside.{AreTold, HasRisen}
use Rattle.am_base.specs.Stops.{input_limit}
use Rattle.am_base.specs.Seen.{Given, Seen}
use Rattle.am_base.specs.Written.{IsWhole}
use Rattle.am_journal.specs.declared.event.Event.{Event}
use Rattle.am_journal.specs.declared.event.Journal.{Journal}
use Rattle.am_journal.specs.declared.event.Format.{Format}
use Rattle.am_journal.specs.Journal.{behind_heading, journal_text}
use Rattle.am_journal.specs.Report.{report_text}
use Rattle.am_counter.specs.Known.{Known, Looks, Submits}
use Rattle.am_counter.specs.Played.{IsPrefix}
use Rattle.acme_core.specs.Asks.{answers_in}
use Rattle.acme_core.specs.Run.{enabled_in}
use Rattle.acme_core.specs.Views.{view_of}
use Rattle.am_serve.specs.Gained.{plain}
use Rattle.am_serve.specs.Script.{PassesLine, Passes, asked_by_script, asked_events, is_scripted}
use Rattle.am_serve.specs.declared.asked.Asked.{Asked}
use Rattle.am_serve.specs.declared.asked.Asked.TheVariants.{Does, Awaits, Ends, Faulty}
use Rattle.am_serve.specs.declared.fault.LineFault.{LineFault}
use Rattle.am_serve.specs.declared.scripting.ScriptEnd.{ScriptEnd}
use Rattle.am_serve.specs.declared.scripting.ScriptEnd.TheVariants as script
use Rattle.am_text.specs.Lines.{lines_of}
use Rattle.am_slots.proofs.Scripted.{AreScripted, lines_scripted, front_scripted}
use Rattle.am_slots.specs.Serving.{EachTells, DidScript, unseen}
use Rattle.am_slots.specs.Slots.{Outside, unbound, HasRisenBy}
use Rattle.am_slots.specs.declared.slot.Slot.{Slot}
use Rattle.am_slots.specs.declared.slot.Slot.TheVariants as slot
use Rattle.am_server.proofs.Replying.{risen_above}
use Rattle.am_server.specs.Complete.{IsCalm, IsComplete, NoneRefused, whole_text}
use Rattle.am_server.specs.Ends.{SaysServe, Serves, Writes, end_at, end_done, wants_untold}
use Rattle.am_server.specs.Served.{served_from}
use Rattle.am_server.specs.Texts.{has_failed, host_line, host_text, served_text}
use Rattle.am_server.specs.declared.served.Served.{Served}
use Rattle.am_server.specs.declared.writing.ServeEnd.{ServeEnd}
use Rattle.am_server.specs.declared.writing.ServeEnd.TheVariants as end

-- ---- the script

scripted_in : List Event → ℕ
scripted_in journal = length (filter is_scripted journal)

longer : (xs ys : List Event) → IsPrefix xs ys → scripted_in xs ≤ scripted_in ys
unfolding scripted_in
longer xs ys p =
    let whole : filter is_scripted ys ≡ filter is_scripted xs ++ filter is_scripted p.0 = ap (filter is_scripted)
    (sym p.1) ∙ filter-append is_scripted xs p.0 in
    omega (arith, ap length whole, length-append (filter is_scripted xs) (filter is_scripted p.0))

one_longer : (now : List Event) (e : Event) → is_scripted e ≡ true → scripted_in (now ++ e ∷ []) ≡ scripted_in now + 1
unfolding scripted_in
one_longer now e is =
    let last : filter is_scripted (e ∷ []) ≡ e ∷ [] = ap (λ (b : Bool). cond b (e ∷ []) []) is in
    let whole : filter is_scripted (now ++ e ∷ []) ≡ filter is_scripted now
    ++ e ∷ [] = filter-append is_scripted now (e ∷ []) ∙ ap (λ (l : List Event). filter is_scripted now ++ l)
    last in
    omega (arith, ap length whole, length-append (filter is_scripted now) (e ∷ []))

-- what was seen has the events of the lines that were passed
passed_longer : (f : Format) (lines : List Asked) (v w : Known) → AreScripted lines
    → Passes (enabled_in f) (answers_in f) v lines w
    → scripted_in v.seen + length (asked_events lines) ≤ scripted_in w.seen
unfolding Passes
passed_longer f [] v w are p =
    omega (arith, longer v.seen p.0 p.1, ap (λ (k : Known). scripted_in k.seen) p.2)
passed_longer f (Does e ∷ lines) v w are (u, one, others) =
    let s = one.1 in
    omega (
      arith,
      longer v.seen s.0 s.1,
      one_longer s.0 e are.0,
      ap (λ (k : Known). scripted_in k.seen) s.4,
      passed_longer f lines u w are.1 others,
    )
passed_longer f (Awaits x ∷ lines) v w are (u, one, others) =
    omega (
      arith,
      longer v.seen one.0.0 one.0.1,
      ap (λ (k : Known). scripted_in k.seen) one.0.2,
      passed_longer f lines u w are.1 others,
    )
passed_longer f (Ends ∷ lines) v w are (u, one, others) = absurd one
passed_longer f (Faulty ∷ lines) v w are (u, one, others) = absurd one

no_events : (xs : List Event) → length xs ≡ 0 → xs ≡ []
no_events [] e = refl
no_events (x ∷ xs) e = absurd (omega (arith, e))

-- what was seen where a line is refused has the events of the lines before it, and no other of a script
seen_before : (journal seen : List Event) (events : List Event) → IsPrefix seen journal
    → filter is_scripted journal ≡ events → length events ≤ scripted_in seen → filter is_scripted seen ≡ events
unfolding scripted_in
seen_before journal seen events p is enough =
    let whole : events ≡ filter is_scripted seen ++ filter is_scripted p.0 = sym is ∙ ap (filter is_scripted) (sym p.1)
    ∙ filter-append is_scripted seen p.0 in
    let none : filter is_scripted p.0 ≡ [] = no_events _ (omega (
      arith,
      ap length whole,
      length-append (filter is_scripted seen) (filter is_scripted p.0),
      enough,
    )) in
    sym (whole ∙ ap (λ (l : List Event). filter is_scripted seen ++ l) none ∙ append-nil (filter is_scripted seen))

not_refused : (clients : ℕ) (lines : List ℕ) (journal : Journal) (line : ℕ) (fault : LineFault)
    → NoneRefused clients lines journal
    → DidScript (enabled_in journal.format) (answers_in journal.format) clients lines journal.events
    (script.Refused line fault) → ⊥
not_refused clients lines journal line fault none d =
    let r = d.did in
    let events : plain d.known.mine ≡ asked_events r.before = r.passed.events in
    let are : AreScripted r.before = front_scripted r.before (r.refused ∷ r.after)
    (subst AreScripted r.split (lines_scripted (behind_heading (lines_of lines)))) in
    let enough : length (asked_events r.before) ≤ scripted_in d.known.seen =
    omega (arith, passed_longer journal.format r.before unseen d.known are r.passed.passes) in
    none r.before r.after r.refused fault d.known.seen r.split d.seen
    (seen_before journal.events d.known.seen (asked_events r.before) d.seen (d.events ∙ events) enough) r.cause

-- ---- the outside

none_unbound : (n before now : ℕ) → HasRisenBy n before now → ¬ HasRisen before now → n ≡ 0
none_unbound zero before now h calm = refl
none_unbound (suc n) before now (inl le) calm = absurd (calm (inl (omega (arith, le))))
none_unbound (suc n) before now (inr le) calm = absurd (calm (inr le))

module _ {G L S K : Type 0} (m : Outside G L S K) (journal : Journal) where
  none_failed : (path : List ℕ) (n : ℕ) (slots : List (Slot G L S K)) → EachTells m path n slots
      → AllByRecursion (IsCalm m) (served_from journal.events n slots) → unbound slots ≡ 0
      → list_any has_failed slots ≡ false
  none_failed path n [] tells calm bound = refl
  none_failed path n (slot.Unbound ∷ slots) tells calm bound = absurd (omega (arith, bound))
  none_failed path n (slot.Bound gate ∷ slots) tells calm bound = absurd tells.1
  none_failed path n (slot.Unlinked gate ∷ slots) tells calm bound =
      absurd (risen_above (m.gate gate).faults tells.1.0 calm.0.0)
  none_failed path n (slot.Unhalved gate link ∷ slots) tells calm bound =
      absurd (risen_above (m.link link).faults tells.1.0 calm.0.1)
  none_failed path n (slot.Undialled x refused ∷ slots) tells calm bound = none_failed path (n + 1) slots tells.2 calm.1
      bound
  none_failed path n (slot.Served x read wrote ∷ slots) tells calm bound = none_failed path (n + 1) slots tells.2 calm.1
      bound

-- ---- what is written

-- all is done and written, or memory ran out
Well : Seen → Journal → ServeEnd → Type 0
Well o journal e = ((e ≡ end.Done) × IsWhole o (whole_text journal)) ⊎ (e ≡ end.NoMemory)

whole_or_out : (o : Seen) (journal : Journal) (untold : Bool) (e : ServeEnd) → e ≡ end_done untold false
    → IsWhole o (whole_text journal) → Well o journal e
unfolding Well
whole_or_out o journal true e is whole = inr is
whole_or_out o journal false e is whole = inl (is, whole)

module _ {G L S K : Type 0} where
  no_hosts : (n : ℕ) (slots : List (Slot G L S K)) → list_any has_failed slots ≡ false → host_text n slots ≡ []
  no_hosts n [] none = refl
  no_hosts n (s ∷ slots) none = by_case (has_failed s) none (no_hosts (n + 1) slots)
    where
      by_case : (b : Bool) → (b || list_any has_failed slots) ≡ false →
          (list_any has_failed slots ≡ false → host_text (n + 1) slots ≡ []) → (cond b (host_line n) [])
          ++ host_text (n + 1) slots ≡ []
      by_case true e others = absurd cc
      by_case false e others = others e

  text_whole : (journal : Journal) (slots : List (Slot G L S K))
      → list_any has_failed slots ≡ false → served_text journal slots script.Done ≡ whole_text journal
  text_whole journal slots none =
      ap (λ (l : List ℕ). journal_text journal ++ report_text (view_of journal) ++ l ++ []) (no_hosts 0 slots none)
      ∙ append-nil (journal_text journal ++ report_text (view_of journal) ++ [])
      ∙ append-nil (journal_text journal ++ report_text (view_of journal))

  -- ---- how serving ends

  done_at : (slots : List (Slot G L S K)) → list_any has_failed slots ≡ false → end_at slots script.Done
      false ≡ end_done (list_any wants_untold slots) false
  done_at slots none = ap (λ (b : Bool). cond b end.HostFault (end_done (list_any wants_untold slots) false)) none

  wrote_well : (o : Seen) (journal : Journal) (slots : List (Slot G L S K)) (done : ScriptEnd) (e : ServeEnd)
      → ¬ HasRisen o.before.faults o.now.faults
      → list_any has_failed slots ≡ false → ((line : ℕ) (fault : LineFault) → done ≡ script.Refused line fault → ⊥)
      → Writes journal slots done o e → Well o journal e
  unfolding Well
  wrote_well o journal slots (script.Refused line fault) e calm none unrefused w = absurd (unrefused line fault refl)
  wrote_well o journal slots script.NoMemory e calm none unrefused (inl w) =
      inr (w.0 ∙ ap (λ (b : Bool). cond b end.HostFault end.NoMemory) none)
  wrote_well o journal slots script.NoMemory e calm none unrefused (inr (inl w)) = absurd (calm w.1.risen)
  wrote_well o journal slots script.NoMemory e calm none unrefused (inr (inr w)) = inr w.0
  wrote_well o journal slots script.Done e calm none unrefused (inl w) =
      whole_or_out o journal (list_any wants_untold slots) e (w.0 ∙ done_at slots none)
      (subst (λ (l : List ℕ). IsWhole o l) (text_whole journal slots none) w.1)
  wrote_well o journal slots script.Done e calm none unrefused (inr (inl w)) = absurd (calm w.1.risen)
  wrote_well o journal slots script.Done e calm none unrefused (inr (inr w)) = inr w.0

  pub served_complete : (m : Outside G L S K) (path : List ℕ) (clients : ℕ) (lines : List ℕ) (i : Given) (o : Seen)
      (journal : Journal) (served : List (Served G L S K)) (e : ServeEnd)
      → Serves m path clients lines i.host o journal served e → IsComplete m clients lines i o journal served e
  unfolding Well
  served_complete m path clients lines i o journal served e s = λ h.
      let calm = subst (λ (l : List (Served G L S K)). AllByRecursion (IsCalm m) l) s.told h.slots in
      let failed = none_failed m journal path 0 s.slots s.tells calm
      (none_unbound (unbound s.slots) i.host.before.faults i.host.now.faults s.risen h.host) in
      let unrefused : (line : ℕ) (fault : LineFault) → s.done ≡ script.Refused line fault → ⊥ =
      λ line fault is. not_refused clients lines journal line fault h.none_refused
      (subst (λ (x : ScriptEnd). DidScript (enabled_in journal.format) (answers_in journal.format) clients lines
      journal.events x) is s.run.did) in
      wrote_well o journal s.slots s.done e h.output failed unrefused s.writes

  -- where the script tells its bytes
  pub says_complete : (m : Outside G L S K) (path : List ℕ) (clients : ℕ) (lines : List ℕ) (i : Given) (o : Seen)
      (journal : Journal) (served : List (Served G L S K)) (e : ServeEnd)
      → i.input.before.bytes ≡ Some lines → SaysServe m path clients i o journal served e
      → IsComplete m clients lines i o journal served e
  says_complete m path clients lines i o journal served e told (inl s) = λ h. absurd (h.input s.1)
  says_complete m path clients lines i o journal served e told (inr (inl s)) = λ h.
      let long : input_limit < length lines = subst (λ (x : Option (List ℕ)). IfSome x
      (λ bytes. input_limit < length bytes)) told s.0 in
      absurd (omega (arith, h.fits, long))
  says_complete m path clients lines i o journal served e told (inr (inr (inl s))) = λ h. inr s.0
  says_complete m path clients lines i o journal served e told (inr (inr (inr s))) =
      let same : s.0 ≡ lines = sym (subst (λ (x : Option (List ℕ)). AreTold x s.0) told s.1) in
      subst (λ (l : List ℕ). IsComplete m clients l i o journal served e) same
      (served_complete m path clients s.0 i o journal served e s.3)
