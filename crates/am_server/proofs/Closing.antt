-- From what came of the slots to what serving says.
use Rattle.std.proofs.Common.{◌≡◌, ◌⊎◌, inl, inr, ℕ, ◌≤◌, Bool, true, false, List, [], ◌∷◌, ◌++◌, ◌∙◌, length, refl}
use Rattle.std.proofs.Common.{sym, ap, subst, arith}
use Rattle.std.specs.Prelude.{◌<◌, IfSome, Result, Ok, Err, is_err, OnOk, OnErr}
use Rattle.std.specs.List.{AllByRecursion}
use Rattle.turn_lock.specs.Journal.{AllStand}
use Rattle.turn_lock.specs.Kinds.{KeepsOrder}
use Rattle.am_base.specs.Outside.{AreTold, PutsFront, HasCause}
use Rattle.am_base.specs.Stops.{input_limit}
use Rattle.am_base.specs.Seen.{Given, HostSeen, Seen}
use Rattle.am_base.specs.Written.{IsWhole, IsCut, IsPut}
use Rattle.am_journal.specs.declared.event.Event.{Event}
use Rattle.am_journal.specs.declared.event.Format.{Format}
use Rattle.am_journal.specs.declared.event.Format.TheVariants.{Two}
use Rattle.am_journal.specs.declared.event.Journal.{Journal}
use Rattle.am_journal.specs.Journal.{journal_in}
use Rattle.ninep_cut.specs.Laws.{JoinsPieces, CutsNoMore}
use Rattle.am_journal.specs.Lawful.{IsLawful, IsInRange}
use Rattle.am_counter.specs.Known.{Known, lists_of}
use Rattle.am_counter.specs.Played.{IsPlayed, ArePlayed}
use Rattle.am_serve.specs.declared.scripting.ScriptEnd.{ScriptEnd}
use Rattle.acme_core.proofs.Connected.{tells_connections}
use Rattle.acme_core.specs.Asks.{answers_in}
use Rattle.acme_core.specs.Run.{enabled_in, output_in, AreEnabled}
use Rattle.am_desk.specs.Knowing.{EachOnce}
use Rattle.am_slots.proofs.Ran.{ran}
use Rattle.am_slots.specs.Serving.{EachTells, ServesAll, IsRun}
use Rattle.am_slots.specs.Slots.{Outside, unbound, HasGiven, HasRisenBy}
use Rattle.am_slots.specs.declared.slot.Slot.{Slot}
use Rattle.core_laws.specs.Laws.{EndedGetAllReplies}
use Rattle.am_server.proofs.Replying.{got_all, wrote_well}
use Rattle.am_server.proofs.Sounds.{sound_all}
use Rattle.am_server.specs.Replied.{GotAll}
use Rattle.am_server.specs.Sound.{EndsWell}
use Rattle.am_server.specs.Ends.{Writes, IsTooLong, ServesLines, SaysServe}
use Rattle.am_server.specs.Served.{served_from}
use Rattle.am_server.specs.declared.served.Served.{Served}
use Rattle.am_server.specs.declared.writing.ServeEnd.{ServeEnd}

lawful_from : (f : Format) (before events : List Event) → ArePlayed (enabled_in f) before events
    → AllByRecursion IsLawful events
unfolding ArePlayed
lawful_from f before [] p = tt
lawful_from f before (e ∷ events) p = (p.0, lawful_from f (before ++ e ∷ []) events p.2)

-- events that were played are lawful
pub lawful_played : (seen : List Event) (journal : Journal) → journal ≡ journal_in Two seen
    → IsPlayed (enabled_in Two) seen → AllByRecursion IsLawful journal.events
lawful_played seen journal is p = subst (λ (j : Journal). AllByRecursion IsLawful j.events) (sym is)
    (lawful_from Two [] seen p)

-- what an output got of a text, by what writing it answered
got : {T E : Type 0} (o : Seen) (text whole : List ℕ) (r : Result T E) → text ≡ whole → OnOk r (IsWhole o text)
    → OnErr r (PutsFront o.before.bytes text o.now.bytes) → HasCause o.before.faults o.now.faults r
    → ((is_err r ≡ false) × IsWhole o whole) ⊎ ((is_err r ≡ true) × IsCut o whole)
got o text whole (Ok x) is ok err cause = inl (refl, subst (IsWhole o) is ok)
got o text whole (Err e) is ok err cause = inr (
  refl,
  record {
    front = subst (λ (l : List ℕ). PutsFront o.before.bytes l o.now.bytes) is err;
    risen = cause.risen refl;
  },
)

pub put_one : {T E : Type 0} (o : Seen) (text whole : List ℕ) (r : Result T E) → text ≡ whole → OnOk r (IsWhole o text)
    → OnErr r (PutsFront o.before.bytes text o.now.bytes) → HasCause o.before.faults o.now.faults r
    → IsPut o whole
put_one o text whole r is ok err cause = by_cases (got o text whole r is ok err cause)
  where
    by_cases : ((is_err r ≡ false) × IsWhole o whole) ⊎ ((is_err r ≡ true) × IsCut o whole) → IsPut o whole
    by_cases (inl w) = inl w.1
    by_cases (inr c) = inr c.1

module _ {G L S K : Type 0} where
  -- the slots of one seat, which has all entries at the end
  pub served_lines : (law : EndedGetAllReplies) (joins : JoinsPieces) (breaks : CutsNoMore) (m : Outside G L S K)
      (path : List ℕ) (clients : ℕ) (lines : List ℕ) (h : HostSeen) (o : Seen) (slots : List (Slot G L S K))
      (script : ScriptEnd) (w : Known)
      (core journal : Journal) (served : List (Served G L S K)) (e : ServeEnd)
      → length slots ≡ clients → clients ≤ 64 → IsPlayed (enabled_in Two) w.seen → AllByRecursion IsInRange w.seen
      → AllStand w.seen (lists_of w) → EachOnce w → KeepsOrder w.seen (lists_of w)
      → ServesAll m (enabled_in Two) (output_in Two) (answers_in Two) clients lines slots script w
      → EachTells m path 0 slots
      → HasRisenBy (unbound slots) h.before.faults h.now.faults
      → HasGiven clients (unbound slots) h.before.given h.now.given
      → core ≡ journal_in Two w.seen → journal ≡ core → served ≡ served_from core.events 0 slots
      → Writes core slots script o e
      → ServesLines m path clients lines h o journal served e
  served_lines law joins breaks m path clients lines h o slots script w core journal served e count few played ranged
      own once order serves tells risen given same is told writes =
      let whole : journal_in Two w.seen ≡ journal = sym (is ∙ same) in
      let now_played : AreEnabled journal = subst AreEnabled whole played in
      let run : IsRun m (enabled_in journal.format) (output_in journal.format) (answers_in journal.format) clients lines
      journal.events slots script =
      subst (λ (j : Journal). IsRun m (enabled_in j.format) (output_in j.format) (answers_in j.format) clients lines
      j.events slots script) whole
      (ran m (enabled_in Two) (output_in Two) (answers_in Two) (tells_connections Two) clients lines slots script w
      played own once order count few serves) in
      let now_told : served ≡ served_from journal.events 0 slots = told
      ∙ ap (λ (j : Journal). served_from j.events 0 slots) (sym is) in
      inl record {
        slots = slots;
        done = script;
        count = count;
        format = sym (ap (λ (j : Journal). j.format) whole);
        played = now_played;
        in_range = subst (λ (j : Journal). AllByRecursion IsInRange j.events) whole ranged;
        run = run;
        tells = tells;
        risen = risen;
        given = given;
        told = now_told;
        writes = subst (λ (j : Journal). Writes j slots script o e) (sym is) writes;
        replied = λ well. subst (λ (l : List (Served G L S K)). AllByRecursion (GotAll m journal) l) (sym now_told)
            (got_all m journal law now_played path 0 slots (omega (arith, count, few)) run.each tells
            (wrote_well core slots script o e writes well));
        sound = subst (λ (l : List (Served G L S K)). AllByRecursion (EndsWell m journal) l) (sym now_told)
            (sound_all joins breaks m journal path 0 slots run.each tells);
      }

  pub says_lines : (m : Outside G L S K) (path : List ℕ) (clients : ℕ) (i : Given) (o : Seen) (journal : Journal)
      (served : List (Served G L S K)) (e : ServeEnd) (lines : List ℕ)
      → AreTold i.input.before.bytes lines → length lines ≤ input_limit
      → ServesLines m path clients lines i.host o journal served e
      → SaysServe m path clients i o journal served e
  says_lines m path clients i o journal served e lines told fits (inl s) = inr (inr (inr (lines, told, fits, s)))
  says_lines m path clients i o journal served e lines told fits (inr t) = inr (inr (inl t))

  pub says_long : (m : Outside G L S K) (path : List ℕ) (clients : ℕ) (i : Given) (o : Seen) (journal : Journal)
      (served : List (Served G L S K)) (e : ServeEnd)
      → IfSome i.input.before.bytes (λ bytes. input_limit < length bytes) → IsTooLong o journal served e
      → SaysServe m path clients i o journal served e
  says_long m path clients i o journal served e long t = inr (inl (long, t))

  -- slots that were served are told of
  pub none_told : (journal : List Event) (n : ℕ) (slots : List (Slot G L S K)) (served : List (Served G L S K))
      → served ≡ served_from journal n slots → 1 ≤ length slots → served ≡ [] → ⊥
  none_told journal n [] served is some none = absurd (omega (arith, some))
  none_told journal n (s ∷ slots) served is some none = let same : served_from journal n (s ∷ slots) ≡ [] = sym is
      ∙ none in absurd cc
