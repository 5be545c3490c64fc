-- After no step can a waiting read of `log` or of `jobs` be answered.
use Rattle.std.proofs.Common.{◌≡◌, ℕ, zero, suc, ◌+◌, ◌&&◌, Bool, true, false, not, cond, List, [], ◌∷◌, ◌++◌}
use Rattle.std.proofs.Common.{length, fold, Option, Some, None, refl, sym, ap, ◌∙◌}
use Rattle.std.specs.List.{list_all, list_any}
use Rattle.fid_table.specs.declared.types.Fid.{Fid}
use Rattle.fid_table.specs.Tables.{Tables, fid_of, fids_of}
use Rattle.wait_queue.specs.WaitState.{WaitState, must_wait}
use Rattle.wait_queue.specs.declared.types.Asker.{Asker}
use Rattle.am_text.specs.declared.job.JobLife.{JobLife}
use Rattle.acme_watch.specs.Lines.{said_of}
use Rattle.acme_watch.specs.Log.{is_reader, reader_of, without_reader}
use Rattle.acme_watch.specs.Jobs.{JobsState}
use Rattle.acme_watch.specs.Reads.{is_of_opening}
use Rattle.acme_watch.specs.Laws.{is_single}
use Rattle.acme_watch.specs.Watching.{WatchState, opening_in, waits_in, read_waits, can_answer, given_in}
use Rattle.acme_watch.specs.Watching.{after_answer, after_ask, next_of, without_next, after_next, after_serve}
use Rattle.acme_watch.specs.Watching.{answered_by}
use Rattle.acme_watch.specs.declared.types.AnswerFault.{AnswerFault}
use Rattle.acme_watch.specs.declared.types.WatchFile.{WatchFile}
use Rattle.acme_watch.specs.declared.types.WatchFile.TheVariants.{Log, Jobs}
use Rattle.acme_watch.specs.declared.types.WatchRead.{WatchRead}
use Rattle.acme_watch.proofs.EachLemmas.{any_filtered}
use Rattle.acme_watch.proofs.LogLaws.{reader_left, single_moved}
use Rattle.acme_watch.proofs.LogMoves.{Opens, Notes, Reads, Leaves}
use Rattle.core_windows.specs.Windows.{window_at}
use Rattle.core_scene.specs.declared.deed.Deed.{Deed}
use Rattle.core_scene.specs.declared.deed.Deed.TheVariants as deed
use Rattle.core_scene.specs.declared.deed.Entry.{Entry}
use Rattle.core_scene.specs.Noted.{line_of, line_of_change, with_line_if_any}
use Rattle.core_scene.specs.Scenes.{SceneState, done, done_all}
use Rattle.core_fids.specs.Fids.{watch_opening}
use Rattle.core_fids.specs.declared.effect.Effect.{Effect}
use Rattle.core_fids.specs.declared.effect.Effect.TheVariants as effect
use Rattle.core_fids.specs.declared.effect.EventChange.{EventChange}
use Rattle.core_fids.specs.declared.effect.EventChange.TheVariants as events
use Rattle.core_fids.specs.declared.effect.WatchOpening.{WatchOpening}
use Rattle.core_fids.specs.declared.refusal.Refusal.{Refusal}
use Rattle.core_watch.specs.Answering.{fault_of, written_unless, answered_with}
use Rattle.core_watch.specs.Asking.{can_open, with_opening, opened_with, read_refusal, read_unless}
use Rattle.core_watch.specs.Closing.{left_in, without_opening, without_fid, opening_in as opening_of, watch_freed}
use Rattle.core_watch.specs.Closing.{watch_without_fids, watch_cancelled}
use Rattle.core_watch.specs.declared.answering.RequestAnswer.{RequestAnswer}
use Rattle.core_watch.specs.declared.asking.ReadAt.{ReadAt}
use Rattle.core_watch.specs.Serving.{after_serving_most}
use Rattle.core_watch.specs.Sound.{IsWatchIdle}
use Rattle.core_watch.proofs.Idles.{idle_jobs_left, idle_cancel}
use Rattle.core_watch.proofs.Lists.{find_left, find_still}
pub use Rattle.core_watch.proofs.Turns.{none_said, none_taken}
use Rattle.core_watch.proofs.Turns.{idle_served}
use Rattle.core_parts.specs.declared.kind.Kind.{Kind}
use Rattle.core_parts.specs.declared.kind.Kind.TheVariants as kind
use Rattle.core_parts.specs.Doing.{Doing}
use Rattle.core_parts.specs.States.{Present, next_entry}
use Rattle.core_closing.specs.Closing.{left_watch, closed_watch}
use Rattle.core_intents.specs.Doings.{entry_of}
use Rattle.core_steps.specs.WatchReads.{followed_watch}
use Rattle.core_steps.specs.Stages.{acted, port_tables, grown_tables, watch_read_at, open_watch, grown_watch}
use Rattle.core_steps.specs.Stages.{watch_after}

-- ---- each opening of `log` has a queue of its own, whatever a step makes

abbrev pub AreSingle : WatchState → Type 0
AreSingle s = list_all is_single s.log ≡ true

line_single : (s : WatchState) (line : Option (List ℕ)) → AreSingle s → AreSingle (with_line_if_any s line)
line_single s None h = h
line_single s (Some line) h = single_moved s.log (Notes line) h

deed_single : (e : Entry) (s : SceneState) (d : Deed) → AreSingle s.watch → AreSingle (done e s d).watch
deed_single e s (deed.Windows c) h = line_single s.watch (line_of_change s.windows c) h
deed_single e s (deed.Item w item) h = h
deed_single e s (deed.Snarfs text) h = h
deed_single e s (deed.Stores path bytes) h = h
deed_single e s (deed.MakesDir path) h = h
deed_single e s (deed.Requests job) h = h
deed_single e s (deed.Notes w op) h = line_single s.watch (line_of w op (window_at s.windows w)) h
deed_single e s (deed.AddsRules sets vars text) h = h
deed_single e s deed.ClearsRules h = h
deed_single e s (deed.AddsPort name) h = h
deed_single e s (deed.Delivers port message keep) h = h

deeds_single : (e : Entry) (s : SceneState) (ds : List Deed) → AreSingle s.watch → AreSingle (done_all e s ds).watch
deeds_single e s [] h = h
deeds_single e s (d ∷ ds) h = deeds_single e (done e s d) ds (deed_single e s d h)

given_single : (s : WatchState) (file : WatchFile) (a : Asker) (at : ℕ) → AreSingle s → AreSingle (given_in s file a at)
given_single s Log a at h = single_moved s.log (Reads a) h
given_single s Jobs a at h = h

ask_single : (s : WatchState) (r : WatchRead) (at : ℕ) → AreSingle s → AreSingle (after_ask s r at)
ask_single s r at h =
    elim (read_waits s.log s.jobs r) as (λ b. AreSingle (cond b (record s { reads = s.reads ++ r ∷ [] })
    (after_answer s r at))) [
      | true ↦ h
      | false ↦ given_single s r.file r.asker at h
    ]

unless_single : (o : Option Refusal) (s : WatchState) (r : WatchRead) (at : ℕ) → AreSingle s
    → AreSingle (read_unless o s r at)
unless_single (Some refusal) s r at h = h
unless_single None s r at h = ask_single s r at h

followed_single : (t : Tables) (s : WatchState) (o : Option ReadAt) → AreSingle s → AreSingle (followed_watch t s o)
followed_single t s None h = h
followed_single t s (Some r) h = unless_single (read_refusal t s r.read) s r.read r.at h

with_single : (s : WatchState) (file : WatchFile) → AreSingle s → AreSingle (with_opening s file)
with_single s Log h = single_moved s.log (Opens (s.opened.log + 1)) h
with_single s Jobs h = h

opened_single : (s : WatchState) (e : EventChange) → AreSingle s → AreSingle (opened_with s e)
opened_single s events.Nothing h = h
opened_single s (events.Opens w) h = h
opened_single s (events.Joins port) h = h
opened_single s (events.Watches file) h =
    elim (can_open s file) as (λ b. AreSingle (cond b (with_opening s file) s)) [
      | true ↦ with_single s file h
      | false ↦ h
    ]
opened_single s (events.Cancels tag) h = h

next_single : (s : WatchState) (o : Option WatchRead) (at : ℕ) → AreSingle s → AreSingle (after_next o s at)
next_single s None at h = h
next_single s (Some r) at h = given_single (without_next s) r.file r.asker at h

served_single : (n at : ℕ) (s : WatchState) → AreSingle s → AreSingle (after_serving_most n at s)
unfolding after_serving_most
served_single zero at s h = h
served_single (suc n) at s h = served_single n at (after_serve s at) (next_single s (next_of s) at h)

-- ---- and no waiting read can be answered, whatever a step ends

pub record IsStill (s : WatchState) : Type 0 where
  pub single : AreSingle s
  pub idle : IsWatchIdle s

-- whether a read of a file can be answered
abbrev is_ready : List WaitState → JobsState → WatchFile → Asker → Bool
is_ready log jobs file a = opening_in log jobs file a.opening && not (waits_in log jobs file a)

left_waits : (log : List WaitState) (jobs : JobsState) (o : ℕ) (file : WatchFile) (a : Asker)
    → list_all is_single log ≡ true → is_ready log jobs file a ≡ false
    → is_ready (without_reader log o) jobs file a ≡ false
left_waits log jobs o Jobs a single h = h
left_waits log jobs o Log a single h = by (list_any (is_reader a.opening) (without_reader log o)) refl
  where
    by : (b : Bool) → list_any (is_reader a.opening) (without_reader log o) ≡ b
        → (b && not (must_wait (reader_of (without_reader log o) a.opening) a)) ≡ false
    by false e = refl
    by true e =
        let there : list_any (is_reader a.opening) log ≡ true =
        any_filtered (is_reader a.opening) (λ w. not (is_reader o w)) log e in
        ap (λ (q : WaitState). not (must_wait q a)) (reader_left o log a.opening single e)
        ∙ sym (ap (λ (b : Bool). b && not (must_wait (reader_of log a.opening) a)) there) ∙ h

still_left : (at : ℕ) (s : WatchState) (file : WatchFile) (o : ℕ) → IsStill s → IsStill (left_in at s file o)
still_left at s Log o h = record {
  single = single_moved s.log (Leaves o) h.single;
  idle = find_left (can_answer s.log s.jobs) (can_answer (without_reader s.log o) s.jobs)
      (λ r. not (is_of_opening Log o r)) s.reads
      (λ r apart k. left_waits s.log s.jobs o r.file r.asker h.single k) h.idle;
}
still_left at s Jobs o h = record { single = h.single; idle = idle_jobs_left s o at h.idle }

still_without : (at : ℕ) (s : WatchState) (o : Option WatchOpening) → IsStill s → IsStill (without_opening at s o)
still_without at s None h = h
still_without at s (Some o) h = still_left at s o.file o.opening h

still_fids : (at : ℕ) (s : WatchState) (fs : List (ℕ × Fid)) → IsStill s → IsStill (fold (without_fid at) s fs)
still_fids at s [] h = h
still_fids at s (f ∷ fs) h = still_fids at (without_fid at s f) fs (still_without at s (watch_opening f.1) h)

still_freed : (at : ℕ) (s : WatchState) (t : Tables) (conn : ℕ) (e : Effect) → IsStill s
    → IsStill (watch_freed at s t conn e)
still_freed at s t conn effect.Nothing h = h
still_freed at s t conn (effect.Begins msize) h = still_fids at s (fids_of t conn) h
still_freed at s t conn (effect.Puts fid value) h = h
still_freed at s t conn (effect.Frees fid) h = still_without at s (opening_of (fid_of t conn fid)) h

still_cancelled : (s : WatchState) (conn : ℕ) (e : EventChange) → IsStill s → IsStill (watch_cancelled s conn e)
still_cancelled s conn events.Nothing h = h
still_cancelled s conn (events.Opens w) h = h
still_cancelled s conn (events.Joins port) h = h
still_cancelled s conn (events.Watches file) h = h
still_cancelled s conn (events.Cancels tag) h = record { single = h.single; idle = idle_cancel s conn tag h.idle }

still_kind : (at : ℕ) (t : Tables) (k : Kind) (d : Doing) (s : WatchState) → IsStill s
    → IsStill (left_watch at t k d s)
still_kind at t (kind.Dials conn) d s h = h
still_kind at t (kind.Asks conn tag) d s h =
    still_cancelled (watch_freed at s t conn d.effect) conn d.events (still_freed at s t conn d.effect h)
still_kind at t (kind.Ends conn why) d s h = still_fids at s (fids_of t conn) h
still_kind at t (kind.Takes conn) d s h = h
still_kind at t kind.Acts d s h = h

-- ---- an answer changes lives alone

settled_waits : (log : List WaitState) (jobs : JobsState) (lives : List JobLife) (file : WatchFile) (a : Asker)
    → is_ready log jobs file a ≡ false → is_ready log (record jobs { settled = lives }) file a ≡ false
settled_waits log jobs lives Log a h = h
settled_waits log jobs lives Jobs a h = h

all_true : (rs : List WatchRead) → list_all (λ r. true) rs ≡ true
all_true [] = refl
all_true (r ∷ rs) = all_true rs

still_told : (s : WatchState) (text : List ℕ) (at : ℕ) → IsStill s → IsStill (answered_by s (said_of text) at)
still_told s text at h =
    elim (said_of text) as (λ o. IsStill (answered_by s o at)) [
      | None ↦ h
      | Some told ↦ record {
        single = h.single;
        idle = find_still (λ r. true) (can_answer s.log s.jobs) (can_answer s.log (answered_by s (Some told) at).jobs)
            s.reads
            (λ r p k. settled_waits s.log s.jobs (answered_by s (Some told) at).jobs.settled r.file r.asker k)
            (all_true s.reads) h.idle;
      }
    ]

still_unless : (o : Option AnswerFault) (s : WatchState) (text : List ℕ) (at : ℕ) → IsStill s
    → IsStill (written_unless o s text at)
still_unless (Some fault) s text at h = h
still_unless None s text at h = still_told s text at h

still_answered : (at : ℕ) (s : WatchState) (o : Option RequestAnswer) → IsStill s → IsStill (answered_with at s o)
still_answered at s None h = h
still_answered at s (Some a) h = still_unless (fault_of s a.opening a.text) s a.text at h

-- ---- a step

pub still_on : (s : Present) (k : Kind) (d : Doing) → AreSingle s.scene.watch → IsStill (watch_after s k d)
still_on s k d h =
    let at : ℕ = next_entry s in
    let t : Tables = grown_tables s k d in
    let w : WatchState = (acted s d).watch in
    let read : AreSingle (followed_watch (port_tables s k d) w (watch_read_at s k d)) =
    followed_single (port_tables s k d) w (watch_read_at s k d) (deeds_single (entry_of s d) s.scene d.deeds h) in
    let opens : AreSingle (open_watch s k d) =
    opened_single (followed_watch (port_tables s k d) w (watch_read_at s k d)) d.events read in
    let grown : IsStill (grown_watch s k d) = record {
      single = served_single (length (open_watch s k d).reads) at (open_watch s k d) opens;
      idle = idle_served at (open_watch s k d);
    } in
    still_kind at t k d (answered_with at (grown_watch s k d) d.answers)
    (still_answered at (grown_watch s k d) d.answers grown)
