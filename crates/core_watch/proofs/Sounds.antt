-- Each call keeps what holds of the files between the steps.
use Rattle.std.proofs.Common.{◌≡◌, ℕ, ◌+◌, ◌<◌, ◌≤◌, ◌^◌, ◌&&◌, Bool, true, false, not, cond, List, [], ◌∷◌, ◌++◌, nat_le}
use Rattle.std.proofs.Common.{length, zero, suc, Option, Some, None, refl, sym, subst, arith}
use Rattle.std.specs.Prelude.{IsTrue}
use Rattle.std.specs.List.{list_all, fold}
use Rattle.std.proofs.lemmas.Bool.Decides.{nat_tests}
use Rattle.fid_table.specs.declared.types.Fid.{Fid}
use Rattle.fid_table.specs.Tables.{Tables, fids_of, fid_of}
use Rattle.am_text.specs.declared.job.Job.{Job}
use Rattle.wait_queue.specs.declared.types.Asker.{Asker}
use Rattle.acme_watch.specs.Lines.{said_of}
use Rattle.acme_watch.specs.Reads.{is_asked, is_of_opening}
use Rattle.acme_watch.specs.Laws.{count_of}
use Rattle.acme_watch.specs.Watching.{WatchState, watching, has_opening, read_waits, can_answer, given_in, after_answer}
use Rattle.acme_watch.specs.Watching.{after_ask, next_of, without_next, after_next, after_serve, with_line}
use Rattle.acme_watch.specs.Watching.{with_request}
use Rattle.acme_watch.specs.Watching.{answered_by, after_cancel, log_left, jobs_file_left}
use Rattle.acme_watch.specs.Calls.{Call, CanCall, CanCallAll, after_call, after_calls}
use Rattle.acme_watch.specs.declared.types.AnswerFault.{AnswerFault}
use Rattle.acme_watch.specs.declared.types.OpeningCounts.{OpeningCounts}
use Rattle.acme_watch.specs.declared.types.WatchFile.{WatchFile}
use Rattle.acme_watch.specs.declared.types.WatchFile.TheVariants.{Log, Jobs}
use Rattle.acme_watch.specs.declared.types.WatchRead.{WatchRead}
use Rattle.acme_watch.proofs.CallLaws.{numbered, live_on}
use Rattle.core_fids.specs.Fids.{watch_opening}
use Rattle.core_fids.specs.declared.effect.Effect.{Effect}
use Rattle.core_fids.specs.declared.effect.Effect.TheVariants as effect
use Rattle.core_fids.specs.declared.effect.EventChange.{EventChange}
use Rattle.core_fids.specs.declared.effect.EventChange.TheVariants as events
use Rattle.core_fids.specs.declared.effect.WatchOpening.{WatchOpening}
use Rattle.core_fids.specs.declared.refusal.Refusal.{Refusal}
use Rattle.core_fids.specs.declared.refusal.Refusal.TheVariants as refusal
use Rattle.core_events.specs.Sound.{is_small}
use Rattle.core_events.specs.Asking.{reads_are_full}
use Rattle.core_watch.specs.declared.answering.RequestAnswer.{RequestAnswer}
use Rattle.core_watch.specs.Answering.{fault_of, written_unless, answer_written, answered_with}
use Rattle.core_watch.specs.Asking.{can_open, with_opening, opened, opened_with, read_unless, watch_read}
use Rattle.core_watch.specs.Closing.{left_in, without_opening, without_fid, watch_without_fids, opening_in, watch_freed}
use Rattle.core_watch.specs.Closing.{watch_cancelled}
use Rattle.core_watch.specs.Serving.{after_serving_most, watch_after_serving}
use Rattle.core_watch.specs.Sound.{is_proper, IsWatchSound, IsWatchIdle, LinesKeepSound, RequestsKeepSound}
use Rattle.core_watch.proofs.Lists.{first_true, second_true, both_true, all_weaker, all_filter, all_push}
use Rattle.core_watch.proofs.Lists.{all_without_first, found_all}

-- the waiting reads of the files are proper ones
abbrev AreProper : WatchState → Type 0
AreProper s = list_all (is_proper s.opened) s.reads ≡ true

sound_call : (s : WatchState) (c : Call) → CanCall s c → IsWatchSound s → AreProper (after_call s c)
    → IsWatchSound (after_call s c)
unfolding CanCallAll after_calls
sound_call s c a h p = record {
  proper = p;
  numbered = numbered.stays s (c ∷ []) h.numbered (a, tt);
  taken = live_on.taken s (c ∷ []) h.taken (a, tt);
}

pub sound_watching : IsWatchSound watching
sound_watching = record { proper = refl; numbered = numbered.begins; taken = live_on.begins }

pub sound_line : LinesKeepSound
unfolding CanCallAll after_calls
sound_line s line h = sound_call s (Call.Note line) tt h h.proper

pub sound_request : RequestsKeepSound
sound_request s job h = sound_call s (Call.Put job) tt h h.proper

-- ---- an opening more

proper_more : (old new : OpeningCounts) → ((file : WatchFile) → count_of old file ≤ count_of new file) → (r : WatchRead)
    → is_proper old r ≡ true → is_proper new r ≡ true
proper_more old new h r p =
    let small : is_small r.asker ≡ true =
    first_true (is_small r.asker) (nat_le r.asker.opening (count_of old r.file)) p in
    let within : nat_le r.asker.opening (count_of old r.file) ≡ true =
    second_true (is_small r.asker) (nat_le r.asker.opening (count_of old r.file)) p in
    let more : count_of old r.file ≤ count_of new r.file = h r.file in
    both_true (is_small r.asker) (nat_le r.asker.opening (count_of new r.file)) small (grind (arith, nat_tests))

log_grows : (counts : OpeningCounts) (file : WatchFile)
    → count_of counts file ≤ count_of (record counts { log = counts.log + 1 }) file
log_grows counts Log = omega arith
log_grows counts Jobs = omega arith

jobs_grow : (counts : OpeningCounts) (file : WatchFile)
    → count_of counts file ≤ count_of (record counts { jobs = counts.jobs + 1 }) file
jobs_grow counts Log = omega arith
jobs_grow counts Jobs = omega arith

pub sound_with : (s : WatchState) (file : WatchFile) → IsWatchSound s → IsWatchSound (with_opening s file)
sound_with s Log h =
    sound_call s (Call.OpenLog (s.opened.log + 1)) refl h
    (all_weaker (is_proper s.opened) (is_proper (record s.opened { log = s.opened.log + 1 })) s.reads
    (proper_more s.opened (record s.opened { log = s.opened.log + 1 }) (log_grows s.opened)) h.proper)
sound_with s Jobs h =
    sound_call s (Call.OpenJobs (s.opened.jobs + 1)) refl h
    (all_weaker (is_proper s.opened) (is_proper (record s.opened { jobs = s.opened.jobs + 1 })) s.reads
    (proper_more s.opened (record s.opened { jobs = s.opened.jobs + 1 }) (jobs_grow s.opened)) h.proper)

pub sound_opened : (s : WatchState) (file : WatchFile) → IsWatchSound s → IsWatchSound (opened s file)
sound_opened s file h =
    elim (can_open s file) as (λ b. IsWatchSound (cond b (with_opening s file) s))
    [ true ↦ sound_with s file h | false ↦ h ]

pub sound_opened_with : (s : WatchState) (e : EventChange) → IsWatchSound s → IsWatchSound (opened_with s e)
sound_opened_with s events.Nothing h = h
sound_opened_with s (events.Opens w) h = h
sound_opened_with s (events.Joins port) h = h
sound_opened_with s (events.Watches file) h = sound_opened s file h
sound_opened_with s (events.Cancels tag) h = h

-- ---- a read

proper_given : (s : WatchState) (file : WatchFile) (a : Asker) (at : ℕ) → AreProper s → AreProper (given_in s file a at)
proper_given s Log a at p = p
proper_given s Jobs a at p = p

proper_read : (s : WatchState) (r : WatchRead) → IsTrue (has_opening s r.file r.asker.opening)
    → r.asker.count + 11 < 2 ^ 32 → IsWatchSound s → is_proper s.opened r ≡ true
proper_read s r there small h =
    let within : r.asker.opening ≤ count_of s.opened r.file = h.numbered.within r.file r.asker.opening there in
    both_true (is_small r.asker) (nat_le r.asker.opening (count_of s.opened r.file)) (grind (arith, nat_tests))
    (grind (arith, nat_tests))

pub sound_ask : (s : WatchState) (r : WatchRead) (at : ℕ) → IsTrue (has_opening s r.file r.asker.opening)
    → r.asker.count + 11 < 2 ^ 32 → IsWatchSound s → IsWatchSound (after_ask s r at)
sound_ask s r at there small h = sound_call s (Call.Ask r at) there h proper
  where
    waiting : WatchState
    waiting = record s { reads = s.reads ++ r ∷ [] }

    proper : AreProper (after_ask s r at)
    proper = elim (read_waits s.log s.jobs r) as (λ b. AreProper (cond b waiting (after_answer s r at))) [
      | true ↦ all_push (is_proper s.opened) s.reads r (proper_read s r there small h) h.proper
      | false ↦ proper_given s r.file r.asker at h.proper
    ]

pub sound_read : (t : Tables) (s : WatchState) (r : WatchRead) (at : ℕ) → r.asker.count + 11 < 2 ^ 32
    → IsWatchSound s → IsWatchSound (watch_read t s r at)
sound_read t s r at small h = by (has_opening s r.file r.asker.opening) refl
  where
    full : Option Refusal
    full = cond (read_waits s.log s.jobs r && reads_are_full t r.asker.conn) (Some refusal.TooManyWaitingReads) None

    unless : (o : Option Refusal) → IsTrue (has_opening s r.file r.asker.opening) → IsWatchSound (read_unless o s r at)
    unless None there = sound_ask s r at there small h
    unless (Some x) there = h

    by : (b : Bool) → has_opening s r.file r.asker.opening ≡ b → IsWatchSound (watch_read t s r at)
    by true e =
        subst (λ (b : Bool). IsWatchSound (read_unless (cond (not b) (Some refusal.FidIsNotOpen) full) s r at)) (sym e)
        (unless full e)
    by false e =
        subst (λ (b : Bool). IsWatchSound (read_unless (cond (not b) (Some refusal.FidIsNotOpen) full) s r at)) (sym e) h

-- the read that is answered next is a small one
pub next_small : (s : WatchState) (r : WatchRead) → IsWatchSound s → next_of s ≡ Some r → r.asker.count + 11 < 2 ^ 32
next_small s r h e =
    let proper : is_proper s.opened r ≡ true =
    found_all (can_answer s.log s.jobs) (is_proper s.opened) s.reads r h.proper e in
    let small : is_small r.asker ≡ true =
    first_true (is_small r.asker) (nat_le r.asker.opening (count_of s.opened r.file)) proper in
    grind (arith, nat_tests)

pub sound_served : (s : WatchState) (at : ℕ) → IsWatchSound s → IsWatchSound (after_serve s at)
sound_served s at h = sound_call s (Call.Serve at) tt h (next (next_of s))
  where
    next : (o : Option WatchRead) → AreProper (after_next o s at)
    next None = h.proper
    next (Some r) =
        proper_given (without_next s) r.file r.asker at
        (all_without_first (is_proper s.opened) (can_answer s.log s.jobs) s.reads h.proper)

serve_most : (n at : ℕ) (s : WatchState) → IsWatchSound s → IsWatchSound (after_serving_most n at s)
unfolding after_serving_most
serve_most zero at s h = h
serve_most (suc n) at s h = serve_most n at (after_serve s at) (sound_served s at h)

pub sound_all_served : (at : ℕ) (s : WatchState) → IsWatchSound s → IsWatchSound (watch_after_serving at s)
sound_all_served at s h = serve_most (length s.reads) at s h

-- ---- what ends

pub sound_log_left : (s : WatchState) (o : ℕ) → IsWatchSound s → IsWatchSound (log_left s o)
sound_log_left s o h = sound_call s (Call.LeaveLog o) tt h
    (all_filter (is_proper s.opened) (λ r. not (is_of_opening Log o r)) s.reads h.proper)

pub sound_jobs_left : (s : WatchState) (o at : ℕ) → IsWatchSound s → IsWatchSound (jobs_file_left s o at)
sound_jobs_left s o at h = sound_call s (Call.LeaveJobs o at) tt h
    (all_filter (is_proper s.opened) (λ r. not (is_of_opening Jobs o r)) s.reads h.proper)

pub sound_cancel : (s : WatchState) (conn tag : ℕ) → IsWatchSound s → IsWatchSound (after_cancel s conn tag)
sound_cancel s conn tag h = sound_call s (Call.Cancel conn tag) tt h
    (all_filter (is_proper s.opened) (λ r. not (is_asked conn tag r)) s.reads h.proper)

pub sound_left : (at : ℕ) (s : WatchState) (file : WatchFile) (opening : ℕ) → IsWatchSound s
    → IsWatchSound (left_in at s file opening)
sound_left at s Log opening h = sound_log_left s opening h
sound_left at s Jobs opening h = sound_jobs_left s opening at h

pub sound_without : (at : ℕ) (s : WatchState) (o : Option WatchOpening) → IsWatchSound s
    → IsWatchSound (without_opening at s o)
sound_without at s None h = h
sound_without at s (Some o) h = sound_left at s o.file o.opening h

sound_fids : (at : ℕ) (s : WatchState) (fs : List (ℕ × Fid)) → IsWatchSound s → IsWatchSound (fold (without_fid at) s fs)
sound_fids at s [] h = h
sound_fids at s (f ∷ fs) h = sound_fids at (without_fid at s f) fs (sound_without at s (watch_opening f.1) h)

pub sound_without_fids : (at : ℕ) (s : WatchState) (t : Tables) (conn : ℕ) → IsWatchSound s
    → IsWatchSound (watch_without_fids at s t conn)
sound_without_fids at s t conn h = sound_fids at s (fids_of t conn) h

pub sound_freed : (at : ℕ) (s : WatchState) (t : Tables) (conn : ℕ) (e : Effect) → IsWatchSound s
    → IsWatchSound (watch_freed at s t conn e)
sound_freed at s t conn effect.Nothing h = h
sound_freed at s t conn (effect.Begins msize) h = sound_without_fids at s t conn h
sound_freed at s t conn (effect.Puts fid value) h = h
sound_freed at s t conn (effect.Frees fid) h = sound_without at s (opening_in (fid_of t conn fid)) h

pub sound_cancelled : (s : WatchState) (conn : ℕ) (e : EventChange) → IsWatchSound s
    → IsWatchSound (watch_cancelled s conn e)
sound_cancelled s conn events.Nothing h = h
sound_cancelled s conn (events.Opens w) h = h
sound_cancelled s conn (events.Joins port) h = h
sound_cancelled s conn (events.Watches file) h = h
sound_cancelled s conn (events.Cancels tag) h = sound_cancel s conn tag h

-- ---- an answer

pub sound_answered : (s : WatchState) (opening : ℕ) (text : List ℕ) (at : ℕ)
    → CanCall s (Call.Answer opening text at) → IsWatchSound s → IsWatchSound (answered_by s (said_of text) at)
sound_answered s opening text at a h = sound_call s (Call.Answer opening text at) a h h.proper

pub sound_written : (s : WatchState) (opening : ℕ) (text : List ℕ) (at : ℕ) → IsWatchSound s
    → IsWatchSound (answer_written s opening text at)
sound_written s opening text at h = by (fault_of s opening text) refl
  where
    by : (o : Option AnswerFault) → fault_of s opening text ≡ o → IsWatchSound (written_unless o s text at)
    by None e = sound_answered s opening text at e h
    by (Some fault) e = h

pub sound_answered_with : (at : ℕ) (s : WatchState) (answer : Option RequestAnswer) → IsWatchSound s
    → IsWatchSound (answered_with at s answer)
sound_answered_with at s None h = h
sound_answered_with at s (Some a) h = sound_written s a.opening a.text at h
