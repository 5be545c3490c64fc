-- Waiting reads that can't be answered, call by call.
use Rattle.std.proofs.Common.{◌≡◌, ◌≢◌, ℕ, ◌+◌, ◌==◌, ◌&&◌, ◌||◌, Bool, true, false, not, cond, List, [], ◌∷◌, ◌++◌}
use Rattle.std.proofs.Common.{length, nat_le, nat_lt, fold, Option, Some, None, refl, sym, ap, subst, ◌∙◌, arith}
use Rattle.std.specs.List.{list_all, list_any}
use Rattle.std.proofs.lemmas.Bool.{eqb-true}
use Rattle.std.proofs.lemmas.Bool.Decides.{nat_tests}
use Rattle.fid_table.specs.declared.types.Fid.{Fid}
use Rattle.fid_table.specs.Tables.{Tables, fids_of, fid_of}
use Rattle.wait_queue.specs.Carry.{is_of, carry_of, without_opening as carries_without}
use Rattle.wait_queue.specs.Reads.{is_on}
use Rattle.wait_queue.specs.WaitState.{WaitState, nothing, must_wait, any_item, after_enlist, after_piece, after_leave}
use Rattle.wait_queue.specs.declared.types.Asker.{Asker}
use Rattle.event_book.proofs.BookLemmas.{carry-enlisted, carry-without}
use Rattle.am_text.specs.declared.job.JobLife.{JobLife}
use Rattle.acme_watch.specs.Lines.{said_of}
use Rattle.acme_watch.specs.Log.{is_reader, new_reader, reader_of, after_log_read, without_reader}
use Rattle.acme_watch.specs.Jobs.{JobsState, jobs_opened, job_given, answered_life, with_life, job_answered, jobs_left}
use Rattle.acme_watch.specs.Reads.{same_file, is_asked, is_of_opening}
use Rattle.acme_watch.specs.Laws.{count_of, is_single}
use Rattle.acme_watch.specs.Watching.{WatchState, watching, opening_in, waits_in, read_waits, can_answer, given_in}
use Rattle.acme_watch.specs.Watching.{after_answer, after_ask, answered_by, after_cancel, log_left, jobs_file_left}
use Rattle.acme_watch.specs.declared.types.WatchFile.{WatchFile}
use Rattle.acme_watch.specs.declared.types.WatchFile.TheVariants.{Log, Jobs}
use Rattle.acme_watch.specs.declared.types.WatchRead.{WatchRead}
use Rattle.acme_watch.proofs.EachLemmas.{any_filtered}
use Rattle.acme_watch.proofs.LogLaws.{same_piece, reader_pushed, any_read, reader_read, reader_other, reader_left}
use Rattle.acme_watch.specs.declared.types.AnswerFault.{AnswerFault}
use Rattle.core_fids.specs.Fids.{watch_opening}
use Rattle.core_fids.specs.declared.effect.Effect.{Effect}
use Rattle.core_fids.specs.declared.effect.Effect.TheVariants as effect
use Rattle.core_fids.specs.declared.effect.EventChange.{EventChange}
use Rattle.core_fids.specs.declared.effect.EventChange.TheVariants as events
use Rattle.core_fids.specs.declared.effect.WatchOpening.{WatchOpening}
use Rattle.core_fids.specs.declared.refusal.Refusal.{Refusal}
use Rattle.core_events.specs.Sound.{is_small}
use Rattle.core_watch.specs.declared.answering.RequestAnswer.{RequestAnswer}
use Rattle.core_watch.specs.Answering.{fault_of, written_unless, answer_written, answered_with}
use Rattle.core_watch.specs.Asking.{can_open, with_opening, opened, opened_with, read_refusal, read_unless, watch_read}
use Rattle.core_watch.specs.Closing.{left_in, without_opening, without_fid, watch_without_fids, watch_freed}
use Rattle.core_watch.specs.Closing.{opening_in as opening_of_fid, watch_cancelled}
use Rattle.core_watch.specs.Sound.{is_proper, IsWatchSound, IsWatchIdle}
use Rattle.core_watch.proofs.Lists.{second_true, find_still, find_left, find_push, any_before}
use Rattle.core_watch.proofs.Pieces.{waits_piece}
use Rattle.core_watch.proofs.Sounds.{sound_without}

-- whether a read of a file can be answered
abbrev ready : List WaitState → JobsState → WatchFile → Asker → Bool
ready log jobs file a = opening_in log jobs file a.opening && not (waits_in log jobs file a)

-- it can't still, where no opening came and it doesn't wait any less
stays_false : (t now w after : Bool) → (now ≡ true → t ≡ true) → (now ≡ true → w ≡ true → after ≡ true)
    → (t && not w) ≡ false → (now && not after) ≡ false
stays_false t false w after f g h = refl
stays_false true true true after f g h = ap not (g refl refl)
stays_false true true false after f g h = absurd cc
stays_false false true w after f g h = let wrong : false ≡ true = f refl in absurd cc

-- ---- an opening more

not_new : (n x : ℕ) → (n == x) ≡ false → is_reader x (new_reader n) ≡ false
not_new n x e = ap (λ b. b || false) e

log_opened_ready : (log : List WaitState) (jobs : JobsState) (n : ℕ) (file : WatchFile) (a : Asker)
    → (n == a.opening) ≡ false → ready log jobs file a ≡ false → ready (log ++ new_reader n ∷ []) jobs file a ≡ false
log_opened_ready log jobs n Jobs a e h = h
log_opened_ready log jobs n Log a e h =
    let v : WaitState = new_reader n in
    let x : ℕ = a.opening in
    let there : list_any (is_reader x) (log ++ v ∷ []) ≡ true → list_any (is_reader x) log ≡ true =
    any_before (is_reader x) log v (not_new n x e) in
    stays_false (list_any (is_reader x) log) (list_any (is_reader x) (log ++ v ∷ [])) (must_wait (reader_of log x) a)
    (must_wait (reader_of (log ++ v ∷ []) x) a) there
    (λ k m. ap (λ (q : WaitState). must_wait q a) (reader_pushed log v x
    ∙ ap (λ b. cond b (reader_of log x) (cond (is_reader x v) v nothing)) (there k)) ∙ m)
    h

jobs_opened_ready : (log : List WaitState) (jobs : JobsState) (n : ℕ) (file : WatchFile) (a : Asker)
    → (n == a.opening) ≡ false → ready log jobs file a ≡ false → ready log (jobs_opened jobs n) file a ≡ false
jobs_opened_ready log jobs n Log a e h = h
jobs_opened_ready log jobs n Jobs a e h =
    let q : WaitState = jobs.queue in
    stays_false (list_any (is_of a.opening) q.openings)
    (list_any (is_of a.opening) (q.openings ++ record { opening = n; carry = [] } ∷ [])) (must_wait q a)
    (must_wait (after_enlist q n) a)
    (any_before (is_of a.opening) q.openings (record { opening = n; carry = [] }) e)
    (λ k m. ap (λ (cs : List ℕ). not (a.count == 0) && not (any_item q || nat_lt 0 (length cs)))
    (carry-enlisted q.openings n a.opening) ∙ m)
    h

-- no waiting read is on the next opening
is_other : (s : WatchState) (file : WatchFile) (r : WatchRead) → r.file ≡ file → is_proper s.opened r ≡ true
    → ((count_of s.opened file + 1) == r.asker.opening) ≡ false
is_other s file r e p =
    let within : nat_le r.asker.opening (count_of s.opened r.file) ≡ true =
    second_true (is_small r.asker) (nat_le r.asker.opening (count_of s.opened r.file)) p in
    let here : nat_le r.asker.opening (count_of s.opened file) ≡ true =
    subst (λ (f : WatchFile). nat_le r.asker.opening (count_of s.opened f) ≡ true) e within in
    grind (arith, nat_tests)

log_more : (s : WatchState) (r : WatchRead) → is_proper s.opened r ≡ true → can_answer s.log s.jobs r ≡ false
    → can_answer (s.log ++ new_reader (s.opened.log + 1) ∷ []) s.jobs r ≡ false
log_more s r p h = by r.file refl h
  where
    by : (f : WatchFile) → r.file ≡ f → ready s.log s.jobs f r.asker ≡ false
        → ready (s.log ++ new_reader (s.opened.log + 1) ∷ []) s.jobs f r.asker ≡ false
    by Log e k = log_opened_ready s.log s.jobs (s.opened.log + 1) Log r.asker (is_other s Log r e p) k
    by Jobs e k = k

jobs_more : (s : WatchState) (r : WatchRead) → is_proper s.opened r ≡ true → can_answer s.log s.jobs r ≡ false
    → can_answer s.log (jobs_opened s.jobs (s.opened.jobs + 1)) r ≡ false
jobs_more s r p h = by r.file refl h
  where
    by : (f : WatchFile) → r.file ≡ f → ready s.log s.jobs f r.asker ≡ false
        → ready s.log (jobs_opened s.jobs (s.opened.jobs + 1)) f r.asker ≡ false
    by Log e k = k
    by Jobs e k = jobs_opened_ready s.log s.jobs (s.opened.jobs + 1) Jobs r.asker (is_other s Jobs r e p) k

pub idle_with : (s : WatchState) (file : WatchFile) → IsWatchSound s → IsWatchIdle s → IsWatchIdle (with_opening s file)
idle_with s Log h i =
    find_still (is_proper s.opened) (can_answer s.log s.jobs)
    (can_answer (s.log ++ new_reader (s.opened.log + 1) ∷ []) s.jobs) s.reads (log_more s) h.proper i
idle_with s Jobs h i =
    find_still (is_proper s.opened) (can_answer s.log s.jobs)
    (can_answer s.log (jobs_opened s.jobs (s.opened.jobs + 1))) s.reads (jobs_more s) h.proper i

pub idle_opened : (s : WatchState) (file : WatchFile) → IsWatchSound s → IsWatchIdle s → IsWatchIdle (opened s file)
idle_opened s file h i =
    elim (can_open s file) as (λ b. IsWatchIdle (cond b (with_opening s file) s))
    [ true ↦ idle_with s file h i | false ↦ i ]

pub idle_opened_with : (s : WatchState) (e : EventChange) → IsWatchSound s → IsWatchIdle s
    → IsWatchIdle (opened_with s e)
idle_opened_with s events.Nothing h i = i
idle_opened_with s (events.Opens w) h i = i
idle_opened_with s (events.Joins port) h i = i
idle_opened_with s (events.Watches file) h i = idle_opened s file h i
idle_opened_with s (events.Cancels tag) h i = i

-- ---- a read

waits_read : (log : List WaitState) (r a : Asker) → list_all is_single log ≡ true
    → list_any (is_reader a.opening) log ≡ true → must_wait (reader_of log a.opening) a ≡ true
    → must_wait (reader_of (after_log_read log r) a.opening) a ≡ true
waits_read log r a single there m =
    (elim (r.opening == a.opening) as (λ b. (r.opening == a.opening) ≡ b
    → must_wait (reader_of (after_log_read log r) a.opening) a ≡ true) [
      | true ↦ λ e.
          let same : r.opening ≡ a.opening = eqb-true r.opening a.opening e in
          let its : reader_of (after_log_read log r) r.opening ≡ after_piece (reader_of log r.opening) r =
          reader_read log r (subst (λ (x : ℕ). list_any (is_reader x) log ≡ true) (sym same) there) in
          ap (λ (q : WaitState). must_wait q a)
          (subst (λ (x : ℕ). reader_of (after_log_read log r) x ≡ after_piece (reader_of log x) r) same its)
          ∙ waits_piece (reader_of log a.opening) r a m
      | false ↦ λ e. ap (λ (q : WaitState). must_wait q a) (reader_other log r a.opening single e) ∙ m
    ]) refl

log_read_ready : (log : List WaitState) (jobs : JobsState) (r : Asker) (file : WatchFile) (a : Asker)
    → list_all is_single log ≡ true → ready log jobs file a ≡ false → ready (after_log_read log r) jobs file a ≡ false
log_read_ready log jobs r Jobs a single h = h
log_read_ready log jobs r Log a single h =
    let x : ℕ = a.opening in
    let there : list_any (is_reader x) (after_log_read log r) ≡ true → list_any (is_reader x) log ≡ true =
    λ k. sym (any_read log r x) ∙ k in
    stays_false (list_any (is_reader x) log) (list_any (is_reader x) (after_log_read log r))
    (must_wait (reader_of log x) a) (must_wait (reader_of (after_log_read log r) x) a) there
    (λ k m. waits_read log r a single (there k) m) h

jobs_read_ready : (log : List WaitState) (jobs : JobsState) (r : Asker) (at : ℕ) (file : WatchFile) (a : Asker)
    → ready log jobs file a ≡ false → ready log (job_given jobs r at) file a ≡ false
jobs_read_ready log jobs r at Log a h = h
jobs_read_ready log jobs r at Jobs a h =
    let q : WaitState = jobs.queue in
    stays_false (list_any (is_of a.opening) q.openings) (list_any (is_of a.opening) (after_piece q r).openings)
    (must_wait q a) (must_wait (after_piece q r) a)
    (λ k. sym ((same_piece q r).any a.opening) ∙ k) (λ k m. waits_piece q r a m) h

idle_given : (s : WatchState) (file : WatchFile) (a : Asker) (at : ℕ) → IsWatchSound s → IsWatchIdle s
    → IsWatchIdle (given_in s file a at)
idle_given s Log a at h i =
    find_still (is_proper s.opened) (can_answer s.log s.jobs) (can_answer (after_log_read s.log a) s.jobs) s.reads
    (λ r p k. log_read_ready s.log s.jobs a r.file r.asker h.numbered.single k) h.proper i
idle_given s Jobs a at h i =
    find_still (is_proper s.opened) (can_answer s.log s.jobs) (can_answer s.log (job_given s.jobs a at)) s.reads
    (λ r p k. jobs_read_ready s.log s.jobs a at r.file r.asker k) h.proper i

and_not : (a b : Bool) → b ≡ true → (a && not b) ≡ false
and_not true b e = ap not e
and_not false b e = refl

pub idle_ask : (s : WatchState) (r : WatchRead) (at : ℕ) → IsWatchSound s → IsWatchIdle s
    → IsWatchIdle (after_ask s r at)
idle_ask s r at h i = by (read_waits s.log s.jobs r) refl
  where
    waiting : WatchState
    waiting = record s { reads = s.reads ++ r ∷ [] }

    by : (b : Bool) → read_waits s.log s.jobs r ≡ b → IsWatchIdle (after_ask s r at)
    by true e =
        subst (λ (b : Bool). IsWatchIdle (cond b waiting (after_answer s r at))) (sym e)
        (find_push (can_answer s.log s.jobs) s.reads r
        (and_not (opening_in s.log s.jobs r.file r.asker.opening) (read_waits s.log s.jobs r) e) i)
    by false e =
        subst (λ (b : Bool). IsWatchIdle (cond b waiting (after_answer s r at))) (sym e)
        (idle_given s r.file r.asker at h i)

pub idle_read : (t : Tables) (s : WatchState) (r : WatchRead) (at : ℕ) → IsWatchSound s → IsWatchIdle s
    → IsWatchIdle (watch_read t s r at)
idle_read t s r at h i = unless (read_refusal t s r)
  where
    unless : (o : Option Refusal) → IsWatchIdle (read_unless o s r at)
    unless None = idle_ask s r at h i
    unless (Some refusal) = i

-- ---- what ends

log_left_ready : (log : List WaitState) (jobs : JobsState) (o : ℕ) (file : WatchFile) (a : Asker)
    → list_all is_single log ≡ true → ready log jobs file a ≡ false → ready (without_reader log o) jobs file a ≡ false
log_left_ready log jobs o Jobs a single h = h
log_left_ready log jobs o Log a single h =
    let x : ℕ = a.opening in
    stays_false (list_any (is_reader x) log) (list_any (is_reader x) (without_reader log o))
    (must_wait (reader_of log x) a) (must_wait (reader_of (without_reader log o) x) a)
    (λ k. any_filtered (is_reader x) (λ w. not (is_reader o w)) log k)
    (λ k m. ap (λ (q : WaitState). must_wait q a) (reader_left o log x single k) ∙ m) h

jobs_left_ready : (log : List WaitState) (jobs : JobsState) (o at : ℕ) (file : WatchFile) (a : Asker)
    → not (same_file Jobs file && is_on o a) ≡ true → ready log jobs file a ≡ false
    → ready log (jobs_left jobs o at) file a ≡ false
jobs_left_ready log jobs o at Log a apart h = h
jobs_left_ready log jobs o at Jobs a apart h =
    let q : WaitState = jobs.queue in
    let other : a.opening ≢ o = grind (arith, nat_tests) in
    stays_false (list_any (is_of a.opening) q.openings) (list_any (is_of a.opening) (carries_without q.openings o))
    (must_wait q a) (must_wait (after_leave q o) a)
    (λ k. any_filtered (is_of a.opening) (λ c. not (is_of o c)) q.openings k)
    (λ k m. ap (λ (cs : List ℕ). not (a.count == 0) && not (any_item q || nat_lt 0 (length cs)))
    (carry-without q.openings o a.opening other) ∙ m) h

pub idle_log_left : (s : WatchState) (o : ℕ) → IsWatchSound s → IsWatchIdle s → IsWatchIdle (log_left s o)
idle_log_left s o h i =
    find_left (can_answer s.log s.jobs) (can_answer (without_reader s.log o) s.jobs)
    (λ r. not (is_of_opening Log o r)) s.reads
    (λ r apart k. log_left_ready s.log s.jobs o r.file r.asker h.numbered.single k) i

pub idle_jobs_left : (s : WatchState) (o at : ℕ) → IsWatchIdle s → IsWatchIdle (jobs_file_left s o at)
idle_jobs_left s o at i =
    find_left (can_answer s.log s.jobs) (can_answer s.log (jobs_left s.jobs o at))
    (λ r. not (is_of_opening Jobs o r)) s.reads
    (λ r apart k. jobs_left_ready s.log s.jobs o at r.file r.asker apart k) i

pub idle_cancel : (s : WatchState) (conn tag : ℕ) → IsWatchIdle s → IsWatchIdle (after_cancel s conn tag)
idle_cancel s conn tag i =
    find_left (can_answer s.log s.jobs) (can_answer s.log s.jobs) (λ r. not (is_asked conn tag r)) s.reads
    (λ r apart k. k) i

pub idle_left : (at : ℕ) (s : WatchState) (file : WatchFile) (opening : ℕ) → IsWatchSound s → IsWatchIdle s
    → IsWatchIdle (left_in at s file opening)
idle_left at s Log opening h i = idle_log_left s opening h i
idle_left at s Jobs opening h i = idle_jobs_left s opening at i

pub idle_without : (at : ℕ) (s : WatchState) (o : Option WatchOpening) → IsWatchSound s → IsWatchIdle s
    → IsWatchIdle (without_opening at s o)
idle_without at s None h i = i
idle_without at s (Some o) h i = idle_left at s o.file o.opening h i

idle_fids : (at : ℕ) (s : WatchState) (fs : List (ℕ × Fid)) → IsWatchSound s → IsWatchIdle s
    → IsWatchIdle (fold (without_fid at) s fs)
idle_fids at s [] h i = i
idle_fids at s (f ∷ fs) h i =
    idle_fids at (without_fid at s f) fs (sound_without at s (watch_opening f.1) h)
    (idle_without at s (watch_opening f.1) h i)

pub idle_without_fids : (at : ℕ) (s : WatchState) (t : Tables) (conn : ℕ) → IsWatchSound s → IsWatchIdle s
    → IsWatchIdle (watch_without_fids at s t conn)
idle_without_fids at s t conn h i = idle_fids at s (fids_of t conn) h i

pub idle_freed : (at : ℕ) (s : WatchState) (t : Tables) (conn : ℕ) (e : Effect) → IsWatchSound s → IsWatchIdle s
    → IsWatchIdle (watch_freed at s t conn e)
idle_freed at s t conn effect.Nothing h i = i
idle_freed at s t conn (effect.Begins msize) h i = idle_without_fids at s t conn h i
idle_freed at s t conn (effect.Puts fid value) h i = i
idle_freed at s t conn (effect.Frees fid) h i = idle_without at s (opening_of_fid (fid_of t conn fid)) h i

pub idle_cancelled : (s : WatchState) (conn : ℕ) (e : EventChange) → IsWatchIdle s
    → IsWatchIdle (watch_cancelled s conn e)
idle_cancelled s conn events.Nothing i = i
idle_cancelled s conn (events.Opens w) i = i
idle_cancelled s conn (events.Joins port) i = i
idle_cancelled s conn (events.Watches file) i = i
idle_cancelled s conn (events.Cancels tag) i = idle_cancel s conn tag i

-- ---- an answer

settled_ready : (log : List WaitState) (jobs : JobsState) (settled : List JobLife) (file : WatchFile) (a : Asker)
    → ready log jobs file a ≡ false → ready log (record jobs { settled = settled }) file a ≡ false
settled_ready log jobs settled Log a h = h
settled_ready log jobs settled Jobs a h = h

pub idle_answered : (s : WatchState) (text : List ℕ) (at : ℕ) → IsWatchSound s → IsWatchIdle s
    → IsWatchIdle (answered_by s (said_of text) at)
idle_answered s text at h i =
    elim (said_of text) as (λ o. IsWatchIdle (answered_by s o at)) [
      | None ↦ i
      | Some told ↦ find_still (is_proper s.opened) (can_answer s.log s.jobs)
          (can_answer s.log (job_answered s.jobs (Some told) at)) s.reads
          (λ r p k. settled_ready s.log s.jobs
          (with_life (answered_life at told.good) told.number s.jobs.settled) r.file r.asker k) h.proper i
    ]

pub idle_written : (s : WatchState) (opening : ℕ) (text : List ℕ) (at : ℕ) → IsWatchSound s → IsWatchIdle s
    → IsWatchIdle (answer_written s opening text at)
idle_written s opening text at h i = by (fault_of s opening text)
  where
    by : (o : Option AnswerFault) → IsWatchIdle (written_unless o s text at)
    by None = idle_answered s text at h i
    by (Some fault) = i

pub idle_answered_with : (at : ℕ) (s : WatchState) (answer : Option RequestAnswer) → IsWatchSound s → IsWatchIdle s
    → IsWatchIdle (answered_with at s answer)
idle_answered_with at s None h i = i
idle_answered_with at s (Some a) h i = idle_written s a.opening a.text at h i

pub idle_watching : IsWatchIdle watching
idle_watching = refl
