-- A read of `log` or `jobs` lets no other read be answered that waits.
use Rattle.std.proofs.Common.{◌≡◌, ℕ, ◌==◌, ◌&&◌, Bool, true, false, not, cond, List, [], ◌∷◌, ◌++◌, Option, Some, None}
use Rattle.std.proofs.Common.{refl, sym, ap, subst, ◌∙◌}
use Rattle.std.specs.List.{list_all, list_any}
use Rattle.std.proofs.lemmas.Bool.{eqb-true, false≢true}
use Rattle.fid_table.specs.Tables.{Tables}
use Rattle.wait_queue.specs.Carry.{is_of}
use Rattle.wait_queue.specs.WaitState.{WaitState, must_wait, after_piece}
use Rattle.wait_queue.specs.declared.types.Asker.{Asker}
use Rattle.acme_watch.specs.Jobs.{JobsState, job_given}
use Rattle.acme_watch.specs.Laws.{is_single}
use Rattle.acme_watch.specs.Log.{is_reader, reader_of, after_log_read}
use Rattle.acme_watch.specs.Watching.{WatchState, opening_in, waits_in, read_waits, can_answer, given_in, after_answer}
use Rattle.acme_watch.specs.Watching.{after_ask}
use Rattle.acme_watch.specs.declared.types.WatchFile.{WatchFile}
use Rattle.acme_watch.specs.declared.types.WatchFile.TheVariants.{Log, Jobs}
use Rattle.acme_watch.specs.declared.types.WatchRead.{WatchRead}
use Rattle.acme_watch.proofs.LogLaws.{same_piece, any_read, reader_read, reader_other}
use Rattle.core_fids.specs.declared.refusal.Refusal.{Refusal}
use Rattle.core_watch.specs.Asking.{read_refusal, read_unless, watch_read}
use Rattle.core_watch.specs.Sound.{IsWatchIdle}
use Rattle.core_watch.proofs.Lists.{find_still, find_push}
use Rattle.core_watch.proofs.Pieces.{waits_piece}
use Rattle.acme_core.proofs.Watching.{IsStill}

-- whether a read of a file can be answered
abbrev is_ready : List WaitState → JobsState → WatchFile → Asker → Bool
is_ready log jobs file a = opening_in log jobs file a.opening && not (waits_in log jobs file a)

-- where it is there, it waits
must : (there waits : Bool) → there ≡ true → (there && not waits) ≡ false → waits ≡ true
must there true e h = refl
must there false e h = absurd (false≢true (sym h ∙ ap (λ (b : Bool). b && true) e))

-- so it can't still be answered, where it is there no more, or waits on
waits_on : (there waits now after : Bool) → (now ≡ true → there ≡ true) → (now ≡ true → waits ≡ true → after ≡ true)
    → (there && not waits) ≡ false → (now && not after) ≡ false
waits_on there waits false after was more h = refl
waits_on there waits true after was more h = ap not (more refl (must there waits (was refl) h))

piece_waits : (log : List WaitState) (r a : Asker) → list_all is_single log ≡ true
    → list_any (is_reader a.opening) log ≡ true → must_wait (reader_of log a.opening) a ≡ true
    → must_wait (reader_of (after_log_read log r) a.opening) a ≡ true
piece_waits log r a single there m = by (r.opening == a.opening) refl
  where
    by : (b : Bool) → (r.opening == a.opening) ≡ b → must_wait (reader_of (after_log_read log r) a.opening) a ≡ true
    by true e =
        let same : r.opening ≡ a.opening = eqb-true r.opening a.opening e in
        let its : reader_of (after_log_read log r) r.opening ≡ after_piece (reader_of log r.opening) r =
        reader_read log r (subst (λ (x : ℕ). list_any (is_reader x) log ≡ true) (sym same) there) in
        ap (λ (q : WaitState). must_wait q a)
        (subst (λ (x : ℕ). reader_of (after_log_read log r) x ≡ after_piece (reader_of log x) r) same its)
        ∙ waits_piece (reader_of log a.opening) r a m
    by false e = ap (λ (q : WaitState). must_wait q a) (reader_other log r a.opening single e) ∙ m

log_given : (log : List WaitState) (jobs : JobsState) (r : Asker) (file : WatchFile) (a : Asker)
    → list_all is_single log ≡ true → is_ready log jobs file a ≡ false → is_ready (after_log_read log r) jobs file a
    ≡ false
log_given log jobs r Jobs a single h = h
log_given log jobs r Log a single h =
    let x : ℕ = a.opening in
    let was : list_any (is_reader x) (after_log_read log r) ≡ true → list_any (is_reader x) log ≡ true =
    λ k. sym (any_read log r x) ∙ k in
    waits_on (list_any (is_reader x) log) (must_wait (reader_of log x) a) (list_any (is_reader x) (after_log_read log r))
    (must_wait (reader_of (after_log_read log r) x) a) was (λ k m. piece_waits log r a single (was k) m) h

jobs_given : (log : List WaitState) (jobs : JobsState) (r : Asker) (at : ℕ) (file : WatchFile) (a : Asker)
    → is_ready log jobs file a ≡ false → is_ready log (job_given jobs r at) file a ≡ false
jobs_given log jobs r at Log a h = h
jobs_given log jobs r at Jobs a h =
    let q : WaitState = jobs.queue in
    waits_on (list_any (is_of a.opening) q.openings) (must_wait q a)
    (list_any (is_of a.opening) (after_piece q r).openings) (must_wait (after_piece q r) a)
    (λ k. sym ((same_piece q r).any a.opening) ∙ k) (λ k m. waits_piece q r a m) h

all_true : (rs : List WatchRead) → list_all (λ r. true) rs ≡ true
all_true [] = refl
all_true (r ∷ rs) = all_true rs

given_still : (w : WatchState) (file : WatchFile) (a : Asker) (at : ℕ) → IsStill w → IsWatchIdle (given_in w file a at)
given_still w Log a at still =
    find_still (λ r. true) (can_answer w.log w.jobs) (can_answer (after_log_read w.log a) w.jobs) w.reads
    (λ r p k. log_given w.log w.jobs a r.file r.asker still.single k) (all_true w.reads) still.idle
given_still w Jobs a at still =
    find_still (λ r. true) (can_answer w.log w.jobs) (can_answer w.log (job_given w.jobs a at)) w.reads
    (λ r p k. jobs_given w.log w.jobs a at r.file r.asker k) (all_true w.reads) still.idle

none_ready : (there waits : Bool) → waits ≡ true → (there && not waits) ≡ false
none_ready true waits e = ap not e
none_ready false waits e = refl

asked_still : (w : WatchState) (x : WatchRead) (at : ℕ) → IsStill w → IsWatchIdle (after_ask w x at)
asked_still w x at still = by (read_waits w.log w.jobs x) refl
  where
    by : (b : Bool) → read_waits w.log w.jobs x ≡ b
        → IsWatchIdle (cond b (record w { reads = w.reads ++ x ∷ [] }) (after_answer w x at))
    by true e = find_push (can_answer w.log w.jobs) w.reads x
        (none_ready (opening_in w.log w.jobs x.file x.asker.opening) (read_waits w.log w.jobs x) e) still.idle
    by false e = given_still w x.file x.asker at still

pub still_read : (t : Tables) (w : WatchState) (x : WatchRead) (at : ℕ) → IsStill w → IsWatchIdle (watch_read t w x at)
still_read t w x at still = by (read_refusal t w x)
  where
    by : (o : Option Refusal) → IsWatchIdle (read_unless o w x at)
    by (Some refusal) = still.idle
    by None = asked_still w x at still
