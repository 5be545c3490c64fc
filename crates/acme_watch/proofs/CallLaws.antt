-- Calls one after another.
use Rattle.std.proofs.Common.{◌≡◌, ℕ, ◌≤◌, true, cond, List, [], ◌∷◌, ◌++◌, Some, refl, sym, ap, subst, ◌∙◌}
use Rattle.std.proofs.Common.{append_assoc, append-nil}
use Rattle.std.specs.Prelude.{IsTrue}
use Rattle.std.specs.List.{list_all, list_any}
use Rattle.am_text.specs.declared.job.Job.{Job}
use Rattle.am_text.specs.declared.job.JobLife.{JobLife}
use Rattle.wait_queue.specs.Carry.{is_of}
use Rattle.wait_queue.specs.WaitState.{WaitState}
use Rattle.acme_watch.specs.Log.{is_reader}
use Rattle.acme_watch.specs.Jobs.{JobsState, life_of}
use Rattle.acme_watch.specs.Reads.{is_of_opening}
use Rattle.acme_watch.specs.Laws.{count_of, is_single, GetsItsLines, GetsEachLine, AreNumbered, OpeningsAreNumbered}
use Rattle.acme_watch.specs.Laws.{AreJobs, StayInOrder, HasGoneOn, TakenAreOpen, LivesGoOn}
use Rattle.acme_watch.specs.Laws.{GetsItsRequests, GetsWhatItTook}
use Rattle.acme_watch.specs.Watching.{WatchState, watching, has_opening}
use Rattle.acme_watch.specs.Calls.{Call, CanCall, CanCallAll, after_call, after_calls, Answers, answers_of, all_answers}
use Rattle.acme_watch.specs.Calls.{bytes_to, lines_to, all_lines, jobs_of, all_jobs}
use Rattle.acme_watch.specs.declared.types.WatchFile.{WatchFile}
use Rattle.acme_watch.specs.declared.types.WatchFile.TheVariants.{Log, Jobs}
use Rattle.acme_watch.proofs.LogMoves.{moved, count_moved, given_of, noted_of, call-moves}
use Rattle.acme_watch.proofs.LogLaws.{Gets, gets_move, single_moved, numbered_moved}
use Rattle.acme_watch.proofs.JobMoves as jobs
use Rattle.acme_watch.proofs.LifeLaws as lives
use Rattle.acme_watch.proofs.TakenLaws as taken
use Rattle.acme_watch.proofs.LawLemmas.{are_moved, no_are}

bytes_append : (file : WatchFile) (x : ℕ) (a b : Answers) → bytes_to file x (a ++ b) ≡ bytes_to file x a
    ++ bytes_to file x b
bytes_append file x [] b = refl
bytes_append file x (one ∷ a) b =
    ap (λ (l : List ℕ). cond (is_of_opening file x one.0) one.1.bytes [] ++ l) (bytes_append file x a b)
    ∙ sym (append_assoc (cond (is_of_opening file x one.0) one.1.bytes []) (bytes_to file x a) (bytes_to file x b))

gets_call : (s : WatchState) (c : Call) (x : ℕ) (given : List ℕ) (lines : List (List ℕ)) → AreNumbered s → CanCall s c
    → GetsItsLines given lines s x
    → GetsItsLines (given ++ bytes_to Log x (answers_of s c)) (lines ++ lines_to x s c) (after_call s c) x
gets_call s c x given lines n a g =
    let m = call-moves s c a in
    let old : Gets given lines s.log s.opened.log x = record
    { missing = g.missing; joined = g.joined; there = g.there; before = g.before } in
    let new : Gets (given ++ given_of s.log m.move x) (lines
    ++ noted_of s.log m.move x) (moved s.log m.move) (count_moved s.opened.log m.move) x =
    gets_move given lines s.log s.opened.log m.move x n.single (n.within Log) m.can old
    in
    let one : Gets (given ++ bytes_to Log x (answers_of s c)) (lines
    ++ lines_to x s c) (moved s.log m.move) (count_moved s.opened.log m.move) x =
    subst (λ (l : List ℕ). Gets (given ++ l) (lines
    ++ lines_to x s c) (moved s.log m.move) (count_moved s.opened.log m.move) x) (sym (m.given x))
    (subst (λ (l : List (List ℕ)). Gets (given ++ given_of s.log m.move x) (lines
    ++ l) (moved s.log m.move) (count_moved s.opened.log m.move) x) (sym (m.noted x)) new)
    in
    let two : Gets (given ++ bytes_to Log x (answers_of s c)) (lines
    ++ lines_to x s c) (after_call s c).log (after_call s c).opened.log x =
    subst (λ (ws : List WaitState). Gets (given ++ bytes_to Log x (answers_of s c)) (lines
    ++ lines_to x s c) ws (after_call s c).opened.log x) (sym m.log)
    (subst (λ (k : ℕ). Gets (given ++ bytes_to Log x (answers_of s c)) (lines
    ++ lines_to x s c) (moved s.log m.move) k x) (sym m.count) one)
    in
    record { missing = two.missing; joined = two.joined; there = two.there; before = two.before }

log_single : (s : WatchState) (c : Call) → CanCall s c → AreNumbered s → list_all is_single (after_call s c).log ≡ true
log_single s c a n =
    let m = call-moves s c a in ap (list_all is_single) m.log ∙ single_moved s.log m.move n.single

log_within : (s : WatchState) (c : Call) → CanCall s c → AreNumbered s → (x : ℕ)
    → list_any (is_reader x) (after_call s c).log ≡ true → x ≤ (after_call s c).opened.log
log_within s c a n x t =
    let m = call-moves s c a in
    subst (λ (k : ℕ). x ≤ k) (sym m.count)
    (numbered_moved s.log s.opened.log m.move m.can (n.within Log) x
    (sym (ap (λ (ws : List WaitState). list_any (is_reader x) ws) m.log) ∙ t))

jobs_within : (s : WatchState) (c : Call) → CanCall s c → AreNumbered s → (x : ℕ)
    → list_any (is_of x) (after_call s c).jobs.queue.openings ≡ true
    → x ≤ (after_call s c).opened.jobs
jobs_within s c a n x t =
    let m = jobs.call-moves s c in
    subst (λ (k : ℕ). x ≤ k) (sym m.count)
    (lives.numbered_moved s.jobs s.opened.jobs m.move (m.can a) (n.within Jobs) x
    (sym (ap (λ (j : JobsState). list_any (is_of x) j.queue.openings) m.is) ∙ t))

numbered_call : (s : WatchState) (c : Call) → CanCall s c → AreNumbered s → AreNumbered (after_call s c)
numbered_call s c a n = record { within = by; single = log_single s c a n }
  where
    by : (file : WatchFile) (x : ℕ) → IsTrue (has_opening (after_call s c) file x)
        → x ≤ count_of (after_call s c).opened file
    by Log x t = log_within s c a n x t
    by Jobs x t = jobs_within s c a n x t

numbered_calls : (s : WatchState) (cs : List Call) → AreNumbered s → CanCallAll s cs → AreNumbered (after_calls s cs)
unfolding CanCallAll after_calls
numbered_calls s [] n a = n
numbered_calls s (c ∷ cs) n a = numbered_calls (after_call s c) cs (numbered_call s c a.0 n) a.1

none_numbered : AreNumbered watching
none_numbered = record { within = by; single = refl }
  where
    by : (file : WatchFile) (x : ℕ) → IsTrue (has_opening watching file x) → x ≤ count_of watching.opened file
    by Log x t = absurd cc
    by Jobs x t = absurd cc

pub numbered : OpeningsAreNumbered
numbered = record { begins = none_numbered; stays = numbered_calls }

pub gets_calls : GetsEachLine
unfolding CanCallAll after_calls all_answers all_lines
gets_calls s [] x given lines n a g =
    subst (λ (l : List ℕ). GetsItsLines l (lines ++ []) s x) (sym (append-nil given))
    (subst (λ (l : List (List ℕ)). GetsItsLines given l s x) (sym (append-nil lines)) g)
gets_calls s (c ∷ cs) x given lines n a g =
    let t : WatchState = after_call s c in
    let one = gets_call s c x given lines n a.0 g in
    let all : GetsItsLines ((given ++ bytes_to Log x (answers_of s c))
    ++ bytes_to Log x (all_answers t cs)) ((lines ++ lines_to x s c) ++ all_lines x t cs) (after_calls t cs) x =
    gets_calls t cs x (given ++ bytes_to Log x (answers_of s c)) (lines
    ++ lines_to x s c) (numbered_call s c a.0 n) a.1 one
    in
    let bytes : (given ++ bytes_to Log x (answers_of s c)) ++ bytes_to Log x (all_answers t cs) ≡ given
    ++ bytes_to Log x (answers_of s c ++ all_answers t cs) =
    append_assoc given (bytes_to Log x (answers_of s c)) (bytes_to Log x (all_answers t cs))
    ∙ ap (λ (l : List ℕ). given ++ l) (sym (bytes_append Log x (answers_of s c) (all_answers t cs)))
    in
    subst (λ (l : List ℕ). GetsItsLines l (lines ++ (lines_to x s c ++ all_lines x t cs)) (after_calls t cs) x) bytes
    (subst (λ (l : List (List ℕ)). GetsItsLines ((given ++ bytes_to Log x (answers_of s c))
    ++ bytes_to Log x (all_answers t cs)) l (after_calls t cs) x)
    (append_assoc lines (lines_to x s c) (all_lines x t cs)) all)

-- ---- requests

are_call : (js : List Job) (s : WatchState) (c : Call) → AreJobs js s.jobs
    → AreJobs (js ++ jobs_of c) (after_call s c).jobs
are_call js s c a =
    let m = jobs.call-moves s c in
    subst (λ (l : List Job). AreJobs (js ++ l) (after_call s c).jobs) (sym m.puts)
    (subst (λ (j : JobsState). AreJobs (js ++ jobs.puts_of m.move) j) (sym m.is) (are_moved js s.jobs m.move a))

in_order : (js : List Job) (s : WatchState) (cs : List Call) → AreJobs js s.jobs
    → AreJobs (js ++ all_jobs cs) (after_calls s cs).jobs
unfolding after_calls all_jobs
in_order js s [] a = subst (λ (l : List Job). AreJobs l s.jobs) (sym (append-nil js)) a
in_order js s (c ∷ cs) a =
    subst (λ (l : List Job). AreJobs l (after_calls (after_call s c) cs).jobs)
    (append_assoc js (jobs_of c) (all_jobs cs)) (in_order (js ++ jobs_of c) (after_call s c) cs (are_call js s c a))

pub stay_in_order : StayInOrder
stay_in_order = record { begins = no_are; stays = in_order }

-- ---- lives

goes_calls : (s : WatchState) (cs : List Call) (n : ℕ) (l : JobLife) → life_of s.jobs n ≡ Some l
    → HasGoneOn l (life_of (after_calls s cs).jobs n)
unfolding after_calls
goes_calls s [] n l e = lives.stays_on l (life_of s.jobs n) e
goes_calls s (c ∷ cs) n l e =
    let m = jobs.call-moves s c in
    let one = lives.goes_moved s.jobs m.move n l e in
    let is : life_of (after_call s c).jobs n ≡ Some one.to = ap (λ (j : JobsState). life_of j n) m.is ∙ one.is in
    let more = goes_calls (after_call s c) cs n one.to is in
    record { to = more.to; is = more.is; goes = lives.goes_further l one.to more.to one.goes more.goes }

taken_calls : (s : WatchState) (cs : List Call) → TakenAreOpen s → CanCallAll s cs → TakenAreOpen (after_calls s cs)
unfolding CanCallAll after_calls
taken_calls s [] t a = t
taken_calls s (c ∷ cs) t a =
    let m = jobs.call-moves s c in
    let one : lives.TakenOpen (after_call s c).jobs =
    subst (λ (j : JobsState). lives.TakenOpen j) (sym m.is)
    (lives.taken_moved s.jobs s.opened.jobs m.move (m.can a.0) t)
    in
    taken_calls (after_call s c) cs one a.1

pub live_on : LivesGoOn
live_on = record { begins = lives.none_taken; taken = taken_calls; goes = goes_calls }

-- ---- what openings of `jobs` get

took_call : (js : List Job) (s : WatchState) (c : Call) (x : ℕ) (given : List ℕ) → AreJobs js s.jobs → AreNumbered s
    → CanCall s c → GetsItsRequests given js s x
    → GetsItsRequests (given ++ bytes_to Jobs x (answers_of s c)) (js ++ jobs_of c) (after_call s c) x
took_call js s c x given a n can g =
    let m = jobs.call-moves s c in
    let old : taken.Gets given js s.jobs s.opened.jobs x = record {
      missing = g.missing;
      joined = g.joined;
      there = g.there;
      before = g.before;
    } in
    let new : taken.Gets (given ++ jobs.given_of s.jobs m.move x) (js ++ jobs.puts_of m.move)
    (jobs.moved s.jobs m.move) (jobs.count_moved s.opened.jobs m.move) x =
    taken.gets_move given js s.jobs s.opened.jobs m.move x a (n.within Jobs) (m.can can) old
    in
    let one : taken.Gets (given ++ bytes_to Jobs x (answers_of s c)) (js ++ jobs_of c) (jobs.moved s.jobs m.move)
    (jobs.count_moved s.opened.jobs m.move) x =
    subst (λ (l : List ℕ). taken.Gets (given ++ l) (js ++ jobs_of c) (jobs.moved s.jobs m.move)
    (jobs.count_moved s.opened.jobs m.move) x) (sym (m.given x))
    (subst (λ (l : List Job). taken.Gets (given ++ jobs.given_of s.jobs m.move x) (js ++ l)
    (jobs.moved s.jobs m.move) (jobs.count_moved s.opened.jobs m.move) x) (sym m.puts) new)
    in
    let two : taken.Gets (given ++ bytes_to Jobs x (answers_of s c)) (js ++ jobs_of c) (after_call s c).jobs
    (after_call s c).opened.jobs x =
    subst (λ (j : JobsState). taken.Gets (given ++ bytes_to Jobs x (answers_of s c)) (js ++ jobs_of c) j
    (after_call s c).opened.jobs x) (sym m.is)
    (subst (λ (k : ℕ). taken.Gets (given ++ bytes_to Jobs x (answers_of s c)) (js ++ jobs_of c)
    (jobs.moved s.jobs m.move) k x) (sym m.count) one)
    in
    record { missing = two.missing; joined = two.joined; there = two.there; before = two.before }

pub took_calls : GetsWhatItTook
unfolding CanCallAll after_calls all_answers all_jobs
took_calls js s [] x given a n can g =
    subst (λ (l : List ℕ). GetsItsRequests l (js ++ []) s x) (sym (append-nil given))
    (subst (λ (l : List Job). GetsItsRequests given l s x) (sym (append-nil js)) g)
took_calls js s (c ∷ cs) x given a n can g =
    let t : WatchState = after_call s c in
    let one = took_call js s c x given a n can.0 g in
    let all : GetsItsRequests ((given ++ bytes_to Jobs x (answers_of s c)) ++ bytes_to Jobs x (all_answers t cs))
    ((js ++ jobs_of c) ++ all_jobs cs) (after_calls t cs) x =
    took_calls (js ++ jobs_of c) t cs x (given ++ bytes_to Jobs x (answers_of s c)) (are_call js s c a)
    (numbered_call s c can.0 n) can.1 one
    in
    let bytes : (given ++ bytes_to Jobs x (answers_of s c)) ++ bytes_to Jobs x (all_answers t cs)
    ≡ given ++ bytes_to Jobs x (answers_of s c ++ all_answers t cs) =
    append_assoc given (bytes_to Jobs x (answers_of s c)) (bytes_to Jobs x (all_answers t cs))
    ∙ ap (λ (l : List ℕ). given ++ l) (sym (bytes_append Jobs x (answers_of s c) (all_answers t cs)))
    in
    subst (λ (l : List ℕ). GetsItsRequests l (js ++ (jobs_of c ++ all_jobs cs)) (after_calls t cs) x) bytes
    (subst (λ (l : List Job). GetsItsRequests
    ((given ++ bytes_to Jobs x (answers_of s c)) ++ bytes_to Jobs x (all_answers t cs)) l (after_calls t cs) x)
    (append_assoc js (jobs_of c) (all_jobs cs)) all)
