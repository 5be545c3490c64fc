-- The requests stay in order.
use Rattle.std.proofs.Common.{◌≡◌, ◌==◌, ◌&&◌, ℕ, zero, suc, ◌+◌, ◌<◌, ◌≤◌, Bool, true, false, cond}
use Rattle.std.proofs.Common.{List, [], ◌∷◌, ◌++◌, length, drop, map, Option, Some, None, refl, sym, ap, ◌∙◌}
use Rattle.std.proofs.Common.{subst, arith, length-append, append-nil}
use Rattle.std.proofs.lemmas.List.{length-map}
use Rattle.std.proofs.lemmas.Bool.Decides.{nat_tests}
use Rattle.std.specs.Prelude.{nat_lt, slice_get}
use Rattle.std.specs.List.{list_all}
use Rattle.am_text.specs.declared.job.Job.{Job}
use Rattle.wait_queue.specs.Carry.{carry_of}
use Rattle.wait_queue.specs.WaitState.{WaitState, piece_from, piece_of, after_from}
use Rattle.wait_queue.specs.declared.pending.Pending.{Pending}
use Rattle.wait_queue.specs.declared.types.Asker.{Asker}
use Rattle.am_text.specs.Requests.{request_lines}
use Rattle.acme_watch.specs.Jobs.{JobsState, no_jobs, life_of, jobs_opened, with_job, settled_with, job_given}
use Rattle.acme_watch.specs.Jobs.{answered_life, with_life, job_answered, lost_life, jobs_left}
use Rattle.acme_watch.specs.Laws.{items_from, is_settled, AreJobs, WaitingAreLast, TakesTheFirst}
use Rattle.acme_watch.specs.declared.lines.Told.{Told}
use Rattle.am_text.specs.declared.job.JobLife.{JobLife}
use Rattle.am_text.specs.declared.job.JobLife.TheVariants.{Waiting, Taken, Answered, Lost}
use Rattle.acme_watch.proofs.JobMoves.{Move, Stays, Opens, Puts, Reads, Tells, Leaves, moved, puts_of}

-- ---- lists

items-snoc : (n : ℕ) (js : List Job) (job : Job) → items_from n (js ++ job ∷ []) ≡ items_from n js
    ++ record { number = n + length js; bytes = request_lines (n + length js) job } ∷ []
items-snoc n [] job =
    let same : n ≡ n + 0 = omega arith in ap (λ k. record { number = k; bytes = request_lines k job } ∷ []) same
items-snoc n (j ∷ js) job =
    let same : n + 1 + length js ≡ n + length (j ∷ js) = omega arith in
    ap (λ is. record { number = n; bytes = request_lines n j } ∷ is)
    (items-snoc (n + 1) js job
    ∙ ap (λ k. items_from (n + 1) js ++ record { number = k; bytes = request_lines k job } ∷ []) same)

drop-snoc : (k : ℕ) (js : List Job) (job : Job) → k ≤ length js → drop k (js ++ job ∷ []) ≡ drop k js ++ job ∷ []
drop-snoc zero js job l = refl
drop-snoc (suc k) [] job l = absurd (omega (arith, l))
drop-snoc (suc k) (j ∷ js) job l = drop-snoc k js job (omega (arith, l))

length-drop_le : (k : ℕ) (js : List Job) → k ≤ length js → k + length (drop k js) ≡ length js
length-drop_le zero js l = omega arith
length-drop_le (suc k) [] l = absurd (omega (arith, l))
length-drop_le (suc k) (j ∷ js) l = let later = length-drop_le k js (omega (arith, l)) in omega (arith, later)

-- where the waiting ones are not empty, one more is within, and the others are those behind it
taken-items : (k : ℕ) (js : List Job) (item : Pending) (items : List Pending) → item ∷ items
    ≡ items_from (k + 1) (drop k js) → (k < length js) × (item.number ≡ k + 1)
    × (items ≡ items_from (k + 1 + 1) (drop (k + 1) js))
taken-items k js item items e =
    let t = behind (k + 1) k js e in
    let next : suc k ≡ k + 1 = omega arith in
    (t.0, t.1, t.2 ∙ ap (λ m. items_from (k + 1 + 1) (drop m js)) next)
  where
    behind : (n k : ℕ) (js : List Job) → item ∷ items ≡ items_from n (drop k js) → (k < length js) × (item.number ≡ n)
        × (items ≡ items_from (n + 1) (drop (suc k) js))
    behind n zero [] e = cc
    behind n zero (j ∷ js) e = (omega arith, (cc), (cc))
    behind n (suc k) [] e = cc
    behind n (suc k) (j ∷ js) e = let t = behind n k js e in (omega (arith, t.0), t.1, t.2)

settled-snoc : (ls : List JobLife) (l : JobLife) → list_all is_settled ls ≡ true → is_settled l ≡ true
    → list_all is_settled (ls ++ l ∷ []) ≡ true
settled-snoc [] l a b = rw b refl
settled-snoc (x ∷ ls) l a b =
    (elim (is_settled x) as (λ c. (c && list_all is_settled ls) ≡ true → (c && list_all is_settled (ls ++ l ∷ []))
    ≡ true) [
      | true ↦ λ h. settled-snoc ls l h b
      | false ↦ λ h. cc
    ]) a

-- ---- calls

put-are : (jobs : List Job) (j : JobsState) (job : Job) → AreJobs jobs j → AreJobs (jobs ++ job ∷ []) (with_job j job)
put-are jobs j job a =
    let k : ℕ = length j.settled in
    let more : length (jobs ++ job ∷ []) ≡ length jobs + 1 = length-append jobs (job ∷ []) in
    let number : k + 1 + length (drop k jobs) ≡ j.made + 1 = omega (arith, length-drop_le k jobs a.within, a.made) in
    record {
      made = omega (arith, a.made, more);
      within = omega (arith, a.within, more);
      waiting =
          ap (λ is. is ++ record { number = j.made + 1; bytes = request_lines (j.made + 1) job } ∷ []) a.waiting
          ∙ ap (λ n. items_from (k + 1) (drop k jobs)
          ++ record { number = n; bytes = request_lines n job } ∷ []) (sym number)
          ∙ sym (items-snoc (k + 1) (drop k jobs) job)
          ∙ ap (items_from (k + 1)) (sym (drop-snoc k jobs job a.within));
      settled = a.settled;
    }

-- what a piece of a carry, else of the first item, leaves
given_from : (jobs : List Job) (j : JobsState) (r : Asker) (at : ℕ) (carry : List ℕ) (items : List Pending) → items
    ≡ j.queue.items → AreJobs jobs j
    → AreJobs jobs
    (record j {
      settled = settled_with (piece_from carry items r.count).taken (Taken r.opening at) j.settled;
      queue =
          after_from carry items j.queue r;
    })
given_from jobs j r at (b ∷ bs) items e a = record
    { made = a.made; within = a.within; waiting = a.waiting; settled = a.settled }
given_from jobs j r at [] [] e a = record { made = a.made; within = a.within; waiting = a.waiting; settled = a.settled }
given_from jobs j r at [] (item ∷ items) e a =
    let k : ℕ = length j.settled in
    let t = taken-items k jobs item items (e ∙ a.waiting) in
    let more : length (j.settled ++ Taken r.opening at ∷ [])
    ≡ k + 1 = length-append j.settled (Taken r.opening at ∷ []) in
    record {
      made = a.made;
      within = omega (arith, more, t.0);
      waiting = t.2 ∙ ap (λ n. items_from (n + 1) (drop n jobs)) (sym more);
      settled = settled-snoc j.settled (Taken r.opening at) a.settled refl;
    }

given-are : (jobs : List Job) (j : JobsState) (r : Asker) (at : ℕ) → AreJobs jobs j → AreJobs jobs (job_given j r at)
given-are jobs j r at a =
    elim (r.count == 0) as (λ b. AreJobs jobs (record j {
      settled = settled_with
          (cond b (record { bytes = []; taken = None })
          (piece_from (carry_of j.queue.openings r.opening) j.queue.items r.count)).taken (Taken r.opening at)
          j.settled;
      queue = cond b j.queue (after_from (carry_of j.queue.openings r.opening) j.queue.items j.queue r);
    })) [
      | true ↦ record { made = a.made; within = a.within; waiting = a.waiting; settled = a.settled }
      | false ↦ given_from jobs j r at (carry_of j.queue.openings r.opening) j.queue.items refl a
    ]

-- lives that change one by one
answered-settles : (answer : ℕ) (good : Bool) (l : JobLife) → is_settled (answered_life answer good l) ≡ is_settled l
answered-settles answer good Waiting = refl
answered-settles answer good (Taken opening at) = refl
answered-settles answer good (Answered opening at first so) = refl
answered-settles answer good (Lost opening at close) = refl

lost-settles : (opening close : ℕ) (l : JobLife) → is_settled (lost_life opening close l) ≡ is_settled l
lost-settles opening close Waiting = refl
lost-settles opening close (Taken by at) =
    elim (by == opening) as (λ b. is_settled (cond b (Lost by at close) (Taken by at))
    ≡ true) [ true ↦ refl | false ↦ refl ]
lost-settles opening close (Answered by at answer good) = refl
lost-settles opening close (Lost by at first) = refl

with_life-length : (f : JobLife → JobLife) (n : ℕ) (ls : List JobLife) → length (with_life f n ls) ≡ length ls
with_life-length f zero ls = refl
with_life-length f (suc n) [] = refl
with_life-length f (suc zero) (l ∷ ls) = refl
with_life-length f (suc (suc n)) (l ∷ ls) = ap suc (with_life-length f (suc n) ls)

with_life-settled : (f : JobLife → JobLife) → ((l : JobLife) → is_settled (f l) ≡ is_settled l)
    → (n : ℕ) (ls : List JobLife) → list_all is_settled (with_life f n ls) ≡ list_all is_settled ls
with_life-settled f h zero ls = refl
with_life-settled f h (suc n) [] = refl
with_life-settled f h (suc zero) (l ∷ ls) = ap (λ b. b && list_all is_settled ls) (h l)
with_life-settled f h (suc (suc n)) (l ∷ ls) = ap (λ b. is_settled l && b) (with_life-settled f h (suc n) ls)

map-settled : (f : JobLife → JobLife) → ((l : JobLife) → is_settled (f l) ≡ is_settled l) → (ls : List JobLife)
    → list_all is_settled (map f ls) ≡ list_all is_settled ls
map-settled f h [] = refl
map-settled f h (l ∷ ls) = ap (λ b. b && list_all is_settled (map f ls)) (h l)
    ∙ ap (λ b. is_settled l && b) (map-settled f h ls)

same-are : (jobs : List Job) (j : JobsState) (ls : List JobLife) (q : WaitState) → AreJobs jobs j → length ls
    ≡ length j.settled → list_all is_settled ls ≡ list_all is_settled j.settled → q.items ≡ j.queue.items
    → AreJobs jobs (record j { settled = ls; queue = q })
same-are jobs j ls q a l s e = record {
  made = a.made;
  within = omega (arith, a.within, l);
  waiting = e ∙ a.waiting ∙ ap (λ n. items_from (n + 1) (drop n jobs)) (sym l);
  settled = s ∙ a.settled;
}

answered-are : (jobs : List Job) (j : JobsState) (told : Option Told) (at : ℕ) → AreJobs jobs j
    → AreJobs jobs (job_answered j told at)
answered-are jobs j None at a = a
answered-are jobs j (Some s) at a =
    same-are jobs j (with_life (answered_life at s.good) s.number j.settled) j.queue a
    (with_life-length (answered_life at s.good) s.number j.settled)
    (with_life-settled (answered_life at s.good) (answered-settles at s.good) s.number j.settled) refl

left-are : (jobs : List Job) (j : JobsState) (opening at : ℕ) → AreJobs jobs j → AreJobs jobs (jobs_left j opening at)
left-are jobs j opening at a =
    same-are jobs j (map (lost_life opening at) j.settled) _ a (length-map j.settled (lost_life opening at))
    (map-settled (lost_life opening at) (lost-settles opening at) j.settled) refl

pub are_moved : (jobs : List Job) (j : JobsState) (m : Move) → AreJobs jobs j → AreJobs (jobs ++ puts_of m) (moved j m)
are_moved jobs j Stays a = subst (λ (l : List Job). AreJobs l j) (sym (append-nil jobs)) a
are_moved jobs j (Opens o) a = subst (λ (l : List Job). AreJobs l (jobs_opened j o)) (sym (append-nil jobs))
    (record { made = a.made; within = a.within; waiting = a.waiting; settled = a.settled })
are_moved jobs j (Puts job) a = put-are jobs j job a
are_moved jobs j (Reads r at) a = subst (λ (l : List Job). AreJobs l (job_given j r at)) (sym (append-nil jobs))
    (given-are jobs j r at a)
are_moved jobs j (Tells told at) a = subst (λ (l : List Job). AreJobs l (job_answered j told at))
    (sym (append-nil jobs)) (answered-are jobs j told at a)
are_moved jobs j (Leaves o at) a = subst (λ (l : List Job). AreJobs l (jobs_left j o at)) (sym (append-nil jobs))
    (left-are jobs j o at a)

pub no_are : AreJobs [] no_jobs
no_are = record { made = refl; within = omega arith; waiting = refl; settled = refl }

-- ---- lives

settled-there : (ls : List JobLife) (n : ℕ) → list_all is_settled ls ≡ true → slice_get ls n ≡ Some Waiting → ⊥
settled-there [] n a h = cc
settled-there (l ∷ ls) zero a h = let same : l ≡ Waiting = cc in let wrong : is_settled l
    ≡ false = ap is_settled same in cc
settled-there (l ∷ ls) (suc n) a h =
    (elim (is_settled l) as (λ c. (c && list_all is_settled ls) ≡ true → ⊥) [
      | true ↦ λ b. settled-there ls n b h
      | false ↦ λ b. cc
    ]) a

pub waiting_last : WaitingAreLast
waiting_last jobs j a zero = ((λ h. cc), λ h. absurd (omega (arith, h.0)))
waiting_last jobs j a (suc n) = (
  by (nat_lt n (length j.settled)) (nat_lt n j.made) refl refl,
  λ h. let first : nat_lt n (length j.settled) ≡ false = grind (arith, nat_tests) in
      let made = a.made in
      let second : nat_lt n j.made ≡ true = grind (arith, nat_tests) in rw (first, second) refl,
)
  where
    by : (b c : Bool) → nat_lt n (length j.settled) ≡ b → nat_lt n j.made ≡ c
        → cond b (slice_get j.settled n) (cond c (Some Waiting) None) ≡ Some Waiting → (length j.settled < suc n)
        × (suc n ≤ length jobs)
    by true c e f h = absurd (settled-there j.settled n a.settled h)
    by false true e f h = let made = a.made in ((grind (arith, nat_tests)), (grind (arith, nat_tests)))
    by false false e f h = cc

-- ---- what a read takes

life_at-snoc : (ls : List JobLife) (l : JobLife) → slice_get (ls ++ l ∷ []) (length ls) ≡ Some l
life_at-snoc [] l = refl
life_at-snoc (x ∷ ls) l = life_at-snoc ls l

taken_from : (jobs : List Job) (j : JobsState) (r : Asker) (at n : ℕ) (carry : List ℕ) (items : List Pending) → items
    ≡ j.queue.items → AreJobs jobs j → (piece_from carry items r.count).taken ≡ Some n
    → (n ≡ length j.settled + 1) × (length j.settled < length jobs)
    × (settled_with (piece_from carry items r.count).taken (Taken r.opening at) j.settled ≡ j.settled
    ++ Taken r.opening at ∷ [])
taken_from jobs j r at n (b ∷ bs) items e a h = cc
taken_from jobs j r at n [] [] e a h = cc
taken_from jobs j r at n [] (item ∷ items) e a h =
    let t = taken-items (length j.settled) jobs item items (e ∙ a.waiting) in
    let same : item.number ≡ n = cc in
    (sym same ∙ t.1, t.0, refl)

taken_of : (jobs : List Job) (j : JobsState) (r : Asker) (at n : ℕ) → AreJobs jobs j → (piece_of j.queue r).taken
    ≡ Some n
    → (n ≡ length j.settled + 1) × (length j.settled < length jobs)
    × ((job_given j r at).settled ≡ j.settled ++ Taken r.opening at ∷ [])
taken_of jobs j r at n a =
    elim (r.count == 0) as (λ b.
    (cond b (record { bytes = []; taken = None })
    (piece_from (carry_of j.queue.openings r.opening) j.queue.items r.count)).taken ≡ Some n
    → (n ≡ length j.settled + 1) × (length j.settled < length jobs)
    × (settled_with
    (cond b (record { bytes = []; taken = None })
    (piece_from (carry_of j.queue.openings r.opening) j.queue.items r.count)).taken (Taken r.opening at) j.settled
    ≡ j.settled ++ Taken r.opening at ∷ [])) [
      | true ↦ λ h. cc
      | false ↦ taken_from jobs j r at n (carry_of j.queue.openings r.opening) j.queue.items refl a
    ]

life-found : (j : JobsState) (ls : List JobLife) (l : JobLife) (n : ℕ) → j.settled ≡ ls ++ l ∷ [] → n ≡ length ls + 1
    → life_of j n ≡ Some l
life-found j ls l zero e m = absurd (omega (arith, m))
life-found j ls l (suc n) e m =
    let place : n ≡ length ls = omega (arith, m) in
    let long : length (ls ++ l ∷ []) ≡ length ls + 1 = length-append ls (l ∷ []) in
    let whole : length j.settled ≡ length (ls ++ l ∷ []) = ap length e in
    let within : nat_lt n (length j.settled) ≡ true = grind (arith, nat_tests) in
    rw within (ap (λ t. slice_get t n) e ∙ ap (slice_get (ls ++ l ∷ [])) place ∙ life_at-snoc ls l)

pub takes_first : TakesTheFirst
takes_first jobs j a r at n h =
    let t = taken_of jobs j r at n a h in
    let waits = (waiting_last jobs j a n).1 ((omega (arith, t.0)), (omega (arith, t.0, t.1))) in
    (t.0, waits, life-found (job_given j r at) j.settled (Taken r.opening at) n t.2 t.0)
