-- What an opening of `jobs` gets.
use Rattle.std.proofs.Common.{◌≡◌, ◌==◌, ℕ, zero, suc, ◌+◌, ◌<◌, ◌≤◌, ◌||◌, Bool, true, false, not}
use Rattle.std.proofs.Common.{cond, List, [], ◌∷◌, ◌++◌, length, take, drop, map, Some, None, refl, sym}
use Rattle.std.proofs.Common.{ap, subst, ◌∙◌, append_assoc, append-nil, arith}
use Rattle.std.specs.List.{concat, list_any}
use Rattle.std.proofs.lemmas.Bool.{eqb-true}
use Rattle.std.proofs.lemmas.Bool.Decides.{nat_tests}
use Rattle.std.proofs.lemmas.List.{take-append-drop}
use Rattle.std.proofs.lemmas.List.Folds.{concat-append, list_any-append}
use Rattle.std.proofs.lemmas.Map.Views.{any-filter_same}
use Rattle.am_text.specs.Requests.{request_lines}
use Rattle.am_text.specs.declared.job.Job.{Job}
use Rattle.am_text.specs.declared.job.JobLife.{JobLife}
use Rattle.am_text.specs.declared.job.JobLife.TheVariants.{Waiting, Taken, Answered, Lost}
use Rattle.wait_queue.proofs.LawLemmas.{carry-set, carry-set_other}
use Rattle.wait_queue.specs.Carry.{OpenCarry, carry_of, is_of, without_opening}
use Rattle.wait_queue.specs.WaitState.{WaitState, piece_from, piece_of, after_from}
use Rattle.wait_queue.specs.declared.pending.Pending.{Pending}
use Rattle.wait_queue.specs.declared.types.Asker.{Asker}
use Rattle.wait_queue.specs.declared.types.Piece.{Piece}
use Rattle.acme_watch.specs.Jobs.{JobsState, settled_with, answered_life, with_life, lost_life}
use Rattle.acme_watch.specs.Laws.{items_from, AreJobs, is_taken_by, lines_taken}
use Rattle.acme_watch.proofs.EachLemmas.{any_filtered}
use Rattle.acme_watch.proofs.LogLaws.{same_piece}
use Rattle.acme_watch.proofs.JobMoves.{Move, Stays, Opens, Puts, Reads, Tells, Leaves, moved, count_moved, CanMove}
use Rattle.acme_watch.proofs.JobMoves.{puts_of, given_of}

-- ---- the lines of what was taken

lines_put : (x n : ℕ) (ls : List JobLife) (jobs : List Job) (job : Job) → length ls ≤ length jobs
    → lines_taken x n ls (jobs ++ job ∷ []) ≡ lines_taken x n ls jobs
lines_put x n [] jobs job l = refl
lines_put x n (y ∷ ls) [] job l = absurd (omega (arith, l))
lines_put x n (y ∷ ls) (j ∷ jobs) job l =
    ap (λ (ts : List (List ℕ)). cond (is_taken_by x y) (request_lines n j ∷ []) []
    ++ ts) (lines_put x (n + 1) ls jobs job (omega (arith, l)))

-- one more was taken
lines_more : (x n : ℕ) (ls : List JobLife) (m : JobLife) (jobs : List Job) (item : Pending) (items : List Pending)
    → item ∷ items ≡ items_from (n + length ls) (drop (length ls) jobs)
    → lines_taken x n (ls ++ m ∷ []) jobs ≡ lines_taken x n ls jobs ++ cond (is_taken_by x m) (item.bytes ∷ []) []
lines_more x n [] m [] item items e = absurd cc
lines_more x n [] m (j ∷ jobs) item items e =
    let first : item ≡ record { number = n + 0; bytes = request_lines (n + 0) j } = cc in
    let none : n + 0 ≡ n = omega arith in
    let bytes : request_lines n j ≡ item.bytes = ap (λ (k : ℕ). request_lines k j) (sym none)
    ∙ sym (ap (λ (i : Pending). i.bytes) first) in
    append-nil _ ∙ ap (λ (l : List ℕ). cond (is_taken_by x m) (l ∷ []) []) bytes
lines_more x n (y ∷ ls) m [] item items e = absurd cc
lines_more x n (y ∷ ls) m (j ∷ jobs) item items e =
    let next : n + length (y ∷ ls) ≡ n + 1 + length ls = omega arith in
    let later = lines_more x (n + 1) ls m jobs item items (e
    ∙ ap (λ (k : ℕ). items_from k (drop (length ls) jobs)) next) in
    ap (λ (ts : List (List ℕ)). cond (is_taken_by x y) (request_lines n j ∷ []) [] ++ ts) later
    ∙ sym (append_assoc (cond (is_taken_by x y) (request_lines n j ∷ []) []) (lines_taken x (n + 1) ls jobs)
    (cond (is_taken_by x m) (item.bytes ∷ []) []))

lines_each : (x n : ℕ) (f : JobLife → JobLife) → ((l : JobLife) → is_taken_by x (f l) ≡ is_taken_by x l)
    → (ls : List JobLife) (jobs : List Job)
    → lines_taken x n (map f ls) jobs ≡ lines_taken x n ls jobs
lines_each x n f h [] jobs = refl
lines_each x n f h (y ∷ ls) [] = refl
lines_each x n f h (y ∷ ls) (j ∷ jobs) =
    ap (λ b. cond b (request_lines n j ∷ []) [] ++ lines_taken x (n + 1) (map f ls) jobs) (h y)
    ∙ ap (λ (ts : List (List ℕ)). cond (is_taken_by x y) (request_lines n j ∷ []) []
    ++ ts) (lines_each x (n + 1) f h ls jobs)

lines_one : (x n : ℕ) (f : JobLife → JobLife) → ((l : JobLife) → is_taken_by x (f l) ≡ is_taken_by x l)
    → (k : ℕ) (ls : List JobLife) (jobs : List Job)
    → lines_taken x n (with_life f k ls) jobs ≡ lines_taken x n ls jobs
lines_one x n f h zero ls jobs = refl
lines_one x n f h (suc k) [] jobs = refl
lines_one x n f h (suc zero) (y ∷ ls) [] = refl
lines_one x n f h (suc zero) (y ∷ ls) (j ∷ jobs) = ap (λ b. cond b (request_lines n j ∷ []) []
    ++ lines_taken x (n + 1) ls jobs) (h y)
lines_one x n f h (suc (suc k)) (y ∷ ls) [] = refl
lines_one x n f h (suc (suc k)) (y ∷ ls) (j ∷ jobs) =
    ap (λ (ts : List (List ℕ)). cond (is_taken_by x y) (request_lines n j ∷ []) []
    ++ ts) (lines_one x (n + 1) f h (suc k) ls jobs)

same_answered : (x answer : ℕ) (good : Bool) (l : JobLife) → is_taken_by x (answered_life answer good l)
    ≡ is_taken_by x l
same_answered x answer good Waiting = refl
same_answered x answer good (Taken o at) = refl
same_answered x answer good (Answered o at first so) = refl
same_answered x answer good (Lost o at close) = refl

same_lost : (x opening close : ℕ) (l : JobLife) → is_taken_by x (lost_life opening close l) ≡ is_taken_by x l
same_lost x opening close Waiting = refl
same_lost x opening close (Taken o at) =
    elim (o == opening) as (λ b. is_taken_by x (cond b (Lost o at close) (Taken o at))
    ≡ (o == x)) [ true ↦ refl | false ↦ refl ]
same_lost x opening close (Answered o at answer good) = refl
same_lost x opening close (Lost o at first) = refl

-- ---- what an opening has left

carry_absent : (cs : List OpenCarry) (x : ℕ) → list_any (is_of x) cs ≡ false → carry_of cs x ≡ []
carry_absent [] x h = refl
carry_absent (c ∷ cs) x h =
    (elim (is_of x c) as (λ b. (b || list_any (is_of x) cs) ≡ false → cond b c.carry (carry_of cs x) ≡ [])
    [ true ↦ λ k. absurd cc | false ↦ λ k. carry_absent cs x k ]) h

carry_pushed : (cs : List OpenCarry) (o x : ℕ) → carry_of (cs ++ record { opening = o; carry = [] } ∷ []) x
    ≡ carry_of cs x
carry_pushed [] o x = elim (o == x) as (λ b. cond {A = List ℕ} b [] [] ≡ []) [ true ↦ refl | false ↦ refl ]
carry_pushed (c ∷ cs) o x = ap (λ (l : List ℕ). cond (is_of x c) c.carry l) (carry_pushed cs o x)

carry_others : (cs : List OpenCarry) (o x : ℕ) → (x == o) ≡ false → carry_of (without_opening cs o) x ≡ carry_of cs x
carry_others [] o x n = refl
carry_others (c ∷ cs) o x n = by (is_of o c) refl (carry_others cs o x n)
  where
    by : (b : Bool) → is_of o c ≡ b → carry_of (without_opening cs o) x ≡ carry_of cs x
        → carry_of (cond (not b) (c ∷ without_opening cs o) (without_opening cs o)) x
        ≡ cond (is_of x c) c.carry (carry_of cs x)
    by true e later =
        let is : c.opening ≡ o = eqb-true c.opening o e in
        let other : is_of x c ≡ false = grind (arith, nat_tests) in
        later ∙ sym (ap (λ b. cond b c.carry (carry_of cs x)) other)
    by false e later = ap (λ (l : List ℕ). cond (is_of x c) c.carry l) later

-- ---- one read

-- a read of this opening
own : (jobs : List Job) (j : JobsState) (r : Asker) (at : ℕ) (carry : List ℕ) (items : List Pending) → AreJobs jobs j
    → carry_of j.queue.openings r.opening ≡ carry → j.queue.items ≡ items → list_any (is_of r.opening) j.queue.openings
    ≡ true
    → (before : List ℕ) → before ++ carry ≡ concat (lines_taken r.opening 1 j.settled jobs)
    → (before ++ (piece_from carry items r.count).bytes)
    ++ carry_of (after_from carry items j.queue r).openings r.opening
    ≡ concat
    (lines_taken r.opening 1 (settled_with (piece_from carry items r.count).taken (Taken r.opening at) j.settled)
    jobs)
own jobs j r at (b ∷ bs) items a e i h before g =
    append_assoc before (take r.count (b ∷ bs)) _
    ∙ ap (λ (l : List ℕ). before
    ++ (take r.count (b ∷ bs) ++ l)) (carry-set j.queue.openings r.opening (drop r.count (b ∷ bs)) h)
    ∙ ap (λ (l : List ℕ). before ++ l) (take-append-drop r.count (b ∷ bs))
    ∙ g
own jobs j r at [] [] a e i h before g =
    ap (λ (l : List ℕ). l ++ carry_of j.queue.openings r.opening) (append-nil before)
    ∙ ap (λ (l : List ℕ). before ++ l) e ∙ g
own jobs j r at [] (item ∷ items) a e i h before g =
    let first : 1 + length j.settled ≡ length j.settled + 1 = omega arith in
    let same : (r.opening == r.opening) ≡ true = grind (arith, nat_tests) in
    let more : lines_taken r.opening 1 (j.settled ++ Taken r.opening at ∷ []) jobs
    ≡ lines_taken r.opening 1 j.settled jobs ++ item.bytes ∷ [] =
    lines_more r.opening 1 j.settled (Taken r.opening at) jobs item items
    (sym i ∙ a.waiting ∙ ap (λ (k : ℕ). items_from k (drop (length j.settled) jobs)) (sym first))
    ∙ ap (λ b. lines_taken r.opening 1 j.settled jobs ++ cond b (item.bytes ∷ []) []) same
    in
    append_assoc before (take r.count item.bytes) _
    ∙ ap (λ (l : List ℕ). before
    ++ (take r.count item.bytes ++ l)) (carry-set j.queue.openings r.opening (drop r.count item.bytes) h)
    ∙ ap (λ (l : List ℕ). before ++ l) (take-append-drop r.count item.bytes)
    ∙ ap (λ (l : List ℕ). l ++ item.bytes) (sym (append-nil before) ∙ g)
    ∙ ap (λ (l : List ℕ). concat (lines_taken r.opening 1 j.settled jobs) ++ l) (sym (append-nil item.bytes))
    ∙ sym (concat-append (lines_taken r.opening 1 j.settled jobs) (item.bytes ∷ []))
    ∙ ap concat (sym more)

-- a read of another
others_lines : (jobs : List Job) (j : JobsState) (r : Asker) (at x : ℕ) (carry : List ℕ) (items : List Pending)
    → AreJobs jobs j → j.queue.items ≡ items
    → (r.opening == x) ≡ false
    → lines_taken x 1 (settled_with (piece_from carry items r.count).taken (Taken r.opening at) j.settled) jobs
    ≡ lines_taken x 1 j.settled jobs
others_lines jobs j r at x (b ∷ bs) items a i n = refl
others_lines jobs j r at x [] [] a i n = refl
others_lines jobs j r at x [] (item ∷ items) a i n =
    let first : 1 + length j.settled ≡ length j.settled + 1 = omega arith in
    lines_more x 1 j.settled (Taken r.opening at) jobs item items
    (sym i ∙ a.waiting ∙ ap (λ (k : ℕ). items_from k (drop (length j.settled) jobs)) (sym first))
    ∙ ap (λ b. lines_taken x 1 j.settled jobs ++ cond b (item.bytes ∷ []) []) n ∙ append-nil _

others_carry : (r : Asker) (x : ℕ) (carry : List ℕ) (items : List Pending) (w : WaitState) → (r.opening == x) ≡ false
    → carry_of (after_from carry items w r).openings x ≡ carry_of w.openings x
others_carry r x (b ∷ bs) items w n = carry-set_other w.openings r.opening x _ (λ e. apart e)
  where
    apart : x ≡ r.opening → ⊥
    apart e = let same : r.opening ≡ x = sym e in grind (arith, nat_tests)
others_carry r x [] (item ∷ items) w n = carry-set_other w.openings r.opening x _ (λ e. apart e)
  where
    apart : x ≡ r.opening → ⊥
    apart e = let same : r.opening ≡ x = sym e in grind (arith, nat_tests)
others_carry r x [] [] w n = refl

no_piece : Piece
no_piece = record { bytes = []; taken = None }

own_read : (jobs : List Job) (j : JobsState) (r : Asker) (at : ℕ) → AreJobs jobs j
    → list_any (is_of r.opening) j.queue.openings ≡ true
    → (before : List ℕ) → before ++ carry_of j.queue.openings r.opening
    ≡ concat (lines_taken r.opening 1 j.settled jobs)
    → (before ++ (piece_of j.queue r).bytes) ++ carry_of (moved j (Reads r at)).queue.openings r.opening
    ≡ concat (lines_taken r.opening 1 (moved j (Reads r at)).settled jobs)
own_read jobs j r at a h before g =
    elim (r.count == 0) as (λ b. (before
    ++ (cond b (record { bytes = []; taken = None })
    (piece_from (carry_of j.queue.openings r.opening) j.queue.items r.count)).bytes)
    ++ carry_of (cond b j.queue (after_from (carry_of j.queue.openings r.opening) j.queue.items j.queue r)).openings
    r.opening
    ≡ concat
    (lines_taken r.opening 1
    (settled_with
    (cond b (record { bytes = []; taken = None })
    (piece_from (carry_of j.queue.openings r.opening) j.queue.items r.count)).taken (Taken r.opening at) j.settled)
    jobs)) [
      | true ↦ ap (λ (l : List ℕ). l ++ carry_of j.queue.openings r.opening) (append-nil before) ∙ g
      | false ↦ own jobs j r at (carry_of j.queue.openings r.opening) j.queue.items a refl refl h before g
    ]

other_lines : (jobs : List Job) (j : JobsState) (r : Asker) (at x : ℕ) → AreJobs jobs j → (r.opening == x) ≡ false
    → lines_taken x 1 (moved j (Reads r at)).settled jobs ≡ lines_taken x 1 j.settled jobs
other_lines jobs j r at x a n =
    elim (r.count == 0) as (λ b. lines_taken x 1
    (settled_with
    (cond b (record { bytes = []; taken = None })
    (piece_from (carry_of j.queue.openings r.opening) j.queue.items r.count)).taken (Taken r.opening at) j.settled)
    jobs
    ≡ lines_taken x 1 j.settled jobs)
    [ true ↦ refl | false ↦ others_lines jobs j r at x (carry_of j.queue.openings r.opening) j.queue.items a refl n ]

other_carry : (j : JobsState) (r : Asker) (at x : ℕ) → (r.opening == x) ≡ false
    → carry_of (moved j (Reads r at)).queue.openings x ≡ carry_of j.queue.openings x
other_carry j r at x n =
    elim (r.count == 0) as (λ b. carry_of
    (cond b j.queue (after_from (carry_of j.queue.openings r.opening) j.queue.items j.queue r)).openings x
    ≡ carry_of j.queue.openings x)
    [ true ↦ refl | false ↦ others_carry r x (carry_of j.queue.openings r.opening) j.queue.items j.queue n ]

-- ---- one move

pub record Gets (given : List ℕ) (jobs : List Job) (j : JobsState) (n x : ℕ) : Type 0 where
  pub missing : List ℕ
  pub joined : given ++ missing ≡ concat (lines_taken x 1 j.settled jobs)
  pub there : list_any (is_of x) j.queue.openings ≡ true → missing ≡ carry_of j.queue.openings x
  pub before : n < x → missing ≡ []

wrong : {X : Type 0} (b : Bool) → b ≡ false → b ≡ true → X
wrong true f t = absurd cc
wrong false f t = absurd cc

-- nothing is given, and what was taken and what is left stay
quiet : (given : List ℕ) (jobs more : List Job) (j k : JobsState) (n m x : ℕ) → n ≤ m
    → lines_taken x 1 k.settled more ≡ lines_taken x 1 j.settled jobs
    → (list_any (is_of x) k.queue.openings ≡ true → list_any (is_of x) j.queue.openings ≡ true)
    → (list_any (is_of x) k.queue.openings ≡ true → carry_of k.queue.openings x ≡ carry_of j.queue.openings x)
    → Gets given jobs j n x → Gets (given ++ []) more k m x
quiet given jobs more j k n m x up lines was carry g = record {
  missing = g.missing;
  joined = ap (λ (l : List ℕ). l ++ g.missing) (append-nil given) ∙ g.joined ∙ ap concat (sym lines);
  there = λ t. g.there (was t) ∙ sym (carry t);
  before = λ l. g.before (omega (arith, l, up));
}

pub gets_move : (given : List ℕ) (jobs : List Job) (j : JobsState) (n : ℕ) (m : Move) (x : ℕ) → AreJobs jobs j
    → ((y : ℕ) → list_any (is_of y) j.queue.openings ≡ true → y ≤ n) → CanMove j n m → Gets given jobs j n x
    → Gets (given ++ given_of j m x) (jobs ++ puts_of m) (moved j m) (count_moved n m) x
gets_move given jobs j n Stays x a within can g =
    quiet given jobs (jobs
    ++ []) j j n n x (omega arith) (ap (lines_taken x 1 j.settled) (append-nil jobs)) (λ t. t) (λ t. refl) g
gets_move given jobs j n (Opens o) x a within can g = by (list_any (is_of x) j.queue.openings) refl
  where
    lines : lines_taken x 1 j.settled (jobs ++ []) ≡ lines_taken x 1 j.settled jobs
    lines = ap (lines_taken x 1 j.settled) (append-nil jobs)

    last : (p q : Bool) → p ≡ false → (p || (q || false)) ≡ true → q ≡ true
    last true q e k = absurd cc
    last false true e k = refl
    last false false e k = k

    by : (b : Bool) → list_any (is_of x) j.queue.openings ≡ b
        → Gets (given ++ []) (jobs ++ []) (moved j (Opens o)) (n + 1) x
    by true e = quiet given jobs (jobs
        ++ []) j (moved j (Opens o)) n (n + 1) x (omega arith) lines (λ t. e) (λ t. carry_pushed j.queue.openings o x) g
    by false e = record {
      missing = g.missing;
      joined = ap (λ (l : List ℕ). l ++ g.missing) (append-nil given) ∙ g.joined ∙ ap concat (sym lines);
      there = λ t.
          let new : o
          ≡ x = eqb-true o x
          (last (list_any (is_of x) j.queue.openings) (o == x) e (sym (list_any-append (is_of x) j.queue.openings _)
          ∙ t)) in
          g.before (omega (arith, new, can))
          ∙ sym (carry_pushed j.queue.openings o x ∙ carry_absent j.queue.openings x e);
      before = λ l. g.before (omega (arith, l));
    }
gets_move given jobs j n (Puts job) x a within can g =
    quiet given jobs (jobs
    ++ job ∷ []) j (moved j (Puts job)) n n x (omega arith) (lines_put x 1 j.settled jobs job a.within) (λ t. t)
    (λ t. refl) g
gets_move given jobs j n (Reads r at) x a within can g = by (r.opening == x) refl
  where
    any : list_any (is_of x) (moved j (Reads r at)).queue.openings ≡ list_any (is_of x) j.queue.openings
    any = (same_piece j.queue r).any x

    all : lines_taken x 1 (moved j (Reads r at)).settled (jobs ++ [])
        ≡ lines_taken x 1 (moved j (Reads r at)).settled jobs
    all = ap (lines_taken x 1 (moved j (Reads r at)).settled) (append-nil jobs)

    by : (b : Bool) → (r.opening == x) ≡ b
        → Gets (given ++ cond (r.opening == x) (piece_of j.queue r).bytes []) (jobs ++ []) (moved j (Reads r at)) n x
    by true e =
        let same : r.opening ≡ x = eqb-true r.opening x e in
        let there : list_any (is_of x) j.queue.openings
        ≡ true = ap (λ (y : ℕ). list_any (is_of y) j.queue.openings) (sym same) ∙ can in
        let old : given ++ carry_of j.queue.openings r.opening ≡ concat (lines_taken r.opening 1 j.settled jobs) =
        ap (λ (y : ℕ). given ++ carry_of j.queue.openings y) same
        ∙ ap (λ (l : List ℕ). given ++ l) (sym (g.there there)) ∙ g.joined
        ∙ ap (λ (y : ℕ). concat (lines_taken y 1 j.settled jobs)) (sym same)
        in
        record {
          missing = carry_of (moved j (Reads r at)).queue.openings x;
          joined =
              ap (λ b. (given ++ cond b (piece_of j.queue r).bytes [])
              ++ carry_of (moved j (Reads r at)).queue.openings x) e
              ∙ ap (λ (y : ℕ). (given ++ (piece_of j.queue r).bytes)
              ++ carry_of (moved j (Reads r at)).queue.openings y) (sym same)
              ∙ own_read jobs j r at a can given old
              ∙ ap (λ (y : ℕ). concat (lines_taken y 1 (moved j (Reads r at)).settled jobs)) same ∙ ap concat (sym all);
          there = λ t. refl;
          before = λ l. let most = within x there in absurd (omega (arith, l, most));
        }
    by false e =
        subst (λ (l : List ℕ). Gets (given ++ l) (jobs
        ++ []) (moved j (Reads r at)) n x) (sym (ap (λ b. cond b (piece_of j.queue r).bytes []) e))
        (quiet given jobs (jobs ++ []) j (moved j (Reads r at)) n n x (omega arith) (all
        ∙ other_lines jobs j r at x a e) (λ t. sym any ∙ t) (λ t. other_carry j r at x e) g)
gets_move given jobs j n (Tells None at) x a within can g =
    quiet given jobs (jobs
    ++ []) j j n n x (omega arith) (ap (lines_taken x 1 j.settled) (append-nil jobs)) (λ t. t) (λ t. refl) g
gets_move given jobs j n (Tells (Some told) at) x a within can g =
    quiet given jobs (jobs ++ []) j (moved j (Tells (Some told) at)) n n x (omega arith)
    (ap (lines_taken x 1 (moved j (Tells (Some told) at)).settled) (append-nil jobs)
    ∙ lines_one x 1 (answered_life at told.good) (same_answered x at told.good) told.number j.settled jobs) (λ t. t)
    (λ t. refl) g
gets_move given jobs j n (Leaves o at) x a within can g =
    quiet given jobs (jobs ++ []) j (moved j (Leaves o at)) n n x (omega arith)
    (ap (lines_taken x 1 (moved j (Leaves o at)).settled) (append-nil jobs)
    ∙ lines_each x 1 (lost_life o at) (same_lost x o at) j.settled jobs)
    (λ t. any_filtered (is_of x) (λ c. not (is_of o c)) j.queue.openings t) (λ t. left (x == o) refl t) g
  where
    left : (b : Bool) → (x == o) ≡ b → list_any (is_of x) (without_opening j.queue.openings o) ≡ true
        → carry_of (without_opening j.queue.openings o) x ≡ carry_of j.queue.openings x
    left true e t =
        let same : x ≡ o = eqb-true x o e in
        let none : list_any (is_of x) (without_opening j.queue.openings o) ≡ false =
        ap (λ (y : ℕ). list_any (is_of y) (without_opening j.queue.openings o)) same
        ∙ any-filter_same (is_of o) (λ c. not (is_of o c)) false (λ c k. ap not k) j.queue.openings
        in
        wrong _ none t
    left false e t = carry_others j.queue.openings o x e
