-- Lives go on.
use Rattle.std.proofs.Common.{◌≡◌, ◌⊎◌, inl, inr, ◌==◌, ℕ, zero, suc, ◌+◌, ◌<◌, ◌≤◌, ◌||◌, Bool, true, false, not}
use Rattle.std.proofs.Common.{cond, List, [], ◌∷◌, ◌++◌, length, get_or, map, Option, Some, None, option_map}
use Rattle.std.proofs.Common.{refl, sym, ap, subst, ◌∙◌, arith}
use Rattle.std.specs.List.{list_any, slice_get}
use Rattle.std.specs.Prelude.{nat_lt}
use Rattle.std.proofs.lemmas.Bool.{eqb-true}
use Rattle.std.proofs.lemmas.Bool.Decides.{nat_tests}
use Rattle.std.proofs.lemmas.List.Folds.{list_any-append}
use Rattle.std.proofs.lemmas.Map.Views.{any-filter_same}
use Rattle.std.proofs.lemmas.Option.{slice_get_within, slice_get-get_or, slice_get-map}
use Rattle.am_text.specs.declared.job.JobLife.{JobLife}
use Rattle.am_text.specs.declared.job.JobLife.TheVariants.{Waiting, Taken, Answered, Lost}
use Rattle.wait_queue.specs.Carry.{OpenCarry, is_of, without_opening}
use Rattle.wait_queue.specs.WaitState.{piece_of}
use Rattle.acme_watch.specs.Jobs.{JobsState, no_jobs, life_in, life_of, settled_with, life_fault, answer_fault}
use Rattle.acme_watch.specs.Jobs.{answered_life, with_life, job_answered, lost_life}
use Rattle.acme_watch.specs.Laws.{taker, GoesOn, HasGoneOn, AnswersWhatItTook}
use Rattle.acme_watch.specs.declared.lines.Told.{Told}
use Rattle.acme_watch.specs.declared.types.AnswerFault.TheVariants as fault
use Rattle.acme_watch.proofs.EachLemmas.{any_filtered}
use Rattle.acme_watch.proofs.LogLaws.{same_piece}
use Rattle.acme_watch.proofs.JobMoves.{Move, Stays, Opens, Puts, Reads, Tells, Leaves, moved, count_moved, CanMove}

-- ---- a life by its number

life_cases : (ls : List JobLife) (made i : ℕ) (l : JobLife) → life_in ls made (suc i) ≡ Some l
    → (slice_get ls i ≡ Some l) ⊎ ((length ls ≤ i) × (i < made) × (l ≡ Waiting))
life_cases ls made i l h = by (nat_lt i (length ls)) (nat_lt i made) refl refl h
  where
    by : (b c : Bool) → nat_lt i (length ls) ≡ b → nat_lt i made ≡ c
        → cond b (slice_get ls i) (cond c (Some Waiting) None) ≡ Some l
        → (slice_get ls i ≡ Some l) ⊎ ((length ls ≤ i) × (i < made) × (l ≡ Waiting))
    by true c e f k = inl k
    by false true e f k = inr ((grind (arith, nat_tests)), (grind (arith, nat_tests)), (cc))
    by false false e f k = absurd cc

life_there : (ls : List JobLife) (made i : ℕ) (l : JobLife) → slice_get ls i ≡ Some l → life_in ls made (suc i) ≡ Some l
life_there ls made i l h =
    let long : i < length ls = slice_get_within ls i l h in
    let within : nat_lt i (length ls) ≡ true = grind (arith, nat_tests) in rw within h

life_waits : (ls : List JobLife) (made i : ℕ) → length ls ≤ i → i < made → life_in ls made (suc i) ≡ Some Waiting
life_waits ls made i l m =
    let first : nat_lt i (length ls) ≡ false = grind (arith, nat_tests) in
    let second : nat_lt i made ≡ true = grind (arith, nat_tests) in rw (first, second) refl

-- ---- a life goes on

goes_same : (l : JobLife) → GoesOn l l
goes_same Waiting = tt
goes_same (Taken o at) = refl
goes_same (Answered o at answer good) = refl
goes_same (Lost o at close) = refl

pub goes_further : (a b c : JobLife) → GoesOn a b → GoesOn b c → GoesOn a c
goes_further Waiting b c g h = tt
goes_further (Taken o at) Waiting c g h = absurd cc
goes_further (Taken o at) (Taken p q) c g h = h ∙ g
goes_further (Taken o at) (Answered p q answer good) c g h = ap taker h ∙ g
goes_further (Taken o at) (Lost p q close) c g h = ap taker h ∙ g
goes_further (Answered o at answer good) b c g h = subst (λ (l : JobLife). GoesOn l c) g h
goes_further (Lost o at close) b c g h = subst (λ (l : JobLife). GoesOn l c) g h

pub stays_on : (l : JobLife) (found : Option JobLife) → found ≡ Some l → HasGoneOn l found
stays_on l found e = record { to = l; is = e; goes = goes_same l }

goes_answered : (answer : ℕ) (good : Bool) (l : JobLife) → GoesOn l (answered_life answer good l)
goes_answered answer good Waiting = tt
goes_answered answer good (Taken o at) = refl
goes_answered answer good (Answered o at first so) = refl
goes_answered answer good (Lost o at close) = refl

goes_lost : (opening close : ℕ) (l : JobLife) → GoesOn l (lost_life opening close l)
goes_lost opening close Waiting = tt
goes_lost opening close (Taken o at) =
    elim (o == opening) as (λ b. taker (cond b (Lost o at close) (Taken o at))
    ≡ Some (o, at)) [ true ↦ refl | false ↦ refl ]
goes_lost opening close (Answered o at answer good) = refl
goes_lost opening close (Lost o at first) = refl

-- each of the lives goes on to the one at its place
abbrev Grows : List JobLife → List JobLife → Type 0
Grows ls ms = (i : ℕ) (l : JobLife) → slice_get ls i ≡ Some l → HasGoneOn l (slice_get ms i)

grows_same : (ls : List JobLife) → Grows ls ls
grows_same ls i l e = stays_on l (slice_get ls i) e

grows_pushed : (ls : List JobLife) (m : JobLife) → Grows ls (ls ++ m ∷ [])
grows_pushed [] m i l e = absurd cc
grows_pushed (x ∷ ls) m zero l e = stays_on l (Some x) e
grows_pushed (x ∷ ls) m (suc i) l e = grows_pushed ls m i l e

grows_settled : (taken : Option ℕ) (m : JobLife) (ls : List JobLife) → Grows ls (settled_with taken m ls)
grows_settled None m ls = grows_same ls
grows_settled (Some number) m ls = grows_pushed ls m

grows_one : (f : JobLife → JobLife) → ((l : JobLife) → GoesOn l (f l)) → (n : ℕ) (ls : List JobLife)
    → Grows ls (with_life f n ls)
grows_one f h zero ls i l e = stays_on l (slice_get ls i) e
grows_one f h (suc n) [] i l e = absurd cc
grows_one f h (suc zero) (x ∷ ls) zero l e =
    let same : x ≡ l = cc in
    record { to = f x; is = refl; goes = subst (λ (y : JobLife). GoesOn y (f x)) same (h x) }
grows_one f h (suc zero) (x ∷ ls) (suc i) l e = stays_on l (slice_get ls i) e
grows_one f h (suc (suc n)) (x ∷ ls) zero l e = stays_on l (Some x) e
grows_one f h (suc (suc n)) (x ∷ ls) (suc i) l e = grows_one f h (suc n) ls i l e

grows_each : (f : JobLife → JobLife) → ((l : JobLife) → GoesOn l (f l)) → (ls : List JobLife) → Grows ls (map f ls)
grows_each f h ls i l e = record { to = f l; is = slice_get-map f ls i ∙ ap (option_map f) e; goes = h l }

goes_in : (ls ms : List JobLife) (made more n : ℕ) (l : JobLife) → Grows ls ms → made ≤ more → life_in ls made n
    ≡ Some l
    → HasGoneOn l (life_in ms more n)
goes_in ls ms made more zero l g u e = absurd cc
goes_in ls ms made more (suc i) l g u e = by (life_cases ls made i l e)
  where
    by : (slice_get ls i ≡ Some l) ⊎ ((length ls ≤ i) × (i < made) × (l ≡ Waiting))
        → HasGoneOn l (life_in ms more (suc i))
    by (inl k) = let h = g i l k in record { to = h.to; is = life_there ms more i h.to h.is; goes = h.goes }
    by (inr k) = within (nat_lt i (length ms)) refl
      where
        within : (b : Bool) → nat_lt i (length ms) ≡ b → HasGoneOn l (life_in ms more (suc i))
        within true f =
            let short : i < length ms = grind (arith, nat_tests) in
            let to : JobLife = get_or ms i Waiting in
            record {
              to = to;
              is = life_there ms more i to (slice_get-get_or ms i Waiting short);
              goes = subst (λ (y : JobLife). GoesOn y to) (sym k.2) tt;
            }
        within false f =
            let past : length ms ≤ i = grind (arith, nat_tests) in
            record {
              to = Waiting;
              is = life_waits ms more i past (omega (arith, k.1, u));
              goes = subst (λ (y : JobLife). GoesOn y Waiting) (sym k.2) tt;
            }

pub goes_moved : (j : JobsState) (m : Move) (n : ℕ) (l : JobLife) → life_of j n ≡ Some l
    → HasGoneOn l (life_of (moved j m) n)
goes_moved j Stays n l e = stays_on l _ e
goes_moved j (Opens o) n l e = stays_on l _ e
goes_moved j (Puts job) n l e = goes_in j.settled j.settled j.made (j.made + 1) n l (grows_same j.settled) (omega arith)
    e
goes_moved j (Reads r at) n l e =
    goes_in j.settled _ j.made j.made n l (grows_settled (piece_of j.queue r).taken (Taken r.opening at) j.settled)
    (omega arith) e
goes_moved j (Tells None at) n l e = stays_on l _ e
goes_moved j (Tells (Some told) at) n l e =
    goes_in j.settled _ j.made j.made n l
    (grows_one (answered_life at told.good) (goes_answered at told.good) told.number j.settled) (omega arith) e
goes_moved j (Leaves o at) n l e =
    goes_in j.settled _ j.made j.made n l (grows_each (lost_life o at) (goes_lost o at) j.settled) (omega arith) e

-- ---- what is taken is open

abbrev pub TakenOpen : JobsState → Type 0
TakenOpen j = (n o at : ℕ) → life_of j n ≡ Some (Taken o at) → list_any (is_of o) j.queue.openings ≡ true

pushed_back : (ls : List JobLife) (m l : JobLife) (i : ℕ) → slice_get (ls ++ m ∷ []) i ≡ Some l
    → (slice_get ls i ≡ Some l) ⊎ (m ≡ l)
pushed_back [] m l zero e = inr cc
pushed_back [] m l (suc i) e = absurd cc
pushed_back (x ∷ ls) m l zero e = inl e
pushed_back (x ∷ ls) m l (suc i) e = pushed_back ls m l i e

settled_back : (taken : Option ℕ) (ls : List JobLife) (m l : JobLife) (i : ℕ) → slice_get (settled_with taken m ls) i
    ≡ Some l
    → (slice_get ls i ≡ Some l) ⊎ (m ≡ l)
settled_back None ls m l i e = inl e
settled_back (Some number) ls m l i e = pushed_back ls m l i e

one_back : (answer : ℕ) (good : Bool) (n o at : ℕ) (ls : List JobLife) (i : ℕ)
    → slice_get (with_life (answered_life answer good) n ls) i ≡ Some (Taken o at)
    → slice_get ls i ≡ Some (Taken o at)
one_back answer good zero o at ls i e = e
one_back answer good (suc n) o at [] i e = e
one_back answer good (suc zero) o at (x ∷ ls) zero e = by x e
  where
    by : (y : JobLife) → Some (answered_life answer good y) ≡ Some (Taken o at) → Some y ≡ Some (Taken o at)
    by Waiting k = absurd cc
    by (Taken p q) k = absurd cc
    by (Answered p q first so) k = absurd cc
    by (Lost p q close) k = absurd cc
one_back answer good (suc zero) o at (x ∷ ls) (suc i) e = e
one_back answer good (suc (suc n)) o at (x ∷ ls) zero e = e
one_back answer good (suc (suc n)) o at (x ∷ ls) (suc i) e = one_back answer good (suc n) o at ls i e

lost_back : (opening close o at : ℕ) (ls : List JobLife) (i : ℕ) → slice_get (map (lost_life opening close) ls) i
    ≡ Some (Taken o at)
    → (slice_get ls i ≡ Some (Taken o at)) × ((o == opening) ≡ false)
lost_back opening close o at [] i e = absurd cc
lost_back opening close o at (x ∷ ls) zero e = by x e
  where
    by : (y : JobLife) → Some (lost_life opening close y) ≡ Some (Taken o at) → (Some y ≡ Some (Taken o at))
        × ((o == opening) ≡ false)
    by Waiting k = absurd cc
    by (Taken p q) k = same (p == opening) refl k
      where
        same : (b : Bool) → (p == opening) ≡ b → Some (cond b (Lost p q close) (Taken p q)) ≡ Some (Taken o at)
            → (Some (Taken p q) ≡ Some (Taken o at)) × ((o == opening) ≡ false)
        same true f h = absurd cc
        same false f h = let is : p ≡ o = cc in (h, sym (ap (λ (y : ℕ). y == opening) is) ∙ f)
    by (Answered p q answer good) k = absurd cc
    by (Lost p q first) k = absurd cc
lost_back opening close o at (x ∷ ls) (suc i) e = lost_back opening close o at ls i e

or_left : (a b : Bool) → a ≡ true → (a || b) ≡ true
or_left true b h = refl
or_left false b h = absurd cc

any_pushed : (cs : List OpenCarry) (c : OpenCarry) (x : ℕ) → list_any (is_of x) cs ≡ true
    → list_any (is_of x) (cs ++ c ∷ []) ≡ true
any_pushed cs c x h = list_any-append (is_of x) cs (c ∷ []) ∙ or_left (list_any (is_of x) cs) _ h

-- what another opening that stays has
any_others : (cs : List OpenCarry) (opening x : ℕ) → (x == opening) ≡ false → list_any (is_of x) cs ≡ true
    → list_any (is_of x) (without_opening cs opening) ≡ true
any_others cs opening x n h =
    any-filter_same (is_of x) (λ c. not (is_of opening c)) true
    (λ c t. ap not (ap (λ (y : ℕ). y == opening) (eqb-true c.opening x t) ∙ n)) cs ∙ h

pub taken_moved : (j : JobsState) (n : ℕ) (m : Move) → CanMove j n m → TakenOpen j → TakenOpen (moved j m)
taken_moved j n Stays a t = t
taken_moved j n (Opens o) a t = λ k x at e. any_pushed j.queue.openings _ x (t k x at e)
taken_moved j n (Puts job) a t = by
  where
    by : TakenOpen (moved j (Puts job))
    by zero x at e = absurd cc
    by (suc i) x at e = from (life_cases j.settled (j.made + 1) i (Taken x at) e)
      where
        from : (slice_get j.settled i ≡ Some (Taken x at))
            ⊎ ((length j.settled ≤ i) × (i < j.made + 1) × (Taken x at ≡ Waiting)) → list_any (is_of x) j.queue.openings
            ≡ true
        from (inl k) = t (suc i) x at (life_there j.settled j.made i (Taken x at) k)
        from (inr k) = let bad = k.2 in absurd cc
taken_moved j n (Reads r at) a t = by
  where
    there : (x : ℕ) → list_any (is_of x) j.queue.openings ≡ true
        → list_any (is_of x) (moved j (Reads r at)).queue.openings ≡ true
    there x h = (same_piece j.queue r).any x ∙ h

    by : TakenOpen (moved j (Reads r at))
    by zero x entry e = absurd cc
    by (suc i) x entry e = from (life_cases (moved j (Reads r at)).settled j.made i (Taken x entry) e)
      where
        old : (slice_get j.settled i ≡ Some (Taken x entry)) ⊎ (Taken r.opening at ≡ Taken x entry)
            → list_any (is_of x) j.queue.openings ≡ true
        old (inl k) = t (suc i) x entry (life_there j.settled j.made i (Taken x entry) k)
        old (inr k) = let same : r.opening ≡ x = cc in sym (ap (λ (y : ℕ). list_any (is_of y) j.queue.openings) same)
            ∙ a

        from : (slice_get (moved j (Reads r at)).settled i ≡ Some (Taken x entry))
            ⊎ ((length (moved j (Reads r at)).settled ≤ i) × (i < j.made) × (Taken x entry ≡ Waiting))
            → list_any (is_of x) (moved j (Reads r at)).queue.openings ≡ true
        from (inl k) = there x
            (old (settled_back (piece_of j.queue r).taken j.settled (Taken r.opening at) (Taken x entry) i k))
        from (inr k) = let bad = k.2 in absurd cc
taken_moved j n (Tells None at) a t = t
taken_moved j n (Tells (Some told) at) a t = by
  where
    by : TakenOpen (moved j (Tells (Some told) at))
    by zero x entry e = absurd cc
    by (suc i) x entry e = from (life_cases (moved j (Tells (Some told) at)).settled j.made i (Taken x entry) e)
      where
        from : (slice_get (moved j (Tells (Some told) at)).settled i ≡ Some (Taken x entry))
            ⊎ ((length (moved j (Tells (Some told) at)).settled ≤ i) × (i < j.made) × (Taken x entry ≡ Waiting))
            → list_any (is_of x) j.queue.openings ≡ true
        from (inl k) = t (suc i) x entry
            (life_there j.settled j.made i (Taken x entry) (one_back at told.good told.number x entry j.settled i k))
        from (inr k) = let bad = k.2 in absurd cc
taken_moved j n (Leaves o at) a t = by
  where
    by : TakenOpen (moved j (Leaves o at))
    by zero x entry e = absurd cc
    by (suc i) x entry e = from (life_cases (moved j (Leaves o at)).settled j.made i (Taken x entry) e)
      where
        from : (slice_get (moved j (Leaves o at)).settled i ≡ Some (Taken x entry))
            ⊎ ((length (moved j (Leaves o at)).settled ≤ i) × (i < j.made) × (Taken x entry ≡ Waiting))
            → list_any (is_of x) (without_opening j.queue.openings o) ≡ true
        from (inl k) =
            let old = lost_back o at x entry j.settled i k in
            any_others j.queue.openings o x old.1
            (t (suc i) x entry (life_there j.settled j.made i (Taken x entry) old.0))
        from (inr k) = let bad = k.2 in absurd cc

pub none_taken : TakenOpen no_jobs
none_taken zero o at e = absurd cc
none_taken (suc i) o at e = by (life_cases [] 0 i (Taken o at) e)
  where
    by : (slice_get [] i ≡ Some (Taken o at)) ⊎ ((length {A = JobLife} [] ≤ i) × (i < 0) × (Taken o at ≡ Waiting))
        → list_any (is_of o) [] ≡ true
    by (inl k) = absurd cc
    by (inr k) = let bad = k.2 in absurd cc

-- ---- openings of `jobs`

last_is : (p q : Bool) → (p || (q || false)) ≡ true → (p ≡ true) ⊎ (q ≡ true)
last_is true q h = inl refl
last_is false true h = inr refl
last_is false false h = absurd cc

pub numbered_moved : (j : JobsState) (n : ℕ) (m : Move) → CanMove j n m
    → ((x : ℕ) → list_any (is_of x) j.queue.openings ≡ true → x ≤ n)
    → (x : ℕ) → list_any (is_of x) (moved j m).queue.openings ≡ true → x ≤ count_moved n m
numbered_moved j n Stays a within x t = within x t
numbered_moved j n (Opens o) a within x t = by
    (last_is (list_any (is_of x) j.queue.openings) (o == x) (sym (list_any-append (is_of x) j.queue.openings _) ∙ t))
  where
    by : (list_any (is_of x) j.queue.openings ≡ true) ⊎ ((o == x) ≡ true) → x ≤ n + 1
    by (inl k) = let old = within x k in omega (arith, old)
    by (inr k) = let same = eqb-true o x k in omega (arith, same, a)
numbered_moved j n (Puts job) a within x t = within x t
numbered_moved j n (Reads r at) a within x t = within x (sym ((same_piece j.queue r).any x) ∙ t)
numbered_moved j n (Tells None at) a within x t = within x t
numbered_moved j n (Tells (Some told) at) a within x t = within x t
numbered_moved j n (Leaves o at) a within x t = within x
    (any_filtered (is_of x) (λ c. not (is_of o c)) j.queue.openings t)

-- ---- answers

was_taken : (j : JobsState) (opening : ℕ) (told : Told) → answer_fault j opening (Some told) ≡ None → (at : ℕ)
    × (life_of j told.number ≡ Some (Taken opening at))
was_taken j opening told h = by (life_of j told.number) refl h
  where
    by : (l : Option JobLife) → life_of j told.number ≡ l → life_fault opening l ≡ None → (at : ℕ)
        × (life_of j told.number ≡ Some (Taken opening at))
    by None e h = cc
    by (Some Waiting) e h = cc
    by (Some (Taken o at)) e h = same (o == opening) refl h
      where
        same : (b : Bool) → (o == opening) ≡ b → cond b None (Some fault.NoRequest) ≡ None → (at : ℕ)
            × (life_of j told.number ≡ Some (Taken opening at))
        same true f h = let is : o ≡ opening = grind (arith, nat_tests) in (at, e ∙ ap (λ k. Some (Taken k at)) is)
        same false f h = cc
    by (Some (Answered o at answer good)) e h = cc
    by (Some (Lost o at close)) e h = cc

get_with_life : (f : JobLife → JobLife) (i : ℕ) (ls : List JobLife) → slice_get (with_life f (suc i) ls) i
    ≡ option_map f (slice_get ls i)
get_with_life f i [] = refl
get_with_life f zero (x ∷ ls) = refl
get_with_life f (suc i) (x ∷ ls) = get_with_life f i ls

answered_in : (settled : List JobLife) (made number opening at entry : ℕ) (good : Bool) → life_in settled made number
    ≡ Some (Taken opening at)
    → life_in (with_life (answered_life entry good) number settled) made number ≡ Some (Answered opening at entry good)
answered_in ls made zero opening at entry good e = absurd cc
answered_in ls made (suc i) opening at entry good e = by (life_cases ls made i (Taken opening at) e)
  where
    by : (slice_get ls i ≡ Some (Taken opening at)) ⊎ ((length ls ≤ i) × (i < made) × (Taken opening at ≡ Waiting))
        → life_in (with_life (answered_life entry good) (suc i) ls) made (suc i) ≡ Some (Answered opening at entry good)
    by (inl k) = life_there _ made i _ (get_with_life (answered_life entry good) i ls
        ∙ ap (option_map (answered_life entry good)) k)
    by (inr k) = let bad = k.2 in absurd cc

pub answers_taken : AnswersWhatItTook
answers_taken j opening entry told h =
    let taken = was_taken j opening told h in
    let now : life_of (job_answered j (Some told) entry) told.number ≡ Some (Answered opening taken.0 entry told.good) =
    answered_in j.settled j.made told.number opening taken.0 entry told.good taken.1
    in
    record {
      at = taken.0;
      was = taken.1;
      is = now;
      once = λ other again same. ap (λ (k : ℕ). life_fault other (life_of (job_answered j (Some told) entry) k)) same
          ∙ ap (life_fault other) now;
    }
