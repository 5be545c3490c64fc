-- Workers whose slots were served, one after another.
use Rattle.std.proofs.Common.{◌≡◌, ℕ, suc, ◌+◌, ◌*◌, ◌<◌, List, [], ◌∷◌, ◌++◌, length, take, drop, All, get_or}
use Rattle.std.proofs.Common.{take_all, drop_of_length-le, append-nil, refl, sym, ap, subst, ◌∙◌, arith}
use Rattle.am_base.specs.Outside.{GateTold}
use Rattle.std.specs.List.{flat_map, AllByRecursion}
use Rattle.std.proofs.lemmas.List.Elements.{All-nil, All-cons}
use Rattle.turn_lock.specs.Journal.{total}
use Rattle.am_journal.specs.declared.event.Event.{Event}
use Rattle.am_counter.specs.Known.{Known, lists_of}
use Rattle.am_counter.specs.Played.{IsPrefix}
use Rattle.am_serve.specs.Gained.{Rule, Answers}
use Rattle.am_slots.specs.Binding.{HaveNames}
use Rattle.am_slots.specs.Serving.{EachTells}
use Rattle.am_slots.specs.Slots.{Outside, EachHas, unbound}
use Rattle.am_slots.specs.Working.{IsReady, Works, EachWorks, slots_of}
use Rattle.am_slots.specs.declared.working.Worker.{Worker}
use Rattle.am_slots.proofs.Bound.{unbound-cons}
use Rattle.am_slots.proofs.Longer.{has_later}

-- the whole of a list was written
pub whole_written : {A : Type 0} (n : ℕ) (old lent new : List A) → n ≡ length old
    → lent ≡ old → length new ≡ length lent → take n (new ++ drop (length new) old) ≡ new
whole_written n old lent new e same count =
    let f : length new ≡ length old = count ∙ ap length same in
    ap (λ l. take n (new ++ l)) (drop_of_length-le old {i = length new} (omega (arith, f)))
    ∙ ap (λ l. take n l) (append-nil new)
    ∙ take_all n new (omega (arith, e, f))

-- a worker of those that are ready
pub ready_at : {T G L S K : Type 0} (Fits : T → Type 0) (known : T → Known) (told : G → GateTold)
    (workers : List (Worker T G L S K)) (i : ℕ) (x : Worker T G L S K)
    → All (IsReady Fits known told) workers → i < length workers → x ≡ get_or workers i x → IsReady Fits known told x
ready_at {T} {G} {L} {S} {K} Fits known told workers i x h lt e = let P : Worker T G L S K
    → Type 0 = λ w. IsReady Fits known told w in subst P (sym e) (h i x lt)

pub ready_same : {T G L S K : Type 0} (Fits : T → Type 0) (known : T → Known) (told : G → GateTold)
    (workers now : List (Worker T G L S K)) → now ≡ workers
    → All (IsReady Fits known told) workers → All (IsReady Fits known told) now
ready_same {T} {G} {L} {S} {K} Fits known told workers now e h = let P : List (Worker T G L S K)
    → Type 0 = λ l. All (IsReady Fits known told) l in subst P (sym e) h

module _ {T G L S K : Type 0} (Fits : T → Type 0) (known : T → Known) (o : Outside G L S K) (enabled : Rule)
    (unsent : List Event → ℕ → List ℕ) (answer : Answers) where
  -- what a call with a worker at its place says of that place
  pub works_at : (conn : ℕ) (b a x y : Worker T G L S K) → x ≡ b → y ≡ a → Works Fits known o enabled unsent answer conn
      x y → Works Fits known o enabled unsent answer conn b a
  works_at conn b a x y e f w =
      let P : Worker T G L S K → Type 0 = λ z. Works Fits known o enabled unsent answer conn z a in
      let Q : Worker T G L S K → Type 0 = λ z. Works Fits known o enabled unsent answer conn x z in
      subst P e (subst Q f w)

  -- place by place, from this connection on
  abbrev WorkOn : ℕ → List (Worker T G L S K) → List (Worker T G L S K) → Type 0
  WorkOn conn [] [] = Unit {0}
  WorkOn conn [] (y ∷ ys) = ⊥
  WorkOn conn (x ∷ xs) [] = ⊥
  WorkOn conn (x ∷ xs) (y ∷ ys) = Works Fits known o enabled unsent answer conn x y × WorkOn (conn + 1) xs ys

  works_from : (conn : ℕ) (xs ys : List (Worker T G L S K)) → length ys ≡ length xs
      → ((k : ℕ) (d : Worker T G L S K) → k < length xs → Works Fits known o enabled unsent answer (conn + k)
      (get_or xs k d) (get_or ys k d))
      → WorkOn conn xs ys
  works_from conn [] [] e h = tt
  works_from conn [] (y ∷ ys) e h = absurd (omega (arith, e))
  works_from conn (x ∷ xs) [] e h = absurd (omega (arith, e))
  works_from conn (x ∷ xs) (y ∷ ys) e h =
      let P : ℕ → Type 0 = λ n. Works Fits known o enabled unsent answer n x y in
      let first : conn + 0 ≡ conn = omega arith in (
        subst P first (h 0 x (omega arith)),
        works_from (conn + 1) xs ys (omega (arith, e)) (λ k d lt.
            let Q : ℕ → Type 0 = λ n. Works Fits known o enabled unsent answer n (get_or xs k d) (get_or ys k d) in
            let next : conn + suc k ≡ conn + 1 + k = omega arith in
            subst Q next (h (suc k) d (omega (arith, lt)))),
      )

  fits_on : (conn : ℕ) (xs ys : List (Worker T G L S K)) → WorkOn conn xs ys → All (λ w. Fits w.seat) ys
  fits_on conn [] [] h = All-nil (λ w. Fits w.seat)
  fits_on conn [] (y ∷ ys) h = absurd h
  fits_on conn (x ∷ xs) [] h = absurd h
  fits_on conn (x ∷ xs) (y ∷ ys) h = All-cons (λ w. Fits w.seat) y ys h.0.fits (fits_on (conn + 1) xs ys h.1)

  parts_on : (conn : ℕ) (xs ys : List (Worker T G L S K)) → WorkOn conn xs ys
      → total (λ w. (known w.seat).parts) ys ≡ 2 * length xs
  parts_on conn [] [] h = refl
  parts_on conn [] (y ∷ ys) h = absurd h
  parts_on conn (x ∷ xs) [] h = absurd h
  parts_on conn (x ∷ xs) (y ∷ ys) h = omega (arith, h.0.parts, parts_on (conn + 1) xs ys h.1)

  has_on : (seen : List Event) (conn : ℕ) (xs ys : List (Worker T G L S K)) → WorkOn conn xs ys
      → AllByRecursion (λ w. IsPrefix (known w.seat).seen seen) ys
      → EachHas o enabled unsent answer conn seen (slots_of ys) (flat_map (λ w. lists_of (known w.seat)) ys)
  has_on seen conn [] [] h a = refl
  has_on seen conn [] (y ∷ ys) h a = absurd h
  has_on seen conn (x ∷ xs) [] h a = absurd h
  has_on seen conn (x ∷ xs) (y ∷ ys) h a = (
    lists_of (known y.seat),
    flat_map (λ w. lists_of (known w.seat)) ys,
    refl,
    has_later enabled unsent answer conn o (known y.seat).seen seen y.slot (lists_of (known y.seat)) a.0 h.0.has,
    has_on seen (conn + 1) xs ys h.1 a.1,
  )

  tells_on : (path : List ℕ) (conn : ℕ) (xs ys : List (Worker T G L S K)) → WorkOn conn xs ys
      → HaveNames o.gate path conn (slots_of xs) → EachTells o path conn (slots_of ys)
  tells_on path conn [] [] h n = tt
  tells_on path conn [] (y ∷ ys) h n = absurd h
  tells_on path conn (x ∷ xs) [] h n = absurd h
  tells_on path conn (x ∷ xs) (y ∷ ys) h n = (h.0.named path n.0, h.0.tells, tells_on path (conn + 1) xs ys h.1 n.1)

  unbound_on : (conn : ℕ) (xs ys : List (Worker T G L S K)) → WorkOn conn xs ys
      → unbound (slots_of ys) ≡ unbound (slots_of xs)
  unbound_on conn [] [] h = refl
  unbound_on conn [] (y ∷ ys) h = absurd h
  unbound_on conn (x ∷ xs) [] h = absurd h
  unbound_on conn (x ∷ xs) (y ∷ ys) h = omega (
    arith,
    unbound-cons y.slot (slots_of ys),
    unbound-cons x.slot (slots_of xs),
    h.0.bound,
    unbound_on (conn + 1) xs ys h.1,
  )

  pub works_same : (xs ys before after : List (Worker T G L S K)) → before ≡ xs → after ≡ ys → EachWorks Fits known o
      enabled unsent answer before ys → EachWorks Fits known o enabled unsent answer xs after
  works_same xs ys before after e f h =
      let P : List (Worker T G L S K) → Type 0 = λ l. EachWorks Fits known o enabled unsent answer l after in
      let Q : List (Worker T G L S K) → Type 0 = λ l. EachWorks Fits known o enabled unsent answer before l in
      subst P e (subst Q (sym f) h)

  module _ (xs ys : List (Worker T G L S K)) (h : EachWorks Fits known o enabled unsent answer xs ys) where
    all_work : WorkOn 0 xs ys
    all_work = works_from 0 xs ys h.count (λ k d lt.
        let P : ℕ → Type 0 = λ n. Works Fits known o enabled unsent answer n (get_or xs k d) (get_or ys k d) in
        let e : k ≡ 0 + k = omega arith in
        subst P e (h.each k d lt))

    pub each_fits : All (λ w. Fits w.seat) ys
    each_fits = fits_on 0 xs ys all_work

    pub each_parts : total (λ w. (known w.seat).parts) ys ≡ 2 * length xs
    each_parts = parts_on 0 xs ys all_work

    pub each_has : (seen : List Event) → AllByRecursion (λ w. IsPrefix (known w.seat).seen seen) ys
        → EachHas o enabled unsent answer 0 seen (slots_of ys) (flat_map (λ w. lists_of (known w.seat)) ys)
    each_has seen a = has_on seen 0 xs ys all_work a

    pub each_tells : (path : List ℕ) → HaveNames o.gate path 0 (slots_of xs) → EachTells o path 0 (slots_of ys)
    each_tells path n = tells_on path 0 xs ys all_work n

    pub each_unbound : unbound (slots_of ys) ≡ unbound (slots_of xs)
    each_unbound = unbound_on 0 xs ys all_work
