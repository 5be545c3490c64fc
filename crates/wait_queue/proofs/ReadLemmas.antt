-- What the waiting reads of the code show, as they come, are answered, cancelled, kept and set back.
use Rattle.std.proofs.Common.{◌≡◌, ℕ, zero, suc, ◌<◌, ◌≤◌, ◌&&◌, ◌||◌, Bool, true, false, cond, not, List, [], ◌∷◌}
use Rattle.std.proofs.Common.{◌++◌, subst, length, get_or, set, take, map, filter, find, Some, None, refl, sym, ap, ◌∙◌, arith}
use Rattle.std.proofs.Common.{take_all}
use Rattle.std.proofs.lemmas.List.{get_or_read, map-append, take-map}
use Rattle.std.proofs.lemmas.Bool.Decides.{nat_tests}
use Rattle.std.proofs.lemmas.List.Quantifiers.{position-Some}
use Rattle.std.proofs.lemmas.List.Sums.{fails_before_first, position_or_len_is}
use Rattle.std.specs.List.{position, position_or_len, list_any}
use Rattle.wait_queue.proofs.OpeningLemmas.{map-take-set}
use Rattle.am_text.specs.Twice.{Twice, both}
use Rattle.wait_queue.specs.Reads.{without_first}
use Rattle.wait_queue.specs.Waiting.{asker_of, is_here, mark, here_again, AreHere}
use Rattle.wait_queue.specs.declared.types.Asker.{Asker}
use Rattle.wait_queue.specs.declared.waiting_list.Waiting.{Waiting}

-- the reads that are here
abbrev here : List Waiting → List Asker
here ws = map asker_of (filter is_here ws)

-- a read that is here and passes
abbrev passes : (Asker → Bool) → Waiting → Bool
passes p w = is_here w && p w.asker

-- one more read at the front
find-here : (p : Asker → Bool) (w : Waiting) (ws : List Waiting) → find p (here (w ∷ ws)) ≡ cond (passes p w)
    (Some w.asker) (find p (here ws))
find-here p w ws =
    elim w.gone as (λ g. find p (map asker_of (cond (not g) (w ∷ filter is_here ws) (filter is_here ws)))
    ≡ cond (not g && p w.asker) (Some w.asker) (find p (here ws)))
    [ true ↦ refl | false ↦ refl ]

without-here : (p : Asker → Bool) (w : Waiting) (ws : List Waiting)
    → without_first p (here (w ∷ ws)) ≡ cond (passes p w) (here ws)
    (cond (is_here w) (w.asker ∷ without_first p (here ws)) (without_first p (here ws)))
without-here p w ws =
    elim w.gone as (λ g. without_first p (map asker_of (cond (not g) (w ∷ filter is_here ws) (filter is_here ws)))
    ≡ cond (not g && p w.asker) (here ws) (cond (not g) (w.asker ∷ without_first p (here ws))
    (without_first p (here ws))))
    [ true ↦ refl | false ↦ refl ]

here-cons : (w : Waiting) (ws : List Waiting) → here (w ∷ ws) ≡ cond (is_here w) (w.asker ∷ here ws) (here ws)
here-cons w ws =
    elim w.gone as (λ g. map asker_of (cond (not g) (w ∷ filter is_here ws) (filter is_here ws)) ≡ cond (not g)
    (w.asker ∷ here ws) (here ws))
    [ true ↦ refl | false ↦ refl ]

none_passes : (p : Asker → Bool) (ws : List Waiting) → position (passes p) ws ≡ None → (k : ℕ) (d : Waiting)
    → k < length ws → passes p (get_or ws k d) ≡ false
none_passes p ws h k d l = fails_before_first (passes p) ws k d (grind (arith, nat_tests))

find_missing : (p : Asker → Bool) (ws : List Waiting) → ((k : ℕ) (d : Waiting) → k < length ws
    → passes p (get_or ws k d) ≡ false) → find p (here ws) ≡ None
find_missing p [] h = refl
find_missing p (w ∷ ws) h =
    find-here p w ws ∙ ap (λ b. cond b (Some w.asker) (find p (here ws))) (h 0 w (omega arith))
    ∙ find_missing p ws (λ k d l. h (suc k) d (omega arith))

pub find-none : (p : Asker → Bool) (ws : List Waiting) → position (passes p) ws ≡ None → find p (here ws) ≡ None
find-none p ws h = find_missing p ws (none_passes p ws h)

without_missing : (p : Asker → Bool) (ws : List Waiting) → ((k : ℕ) (d : Waiting) → k < length ws
    → passes p (get_or ws k d) ≡ false) → without_first p (here ws) ≡ here ws
without_missing p [] h = refl
without_missing p (w ∷ ws) h =
    let first : passes p w ≡ false = h 0 w (omega arith) in
    let later : without_first p (here ws) ≡ here ws = without_missing p ws (λ k d l. h (suc k) d (omega arith)) in
    without-here p w ws
    ∙ ap (λ b. cond b (here ws) (cond (is_here w) (w.asker ∷ without_first p (here ws)) (without_first p (here ws))))
    first
    ∙ ap (λ rs. cond (is_here w) (w.asker ∷ rs) rs) later ∙ sym (here-cons w ws)

pub without-none : (p : Asker → Bool) (ws : List Waiting) → position (passes p) ws ≡ None → without_first p
    (here ws) ≡ here ws
without-none p ws h = without_missing p ws (none_passes p ws h)

find_found : (p : Asker → Bool) (ws : List Waiting) (k : ℕ) (d : Waiting) → k < length ws
    → passes p (get_or ws k d) ≡ true → ((j : ℕ) → j < k → passes p (get_or ws j d) ≡ false)
    → find p (here ws) ≡ Some (get_or ws k d).asker
find_found p [] k d l t f = absurd (omega arith)
find_found p (w ∷ ws) zero d l t f = find-here p w ws ∙ ap (λ b. cond b (Some w.asker) (find p (here ws))) t
find_found p (w ∷ ws) (suc k) d l t f =
    find-here p w ws ∙ ap (λ b. cond b (Some w.asker) (find p (here ws))) (f 0 (omega arith))
    ∙ find_found p ws k d (omega arith) t (λ j h. f (suc j) (omega arith))

pub find-some : (p : Asker → Bool) (ws : List Waiting) (k : ℕ) (d : Waiting) → position (passes p) ws ≡ Some k
    → find p (here ws) ≡ Some (get_or ws k d).asker
find-some p ws k d h =
    let found = position-Some (passes p) ws k d h in find_found p ws k d found.0 found.1 found.2

without_found : (p : Asker → Bool) (ws : List Waiting) (k : ℕ) (d v : Waiting) → k < length ws
    → passes p (get_or ws k d) ≡ true → ((j : ℕ) → j < k → passes p (get_or ws j d) ≡ false)
    → v.gone ≡ true → here (set ws k v) ≡ without_first p (here ws)
without_found p [] k d v l t f e = absurd (omega arith)
without_found p (w ∷ ws) zero d v l t f e =
    let first : passes p w ≡ true = t in
    here-cons v ws ∙ ap (λ g. cond (not g) (v.asker ∷ here ws) (here ws)) e
    ∙ sym (without-here p w ws ∙ ap (λ b. cond b (here ws) (cond (is_here w) (w.asker ∷ without_first p (here ws))
    (without_first p (here ws)))) first)
without_found p (w ∷ ws) (suc k) d v l t f e =
    let first : passes p w ≡ false = f 0 (omega arith) in
    let later : here (set ws k v) ≡ without_first p (here ws) = without_found p ws k d v (omega arith) t
    (λ j h. f (suc j) (omega arith)) e in
    here-cons w (set ws k v) ∙ ap (λ rs. cond (is_here w) (w.asker ∷ rs) rs) later
    ∙ sym (without-here p w ws ∙ ap (λ b. cond b (here ws) (cond (is_here w) (w.asker ∷ without_first p (here ws))
    (without_first p (here ws)))) first)

-- the code's view after the first read that passes was marked
pub answered : (p : Asker → Bool) (ws : List Waiting) (n k : ℕ) (d v : Waiting) → position (passes p) ws ≡ Some k
    → d ≡ get_or ws k d → v ≡ record { asker = d.asker; gone = true }
    → ◌≡◌ {A = Twice (List Asker)} (record { present = here (set ws k v); kept = map asker_of (take n (set ws k v)) })
    (record { present = without_first p (here ws); kept = map asker_of (take n ws) })
answered p ws n k d v h r e =
    let found = position-Some (passes p) ws k d h in
    let same : v.asker ≡ (get_or ws k d).asker = ap asker_of e ∙ ap asker_of r in
    let gone : v.gone ≡ true = ap (λ (w : Waiting). w.gone) e in
    rw (without_found p ws k d v found.0 found.1 found.2 gone, map-take-set asker_of ws n k d v same)

here-mark : (p : Asker → Bool) (ws : List Waiting) → here (map (mark p) ws) ≡ filter (λ r. not (p r)) (here ws)
here-mark p [] = refl
here-mark p (w ∷ ws) =
    let later : here (map (mark p) ws) ≡ filter (λ r. not (p r)) (here ws) = here-mark p ws in
    here-cons (mark p w) (map (mark p) ws)
    ∙ (elim w.gone as (λ g. cond (not (g || p w.asker)) (w.asker ∷ here (map (mark p) ws))
    (here (map (mark p) ws)) ≡ filter (λ r. not (p r)) (map asker_of
    (cond (not g) (w ∷ filter is_here ws) (filter is_here ws))))
    [ true ↦ later | false ↦ ap (λ rs. cond (not (p w.asker)) (w.asker ∷ rs) rs) later ])

-- filtering again changes nothing
filter_twice : (p q : Waiting → Bool) → ((w : Waiting) → p w ≡ true → q w ≡ true) → (ws : List Waiting)
    → filter q (filter p ws) ≡ filter p ws
filter_twice p q h [] = refl
filter_twice p q h (w ∷ ws) =
    (elim (p w) as (λ b. p w ≡ b → filter q (cond b (w ∷ filter p ws) (filter p ws)) ≡ cond b (w ∷ filter p ws)
    (filter p ws)) [
      | true ↦ λ e. ap (λ b. cond b (w ∷ filter q (filter p ws)) (filter q (filter p ws))) (h w e)
          ∙ ap (λ vs. w ∷ vs) (filter_twice p q h ws)
      | false ↦ λ e. filter_twice p q h ws
    ]) refl

pub all_here_kept : (ws vs : List Waiting) (n : ℕ) → vs ≡ filter is_here ws → length vs ≤ n
    → ◌≡◌ {A = Twice (List Asker)} (record { present = here vs; kept = map asker_of (take n vs) }) (both (here ws))
all_here_kept ws vs n e l = rw (take_all n vs l, e, filter_twice is_here is_here (λ w h. h) ws)

-- the code's view after the reads that pass were marked and dropped
pub all_stay : (p : Asker → Bool) (ws us vs : List Waiting) (n : ℕ) → us ≡ map (mark p) ws → vs ≡ filter is_here us
    → length vs ≤ n → ◌≡◌ {A = Twice (List Asker)} (record { present = here vs; kept = map asker_of (take n vs) })
    (both (filter (λ r. not (p r)) (here ws)))
all_stay p ws us vs n m e l =
    all_here_kept us vs n e l ∙ ap (λ (rs : List Asker). both rs) (ap here m ∙ here-mark p ws)

here-here_again : (ws : List Waiting) → here (map here_again ws) ≡ map asker_of ws
here-here_again [] = refl
here-here_again (w ∷ ws) = ap (λ rs. w.asker ∷ rs) (here-here_again ws)

asker-here_again : (ws : List Waiting) → map asker_of (map here_again ws) ≡ map asker_of ws
asker-here_again [] = refl
asker-here_again (w ∷ ws) = ap (λ rs. w.asker ∷ rs) (asker-here_again ws)

pub all_back_here : (ws vs : List Waiting) (n : ℕ) → vs ≡ map here_again ws → length vs ≤ n
    → ◌≡◌ {A = Twice (List Asker)} (record { present = here vs; kept = map asker_of (take n vs) })
    (both (map asker_of ws))
all_back_here ws vs n e l = rw (take_all n vs l, e, here-here_again ws, asker-here_again ws)

pub list_any-here : (p : Asker → Bool) (ws : List Waiting) → list_any (passes p) ws ≡ list_any p (here ws)
list_any-here p [] = refl
list_any-here p (w ∷ ws) =
    let later : list_any (passes p) ws ≡ list_any p (here ws) = list_any-here p ws in
    elim w.gone as (λ g. ((not g && p w.asker) || list_any (passes p) ws) ≡ list_any p
    (map asker_of (cond (not g) (w ∷ filter is_here ws) (filter is_here ws))))
    [ true ↦ later | false ↦ ap (λ b. p w.asker || b) later ]

module _ {X : Type 0} where
  pub position-at : (p : X → Bool) (xs : List X) (i : ℕ) (d : X) → i < length xs
      → ((k : ℕ) → k < i → p (get_or xs k d) ≡ false) → p (get_or xs i d) ≡ true → Some i ≡ position p xs
  position-at p xs i d l f t =
      let at : position_or_len p xs ≡ i = position_or_len_is p xs i d (omega arith) f (λ _. t) in
      grind (arith, nat_tests)

  pub position-past : (p : X → Bool) (xs : List X) (i : ℕ) (d : X) → i ≤ length xs → length xs ≤ i
      → ((k : ℕ) → k < i → p (get_or xs k d) ≡ false) → None ≡ position p xs
  position-past p xs i d l m f =
      let at : position_or_len p xs ≡ i = position_or_len_is p xs i d l f (λ h. absurd (omega arith)) in
      grind (arith, nat_tests)

pub marked : (p : Asker → Bool) (ws : List Waiting) (i : ℕ) (w v : Waiting) (b : Bool) → i < length ws
    → w ≡ get_or ws i w → b ≡ (w.gone || p w.asker) → ◌≡◌ {A = Waiting}
    (record { asker = (get_or ws i v).asker; gone = b }) (mark p (get_or ws i v))
marked p ws i w v b l r e =
    let read : w ≡ get_or ws i v = get_or_read ws i w l r v in
    ap (λ (g : Bool). record { asker = (get_or ws i v).asker; gone = g })
    (e ∙ ap (λ (u : Waiting). u.gone || p u.asker) read)

-- ---- none is gone

filter_again : (ws : List Waiting) → filter is_here (map here_again ws) ≡ map here_again ws
filter_again [] = refl
filter_again (w ∷ ws) = ap (λ vs. here_again w ∷ vs) (filter_again ws)

pub all_here : (ws : List Waiting) → AreHere ws → filter is_here ws ≡ ws
all_here ws h = subst (λ vs. filter is_here vs ≡ vs) h (filter_again ws)

here_is : (w : Waiting) → w.gone ≡ false → here_again w ≡ w
here_is w e = ap (λ g. record { asker = w.asker; gone = g }) (sym e)

pub here_kept : (ws : List Waiting) → AreHere (filter is_here ws)
here_kept [] = refl
here_kept (w ∷ ws) =
    (elim w.gone as (λ g. w.gone ≡ g → map here_again (cond (not g) (w ∷ filter is_here ws) (filter is_here ws))
    ≡ cond (not g) (w ∷ filter is_here ws) (filter is_here ws)) [
      | true ↦ λ e. here_kept ws
      | false ↦ λ e. ap (λ v. v ∷ map here_again (filter is_here ws)) (here_is w e)
          ∙ ap (λ vs. w ∷ vs) (here_kept ws)
    ]) refl

-- those that are left
pub here_left : (us vs : List Waiting) → vs ≡ filter is_here us → AreHere vs
here_left us vs e = subst AreHere (sym e) (here_kept us)

pub here_again_here : (ws : List Waiting) → AreHere (map here_again ws)
here_again_here [] = refl
here_again_here (w ∷ ws) = ap (λ vs. here_again w ∷ vs) (here_again_here ws)

pub here_pushed : (ws : List Waiting) (a : Asker) → AreHere ws → AreHere (ws ++ record { asker = a; gone = false } ∷ [])
here_pushed ws a h =
    map-append here_again ws (record { asker = a; gone = false } ∷ [])
    ∙ ap (λ vs. vs ++ record { asker = a; gone = false } ∷ []) h

pub here_taken : (n : ℕ) (ws : List Waiting) → AreHere ws → AreHere (take n ws)
here_taken n ws h = sym (take-map here_again n ws) ∙ ap (take n) h

pub ruleset heres = (all_here, here_kept, here_again_here, here_pushed, here_taken)
