-- What the waiting reads of the code show, as they come, are answered, cancelled, kept and set back.
use Rattle.std.proofs.Common.{◌≡◌, ℕ, zero, suc, ◌<◌, ◌≤◌, ◌&&◌, ◌||◌, Bool, true, false, cond, not, List, [], ◌∷◌}
use Rattle.std.proofs.Common.{length, get_or, set, take, map, filter, find, Some, None, refl, sym, ap, ◌∙◌, arith}
use Rattle.std.proofs.Common.{take_all}
use Rattle.std.proofs.lemmas.Bool.Decides.{nat_tests}
use Rattle.std.proofs.lemmas.List.Quantifiers.{position-Some}
use Rattle.std.proofs.lemmas.List.Sums.{fails_before_first}
use Rattle.std.specs.List.{position, list_any}
use Rattle.am_text.specs.Twice.{Twice, both}
use Rattle.acme_watch.specs.Reads.{without_first, read_of, is_here, mark, here_again}
use Rattle.acme_watch.specs.declared.types.WatchRead.{WatchRead}
use Rattle.acme_watch.specs.declared.reads.Held.{Held}

-- a change that the kept state does not show
module _ {X Y : Type 0} where
  pub map-take-set : (f : X → Y) (xs : List X) (n k : ℕ) (d y : X) → f y ≡ f (get_or xs k d)
      → map f (take n (set xs k y)) ≡ map f (take n xs)
  map-take-set f [] n k d y e = refl
  map-take-set f (x ∷ xs) zero k d y e = refl
  map-take-set f (x ∷ xs) (suc n) zero d y e = ap (λ z. z ∷ map f (take n xs)) e
  map-take-set f (x ∷ xs) (suc n) (suc k) d y e = ap (λ zs. f x ∷ zs) (map-take-set f xs n k d y e)

-- the reads that are here
abbrev here : List Held → List WatchRead
here ws = map read_of (filter is_here ws)

-- a read that is here and passes
abbrev passes : (WatchRead → Bool) → Held → Bool
passes p w = is_here w && p w.read

-- one more read at the front
find-here : (p : WatchRead → Bool) (w : Held) (ws : List Held) → find p (here (w ∷ ws))
    ≡ cond (passes p w) (Some w.read) (find p (here ws))
find-here p w ws =
    elim w.gone as (λ g. find p (map read_of (cond (not g) (w ∷ filter is_here ws) (filter is_here ws)))
    ≡ cond (not g && p w.read) (Some w.read) (find p (here ws)))
    [ true ↦ refl | false ↦ refl ]

without-here : (p : WatchRead → Bool) (w : Held) (ws : List Held) → without_first p (here (w ∷ ws))
    ≡ cond (passes p w) (here ws) (cond (is_here w) (w.read ∷ without_first p (here ws)) (without_first p (here ws)))
without-here p w ws =
    elim w.gone as (λ g. without_first p (map read_of (cond (not g) (w ∷ filter is_here ws) (filter is_here ws)))
    ≡ cond (not g
    && p w.read) (here ws) (cond (not g) (w.read ∷ without_first p (here ws)) (without_first p (here ws))))
    [ true ↦ refl | false ↦ refl ]

here-cons : (w : Held) (ws : List Held) → here (w ∷ ws) ≡ cond (is_here w) (w.read ∷ here ws) (here ws)
here-cons w ws =
    elim w.gone as (λ g. map read_of (cond (not g) (w ∷ filter is_here ws) (filter is_here ws))
    ≡ cond (not g) (w.read ∷ here ws) (here ws))
    [ true ↦ refl | false ↦ refl ]

none_passes : (p : WatchRead → Bool) (ws : List Held) → position (passes p) ws ≡ None → (k : ℕ) (d : Held)
    → k < length ws → passes p (get_or ws k d) ≡ false
none_passes p ws h k d l = fails_before_first (passes p) ws k d (grind (arith, nat_tests))

find_missing : (p : WatchRead → Bool) (ws : List Held)
    → ((k : ℕ) (d : Held) → k < length ws → passes p (get_or ws k d) ≡ false) → find p (here ws) ≡ None
find_missing p [] h = refl
find_missing p (w ∷ ws) h =
    find-here p w ws ∙ ap (λ b. cond b (Some w.read) (find p (here ws))) (h 0 w (omega arith))
    ∙ find_missing p ws (λ k d l. h (suc k) d (omega arith))

pub find-none : (p : WatchRead → Bool) (ws : List Held) → position (passes p) ws ≡ None → find p (here ws) ≡ None
find-none p ws h = find_missing p ws (none_passes p ws h)

without_missing : (p : WatchRead → Bool) (ws : List Held)
    → ((k : ℕ) (d : Held) → k < length ws → passes p (get_or ws k d) ≡ false) → without_first p (here ws) ≡ here ws
without_missing p [] h = refl
without_missing p (w ∷ ws) h =
    let first : passes p w ≡ false = h 0 w (omega arith) in
    let later : without_first p (here ws) ≡ here ws = without_missing p ws (λ k d l. h (suc k) d (omega arith)) in
    without-here p w ws
    ∙ ap (λ b. cond b (here ws) (cond (is_here w) (w.read ∷ without_first p (here ws)) (without_first p (here ws))))
    first
    ∙ ap (λ rs. cond (is_here w) (w.read ∷ rs) rs) later ∙ sym (here-cons w ws)

pub without-none : (p : WatchRead → Bool) (ws : List Held) → position (passes p) ws ≡ None → without_first p (here ws)
    ≡ here ws
without-none p ws h = without_missing p ws (none_passes p ws h)

find_found : (p : WatchRead → Bool) (ws : List Held) (k : ℕ) (d : Held) → k < length ws → passes p (get_or ws k d)
    ≡ true → ((j : ℕ) → j < k → passes p (get_or ws j d) ≡ false) → find p (here ws) ≡ Some (get_or ws k d).read
find_found p [] k d l t f = absurd (omega arith)
find_found p (w ∷ ws) zero d l t f = find-here p w ws ∙ ap (λ b. cond b (Some w.read) (find p (here ws))) t
find_found p (w ∷ ws) (suc k) d l t f =
    find-here p w ws ∙ ap (λ b. cond b (Some w.read) (find p (here ws))) (f 0 (omega arith))
    ∙ find_found p ws k d (omega arith) t (λ j h. f (suc j) (omega arith))

pub find-some : (p : WatchRead → Bool) (ws : List Held) (k : ℕ) (d : Held) → position (passes p) ws ≡ Some k
    → find p (here ws) ≡ Some (get_or ws k d).read
find-some p ws k d h =
    let found = position-Some (passes p) ws k d h in find_found p ws k d found.0 found.1 found.2

without_found : (p : WatchRead → Bool) (ws : List Held) (k : ℕ) (d v : Held) → k < length ws → passes p (get_or ws k d)
    ≡ true → ((j : ℕ) → j < k → passes p (get_or ws j d) ≡ false) → v.gone ≡ true → here (set ws k v)
    ≡ without_first p (here ws)
without_found p [] k d v l t f e = absurd (omega arith)
without_found p (w ∷ ws) zero d v l t f e =
    let first : passes p w ≡ true = t in
    here-cons v ws ∙ ap (λ g. cond (not g) (v.read ∷ here ws) (here ws)) e
    ∙ sym (without-here p w ws
    ∙ ap (λ b. cond b (here ws) (cond (is_here w) (w.read ∷ without_first p (here ws)) (without_first p (here ws))))
    first)
without_found p (w ∷ ws) (suc k) d v l t f e =
    let first : passes p w ≡ false = f 0 (omega arith) in
    let later : here (set ws k v)
    ≡ without_first p (here ws) = without_found p ws k d v (omega arith) t (λ j h. f (suc j) (omega arith)) e in
    here-cons w (set ws k v) ∙ ap (λ rs. cond (is_here w) (w.read ∷ rs) rs) later
    ∙ sym (without-here p w ws
    ∙ ap (λ b. cond b (here ws) (cond (is_here w) (w.read ∷ without_first p (here ws)) (without_first p (here ws))))
    first)

-- the code's view after the first read that passes was marked
pub answered : (p : WatchRead → Bool) (ws : List Held) (n k : ℕ) (d v : Held) → position (passes p) ws ≡ Some k → d
    ≡ get_or ws k d → v ≡ record { read = d.read; gone = true }
    → ◌≡◌ {A = Twice (List WatchRead)}
    (record { present = here (set ws k v); kept = map read_of (take n (set ws k v)) })
    (record { present = without_first p (here ws); kept = map read_of (take n ws) })
answered p ws n k d v h r e =
    let found = position-Some (passes p) ws k d h in
    let same : v.read ≡ (get_or ws k d).read = ap read_of e ∙ ap read_of r in
    let gone : v.gone ≡ true = ap (λ (w : Held). w.gone) e in
    rw (without_found p ws k d v found.0 found.1 found.2 gone, map-take-set read_of ws n k d v same)

here-mark : (p : WatchRead → Bool) (ws : List Held) → here (map (mark p) ws) ≡ filter (λ r. not (p r)) (here ws)
here-mark p [] = refl
here-mark p (w ∷ ws) =
    let later : here (map (mark p) ws) ≡ filter (λ r. not (p r)) (here ws) = here-mark p ws in
    here-cons (mark p w) (map (mark p) ws)
    ∙ (elim w.gone as (λ g. cond (not (g || p w.read)) (w.read ∷ here (map (mark p) ws)) (here (map (mark p) ws))
    ≡ filter (λ r. not (p r)) (map read_of (cond (not g) (w ∷ filter is_here ws) (filter is_here ws))))
    [ true ↦ later | false ↦ ap (λ rs. cond (not (p w.read)) (w.read ∷ rs) rs) later ])

-- filtering again changes nothing
filter_twice : (p q : Held → Bool) → ((w : Held) → p w ≡ true → q w ≡ true) → (ws : List Held) → filter q (filter p ws)
    ≡ filter p ws
filter_twice p q h [] = refl
filter_twice p q h (w ∷ ws) =
    (elim (p w) as (λ b. p w ≡ b → filter q (cond b (w ∷ filter p ws) (filter p ws))
    ≡ cond b (w ∷ filter p ws) (filter p ws)) [
      | true ↦ λ e. ap (λ b. cond b (w ∷ filter q (filter p ws)) (filter q (filter p ws))) (h w e)
          ∙ ap (λ vs. w ∷ vs) (filter_twice p q h ws)
      | false ↦ λ e. filter_twice p q h ws
    ]) refl

pub all_here_kept : (ws vs : List Held) (n : ℕ) → vs ≡ filter is_here ws → length vs ≤ n
    → ◌≡◌ {A = Twice (List WatchRead)} (record { present = here vs; kept = map read_of (take n vs) }) (both (here ws))
all_here_kept ws vs n e l = rw (take_all n vs l, e, filter_twice is_here is_here (λ w h. h) ws)

-- the code's view after the reads that pass were marked and dropped
pub all_stay : (p : WatchRead → Bool) (ws us vs : List Held) (n : ℕ) → us ≡ map (mark p) ws → vs ≡ filter is_here us
    → length vs ≤ n
    → ◌≡◌ {A = Twice (List WatchRead)} (record { present = here vs; kept = map read_of (take n vs) })
    (both (filter (λ r. not (p r)) (here ws)))
all_stay p ws us vs n m e l =
    all_here_kept us vs n e l ∙ ap (λ (rs : List WatchRead). both rs) (ap here m ∙ here-mark p ws)

here-here_again : (ws : List Held) → here (map here_again ws) ≡ map read_of ws
here-here_again [] = refl
here-here_again (w ∷ ws) = ap (λ rs. w.read ∷ rs) (here-here_again ws)

read-here_again : (ws : List Held) → map read_of (map here_again ws) ≡ map read_of ws
read-here_again [] = refl
read-here_again (w ∷ ws) = ap (λ rs. w.read ∷ rs) (read-here_again ws)

pub all_back_here : (ws vs : List Held) (n : ℕ) → vs ≡ map here_again ws → length vs ≤ n
    → ◌≡◌ {A = Twice (List WatchRead)} (record { present = here vs; kept = map read_of (take n vs) })
    (both (map read_of ws))
all_back_here ws vs n e l = rw (take_all n vs l, e, here-here_again ws, read-here_again ws)

pub list_any-here : (p : WatchRead → Bool) (ws : List Held) → list_any (passes p) ws ≡ list_any p (here ws)
list_any-here p [] = refl
list_any-here p (w ∷ ws) =
    let later : list_any (passes p) ws ≡ list_any p (here ws) = list_any-here p ws in
    elim w.gone as (λ g. ((not g && p w.read) || list_any (passes p) ws)
    ≡ list_any p (map read_of (cond (not g) (w ∷ filter is_here ws) (filter is_here ws))))
    [ true ↦ later | false ↦ ap (λ b. p w.read || b) later ]
