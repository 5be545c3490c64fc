-- A list at one place, and what is kept there.
use Rattle.std.proofs.Common.{◌≡◌, ℕ, zero, suc, ◌+◌, ◌-◌, ◌<◌, ◌≤◌, List, [], ◌∷◌, ◌++◌, length, map, take, drop}
use Rattle.std.proofs.Common.{get_or, refl, sym, ap, subst, ◌∙◌, take-take, take-append-drop, drop-drop, arith}
use Rattle.std.specs.Prelude.{slice_set, replicate}
use Rattle.std.proofs.lemmas.List.{map-set, map-append, length-append, length-map, length-set, take-set-le, drop-set-lt}
use Rattle.std.proofs.lemmas.List.{replicate-append-replicate}
use Rattle.std.proofs.Math.Seq.{map-set_same}
use Rattle.am_text.specs.Twice.{Twice, both}
use Rattle.am_text.specs.declared.range.Range.{Range}
use Rattle.core_outputs.specs.Unsent.{Unsent, unsent_at, with_reply, nothing_unsent, present_of, kept_of, with_present}
use Rattle.core_outputs.specs.Unsent.{with_kept, AreAlike, IsTouched}

-- past the end nothing is set
module _ {X : Type 0} where
  past_end : (xs : List X) (k : ℕ) (x : X) → length xs ≤ k → xs ≡ slice_set xs k x
  past_end [] k x h = refl
  past_end (y ∷ ys) zero x h = absurd (omega arith)
  past_end (y ∷ ys) (suc k) x h = ap (λ (l : List X). y ∷ l) (past_end ys k x (omega arith))

-- ---- the touched ones

map_take : {X Y : Type 0} (f : X → Y) (n : ℕ) (xs : List X) → map f (take n xs) ≡ take n (map f xs)
map_take f zero [] = refl
map_take f zero (x ∷ xs) = refl
map_take f (suc n) [] = refl
map_take f (suc n) (x ∷ xs) = ap (λ (l : List _). f x ∷ l) (map_take f n xs)

map_drop : {X Y : Type 0} (f : X → Y) (n : ℕ) (xs : List X) → map f (drop n xs) ≡ drop n (map f xs)
map_drop f zero [] = refl
map_drop f zero (x ∷ xs) = refl
map_drop f (suc n) [] = refl
map_drop f (suc n) (x ∷ xs) = map_drop f n xs

alike_take : (us : List (Twice Unsent)) (n : ℕ) → AreAlike us → AreAlike (take n us)
alike_take us n h = map_take present_of n us ∙ ap (λ (l : List Unsent). take n l) h ∙ sym (map_take kept_of n us)

alike_drop : (us : List (Twice Unsent)) (n : ℕ) → AreAlike us → AreAlike (drop n us)
alike_drop us n h = map_drop present_of n us ∙ ap (λ (l : List Unsent). drop n l) h ∙ sym (map_drop kept_of n us)

alike_joined : (us vs : List (Twice Unsent)) → AreAlike us → AreAlike vs → AreAlike (us ++ vs)
alike_joined us vs h k = map-append present_of us vs ∙ ap (λ (l : List Unsent). l ++ map present_of vs) h
    ∙ ap (λ (l : List Unsent). map kept_of us ++ l) k ∙ sym (map-append kept_of us vs)

-- where all are alike none is touched
pub touched_nowhere : (q : Range) (us : List (Twice Unsent)) → q.q1 ≡ 0 → AreAlike us → IsTouched q us
touched_nowhere q us none alike = record {
  within = omega (arith, none);
  before = alike_take us q.q0 alike;
  behind =
      alike_drop us q.q1 alike;
}

-- where the range is empty all are alike
pub alike_all : (q : Range) (us : List (Twice Unsent)) → IsTouched q us → q.q1 ≤ q.q0 → AreAlike us
alike_all q us h le =
    let k : q.q1 + (q.q0 - q.q1) ≡ q.q0 = omega (arith, le) in
    let rest : AreAlike (drop q.q0 us) = subst (λ (l : List (Twice Unsent)). AreAlike l)
    (drop-drop (q.q0 - q.q1) q.q1 us ∙ ap (λ (n : ℕ). drop n us) k)
    (alike_drop (drop q.q1 us) (q.q0 - q.q1) h.behind) in
    subst (λ (l : List (Twice Unsent)). AreAlike l) (take-append-drop q.q0 us)
    (alike_joined (take q.q0 us) (drop q.q0 us) h.before rest)

-- one is touched
pub touched_wider : (q r : Range) (us : List (Twice Unsent)) (k : ℕ) (u : Twice Unsent) → r.q0 ≤ q.q0 → r.q0 ≤ k
    → q.q1 ≤ r.q1 → k < r.q1 → r.q1 ≤ length us → IsTouched q us → IsTouched r (slice_set us k u)
touched_wider q r us k u a b c d within h =
    let n : q.q1 + (r.q1 - q.q1) ≡ r.q1 = omega (arith, c) in
    record {
      within = omega (arith, within, length-set us k u);
      before = subst (λ (l : List (Twice Unsent)). AreAlike l) (take-take r.q0 q.q0 us a
          ∙ sym (take-set-le r.q0 us k u b)) (alike_take (take q.q0 us) r.q0 h.before);
      behind = subst (λ (l : List (Twice Unsent)). AreAlike l) (drop-drop (r.q1 - q.q1) q.q1 us
          ∙ ap (λ (i : ℕ). drop i us) n ∙ sym (drop-set-lt r.q1 us k u d))
          (alike_drop (drop q.q1 us) (r.q1 - q.q1) h.behind);
    }

-- ---- unsent replies, in two states

-- those of one connection more, which has none
pub more_unsent : (us : List (Twice Unsent)) (u : Twice Unsent) → us ≡ replicate (length us) (both nothing_unsent)
    → u ≡ both nothing_unsent
    → us ++ u ∷ [] ≡ replicate (length (us ++ u ∷ [])) (both nothing_unsent)
more_unsent us u e h =
    let n : length (us ++ u ∷ []) ≡ length us + 1 = length-append us (u ∷ []) in
    ap (λ (x : List (Twice Unsent)). x ++ u ∷ []) e ∙ ap (λ (y : Twice Unsent). replicate (length us)
    (both nothing_unsent) ++ y ∷ []) h
    ∙ replicate-append-replicate (length us) 1 (both nothing_unsent)
    ∙ ap (λ (x : ℕ). replicate x (both nothing_unsent)) (sym n)

present_none : (n : ℕ) → map present_of (replicate n (both nothing_unsent)) ≡ replicate n nothing_unsent
present_none zero = refl
present_none (suc n) = ap (λ (l : List Unsent). nothing_unsent ∷ l) (present_none n)

kept_none : (n : ℕ) → map kept_of (replicate n (both nothing_unsent)) ≡ replicate n nothing_unsent
kept_none zero = refl
kept_none (suc n) = ap (λ (l : List Unsent). nothing_unsent ∷ l) (kept_none n)

-- 64 connections without a reply
pub none_unsent : (us : List (Twice Unsent)) → us ≡ replicate 64 (both nothing_unsent)
    → ◌≡◌ {A = Twice (List Unsent)} (record { present = map present_of us; kept = map kept_of us })
    (both (replicate 64 nothing_unsent))
none_unsent us e = rw (e, present_none 64, kept_none 64) refl

present-present : (us : List (Twice Unsent)) → map present_of (map with_present us) ≡ map present_of us
present-present [] = refl
present-present (u ∷ us) = ap (λ (l : List Unsent). u.present ∷ l) (present-present us)

kept-present : (us : List (Twice Unsent)) → map kept_of (map with_present us) ≡ map present_of us
kept-present [] = refl
kept-present (u ∷ us) = ap (λ (l : List Unsent). u.present ∷ l) (kept-present us)

present-kept : (us : List (Twice Unsent)) → map present_of (map with_kept us) ≡ map kept_of us
present-kept [] = refl
present-kept (u ∷ us) = ap (λ (l : List Unsent). u.kept ∷ l) (present-kept us)

kept-kept : (us : List (Twice Unsent)) → map kept_of (map with_kept us) ≡ map kept_of us
kept-kept [] = refl
kept-kept (u ∷ us) = ap (λ (l : List Unsent). u.kept ∷ l) (kept-kept us)

-- the touched part of them
module _ (us : List (Twice Unsent)) (q : Range) (h : IsTouched q us) (order : q.q0 ≤ q.q1) where
  abbrev front : List (Twice Unsent)
  front = take q.q0 us

  abbrev part : List (Twice Unsent)
  part = take (q.q1 - q.q0) (drop q.q0 us)

  abbrev behind : List (Twice Unsent)
  behind = drop (q.q1 - q.q0) (drop q.q0 us)

  behind_alike : AreAlike behind
  behind_alike = let k : q.q0 + (q.q1 - q.q0) ≡ q.q1 = omega (arith, order) in
      subst (λ (l : List (Twice Unsent)). AreAlike l) (sym (drop-drop (q.q1 - q.q0) q.q0 us
      ∙ ap (λ (n : ℕ). drop n us) k)) h.behind

  whole : front ++ (part ++ behind) ≡ us
  whole = ap (λ (l : List (Twice Unsent)). front ++ l) (take-append-drop (q.q1 - q.q0) (drop q.q0 us))
      ∙ take-append-drop q.q0 us

  three : {Y : Type 0} (f : Twice Unsent → Y) (xs : List (Twice Unsent)) → map f (front ++ (xs ++ behind)) ≡ map f front
      ++ (map f xs ++ map f behind)
  three f xs = map-append f front (xs ++ behind) ∙ ap (λ (l : List _). map f front ++ l) (map-append f xs behind)

  pub part_kept_present : map present_of (front ++ (map with_present part ++ behind)) ≡ map present_of us
  part_kept_present = three present_of (map with_present part) ∙ ap (λ (l : List Unsent). map present_of front
      ++ (l ++ map present_of behind)) (present-present part) ∙ sym (three present_of part) ∙ ap (map present_of) whole

  pub part_kept_kept : map kept_of (front ++ (map with_present part ++ behind)) ≡ map present_of us
  part_kept_kept = three kept_of (map with_present part) ∙ ap (λ (l : List Unsent). map kept_of front
      ++ (l ++ map kept_of behind)) (kept-present part)
      ∙ ap (λ (l : List Unsent). l ++ (map present_of part ++ map kept_of behind)) (sym h.before)
      ∙ ap (λ (l : List Unsent). map present_of front ++ (map present_of part ++ l)) (sym behind_alike)
      ∙ sym (three present_of part) ∙ ap (map present_of) whole

  pub part_back_present : map present_of (front ++ (map with_kept part ++ behind)) ≡ map kept_of us
  part_back_present = three present_of (map with_kept part) ∙ ap (λ (l : List Unsent). map present_of front
      ++ (l ++ map present_of behind)) (present-kept part)
      ∙ ap (λ (l : List Unsent). l ++ (map kept_of part ++ map present_of behind)) h.before
      ∙ ap (λ (l : List Unsent). map kept_of front ++ (map kept_of part ++ l)) behind_alike
      ∙ sym (three kept_of part) ∙ ap (map kept_of) whole

  pub part_back_kept : map kept_of (front ++ (map with_kept part ++ behind)) ≡ map kept_of us
  part_back_kept = three kept_of (map with_kept part) ∙ ap (λ (l : List Unsent). map kept_of front
      ++ (l ++ map kept_of behind)) (kept-kept part) ∙ sym (three kept_of part) ∙ ap (map kept_of) whole

-- what the touched part is made shows in all
pub keep_part : (us xs : List (Twice Unsent)) (q : Range) → IsTouched q us → q.q0 < q.q1
    → xs ≡ map with_present (take (q.q1 - q.q0) (drop q.q0 us))
    → map present_of (take q.q0 us ++ (xs ++ drop (q.q1 - q.q0) (drop q.q0 us))) ≡ map present_of us
keep_part us xs q h lt e = ap (λ (l : List (Twice Unsent)). map present_of
    (take q.q0 us ++ (l ++ drop (q.q1 - q.q0) (drop q.q0 us)))) e ∙ part_kept_present us q h (omega (arith, lt))

pub keep_part_kept : (us xs : List (Twice Unsent)) (q : Range) → IsTouched q us → q.q0 < q.q1
    → xs ≡ map with_present (take (q.q1 - q.q0) (drop q.q0 us))
    → map kept_of (take q.q0 us ++ (xs ++ drop (q.q1 - q.q0) (drop q.q0 us))) ≡ map present_of us
keep_part_kept us xs q h lt e = ap (λ (l : List (Twice Unsent)). map kept_of
    (take q.q0 us ++ (l ++ drop (q.q1 - q.q0) (drop q.q0 us)))) e ∙ part_kept_kept us q h (omega (arith, lt))

pub back_part : (us xs : List (Twice Unsent)) (q : Range) → IsTouched q us → q.q0 < q.q1
    → xs ≡ map with_kept (take (q.q1 - q.q0) (drop q.q0 us))
    → map present_of (take q.q0 us ++ (xs ++ drop (q.q1 - q.q0) (drop q.q0 us))) ≡ map kept_of us
back_part us xs q h lt e = ap (λ (l : List (Twice Unsent)). map present_of
    (take q.q0 us ++ (l ++ drop (q.q1 - q.q0) (drop q.q0 us)))) e ∙ part_back_present us q h (omega (arith, lt))

pub back_part_kept : (us xs : List (Twice Unsent)) (q : Range) → IsTouched q us → q.q0 < q.q1
    → xs ≡ map with_kept (take (q.q1 - q.q0) (drop q.q0 us))
    → map kept_of (take q.q0 us ++ (xs ++ drop (q.q1 - q.q0) (drop q.q0 us))) ≡ map kept_of us
back_part_kept us xs q h lt e = ap (λ (l : List (Twice Unsent)). map kept_of
    (take q.q0 us ++ (l ++ drop (q.q1 - q.q0) (drop q.q0 us)))) e ∙ part_back_kept us q h (omega (arith, lt))

pub none_touched_kept : (us : List (Twice Unsent)) (q : Range) → IsTouched q us → q.q1 ≤ q.q0
    → map kept_of us ≡ map present_of us
none_touched_kept us q h none = sym (alike_all q us h none)

pub none_touched : (us : List (Twice Unsent)) (q : Range) → IsTouched q us → q.q1 ≤ q.q0
    → map present_of us ≡ map kept_of us
none_touched us q h none = alike_all q us h none

pub none_alike : (us : List (Twice Unsent)) → us ≡ replicate 64 (both nothing_unsent) → AreAlike us
none_alike us e = rw (e, present_none 64, kept_none 64) refl

-- emptied at one place, all are alike
pub emptied_alike : (us vs : List (Twice Unsent)) (k : ℕ) → AreAlike us → vs ≡ slice_set us k (both nothing_unsent)
    → AreAlike vs
emptied_alike us vs k alike e =
    ap (map present_of) e ∙ map-set present_of us k (both nothing_unsent)
    ∙ ap (λ (l : List Unsent). slice_set l k nothing_unsent) alike
    ∙ sym (map-set kept_of us k (both nothing_unsent)) ∙ sym (ap (map kept_of) e)

pub ruleset touching = (touched_nowhere, none_alike)

-- all as they are now, and all as they were kept
pub now_kept : (us vs : List (Twice Unsent)) → map present_of vs ≡ map present_of us
    → map kept_of vs ≡ map present_of us
    → ◌≡◌ {A = Twice (List Unsent)} (record { present = map present_of vs; kept = map kept_of vs })
    (both (map present_of us))
now_kept us vs p k = rw (p, k) refl

pub now_back : (us vs : List (Twice Unsent)) → map present_of vs ≡ map kept_of us → map kept_of vs ≡ map kept_of us
    → ◌≡◌ {A = Twice (List Unsent)} (record { present = map present_of vs; kept = map kept_of vs })
    (both (map kept_of us))
now_back us vs p k = rw (p, k) refl

-- what stands at one place
pub present_at : (us : List (Twice Unsent)) (k : ℕ) (d : Twice Unsent) → k < length us
    → (get_or us k d).present ≡ unsent_at (map present_of us) k
present_at [] k d h = absurd (omega arith)
present_at (u ∷ us) zero d h = refl
present_at (u ∷ us) (suc k) d h = present_at us k d (omega arith)

pub kept_at : (us : List (Twice Unsent)) (k : ℕ) (d : Twice Unsent) → k < length us
    → (get_or us k d).kept ≡ unsent_at (map kept_of us) k
kept_at [] k d h = absurd (omega arith)
kept_at (u ∷ us) zero d h = refl
kept_at (u ∷ us) (suc k) d h = kept_at us k d (omega arith)

nothing_past : (us : List Unsent) (k : ℕ) → length us ≤ k → unsent_at us k ≡ nothing_unsent
nothing_past [] k h = refl
nothing_past (u ∷ us) zero h = absurd (omega arith)
nothing_past (u ∷ us) (suc k) h = nothing_past us k (omega arith)

pub kept_past : (us : List (Twice Unsent)) (k : ℕ) → length us ≤ k → unsent_at (map kept_of us) k ≡ nothing_unsent
kept_past us k h = nothing_past (map kept_of us) k (omega (arith, length-map us kept_of))

-- a reply more at one place
pub put_there : (us : List (Twice Unsent)) (k : ℕ) (u d : Twice Unsent) (reply : List ℕ) → k < length us
    → u.present ≡ with_reply (get_or us k d).present reply
    → map present_of (slice_set us k u) ≡ slice_set (map present_of us) k
    (with_reply (unsent_at (map present_of us) k) reply)
put_there us k u d reply h e =
    map-set present_of us k u ∙ ap (λ (y : Unsent). slice_set (map present_of us) k y)
    (e ∙ ap (λ (y : Unsent). with_reply y reply) (present_at us k d h))

pub put_nowhere : (us : List (Twice Unsent)) (k : ℕ) (x : Unsent) → length us ≤ k
    → map present_of us ≡ slice_set (map present_of us) k x
put_nowhere us k x h = past_end (map present_of us) k x (omega (arith, length-map us present_of))

pub kept_there : (us : List (Twice Unsent)) (k : ℕ) (u d : Twice Unsent) → u.kept ≡ (get_or us k d).kept
    → map kept_of (slice_set us k u) ≡ map kept_of us
kept_there us k u d e = map-set_same kept_of us k u d e

pub ruleset putting = (put_there, put_nowhere, kept_there)

-- no replies at one place
pub empty_past : (us : List (Twice Unsent)) (k : ℕ) (x : Twice Unsent) → length us ≤ k → us ≡ slice_set us k x
empty_past us k x h = past_end us k x h

pub emptied : (us vs : List (Twice Unsent)) (k : ℕ) → map present_of us ≡ map kept_of us
    → vs ≡ slice_set us k (both nothing_unsent)
    → ◌≡◌ {A = Twice (List Unsent)} (record { present = map present_of vs; kept = map kept_of vs })
    (both (slice_set (map present_of us) k nothing_unsent))
emptied us vs k steady e =
    rw (e, map-set present_of us k (both nothing_unsent), map-set kept_of us k (both nothing_unsent), sym steady) refl

pub ruleset unsent_places = (present_at, kept_at, kept_past, empty_past)
