-- How many runes have all their bytes in so many.
use Rattle.std.proofs.Common.{◌≡◌, ℕ, zero, suc, ◌+◌, ◌-◌, ◌<◌, ◌≤◌, Bool, true, false, cond, leb, List, [], ◌∷◌}
use Rattle.std.proofs.Common.{length, take, drop, get_or, refl, sym, ap, ◌∙◌, arith}
use Rattle.std.specs.Prelude.{slice_range}
use Rattle.std.proofs.lemmas.List.{length-append, drop_more}
use Rattle.std.proofs.lemmas.Bool.{le-leb, lt-leb, leb-true}
use Rattle.am_text.specs.Utf8.{rune_bytes, utf8}
use Rattle.core_addresses.specs.Data.{runes_within, whole_runes}

-- ---- one rune further

take_next : (n m c : ℕ) (xs : List ℕ) → n ≡ m + 1 → take n (c ∷ xs) ≡ c ∷ take m xs
take_next zero m c xs e = absurd (omega arith)
take_next (suc n) m c xs e = let f : n ≡ m = omega arith in rw f refl

range_head : (t : List ℕ) (at to : ℕ) → at < to → to ≤ length t → slice_range t at to ≡ get_or t at 0 ∷ slice_range t
    (at + 1) to
range_head t at to h b =
    ap (λ (l : List ℕ). take (to - at) l) (drop_more t at 0 (omega arith))
    ∙ take_next (to - at) (to - (at + 1)) (get_or t at 0) (drop (at + 1) t) (omega arith)

one_fits : (c room : ℕ) (xs : List ℕ) → length (rune_bytes c) ≤ room
    → runes_within room (c ∷ xs) ≡ runes_within (room - length (rune_bytes c)) xs + 1
unfolding runes_within
one_fits c room xs h = ap (λ (b : Bool). cond b (runes_within (room - length (rune_bytes c)) xs + 1) 0)
    (le-leb (length (rune_bytes c)) room h)

none_fits : (c room : ℕ) (xs : List ℕ) → room < length (rune_bytes c) → runes_within room (c ∷ xs) ≡ 0
unfolding runes_within
none_fits c room xs h = ap (λ (b : Bool). cond b (runes_within (room - length (rune_bytes c)) xs + 1) 0)
    (lt-leb (length (rune_bytes c)) room h)

pub next_fits : (t : List ℕ) (at to room width : ℕ) → at < to → to ≤ length t
    → width ≡ length (rune_bytes (get_or t at 0)) → width ≤ room
    → runes_within room (slice_range t at to) ≡ runes_within (room - width) (slice_range t (at + 1) to) + 1
next_fits t at to room width h b w r =
    let fits : length (rune_bytes (get_or t at 0)) ≤ room = omega arith in
    ap (runes_within room) (range_head t at to h b)
    ∙ one_fits (get_or t at 0) room (slice_range t (at + 1) to) fits
    ∙ ap (λ (n : ℕ). runes_within (room - n) (slice_range t (at + 1) to) + 1) (sym w)

pub next_is_left : (t : List ℕ) (at to room width : ℕ) → at < to → to ≤ length t
    → width ≡ length (rune_bytes (get_or t at 0)) → room < width
    → runes_within room (slice_range t at to) ≡ 0
next_is_left t at to room width h b w r =
    let long : room < length (rune_bytes (get_or t at 0)) = omega arith in
    ap (runes_within room) (range_head t at to h b) ∙ none_fits (get_or t at 0) room (slice_range t (at + 1) to) long

empty_range : (t : List ℕ) (at to : ℕ) → to ≤ at → slice_range t at to ≡ []
empty_range t at to h = let e : to - at ≡ 0 = omega arith in rw e refl

pub none_left : (t : List ℕ) (at to room : ℕ) → to ≤ at → runes_within room (slice_range t at to) ≡ 0
unfolding runes_within
none_left t at to room h = ap (runes_within room) (empty_range t at to h)

-- ---- the runes that fit

take_within : (n m : ℕ) (xs : List ℕ) → n ≤ m → take n (take m xs) ≡ take n xs
take_within zero m xs h = refl
take_within (suc n) zero xs h = absurd (omega arith)
take_within (suc n) (suc m) [] h = refl
take_within (suc n) (suc m) (x ∷ xs) h = ap (λ (l : List ℕ). x ∷ l) (take_within n m xs (omega arith))

-- the front of a range is the range up to its end
pub range_front : (t : List ℕ) (from to n : ℕ) → n ≤ to - from → slice_range t from (from + n) ≡ take n
    (slice_range t from to)
range_front t from to n h =
    let e : from + n - from ≡ n = omega arith in
    ap (λ (k : ℕ). take k (drop from t)) e ∙ sym (take_within n (to - from) (drop from t) h)

after_one : (c room : ℕ) (xs : List ℕ) (b : Bool) → leb (length (rune_bytes c)) room ≡ b
    → length (utf8 (take (runes_within (room - length (rune_bytes c)) xs) xs)) ≤ room - length (rune_bytes c)
    → length (utf8 (take (cond b (runes_within (room - length (rune_bytes c)) xs + 1) 0) (c ∷ xs))) ≤ room
after_one c room xs true e h =
    let fits = leb-true (length (rune_bytes c)) room e in
    let rest = runes_within (room - length (rune_bytes c)) xs in
    let same : length (utf8 (take (rest + 1) (c ∷ xs))) ≡ length (rune_bytes c) + length (utf8 (take rest xs)) =
    ap (λ (l : List ℕ). length (utf8 l)) (take_next (rest + 1) rest c xs refl)
    ∙ length-append (rune_bytes c) (utf8 (take rest xs)) in
    omega arith
after_one c room xs false e h = omega arith

pub whole_runes_fit : (room : ℕ) (xs : List ℕ) → length (whole_runes room xs) ≤ room
unfolding runes_within
whole_runes_fit room [] = omega arith
whole_runes_fit room (c ∷ xs) =
    after_one c room xs (leb (length (rune_bytes c)) room) refl (whole_runes_fit (room - length (rune_bytes c)) xs)

pub given_fits : (t : List ℕ) (from to room n : ℕ) (text given : List ℕ) → n ≡ runes_within room (slice_range t from to)
    → n ≤ to - from
    → text ≡ slice_range t from (from + n) → given ≡ utf8 text → length given ≤ room
given_fits t from to room n text given e h s g =
    let front : text ≡ take (runes_within room (slice_range t from to)) (slice_range t from to) =
    s ∙ range_front t from to n h ∙ ap (λ (k : ℕ). take k (slice_range t from to)) e in
    let same : length given ≡ length (whole_runes room (slice_range t from to)) = ap length g
    ∙ ap (λ (l : List ℕ). length (utf8 l)) front in
    omega (arith, whole_runes_fit room (slice_range t from to))

pub ruleset fitted = (next_fits, next_is_left, none_left)
