-- Slices of a text.
use Rattle.std.proofs.Common.{◌≡◌, ℕ, ◌+◌, ◌-◌, ◌<◌, ◌≤◌, List, [], ◌∷◌, ◌++◌, length, get_or, take, drop, sym, ap, ◌∙◌}
use Rattle.std.proofs.Common.{arith, min, max, append_assoc}
use Rattle.std.specs.Prelude.{slice_range}
use Rattle.std.proofs.lemmas.List.{append-nil, take_all, take_more, take_min, length-drop, get_or-drop}
use Rattle.std.proofs.lemmas.List.Sums.{count_by_more_no, count_by_more_yes}

pub slice_none : (t : List ℕ) (a : ℕ) → [] ≡ slice_range t a a
slice_none t a = let e : a - a ≡ 0 = omega arith in sym (ap (λ n. take n (drop a t)) e)

pub slice_more : (t : List ℕ) (a b : ℕ) → a ≤ b → b < length t → slice_range t a (b + 1) ≡ slice_range t a b
    ++ get_or t b 0 ∷ []
slice_more t a b o l =
    let e : b + 1 - a ≡ b - a + 1 = omega arith in
    let n : a + (b - a) ≡ b = omega arith in
    let w : b - a < length (drop a t) = omega (arith, length-drop {A = ℕ}) in
    ap (λ k. take k (drop a t)) e ∙ (take_more (drop a t) (b - a) 0 w
    ∙ ap (λ (x : ℕ). take (b - a) (drop a t) ++ x ∷ []) (get_or-drop a t (b - a) 0 ∙ ap (λ k. get_or t k 0) n))

pub slice_short : (t : List ℕ) (a b end at : ℕ) → end ≡ min b (length t) → end ≤ at → a ≤ at → at ≤ max a end
    → slice_range t a at ≡ slice_range t a b
slice_short t a b end at e o l h =
    let d : length (drop a t) ≡ length t - a = length-drop a t in
    let same : min (at - a) (length (drop a t)) ≡ min (b - a) (length (drop a t)) = omega arith in
    sym (take_min (at - a) (drop a t)) ∙ (ap (λ k. take k (drop a t)) same ∙ take_min (b - a) (drop a t))

pub ruleset slicing = (slice_none, slice_more, slice_short)

pub ruleset counting = (count_by_more_no, count_by_more_yes)

pub ruleset putting = (append_assoc, append-nil, take_more, take_all)
