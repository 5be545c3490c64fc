-- Members of a list written one after the other.
use Rattle.std.proofs.Common.{◌≡◌, ℕ, ◌+◌, ◌<◌, ◌≤◌, List, [], ◌∷◌, ◌++◌, length, take, get_or, ap, ◌∙◌, append_assoc}
use Rattle.std.proofs.Common.{arith}
use Rattle.std.specs.List.{flat_map}
use Rattle.std.proofs.lemmas.List.Folds.{length-flat_map-take}
use Rattle.ninep_types.specs.Fields.{string}
use Rattle.std.proofs.lemmas.List.{append-nil, take_more}
use Rattle.std.proofs.lemmas.Grind.{flat_map-append}

-- one member more
pub flat_map-take_more : {A : Type 0} (spelled : A → List ℕ) (xs : List A) (i : ℕ) (x : A) → i < length xs
    → x ≡ get_or xs i x → flat_map spelled (take (i + 1) xs) ≡ flat_map spelled (take i xs) ++ spelled x
flat_map-take_more spelled xs i x lt e = rw (take_more xs i x lt, ← e, flat_map-append)
    (ap (λ (l : List ℕ). flat_map spelled (take i xs) ++ l) (append-nil (spelled x)))

pub ruleset lists = (flat_map-take_more, append_assoc)

-- a member and those before it are within the whole
pub string_within : (names : List (List ℕ)) (i : ℕ) (name : List ℕ) → i < length names → name ≡ get_or names i name
    → length (flat_map string (take i names)) + (2 + length name) ≤ length (flat_map string names)
string_within names i name lt e =
    let whole = length-flat_map-take string names i name lt in
    let here : length (string (get_or names i name)) ≡ 2 + length name = rw (← e) (omega arith) in
    omega (arith, whole, here)
