-- The entries of directories, one by one.
use Rattle.std.proofs.Common.{◌≡◌, ℕ, zero, suc, ◌+◌, ◌-◌, ◌<◌, ◌≤◌, ◌^◌, List, [], ◌∷◌, ◌++◌, length, take, min, Some}
use Rattle.std.proofs.Common.{None, Bool, refl, sym, ap, ◌∙◌, arith}
use Rattle.std.specs.Prelude.{slice_get}
use Rattle.std.proofs.lemmas.List.{length-take}
use Rattle.std.proofs.lemmas.Option.{slice_get_past, slice_get-map}
use Rattle.acme_tree.specs.declared.node.Node.{Node}
use Rattle.acme_tree.specs.declared.node.Node.TheVariants.{Port}
use Rattle.acme_tree.specs.Trees.{ports_from, root_front}
use Rattle.core_fids.specs.Directories.{plumber_front}

-- ---- a front, and what follows it

in_front : (front rest : List Node) (k : ℕ) → k < length front → slice_get front k ≡ slice_get (front ++ rest) k
in_front [] rest k h = absurd (omega (arith, h))
in_front (n ∷ front) rest zero h = refl
in_front (n ∷ front) rest (suc k) h = in_front front rest k (omega (arith, h))

behind : (front rest : List Node) (k : ℕ) → length front ≤ k → slice_get rest
    (k - length front) ≡ slice_get (front ++ rest) k
behind [] rest k h = ap (slice_get rest) (omega arith)
behind (n ∷ front) rest zero h = absurd (omega (arith, h))
behind (n ∷ front) rest (suc k) h =
    let e : suc k - suc (length front) ≡ k - length front = omega arith in
    ap (slice_get rest) e ∙ behind front rest k (omega (arith, h))

pub root_fixed : (watched : Bool) (rest : List Node) (k fixed : ℕ) → fixed ≡ length (root_front watched) → k < fixed
    → slice_get (root_front watched) k ≡ slice_get (root_front watched ++ rest) k
root_fixed watched rest k fixed e h = in_front (root_front watched) rest k (omega (arith, e, h))

pub root_behind : (watched : Bool) (rest : List Node) (k fixed : ℕ) → fixed ≡ length (root_front watched) → fixed ≤ k
    → slice_get rest (k - fixed) ≡ slice_get (root_front watched ++ rest) k
root_behind watched rest k fixed e h =
    let same : k - fixed ≡ k - length (root_front watched) = omega (arith, e) in
    ap (slice_get rest) same ∙ behind (root_front watched) rest k (omega (arith, e, h))

pub plumber_fixed : (rest : List Node) (k : ℕ) → k < 2 → slice_get plumber_front k ≡ slice_get (plumber_front ++ rest) k
plumber_fixed rest k h = in_front plumber_front rest k (omega (arith, h))

pub plumber_behind : (rest : List Node) (k : ℕ) → 2 ≤ k → slice_get rest (k - 2) ≡ slice_get (plumber_front ++ rest) k
plumber_behind rest k h = behind plumber_front rest k (omega (arith, h))

-- ---- ports

port_from : (j i : ℕ) (names : List (List ℕ)) → i < length names → Some (Port (j + i)) ≡ slice_get (ports_from j names)
    i
port_from j i [] h = absurd (omega (arith, h))
port_from j zero (n ∷ names) h = ap (λ (k : ℕ). Some (Port k)) (omega arith)
port_from j (suc i) (n ∷ names) h =
    let e : j + suc i ≡ j + 1 + i = omega arith in
    ap (λ (k : ℕ). Some (Port k)) e ∙ port_from (j + 1) i names (omega (arith, h))

length-ports : (j : ℕ) (names : List (List ℕ)) → length (ports_from j names) ≡ length names
length-ports j [] = refl
length-ports j (n ∷ names) = omega (arith, length-ports (j + 1) names)

pub is_port : (names : List (List ℕ)) (k : ℕ) → k < min (length names) (2 ^ 32)
    → Some (Port k) ≡ slice_get (ports_from 0 (take (2 ^ 32) names)) k
is_port names k h =
    let e : k ≡ 0 + k = omega arith in
    ap (λ (i : ℕ). Some (Port i)) e ∙ port_from 0 k (take (2 ^ 32) names) (omega (arith, h, length-take (2 ^ 32) names))

pub no_port : (names : List (List ℕ)) (k : ℕ) → min (length names) (2 ^ 32) ≤ k
    → None ≡ slice_get (ports_from 0 (take (2 ^ 32) names)) k
no_port names k h =
    sym (slice_get_past (ports_from 0 (take (2 ^ 32) names)) k (omega (
      arith,
      h,
      length-take (2 ^ 32) names,
      length-ports 0 (take (2 ^ 32) names),
    )))

pub ruleset placed = (
  root_fixed,
  root_behind,
  plumber_fixed,
  plumber_behind,
  is_port,
  no_port,
  slice_get_past,
  slice_get-map,
)
