-- What a directory lists, entry by entry.
use Rattle.std.proofs.Common.{◌≡◌, ℕ, ◌+◌, ◌<◌, ◌≤◌, zero, suc, List, [], ◌∷◌, ◌++◌, length, take, get_or, refl, sym}
use Rattle.std.proofs.Common.{ap, ◌∙◌, append_assoc, arith, min, inl, inr}
use Rattle.std.specs.Prelude.{map}
use Rattle.std.proofs.lemmas.List.{take_more, take_all, map-append, append-nil}
use Rattle.std.proofs.lemmas.Bool.{cases_lt}
use Rattle.acme_tree.specs.declared.node.Node.{Node}
use Rattle.acme_tree.specs.declared.node.Node.TheVariants.{Window, Port}
use Rattle.acme_tree.specs.Trees.{ports_from}

-- one window more
pub windows_more : (windows : List ℕ) (i w : ℕ) → i < length windows → w ≡ get_or windows i w
    → map Window (take (i + 1) windows) ≡ map Window (take i windows) ++ Window w ∷ []
windows_more windows i w lt is = rw (take_more windows i w lt, ← is, map-append) refl

ports_after : (k i : ℕ) (names : List (List ℕ)) → i < length names
    → ports_from k (take (suc i) names) ≡ ports_from k (take i names) ++ Port (k + i) ∷ []
ports_after k i [] lt = absurd (omega arith)
ports_after k zero (name ∷ names) lt =
    let e : k + 0 ≡ k = omega arith in
    rw e refl
ports_after k (suc i) (name ∷ names) lt =
    let e : k + suc i ≡ k + 1 + i = omega arith in
    rw e (ap (λ (nodes : List Node). Port k ∷ nodes) (ports_after (k + 1) i names (omega arith)))

-- one port more
pub ports_more : (names : List (List ℕ)) (i : ℕ) → i < length names
    → ports_from 0 (take (i + 1) names) ≡ ports_from 0 (take i names) ++ Port i ∷ []
ports_more names i lt =
    let s : i + 1 ≡ suc i = omega arith in
    let e : 0 + i ≡ i = omega arith in
    rw s (ports_after 0 i names lt ∙ ap (λ (k : ℕ). ports_from 0 (take i names) ++ Port k ∷ []) e)

pub take_min : {A : Type 0} (xs : List A) (m n : ℕ) → m ≡ min (length xs) n → take m xs ≡ take n xs
take_min xs m n e =
    elim (cases_lt n (length xs)) [
      | inl lt ↦ let same : m ≡ n = omega arith in ap (λ (k : ℕ). take k xs) same
      | inr le ↦ let same : m ≡ length xs = omega arith in take_all m xs (omega arith) ∙ sym (take_all n xs le)
    ]

pub ruleset steps = (windows_more, ports_more, append_assoc, append-nil)
