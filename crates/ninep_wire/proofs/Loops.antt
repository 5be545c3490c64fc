-- Reading the members of a list one after the other, as a loop does.
use Rattle.std.proofs.Common.{◌≡◌, ℕ, suc, ◌-◌, ◌+◌, ◌≤◌, ◌<◌, List, [], ◌∷◌, ◌++◌, Result, Ok, Err, refl, sym, ap, ◌∙◌}
use Rattle.std.proofs.Common.{append_assoc, arith}
use Rattle.std.proofs.lemmas.List.{append-nil}
use Rattle.ninep_types.specs.declared.fault.WireFault.{WireFault}
use Rattle.ninep_types.specs.declared.fault.WireError.{WireError}
use Rattle.ninep_types.specs.declared.fault.WireError.TheVariants as errors
use Rattle.ninep_types.specs.Fields.{◌>>=◌, Fails, several_at}

-- what was read before, and what is still read
abbrev pub with_front : {A : Type 0} → List A → Result (List A × List ℕ) WireFault → Result (List A × List ℕ) WireFault
with_front front read = read >>= λ x. Ok (front ++ x.0, x.1)

regroup : {A : Type 0} (front : List A) (n : A) (read : Result (List A × List ℕ) WireFault)
    → with_front front (read >>= λ x. Ok (n ∷ x.0, x.1)) ≡ with_front (front ++ n ∷ []) read
regroup {A} front n (Ok x) = ap (λ (ns : List A). Ok (ns, x.1)) (simp append_assoc)
regroup {A} front n (Err f) = refl

pub goes_on : {A : Type 0} (one_at : List ℕ → Result (A × List ℕ) WireFault) (front : List A) (count i : ℕ)
    (bytes : List ℕ) (n : A) (after : List ℕ) (total : Result (List A × List ℕ) WireFault) → i < count
    → one_at bytes ≡ Ok (n, after)
    → with_front front (several_at one_at (count - i) bytes) ≡ total → with_front (front ++ n ∷ [])
    (several_at one_at (count - (i + 1)) after) ≡ total
unfolding several_at
goes_on {A} one_at front count i bytes n after total lt h so_far =
    let k : count - i ≡ suc (count - (i + 1)) = omega arith in
    let one : with_front front (several_at one_at (count - i) bytes) ≡ with_front (front ++ n ∷ [])
    (several_at one_at (count - (i + 1)) after) = rw (k, h) (regroup front n
    (several_at one_at (count - (i + 1)) after)) in
    sym one ∙ so_far

pub ends : {A : Type 0} (one_at : List ℕ → Result (A × List ℕ) WireFault) (e : WireError) (front : List A) (count i : ℕ)
    (bytes : List ℕ) (total : Result (List A × List ℕ) WireFault) → i < count → Fails e (one_at bytes)
    → with_front front (several_at one_at (count - i) bytes) ≡ total → Fails e total
unfolding several_at
ends {A} one_at errors.NoMemory front count i bytes total lt h so_far = tt
ends {A} one_at (errors.Fault f) front count i bytes total lt h so_far =
    let k : count - i ≡ suc (count - (i + 1)) = omega arith in
    let one : with_front front (several_at one_at (count - i) bytes) ≡ Err f = rw (k, h) refl in
    sym so_far ∙ one

pub is_done : {A : Type 0} (one_at : List ℕ → Result (A × List ℕ) WireFault) (front : List A) (count i : ℕ)
    (bytes : List ℕ) (total : Result (List A × List ℕ) WireFault) → count ≤ i
    → with_front front (several_at one_at (count - i) bytes) ≡ total → total ≡ Ok (front, bytes)
unfolding several_at
is_done {A} one_at front count i bytes total le so_far =
    let k : count - i ≡ 0 = omega arith in
    let one : with_front front (several_at one_at (count - i) bytes) ≡ Ok (front, bytes) = rw k
    (ap (λ (ns : List A). Ok (ns, bytes)) (append-nil front)) in
    sym so_far ∙ one
