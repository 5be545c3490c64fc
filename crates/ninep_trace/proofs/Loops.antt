-- Reading the members of a list one after the other, as a loop does.
use Rattle.std.proofs.Common.{◌≡◌, ℕ, suc, ◌-◌, ◌+◌, ◌≤◌, ◌<◌, List, [], ◌∷◌, ◌++◌, Option, Some, None, refl, sym, ap}
use Rattle.std.proofs.Common.{◌∙◌, append_assoc, arith}
use Rattle.std.proofs.lemmas.List.{append-nil}
use Rattle.am_text.specs.Front.{after_front}
use Rattle.ninep_trace.specs.declared.unread.Unread.{Unread}
use Rattle.ninep_trace.specs.declared.unread.Unread.TheVariants as unread
use Rattle.ninep_trace.specs.Fields.{◌>>=◌, Fails, several_at}

-- what was read before, and what is still read
abbrev pub with_front : {A : Type 0} → List A → Option (List A × List ℕ) → Option (List A × List ℕ)
with_front front read = read >>= λ x. Some (front ++ x.0, x.1)

regroup : {A : Type 0} (front : List A) (n : A) (read : Option (List A × List ℕ))
    → with_front front (read >>= λ x. Some (n ∷ x.0, x.1)) ≡ with_front (front ++ n ∷ []) read
regroup {A} front n (Some x) = ap (λ (ns : List A). Some (ns, x.1)) (simp append_assoc)
regroup {A} front n None = refl

pub goes_on : {A : Type 0} (one_at : List ℕ → Option (A × List ℕ)) (front : List A) (count i : ℕ)
    (bytes behind : List ℕ) (n : A) (after : List ℕ) (total : Option (List A × List ℕ)) → i < count
    → after_front (32 ∷ []) bytes ≡ Some behind → one_at behind ≡ Some (n, after)
    → with_front front (several_at one_at (count - i) bytes) ≡ total → with_front (front ++ n ∷ [])
    (several_at one_at (count - (i + 1)) after) ≡ total
unfolding several_at
goes_on {A} one_at front count i bytes behind n after total lt b h so_far =
    let k : count - i ≡ suc (count - (i + 1)) = omega arith in
    let one : with_front front (several_at one_at (count - i) bytes) ≡ with_front (front ++ n ∷ [])
    (several_at one_at (count - (i + 1)) after) = rw (k, b, h)
    (regroup front n (several_at one_at (count - (i + 1)) after)) in
    sym one ∙ so_far

pub no_blank : {A : Type 0} (one_at : List ℕ → Option (A × List ℕ)) (e : Unread) (front : List A) (count i : ℕ)
    (bytes : List ℕ) (total : Option (List A × List ℕ)) → i < count → Fails e (after_front (32 ∷ []) bytes)
    → with_front front (several_at one_at (count - i) bytes) ≡ total → Fails e total
unfolding several_at
no_blank {A} one_at unread.NoMemory front count i bytes total lt h so_far = tt
no_blank {A} one_at unread.NotWords front count i bytes total lt h so_far =
    let k : count - i ≡ suc (count - (i + 1)) = omega arith in
    let one : with_front front (several_at one_at (count - i) bytes) ≡ None = rw (k, h) refl in
    sym so_far ∙ one

pub ends : {A : Type 0} (one_at : List ℕ → Option (A × List ℕ)) (e : Unread) (front : List A) (count i : ℕ)
    (bytes behind : List ℕ) (total : Option (List A × List ℕ)) → i < count → after_front (32 ∷ []) bytes ≡ Some behind
    → Fails e (one_at behind)
    → with_front front (several_at one_at (count - i) bytes) ≡ total → Fails e total
unfolding several_at
ends {A} one_at unread.NoMemory front count i bytes behind total lt b h so_far = tt
ends {A} one_at unread.NotWords front count i bytes behind total lt b h so_far =
    let k : count - i ≡ suc (count - (i + 1)) = omega arith in
    let one : with_front front (several_at one_at (count - i) bytes) ≡ None = rw (k, b, h) refl in
    sym so_far ∙ one

pub is_done : {A : Type 0} (one_at : List ℕ → Option (A × List ℕ)) (front : List A) (count i : ℕ) (bytes : List ℕ)
    (total : Option (List A × List ℕ)) → count ≤ i → with_front front (several_at one_at (count - i) bytes) ≡ total →
    total ≡ Some (front, bytes)
unfolding several_at
is_done {A} one_at front count i bytes total le so_far =
    let k : count - i ≡ 0 = omega arith in
    let one : with_front front (several_at one_at (count - i) bytes) ≡ Some (front, bytes) = rw k
    (ap (λ (ns : List A). Some (ns, bytes)) (append-nil front)) in
    sym so_far ∙ one
