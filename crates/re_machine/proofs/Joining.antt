-- The rows of a set's members, joined one after another.
use Rattle.std.proofs.Common.{◌≡◌, ℕ, ◌<◌, ◌≤◌, ◌⊎◌, List, [], ◌∷◌, length, map, refl, sym, ap, subst, ◌∙◌, inl, inr}
use Rattle.std.proofs.Common.{arith}
use Rattle.std.specs.Prelude.{IsTrue, bit_or, slice_index}
use Rattle.std.specs.Int.Bits.{or_zero_r}
use Rattle.std.proofs.Math.ListN.{get_or-eq_default}
use Rattle.std.specs.Int.{bit_at}
use Rattle.std.proofs.lemmas.Bool.{cases_eq}
use Rattle.std.proofs.lemmas.Nat.Bits.{same_from_bits, bit_at-lt}
use Rattle.re_sets.specs.Words.{on}
use Rattle.re_sets.specs.Tables.{join_rows}
use Rattle.re_sets.proofs.Wording.{on_is, on_or_left, on_or_right, on_or_cases, on_zero}
use Rattle.re_sets.proofs.Telling.{join_to, join_from}
use Rattle.re_machine.specs.Sets.{IsWithout}

-- two sets with the same letters
pub same_set : (a b : ℕ) → ((n : ℕ) → IsTrue (on a n) → IsTrue (on b n)) → ((n : ℕ) → IsTrue (on b n) → IsTrue (on a n))
    → a ≡ b
same_set a b f g = same_from_bits a b (λ n. elim (cases_eq (bit_at a n) 1) [
  | inl e ↦ omega (arith, e, (on_is b n).0 (f n ((on_is a n).1 e)))
  | inr o ↦ elim (cases_eq (bit_at b n) 1) [
    | inl e ↦ absurd (o ((on_is a n).0 (g n ((on_is b n).1 e))))
    | inr u ↦ omega (arith, o, u, bit_at-lt a n, bit_at-lt b n)
  ]
])

-- what is joined of a set of which these members are left
pub record IsJoining (row : ℕ → ℕ) (size set left all : ℕ) : Type 0 where
  pub inside : (m : ℕ) → IsTrue (on left m) → IsTrue (on set m)
  pub from : (n : ℕ) → IsTrue (on all n) → (m : ℕ) × (m < size) × IsTrue (on set m) × IsTrue (on (row m) n)
  pub to : (m : ℕ) → IsTrue (on set m) → IsTrue (on left m) ⊎ ((n : ℕ) → IsTrue (on (row m) n) → IsTrue (on all n))

pub joining_begun : (row : ℕ → ℕ) (size set all : ℕ) → all ≡ 0 → IsJoining row size set set all
joining_begun row size set all z = record {
  inside = λ m h. h;
  from = λ n h. absurd (on_zero n (subst (λ (a : ℕ). IsTrue (on a n)) z h));
  to = λ m h. inl h;
}

pub joining_more : (row : ℕ → ℕ) (size set left all n left' all' : ℕ) → IsJoining row size set left all → n < size
    → IsTrue (on left n) → IsWithout left n left' → all' ≡ bit_or all (row n) → IsJoining row size set left' all'
joining_more row size set left all n left' all' j l h w e =
    let here : (m : ℕ) → IsTrue (on (bit_or all (row n)) m) → IsTrue (on all' m) =
    λ m x. subst (λ (a : ℕ). IsTrue (on a m)) (sym e) x in
    record {
      inside = λ m x. j.inside m ((w.others m).0 x).0;
      from = λ m x. elim (on_or_cases all (row n) m (subst (λ (a : ℕ). IsTrue (on a m)) e x)) [
        | inl y ↦ j.from m y
        | inr y ↦ (n, l, j.inside n h, y)
      ];
      to = λ m x. elim (j.to m x) [
        | inl y ↦ elim (cases_eq m n) [
          | inl s ↦ inr (λ k z. here k (on_or_right all (row n) k (subst (λ (a : ℕ). IsTrue (on (row a) k)) s z)))
          | inr o ↦ inl ((w.others m).1 (y, o))
        ]
        | inr f ↦ inr (λ k z. here k (on_or_left all (row n) k (f k z)))
      ];
    }

pub joining_done : (row : ℕ → ℕ) (size set left all : ℕ) → IsJoining row size set left all
    → left ≡ 0 → all ≡ join_rows row set size
joining_done row size set left all j z = same_set all (join_rows row set size)
    (λ n h. let p = j.from n h in join_to row set size p.0 n p.1 p.2 p.3)
    (λ n h.
    let p = join_from row set size n h in
    elim (j.to p.0 p.2) [
      | inl x ↦ absurd (on_zero p.0 (subst (λ (a : ℕ). IsTrue (on a p.0)) z x))
      | inr f ↦ f n p.3
    ])

pub len : {X Y : Type 0} (f : X → Y) (xs : List X) → length (map f xs) ≡ length xs
len f [] = refl
len f (x ∷ xs) = let e = len f xs in omega (arith, e)

-- a row that isn't there
pub or_beyond : {S : Type 0} (bits : S → ℕ) (x : ℕ) (xs : List S) (n : ℕ) → length xs ≤ n
    → x ≡ bit_or x (slice_index (map bits xs) n)
or_beyond bits x xs n l =
    let e : slice_index (map bits xs) n ≡ 0 = get_or-eq_default (map bits xs) 0 (omega (arith, l, len bits xs)) in
    sym (ap (λ (z : ℕ). bit_or x z) e ∙ or_zero_r x)
