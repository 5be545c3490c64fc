-- The tables of a tree from those of its parts.
use Rattle.std.proofs.Common.{◌≡◌, ℕ, ◌+◌, ◌^◌, ◌<◌, ◌⊎◌, ◌==◌, ◌&&◌, ◌||◌, Bool, true, false, List, refl, sym, subst}
use Rattle.std.proofs.Common.{inl, inr, arith}
use Rattle.std.specs.Prelude.{IsTrue, ◌↔◌, bit_or, slice_index, if◌then◌else◌}
use Rattle.std.proofs.lemmas.Bool.{cases_eq}
use Rattle.std.proofs.lemmas.Bool.Decides.{nat_tests}
use Rattle.std.proofs.lemmas.Nat.Bits.{bit_at-pow_same, bit_at-pow_other}
use Rattle.re_syntax.specs.Tree.{Tree, Letter, AnyLetter, OneOf, LineStart, LineEnd, Then, Either, Many, Several, Maybe}
use Rattle.re_syntax.specs.Tree.{Group}
use Rattle.re_spans.specs.declared.leaf.Here.{Here}
use Rattle.re_sets.specs.Spots.{first, last}
use Rattle.re_sets.specs.Numbers.{letters, bits}
use Rattle.re_sets.specs.Words.{on, IsSet}
use Rattle.re_sets.proofs.Going.{both, and_true}
use Rattle.re_sets.proofs.Numbering.{bits_in}
use Rattle.re_sets.proofs.Wording.{on_is, on_zero}
use Rattle.re_sets.proofs.Filling.{then_rows, either_rows, again_rows, then_first, then_last, either_word}
use Rattle.re_machine.specs.Sets.{AreAdded}
use Rattle.re_machine.specs.Filling.{IsPart, AreFilled, IsLeaf}

-- the set of one number
pub on_pow : (k n : ℕ) → IsTrue (on (2 ^ k) n) ↔ IsTrue (n == k)
on_pow k n = (
  λ h. elim (cases_eq n k) [
    | inl e ↦ grind (arith, nat_tests, e)
    | inr o ↦ absurd (omega (arith, (on_is (2 ^ k) n).0 h, bit_at-pow_other k n o))
  ],
  λ h.
      let e : n ≡ k = grind (arith, nat_tests, h) in
      subst (λ (z : ℕ). IsTrue (on (2 ^ k) z)) (sym e) ((on_is (2 ^ k) k).1 (bit_at-pow_same k)),
)

one_word : (k n word : ℕ) → word ≡ 2 ^ k → IsTrue (on word n) ↔ IsTrue ((n == k) && true)
one_word k n word e = (
  λ h. and_true (n == k) true ((on_pow k n).0 (subst (λ (w : ℕ). IsTrue (on w n)) e h)) refl,
  λ h. subst (λ (w : ℕ). IsTrue (on w n)) (sym e) ((on_pow k n).1 (both (n == k) true h).0),
)

no_word : (n word : ℕ) → word ≡ 0 → IsTrue (on word n) ↔ IsTrue false
no_word n word e = (λ h. absurd (on_zero n (subst (λ (w : ℕ). IsTrue (on w n)) e h)), λ h. absurd (cc h))

pub leaf_part : (r : Tree) (base : ℕ) (x : Here) (n : Bool) (f l : ℕ) → IsLeaf r → n ≡ false → f ≡ 2 ^ base
    → l ≡ 2 ^ base → IsPart r base x n f l
leaf_part (Letter c) base x n f l is e u v = record {
  null_is = e;
  first_is = λ m. one_word base m f u;
  last_is =
      λ m. one_word base m l v;
}
leaf_part AnyLetter base x n f l is e u v = record {
  null_is = e;
  first_is = λ m. one_word base m f u;
  last_is =
      λ m. one_word base m l v;
}
leaf_part (OneOf negated spans) base x n f l is e u v = record {
  null_is = e;
  first_is = λ m. one_word base m f u;
  last_is = λ m. one_word base m l v;
}
leaf_part LineStart base x n f l is e u v = absurd is
leaf_part LineEnd base x n f l is e u v = absurd is
leaf_part (Then a b) base x n f l is e u v = absurd is
leaf_part (Either a b) base x n f l is e u v = absurd is
leaf_part (Many a) base x n f l is e u v = absurd is
leaf_part (Several a) base x n f l is e u v = absurd is
leaf_part (Maybe a) base x n f l is e u v = absurd is
leaf_part (Group k a) base x n f l is e u v = absurd is

none_follow : (m base n : ℕ) → IsTrue ((m == base) && ((n == base) && false)) → ⊥
none_follow m base n y = cc ((both (n == base) false (both (m == base) ((n == base) && false) y).1).1)

same_rows : (old : List ℕ) (m n : ℕ) (b : Bool) → (IsTrue b → ⊥) → IsTrue (on (slice_index old m) n) ↔
    (IsTrue (on (slice_index old m) n) ⊎ IsTrue b)
same_rows old m n b f = (λ h. inl h, λ h. elim h [ inl y ↦ y | inr y ↦ absurd (f y) ])

pub leaf_rows : (r : Tree) (base : ℕ) (x : Here) (old : List ℕ) → IsLeaf r → AreFilled r base x old old
leaf_rows (Letter c) base x old is m n = same_rows old m n ((m == base) && ((n == base) && false))
    (none_follow m base n)
leaf_rows AnyLetter base x old is m n = same_rows old m n ((m == base) && ((n == base) && false)) (none_follow m base n)
leaf_rows (OneOf negated spans) base x old is m n = same_rows old m n ((m == base) && ((n == base) && false))
    (none_follow m base n)
leaf_rows LineStart base x old is m n = absurd is
leaf_rows LineEnd base x old is m n = absurd is
leaf_rows (Then a b) base x old is m n = absurd is
leaf_rows (Either a b) base x old is m n = absurd is
leaf_rows (Many a) base x old is m n = absurd is
leaf_rows (Several a) base x old is m n = absurd is
leaf_rows (Maybe a) base x old is m n = absurd is
leaf_rows (Group k a) base x old is m n = absurd is

pub start_part : (base : ℕ) (x : Here) (n : Bool) (f l : ℕ) → n ≡ x.starts → f ≡ 0 → l ≡ 0 → IsPart LineStart base x n f
    l
start_part base x n f l e u v = record { null_is = e; first_is = λ m. no_word m f u; last_is = λ m. no_word m l v }

pub end_part : (base : ℕ) (x : Here) (n : Bool) (f l : ℕ) → n ≡ x.ends → f ≡ 0 → l ≡ 0 → IsPart LineEnd base x n f l
end_part base x n f l e u v = record { null_is = e; first_is = λ m. no_word m f u; last_is = λ m. no_word m l v }

pub start_rows : (base : ℕ) (x : Here) (old : List ℕ) → AreFilled LineStart base x old old
start_rows base x old m n = same_rows old m n false (λ h. cc h)

pub end_rows : (base : ℕ) (x : Here) (old : List ℕ) → AreFilled LineEnd base x old old
end_rows base x old m n = same_rows old m n false (λ h. cc h)

pub cat_part : (a b : Tree) (base mid : ℕ) (x : Here) (p q r : Bool) (f f' g l l' k : ℕ) → IsPart a base x p f l
    → mid ≡ base + letters a → IsPart b mid x q f' l' → r ≡ (p && q) → g ≡ (if p then bit_or f f' else f)
    → k ≡ (if q then bit_or l' l else l') → IsPart (Then a b) base x r g k
cat_part a b base mid x p q r f f' g l l' k u m v n s t =
    let w = subst (λ (z : ℕ). IsPart b z x q f' l') m v in
    record {
      null_is = cc (n, u.null_is, v.null_is);
      first_is = subst (IsSet (Then a b) base (first (Then a b) x)) (sym s)
          (then_first a b base x f f' p u.null_is u.first_is w.first_is);
      last_is = subst (IsSet (Then a b) base (last (Then a b) x)) (sym t)
          (then_last a b base x l l' q w.null_is u.last_is w.last_is);
    }

pub alt_part : (a b : Tree) (base mid : ℕ) (x : Here) (p q r : Bool) (f f' g l l' k : ℕ) → IsPart a base x p f l
    → mid ≡ base + letters a → IsPart b mid x q f' l' → r ≡ (p || q) → g ≡ bit_or f f' → k ≡ bit_or l l'
    → IsPart (Either a b) base x r g k
alt_part a b base mid x p q r f f' g l l' k u m v n s t =
    let w = subst (λ (z : ℕ). IsPart b z x q f' l') m v in
    record {
      null_is = cc (n, u.null_is, v.null_is);
      first_is = subst (IsSet (Either a b) base (first (Either a b) x)) (sym s)
          (λ n. either_word f f' n (bits a base (first a x) n) (bits b (base + letters a) (first b x) n) (u.first_is n)
          (w.first_is n));
      last_is = subst (IsSet (Either a b) base (last (Either a b) x)) (sym t)
          (λ n. either_word l l' n (bits a base (last a x) n) (bits b (base + letters a) (last b x) n) (u.last_is n)
          (w.last_is n));
    }

pub many_part : (a : Tree) (base : ℕ) (x : Here) (p : Bool) (f l : ℕ) → IsPart a base x p f l
    → IsPart (Many a) base x true f l
many_part a base x p f l u = record { null_is = refl; first_is = u.first_is; last_is = u.last_is }

pub several_part : (a : Tree) (base : ℕ) (x : Here) (p : Bool) (f l : ℕ) → IsPart a base x p f l
    → IsPart (Several a) base x p f l
several_part a base x p f l u = record { null_is = u.null_is; first_is = u.first_is; last_is = u.last_is }

pub maybe_part : (a : Tree) (base : ℕ) (x : Here) (p : Bool) (f l : ℕ) → IsPart a base x p f l
    → IsPart (Maybe a) base x true f l
maybe_part a base x p f l u = record { null_is = refl; first_is = u.first_is; last_is = u.last_is }

pub group_part : (n : ℕ) (a : Tree) (base : ℕ) (x : Here) (p : Bool) (f l : ℕ) → IsPart a base x p f l
    → IsPart (Group n a) base x p f l
group_part n a base x p f l u = record { null_is = u.null_is; first_is = u.first_is; last_is = u.last_is }

pub cat_rows : (a b : Tree) (base mid : ℕ) (x : Here) (p q : Bool) (f f' l l' : ℕ) (old some both new : List ℕ)
    → IsPart a base x p f l → mid ≡ base + letters a → IsPart b mid x q f' l' → AreFilled a base x old some
    → AreFilled b mid x some both → AreAdded both new l f' → AreFilled (Then a b) base x old new
cat_rows a b base mid x p q f f' l l' old some both new u e v fa fb h m n =
    let w = subst (λ (z : ℕ). IsPart b z x q f' l') e v in
    let gb = subst (λ (z : ℕ). AreFilled b z x some both) e fb in (
      λ t. elim ((h m n).0 t) [
        | inl y ↦ elim ((gb m n).0 y) [
          | inl z ↦ elim ((fa m n).0 z) [ inl o ↦ inl o | inr o ↦ inr ((then_rows a b base x m n).1 (inl o)) ]
          | inr z ↦ inr ((then_rows a b base x m n).1 (inr (inl z)))
        ]
        | inr y ↦ inr ((then_rows a b base x m n).1 (inr (inr ((u.last_is m).0 y.0, (w.first_is n).0 y.1))))
      ],
      λ t. elim t [
        | inl o ↦ (h m n).1 (inl ((gb m n).1 (inl ((fa m n).1 (inl o)))))
        | inr o ↦ elim ((then_rows a b base x m n).0 o) [
          | inl y ↦ (h m n).1 (inl ((gb m n).1 (inl ((fa m n).1 (inr y)))))
          | inr y ↦ elim y [
            | inl z ↦ (h m n).1 (inl ((gb m n).1 (inr z)))
            | inr z ↦ (h m n).1 (inr ((u.last_is m).1 z.0, (w.first_is n).1 z.1))
          ]
        ]
      ],
    )

pub alt_rows : (a b : Tree) (base mid : ℕ) (x : Here) (old some new : List ℕ) → mid ≡ base + letters a
    → AreFilled a base x old some → AreFilled b mid x some new → AreFilled (Either a b) base x old new
alt_rows a b base mid x old some new e fa fb m n =
    let gb = subst (λ (z : ℕ). AreFilled b z x some new) e fb in (
      λ t. elim ((gb m n).0 t) [
        | inl z ↦ elim ((fa m n).0 z) [ inl o ↦ inl o | inr o ↦ inr ((either_rows a b base x m n).1 (inl o)) ]
        | inr z ↦ inr ((either_rows a b base x m n).1 (inr z))
      ],
      λ t. elim t [
        | inl o ↦ (gb m n).1 (inl ((fa m n).1 (inl o)))
        | inr o ↦ elim ((either_rows a b base x m n).0 o) [
          | inl y ↦ (gb m n).1 (inl ((fa m n).1 (inr y)))
          | inr z ↦ (gb m n).1 (inr z)
        ]
      ],
    )

pub many_rows : (a : Tree) (base : ℕ) (x : Here) (p : Bool) (f l : ℕ) (old some new : List ℕ) → IsPart a base x p f l
    → AreFilled a base x old some → AreAdded some new l f → AreFilled (Many a) base x old new
many_rows a base x p f l old some new u fa h m n = (
  λ t. elim ((h m n).0 t) [
    | inl z ↦ elim ((fa m n).0 z) [ inl o ↦ inl o | inr o ↦ inr ((again_rows a base x m n).1 (inl o)) ]
    | inr y ↦ inr ((again_rows a base x m n).1 (inr ((u.last_is m).0 y.0, (u.first_is n).0 y.1)))
  ],
  λ t. elim t [
    | inl o ↦ (h m n).1 (inl ((fa m n).1 (inl o)))
    | inr o ↦ elim ((again_rows a base x m n).0 o) [
      | inl y ↦ (h m n).1 (inl ((fa m n).1 (inr y)))
      | inr z ↦ (h m n).1 (inr ((u.last_is m).1 z.0, (u.first_is n).1 z.1))
    ]
  ],
)

-- the letters at the end of a part are letters of it
pub last_in : (r : Tree) (base : ℕ) (x : Here) (p : Bool) (f l m : ℕ) → IsPart r base x p f l → IsTrue (on l m)
    → m < base + letters r
last_in r base x p f l m u h = (bits_in r base (last r x) m ((u.last_is m).0 h)).1
