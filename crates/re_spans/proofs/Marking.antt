-- What the marks of a tree say at a place.
use Rattle.std.proofs.Common.{◌≡◌, ℕ, zero, suc, ◌⊎◌, ◌&&◌, ◌||◌, Bool, true, false, refl, sym, subst, inl, inr, arith}
use Rattle.std.specs.Prelude.{IsTrue, ◌↔◌}
use Rattle.std.proofs.lemmas.Bool.{or_cases, or_left, or_right}
use Rattle.re_syntax.specs.Match.{Repeats, Joins}
use Rattle.re_spans.specs.Reached.{Along}
use Rattle.re_spans.specs.Marks.{passes, left_enters, right_enters, join, pair, either, wrap}
use Rattle.re_spans.specs.declared.way.Way.{Way}
use Rattle.re_spans.specs.declared.way.Way.TheVariants.{On, Back}
use Rattle.re_spans.specs.declared.marks.Mark.{Mark}
use Rattle.re_spans.proofs.Ways.{LeadsOn, Repeats-on, joined_repeats, repeats_joined, repeats_then, repeats_last}
use Rattle.re_spans.proofs.Ways.{repeats_first}
use Rattle.re_spans.proofs.Orders.{Before, Goes, along_goes, before_or_at, to_before, never, meet}

-- ---- truth

pub trans : (P Q R : Type 0) → P ↔ Q → Q ↔ R → P ↔ R
trans P Q R f g = (λ p. g.0 (f.0 p), λ r. f.1 (g.1 r))

pub or_is : (a b : Bool) (P Q : Type 0) → IsTrue a ↔ P → IsTrue b ↔ Q → IsTrue (a || b) ↔ (P ⊎ Q)
or_is a b P Q p q = (
  λ h. elim (or_cases a b h) [ inl x ↦ inl (p.0 x) | inr y ↦ inr (q.0 y) ],
  λ h. elim h [ inl x ↦ or_left a b (p.1 x) | inr y ↦ or_right a b (q.1 y) ],
)

pub both : (a b : Bool) → (a && b) ≡ true → (a ≡ true) × (b ≡ true)
both true b e = (refl, e)
both false b e = absurd cc

pub and_true : (a b : Bool) → a ≡ true → b ≡ true → (a && b) ≡ true
and_true true b e f = f
and_true false b e f = absurd cc

pub and_is : (a b : Bool) (P Q : Type 0) → IsTrue a ↔ P → IsTrue b ↔ Q → IsTrue (a && b) ↔ (P × Q)
and_is a b P Q p q = (
  λ h. let x = both a b h in (p.0 x.0, q.0 x.1),
  λ h. and_true a b (p.1 h.0) (q.1 h.1),
)

-- ---- where a part is entered and left

-- a span leads there from a place of E
abbrev pub Through : (ℕ → ℕ → Type 0) → (ℕ → Type 0) → ℕ → Type 0
Through A E n = (k : ℕ) × E k × A k n

-- a span of one rune or more does
abbrev pub Led : Way → (ℕ → ℕ → Type 0) → (ℕ → Type 0) → ℕ → Type 0
Led way A E n = (k : ℕ) × Before way k n × E k × A k n

-- the mark of a part with the spans A, which is entered at the places of E
pub record MarkIs (way : Way) (A : ℕ → ℕ → Type 0) (E : ℕ → Type 0) (n : ℕ) (k : Mark) : Type 0 where
  pub is_led : IsTrue k.led ↔ Led way A E n
  pub is_null : IsTrue k.null ↔ A n n

pub through_is : (way : Way) (A : ℕ → ℕ → Type 0) (E : ℕ → Type 0) (n : ℕ) → Goes way A
    → (Led way A E n ⊎ (E n × A n n)) ↔ Through A E n
through_is way A E n goes = (
  λ h. elim h [ inl p ↦ (p.0, p.2, p.3) | inr p ↦ (n, p.0, p.1) ],
  λ p. elim (before_or_at way p.0 n (goes p.0 n p.2)) [
    | inl b ↦ inl (p.0, b, p.1, p.2)
    | inr e ↦ inr (subst E e p.1, subst (λ (x : ℕ). A x n) e p.2)
  ],
)

pub passes_is : (way : Way) (A : ℕ → ℕ → Type 0) (E : ℕ → Type 0) (n : ℕ) (k : Mark) (m : Bool) → Goes way A
    → MarkIs way A E n k → IsTrue m ↔ E n → IsTrue (passes k m) ↔ Through A E n
passes_is way A E n k m goes is e =
    trans (IsTrue (passes k m)) (Led way A E n ⊎ (E n × A n n)) (Through A E n)
    (or_is k.led (m && k.null) (Led way A E n) (E n × A n n) is.is_led (and_is m k.null (E n) (A n n) e is.is_null))
    (through_is way A E n goes)

pub no_through : (way : Way) (A : ℕ → ℕ → Type 0) (E : ℕ → Type 0) (n : ℕ) → Goes way A
    → ((k : ℕ) → Before way k n → E k → ⊥) → (k : ℕ) → Before way k n → Through A E k → ⊥
no_through way A E n goes none k b p = none p.0 (to_before way p.0 k n (goes p.0 k p.2) b) p.1

pub mark_same : (way : Way) (A B : ℕ → ℕ → Type 0) (E : ℕ → Type 0) (n : ℕ) (k : Mark) → ((i j : ℕ) → A i j → B i j)
    → ((i j : ℕ) → B i j → A i j) → MarkIs way A E n k → MarkIs way B E n k
mark_same way A B E n k f g is = record {
  is_led = (
    λ h. let p = is.is_led.0 h in (p.0, p.1, p.2, f p.0 n p.3),
    λ p. is.is_led.1 (p.0, p.1, p.2, g p.0 n p.3),
  );
  is_null = (λ h. f n n (is.is_null.0 h), λ p. is.is_null.1 (g n n p));
}

-- ---- one part after the other

joined_led : (way : Way) (A B : ℕ → ℕ → Type 0) (E : ℕ → Type 0) (n : ℕ) → Goes way A → Goes way B
    → (Led way B (Through A E) n ⊎ (Led way A E n × B n n)) ↔ Led way (Joins A B) E n
joined_led way A B E n goes_a goes_b = (
  λ h. elim h [
    | inl p ↦ (p.2.0, to_before way p.2.0 p.0 n (goes_a p.2.0 p.0 p.2.2) p.1, p.2.1, (p.0, p.2.2, p.3))
    | inr q ↦ (q.0.0, q.0.1, q.0.2, (n, q.0.3, q.1))
  ],
  λ p.
      let m = p.3 in
      elim (before_or_at way m.0 n (goes_b m.0 n m.2)) [
        | inl b ↦ inl (m.0, b, (p.0, p.2, m.1), m.2)
        | inr e ↦ inr ((p.0, p.1, p.2, subst (λ (x : ℕ). A p.0 x) e m.1), subst (λ (x : ℕ). B x n) e m.2)
      ],
)

joined_null : (way : Way) (A B : ℕ → ℕ → Type 0) (n : ℕ) → Goes way A → Goes way B → (A n n × B n n) ↔ Joins A B n n
joined_null way A B n goes_a goes_b = (
  λ p. (n, p.0, p.1),
  λ p.
      let e : p.0 ≡ n = meet way n p.0 (goes_a n p.0 p.1) (goes_b p.0 n p.2) in
      (subst (λ (x : ℕ). A n x) e p.1, subst (λ (x : ℕ). B x n) e p.2),
)

joined_is : (way : Way) (A B : ℕ → ℕ → Type 0) (E : ℕ → Type 0) (n : ℕ) (x y : Mark) → Goes way A → Goes way B
    → MarkIs way A E n x → MarkIs way B (Through A E) n y → MarkIs way (Joins A B) E n (join x y)
joined_is way A B E n x y goes_a goes_b a b = record {
  is_led =
      trans (IsTrue (y.led || (x.led && y.null))) (Led way B (Through A E) n ⊎ (Led way A E n × B n n))
      (Led way (Joins A B) E n) (or_is y.led (x.led && y.null) (Led way B (Through A E) n) (Led way A E n × B n n)
      b.is_led (and_is x.led y.null (Led way A E n) (B n n) a.is_led b.is_null))
      (joined_led way A B E n goes_a goes_b);
  is_null =
      trans (IsTrue (x.null && y.null)) (A n n × B n n) (Joins A B n n)
      (and_is x.null y.null (A n n) (B n n) a.is_null b.is_null) (joined_null way A B n goes_a goes_b);
}

-- where the left part is entered, and where the right one
abbrev pub LeftE : Way → (ℕ → ℕ → Type 0) → (ℕ → Type 0) → ℕ → Type 0
LeftE On S E n = E n
LeftE Back S E n = Through (Along Back S) E n

abbrev pub RightE : Way → (ℕ → ℕ → Type 0) → (ℕ → Type 0) → ℕ → Type 0
RightE On R E n = Through (Along On R) E n
RightE Back R E n = E n

pub pair_is : (way : Way) (R S : ℕ → ℕ → Type 0) (E : ℕ → Type 0) (n : ℕ) (x y : Mark) → LeadsOn R → LeadsOn S
    → MarkIs way (Along way R) (LeftE way S E) n x → MarkIs way (Along way S) (RightE way R E) n y
    → MarkIs way (Along way (Joins R S)) E n (pair way x y)
pair_is On R S E n x y on_r on_s a b =
    joined_is On (Along On R) (Along On S) E n x y (along_goes On R on_r) (along_goes On S on_s) a b
pair_is Back R S E n x y on_r on_s a b =
    mark_same Back (Joins (Along Back S) (Along Back R)) (Along Back (Joins R S)) E n (join y x)
    (λ i j p. (p.0, p.2, p.1)) (λ i j p. (p.0, p.2, p.1)) (joined_is Back (Along Back S) (Along Back R) E n y x
    (along_goes Back S on_s) (along_goes Back R on_r) b a)

pub left_enters_is : (way : Way) (R S : ℕ → ℕ → Type 0) (E : ℕ → Type 0) (n : ℕ) (k : Mark) (m : Bool) → LeadsOn S
    → MarkIs way (Along way S) (RightE way R E) n k → IsTrue m ↔ E n → IsTrue (left_enters way m k) ↔ LeftE way S E n
left_enters_is On R S E n k m on is e = e
left_enters_is Back R S E n k m on is e = passes_is Back (Along Back S) E n k m (along_goes Back S on) is e

pub right_enters_is : (way : Way) (R S : ℕ → ℕ → Type 0) (E : ℕ → Type 0) (n : ℕ) (k : Mark) (m : Bool) → LeadsOn R
    → MarkIs way (Along way R) (LeftE way S E) n k → IsTrue m ↔ E n → IsTrue (right_enters way m k) ↔ RightE way R E n
right_enters_is On R S E n k m on is e = passes_is On (Along On R) E n k m (along_goes On R on) is e
right_enters_is Back R S E n k m on is e = e

pub no_left : (way : Way) (S : ℕ → ℕ → Type 0) (E : ℕ → Type 0) (n : ℕ) → LeadsOn S
    → ((k : ℕ) → Before way k n → E k → ⊥) → (k : ℕ) → Before way k n → LeftE way S E k → ⊥
no_left On S E n on none = none
no_left Back S E n on none = no_through Back (Along Back S) E n (along_goes Back S on) none

pub no_right : (way : Way) (R : ℕ → ℕ → Type 0) (E : ℕ → Type 0) (n : ℕ) → LeadsOn R
    → ((k : ℕ) → Before way k n → E k → ⊥) → (k : ℕ) → Before way k n → RightE way R E k → ⊥
no_right On R E n on none = no_through On (Along On R) E n (along_goes On R on) none
no_right Back R E n on none = none

-- ---- one part or the other

either_is_one : (way : Way) (A B : ℕ → ℕ → Type 0) (E : ℕ → Type 0) (n : ℕ) (x y : Mark) → MarkIs way A E n x
    → MarkIs way B E n y → MarkIs way (λ i j. A i j ⊎ B i j) E n (either x y)
either_is_one way A B E n x y a b = record {
  is_led =
      trans (IsTrue (x.led || y.led)) (Led way A E n ⊎ Led way B E n) (Led way (λ i j. A i j ⊎ B i j) E n)
      (or_is x.led y.led (Led way A E n) (Led way B E n) a.is_led b.is_led) (
        λ h. elim h [ inl p ↦ (p.0, p.1, p.2, inl p.3) | inr p ↦ (p.0, p.1, p.2, inr p.3) ],
        λ p. elim p.3 [ inl q ↦ inl (p.0, p.1, p.2, q) | inr q ↦ inr (p.0, p.1, p.2, q) ],
      );
  is_null = or_is x.null y.null (A n n) (B n n) a.is_null b.is_null;
}

pub either_is : (way : Way) (R S : ℕ → ℕ → Type 0) (E : ℕ → Type 0) (n : ℕ) (x y : Mark)
    → MarkIs way (Along way R) E n x → MarkIs way (Along way S) E n y
    → MarkIs way (Along way (λ i j. R i j ⊎ S i j)) E n (either x y)
either_is On R S E n x y a b = either_is_one On (Along On R) (Along On S) E n x y a b
either_is Back R S E n x y a b = either_is_one Back (Along Back R) (Along Back S) E n x y a b

-- ---- a part again and again

rep_put : (way : Way) (R : ℕ → ℕ → Type 0) (k l n : ℕ) → Along way (Repeats R) k l → Before way l n → Along way R l n
    → Along way (Repeats R) k n
rep_put On R k l n p b r = repeats_then R k l n p b r
rep_put Back R k l n p b r = (suc p.0, (l, b, r, p.1))

rep_last : (way : Way) (R : ℕ → ℕ → Type 0) (k n : ℕ) → Along way (Repeats R) k n → (k ≡ n)
    ⊎ ((l : ℕ) × Along way (Repeats R) k l × Before way l n × Along way R l n)
rep_last On R k n p = repeats_last R k n p
rep_last Back R k n p = elim (repeats_first R n k p) [ inl e ↦ inl e | inr q ↦ inr (q.0, q.3, q.1, q.2) ]

rep_none : (way : Way) (R : ℕ → ℕ → Type 0) (n : ℕ) → Along way (Repeats R) n n
rep_none On R n = (zero, refl)
rep_none Back R n = (zero, refl)

rep_plus : (way : Way) (R : ℕ → ℕ → Type 0) (k n : ℕ) → LeadsOn R → Before way k n
    → Along way (Repeats R) k n ↔ Along way (Joins R (Repeats R)) k n
rep_plus On R k n on b = (repeats_joined R k n b, joined_repeats R on k n)
rep_plus Back R k n on b = (repeats_joined R n k b, joined_repeats R on n k)

plus_null : (way : Way) (R : ℕ → ℕ → Type 0) (n : ℕ) → LeadsOn R → Along way R n n ↔ Along way (Joins R (Repeats R)) n n
plus_null way R n on = (there way, here way)
  where
    at_n : Joins R (Repeats R) n n → R n n
    at_n p = let e : p.0 ≡ n = omega (arith, on n p.0 p.1, Repeats-on R p.0 n p.2) in subst (λ (x : ℕ). R n x) e p.1

    there : (w : Way) → Along w R n n → Along w (Joins R (Repeats R)) n n
    there On r = (n, r, (zero, refl))
    there Back r = (n, r, (zero, refl))

    here : (w : Way) → Along w (Joins R (Repeats R)) n n → Along w R n n
    here On p = at_n p
    here Back p = at_n p

-- where the part of a repetition is entered
abbrev pub Again : Way → (ℕ → ℕ → Type 0) → (ℕ → Type 0) → ℕ → Type 0
Again way R E n = Through (Along way (Repeats R)) E n

pub again_enters : (way : Way) (R : ℕ → ℕ → Type 0) (E : ℕ → Type 0) (n : ℕ)
    → (E n ⊎ Led way (Along way R) (Again way R E) n) ↔ Again way R E n
again_enters way R E n = (
  λ h. elim h [
    | inl e ↦ (n, e, rep_none way R n)
    | inr p ↦ (p.2.0, p.2.1, rep_put way R p.2.0 p.0 n p.2.2 p.1 p.3)
  ],
  λ p. elim (rep_last way R p.0 n p.2) [
    | inl e ↦ inl (subst E e p.1)
    | inr q ↦ inr (q.0, q.2, (p.0, p.1, q.1), q.3)
  ],
)

pub no_again : (way : Way) (R : ℕ → ℕ → Type 0) (E : ℕ → Type 0) (n : ℕ) → ((k : ℕ) → Before way k n → E k → ⊥)
    → (k : ℕ) → Before way k n → Again way R E k → ⊥
no_again way R E n none = no_through way (Along way (Repeats R)) E n (along_goes way (Repeats R) (Repeats-on R)) none

again_led : (way : Way) (R : ℕ → ℕ → Type 0) (E : ℕ → Type 0) (n : ℕ)
    → Led way (Along way R) (Again way R E) n ↔ Led way (Along way (Repeats R)) E n
again_led way R E n = (
  λ p.
      let s = p.2 in (
        s.0,
        to_before way s.0 p.0 n (along_goes way (Repeats R) (Repeats-on R) s.0 p.0 s.2) p.1,
        s.1,
        rep_put way R s.0 p.0 n s.2 p.1 p.3,
      ),
  λ p. elim (rep_last way R p.0 n p.3) [
    | inl e ↦ absurd (never way p.0 n p.1 e)
    | inr q ↦ (q.0, q.2, (p.0, p.2, q.1), q.3)
  ],
)

pub many_is : (way : Way) (R : ℕ → ℕ → Type 0) (E : ℕ → Type 0) (n : ℕ) (k : Mark)
    → MarkIs way (Along way R) (Again way R E) n k → MarkIs way (Along way (Repeats R)) E n (wrap k true)
many_is way R E n k is = record {
  is_led = trans (IsTrue k.led) (Led way (Along way R) (Again way R E) n) (Led way (Along way (Repeats R)) E n)
      is.is_led (again_led way R E n);
  is_null = (λ h. rep_none way R n, λ p. refl);
}

pub several_is : (way : Way) (R : ℕ → ℕ → Type 0) (E : ℕ → Type 0) (n : ℕ) (k : Mark) → LeadsOn R
    → MarkIs way (Along way R) (Again way R E) n k → MarkIs way (Along way (Joins R (Repeats R))) E n (wrap k false)
several_is way R E n k on is = record {
  is_led =
      trans (IsTrue k.led) (Led way (Along way (Repeats R)) E n) (Led way (Along way (Joins R (Repeats R))) E n)
      (trans (IsTrue k.led) (Led way (Along way R) (Again way R E) n) (Led way (Along way (Repeats R)) E n)
      is.is_led (again_led way R E n)) (
        λ p. (p.0, p.1, p.2, (rep_plus way R p.0 n on p.1).0 p.3),
        λ p. (p.0, p.1, p.2, (rep_plus way R p.0 n on p.1).1 p.3),
      );
  is_null = trans (IsTrue k.null) (Along way R n n) (Along way (Joins R (Repeats R)) n n) is.is_null
      (plus_null way R n on);
}

-- ---- a part or nothing

or_null : (way : Way) (R : ℕ → ℕ → Type 0) (k n : ℕ) → Before way k n
    → Along way R k n ↔ Along way (λ i j. R i j ⊎ (j ≡ i)) k n
or_null On R k n b = (λ p. inl p, λ p. elim p [ inl q ↦ q | inr e ↦ absurd (never On k n b (sym e)) ])
or_null Back R k n b = (λ p. inl p, λ p. elim p [ inl q ↦ q | inr e ↦ absurd (never Back k n b e) ])

null_there : (way : Way) (R : ℕ → ℕ → Type 0) (n : ℕ) → Along way (λ i j. R i j ⊎ (j ≡ i)) n n
null_there On R n = inr refl
null_there Back R n = inr refl

pub maybe_is : (way : Way) (R : ℕ → ℕ → Type 0) (E : ℕ → Type 0) (n : ℕ) (k : Mark) → MarkIs way (Along way R) E n k
    → MarkIs way (Along way (λ i j. R i j ⊎ (j ≡ i))) E n (wrap k true)
maybe_is way R E n k is = record {
  is_led =
      trans (IsTrue k.led) (Led way (Along way R) E n) (Led way (Along way (λ i j. R i j ⊎ (j ≡ i))) E n) is.is_led (
        λ p. (p.0, p.1, p.2, (or_null way R p.0 n p.1).0 p.3),
        λ p. (p.0, p.1, p.2, (or_null way R p.0 n p.1).1 p.3),
      );
  is_null = (λ h. null_there way R n, λ p. refl);
}

pub group_is : (way : Way) (A : ℕ → ℕ → Type 0) (E : ℕ → Type 0) (n : ℕ) (k : Mark) → MarkIs way A E n k
    → MarkIs way A E n (wrap k false)
group_is way A E n k is = record { is_led = is.is_led; is_null = is.is_null }
