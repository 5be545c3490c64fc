-- Outputs and inputs, one after another.
use Rattle.std.proofs.Common.{◌≡◌, ℕ, ◌+◌, ◌≤◌, List, [], ◌++◌, length, take, Option, Some, None, refl, sym, ap, ◌∙◌}
use Rattle.std.proofs.Common.{arith, append_assoc, inl, inr}
use Rattle.std.proofs.lemmas.List.{append-nil, length-append, take-append-le}
use Rattle.std.proofs.Math.Seq.{take-append-add, take-length}
use Rattle.am_base.specs.Outside.{then_told, told_then, PutsFront, HasRisen}
use Rattle.ninep_client.specs.Hearing.{Came}

-- ---- what is told

told_both : (o : Option (List ℕ)) (a b : List ℕ) → told_then (told_then o a) b ≡ told_then o (a ++ b)
told_both None a b = refl
told_both (Some told) a b = ap (λ (x : List ℕ). Some x) (append_assoc told a b)

told_none : (o : Option (List ℕ)) → told_then o [] ≡ o
told_none None = refl
told_none (Some told) = ap (λ (x : List ℕ). Some x) (append-nil told)

then_none : (o : Option (List ℕ)) → o ≡ then_told [] o
then_none None = refl
then_none (Some told) = refl

then_both : (o : Option (List ℕ)) (a b : List ℕ) → then_told a (then_told b o) ≡ then_told (a ++ b) o
then_both None a b = refl
then_both (Some told) a b = ap (λ (x : List ℕ). Some x) (sym (append_assoc a b told))

-- ---- the bytes that came

pub came_none : (left : Option (List ℕ)) (unread : List ℕ) → Came left left unread unread
came_none left unread = record { bytes = []; told = then_none left; joined = append-nil unread }

-- bytes that came behind some that were used
pub came_then : (l m n : Option (List ℕ)) (u v w f : List ℕ) → Came l m u (f ++ v) → Came m n v w → Came l n u (f ++ w)
came_then l m n u v w f a b = record {
  bytes = a.bytes ++ b.bytes;
  told = a.told ∙ ap (then_told a.bytes) b.told ∙ then_both n a.bytes b.bytes;
  joined = sym (append_assoc u a.bytes b.bytes) ∙ ap (λ (x : List ℕ). x ++ b.bytes) a.joined ∙ append_assoc f v b.bytes
      ∙ ap (λ (x : List ℕ). f ++ x) b.joined;
}

-- ---- what was put

pub put_none : (h : Option (List ℕ)) → h ≡ told_then h []
put_none h = sym (told_none h)

pub put_then : (h i j : Option (List ℕ)) (a b : List ℕ) → i ≡ told_then h a → j ≡ told_then i b
    → j ≡ told_then h (a ++ b)
put_then h i j a b x y = y ∙ ap (λ (o : Option (List ℕ)). told_then o b) x ∙ told_both h a b

pub front_then : (h i j : Option (List ℕ)) (a b : List ℕ) → i ≡ told_then h a → PutsFront i b j → PutsFront h (a ++ b) j
front_then h i j a b x y = (
  length a + y.0,
  omega (arith, y.1, length-append a b),
  y.2 ∙ ap (λ (o : Option (List ℕ)). told_then o (take y.0 b))
      x ∙ told_both h a (take y.0 b) ∙ ap (told_then h) (sym (take-append-add a b y.0)),
)

-- a front of a front
pub front_longer : (h j : Option (List ℕ)) (a b : List ℕ) → PutsFront h a j → PutsFront h (a ++ b) j
front_longer h j a b x = (
  x.0,
  omega (arith, x.1, length-append a b),
  x.2 ∙ ap (told_then h) (sym (take-append-le x.0 a b x.1)),
)

pub front_none : (h : Option (List ℕ)) (a : List ℕ) → PutsFront h a h
front_none h a = (0, omega arith, put_none h)

pub whole_is_front : (h i : Option (List ℕ)) (a : List ℕ) → i ≡ told_then h a → PutsFront h a i
whole_is_front h i a x = (length a, omega arith, x ∙ ap (told_then h) (sym (take-length a)))

-- ---- counts

pub risen_later : (f g k : ℕ) → f ≤ g → HasRisen g k → HasRisen f k
risen_later f g k le h = elim h [ inl lt ↦ inl (omega arith) | inr most ↦ inr most ]
