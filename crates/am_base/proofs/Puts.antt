-- What an output got of a text, and then of another.
use Rattle.std.proofs.Common.{◌≡◌, ℕ, ◌+◌, ◌≤◌, List, [], ◌++◌, length, take, Option, ap, ◌∙◌, sym, inl, inr, arith}
use Rattle.std.proofs.lemmas.List.{length-append, take-append-le}
use Rattle.std.proofs.Math.Seq.{take-append-add}
use Rattle.am_base.specs.Outside.{BytesTold, HasRisen, PutsFront, told_then}
use Rattle.am_base.specs.Seen.{seen}
use Rattle.am_base.specs.Written.{IsWhole, IsCut}
use Rattle.am_base.proofs.Told.{told_then-then, told_then-nil}

-- nothing was put
pub whole_none : (a : BytesTold) → IsWhole (seen a a) []
whole_none a = sym (told_then-nil a.bytes)

-- a text was put, and then another
pub whole_then : (a b c : BytesTold) (x y : List ℕ) → IsWhole (seen a b) x → IsWhole (seen b c) y
    → IsWhole (seen a c) (x ++ y)
whole_then a b c x y p q = q ∙ ap (λ (o : Option (List ℕ)). told_then o y) p ∙ told_then-then a.bytes x y

risen_later : (f g k : ℕ) → f ≤ g → HasRisen g k → HasRisen f k
risen_later f g k le (inl lt) = inl (omega (arith, le, lt))
risen_later f g k le (inr most) = inr most

-- a text was put, and then a front of another
pub cut_then : (a b c : BytesTold) (x y : List ℕ) → IsWhole (seen a b) x → a.faults ≤ b.faults → IsCut (seen b c) y
    → IsCut (seen a c) (x ++ y)
cut_then a b c x y p le q =
    let f = q.front in
    record {
      front = (
        length x + f.0,
        omega (arith, f.1, length-append x y),
        f.2 ∙ ap (λ (o : Option (List ℕ)). told_then o (take f.0 y)) p ∙ told_then-then a.bytes x (take f.0 y)
            ∙ ap (told_then a.bytes) (sym (take-append-add x y f.0)),
      );
      risen = risen_later a.faults b.faults c.faults le q.risen;
    }

-- a front of a text is one of a longer text
pub cut_longer : (a b : BytesTold) (x y : List ℕ) → IsCut (seen a b) x → IsCut (seen a b) (x ++ y)
cut_longer a b x y p =
    let f = p.front in
    record {
      front = (
        f.0,
        omega (arith, f.1, length-append x y),
        f.2 ∙ ap (told_then a.bytes)
            (sym (take-append-le f.0 x y f.1)),
      );
      risen = p.risen;
    }
