-- What an output got of a text, and then of more.
use Rattle.std.proofs.Common.{◌≡◌, inl, inr, ℕ, ◌+◌, ◌≤◌, Bool, true, false, List, [], ◌∷◌, ◌++◌, length, take, suc}
use Rattle.std.proofs.Common.{zero, Option, Some, None, refl, sym, ap, subst, ◌∙◌, append_assoc, arith}
use Rattle.std.proofs.lemmas.List.{append-nil, length-append}
use Rattle.am_base.specs.Outside.{BytesTold, told_then, HasRisen}
use Rattle.am_base.specs.Seen.{seen}
use Rattle.am_replay.specs.Written.{Wrote}
use Rattle.am_replay.specs.Playing.{Put}

told_then-then : (o : Option (List ℕ)) (a b : List ℕ) → told_then (told_then o a) b ≡ told_then o (a ++ b)
told_then-then None a b = refl
told_then-then (Some h) a b = ap (λ (x : List ℕ). Some x) (append_assoc h a b)

told_then-nil : (o : Option (List ℕ)) → told_then o [] ≡ o
told_then-nil None = refl
told_then-nil (Some h) = ap (λ (x : List ℕ). Some x) (append-nil h)

take-join : (x y : List ℕ) (i : ℕ) → take (length x + i) (x ++ y) ≡ x ++ take i y
take-join [] y i = let e : 0 + i ≡ i = omega arith in rw e refl
take-join (a ∷ x) y i = let e : suc (length x) + i ≡ suc (length x + i) = omega arith in
    rw e (ap (λ (l : List ℕ). a ∷ l) (take-join x y i))

pub take-within : (x y : List ℕ) (i : ℕ) → i ≤ length x → take i (x ++ y) ≡ take i x
take-within x y zero h = refl
take-within [] y (suc i) h = absurd (omega arith)
take-within (a ∷ x) y (suc i) h = ap (λ (l : List ℕ). a ∷ l) (take-within x y i (omega arith))

risen_from : (a b c : ℕ) → a ≤ b → HasRisen b c → HasRisen a c
risen_from a b c h (inl r) = inl (omega arith)
risen_from a b c h (inr r) = inr r

-- nothing was put yet
pub wrote_none : (first : BytesTold) → Wrote false (seen first first) []
wrote_none first = record { holds = sym (told_then-nil first.bytes); later = omega arith }

-- a text, and then more of it
pub wrote_on : (failed failed' : Bool) (first mid last : BytesTold) (text more : List ℕ)
    → Wrote failed (seen first mid) text
    → Put failed failed' (seen mid last) more
    → Wrote failed' (seen first last) (text ++ more)
wrote_on false false first mid last text more w p = record {
  holds = p.holds ∙ ap (λ (x : Option (List ℕ)). told_then x more) w.holds ∙ told_then-then first.bytes text more;
  later = omega (arith, w.later, p.later);
}
wrote_on false true first mid last text more w p =
    let i = p.holds.front.0 in
    record {
      holds = record {
        front = (
          length text + i,
          omega (arith, length-append text more, p.holds.front.1),
          p.holds.front.2 ∙ ap (λ (x : Option (List ℕ)). told_then x (take i more)) w.holds
              ∙ told_then-then first.bytes text (take i more) ∙ ap (told_then first.bytes)
              (sym (take-join text more i)),
        );
        risen = risen_from first.faults mid.faults last.faults w.later p.holds.risen;
      };
      later = omega (arith, w.later, p.later);
    }
wrote_on true false first mid last text more w p = absurd p
wrote_on true true first mid last text more w p =
    let i = w.holds.front.0 in
    record {
      holds = record {
        front = (
          i,
          omega (arith, length-append text more, w.holds.front.1),
          p.0 ∙ w.holds.front.2 ∙ ap (told_then first.bytes) (sym (take-within text more i w.holds.front.1)),
        );
        risen = subst (λ (x : ℕ). HasRisen first.faults x) (sym p.1) w.holds.risen;
      };
      later = subst (λ (x : ℕ). first.faults ≤ x) (sym p.1) w.later;
    }
