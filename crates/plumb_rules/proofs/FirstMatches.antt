-- The first match takes the whole text exactly where the whole text matches.
use Rattle.std.proofs.Common.{◌≡◌, ◌==◌, ◌&&◌, ℕ, ◌<◌, ◌≤◌, Bool, true, false, List, length, Option, Some, None, refl}
use Rattle.std.proofs.Common.{ap, sym, subst, ◌∙◌, arith}
use Rattle.std.specs.Prelude.{◌↔◌, IfSome, IfNone, IsTrue}
use Rattle.std.proofs.lemmas.Bool.{eqb-true, eq-eqb, false≢true}
use Rattle.am_text.specs.declared.range.Range.{Range}
use Rattle.re_syntax.specs.Match.{Matches, IsSpan, IsFirst, HasNoSpan}
use Rattle.re_syntax.specs.Tree.{Tree}
use Rattle.plumb_rules.specs.Whole.{is_all}

and_first : (s t : Bool) → (s && t) ≡ true → s ≡ true
and_first true t h = refl
and_first false t h = h

and_second : (s t : Bool) → (s && t) ≡ true → t ≡ true
and_second true t h = h
and_second false t h = absurd (false≢true h)

whole_span : (r : Tree) (t : List ℕ) (n : ℕ) → Matches r t 0 n → IsSpan r t 0 n None 0 n
whole_span r t n m = record { above = omega arith; below = omega arith; matches = m; allowed = λ e h. cc }

pub all_tells : (r : Tree) (t : List ℕ) (n : ℕ) (found : Option Range) → IfSome found (IsFirst r t 0 n None)
    → IfNone found (HasNoSpan r t 0 n None) → IsTrue (is_all found n) ↔ Matches r t 0 n
all_tells r t n None f g = (λ h. absurd (false≢true h), λ m. absurd (g 0 n (whole_span r t n m)))
all_tells r t n (Some s) f g = (taken, told)
  where
    taken : IsTrue (is_all (Some s) n) → Matches r t 0 n
    taken h =
        let begin : s.q0 ≡ 0 = eqb-true s.q0 0 (and_first (s.q0 == 0) (s.q1 == n) h) in
        let end : s.q1 ≡ n = eqb-true s.q1 n (and_second (s.q0 == 0) (s.q1 == n) h) in
        subst (λ (j : ℕ). Matches r t 0 j) end (subst (λ (i : ℕ). Matches r t i s.q1) begin f.span.matches)

    told : Matches r t 0 n → IsTrue (is_all (Some s) n)
    told m =
        let low : s.q0 ≤ 0 = f.least 0 n (whole_span r t n m) in
        let begin : s.q0 ≡ 0 = omega arith in
        let long : n ≤ s.q1 = f.longest n (subst (λ (i : ℕ). IsSpan r t 0 n None i n) (sym begin)
        (whole_span r t n m)) in
        let high : s.q1 ≤ n = f.span.below in
        let end : s.q1 ≡ n = omega arith in ap (λ b. b && (s.q1 == n)) (eq-eqb s.q0 0 begin) ∙ eq-eqb s.q1 n end
