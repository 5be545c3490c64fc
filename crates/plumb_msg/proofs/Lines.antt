-- Lines and newlines.
use Rattle.std.proofs.Common.{◌≡◌, ℕ, ◌≤◌, suc, true, false, cond, ◌||◌, eqb, List, [], ◌∷◌, ◌++◌, length, refl, ap}
use Rattle.std.proofs.Common.{sym, arith}
use Rattle.std.proofs.lemmas.Bool.{eqb-true, false≢true}
use Rattle.am_text.specs.Lines.{first_line, after_line}
use Rattle.plumb_msg.specs.Texts.{has_newline}

-- a line of its own, at each newline
pub newline-split : (bs : List ℕ) → has_newline bs ≡ true → bs ≡ first_line bs ++ 10 ∷ after_line bs
newline-split [] = λ h. absurd (false≢true h)
newline-split (b ∷ bs) =
    elim (eqb b 10) as (λ t. eqb b 10 ≡ t → (t || has_newline bs) ≡ true → b ∷ bs ≡ cond t [] (b ∷ first_line bs)
    ++ 10 ∷ cond t bs (after_line bs)) [
      | true ↦ λ e h. ap (λ (x : ℕ). x ∷ bs) (eqb-true b 10 e)
      | false ↦ λ e h. ap (λ (l : List ℕ). b ∷ l) (newline-split bs h)
    ] refl

pub first-clean : (bs : List ℕ) → has_newline (first_line bs) ≡ false
first-clean [] = refl
first-clean (b ∷ bs) =
    elim (eqb b 10) as (λ t. eqb b 10 ≡ t → has_newline (cond t [] (b ∷ first_line bs)) ≡ false) [
      | true ↦ λ e. refl
      | false ↦ λ e. rw e (first-clean bs)
    ] refl

pub after-le : (bs : List ℕ) → length (after_line bs) ≤ length bs
after-le [] = omega arith
after-le (b ∷ bs) =
    let ih = after-le bs in
    elim (eqb b 10) as (λ t. length (cond t bs (after_line bs)) ≤ suc (length bs))
    [ true ↦ omega arith | false ↦ omega arith ]

-- ---- lines that go on

pub has-append : (bs more : List ℕ) → has_newline (bs ++ more) ≡ (has_newline bs || has_newline more)
has-append [] more = refl
has-append (b ∷ bs) more = elim (eqb b 10) as (λ t. (t || has_newline (bs ++ more))
    ≡ ((t || has_newline bs) || has_newline more)) [ true ↦ refl | false ↦ has-append bs more ]

pub first-append : (bs more : List ℕ) → has_newline bs ≡ true → first_line (bs ++ more) ≡ first_line bs
first-append [] more = λ h. absurd (false≢true h)
first-append (b ∷ bs) more =
    elim (eqb b 10) as (λ t. (t || has_newline bs) ≡ true → cond t [] (b ∷ first_line (bs ++ more)) ≡ cond t []
    (b ∷ first_line bs)) [
      | true ↦ λ h. refl
      | false ↦ λ h. ap (λ (l : List ℕ). b ∷ l) (first-append bs more h)
    ]

pub after-append : (bs more : List ℕ) → has_newline bs ≡ true → after_line (bs ++ more) ≡ after_line bs ++ more
after-append [] more = λ h. absurd (false≢true h)
after-append (b ∷ bs) more =
    elim (eqb b 10) as (λ t. (t || has_newline bs) ≡ true → cond t (bs ++ more) (after_line (bs ++ more)) ≡ cond t bs
    (after_line bs) ++ more) [
      | true ↦ λ h. refl
      | false ↦ λ h. after-append bs more h
    ]

-- ---- a front without a newline

pub first-joined : (bs more : List ℕ) → has_newline bs ≡ false → first_line (bs ++ more) ≡ bs ++ first_line more
first-joined [] more = λ h. refl
first-joined (b ∷ bs) more =
    elim (eqb b 10) as (λ t. (t || has_newline bs) ≡ false → cond t []
    (b ∷ first_line (bs ++ more)) ≡ b ∷ (bs ++ first_line more)) [
      | true ↦ λ h. absurd (false≢true (sym h))
      | false ↦ λ h. ap (λ (l : List ℕ). b ∷ l) (first-joined bs more h)
    ]

pub after-joined : (bs more : List ℕ) → has_newline bs ≡ false → after_line (bs ++ more) ≡ after_line more
after-joined [] more = λ h. refl
after-joined (b ∷ bs) more =
    elim (eqb b 10) as (λ t. (t || has_newline bs) ≡ false → cond t (bs ++ more)
    (after_line (bs ++ more)) ≡ after_line more) [
      | true ↦ λ h. absurd (false≢true (sym h))
      | false ↦ λ h. after-joined bs more h
    ]

-- a front without a newline, and a newline
pub first-is : (bs rest : List ℕ) → has_newline bs ≡ false → first_line (bs ++ 10 ∷ rest) ≡ bs
first-is [] rest = λ h. refl
first-is (b ∷ bs) rest =
    elim (eqb b 10) as (λ t. (t || has_newline bs) ≡ false → cond t [] (b ∷ first_line (bs ++ 10 ∷ rest)) ≡ b ∷ bs) [
      | true ↦ λ h. absurd (false≢true (sym h))
      | false ↦ λ h. ap (λ (l : List ℕ). b ∷ l) (first-is bs rest h)
    ]

pub after-is : (bs rest : List ℕ) → has_newline bs ≡ false → after_line (bs ++ 10 ∷ rest) ≡ rest
after-is bs rest h = after-joined bs (10 ∷ rest) h

pub has-is : (bs rest : List ℕ) → has_newline (bs ++ 10 ∷ rest) ≡ true
has-is [] rest = refl
has-is (b ∷ bs) rest = elim (eqb b 10) as (λ t. (t || has_newline (bs ++ 10 ∷ rest)) ≡ true)
    [ true ↦ refl | false ↦ has-is bs rest ]

pub ruleset fewer = after-le
