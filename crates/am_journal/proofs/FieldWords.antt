-- Fields of a line: a decimal is cut off at the first blank, and read again.
use Rattle.std.proofs.Common.{◌≡◌, ℕ, ◌+◌, ◌%◌, ◌^◌, ◌<◌, true, false, cond, eqb, ltb, List, [], ◌∷◌, ◌++◌, length}
use Rattle.std.proofs.Common.{Option, Some, None, refl, ap, sym, subst, ◌∙◌, arith}
use Rattle.std.specs.Fmt.{decimal}
use Rattle.std.proofs.lemmas.Fmt.{decimal_by_steps}
use Rattle.std.proofs.lemmas.Bool.{lt-ltb, ltb-true, eqb-true}
use Rattle.am_text.specs.Number.{number_of}
use Rattle.am_text.proofs.Decimals.{number_is, number_of-decimal}
use Rattle.am_text.specs.Front.{after_front}
use Rattle.am_text.specs.Lines.{first_field, after_field}
use Rattle.am_journal.specs.Line.{conn_from, conn_at}

-- ---- fields

-- none is a blank
abbrev pub AreVisible : List ℕ → Type 0
AreVisible [] = Unit {0}
AreVisible (b ∷ bs) = (32 < b) × AreVisible bs

visible-more : (bs : List ℕ) (b : ℕ) → AreVisible bs → 32 < b → AreVisible (bs ++ b ∷ [])
visible-more [] b h k = (k, tt)
visible-more (a ∷ bs) b h k = (h.0, visible-more bs b h.1 k)

pub decimal-visible : (n : ℕ) → n < 2 ^ 64 → AreVisible (decimal n)
decimal-visible n fits = decimal_by_steps (λ n ds. AreVisible ds) (λ n lt. (omega arith, tt))
    (λ n ds ge before. visible-more ds (48 + n % 10) before (omega arith)) n fits

not_blank : (b : ℕ) → 32 < b → eqb b 32 ≡ false
not_blank b h = elim (eqb b 32) as (λ t. eqb b 32 ≡ t → t ≡ false)
    [ true ↦ λ e. absurd (omega (arith, eqb-true b 32 e)) | false ↦ λ e. refl ] refl

pub first-is : (bs rest : List ℕ) → AreVisible bs → first_field (bs ++ 32 ∷ rest) ≡ bs
first-is [] rest h = refl
first-is (b ∷ bs) rest h = rw (not_blank b h.0, first-is bs rest h.1) refl

pub after-is : (bs rest : List ℕ) → AreVisible bs → after_field (bs ++ 32 ∷ rest) ≡ rest
after-is [] rest h = refl
after-is (b ∷ bs) rest h = rw (not_blank b h.0) (after-is bs rest h.1)

-- where bytes stand after the first blank, there is one
pub field-split : (bs : List ℕ) → 0 < length (after_field bs) → bs ≡ first_field bs ++ 32 ∷ after_field bs
field-split [] = λ h. absurd (omega arith)
field-split (b ∷ bs) =
    elim (eqb b 32) as (λ t. eqb b 32 ≡ t → 0 < length (cond t bs (after_field bs))
    → b ∷ bs ≡ cond t [] (b ∷ first_field bs) ++ 32 ∷ cond t bs (after_field bs)) [
      | true ↦ λ e h. ap (λ (x : ℕ). x ∷ bs) (eqb-true b 32 e)
      | false ↦ λ e h. ap (λ (l : List ℕ). b ∷ l) (field-split bs h)
    ] refl

pub split-is : (bs front rest : List ℕ) → first_field bs ≡ front → after_field bs ≡ rest → 0 < length rest
    → bs ≡ front ++ 32 ∷ rest
split-is bs front rest f a h =
    field-split bs (subst (λ (l : List ℕ). 0 < length l) (sym a) h) ∙ ap (λ (l : List ℕ). l ++ 32 ∷ after_field bs) f
    ∙ ap (λ (l : List ℕ). front ++ 32 ∷ l) a

-- ---- connections

pub conn-again : (c : ℕ) → c < 64 → conn_at (decimal c) ≡ Some c
conn-again c h = ap conn_from (number_of-decimal c (omega arith)) ∙ rw (lt-ltb c 64 h) refl

conn_some : (o : Option ℕ) (c : ℕ) → conn_from o ≡ Some c → (c < 64) × (o ≡ Some c)
conn_some None c = λ e. absurd cc
conn_some (Some n) c =
    elim (ltb n 64) as (λ t. ltb n 64 ≡ t → cond t (Some n) None ≡ Some c → (c < 64) × (Some n ≡ Some c)) [
      | true ↦ λ t e. let same : n ≡ c = cc in (omega (arith, same, ltb-true n 64 t), e)
      | false ↦ λ t e. absurd cc
    ] refl

pub conn-is : (bs : List ℕ) (c : ℕ) → conn_at bs ≡ Some c → (c < 64) × (bs ≡ decimal c)
conn-is bs c e = let s = conn_some (number_of bs) c e in (s.0, (number_is bs c s.1).1)

-- ---- fronts

pub front-is : (front bs rest : List ℕ) → after_front front bs ≡ Some rest → bs ≡ front ++ rest
front-is [] bs rest = λ e. let same : bs ≡ rest = cc in same
front-is (f ∷ fs) [] rest = λ e. absurd cc
front-is (f ∷ fs) (b ∷ bs) rest =
    elim (eqb b f) as (λ t. eqb b f ≡ t → cond t (after_front fs bs) None ≡ Some rest → b ∷ bs ≡ f ∷ (fs ++ rest)) [
      | true ↦ λ t e. ap (λ (x : ℕ). x ∷ bs) (eqb-true b f t) ∙ ap (λ (l : List ℕ). f ∷ l) (front-is fs bs rest e)
      | false ↦ λ t e. absurd cc
    ] refl
