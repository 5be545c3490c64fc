-- Lines that end by a newline, one line further.
use Rattle.std.proofs.Common.{◌≡◌, ℕ, suc, ◌+◌, ◌<◌, ◌≤◌, Bool, true, false, cond, eqb, ◌||◌, List, [], ◌∷◌, length}
use Rattle.std.proofs.Common.{refl, ap, ◌∙◌, arith}
use Rattle.am_text.specs.Lines.{first_line, after_line}
use Rattle.rule_syntax.specs.Cutting.{is_newline, has_newline, onto_line, ended_lines}

pub ended_some : (bytes : List ℕ) → has_newline bytes ≡ true → ended_lines bytes ≡ first_line bytes ∷ ended_lines
    (after_line bytes)
ended_some [] h = cc
ended_some (b ∷ bytes) h =
    elim (eqb b 10) as (λ t. (t || has_newline bytes) ≡ true → cond t ([] ∷ ended_lines bytes)
    (onto_line b (ended_lines bytes)) ≡ cond t [] (b ∷ first_line bytes) ∷ ended_lines
    (cond t bytes (after_line bytes))) [
      | true ↦ λ _. refl
      | false ↦ λ k. ap (onto_line b) (ended_some bytes k)
    ] h

pub ended_none : (bytes : List ℕ) → has_newline bytes ≡ false → ended_lines bytes ≡ []
ended_none [] h = refl
ended_none (b ∷ bytes) h =
    elim (eqb b 10) as (λ t. (t || has_newline bytes) ≡ false → cond t ([] ∷ ended_lines bytes)
    (onto_line b (ended_lines bytes)) ≡ []) [
      | true ↦ λ k. cc
      | false ↦ λ k. ap (onto_line b) (ended_none bytes k)
    ] h

pub parted : (bytes : List ℕ) → has_newline bytes ≡ true → length (first_line bytes) + 1 + length
    (after_line bytes) ≡ length bytes
parted [] h = cc
parted (b ∷ bytes) h =
    elim (eqb b 10) as (λ t. (t || has_newline bytes) ≡ true → length (cond t [] (b ∷ first_line bytes)) + 1 + length
    (cond t bytes (after_line bytes)) ≡ suc (length bytes)) [
      | true ↦ λ _. omega arith
      | false ↦ λ k. let ih = parted bytes k in omega arith
    ] h

pub ruleset lines = (ended_some, ended_none, parted)
