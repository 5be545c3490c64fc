-- Scans of texts that grow.
use Rattle.std.proofs.Common.{◌≡◌, ℕ, suc, ◌+◌, ◌-◌, ◌≤◌, Bool, true, false, cond, eqb, ◌||◌, List, [], ◌∷◌, ◌++◌}
use Rattle.std.proofs.Common.{length, drop, refl, ap, sym, subst, ◌∙◌, append_assoc, arith, length-append, length-drop}
use Rattle.std.proofs.lemmas.List.{append-nil, drop-append-le, drop-drop}
use Rattle.am_text.specs.Lines.{first_line, after_line}
use Rattle.rule_syntax.specs.Cutting.{is_newline, has_newline, onto_line, ended_lines, front, after_blank}
use Rattle.rule_syntax.specs.Cutting.{after_line as line_further, after_lines, behind, is_rule, sets_end, IsScanOf}
use Rattle.rule_syntax.specs.Words.{is_blank_line}
use Rattle.rule_syntax.proofs.Lines.{ended_none, parted}
use Rattle.rule_syntax.specs.declared.cutting.Scan.{Scan}

pub scan_front : (text : List ℕ) → IsScanOf front text
scan_front text = record { inside = omega arith; ends = omega arith; same = λ more. refl }

-- a text that grows was scanned as far as before
pub scan_more : (s : Scan) (text more : List ℕ) → IsScanOf s text → IsScanOf s (text ++ more)
scan_more s text more k = record {
  inside = omega (arith, k.inside, length-append text more);
  ends = k.ends;
  same = λ others.
      ap (λ (l : List ℕ). after_lines s (ended_lines (l ++ others))) (drop-append-le s.at text more k.inside)
      ∙ ap (λ (l : List ℕ). after_lines s (ended_lines l)) (append_assoc (drop s.at text) more others)
      ∙ k.same (more ++ others)
      ∙ ap (λ (l : List ℕ). after_lines front (ended_lines l)) (sym (append_assoc text more others));
}

-- the first line ends alike whatever follows
ended_more : (bytes more : List ℕ) → has_newline bytes ≡ true → ended_lines (bytes ++ more) ≡ first_line bytes
    ∷ ended_lines (after_line bytes ++ more)
ended_more [] more h = cc
ended_more (b ∷ bytes) more h =
    elim (eqb b 10) as (λ t. (t || has_newline bytes) ≡ true → cond t ([] ∷ ended_lines (bytes ++ more))
    (onto_line b (ended_lines (bytes ++ more))) ≡ cond t [] (b ∷ first_line bytes) ∷ ended_lines
    (cond t bytes (after_line bytes) ++ more)) [
      | true ↦ λ _. refl
      | false ↦ λ k. ap (onto_line b) (ended_more bytes more k)
    ] h

drop_line : (bytes : List ℕ) → has_newline bytes ≡ true → drop (length (first_line bytes) + 1) bytes ≡ after_line bytes
drop_line [] h = cc
drop_line (b ∷ bytes) h =
    elim (eqb b 10) as (λ t. (t || has_newline bytes) ≡ true → drop (length (cond t [] (b ∷ first_line bytes)) + 1)
    (b ∷ bytes) ≡ cond t bytes (after_line bytes)) [
      | true ↦ λ _. refl
      | false ↦ λ k.
          let one : suc (length (first_line bytes)) + 1 ≡ suc (length (first_line bytes) + 1) = omega arith in
          ap (λ (n : ℕ). drop n (b ∷ bytes)) one ∙ drop_line bytes k
    ] h

-- ---- one line further

after_at : (s : Scan) (line : List ℕ) → (line_further s line).at ≡ behind s.at line
after_at s line = elim (is_blank_line line) as (λ t. (cond t (after_blank s (behind s.at line))
    (record s { at = behind s.at line; begun = s.begun || is_rule line })).at ≡ behind s.at line)
    [ true ↦ refl | false ↦ refl ]

pub further_at : (s : Scan) (rest : List ℕ) → (line_further s (first_line rest)).at ≡ s.at + length
    (first_line rest) + 1
further_at s rest = after_at s (first_line rest)

after_ends : (s : Scan) (line : List ℕ) → s.end ≤ s.at → (line_further s line).end ≤ (line_further s line).at
after_ends s line h =
    elim (is_blank_line line) as (λ t. (cond t (after_blank s (behind s.at line))
    (record s { at = behind s.at line; begun = s.begun || is_rule line })).end
    ≤ (cond t (after_blank s (behind s.at line)) (record s {
      at = behind s.at line;
      begun = s.begun || is_rule line;
    })).at) [
      | true ↦ elim s.begun as (λ u. cond u (behind s.at line) s.end ≤ behind s.at line)
          [ true ↦ omega arith | false ↦ omega (arith, h) ]
      | false ↦ omega (arith, h)
    ]

-- what is left behind a line is what is left of the text there
pub drop_further : (s : Scan) (text rest : List ℕ) → rest ≡ drop s.at text
    → has_newline rest ≡ true → after_line rest ≡ drop (line_further s (first_line rest)).at text
drop_further s text rest e h =
    sym (drop_line rest h)
    ∙ ap (drop (length (first_line rest) + 1)) e
    ∙ drop-drop (length (first_line rest) + 1) s.at text
    ∙ ap (λ (n : ℕ). drop n text) (omega arith ∙ sym (after_at s (first_line rest)))

pub scan_further : (s : Scan) (text rest : List ℕ) → rest ≡ drop s.at text → has_newline rest ≡ true → IsScanOf s text
    → IsScanOf (line_further s (first_line rest)) text
scan_further s text rest e h k =
    let next = line_further s (first_line rest) in
    let left : length rest ≡ length text - s.at = ap (λ (l : List ℕ). length l) e ∙ length-drop s.at text in
    record {
      inside = omega (arith, after_at s (first_line rest), parted rest h, left, k.inside);
      ends = after_ends s (first_line rest) k.ends;
      same = λ more.
          ap (λ (l : List ℕ). after_lines next (ended_lines (l ++ more))) (sym (drop_further s text rest e h))
          ∙ ap (after_lines s) (sym (ended_more rest more h))
          ∙ ap (λ (l : List ℕ). after_lines s (ended_lines (l ++ more))) e
          ∙ k.same more;
    }

-- with no line left, all lines were scanned
pub scan_all : (s : Scan) (text rest : List ℕ) → rest ≡ drop s.at text → has_newline rest ≡ false → IsScanOf s text
    → s.end ≡ sets_end text
scan_all s text rest e h k =
    ap (λ (l : List (List ℕ)). (after_lines s l).end) (sym (ended_none rest h)
    ∙ ap ended_lines (sym (append-nil rest) ∙ ap (λ (l : List ℕ). l ++ []) e))
    ∙ ap (λ (z : Scan). z.end) (k.same [])
    ∙ ap (λ (l : List ℕ). (after_lines front (ended_lines l)).end) (append-nil text)

pub scan_within : (s : Scan) (text : List ℕ) → IsScanOf s text → s.end ≤ length text
scan_within s text k = omega (arith, k.inside, k.ends)

pub ruleset scans = (scan_front, scan_within)
