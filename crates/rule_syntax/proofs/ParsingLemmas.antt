-- Texts of rules, one line further.
use Rattle.std.proofs.Common.{◌≡◌, ℕ, ◌+◌, ◌<◌, List, [], ◌∷◌, ◌++◌, length, get_or, take, Option, Some, None, Err}
use Rattle.std.proofs.Common.{refl, ap, sym, ◌∙◌, arith}
use Rattle.std.proofs.lemmas.List.{take_more}
use Rattle.am_text.specs.Lines.{first_line, after_line, lines_of}
use Rattle.am_text.proofs.Escaped.{lines_of-split, after_line-shorter}
use Rattle.rule_syntax.specs.Parsing.{line_read, set_ended, end_told, then_lines, lines_read}
use Rattle.rule_syntax.specs.declared.fault.RuleFault.TheVariants.{Bad}
use Rattle.rule_syntax.specs.declared.parsing.State.{State}
use Rattle.rule_syntax.specs.declared.rule.Var.{Var}

pub vars_more : (vars : List Var) (i : ℕ) (v : Var) → i < length vars → take (i + 1) vars ≡ take i vars
    ++ get_or vars i v ∷ []
vars_more vars i v h = take_more vars i v h

pub ruleset vars = (vars_more)

lines-front : (n : ℕ) (s : State) (text : List ℕ) → 0 < length text
    → lines_read n s (lines_of text) ≡ then_lines (n + 1) (line_read s (first_line text))
    (λ t. lines_read (n + 1) t (lines_of (after_line text)))
unfolding lines_read
lines-front n s text h = ap (lines_read n s) (lines_of-split text h)

pub lines_more : (n : ℕ) (s t : State) (text : List ℕ) → 0 < length text → Some t ≡ line_read s (first_line text)
    → lines_read (n + 1) t (lines_of (after_line text)) ≡ lines_read n s (lines_of text)
lines_more n s t text h e = ap (λ (o : Option State). then_lines (n + 1) o
    (λ u. lines_read (n + 1) u (lines_of (after_line text)))) e ∙ sym (lines-front n s text h)

pub lines_stuck : (n : ℕ) (s : State) (text : List ℕ) → 0 < length text → None ≡ line_read s (first_line text)
    → lines_read n s (lines_of text) ≡ Err (Bad (n + 1))
lines_stuck n s text h e = lines-front n s text h ∙ sym (ap (λ (o : Option State). then_lines (n + 1) o
    (λ u. lines_read (n + 1) u (lines_of (after_line text)))) e)

pub lines_end : (n : ℕ) (s : State) (text : List ℕ) → length text ≡ 0 → lines_read n s (lines_of text) ≡ end_told n
    (set_ended s)
unfolding lines_read
lines_end n s [] h = refl
lines_end n s (c ∷ text) h = absurd (omega arith)

pub ruleset lines = (lines_more, lines_stuck, lines_end, after_line-shorter)
