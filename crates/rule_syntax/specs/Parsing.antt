-- Texts of rules, line by line.
use Rattle.std.specs.Prelude.{◌≡◌, ℕ, ◌+◌, Bool, true, false, ◌&&◌, ◌||◌, ◌==◌, not, List, [], ◌∷◌, ◌++◌, length}
use Rattle.std.specs.Prelude.{Option, Some, None, Result, Ok, Err, if◌then◌else◌}
use Rattle.am_text.specs.Ascii.{equals}
use Rattle.am_text.specs.Lines.{lines_of}
use Rattle.rule_syntax.specs.Words.{word, after_word, after_gaps, after_blanks, trimmed, name_part, after_name}
use Rattle.rule_syntax.specs.Words.{is_blank_line, is_comment, begins_with_digit}
use Rattle.rule_syntax.specs.Arguments.{argument_of, runes_of}
use Rattle.rule_syntax.specs.Verbs.{verb_of, needs_none, argument_fit, is_repeated, plumbs}
use Rattle.rule_syntax.specs.declared.fault.RuleFault.{RuleFault}
use Rattle.rule_syntax.specs.declared.fault.RuleFault.TheVariants.{Bad, Nodes, NoMemory}
use Rattle.rule_syntax.specs.declared.fit.Fit.{Fit}
use Rattle.rule_syntax.specs.declared.fit.Fit.TheVariants as fit
use Rattle.rule_syntax.specs.declared.parsing.State.{State}
use Rattle.rule_syntax.specs.declared.rule.Piece.{Piece}
use Rattle.rule_syntax.specs.declared.rule.Rule.{Rule}
use Rattle.rule_syntax.specs.declared.rule.Var.{Var}
use Rattle.rule_syntax.specs.declared.rule.Verb.{Verb}

-- ---- definitions

-- the text after a `=` and the blanks behind it
abbrev pub after_equals : List ℕ → Option (List ℕ)
after_equals [] = None
after_equals (c ∷ cs) = if c == equals then Some (after_blanks cs) else None

-- the text of the value, where the line defines a variable: a name that begins with no digit, and `=`, with blanks
-- round it allowed
abbrev pub value_text : List ℕ → Option (List ℕ)
value_text line = if length (name_part line) == 0 || begins_with_digit line then None else after_equals
    (after_blanks (after_name line))

abbrev pub var : List ℕ → List ℕ → Var
var name value = record { name = name; value = value }

-- the value is read like an argument, and variables that are replaced when matched are empty in it
abbrev pub defined : State → List ℕ → Option (List Piece) → Option State
defined s name None = None
defined s name (Some pieces) = Some (record s { vars = s.vars ++ var name (runes_of pieces) ∷ [] })

-- ---- rules

abbrev pub rule : Verb → List Piece → Rule
rule v pieces = record { verb = v; argument = pieces }

abbrev pub with_rule : State → Rule → Bool → State
with_rule s r large = record s { rules = s.rules ++ r ∷ []; large = s.large || large }

-- a set has some rules once
abbrev pub rule_added : State → Rule → Bool → Option State
rule_added s r large = if is_repeated r.verb s.rules then None else Some (with_rule s r large)

abbrev pub rule_judged : State → Rule → Fit → Option State
rule_judged s r fit.Unfit = None
rule_judged s r fit.Fits = rule_added s r false
rule_judged s r fit.TooLarge = rule_added s r true

abbrev pub rule_told : State → Verb → Option (List Piece) → Option State
rule_told s v None = None
rule_told s v (Some pieces) = rule_judged s (rule v pieces) (argument_fit v pieces)

-- a rule with this text for its argument
abbrev pub rule_from : State → Option Verb → List ℕ → Option State
rule_from s None raw = None
rule_from s (Some v) raw = if length (trimmed raw) == 0 && not (needs_none v) then None else rule_told s v
    (argument_of s.vars raw)

-- object, verb and argument, with blanks or tabs between
abbrev pub rule_line : State → List ℕ → Option State
rule_line s line =
    let rest = after_gaps (after_word line) in
    rule_from s (verb_of (word line) (word rest)) (after_gaps (after_word rest))

abbrev pub definition_or_rule : State → List ℕ → Option (List ℕ) → Option State
definition_or_rule s line None = rule_line s line
definition_or_rule s line (Some raw) = defined s (name_part line) (argument_of s.vars raw)

-- ---- lines

-- the set ends, if it has a rule; it has to have one that plumbs
abbrev pub set_ended : State → Option State
set_ended s = if length s.rules == 0 then Some s
    else (if plumbs s.rules then Some (record s { sets = s.sets ++ s.rules ∷ []; rules = [] }) else None)

unfoldable pub line_read : State → List ℕ → Option State
line_read s line = if is_blank_line line then set_ended s
    else (if is_comment line then Some s else definition_or_rule s line (value_text line))

abbrev pub told : State → Result (List (List Rule) × List Var) RuleFault
told s = if s.large then Err Nodes else Ok (s.sets, s.vars)

-- the end of the text, after so many lines
abbrev pub end_told : ℕ → Option State → Result (List (List Rule) × List Var) RuleFault
end_told n None = Err (Bad n)
end_told n (Some s) = told s

abbrev pub then_lines : ℕ → Option State → (State → Result (List (List Rule) × List Var) RuleFault)
    → Result (List (List Rule) × List Var) RuleFault
then_lines n None go = Err (Bad n)
then_lines n (Some s) go = go s

-- the lines that follow n lines
unfoldable pub lines_read : ℕ → State → List (List ℕ) → Result (List (List Rule) × List Var) RuleFault
lines_read n s [] = end_told n (set_ended s)
lines_read n s (line ∷ lines) = then_lines (n + 1) (line_read s line) (λ t. lines_read (n + 1) t lines)

abbrev pub begun : List Var → State
begun known = record { sets = []; rules = []; vars = known; large = false }

-- the sets of a text and the variables after it, with those that were known, or the first line at fault
abbrev pub rules_of : List ℕ → List Var → Result (List (List Rule) × List Var) RuleFault
rules_of text known = lines_read 0 (begun known) (lines_of text)

-- want of memory explains nothing
abbrev pub Refuses : RuleFault → Result (List (List Rule) × List Var) RuleFault → Type 0
Refuses (Bad n) read = read ≡ Err (Bad n)
Refuses Nodes read = read ≡ Err Nodes
Refuses NoMemory read = Unit {0}
