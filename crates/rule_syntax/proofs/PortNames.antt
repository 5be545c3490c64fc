-- The names of the ports that rules name.
use Rattle.std.proofs.Common.{◌≡◌, ℕ, ◌+◌, ◌<◌, ◌==◌, Bool, true, false, cond, ◌&&◌, not, List, [], ◌∷◌, ◌++◌, length}
use Rattle.std.proofs.Common.{Option, Some, None, Result, Ok, Err, refl, sym, ap, subst, ◌∙◌, arith}
use Rattle.std.specs.Prelude.{IfOk, IfSome, nat_le}
use Rattle.std.specs.Char.{encode_utf8}
use Rattle.std.specs.List.{list_all, flat_map}
use Rattle.std.proofs.lemmas.Bool.{and_parts, and_from}
use Rattle.std.proofs.lemmas.Bool.Decides.{nat_tests}
use Rattle.std.proofs.lemmas.List.{append-nil}
use Rattle.std.proofs.lemmas.List.Folds.{list_all-append}
use Rattle.std.proofs.lemmas.Grind.{flat_map-append}
use Rattle.std.proofs.lemmas.Str.{encode_ascii}
use Rattle.std.proofs.Math.Utf8.{low_scalar}
use Rattle.am_text.specs.Lines.{lines_of}
use Rattle.am_text.specs.Utf8.{rune_bytes, utf8}
use Rattle.rule_syntax.specs.Arguments.{argument_of, is_literal, runes_of}
use Rattle.rule_syntax.specs.Words.{trimmed, is_blank_line, is_comment, name_part, word, after_word, after_gaps}
use Rattle.rule_syntax.specs.Verbs.{is_port_rune, are_port_runes, is_taken, is_port_name, verb_of, needs_none}
use Rattle.rule_syntax.specs.Verbs.{argument_fit, is_repeated, plumbs}
use Rattle.rule_syntax.specs.Parsing.{value_text, defined, rule, with_rule, rule_added, rule_judged, rule_told}
use Rattle.rule_syntax.specs.Parsing.{rule_from, definition_or_rule, set_ended, line_read, end_told, then_lines}
use Rattle.rule_syntax.specs.Parsing.{lines_read, begun}
use Rattle.rule_syntax.specs.declared.fault.RuleFault.{RuleFault}
use Rattle.rule_syntax.specs.declared.fault.RuleFault.TheVariants.{Nodes}
use Rattle.rule_syntax.specs.declared.fit.Fit.{Fit}
use Rattle.rule_syntax.specs.declared.fit.Fit.TheVariants as fit
use Rattle.rule_syntax.specs.declared.parsing.State.{State}
use Rattle.rule_syntax.specs.declared.rule.Piece.{Piece}
use Rattle.rule_syntax.specs.declared.rule.Rule.{Rule}
use Rattle.rule_syntax.specs.declared.rule.Var.{Var}
use Rattle.rule_syntax.specs.declared.rule.Verb.{Verb}
use Rattle.rule_syntax.specs.declared.rule.Verb.TheVariants as verb
use Rattle.rule_syntax.specs.Naming.{port_of, set_ports, ports_of}
use Rattle.rule_syntax.specs.NamingLaws.{NamesArePorts}

-- ---- such a name is its own bytes

port_ascii : (c : ℕ) → is_port_rune c ≡ true → c < 128
port_ascii c h = grind (arith, nat_tests)

rune_same : (c : ℕ) → c < 128 → rune_bytes c ≡ c ∷ []
unfolding encode_utf8
rune_same c h = ap (λ (b : Bool). cond b (encode_utf8 c) (encode_utf8 0xFFFD)) (low_scalar c (omega arith))
    ∙ encode_ascii c h

name_same : (name : List ℕ) → are_port_runes name ≡ true → utf8 name ≡ name
name_same [] h = refl
name_same (c ∷ cs) h =
    let p = and_parts (is_port_rune c) (are_port_runes cs) h in
    ap (λ (l : List ℕ). l ++ utf8 cs) (rune_same c (port_ascii c p.0)) ∙ ap (λ (l : List ℕ). c ∷ l) (name_same cs p.1)

made_of : (name : List ℕ) → is_port_name name ≡ true → are_port_runes name ≡ true
unfolding is_port_name
made_of name h = by (nat_le 1 (length name) && nat_le (length name) 64) h
  where
    by : (b : Bool) → cond b (are_port_runes name && not (is_taken name)) false ≡ true → are_port_runes name ≡ true
    by true k = (and_parts (are_port_runes name) (not (is_taken name)) k).0
    by false k = absurd cc

bytes_named : (name : List ℕ) → is_port_name name ≡ true → is_port_name (utf8 name) ≡ true
bytes_named name h = subst (λ (x : List ℕ). is_port_name x ≡ true) (sym (name_same name (made_of name h))) h

-- ---- a rule

abbrev accepts : Fit → Bool
accepts fit.Unfit = false
accepts fit.Fits = true
accepts fit.TooLarge = true

to_named : (pieces : List Piece) (literal named : Bool) → is_port_name (runes_of pieces) ≡ named →
    accepts (cond (literal && named) fit.Fits fit.Unfit) ≡ true
    → list_all is_port_name (utf8 (runes_of pieces) ∷ []) ≡ true
to_named pieces true true h k = and_from (is_port_name (utf8 (runes_of pieces))) true (bytes_named (runes_of pieces) h)
    refl
to_named pieces true false h k = absurd cc
to_named pieces false named h k = absurd cc

rule_named : (v : Verb) (pieces : List Piece) → accepts (argument_fit v pieces) ≡ true → list_all is_port_name
    (port_of (rule v pieces)) ≡ true
rule_named (verb.Is f) pieces h = refl
rule_named (verb.Matches f) pieces h = refl
rule_named (verb.Set f) pieces h = refl
rule_named verb.ArgIsFile pieces h = refl
rule_named verb.ArgIsDir pieces h = refl
rule_named verb.DataIsFile pieces h = refl
rule_named verb.DataIsDir pieces h = refl
rule_named verb.Add pieces h = refl
rule_named verb.Delete pieces h = refl
rule_named verb.To pieces h = to_named pieces (is_literal pieces) (is_port_name (runes_of pieces)) refl h
rule_named verb.Start pieces h = refl
rule_named verb.Client pieces h = refl

-- ---- what was read so far

last_named : {A : Type 0} (f : A → List (List ℕ)) (xs : List A) (x : A)
    → list_all is_port_name (flat_map f xs) ≡ true → list_all is_port_name (f x) ≡ true
    → list_all is_port_name (flat_map f (xs ++ x ∷ [])) ≡ true
last_named f xs x h k =
    ap (list_all is_port_name) (flat_map-append f xs (x ∷ []) ∙ ap (λ (l : List (List ℕ)). flat_map f xs ++ l)
    (append-nil (f x)))
    ∙ list_all-append is_port_name (flat_map f xs) (f x) ∙ and_from (list_all is_port_name (flat_map f xs))
    (list_all is_port_name (f x)) h k

record AreNamed (s : State) : Type 0 where
  sets : list_all is_port_name (ports_of s.sets) ≡ true
  rules : list_all is_port_name (set_ports s.rules) ≡ true

added_named : (s : State) (r : Rule) (large : Bool) → AreNamed s → list_all is_port_name (port_of r) ≡ true →
    IfSome (rule_added s r large) AreNamed
added_named s r large a n = by (is_repeated r.verb s.rules)
  where
    by : (b : Bool) → IfSome (cond b None (Some (with_rule s r large))) AreNamed
    by true = tt
    by false = record { sets = a.sets; rules = last_named port_of s.rules r a.rules n }

judged_named : (s : State) (v : Verb) (pieces : List Piece) (f : Fit) → argument_fit v pieces ≡ f → AreNamed s
    → IfSome (rule_judged s (rule v pieces) f) AreNamed
judged_named s v pieces fit.Unfit e a = tt
judged_named s v pieces fit.Fits e a = added_named s (rule v pieces) false a (rule_named v pieces (ap accepts e))
judged_named s v pieces fit.TooLarge e a = added_named s (rule v pieces) true a (rule_named v pieces (ap accepts e))

told_named : (s : State) (v : Verb) (o : Option (List Piece)) → AreNamed s → IfSome (rule_told s v o) AreNamed
told_named s v None a = tt
told_named s v (Some pieces) a = judged_named s v pieces (argument_fit v pieces) refl a

from_named : (s : State) (o : Option Verb) (raw : List ℕ) → AreNamed s → IfSome (rule_from s o raw) AreNamed
from_named s None raw a = tt
from_named s (Some v) raw a = by (length (trimmed raw) == 0 && not (needs_none v))
  where
    by : (b : Bool) → IfSome (cond b None (rule_told s v (argument_of s.vars raw))) AreNamed
    by true = tt
    by false = told_named s v (argument_of s.vars raw) a

defined_named : (s : State) (name : List ℕ) (o : Option (List Piece)) → AreNamed s → IfSome (defined s name o) AreNamed
defined_named s name None a = tt
defined_named s name (Some pieces) a = record { sets = a.sets; rules = a.rules }

either_named : (s : State) (line : List ℕ) (o : Option (List ℕ)) → AreNamed s
    → IfSome (definition_or_rule s line o) AreNamed
either_named s line None a = from_named s (verb_of (word line) (word (after_gaps (after_word line))))
    (after_gaps (after_word (after_gaps (after_word line)))) a
either_named s line (Some raw) a = defined_named s (name_part line) (argument_of s.vars raw) a

ended_named : (s : State) → AreNamed s → IfSome (set_ended s) AreNamed
ended_named s a = by (length s.rules == 0) (plumbs s.rules)
  where
    by : (none plumb : Bool) → IfSome (cond none (Some s) (cond plumb
        (Some (record s { sets = s.sets ++ s.rules ∷ []; rules = [] })) None)) AreNamed
    by true plumb = a
    by false true = record { sets = last_named set_ports s.sets s.rules a.sets a.rules; rules = refl }
    by false false = tt

line_named : (s : State) (line : List ℕ) → AreNamed s → IfSome (line_read s line) AreNamed
unfolding line_read
line_named s line a = by (is_blank_line line) (is_comment line)
  where
    by : (blank comment : Bool) → IfSome (cond blank (set_ended s)
        (cond comment (Some s) (definition_or_rule s line (value_text line)))) AreNamed
    by true comment = ended_named s a
    by false true = a
    by false false = either_named s line (value_text line) a

-- ---- all lines

abbrev ReadNamed : List (List Rule) × List Var → Type 0
ReadNamed read = list_all is_port_name (ports_of read.0) ≡ true

end_named : (n : ℕ) (o : Option State) → IfSome o AreNamed → IfOk (end_told n o) ReadNamed
end_named n None a = tt
end_named n (Some s) a = by s.large
  where
    by : (large : Bool) → IfOk (cond large (Err Nodes) (Ok (s.sets, s.vars))) ReadNamed
    by true = tt
    by false = a.sets

then_named : (n : ℕ) (o : Option State) (go : State → Result (List (List Rule) × List Var) RuleFault)
    → IfSome o AreNamed → ((t : State) → AreNamed t → IfOk (go t) ReadNamed)
    → IfOk (then_lines n o go) ReadNamed
then_named n None go a more = tt
then_named n (Some t) go a more = more t a

lines_named : (n : ℕ) (s : State) (lines : List (List ℕ)) → AreNamed s → IfOk (lines_read n s lines) ReadNamed
unfolding lines_read
lines_named n s [] a = end_named n (set_ended s) (ended_named s a)
lines_named n s (line ∷ lines) a = then_named (n + 1) (line_read s line) (λ t. lines_read (n + 1) t lines)
    (line_named s line a) (λ t b. lines_named (n + 1) t lines b)

pub names_named : NamesArePorts
names_named text known = lines_named 0 (begun known) (lines_of text) (record { sets = refl; rules = refl })
