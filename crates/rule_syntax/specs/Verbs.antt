-- Objects and verbs of rules, and what their arguments have to be.
use Rattle.std.specs.Prelude.{ℕ, Bool, true, false, ◌&&◌, ◌||◌, ◌==◌, not, nat_le, List, [], ◌∷◌, length, Option, Some}
use Rattle.std.specs.Prelude.{None, if◌then◌else◌, codes}
use Rattle.std.specs.List.{list_all, list_any}
use Rattle.std.specs.Str.{bytes_eq}
use Rattle.am_text.specs.Ascii.{dot, minus}
use Rattle.rule_syntax.specs.Words.{is_name_rune}
use Rattle.rule_syntax.specs.Arguments.{is_literal, runes_of}
use Rattle.rule_syntax.specs.Expressions.{size_of, size_fit}
use Rattle.rule_syntax.specs.declared.fit.Fit.{Fit}
use Rattle.rule_syntax.specs.declared.fit.Fit.TheVariants.{Unfit, Fits}
use Rattle.rule_syntax.specs.declared.rule.Field.{Field}
use Rattle.rule_syntax.specs.declared.rule.Field.TheVariants.{Src, Dst, Wdir, Sort, Data}
use Rattle.rule_syntax.specs.declared.rule.Verb.{Verb}
use Rattle.rule_syntax.specs.declared.rule.Verb.TheVariants as verb
use Rattle.rule_syntax.specs.declared.rule.Piece.{Piece}
use Rattle.rule_syntax.specs.declared.rule.Rule.{Rule}

-- ---- the table of objects and verbs

module _ {A : Type 0} where
  abbrev pub found : List (List ℕ × A) → List ℕ → Option A
  found [] word = None
  found (r ∷ rs) word = if bytes_eq word r.0 then Some r.1 else found rs word

  abbrev pub or_else : Option A → Option A → Option A
  or_else None other = other
  or_else (Some a) other = Some a

unfoldable pub field_of : List ℕ → Option Field
field_of object = found ((codes "src", Src) ∷ (codes "dst", Dst) ∷ (codes "wdir", Wdir) ∷ (codes "type", Sort)
    ∷ (codes "data", Data) ∷ []) object

unfoldable pub text_verb : Field → List ℕ → Option Verb
text_verb f word = found ((codes "is", verb.Is f) ∷ (codes "matches", verb.Matches f) ∷ (codes "set", verb.Set f) ∷ [])
    word

unfoldable pub data_verb : List ℕ → Option Verb
data_verb word = found ((codes "isfile", verb.DataIsFile) ∷ (codes "isdir", verb.DataIsDir) ∷ []) word

abbrev pub field_verb : Option Field → List ℕ → Option Verb
field_verb None word = None
field_verb (Some Src) word = text_verb Src word
field_verb (Some Dst) word = text_verb Dst word
field_verb (Some Wdir) word = text_verb Wdir word
field_verb (Some Sort) word = text_verb Sort word
field_verb (Some Data) word = or_else (text_verb Data word) (data_verb word)

unfoldable pub arg_verb : List ℕ → Option Verb
arg_verb word = found ((codes "isfile", verb.ArgIsFile) ∷ (codes "isdir", verb.ArgIsDir) ∷ []) word

unfoldable pub attr_verb : List ℕ → Option Verb
attr_verb word = found ((codes "add", verb.Add) ∷ (codes "delete", verb.Delete) ∷ []) word

unfoldable pub plumb_verb : List ℕ → Option Verb
plumb_verb word = found ((codes "to", verb.To) ∷ (codes "start", verb.Start) ∷ (codes "client", verb.Client) ∷ []) word

unfoldable pub verb_of : List ℕ → List ℕ → Option Verb
verb_of object word =
    if bytes_eq object (codes "arg") then arg_verb word
    else (if bytes_eq object (codes "attr") then attr_verb word
    else (if bytes_eq object (codes "plumb") then plumb_verb word
    else field_verb (field_of object) word))

-- ---- arguments

-- whether the rule may stand without an argument
abbrev pub needs_none : Verb → Bool
needs_none (verb.Is f) = false
needs_none (verb.Matches f) = false
needs_none (verb.Set f) = false
needs_none verb.ArgIsFile = false
needs_none verb.ArgIsDir = false
needs_none verb.DataIsFile = true
needs_none verb.DataIsDir = true
needs_none verb.Add = false
needs_none verb.Delete = false
needs_none verb.To = false
needs_none verb.Start = false
needs_none verb.Client = false

abbrev pub is_port_rune : ℕ → Bool
is_port_rune c = is_name_rune c || c == dot || c == minus

abbrev pub are_port_runes : List ℕ → Bool
are_port_runes name = list_all is_port_rune name

abbrev pub is_taken : List ℕ → Bool
is_taken name = bytes_eq name (codes "send") || bytes_eq name (codes "rules")

-- 1 to 64 letters of ASCII, digits, `_`, `.` and `-`, and neither `send` nor `rules`
unfoldable pub is_port_name : List ℕ → Bool
is_port_name name = if nat_le 1 (length name) && nat_le (length name) 64 then are_port_runes name
    && not (is_taken name) else false

-- an expression with variables is read when matched
abbrev pub pattern_fit : List Piece → Fit
pattern_fit pieces = if is_literal pieces then size_fit (size_of (runes_of pieces)) else Fits

abbrev pub port_fit : List Piece → Fit
port_fit pieces = if is_literal pieces && is_port_name (runes_of pieces) then Fits else Unfit

-- how the argument fits the verb
abbrev pub argument_fit : Verb → List Piece → Fit
argument_fit (verb.Is f) pieces = Fits
argument_fit (verb.Matches f) pieces = pattern_fit pieces
argument_fit (verb.Set f) pieces = Fits
argument_fit verb.ArgIsFile pieces = Fits
argument_fit verb.ArgIsDir pieces = Fits
argument_fit verb.DataIsFile pieces = Fits
argument_fit verb.DataIsDir pieces = Fits
argument_fit verb.Add pieces = Fits
argument_fit verb.Delete pieces = Fits
argument_fit verb.To pieces = port_fit pieces
argument_fit verb.Start pieces = Fits
argument_fit verb.Client pieces = Fits

-- ---- what a set has once

abbrev pub is_to : Verb → Bool
is_to (verb.Is f) = false
is_to (verb.Matches f) = false
is_to (verb.Set f) = false
is_to verb.ArgIsFile = false
is_to verb.ArgIsDir = false
is_to verb.DataIsFile = false
is_to verb.DataIsDir = false
is_to verb.Add = false
is_to verb.Delete = false
is_to verb.To = true
is_to verb.Start = false
is_to verb.Client = false

abbrev pub is_request : Verb → Bool
is_request (verb.Is f) = false
is_request (verb.Matches f) = false
is_request (verb.Set f) = false
is_request verb.ArgIsFile = false
is_request verb.ArgIsDir = false
is_request verb.DataIsFile = false
is_request verb.DataIsDir = false
is_request verb.Add = false
is_request verb.Delete = false
is_request verb.To = false
is_request verb.Start = true
is_request verb.Client = true

abbrev pub any_to : List Rule → Bool
any_to rules = list_any (λ r. is_to r.verb) rules

abbrev pub any_request : List Rule → Bool
any_request rules = list_any (λ r. is_request r.verb) rules

-- a set has at most one port, and at most one command
abbrev pub is_repeated : Verb → List Rule → Bool
is_repeated v rules = (is_to v && any_to rules) || (is_request v && any_request rules)

abbrev pub plumbs : List Rule → Bool
plumbs rules = any_to rules || any_request rules
