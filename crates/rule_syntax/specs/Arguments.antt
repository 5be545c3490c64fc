-- Arguments: quotes, and variables.
use Rattle.std.specs.Prelude.{ℕ, ◌-◌, Bool, true, false, ◌==◌, List, [], ◌∷◌, ◌++◌, map, Option, Some, None}
use Rattle.std.specs.Prelude.{if◌then◌else◌, codes}
use Rattle.std.specs.List.{list_all}
use Rattle.std.specs.Str.{bytes_eq}
use Rattle.am_text.specs.Ascii as ascii
use Rattle.rule_syntax.specs.Words.{is_digit, is_name_rune, trimmed}
use Rattle.rule_syntax.specs.declared.rule.Late.{Late}
use Rattle.rule_syntax.specs.declared.rule.Late.TheVariants as late
use Rattle.rule_syntax.specs.declared.rule.Piece.{Piece}
use Rattle.rule_syntax.specs.declared.rule.Piece.TheVariants as piece
use Rattle.rule_syntax.specs.declared.rule.Var.{Var}
use Rattle.rule_syntax.specs.declared.argument.Mode.{Mode}
use Rattle.rule_syntax.specs.declared.argument.Mode.TheVariants.{Plain, Quoted, Closed, Dollar, Name}
use Rattle.rule_syntax.specs.declared.argument.Reader.{Reader}

-- ---- variables

-- the value of a variable, where one was found so far
abbrev pub value_from : List ℕ → List Var → List ℕ → List ℕ
value_from found [] name = found
value_from found (v ∷ vars) name = value_from (if bytes_eq v.name name then v.value else found) vars name

-- the value of the last definition; an unknown variable is empty
abbrev pub value_in : List Var → List ℕ → List ℕ
value_in vars name = value_from [] vars name

abbrev pub looked_up : List (List ℕ × Late) → List ℕ → Option Late
looked_up [] name = None
looked_up (r ∷ rs) name = if bytes_eq name r.0 then Some r.1 else looked_up rs name

-- the variables that are replaced when matched
unfoldable pub late_of : List ℕ → Option Late
late_of name = looked_up (
    (codes "attr", late.Attr) ∷ (codes "data", late.Data) ∷ (codes "dir", late.Dir) ∷ (codes "dst", late.Dst)
    ∷ (codes "file", late.File)
    ∷ (codes "ndata", late.Ndata) ∷ (codes "src", late.Src) ∷ (codes "type", late.Sort) ∷ (codes "wdir", late.Wdir) ∷ []
    ) name

abbrev pub rune_pieces : List ℕ → List Piece
rune_pieces text = map piece.Rune text

abbrev pub late_or : Option Late → List ℕ → List Piece
late_or None text = rune_pieces text
late_or (Some v) text = piece.Late v ∷ []

-- what stands for a variable
abbrev pub named : List Var → List ℕ → List Piece
named vars name = late_or (late_of name) (value_in vars name)

-- ---- one rune

abbrev pub reader : List Piece → Mode → Reader
reader pieces mode = record { pieces = pieces; mode = mode }

abbrev pub with_rune : List Piece → ℕ → List Piece
with_rune pieces c = pieces ++ piece.Rune c ∷ []

abbrev pub plain : List Piece → ℕ → Reader
plain pieces c = if c == ascii.quote then reader pieces Quoted else
    (if c == ascii.dollar then reader pieces Dollar else reader (with_rune pieces c) Plain)

abbrev pub quoted : List Piece → ℕ → Reader
quoted pieces c = if c == ascii.quote then reader pieces Closed else reader (with_rune pieces c) Quoted

-- after a quote in quotes: another one makes it a quote of the text
abbrev pub closed : List Piece → ℕ → Reader
closed pieces c = if c == ascii.quote then reader (with_rune pieces c) Quoted else plain pieces c

-- after `$`: a digit, a name, or else the `$` stands
abbrev pub dollar : List Piece → ℕ → Reader
dollar pieces c =
    if is_digit c then reader (pieces ++ piece.Late (late.Group (c - ascii.digit_0)) ∷ []) Plain
    else (if is_name_rune c then reader pieces (Name (c ∷ [])) else plain (with_rune pieces ascii.dollar) c)

abbrev pub naming : List Var → List Piece → List ℕ → ℕ → Reader
naming vars pieces name c = if is_name_rune c then reader pieces (Name (name ++ c ∷ [])) else plain
    (pieces ++ named vars name) c

abbrev pub step_at : Mode → List Var → List Piece → ℕ → Reader
step_at Plain vars pieces c = plain pieces c
step_at Quoted vars pieces c = quoted pieces c
step_at Closed vars pieces c = closed pieces c
step_at Dollar vars pieces c = dollar pieces c
step_at (Name name) vars pieces c = naming vars pieces name c

abbrev pub step : List Var → Reader → ℕ → Reader
step vars r c = step_at r.mode vars r.pieces c

-- ---- a whole argument

abbrev pub reads : List Var → Reader → List ℕ → Reader
reads vars r [] = r
reads vars r (c ∷ cs) = reads vars (step vars r c) cs

-- there is none where a quote is open
abbrev pub ended_at : Mode → List Var → List Piece → Option (List Piece)
ended_at Plain vars pieces = Some pieces
ended_at Quoted vars pieces = None
ended_at Closed vars pieces = Some pieces
ended_at Dollar vars pieces = Some (with_rune pieces ascii.dollar)
ended_at (Name name) vars pieces = Some (pieces ++ named vars name)

abbrev pub ended : List Var → Reader → Option (List Piece)
ended vars r = ended_at r.mode vars r.pieces

-- what a text is read as
abbrev pub text_pieces : List Var → List ℕ → Option (List Piece)
text_pieces vars text = ended vars (reads vars (reader [] Plain) text)

-- the argument of a text; blanks at its end are dropped
abbrev pub argument_of : List Var → List ℕ → Option (List Piece)
argument_of vars raw = text_pieces vars (trimmed raw)

-- ---- texts

abbrev pub is_rune : Piece → Bool
is_rune (piece.Rune c) = true
is_rune (piece.Late v) = false

-- without a variable that is replaced when matched
abbrev pub is_literal : List Piece → Bool
is_literal pieces = list_all is_rune pieces

abbrev pub onto : Piece → List ℕ → List ℕ
onto (piece.Rune c) text = c ∷ text
onto (piece.Late v) text = text

-- the runes alone
abbrev pub runes_of : List Piece → List ℕ
runes_of [] = []
runes_of (p ∷ pieces) = onto p (runes_of pieces)
