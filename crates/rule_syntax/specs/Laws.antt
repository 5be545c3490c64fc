-- What arguments are read as, part by part.
use Rattle.std.specs.Prelude.{◌≡◌, ℕ, ◌-◌, Bool, true, false, ◌&&◌, ◌||◌, ◌==◌, not, List, [], ◌∷◌, ◌++◌, Option, Some}
use Rattle.std.specs.Prelude.{option_map, if◌then◌else◌}
use Rattle.std.specs.List.{list_all}
use Rattle.am_text.specs.Ascii as ascii
use Rattle.rule_syntax.specs.Arguments.{rune_pieces, named, text_pieces, argument_of}
use Rattle.rule_syntax.specs.Words.{is_digit, is_name_rune, trimmed}
use Rattle.rule_syntax.specs.declared.rule.Late.TheVariants as late
use Rattle.rule_syntax.specs.declared.rule.Piece.{Piece}
use Rattle.rule_syntax.specs.declared.rule.Piece.TheVariants as piece
use Rattle.rule_syntax.specs.declared.rule.Var.{Var}

-- a text with each quote twice
abbrev pub doubled : List ℕ → List ℕ
doubled [] = []
doubled (c ∷ cs) = if c == ascii.quote then c ∷ c ∷ doubled cs else c ∷ doubled cs

-- a text in quotes
abbrev pub quoted_text : List ℕ → List ℕ
quoted_text text = ascii.quote ∷ doubled text ++ ascii.quote ∷ []

-- neither a quote nor `$`
abbrev pub is_plain_rune : ℕ → Bool
is_plain_rune c = not (c == ascii.quote || c == ascii.dollar)

-- runes of names, the first of them no digit
abbrev pub is_name : List ℕ → Bool
is_name [] = false
is_name (c ∷ cs) = not (is_digit c) && list_all is_name_rune (c ∷ cs)

abbrev pub begins : (ℕ → Bool) → List ℕ → Bool
begins test [] = false
begins test (c ∷ cs) = test c

-- these pieces, and then those
abbrev pub and_then : List Piece → Option (List Piece) → Option (List Piece)
and_then pieces more = option_map (λ those. pieces ++ those) more

-- A text in quotes is its runes, each doubled quote one; runes other than quotes and `$` stand for themselves; `$` with
-- the longest name behind it is that variable, with a digit a group of the match, and else a rune. Each part is read
-- alike whatever follows it.
pub record ReadsParts : Type 0 where
  pub nothing : (vars : List Var) → text_pieces vars [] ≡ Some []
  pub quoted : (vars : List Var) (text rest : List ℕ) → begins (λ c. c == ascii.quote) rest ≡ false →
      text_pieces vars (quoted_text text ++ rest) ≡ and_then (rune_pieces text) (text_pieces vars rest)
  pub plain : (vars : List Var) (text rest : List ℕ) → list_all is_plain_rune text ≡ true →
      text_pieces vars (text ++ rest) ≡ and_then (rune_pieces text) (text_pieces vars rest)
  pub name : (vars : List Var) (name rest : List ℕ) → is_name name ≡ true → begins is_name_rune rest ≡ false →
      text_pieces vars (ascii.dollar ∷ name ++ rest) ≡ and_then (named vars name) (text_pieces vars rest)
  pub group : (vars : List Var) (digit : ℕ) (rest : List ℕ) → is_digit digit ≡ true →
      text_pieces vars (ascii.dollar ∷ digit ∷ rest) ≡ and_then (piece.Late (late.Group (digit - ascii.digit_0)) ∷ [])
      (text_pieces vars rest)
  pub dollar : (vars : List Var) (rest : List ℕ) → begins is_name_rune rest ≡ false →
      text_pieces vars (ascii.dollar ∷ rest) ≡ and_then (piece.Rune ascii.dollar ∷ []) (text_pieces vars rest)

-- An argument that is a text in quotes is just that text, and one without quotes, `$` and blanks at its end is itself.
pub record ReadsTexts : Type 0 where
  pub quoted : (vars : List Var) (text : List ℕ) → argument_of vars (quoted_text text) ≡ Some (rune_pieces text)
  pub plain : (vars : List Var) (text : List ℕ) → list_all is_plain_rune text ≡ true → trimmed text ≡ text →
      argument_of vars text ≡ Some (rune_pieces text)
