-- What `s` puts in the place of a match.
use Rattle.std.specs.Prelude.{◌==◌, ◌&&◌, ◌||◌, ◌-◌, ℕ, Bool, true, false, List, [], ◌∷◌, ◌++◌, slice_range}
use Rattle.std.specs.Prelude.{slice_index_or, nat_le, Option, Some, None, if◌then◌else◌}
use Rattle.am_text.specs.Ascii.{newline, ampersand, digit_0, digit_9, backslash, letter_n}
use Rattle.am_text.specs.declared.range.Range.{Range}
use Rattle.re_syntax.specs.Tree.{Tree}
use Rattle.re_spans.specs.Groups.{groups_of}

-- the text of a range, none where there is no range
abbrev pub text_of : List ℕ → Option Range → List ℕ
text_of t None = []
text_of t (Some r) = slice_range t r.q0 r.q1

-- the text of a group, none where it took no part
abbrev pub group_text : List ℕ → List (Option Range) → ℕ → List ℕ
group_text t groups n = text_of t (slice_index_or groups n None)

-- `1`
abbrev pub digit_1 : ℕ
digit_1 = 49

-- the rune is one of `1` to `9`
abbrev pub is_group : ℕ → Bool
is_group c = nat_le digit_1 c && nat_le c digit_9

-- what a rune stands for where no backslash is before it: `&` for the match
abbrev pub plain : List ℕ → ℕ → List ℕ
plain whole c = if c == ampersand then whole else c ∷ []

-- and behind a backslash: `1` to `9` for the groups, `n` for a newline
abbrev pub escaped : (ℕ → List ℕ) → ℕ → List ℕ
escaped group c = if is_group c then group (c - digit_0) else ((if c == letter_n then newline else c) ∷ [])

-- the text that is written so, behind a backslash or not; a backslash at the end stands for itself
abbrev pub expand : List ℕ → (ℕ → List ℕ) → Bool → List ℕ → List ℕ
expand whole group false [] = []
expand whole group true [] = backslash ∷ []
expand whole group false (c ∷ cs) =
    if c == backslash then expand whole group true cs else plain whole c ++ expand whole group false cs
expand whole group true (c ∷ cs) = escaped group c ++ expand whole group false cs

-- some group is named
abbrev pub names_group : Bool → List ℕ → Bool
names_group behind [] = false
names_group false (c ∷ cs) = names_group (c == backslash) cs
names_group true (c ∷ cs) = is_group c || names_group false cs

-- what takes the place of a match
unfoldable pub substitute : Tree → List ℕ → List ℕ → Range → List ℕ
substitute r t with span = expand (slice_range t span.q0 span.q1) (group_text t (groups_of r t span)) false with
