-- With which runes the matches of an expression may begin and end. These are no fewer than those with which they do.
use Rattle.std.specs.Prelude.{ℕ, ◌&&◌, ◌||◌, Bool, true, false, List, [], ◌∷◌, length, slice_index, if◌then◌else◌}
use Rattle.re_syntax.specs.Tree.{Tree, Letter, AnyLetter, OneOf, LineStart, LineEnd, Then, Either, Many, Several, Maybe}
use Rattle.re_syntax.specs.Tree.{Group}
use Rattle.re_edges.specs.Runes.{no_runes, has_rune, with_spans, with_every, with_class}
use Rattle.re_edges.specs.declared.edges.Edges.{Edges}
use Rattle.re_edges.specs.declared.steps.Side.{Side}
use Rattle.re_edges.specs.declared.steps.Side.TheVariants.{First, Last}
use Rattle.re_edges.specs.declared.runes.RuneSet.{RuneSet}

-- the null text may be a match, here or there
abbrev pub may_be_null : Tree → Bool
may_be_null (Letter c) = false
may_be_null AnyLetter = false
may_be_null (OneOf negated spans) = false
may_be_null LineStart = true
may_be_null LineEnd = true
may_be_null (Then a b) = may_be_null a && may_be_null b
may_be_null (Either a b) = may_be_null a || may_be_null b
may_be_null (Many a) = true
may_be_null (Several a) = may_be_null a
may_be_null (Maybe a) = true
may_be_null (Group n a) = may_be_null a

-- with the runes that may stand at a side of a match which isn't null. Behind a part that may be null stands the next
-- one.
abbrev pub with_runes : Side → Tree → RuneSet → RuneSet
with_runes side (Letter c) s = with_spans s ((c, c) ∷ [])
with_runes side AnyLetter s = with_every s
with_runes side (OneOf negated spans) s = with_class negated spans s
with_runes side LineStart s = s
with_runes side LineEnd s = s
with_runes First (Then a b) s = if may_be_null a then with_runes First b (with_runes First a s) else with_runes First a
    s
with_runes Last (Then a b) s = if may_be_null b then with_runes Last a (with_runes Last b s) else with_runes Last b s
with_runes side (Either a b) s = with_runes side b (with_runes side a s)
with_runes side (Many a) s = with_runes side a s
with_runes side (Several a) s = with_runes side a s
with_runes side (Maybe a) s = with_runes side a s
with_runes side (Group n a) s = with_runes side a s

-- the edges of the matches of an expression
abbrev pub edges_of : Tree → Edges
edges_of r = record { null = may_be_null r; first = with_runes First r no_runes; last = with_runes Last r no_runes }

-- a match with these edges may be the whole text, by its first and its last rune
abbrev pub may_be_whole : Edges → List ℕ → Bool
may_be_whole e [] = e.null
may_be_whole e (c ∷ cs) = has_rune e.first c && has_rune e.last (slice_index (c ∷ cs) (length cs))
