-- Patterns: the expression that a text is, the match at a click, and its groups.
use Rattle.std.specs.Prelude.{◌≡◌, ◌≤◌, ℕ, Bool, List, length, Option, Some, None, IfSome, nat_le, if◌then◌else◌}
use Rattle.am_text.specs.declared.range.Range.{Range}
use Rattle.re_syntax.specs.Build.{level_tree}
use Rattle.re_syntax.specs.Match.{Matches}
use Rattle.re_syntax.specs.Read.{Reading, begin, reads, is_complete}
use Rattle.re_syntax.specs.Tree.{Tree, tree, nodes}
use Rattle.re_syntax.specs.declared.re.Re.{Re}
use Rattle.re_spans.specs.Groups.{groups_of}
use Rattle.re_spans.specs.Over.{match_over}
use Rattle.re_spans.specs.Search.{matches}
use Rattle.plumb_rules.specs.Matches.{Match}

abbrev pub tree_read : Option Reading → Option Tree
tree_read None = None
tree_read (Some m) = if is_complete m.scanner then level_tree m.stack.top else None

-- the tree of the expression that a text is, if it is one
unfoldable pub expression_of : List ℕ → Option Tree
expression_of text = tree_read (reads (Some (begin None)) text)

abbrev pub small_one : Option Tree → Option Tree
small_one None = None
small_one (Some r) = if nat_le (nodes r) 2048 then Some r else None

-- the pattern that a text is: an expression of at most 2,048 nodes
abbrev pub pattern_of : List ℕ → Option Tree
pattern_of text = small_one (expression_of text)

abbrev pub tree_in : Option Re → Option Tree
tree_in None = None
tree_in (Some re) = Some (tree re)

-- a match of the whole text
abbrev pub is_whole : Tree → List ℕ → Bool
is_whole r t = matches r t 0 (length t)

-- the match at a click on the place n: not null, from at most n up to at least n; of these the one that begins first,
-- and of those that begin there the longest. There is none past the text's end.
abbrev pub click_span : Tree → List ℕ → ℕ → Option Range
click_span r t n = if nat_le n (length t) then match_over r t n else None

-- a match of a text, with its groups
abbrev pub matched : Tree → List ℕ → Range → Match
matched r t found = record { text = t; range = found; groups = groups_of r t found }

-- a match inside a text
pub record IsMatchIn (r : Tree) (t : List ℕ) (s : Range) : Type 0 where
  pub order : s.q0 ≤ s.q1
  pub within : s.q1 ≤ length t
  pub matches : Matches r t s.q0 s.q1

-- the groups of a match inside a text are known, or nothing is
pub record AreKnown (r : Tree) (t : List ℕ) (s : Range) (known : Option (List (Option Range))) : Type 0 where
  pub inside : IsMatchIn r t s
  pub groups : IfSome known (λ all. all ≡ groups_of r t s)
