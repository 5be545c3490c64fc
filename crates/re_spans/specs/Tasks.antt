-- What is left to be done for the groups of a match. No public contract needs this.
use Rattle.std.specs.Prelude.{◌≡◌, ◌≤◌, ◌+◌, ◌*◌, ℕ, List, [], ◌∷◌, length, Option, Some, slice_set}
use Rattle.am_text.specs.declared.range.Range.{Range}
use Rattle.re_syntax.specs.Groups.{Sets}
use Rattle.re_syntax.specs.Match.{Matches}
use Rattle.re_syntax.specs.Tree.{Tree, tree, nodes}
use Rattle.re_spans.specs.declared.filling.Task.{Task}
use Rattle.re_spans.specs.declared.filling.Task.TheVariants.{Part, Own}

-- a match inside a text
pub record IsMatchIn (r : Tree) (t : List ℕ) (s : Range) : Type 0 where
  pub order : s.q0 ≤ s.q1
  pub within : s.q1 ≤ length t
  pub matches : Matches r t s.q0 s.q1

-- the tasks make these groups of those
abbrev pub AreSet : List ℕ → List Task → List (Option Range) → List (Option Range) → Type 0
AreSet t [] old new = new ≡ old
AreSet t (Part r s ∷ rest) old new = (mid : List (Option Range)) × Sets (tree r.now) t s.q0 s.q1 old mid
    × AreSet t rest mid new
AreSet t (Own n s ∷ rest) old new = AreSet t rest (slice_set old n (Some s)) new

-- each part matches its range
abbrev pub AreMatches : List ℕ → List Task → Type 0
AreMatches t [] = Unit {0}
AreMatches t (Part r s ∷ rest) = IsMatchIn (tree r.now) t s × AreMatches t rest
AreMatches t (Own n s ∷ rest) = AreMatches t rest

-- how much is left: it falls with each task
abbrev pub weight : List Task → ℕ
weight [] = 0
weight (Part r s ∷ rest) = weight rest + 2 * nodes (tree r.now)
weight (Own n s ∷ rest) = weight rest + 1
