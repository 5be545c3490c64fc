-- What is left to be done of a tree whose runes are put. No public contract needs this.
use Rattle.std.specs.Prelude.{ℕ, ◌+◌, ◌*◌, ◌||◌, Bool, true, List, [], ◌∷◌, if◌then◌else◌}
use Rattle.re_syntax.specs.Tree.{tree, nodes}
use Rattle.re_edges.specs.Edges.{may_be_null, with_runes}
use Rattle.re_edges.specs.declared.runes.RuneSet.{RuneSet}
use Rattle.re_edges.specs.declared.steps.Side.{Side}
use Rattle.re_edges.specs.declared.steps.Step.{Step}
use Rattle.re_edges.specs.declared.steps.Step.TheVariants.{Part, Behind, Beside, Or, Optional}

-- the runes that were put, and whether the last part may be null
pub record Put : Type 0 where
  pub runes : RuneSet
  pub null : Bool

-- what the steps make of a set, where the last part may be null or not
abbrev pub put_by : Side → List Step → RuneSet → Bool → Put
put_by side [] s null = record { runes = s; null = null }
put_by side (Part r ∷ rest) s null = put_by side rest (with_runes side (tree r.now) s) (may_be_null (tree r.now))
put_by side (Behind r ∷ rest) s null =
    if null then put_by side rest (with_runes side (tree r.now) s) (may_be_null (tree r.now)) else put_by side rest s
    null
put_by side (Beside r ∷ rest) s null = put_by side rest (with_runes side (tree r.now) s)
    (null || may_be_null (tree r.now))
put_by side (Or other ∷ rest) s null = put_by side rest s (other || null)
put_by side (Optional ∷ rest) s null = put_by side rest s true

-- how much is left: it falls with each step
abbrev pub weight : List Step → ℕ
weight [] = 0
weight (Part r ∷ rest) = weight rest + 3 * nodes (tree r.now)
weight (Behind r ∷ rest) = weight rest + (3 * nodes (tree r.now) + 1)
weight (Beside r ∷ rest) = weight rest + (3 * nodes (tree r.now) + 2)
weight (Or other ∷ rest) = weight rest + 1
weight (Optional ∷ rest) = weight rest + 1
