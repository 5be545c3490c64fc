-- What a search finds.
use Rattle.std.specs.Prelude.{◌≡◌, ℕ, List, Option, IfSome, IfNone}
use Rattle.am_text.specs.declared.range.Range.{Range}
use Rattle.re_syntax.specs.Tree.{Tree}
use Rattle.re_syntax.specs.Match.{IsFirst, IsLast, HasNoSpan}
use Rattle.re_spans.specs.Search.{first_span, last_span, IsBetween}

-- the match that begins first, and of those the longest
pub record FindsFirst (r : Tree) (t : List ℕ) (from end : ℕ) (no_null : Option ℕ) (answer : Option Range) : Type 0 where
  pub found : IfSome answer (IsFirst r t from end no_null)
  pub none : IfNone answer (HasNoSpan r t from end no_null)
  pub value : answer ≡ first_span r t from end no_null
  pub inside : IfSome answer (IsBetween from end)

-- the match that ends last, and of those the longest
pub record FindsLast (r : Tree) (t : List ℕ) (start to : ℕ) (no_null : Option ℕ) (answer : Option Range) : Type 0 where
  pub found : IfSome answer (IsLast r t start to no_null)
  pub none : IfNone answer (HasNoSpan r t start to no_null)
  pub value : answer ≡ last_span r t start to no_null
  pub inside : IfSome answer (IsBetween start to)
