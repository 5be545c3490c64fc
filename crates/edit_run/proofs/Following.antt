-- Successive matches are matches.
use Rattle.std.proofs.Common.{ℕ, ◌≤◌, List, [], ◌∷◌, length, Option, None, arith}
use Rattle.am_text.specs.declared.range.Range.{Range}
use Rattle.re_syntax.specs.Tree.{Tree}
use Rattle.re_syntax.specs.Match.{IsFirst}
use Rattle.re_spans.specs.Successive.{FollowOn}
use Rattle.re_spans.proofs.Ways.{Matches-on}
use Rattle.re_spans.proofs.Chosen.{first_is}
use Rattle.re_spans.proofs.Following.{successive_follow}
use Rattle.edit_run.specs.Ranges.{matches_in, AreMatches}

follow_match : (r : Tree) (t : List ℕ) (end : ℕ) (no_null : Option ℕ) (at : ℕ) (ms : List Range) → end ≤ length t
    → FollowOn r t end no_null at ms → AreMatches r t ms
follow_match r t end no_null at [] l h = tt
follow_match r t end no_null at (m ∷ ms) l h =
    let first : IsFirst r t at end no_null m = rw h.0 at (first_is r t at end no_null) in (
      Matches-on r t m.q0 m.q1 first.span.matches,
      omega (arith, first.span.below),
      first.span.matches,
      follow_match r t end _ _ ms l h.1,
    )

pub are_matches : (r : Tree) (t : List ℕ) (range : Range) → range.q1 ≤ length t → AreMatches r t (matches_in r t range)
are_matches r t range l = follow_match r t range.q1 None range.q0 (matches_in r t range) l
    (successive_follow r t range.q0 range.q1)
