-- What a search knows from place to place.
use Rattle.std.proofs.Common.{◌≡◌, ℕ, ◌+◌, ◌<◌, ◌≤◌, false, List, [], ◌∷◌, Option, Some, None, refl, arith}
use Rattle.std.specs.Prelude.{IsTrue, IfSome, IfNone, length}
use Rattle.std.specs.Prelude.{◌-◌}
use Rattle.re_syntax.specs.Tree.{Tree}
use Rattle.re_syntax.specs.Match.{IsFirst, IsLast, HasNoSpan}
use Rattle.am_text.specs.declared.range.Range.{Range}
use Rattle.re_spans.specs.Search.{first_span, last_span, IsBetween}
use Rattle.re_spans.proofs.Chosen.{found_first, found_last, firsts_between, lasts_between}
use Rattle.re_sets.specs.Readings.{Reading, Spans, forward, backward, mirrored}
use Rattle.re_sets.specs.Rows.{Row, Seen, seen, onward, solid}
use Rattle.re_sets.specs.Tables.{Table, IsTable, text_of}
use Rattle.re_sets.specs.Numbers.{Leads, number}
use Rattle.re_sets.specs.Words.{on}
use Rattle.re_sets.specs.Laws.{LeftOut}
use Rattle.re_sets.specs.Searches.{Known, Followed, Reached, FindsIn, from_end, found_from_end}
use Rattle.re_sets.proofs.Rowing.{start_is, step_from, end_from, skip_is, stops, follow_is, follow_step}
use Rattle.re_sets.proofs.Telling.{tells}
use Rattle.re_sets.proofs.Found as found
use Rattle.re_sets.proofs.FoundBack as back

module _ (r : Tree) (t : Table) (w : Reading) (no_null : Option ℕ) (low : ℕ) (is : IsTable r t) where
  abbrev L : ℕ → ℕ → ℕ → Type 0
  L x k j = Leads r w (on x) k j

  pub known_start : Known r w no_null low low [] None
  known_start = start_is (Spans r w) (LeftOut no_null) L low (text_of t w no_null) (tells r t w no_null low is)

  pub known_step : (k : ℕ) (rows : List Row) (best : Option Range) → low ≤ k → Reached r t w no_null low k rows best
      → Known r w no_null low (k + 1) (solid (onward (text_of t w no_null) k (seen (text_of t w no_null) k rows best)))
      (seen (text_of t w no_null) k rows best).best
  known_step = step_from (Spans r w) (LeftOut no_null) L low (text_of t w no_null) (tells r t w no_null low is)

  pub known_end : (k : ℕ) (rows : List Row) (best : Option Range) → low ≤ k → Reached r t w no_null low k rows best
      → FindsIn r w no_null low k (seen (text_of t w no_null) k rows best).best
  known_end = end_from (Spans r w) (LeftOut no_null) L low (text_of t w no_null) (tells r t w no_null low is)

  pub known_skip : (k : ℕ) → low ≤ k → (text_of t w no_null).null k ≡ false →
      ((n : ℕ) → IsTrue (on ((text_of t w no_null).begin k) n) → ⊥) → Known r w no_null low k [] None
      → Known r w no_null low (k + 1) [] None
  known_skip k above n dead = skip_is (Spans r w) (LeftOut no_null) L low (text_of t w no_null)
      (tells r t w no_null low is) k above n (λ j l. dead (number r 0 l.0) l.1)

  pub known_stops : (k high : ℕ) (best : Range) → Known r w no_null low k [] (Some best) → k ≤ high + 1
      → FindsIn r w no_null low high (Some best)
  known_stops = stops (Spans r w) (LeftOut no_null) L low (text_of t w no_null) (tells r t w no_null low is)

  pub known_alone : (k start set : ℕ) → Known r w no_null low k (record { start = start; set = set } ∷ []) None
      → Followed r w no_null low k start set
  known_alone = follow_is (Spans r w) (LeftOut no_null) L low (text_of t w no_null) (tells r t w no_null low is)

  pub followed_step : (k start set : ℕ) → (text_of t w no_null).ends k set ≡ false → Followed r w no_null low k start
      set → Followed r w no_null low (k + 1) start ((text_of t w no_null).move k set)
  followed_step = follow_step (Spans r w) (LeftOut no_null) L low (text_of t w no_null) (tells r t w no_null low is)
