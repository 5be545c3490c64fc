-- The value of a search.
use Rattle.std.proofs.Common.{◌≡◌, ℕ, ◌+◌, List, [], Option, None}
use Rattle.re_syntax.specs.Tree.{Tree}
use Rattle.re_spans.specs.Search.{first_span}
use Rattle.re_spans.proofs.Chosen.{found_first}
use Rattle.re_sets.specs.Readings.{forward}
use Rattle.re_sets.specs.Rows.{search}
use Rattle.re_sets.specs.Tables.{Table, IsTable, text_of}
use Rattle.re_sets.proofs.Found.{search_finds}

pub value_is : (r : Tree) (t : Table) (text : List ℕ) (no_null : Option ℕ) (low n : ℕ) → IsTable r t
    → search (text_of t (forward text) no_null) n low [] None ≡ first_span r text low (low + n) no_null
value_is r t text no_null low n is =
    let f = search_finds r t text no_null low n is in
    found_first r text low (low + n) no_null (search (text_of t (forward text) no_null) n low [] None) f.0 f.1
