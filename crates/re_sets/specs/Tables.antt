-- The tables of a machine, and the search over a text by them.
use Rattle.std.specs.Prelude.{◌≡◌, ◌<◌, ◌≤◌, ◌+◌, ◌==◌, ◌&&◌, ◌||◌, ◌↔◌, ℕ, zero, suc, Bool, not, Option, IsTrue}
use Rattle.std.specs.Prelude.{nat_lt, bit_and, bit_or, if◌then◌else◌}
use Rattle.std.specs.Int.Bits.{bit_xor}
use Rattle.re_syntax.specs.Tree.{Tree}
use Rattle.re_spans.specs.declared.leaf.Here.{Here}
use Rattle.re_spans.specs.Choice.{is_at}
use Rattle.re_sets.specs.Readings.{Reading}
use Rattle.re_sets.specs.Spots.{takes_at, null, first, last, follow}
use Rattle.re_sets.specs.Numbers.{letters, rows, any_below}
use Rattle.re_sets.specs.Words.{on, IsSet}
use Rattle.re_sets.specs.Rows.{Text}

-- how many letters a set can have; in each kind of place what is null, first and last, and what may follow each
-- letter; and the letters that take a rune
pub record Table : Type 0 where
  pub size : ℕ
  pub null : Here → Bool
  pub first : Here → ℕ
  pub last : Here → ℕ
  pub row : Here → ℕ → ℕ
  pub takes : ℕ → ℕ

-- the table has what the tree says
pub record IsTable (r : Tree) (t : Table) : Type 0 where
  pub few : letters r ≤ t.size
  pub null_is : (x : Here) → t.null x ≡ null r x
  pub first_is : (x : Here) → IsSet r 0 (first r x) (t.first x)
  pub last_is : (x : Here) → IsSet r 0 (last r x) (t.last x)
  pub rows_is : (x : Here) (m n : ℕ) → m < t.size → IsTrue (on (t.row x m) n) ↔ IsTrue (rows r 0 (follow r x) m n)
  pub takes_is : (d : ℕ) → IsSet r 0 (takes_at r d) (t.takes d)

-- what the rows of the members below a number have
abbrev pub join_rows : (ℕ → ℕ) → ℕ → ℕ → ℕ
join_rows row set zero = 0
join_rows row set (suc m) = if on set m then bit_or (row m) (join_rows row set m) else join_rows row set m

-- two sets have a letter below a number in common
abbrev pub meet : ℕ → ℕ → ℕ → Bool
meet size x y = any_below (λ m. on x m && on y m) size

-- the set without the letters of another one
abbrev pub take_away : ℕ → ℕ → ℕ
take_away x y = bit_xor x (bit_and x y)

-- what a search by a table needs to know of what it reads
abbrev pub text_of : Table → Reading → Option ℕ → Text
text_of t w no_null = record {
  ends = λ k x. meet t.size x (t.last (w.here k));
  null = λ k. t.null (w.here k) && not (is_at no_null k);
  move = λ k x. if nat_lt k w.count then bit_and (join_rows (t.row (w.here k)) x t.size) (t.takes (w.rune k)) else 0;
  begin = λ k. if nat_lt k w.count then bit_and (t.first (w.here k)) (t.takes (w.rune k)) else 0;
  minus = take_away;
  union = bit_or;
}
