-- The tables of a search.
use Rattle.std.specs.Prelude.{◌≡◌, ◌<◌, ◌≤◌, ℕ, false, length, map, slice_index}
use Rattle.re_syntax.specs.Tree.{tree}
use Rattle.re_spans.specs.declared.leaf.Here.{Here}
use Rattle.re_sets.specs.Tables.{Table}
use Rattle.re_machine.specs.Leaves.{taken_word}
use Rattle.re_machine.specs.Contexts.{context_at, HasFirsts, BeginsAre}
use Rattle.re_machine.specs.declared.tables.Tables.{Tables}

-- the runes below this one have their letters in a table
abbrev pub ascii_count : ℕ
ascii_count = 128

module _ {S : Type 0} (bits : S → ℕ) (size : ℕ) where
  -- what the tables have in each kind of place
  abbrev pub table_of : Tables S → Table
  table_of t = record {
    size = size;
    null = λ x. (context_at t.contexts x).null;
    first = λ x. bits (context_at t.contexts x).first;
    last = λ x. bits (context_at t.contexts x).last;
    row = λ x. slice_index (map bits (context_at t.contexts x).follow.items);
    takes = taken_word (map tree t.leaves.items);
  }

  -- the sets of the first runes, and what may begin a match, are those of the contexts and the letters
  pub record IsWhole (t : Tables S) : Type 0 where
    pub few : length t.leaves.items ≤ size
    pub ascii_len : length t.ascii.items ≡ ascii_count
    pub ascii_is : (d : ℕ) → d < ascii_count → slice_index (map bits t.ascii.items)
        d ≡ taken_word (map tree t.leaves.items) d
    pub firsts_is : (x : Here) → HasFirsts (bits (context_at t.contexts x).first) (bits t.firsts)
    pub begins_len : length t.begins.items ≡ ascii_count
    pub begins_is : BeginsAre (bits t.firsts) (map bits t.ascii.items) t.begins.items
    pub never_null : t.is_ever_null ≡ false → (x : Here) → (context_at t.contexts x).null ≡ false
