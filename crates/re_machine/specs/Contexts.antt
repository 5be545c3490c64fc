-- What the tables of a tree have in each kind of place.
use Rattle.std.specs.Prelude.{◌≡◌, ◌<◌, ◌↔◌, ◌||◌, ◌&&◌, ℕ, Bool, true, false, List, length, map, slice_index}
use Rattle.std.specs.Prelude.{slice_index_or, bit_and, IsTrue, if◌then◌else◌}
use Rattle.re_syntax.specs.Tree.{Tree, Letter, AnyLetter, OneOf, LineStart, LineEnd, Then, Either, Many, Several, Maybe}
use Rattle.re_syntax.specs.Tree.{Group}
use Rattle.re_spans.specs.declared.leaf.Here.{Here}
use Rattle.re_sets.specs.Spots.{null, first, last, follow}
use Rattle.re_sets.specs.Numbers.{rows}
use Rattle.re_sets.specs.Words.{on, IsSet}
use Rattle.re_sets.specs.Tables.{Table}
use Rattle.re_machine.specs.declared.contexts.Context.{Context}
use Rattle.re_machine.specs.declared.contexts.Contexts.{Contexts}
use Rattle.re_machine.specs.declared.contexts.Contexts.TheVariants.{Same, ByPlace}

-- the tree asks for the start or the end of a line
abbrev pub has_anchor : Tree → Bool
has_anchor (Letter c) = false
has_anchor AnyLetter = false
has_anchor (OneOf negated spans) = false
has_anchor LineStart = true
has_anchor LineEnd = true
has_anchor (Then a b) = has_anchor a || has_anchor b
has_anchor (Either a b) = has_anchor a || has_anchor b
has_anchor (Many a) = has_anchor a
has_anchor (Several a) = has_anchor a
has_anchor (Maybe a) = has_anchor a
has_anchor (Group n a) = has_anchor a

-- a place that starts a line or not, and ends one or not
abbrev pub kind_of : Bool → Bool → Here
kind_of starts ends = record { starts = starts; ends = ends }

-- no row has a letter
abbrev pub HaveNothing : List ℕ → Type 0
HaveNothing rows = (m : ℕ) → slice_index rows m ≡ 0

-- the one set is in the other
abbrev pub HasFirsts : ℕ → ℕ → Type 0
HasFirsts word all = (n : ℕ) → IsTrue (on word n) → IsTrue (on all n)

-- where a rune's test is false no letter is both in the one set and in that of the rune
abbrev pub BeginsAre : ℕ → List ℕ → List Bool → Type 0
BeginsAre firsts sets begins = (d : ℕ) → d < length begins → slice_index_or begins d false ≡ false → bit_and firsts
    (slice_index sets d) ≡ 0

-- the null text is a match nowhere
abbrev pub IsNeverNull : Table → Type 0
IsNeverNull t = (x : Here) → t.null x ≡ false

-- no match begins with the rune
abbrev pub NoneBegins : Table → ℕ → Type 0
NoneBegins t d = (x : Here) (n : ℕ) → IsTrue (on (bit_and (t.first x) (t.takes d)) n) → ⊥

-- the context of a kind of place
abbrev pub context_at : {S : Type 0} → Contexts S → Here → Context S
context_at (Same c) x = c
context_at (ByPlace inside starts ends empty) x = if x.starts && x.ends then empty else
    (if x.starts then starts else (if x.ends then ends else inside))

module _ {S : Type 0} (bits : S → ℕ) where
  -- the context of a tree in one kind of place
  pub record IsContext (r : Tree) (x : Here) (c : Context S) : Type 0 where
    pub null_is : c.null ≡ null r x
    pub first_is : IsSet r 0 (first r x) (bits c.first)
    pub last_is : IsSet r 0 (last r x) (bits c.last)
    pub rows_is : (m n : ℕ) → IsTrue (on (slice_index (map bits c.follow.items) m) n) ↔ IsTrue
        (rows r 0 (follow r x) m n)

  abbrev pub AreContexts : Tree → Contexts S → Type 0
  AreContexts r all = (x : Here) → IsContext r x (context_at all x)

  -- the context has what a table has in such a place
  pub record IsContextOf (t : Table) (x : Here) (c : Context S) : Type 0 where
    pub null_is : c.null ≡ t.null x
    pub first_is : bits c.first ≡ t.first x
    pub last_is : bits c.last ≡ t.last x
    pub row_is : slice_index (map bits c.follow.items) ≡ t.row x
