-- What a part of a tree is, and what the rows of its letters have.
use Rattle.std.specs.Prelude.{◌≡◌, ◌+◌, ◌≤◌, ◌↔◌, ◌⊎◌, ℕ, Bool, List, [], ◌∷◌, IsTrue, length, slice_index}
use Rattle.re_syntax.specs.Tree.{Tree, Letter, AnyLetter, OneOf}
use Rattle.re_syntax.specs.Nodes.{Node, Builds}
use Rattle.re_spans.specs.declared.leaf.Here.{Here}
use Rattle.re_sets.specs.Spots.{null, first, last, follow}
use Rattle.re_sets.specs.Numbers.{letters, rows}
use Rattle.re_sets.specs.Words.{on, IsSet}
use Rattle.re_machine.specs.declared.fill.Part.{Part}
use Rattle.re_machine.specs.declared.fill.Filling.{Filling}

-- the letters by which matches of a part of a tree begin and end, and whether the null text is one
pub record IsPart (r : Tree) (base : ℕ) (x : Here) (is_null : Bool) (firsts lasts : ℕ) : Type 0 where
  pub null_is : is_null ≡ null r x
  pub first_is : IsSet r base (first r x) firsts
  pub last_is : IsSet r base (last r x) lasts

-- each row of a letter has what it had and the letters that may follow it
abbrev pub AreFilled : Tree → ℕ → Here → List ℕ → List ℕ → Type 0
AreFilled r base x old new = (m n : ℕ) → IsTrue (on (slice_index new m) n) ↔
    (IsTrue (on (slice_index old m) n) ⊎ IsTrue (rows r base (follow r x) m n))

-- a leaf that takes a rune
abbrev pub IsLeaf : Tree → Type 0
IsLeaf (Letter c) = Unit {0}
IsLeaf AnyLetter = Unit {0}
IsLeaf (OneOf negated spans) = Unit {0}
IsLeaf _ = ⊥

-- how many letters trees have
abbrev pub count : List Tree → ℕ
count [] = 0
count (r ∷ rs) = count rs + letters r

module _ {S : Type 0} (bits : S → ℕ) (x : Here) where
  -- the parts are those of the trees, the last one first, and the rows have what may follow the letters of these
  abbrev pub AreParts : List ℕ → List Tree → List (Part S) → List ℕ → Type 0
  AreParts old [] [] new = old ≡ new
  AreParts old [] (p ∷ ps) new = ⊥
  AreParts old (r ∷ rs) [] new = ⊥
  AreParts old (r ∷ rs) (p ∷ ps) new = (some : List ℕ) × AreParts old rs ps some
      × IsPart r (count rs) x p.null (bits p.first) (bits p.last) × AreFilled r (count rs) x some new

  -- the nodes that are left make the tree of those of which these are the parts
  pub record IsFilling (old : List ℕ) (r : Tree) (left : List Node) (f : Filling S) (new : List ℕ) : Type 0 where
    pub trees : List Tree
    pub builds : Builds left trees r
    pub next_is : f.next ≡ count trees
    pub fits : letters r ≤ length new
    pub parts_are : AreParts old trees f.parts.items new

  -- what is filled goes on by a node
  abbrev pub GoesOn : Node → Filling S → List ℕ → Filling S → List ℕ → Type 0
  GoesOn node f rows g new = (old : List ℕ) (r : Tree) (left : List Node) → IsFilling old r (node ∷ left) f rows
      → IsFilling old r left g new
