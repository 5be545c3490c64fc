-- What is known of each part of a tree at one place of a search.
use Rattle.std.specs.Prelude.{◌&&◌, ◌||◌, Bool, true, false}
use Rattle.re_syntax.specs.Tree.{Tree, Then, Either, Many, Several, Maybe, Group}
use Rattle.re_spans.specs.Leaves.{takes, is_null}
use Rattle.re_spans.specs.declared.way.Way.{Way}
use Rattle.re_spans.specs.declared.way.Way.TheVariants.{On, Back}
use Rattle.re_spans.specs.declared.leaf.Here.{Here}
use Rattle.re_spans.specs.declared.leaf.Read.{Read}
use Rattle.re_spans.specs.declared.marks.Mark.{Mark}
use Rattle.re_spans.specs.declared.marks.Marks.{Marks, Leaf, One', Two'}

-- the marks of a tree, and those of its parts below
pub data Marking : Type 0 where
  OfLeaf : (mark : Mark) → Marking
  OfOne : (mark : Mark) (below : Marking) → Marking
  OfTwo : (mark : Mark) (left right : Marking) → Marking

-- the marks of a value of the program, which has them in boxes
abbrev pub marks_of : Marks → Marking
marks_of (Leaf k) = OfLeaf k
marks_of (One' k p s) = OfOne k (marks_of s)
marks_of (Two' k p s q u) = OfTwo k (marks_of s) (marks_of u)

-- the mark of the tree itself
abbrev pub mark_of : Marking → Mark
mark_of (OfLeaf k) = k
mark_of (OfOne k s) = k
mark_of (OfTwo k s u) = k

-- another mark of the tree itself
abbrev pub with_mark : Mark → Marking → Marking
with_mark k (OfLeaf old) = OfLeaf k
with_mark k (OfOne old s) = OfOne k s
with_mark k (OfTwo old s u) = OfTwo k s u

-- a match of some part can go on from here
abbrev pub is_alive : Marking → Bool
is_alive (OfLeaf k) = k.led
is_alive (OfOne k s) = k.led || is_alive s
is_alive (OfTwo k s u) = k.led || (is_alive s || is_alive u)

-- the part is left here, where it is entered or not
abbrev pub passes : Mark → Bool → Bool
passes k entered = k.led || (entered && k.null)

-- of two parts one after the other the left one is entered where both are; on the way back, where the right one is left
abbrev pub left_enters : Way → Bool → Mark → Bool
left_enters On entered right = entered
left_enters Back entered right = passes right entered

-- the right one is entered where the left one is left; on the way back, where both are
abbrev pub right_enters : Way → Bool → Mark → Bool
right_enters On entered left = passes left entered
right_enters Back entered left = entered

-- the mark of two parts, of which the search comes to the first one first
abbrev pub join : Mark → Mark → Mark
join first second = record { led = second.led || (first.led && second.null); null = first.null && second.null }

-- the mark of two parts one after the other
abbrev pub pair : Way → Mark → Mark → Mark
pair On left right = join left right
pair Back left right = join right left

-- the mark of two parts of which either is taken
abbrev pub either : Mark → Mark → Mark
either left right = record { led = left.led || right.led; null = left.null || right.null }

-- the mark of a tree with one part, which may be left out where optional holds
abbrev pub wrap : Mark → Bool → Mark
wrap part optional = record { led = part.led; null = optional || part.null }

-- the mark of a leaf
abbrev pub leaf_mark : Tree → Here → Bool → Mark
leaf_mark r here led = record { led = led; null = is_null r here }

-- the marks of a tree with one part
abbrev pub with_part : Marking → Bool → Marking
with_part part optional = OfOne (wrap (mark_of part) optional) part

-- nothing was entered before this place
abbrev pub fresh : Way → Tree → Here → Marking
fresh way (Then a b) here =
    OfTwo (pair way (mark_of (fresh way a here)) (mark_of (fresh way b here))) (fresh way a here) (fresh way b here)
fresh way (Either a b) here =
    OfTwo (either (mark_of (fresh way a here)) (mark_of (fresh way b here))) (fresh way a here) (fresh way b here)
fresh way (Many a) here = with_part (fresh way a here) true
fresh way (Several a) here = with_part (fresh way a here) false
fresh way (Maybe a) here = with_part (fresh way a here) true
fresh way (Group n a) here = with_part (fresh way a here) false
fresh way r here = OfLeaf (leaf_mark r here false)

-- one place further on, of a tree with one part that does as f: it is entered again where its matches end, if again
-- holds
abbrev pub step_one : (Bool → Marking → Marking) → Bool → Bool → Bool → Marking → Marking
step_one f entered again optional (OfOne k s) = with_part (f (entered || (again && (mark_of s).led)) s) optional
step_one f entered again optional s = s

-- the marks of a tree with two parts
abbrev pub with_pair : (Mark → Mark → Mark) → Marking → Marking → Marking
with_pair of s u = OfTwo (of (mark_of s) (mark_of u)) s u

-- of two parts one after the other, which do as f and g
abbrev pub step_cat : Way → (Bool → Marking → Marking) → (Bool → Marking → Marking) → Bool → Marking → Marking
step_cat way f g entered (OfTwo k s u) =
    with_pair (pair way) (f (left_enters way entered (mark_of u)) s) (g (right_enters way entered (mark_of s)) u)
step_cat way f g entered s = s

-- of two parts of which either is taken
abbrev pub step_alt : (Bool → Marking → Marking) → (Bool → Marking → Marking) → Bool → Marking → Marking
step_alt f g entered (OfTwo k s u) = with_pair either (f entered s) (g entered u)
step_alt f g entered s = s

-- one place further on, where the tree is entered at the place before or not
abbrev pub step : Way → Tree → Read → Bool → Marking → Marking
step way (Then a b) read entered s = step_cat way (step way a read) (step way b read) entered s
step way (Either a b) read entered s = step_alt (step way a read) (step way b read) entered s
step way (Many a) read entered s = step_one (step way a read) entered true true s
step way (Several a) read entered s = step_one (step way a read) entered true false s
step way (Maybe a) read entered s = step_one (step way a read) entered false true s
step way (Group n a) read entered s = step_one (step way a read) entered false false s
step way r read entered s = with_mark (leaf_mark r read.here (entered && takes r read.rune)) s
