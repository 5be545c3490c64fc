-- The sides of a tree.
use Rattle.std.proofs.Common.{◌≡◌, ℕ, List, Ok, refl}
use Rattle.am_text.specs.declared.range.Range.{Range}
use Rattle.addr_syntax.specs.Tree.{Tree, Missing, Dot, Front, End, RuneAt, LineAt, Forward, Backward, Sum, Difference}
use Rattle.addr_syntax.specs.Tree.{Span, MovingSpan, tree}
use Rattle.addr_syntax.specs.declared.address.Addr.{Addr, Here, Zero, Last, Char, Line, Fore, Back, Plus', Minus'}
use Rattle.addr_syntax.specs.declared.address.Addr.{Comma', Semi'}
use Rattle.sam_address.specs.Value.{Outcome, value, written_or}

-- the tree of an address is written
pub written_tree : (a : Addr) (missing own : Outcome) → written_or (tree a) missing own ≡ own
written_tree Here missing own = refl
written_tree Zero missing own = refl
written_tree Last missing own = refl
written_tree (Char n) missing own = refl
written_tree (Line n) missing own = refl
written_tree (Fore r) missing own = refl
written_tree (Back r) missing own = refl
written_tree (Plus' a b) missing own = refl
written_tree (Minus' a b) missing own = refl
written_tree (Comma' a b) missing own = refl
written_tree (Semi' a b) missing own = refl

-- dot stands for a side of a sum or a difference that isn't written
pub written_dot : (a : Tree) (text : List ℕ) (limit dot : Range) → written_or a (Ok dot)
    (value a text limit dot) ≡ value a text limit dot
written_dot Missing text limit dot = refl
written_dot Dot text limit dot = refl
written_dot Front text limit dot = refl
written_dot End text limit dot = refl
written_dot (RuneAt n) text limit dot = refl
written_dot (LineAt n) text limit dot = refl
written_dot (Forward r) text limit dot = refl
written_dot (Backward r) text limit dot = refl
written_dot (Sum a b) text limit dot = refl
written_dot (Difference a b) text limit dot = refl
written_dot (Span a b) text limit dot = refl
written_dot (MovingSpan a b) text limit dot = refl
