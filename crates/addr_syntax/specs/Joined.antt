-- The tree of pieces, which are joined from left to right.
use Rattle.std.specs.Prelude.{zero, ◌||◌, Bool, true, false, List, [], ◌∷◌, Option, Some, None, if◌then◌else◌}
use Rattle.addr_syntax.specs.Tree.{Tree, Missing, Front, RuneAt, LineAt, Forward, Backward, Sum, Difference, Span}
use Rattle.addr_syntax.specs.Tree.{MovingSpan}
use Rattle.addr_syntax.specs.Pieces.{Piece, Part, Adds, Splits}
use Rattle.addr_syntax.specs.declared.mark.Sign.{Sign}
use Rattle.addr_syntax.specs.declared.mark.Sign.TheVariants.{Plus, Minus}
use Rattle.addr_syntax.specs.declared.mark.Separator.{Separator}
use Rattle.addr_syntax.specs.declared.mark.Separator.TheVariants.{Comma, Semi}

-- A row of parts and signs so far: nothing yet, one that ends with a sign, or one that ends with a part.
pub data Row : Type 0 where
  Nothing : Row
  Signed : (a : Tree) (k : Sign) → Row
  Ended : (a : Tree) → Row

-- All so far: a row, and what stands before the last comma or semicolon where there is one.
pub record Reading : Type 0 where
  pub before : Option (Tree × Separator)
  pub row : Row

-- the sum or the difference
abbrev pub by_sign : Sign → Tree → Tree → Tree
by_sign Plus a b = Sum a b
by_sign Minus a b = Difference a b

-- the span from one side to the other
abbrev pub by_separator : Separator → Tree → Tree → Tree
by_separator Comma a b = Span a b
by_separator Semi a b = MovingSpan a b

-- line 0 is the beginning of the text where it begins a row
abbrev pub first_part : Tree → Tree
first_part (LineAt zero) = Front
first_part p = p

-- a part begins a row, or stands right of the row's last sign, or of a `+` that isn't written
abbrev pub with_part : Row → Tree → Row
with_part Nothing p = Ended (first_part p)
with_part (Signed a k) p = Ended (by_sign k a p)
with_part (Ended a) p = Ended (by_sign Plus a p)

-- the tree of a row; where nothing follows its last sign, that has no right side
abbrev pub row_tree : Row → Tree
row_tree Nothing = Missing
row_tree (Signed a k) = by_sign k a Missing
row_tree (Ended a) = a

-- a sign behind a row
abbrev pub with_sign : Row → Sign → Row
with_sign r k = Signed (row_tree r) k

-- the tree behind what stands before the last separator, if there is one
abbrev pub behind : Option (Tree × Separator) → Tree → Tree
behind None a = a
behind (Some (b, k)) a = by_separator k b a

-- the tree of all so far
abbrev pub whole : Reading → Tree
whole r = behind r.before (row_tree r.row)

-- a line number, `#n` or an expression may stand anywhere, `.` and `$` where a row begins
abbrev pub may_follow : Tree → Bool
may_follow (RuneAt n) = true
may_follow (LineAt n) = true
may_follow (Forward re) = true
may_follow (Backward re) = true
may_follow _ = false

-- a row begins here
abbrev pub is_nothing : Row → Bool
is_nothing Nothing = true
is_nothing (Signed a k) = false
is_nothing (Ended a) = false

-- with a part behind the row
abbrev pub join_part : Reading → Tree → Reading
join_part r p = record r { row = with_part r.row p }

-- with a sign behind the row
abbrev pub join_sign : Reading → Sign → Reading
join_sign r k = record r { row = with_sign r.row k }

-- with a separator behind the row
abbrev pub join_separator : Reading → Separator → Reading
join_separator r k = record { before = Some (whole r, k); row = Nothing }

-- one piece more; None where no address goes on so
abbrev pub after_piece : Reading → Piece → Option Reading
after_piece r (Part p) = if (may_follow p || is_nothing r.row) then Some (join_part r p) else None
after_piece r (Adds k) = Some (join_sign r k)
after_piece r (Splits k) = Some (join_separator r k)

-- before the first piece
abbrev pub begin : Reading
begin = record { before = None; row = Nothing }

-- all pieces, one after another
abbrev pub after_pieces : Option Reading → List Piece → Option Reading
after_pieces r [] = r
after_pieces None (p ∷ ps) = None
after_pieces (Some r) (p ∷ ps) = after_pieces (after_piece r p) ps
