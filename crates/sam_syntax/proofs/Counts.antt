-- How large the whole is with one piece more.
use Rattle.std.proofs.Common.{◌≡◌, ℕ, ◌+◌, ◌≤◌, ◌||◌, Bool, true, false, List, [], ◌∷◌, ◌++◌, length, Option, Some}
use Rattle.std.proofs.Common.{None, refl, sym, ap, subst, ◌∙◌, arith}
use Rattle.std.specs.Prelude.{max}
use Rattle.re_syntax.specs.Tree as expression
use Rattle.addr_syntax.specs.Tree as address
use Rattle.addr_syntax.specs.Tree.{Missing}
use Rattle.edit_parts.specs.Tree.{Action, Commands, Command, Nothing, Append, Change, Insert, Delete, Substitute, Move}
use Rattle.edit_parts.specs.Tree.{Copy, Print, LineNumber, RuneNumber, Loops, Block, Asks, Done, Then}
use Rattle.edit_parts.specs.Limits as part
use Rattle.edit_parts.specs.Limits.{is_large_expression, is_long_address}
use Rattle.edit_parts.specs.Pieces as piece
use Rattle.edit_parts.specs.Pieces.{Piece, Blank, EndsLine, At, Opens, Closes, Does}
use Rattle.sam_syntax.specs.Limits.{levels, most_levels, is_large, is_long}
use Rattle.sam_syntax.specs.Joined.{Head, OpenBlock, Line, Opened, Looping, Addressed, Ended, Reading, in_loops}
use Rattle.sam_syntax.specs.Joined.{commands_of, command_of, with_command, with_line, block_of, after_piece, close_all}
use Rattle.sam_syntax.specs.Joined.{whole}
use Rattle.sam_syntax.specs.Read.{piece_large, piece_long}
use Rattle.sam_syntax.specs.Depth.{heads_of, round, depth, level_of}

-- ---- expressions and addresses

-- some expression or some address is such
abbrev mutual
  pub some : (expression.Tree → Bool) → (address.Tree → Bool) → Action → Bool
  some f g Nothing = false
  some f g (Append t) = false
  some f g (Change t) = false
  some f g (Insert t) = false
  some f g Delete = false
  some f g (Substitute n re with all) = f re
  some f g (Move to) = g to
  some f g (Copy to) = g to
  some f g Print = false
  some f g LineNumber = false
  some f g RuneNumber = false
  some f g (Loops kind re addr act) = f re || (g addr || some f g act)
  some f g (Block all) = some_of f g all
  some f g (Asks kind command) = false

  pub some_of : (expression.Tree → Bool) → (address.Tree → Bool) → Commands → Bool
  some_of f g Done = false
  some_of f g (Then addr act rest) = (g addr || some f g act) || some_of f g rest

abbrev has : (expression.Tree → Bool) → (address.Tree → Bool) → Command → Bool
has f g c = g c.0 || some f g c.1

or_false : (x : Bool) → (x || false) ≡ x
or_false true = refl
or_false false = refl

or_assoc : (x y z : Bool) → ((x || y) || z) ≡ (x || (y || z))
or_assoc true y z = refl
or_assoc false y z = refl

abbrev heads_have : (expression.Tree → Bool) → (address.Tree → Bool) → List Head → Bool
heads_have f g [] = false
heads_have f g (h ∷ hs) = (g h.addr || f h.re) || heads_have f g hs

abbrev line_has : (expression.Tree → Bool) → (address.Tree → Bool) → Line → Bool
line_has f g Opened = false
line_has f g (Looping hs) = heads_have f g hs
line_has f g (Addressed hs a) = heads_have f g hs || g a
line_has f g (Ended c) = has f g c

abbrev block_has : (expression.Tree → Bool) → (address.Tree → Bool) → OpenBlock → Bool
block_has f g b = heads_have f g b.heads || (g b.addr || some_of f g (commands_of b.commands))

abbrev blocks_have : (expression.Tree → Bool) → (address.Tree → Bool) → List OpenBlock → Bool
blocks_have f g [] = false
blocks_have f g (b ∷ bs) = block_has f g b || blocks_have f g bs

commands_have : (f : expression.Tree → Bool) (g : address.Tree → Bool) (cs : List Command) (c : Command)
    → some_of f g (commands_of (cs ++ c ∷ [])) ≡ (some_of f g (commands_of cs) || has f g c)
commands_have f g [] c = or_false (has f g c)
commands_have f g (d ∷ cs) c = ap (λ x. has f g d || x) (commands_have f g cs c)
    ∙ sym (or_assoc (has f g d) (some_of f g (commands_of cs)) (has f g c))

round_loop : (h a e c : Bool) → (h || (a || (e || c))) ≡ (((a || e) || h) || c)
round_loop h a e c = grind arith

in_loops_has : (f : expression.Tree → Bool) (g : address.Tree → Bool) (hs : List Head) (c : Command)
    → has f g (in_loops hs c) ≡ (heads_have f g hs || has f g c)
in_loops_has f g [] c = refl
in_loops_has f g (h ∷ hs) c =
    in_loops_has f g hs (h.addr, Loops h.kind h.re c.0 c.1) ∙ round_loop (heads_have f g hs) (g h.addr) (f h.re)
    (has f g c)

none_missing : (m h : Bool) → m ≡ false → (h || (m || false)) ≡ h
none_missing m h e = grind arith

line_command_has : (f : expression.Tree → Bool) (g : address.Tree → Bool) (line : Line)
    → g Missing ≡ false → has f g (command_of line) ≡ line_has f g line
line_command_has f g Opened e = none_missing (g Missing) false e
line_command_has f g (Looping []) e = none_missing (g Missing) false e
line_command_has f g (Looping (h ∷ hs)) e = in_loops_has f g (h ∷ hs) (Missing, Print)
    ∙ none_missing (g Missing) (heads_have f g (h ∷ hs)) e
line_command_has f g (Addressed hs a) e = in_loops_has f g hs (a, Nothing)
    ∙ ap (λ x. heads_have f g hs || x) (or_false (g a))
line_command_has f g (Ended c) e = refl

with_one : (h a s l : Bool) → (h || (a || (s || l))) ≡ (l || (h || (a || s)))
with_one h a s l = grind arith

with_command_has : (f : expression.Tree → Bool) (g : address.Tree → Bool) (b : OpenBlock) (c : Command)
    → block_has f g (with_command b c) ≡ (has f g c || block_has f g b)
with_command_has f g b c =
    ap (λ x. heads_have f g b.heads || (g b.addr || x)) (commands_have f g b.commands c)
    ∙ with_one (heads_have f g b.heads) (g b.addr) (some_of f g (commands_of b.commands)) (has f g c)

with_line_has : (f : expression.Tree → Bool) (g : address.Tree → Bool) (b : OpenBlock) (line : Line)
    → g Missing ≡ false → block_has f g (with_line b line) ≡ (line_has f g line || block_has f g b)
with_line_has f g b Opened e = refl
with_line_has f g b (Looping hs) e = with_command_has f g b (command_of (Looping hs))
    ∙ ap (λ x. x || block_has f g b) (line_command_has f g (Looping hs) e)
with_line_has f g b (Addressed hs a) e = with_command_has f g b (command_of (Addressed hs a))
    ∙ ap (λ x. x || block_has f g b) (line_command_has f g (Addressed hs a) e)
with_line_has f g b (Ended c) e = with_command_has f g b c

block_command_has : (f : expression.Tree → Bool) (g : address.Tree → Bool) (b : OpenBlock)
    → has f g (block_of b) ≡ block_has f g b
block_command_has f g b = in_loops_has f g b.heads (b.addr, Block (commands_of b.commands))

whole_has : (f : expression.Tree → Bool) (g : address.Tree → Bool) (bs : List OpenBlock) (line : Line)
    → g Missing ≡ false → has f g (close_all bs line) ≡ (line_has f g line || blocks_have f g bs)
whole_has f g [] line e = line_command_has f g line e ∙ sym (or_false (line_has f g line))
whole_has f g (b ∷ bs) line e =
    whole_has f g bs (Ended (block_of (with_line b line))) e
    ∙ ap (λ x. x || blocks_have f g bs) (block_command_has f g (with_line b line) ∙ with_line_has f g b line e)
    ∙ or_assoc (line_has f g line) (block_has f g b) (blocks_have f g bs)

abbrev piece_has : (expression.Tree → Bool) → (address.Tree → Bool) → Piece → Bool
piece_has f g Blank = false
piece_has f g EndsLine = false
piece_has f g (At a) = g a
piece_has f g (piece.Loops kind re) = f re
piece_has f g Opens = false
piece_has f g Closes = false
piece_has f g (Does act) = some f g act

address_more : (h a b : Bool) → ((h || a) || b) ≡ ((h || b) || a)
address_more h a b = grind arith

loop_more : (m e h b : Bool) → m ≡ false → (((m || e) || h) || b) ≡ ((h || b) || e)
loop_more m e h b q = grind arith

loop_at_more : (a e h b : Bool) → (((a || e) || h) || b) ≡ (((h || a) || b) || e)
loop_at_more a e h b = grind arith

block_more : (m h b : Bool) → m ≡ false → ((h || (m || false)) || b) ≡ ((h || b) || false)
block_more m h b q = grind arith

block_at_more : (a h b : Bool) → ((h || (a || false)) || b) ≡ (((h || a) || b) || false)
block_at_more a h b = grind arith

action_more : (m x h b : Bool) → m ≡ false → ((h || (m || x)) || b) ≡ ((h || b) || x)
action_more m x h b q = grind arith

action_at_more : (a x h b : Bool) → ((h || (a || x)) || b) ≡ (((h || a) || b) || x)
action_at_more a x h b = grind arith

abbrev HasMore : (expression.Tree → Bool) → (address.Tree → Bool) → List OpenBlock → Line → Piece → Option Reading
    → Type 0
HasMore f g bs line p None = Unit {0}
HasMore f g bs line p (Some s) = (line_has f g s.line || blocks_have f g s.blocks)
    ≡ ((line_has f g line || blocks_have f g bs) || piece_has f g p)

has_more : (f : expression.Tree → Bool) (g : address.Tree → Bool) (bs : List OpenBlock) (line : Line) (p : Piece)
    → g Missing ≡ false → HasMore f g bs line p (after_piece (record { blocks = bs; line = line }) p)
has_more f g bs line Blank e = sym (or_false (line_has f g line || blocks_have f g bs))
has_more f g [] line EndsLine e = tt
has_more f g (b ∷ bs) line EndsLine e =
    ap (λ x. x || blocks_have f g bs) (with_line_has f g b line e)
    ∙ or_assoc (line_has f g line) (block_has f g b) (blocks_have f g bs)
    ∙ sym (or_false (line_has f g line || blocks_have f g (b ∷ bs)))
has_more f g bs Opened (At a) e = tt
has_more f g bs (Looping hs) (At a) e = address_more (heads_have f g hs) (g a) (blocks_have f g bs)
has_more f g bs (Addressed hs b) (At a) e = tt
has_more f g bs (Ended c) (At a) e = tt
has_more f g bs Opened (piece.Loops kind re) e = tt
has_more f g bs (Looping hs) (piece.Loops kind re) e = loop_more (g Missing) (f re) (heads_have f g hs)
    (blocks_have f g bs) e
has_more f g bs (Addressed hs a) (piece.Loops kind re) e = loop_at_more (g a) (f re) (heads_have f g hs)
    (blocks_have f g bs)
has_more f g bs (Ended c) (piece.Loops kind re) e = tt
has_more f g bs Opened Opens e = tt
has_more f g bs (Looping hs) Opens e = block_more (g Missing) (heads_have f g hs) (blocks_have f g bs) e
has_more f g bs (Addressed hs a) Opens e = block_at_more (g a) (heads_have f g hs) (blocks_have f g bs)
has_more f g bs (Ended c) Opens e = tt
has_more f g [] line Closes e = tt
has_more f g (b ∷ bs) Opened Closes e = tt
has_more f g (b ∷ bs) (Looping []) Closes e =
    ap (λ x. x || blocks_have f g bs) (block_command_has f g b) ∙ sym (or_false (blocks_have f g (b ∷ bs)))
has_more f g (b ∷ bs) (Looping (h ∷ hs)) Closes e = tt
has_more f g (b ∷ bs) (Addressed hs a) Closes e = tt
has_more f g (b ∷ bs) (Ended c) Closes e = tt
has_more f g bs Opened (Does act) e = tt
has_more f g bs (Looping hs) (Does act) e =
    ap (λ x. x || blocks_have f g bs) (in_loops_has f g hs (Missing, act))
    ∙ action_more (g Missing) (some f g act) (heads_have f g hs) (blocks_have f g bs) e
has_more f g bs (Addressed hs a) (Does act) e =
    ap (λ x. x || blocks_have f g bs) (in_loops_has f g hs (a, act))
    ∙ action_at_more (g a) (some f g act) (heads_have f g hs) (blocks_have f g bs)
has_more f g bs (Ended c) (Does act) e = tt

joined_has : (f : expression.Tree → Bool) (g : address.Tree → Bool) (r : Reading) (p : Piece) (s : Reading)
    → g Missing ≡ false → after_piece r p ≡ Some s → has f g (whole s) ≡ (has f g (whole r) || piece_has f g p)
joined_has f g r p s m e =
    let more : HasMore f g r.blocks r.line p (Some s) = subst (λ (o : Option Reading). HasMore f g r.blocks r.line p o)
    e (has_more f g r.blocks r.line p m) in
    whole_has f g s.blocks s.line m ∙ more ∙ ap (λ x. x || piece_has f g p) (sym (whole_has f g r.blocks r.line m))

-- ---- levels

abbrev line_levels : Line → ℕ
line_levels Opened = 0
line_levels (Looping hs) = length hs
line_levels (Addressed hs a) = length hs
line_levels (Ended c) = levels c.1

abbrev block_levels : OpenBlock → ℕ
block_levels b = most_levels (commands_of b.commands) + 1 + length b.heads

abbrev deepest : List OpenBlock → ℕ
deepest [] = 0
deepest (b ∷ bs) = max (deepest bs) (block_levels b + round bs)

commands_levels : (cs : List Command) (c : Command) → most_levels (commands_of (cs ++ c ∷ []))
    ≡ max (most_levels (commands_of cs)) (levels c.1)
commands_levels [] c = omega arith
commands_levels (d ∷ cs) c = omega (arith, commands_levels cs c)

in_loops_levels : (hs : List Head) (c : Command) → levels (in_loops hs c).1 ≡ levels c.1 + length hs
in_loops_levels [] c = omega arith
in_loops_levels (h ∷ hs) c = omega (arith, in_loops_levels hs (h.addr, Loops h.kind h.re c.0 c.1))

line_command_levels : (line : Line) → levels (command_of line).1 ≡ line_levels line
line_command_levels Opened = refl
line_command_levels (Looping []) = refl
line_command_levels (Looping (h ∷ hs)) = omega (arith, in_loops_levels (h ∷ hs) (Missing, Print))
line_command_levels (Addressed hs a) = omega (arith, in_loops_levels hs (a, Nothing))
line_command_levels (Ended c) = refl

with_command_levels : (b : OpenBlock) (c : Command) → block_levels (with_command b c) ≡ max (block_levels b)
    (levels c.1 + 1 + length b.heads)
with_command_levels b c = omega (arith, commands_levels b.commands c)

with_line_levels : (b : OpenBlock) (line : Line) → block_levels (with_line b line) ≡ max (block_levels b)
    (line_levels line + 1 + length b.heads)
with_line_levels b Opened = omega arith
with_line_levels b (Looping hs) = omega (
  arith,
  with_command_levels b (command_of (Looping hs)),
  line_command_levels (Looping hs),
)
with_line_levels b (Addressed hs a) = omega (
  arith,
  with_command_levels b (command_of (Addressed hs a)),
  line_command_levels (Addressed hs a),
)
with_line_levels b (Ended c) = with_command_levels b c

block_command_levels : (b : OpenBlock) → levels (block_of b).1 ≡ block_levels b
block_command_levels b = omega (arith, in_loops_levels b.heads (b.addr, Block (commands_of b.commands)))

whole_levels : (bs : List OpenBlock) (line : Line) → levels (close_all bs line).1 ≡ max (deepest bs)
    (line_levels line + round bs)
whole_levels [] line = omega (arith, line_command_levels line)
whole_levels (b ∷ bs) line =
    omega (
      arith,
      whole_levels bs (Ended (block_of (with_line b line))),
      block_command_levels (with_line b line),
      with_line_levels b line,
    )

abbrev LevelsMore : List OpenBlock → Line → Piece → Option Reading → Type 0
LevelsMore bs line p None = Unit {0}
LevelsMore bs line p (Some s) = max (deepest s.blocks) (line_levels s.line + round s.blocks)
    ≡ max (max (deepest bs) (line_levels line + round bs)) (level_of (record { blocks = bs; line = line }) p)

with_line_round : (b : OpenBlock) (line : Line) (bs : List OpenBlock) → round (with_line b line ∷ bs) ≡ round (b ∷ bs)
with_line_round b Opened bs = refl
with_line_round b (Looping hs) bs = refl
with_line_round b (Addressed hs a) bs = refl
with_line_round b (Ended c) bs = refl

levels_more : (bs : List OpenBlock) (line : Line) (p : Piece) → LevelsMore bs line p
    (after_piece (record { blocks = bs; line = line }) p)
levels_more bs line Blank = omega arith
levels_more [] line EndsLine = tt
levels_more (b ∷ bs) line EndsLine = omega (arith, with_line_levels b line, with_line_round b line bs)
levels_more bs Opened (At a) = tt
levels_more bs (Looping hs) (At a) = omega arith
levels_more bs (Addressed hs b) (At a) = tt
levels_more bs (Ended c) (At a) = tt
levels_more bs Opened (piece.Loops kind re) = tt
levels_more bs (Looping hs) (piece.Loops kind re) = omega arith
levels_more bs (Addressed hs a) (piece.Loops kind re) = omega arith
levels_more bs (Ended c) (piece.Loops kind re) = tt
levels_more bs Opened Opens = tt
levels_more bs (Looping hs) Opens = omega arith
levels_more bs (Addressed hs a) Opens = omega arith
levels_more bs (Ended c) Opens = tt
levels_more [] line Closes = tt
levels_more (b ∷ bs) Opened Closes = tt
levels_more (b ∷ bs) (Looping []) Closes = omega (arith, block_command_levels b)
levels_more (b ∷ bs) (Looping (h ∷ hs)) Closes = tt
levels_more (b ∷ bs) (Addressed hs a) Closes = tt
levels_more (b ∷ bs) (Ended c) Closes = tt
levels_more bs Opened (Does act) = tt
levels_more bs (Looping hs) (Does act) = omega (arith, in_loops_levels hs (Missing, act))
levels_more bs (Addressed hs a) (Does act) = omega (arith, in_loops_levels hs (a, act))
levels_more bs (Ended c) (Does act) = tt

pub joined_levels : (r : Reading) (p : Piece) (s : Reading) → after_piece r p ≡ Some s
    → levels (whole s).1 ≡ max (levels (whole r).1) (level_of r p)
joined_levels r p s e =
    let more : LevelsMore r.blocks r.line p (Some s) = subst (λ (o : Option Reading). LevelsMore r.blocks r.line p o) e
    (levels_more r.blocks r.line p) in
    omega (arith, more, whole_levels s.blocks s.line, whole_levels r.blocks r.line)

pub depth_levels : (r : Reading) → depth r ≤ levels (whole r).1
depth_levels r = go r.line
  where
    go : (line : Line) → round r.blocks + length (heads_of line) ≤ levels (close_all r.blocks line).1
    go Opened = omega (arith, whole_levels r.blocks Opened)
    go (Looping hs) = omega (arith, whole_levels r.blocks (Looping hs))
    go (Addressed hs a) = omega (arith, whole_levels r.blocks (Addressed hs a))
    go (Ended c) = omega (arith, whole_levels r.blocks (Ended c))

-- ---- the two tests of commands

abbrev never : expression.Tree → Bool
never re = false

mutual
  large_is : (act : Action) → part.is_large act ≡ some is_large_expression address.is_large act
  large_is Nothing = refl
  large_is (Append t) = refl
  large_is (Change t) = refl
  large_is (Insert t) = refl
  large_is Delete = refl
  large_is (Substitute n re with all) = refl
  large_is (Move to) = refl
  large_is (Copy to) = refl
  large_is Print = refl
  large_is LineNumber = refl
  large_is RuneNumber = refl
  large_is (Loops kind re addr act) = or_assoc (is_large_expression re) (address.is_large addr) (part.is_large act)
      ∙ ap (λ x. is_large_expression re || (address.is_large addr || x)) (large_is act)
  large_is (Block all) = all_large_is all
  large_is (Asks kind command) = refl

  all_large_is : (all : Commands) → part.some_large all ≡ some_of is_large_expression address.is_large all
  all_large_is Done = refl
  all_large_is (Then addr act rest) = ap (λ x. (address.is_large addr || x) || part.some_large rest) (large_is act)
      ∙ ap (λ x. (address.is_large addr || some is_large_expression address.is_large act) || x) (all_large_is rest)

mutual
  long_is : (act : Action) → part.is_long act ≡ some never is_long_address act
  long_is Nothing = refl
  long_is (Append t) = refl
  long_is (Change t) = refl
  long_is (Insert t) = refl
  long_is Delete = refl
  long_is (Substitute n re with all) = refl
  long_is (Move to) = refl
  long_is (Copy to) = refl
  long_is Print = refl
  long_is LineNumber = refl
  long_is RuneNumber = refl
  long_is (Loops kind re addr act) = ap (λ x. is_long_address addr || x) (long_is act)
  long_is (Block all) = all_long_is all
  long_is (Asks kind command) = refl

  all_long_is : (all : Commands) → part.some_long all ≡ some_of never is_long_address all
  all_long_is Done = refl
  all_long_is (Then addr act rest) = ap (λ x. (is_long_address addr || x) || part.some_long rest) (long_is act)
      ∙ ap (λ x. (is_long_address addr || some never is_long_address act) || x) (all_long_is rest)

piece_large_is : (p : Piece) → piece_large p ≡ piece_has is_large_expression address.is_large p
piece_large_is Blank = refl
piece_large_is EndsLine = refl
piece_large_is (At a) = refl
piece_large_is (piece.Loops kind re) = refl
piece_large_is Opens = refl
piece_large_is Closes = refl
piece_large_is (Does act) = large_is act

piece_long_is : (p : Piece) → piece_long p ≡ piece_has never is_long_address p
piece_long_is Blank = refl
piece_long_is EndsLine = refl
piece_long_is (At a) = refl
piece_long_is (piece.Loops kind re) = refl
piece_long_is Opens = refl
piece_long_is Closes = refl
piece_long_is (Does act) = long_is act

pub joined_large : (r : Reading) (p : Piece) (s : Reading) → after_piece r p ≡ Some s
    → is_large (whole s) ≡ (is_large (whole r) || piece_large p)
joined_large r p s e =
    ap (λ x. address.is_large (whole s).0 || x) (large_is (whole s).1)
    ∙ joined_has is_large_expression address.is_large r p s refl e
    ∙ ap (λ x. has is_large_expression address.is_large (whole r) || x) (sym (piece_large_is p))
    ∙ ap (λ x. (address.is_large (whole r).0 || x) || piece_large p) (sym (large_is (whole r).1))

pub joined_long : (r : Reading) (p : Piece) (s : Reading) → after_piece r p ≡ Some s
    → is_long (whole s) ≡ (is_long (whole r) || piece_long p)
joined_long r p s e =
    ap (λ x. is_long_address (whole s).0 || x) (long_is (whole s).1)
    ∙ joined_has never is_long_address r p s refl e
    ∙ ap (λ x. has never is_long_address (whole r) || x) (sym (piece_long_is p))
    ∙ ap (λ x. (is_long_address (whole r).0 || x) || piece_long p) (sym (long_is (whole r).1))
