-- What is joined is written so.
use Rattle.std.proofs.Common.{◌≡◌, ◌≢◌, ◌<◌, ◌≤◌, ◌⊎◌, ℕ, true, List, [], ◌∷◌, ◌++◌, length, Option, Some, None, refl}
use Rattle.std.proofs.Common.{sym, ap, subst, ◌∙◌, inl, inr, arith}
use Rattle.re_syntax.specs.Tree as expression
use Rattle.addr_syntax.specs.Tree as address
use Rattle.addr_syntax.specs.Tree.{Missing}
use Rattle.edit_parts.specs.Tree as tree
use Rattle.edit_parts.specs.Tree.{Action, Commands, Command, Nothing, Append, Change, Insert, Delete, Substitute, Print}
use Rattle.edit_parts.specs.Tree.{LineNumber, RuneNumber, Block, Asks, Done, Then}
use Rattle.edit_parts.specs.Kinds.{kind_of, puts, sends}
use Rattle.edit_parts.specs.Pieces.{Piece, Blank, EndsLine, At, Loops, Opens, Closes, Does, ActsAs, GoesOnAs}
use Rattle.edit_parts.specs.declared.kind.Place.{Place}
use Rattle.edit_parts.specs.declared.kind.Place.TheVariants.{Behind, Instead, Before}
use Rattle.edit_parts.specs.declared.kind.Way.{Way}
use Rattle.edit_parts.specs.declared.kind.Way.TheVariants.{Move, Copy}
use Rattle.edit_parts.specs.declared.kind.Letter.{Letter}
use Rattle.edit_parts.specs.declared.kind.Letter.TheVariants as letter
use Rattle.edit_parts.specs.declared.kind.Kind.{Kind}
use Rattle.edit_parts.specs.declared.kind.Kind.TheVariants as kind
use Rattle.sam_syntax.specs.Joined.{Head, OpenBlock, Line, Opened, Looping, Addressed, Ended, Reading, begin, is_done}
use Rattle.sam_syntax.specs.Joined.{in_loops, commands_of, block_of, whole, after_piece, after_pieces}
use Rattle.sam_syntax.specs.Grammar.{BeginsWith}
use Rattle.sam_syntax.specs.Written.{without_blanks, AtAddress, Acts, Lines, Begins, Writes}
use Rattle.sam_syntax.specs.Laws.{JoinsAsWritten, EditsAreWritten}
use Rattle.sam_syntax.proofs.Written.{written_joined}
use Rattle.sam_syntax.proofs.Rows.{joined_none}

-- ---- the letters of a text

-- a letter's piece is the whole of what it does
abbrev IsLetter : Action → Type 0
IsLetter act = (rest : List Piece) → Acts act (Does act ∷ rest) rest

letter_is : (a b : Action) → a ≡ b → IsLetter b → IsLetter a
letter_is a b e x = subst (λ (act : Action). IsLetter act) (sym e) x

puts_letter : (place : Place) (t : List ℕ) → IsLetter (puts place t)
puts_letter Behind t rest = refl
puts_letter Instead t rest = refl
puts_letter Before t rest = refl

sends_letter : (way : Way) (a : address.Tree) → IsLetter (sends way a)
sends_letter Move a rest = refl
sends_letter Copy a rest = refl

acts_letter : (l : Letter) (act : Action) (text rest : List ℕ) → ActsAs l act text rest → IsLetter act
acts_letter (letter.Puts place) act text rest x = letter_is act (puts place x.0) x.1 (puts_letter place x.0)
acts_letter letter.Delete act text rest x = letter_is act tree.Delete x.0 (λ row. refl)
acts_letter letter.Substitute act text rest x = letter_is act (tree.Substitute x.0 x.1 x.2 x.3) x.4 (λ row. refl)
acts_letter (letter.Sends way) act text rest x = letter_is act (sends way x.0) x.1 (sends_letter way x.0)
acts_letter letter.Print act text rest x = letter_is act tree.Print x.0 (λ row. refl)
acts_letter letter.Equals act text rest (inl x) = letter_is act tree.RuneNumber x.0 (λ row. refl)
acts_letter letter.Equals act text rest (inr x) = letter_is act tree.LineNumber x.0 (λ row. refl)
acts_letter (letter.Asks request) act text rest x = letter_is act _ x.1 (λ row. refl)

abbrev IsPlain : Piece → Type 0
IsPlain Blank = Unit {0}
IsPlain EndsLine = Unit {0}
IsPlain (At a) = Unit {0}
IsPlain (Loops kind re) = Unit {0}
IsPlain Opens = Unit {0}
IsPlain Closes = Unit {0}
IsPlain (Does act) = IsLetter act

plain_is : (p q : Piece) → p ≡ q → IsPlain q → IsPlain p
plain_is p q e x = subst (λ (r : Piece). IsPlain r) (sym e) x

goes_plain : (k : Kind) (p : Piece) (c : ℕ) (text rest : List ℕ) → GoesOnAs k p c text rest → IsPlain p
goes_plain kind.Blank p c text rest x = plain_is p Blank x.0 tt
goes_plain kind.EndsLine p c text rest x = plain_is p EndsLine x.0 tt
goes_plain kind.Address p c text rest x = plain_is p (At x.0) x.1 tt
goes_plain (kind.Loops k) p c text rest x = plain_is p (Loops _ x.0) x.1 tt
goes_plain kind.Opens p c text rest x = plain_is p Opens x.0 tt
goes_plain kind.Closes p c text rest x = plain_is p Closes x.0 tt
goes_plain (kind.Acts l) p c text rest x = plain_is p (Does x.0) x.1 (acts_letter l x.0 text rest x.2)
goes_plain kind.Other p c text rest x = absurd x

abbrev ArePlain : List Piece → Type 0
ArePlain [] = Unit {0}
ArePlain (p ∷ ps) = IsPlain p × ArePlain ps

row_plain : (ps : List Piece) (text rest : List ℕ) → BeginsWith ps text rest → ArePlain ps
row_plain [] text rest x = tt
row_plain (p ∷ ps) text rest ([], behind, e, z, on) = absurd z
row_plain (p ∷ ps) text rest (c ∷ cs, behind, e, z, on) = (
  goes_plain (kind_of c) p c (cs ++ behind) behind
      (z behind refl),
  row_plain ps behind rest on,
)

-- ---- how far a row is read

abbrev here : List OpenBlock → Line → Reading
here bs line = record { blocks = bs; line = line }

abbrev Address : address.Tree → List Piece → List Piece → Type 0
Address a row rest = ((a ≡ Missing) × (row ≡ rest)) ⊎ (row ≡ At a ∷ rest)

-- loops, each with its address, the innermost last
abbrev InLoops : List Head → List Piece → List Piece → Type 0
InLoops [] row rest = row ≡ rest
InLoops (h ∷ hs) row rest = (mid : List Piece) × InLoops hs row mid × Address h.addr mid (Loops h.kind h.re ∷ rest)

-- commands, each with the end of its line
abbrev Ends : List Command → List Piece → List Piece → Type 0
Ends [] row rest = row ≡ rest
Ends (c ∷ cs) row rest = (next : List Piece) × Begins c row (EndsLine ∷ next) × Ends cs next rest

-- an open block and its commands so far
abbrev InBlock : OpenBlock → List Piece → List Piece → Type 0
InBlock b row rest = (mid inside : List Piece) × InLoops b.heads row mid
    × Address b.addr mid (Opens ∷ EndsLine ∷ inside) × Ends b.commands inside rest

abbrev InBlocks : List OpenBlock → List Piece → List Piece → Type 0
InBlocks [] row rest = row ≡ rest
InBlocks (b ∷ bs) row rest = (outer : List Piece) × InBlocks bs row outer × InBlock b outer rest

-- behind `{`
abbrev IsOpened : List OpenBlock → List Piece → List Piece → Type 0
IsOpened [] row rest = ⊥
IsOpened (b ∷ bs) row rest = (outer mid : List Piece) × InBlocks bs row outer × InLoops b.heads outer mid
    × Address b.addr mid (Opens ∷ rest) × (b.commands ≡ [])

abbrev Reached : List OpenBlock → Line → List Piece → List Piece → Type 0
Reached bs Opened row rest = IsOpened bs row rest
Reached bs (Looping hs) row rest = (start : List Piece) × InBlocks bs row start × InLoops hs start rest
Reached bs (Addressed hs a) row rest = (start : List Piece) × InBlocks bs row start × InLoops hs start (At a ∷ rest)
Reached bs (Ended c) row rest = (start : List Piece) × InBlocks bs row start × Begins c start rest

abbrev Leads : Option Reading → List Piece → List Piece → Type 0
Leads None row rest = Unit {0}
Leads (Some s) row rest = Reached s.blocks s.line row rest

-- ---- what is behind a command isn't longer

abbrev Shrinks : (List Piece → List Piece → Type 0) → Type 0
Shrinks P = (row rest : List Piece) → P row rest → length rest ≤ length row

at_shrinks : (a : address.Tree) (P : List Piece → List Piece → Type 0) → Shrinks P → Shrinks (AtAddress a P)
at_shrinks a P f row rest (inl x) = f row rest x.1
at_shrinks a P f row rest (inr x) = omega (arith, f x.0 rest x.2, ap length x.1)

letter_shrinks : (act : Action) (row rest : List Piece) → row ≡ Does act ∷ rest → length rest ≤ length row
letter_shrinks act row rest e = omega (arith, ap length e)

mutual
  act_shrinks : (act : Action) → Shrinks (Acts act)
  act_shrinks Nothing row rest x = omega (arith, ap length x)
  act_shrinks (Append t) row rest x = letter_shrinks (Append t) row rest x
  act_shrinks (Change t) row rest x = letter_shrinks (Change t) row rest x
  act_shrinks (Insert t) row rest x = letter_shrinks (Insert t) row rest x
  act_shrinks Delete row rest x = letter_shrinks Delete row rest x
  act_shrinks (Substitute n re with all) row rest x = letter_shrinks (Substitute n re with all) row rest x
  act_shrinks (tree.Move to) row rest x = letter_shrinks (tree.Move to) row rest x
  act_shrinks (tree.Copy to) row rest x = letter_shrinks (tree.Copy to) row rest x
  act_shrinks Print row rest x = letter_shrinks Print row rest x
  act_shrinks LineNumber row rest x = letter_shrinks LineNumber row rest x
  act_shrinks RuneNumber row rest x = letter_shrinks RuneNumber row rest x
  act_shrinks (tree.Loops kind re a act) row rest (behind, e, inl x) = omega (arith, ap length e, ap length x.0)
  act_shrinks (tree.Loops kind re a act) row rest (behind, e, inr x) =
      omega (arith, ap length e, at_shrinks a (Acts act) (act_shrinks act) behind rest x.1)
  act_shrinks (Block all) row rest (lines, e, x) = omega (arith, ap length e, lines_shrink all lines rest x)
  act_shrinks (Asks kind command) row rest x = letter_shrinks (Asks kind command) row rest x

  lines_shrink : (all : Commands) → Shrinks (Lines all)
  lines_shrink Done row rest x = omega (arith, ap length x)
  lines_shrink (Then a act more) row rest (next, x, y) = omega (
    arith,
    at_shrinks a (Acts act) (act_shrinks act) row (EndsLine ∷ next) x,
    lines_shrink more next rest y,
  )

ends_shrink : (cs : List Command) → Shrinks (Ends cs)
ends_shrink [] row rest x = omega (arith, ap length x)
ends_shrink (c ∷ cs) row rest (next, x, y) = omega (
  arith,
  at_shrinks c.0 (Acts c.1) (act_shrinks c.1) row
      (EndsLine ∷ next) x,
  ends_shrink cs next rest y,
)

-- ---- commands

at_address : (a : address.Tree) (P : List Piece → List Piece → Type 0) (row mid rest : List Piece) → Address a row mid
    → P mid rest → AtAddress a P row rest
at_address a P row mid rest (inl x) p = inl (x.0, subst (λ (r : List Piece). P r rest) (sym x.1) p)
at_address a P row mid rest (inr x) p = inr (mid, x, p)

address_length : (a : address.Tree) (row rest : List Piece) → Address a row rest → (n : ℕ) → n < length rest
    → n < length row
address_length a row rest (inl x) n l = omega (arith, l, ap length x.1)
address_length a row rest (inr x) n l = omega (arith, l, ap length x)

differs : (row rest : List Piece) → length rest < length row → row ≢ rest
differs row rest l = λ e. absurd (omega (arith, l, ap length e))

in_loops_begins : (hs : List Head) (c : Command) (row mid rest : List Piece) → InLoops hs row mid → Begins c mid rest
    → length rest < length mid → Begins (in_loops hs c) row rest
in_loops_begins [] c row mid rest x y l = subst (λ (r : List Piece). Begins c r rest) (sym x) y
in_loops_begins (h ∷ hs) c row mid rest x y l =
    in_loops_begins hs (h.addr, tree.Loops h.kind h.re c.0 c.1) row x.0 rest x.1
    (at_address h.addr (Acts (tree.Loops h.kind h.re c.0 c.1)) x.0 (Loops h.kind h.re ∷ mid) rest x.2
    (mid, refl, inr (differs mid rest l, y)))
    (address_length h.addr x.0 (Loops h.kind h.re ∷ mid) x.2 (length rest) (omega (arith, l)))

loops_begin : (h : Head) (hs : List Head) (row rest : List Piece) → InLoops (h ∷ hs) row rest
    → Begins (in_loops (h ∷ hs) (Missing, Print)) row rest
loops_begin h hs row rest x =
    in_loops_begins hs (h.addr, tree.Loops h.kind h.re Missing Print) row x.0 rest x.1
    (at_address h.addr (Acts (tree.Loops h.kind h.re Missing Print)) x.0 (Loops h.kind h.re ∷ rest) rest x.2
    (rest, refl, inl (refl, refl, refl)))
    (address_length h.addr x.0 (Loops h.kind h.re ∷ rest) x.2 (length rest) (omega arith))

address_begins : (hs : List Head) (a : address.Tree) (row rest : List Piece) → InLoops hs row (At a ∷ rest)
    → Begins (in_loops hs (a, Nothing)) row rest
address_begins hs a row rest x = in_loops_begins hs (a, Nothing) row (At a ∷ rest) rest x (inr (rest, refl, refl))
    (omega arith)

nothing_begins : (row rest : List Piece) → row ≡ rest → Begins (Missing, Nothing) row rest
nothing_begins row rest e = inl (refl, e)

-- ---- blocks

ends_snoc : (cs : List Command) (c : Command) (row start rest : List Piece) → Ends cs row start
    → Begins c start (EndsLine ∷ rest) → Ends (cs ++ c ∷ []) row rest
ends_snoc [] c row start rest x y = (rest, subst (λ (r : List Piece). Begins c r (EndsLine ∷ rest)) (sym x) y, refl)
ends_snoc (d ∷ cs) c row start rest x y = (x.0, x.1, ends_snoc cs c x.0 start rest x.2 y)

ends_lines : (cs : List Command) (row rest : List Piece) → Ends cs row (Closes ∷ rest) → Lines (commands_of cs) row rest
ends_lines [] row rest x = x
ends_lines (c ∷ cs) row rest x = (x.0, x.1, ends_lines cs x.0 rest x.2)

block_begins : (b : OpenBlock) (row rest : List Piece) → InBlock b row (Closes ∷ rest) → Begins (block_of b) row rest
block_begins b row rest x =
    in_loops_begins b.heads (b.addr, Block (commands_of b.commands)) row x.0 rest x.2
    (at_address b.addr (Acts (Block (commands_of b.commands))) x.0 (Opens ∷ EndsLine ∷ x.1) rest x.3
    (x.1, refl, ends_lines b.commands x.1 rest x.4))
    (address_length b.addr x.0 (Opens ∷ EndsLine ∷ x.1) x.3 (length rest)
    (omega (arith, ends_shrink b.commands x.1 (Closes ∷ rest) x.4)))

-- ---- one piece more

line_ends : (b : OpenBlock) (bs : List OpenBlock) (c : Command) (row start rest : List Piece)
    → InBlocks (b ∷ bs) row start → Begins c start (EndsLine ∷ rest)
    → InBlocks (record b { commands = b.commands ++ c ∷ [] } ∷ bs) row rest
line_ends b bs c row start rest (outer, x, (mid, inside, y, z, w)) v =
    (outer, x, (mid, inside, y, z, ends_snoc b.commands c inside start rest w v))

with_newline : (bs : List OpenBlock) (line : Line) (row rest : List Piece) → Reached bs line row (EndsLine ∷ rest)
    → Leads (after_piece (here bs line) EndsLine) row rest
with_newline [] line row rest x = tt
with_newline (b ∷ bs) Opened row rest (outer, mid, x, y, z, e) = (
  rest,
  (outer, x, (mid, rest, y, z, subst (λ (cs : List Command). Ends cs rest rest) (sym e) refl)),
  refl,
)
with_newline (b ∷ bs) (Looping []) row rest (start, x, y) =
    (rest, line_ends b bs (Missing, Nothing) row start rest x (nothing_begins start (EndsLine ∷ rest) y), refl)
with_newline (b ∷ bs) (Looping (h ∷ hs)) row rest (start, x, y) = (
  rest,
  line_ends b bs (in_loops (h ∷ hs) (Missing, Print)) row start rest x
      (loops_begin h hs start (EndsLine ∷ rest) y),
  refl,
)
with_newline (b ∷ bs) (Addressed hs a) row rest (start, x, y) = (
  rest,
  line_ends b bs (in_loops hs (a, Nothing)) row start rest x (address_begins hs a start (EndsLine ∷ rest) y),
  refl,
)
with_newline (b ∷ bs) (Ended c) row rest (start, x, y) = (rest, line_ends b bs c row start rest x y, refl)

with_address : (bs : List OpenBlock) (line : Line) (a : address.Tree) (row rest : List Piece)
    → Reached bs line row (At a ∷ rest) → Leads (after_piece (here bs line) (At a)) row rest
with_address bs Opened a row rest x = tt
with_address bs (Looping hs) a row rest x = x
with_address bs (Addressed hs b) a row rest x = tt
with_address bs (Ended c) a row rest x = tt

with_loop : (bs : List OpenBlock) (line : Line) (kind : tree.Loop) (re : expression.Tree) (row rest : List Piece)
    → Reached bs line row (Loops kind re ∷ rest) → Leads (after_piece (here bs line) (Loops kind re)) row rest
with_loop bs Opened kind re row rest x = tt
with_loop bs (Looping hs) kind re row rest (start, x, y) = (start, x, (Loops kind re ∷ rest, y, inl (refl, refl)))
with_loop bs (Addressed hs a) kind re row rest (start, x, y) = (start, x, (At a ∷ Loops kind re ∷ rest, y, inr refl))
with_loop bs (Ended c) kind re row rest x = tt

with_brace : (bs : List OpenBlock) (line : Line) (row rest : List Piece) → Reached bs line row (Opens ∷ rest)
    → Leads (after_piece (here bs line) Opens) row rest
with_brace bs Opened row rest x = tt
with_brace bs (Looping hs) row rest (start, x, y) = (start, Opens ∷ rest, x, y, inl (refl, refl), refl)
with_brace bs (Addressed hs a) row rest (start, x, y) = (start, At a ∷ Opens ∷ rest, x, y, inr refl, refl)
with_brace bs (Ended c) row rest x = tt

with_end : (bs : List OpenBlock) (line : Line) (row rest : List Piece) → Reached bs line row (Closes ∷ rest)
    → Leads (after_piece (here bs line) Closes) row rest
with_end [] line row rest x = tt
with_end (b ∷ bs) Opened row rest x = tt
with_end (b ∷ bs) (Looping []) row rest (start, (outer, x, y), e) =
    (outer, x, block_begins b outer rest (subst (λ (r : List Piece). InBlock b outer r) e y))
with_end (b ∷ bs) (Looping (h ∷ hs)) row rest x = tt
with_end (b ∷ bs) (Addressed hs a) row rest x = tt
with_end (b ∷ bs) (Ended c) row rest x = tt

with_letter : (bs : List OpenBlock) (line : Line) (act : Action) (row rest : List Piece) → IsLetter act
    → Reached bs line row (Does act ∷ rest) → Leads (after_piece (here bs line) (Does act)) row rest
with_letter bs Opened act row rest f x = tt
with_letter bs (Looping hs) act row rest f (start, x, y) =
    (start, x, in_loops_begins hs (Missing, act) start (Does act ∷ rest) rest y (inl (refl, f rest)) (omega arith))
with_letter bs (Addressed hs a) act row rest f (start, x, y) = (
  start,
  x,
  in_loops_begins hs (a, act) start (At a ∷ Does act ∷ rest) rest y (inr (Does act ∷ rest, refl, f rest))
      (omega arith),
)
with_letter bs (Ended c) act row rest f x = tt

-- ---- rows

on_with : (row : List Piece) (ps : List Piece) (o : Option Reading) (s : Reading) → Leads o row (without_blanks ps)
    → ((r : Reading) → Reached r.blocks r.line row (without_blanks ps) → after_pieces (Some r) ps ≡ Some s
    → Reached s.blocks s.line row []) → after_pieces o ps ≡ Some s → Reached s.blocks s.line row []
on_with row ps None s x f e = let n : after_pieces None ps ≡ None = joined_none ps in absurd cc
on_with row ps (Some r) s x f e = f r x e

reads_on : (row ps : List Piece) → ArePlain ps → (r s : Reading) → Reached r.blocks r.line row (without_blanks ps)
    → after_pieces (Some r) ps ≡ Some s → Reached s.blocks s.line row []
reads_on row [] z r s x e = let same : r ≡ s = cc in subst (λ (q : Reading). Reached q.blocks q.line row []) same x
reads_on row (Blank ∷ ps) z r s x e = reads_on row ps z.1 r s x e
reads_on row (EndsLine ∷ ps) z r s x e = on_with row ps (after_piece r EndsLine) s
    (with_newline r.blocks r.line row (without_blanks ps) x) (λ q y g. reads_on row ps z.1 q s y g) e
reads_on row (At a ∷ ps) z r s x e = on_with row ps (after_piece r (At a)) s
    (with_address r.blocks r.line a row (without_blanks ps) x) (λ q y g. reads_on row ps z.1 q s y g) e
reads_on row (Loops kind re ∷ ps) z r s x e = on_with row ps (after_piece r (Loops kind re)) s
    (with_loop r.blocks r.line kind re row (without_blanks ps) x) (λ q y g. reads_on row ps z.1 q s y g) e
reads_on row (Opens ∷ ps) z r s x e = on_with row ps (after_piece r Opens) s
    (with_brace r.blocks r.line row (without_blanks ps) x) (λ q y g. reads_on row ps z.1 q s y g) e
reads_on row (Closes ∷ ps) z r s x e = on_with row ps (after_piece r Closes) s
    (with_end r.blocks r.line row (without_blanks ps) x) (λ q y g. reads_on row ps z.1 q s y g) e
reads_on row (Does act ∷ ps) z r s x e = on_with row ps (after_piece r (Does act)) s
    (with_letter r.blocks r.line act row (without_blanks ps) z.0 x) (λ q y g. reads_on row ps z.1 q s y g) e

ends_begin : (bs : List OpenBlock) (line : Line) (row : List Piece)
    → is_done (here bs line) ≡ true → Reached bs line row [] → Begins (whole (here bs line)) row []
ends_begin (b ∷ bs) line row e x = absurd cc
ends_begin [] Opened row e x = absurd x
ends_begin [] (Looping []) row e (start, x, y) = nothing_begins row [] (x ∙ y)
ends_begin [] (Looping (h ∷ hs)) row e (start, x, y) = loops_begin h hs row []
    (subst (λ (r : List Piece). InLoops (h ∷ hs) r []) (sym x) y)
ends_begin [] (Addressed hs a) row e (start, x, y) = address_begins hs a row []
    (subst (λ (r : List Piece). InLoops hs r (At a ∷ [])) (sym x) y)
ends_begin [] (Ended c) row e (start, x, y) = subst (λ (r : List Piece). Begins c r []) (sym x) y

joined_written : (ps : List Piece) (text : List ℕ) → BeginsWith ps text [] → (r : Reading)
    → after_pieces (Some begin) ps ≡ Some r → is_done r ≡ true → Writes ps (whole r)
joined_written ps text cut r e done =
    ends_begin r.blocks r.line (without_blanks ps) done (reads_on (without_blanks ps) ps (row_plain ps text [] cut)
    begin r (without_blanks ps, refl, refl) e)

-- ---- both

pub joins_as_written : JoinsAsWritten
joins_as_written text ps c cut = (
  λ x. subst (λ (d : Command). Writes ps d) (sym x.3) (joined_written ps text cut x.0 x.1 x.2),
  λ x. written_joined ps c x,
)

pub edits_are_written : EditsAreWritten
edits_are_written text c = (
  λ x. (x.0, x.2, subst (λ (d : Command). Writes x.0 d) (sym x.5) (joined_written x.0 text x.2 x.1 x.3 x.4)),
  λ x. let j = written_joined x.0 c x.2 in (x.0, j.0, x.1, j.1, j.2, j.3),
)
