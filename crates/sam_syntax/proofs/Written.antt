-- What is written is joined so.
use Rattle.std.proofs.Common.{◌≡◌, ◌≢◌, Bool, true, false, List, [], ◌∷◌, ◌++◌, Option, Some, None, refl, sym, ap}
use Rattle.std.proofs.Common.{subst, ◌∙◌, inl, inr}
use Rattle.re_syntax.specs.Tree as expression
use Rattle.addr_syntax.specs.Tree as address
use Rattle.addr_syntax.specs.Tree.{Missing}
use Rattle.edit_parts.specs.Tree as tree
use Rattle.edit_parts.specs.Tree.{Action, Commands, Command, Nothing, Append, Change, Insert, Delete, Substitute, Move}
use Rattle.edit_parts.specs.Tree.{Copy, Print, LineNumber, RuneNumber, Block, Asks, Done, Then}
use Rattle.edit_parts.specs.Pieces.{Piece, Blank, EndsLine, At, Loops, Opens, Closes, Does}
use Rattle.sam_syntax.specs.Joined.{Head, OpenBlock, Line, Opened, Looping, Addressed, Ended, Reading, begin, is_done}
use Rattle.sam_syntax.specs.Joined.{in_loops, commands_of, command_of, with_command, with_line, after_piece}
use Rattle.sam_syntax.specs.Joined.{after_pieces}
use Rattle.sam_syntax.specs.Written.{without_blanks, AtAddress, Acts, Lines, Writes}
use Rattle.sam_syntax.specs.Laws.{IsJoined}
use Rattle.sam_syntax.proofs.Rows.{joined_none}

abbrev here : List OpenBlock → Line → Reading
here bs line = record { blocks = bs; line = line }

-- ---- blanks

pub joined_blanks : (o : Option Reading) (ps : List Piece) → after_pieces o ps ≡ after_pieces o (without_blanks ps)
joined_blanks None ps = joined_none ps ∙ sym (joined_none (without_blanks ps))
joined_blanks (Some r) [] = refl
joined_blanks (Some r) (Blank ∷ ps) = joined_blanks (Some r) ps
joined_blanks (Some r) (EndsLine ∷ ps) = joined_blanks (after_piece r EndsLine) ps
joined_blanks (Some r) (At a ∷ ps) = joined_blanks (after_piece r (At a)) ps
joined_blanks (Some r) (Loops kind re ∷ ps) = joined_blanks (after_piece r (Loops kind re)) ps
joined_blanks (Some r) (Opens ∷ ps) = joined_blanks (after_piece r Opens) ps
joined_blanks (Some r) (Closes ∷ ps) = joined_blanks (after_piece r Closes) ps
joined_blanks (Some r) (Does act ∷ ps) = joined_blanks (after_piece r (Does act)) ps

-- ---- what is written is joined so

-- a line behind loops, and behind an address where there is one
abbrev begun : List Head → Option address.Tree → Line
begun hs None = Looping hs
begun hs (Some a) = Addressed hs a

abbrev addr_of : Option address.Tree → address.Tree
addr_of None = Missing
addr_of (Some a) = a

-- behind loops something stands
abbrev Stands : List Head → Option address.Tree → List Piece → List Piece → Type 0
Stands [] o row rest = Unit {0}
Stands (h ∷ hs) None row rest = row ≢ rest
Stands (h ∷ hs) (Some a) row rest = Unit {0}

stands_at : (hs : List Head) (a : address.Tree) (row rest : List Piece) → Stands hs (Some a) row rest
stands_at [] a row rest = tt
stands_at (h ∷ hs) a row rest = tt

abbrev is_opened : Line → Bool
is_opened Opened = true
is_opened (Looping hs) = false
is_opened (Addressed hs a) = false
is_opened (Ended c) = false

-- from this line the row leads to one whose command this is
abbrev Reads : List OpenBlock → Line → List Piece → List Piece → Command → Type 0
Reads bs line row rest c =
    (new : Line) × (after_pieces (Some (here bs line)) row ≡ after_pieces (Some (here bs new)) rest)
    × (is_opened new ≡ false) × (command_of new ≡ c)

abbrev ActReads : Action → Type 0
ActReads act = (bs : List OpenBlock) (hs : List Head) (o : Option address.Tree) (row rest : List Piece)
    → Stands hs o row rest → Acts act row rest → Reads bs (begun hs o) row rest (in_loops hs (addr_of o, act))

command_reads : (act : Action) → ActReads act → (a : address.Tree) (bs : List OpenBlock) (hs : List Head)
    (row rest : List Piece) → Stands hs None row rest → AtAddress a (Acts act) row rest
    → Reads bs (Looping hs) row rest (in_loops hs (a, act))
command_reads act f a bs hs row rest st (inl x) = subst (λ (b : address.Tree). Reads bs (Looping hs) row rest
    (in_loops hs (b, act))) (sym x.0) (f bs hs None row rest st x.1)
command_reads act f a bs hs row rest st (inr x) =
    let on = f bs hs (Some a) x.0 rest (stands_at hs a x.0 rest) x.2 in
    (on.0, ap (λ (l : List Piece). after_pieces (Some (here bs (Looping hs))) l) x.1 ∙ on.1, on.2, on.3)

letter_reads : (act : Action) (bs : List OpenBlock) (hs : List Head) (o : Option address.Tree) (row rest : List Piece)
    → row ≡ Does act ∷ rest → Reads bs (begun hs o) row rest (in_loops hs (addr_of o, act))
letter_reads act bs hs None row rest e = (
  Ended (in_loops hs (Missing, act)),
  ap (λ (l : List Piece). after_pieces (Some (here bs (Looping hs))) l) e,
  refl,
  refl,
)
letter_reads act bs hs (Some a) row rest e = (
  Ended (in_loops hs (a, act)),
  ap (λ (l : List Piece). after_pieces (Some (here bs (Addressed hs a))) l) e,
  refl,
  refl,
)

nothing_reads : ActReads Nothing
nothing_reads bs [] None row rest st e = (
  Looping [],
  ap (λ (l : List Piece). after_pieces (Some (here bs (Looping [])))
      l) e,
  refl,
  refl,
)
nothing_reads bs (h ∷ hs) None row rest st e = absurd (st e)
nothing_reads bs hs (Some a) row rest st e = (
  Addressed hs a,
  ap (λ (l : List Piece).
      after_pieces (Some (here bs (Addressed hs a))) l) e,
  refl,
  refl,
)

abbrev head_at : Option address.Tree → tree.Loop → expression.Tree → Head
head_at o kind re = record { addr = addr_of o; kind = kind; re = re }

looping : (bs : List OpenBlock) (hs : List Head) (o : Option address.Tree) (kind : tree.Loop) (re : expression.Tree)
    (row : List Piece) → after_pieces (Some (here bs (begun hs o)))
    (Loops kind re ∷ row) ≡ after_pieces (Some (here bs (Looping (head_at o kind re ∷ hs)))) row
looping bs hs None kind re row = refl
looping bs hs (Some a) kind re row = refl

loop_reads : (kind : tree.Loop) (re : expression.Tree) (a : address.Tree) (act : Action) → ActReads act
    → ActReads (tree.Loops kind re a act)
loop_reads kind re a act f bs hs o row rest st (behind, e, inl x) = (
  Looping (head_at o kind re ∷ hs),
  ap (λ (l : List Piece). after_pieces (Some (here bs (begun hs o))) l) e ∙ looping bs hs o kind re behind
      ∙ ap (λ (l : List Piece). after_pieces (Some (here bs (Looping (head_at o kind re ∷ hs)))) l) x.0,
  refl,
  sym (ap (λ (b : address.Tree). in_loops hs (addr_of o, tree.Loops kind re b act)) x.1
      ∙ ap (λ (d : Action). in_loops hs (addr_of o, tree.Loops kind re Missing d)) x.2),
)
loop_reads kind re a act f bs hs o row rest st (behind, e, inr x) =
    let on = command_reads act f a bs (head_at o kind re ∷ hs) behind rest x.0 x.1 in (
      on.0,
      ap (λ (l : List Piece). after_pieces (Some (here bs (begun hs o))) l) e ∙ looping bs hs o kind re behind
          ∙ on.1,
      on.2,
      on.3,
    )

-- these commands, and then all of those
abbrev after : List Command → Commands → Commands
after [] all = all
after (c ∷ cs) all = Then c.0 c.1 (after cs all)

after_done : (cs : List Command) → commands_of cs ≡ after cs Done
after_done [] = refl
after_done (c ∷ cs) = ap (λ (all : Commands). Then c.0 c.1 all) (after_done cs)

after_snoc : (cs : List Command) (c : Command) (all : Commands) → after (cs ++ c ∷ []) all ≡ after cs (Then c.0 c.1 all)
after_snoc [] c all = refl
after_snoc (d ∷ cs) c all = ap (λ (more : Commands). Then d.0 d.1 more) (after_snoc cs c all)

abbrev LinesRead : Commands → Type 0
LinesRead all = (bs : List OpenBlock) (b : OpenBlock) (row rest : List Piece) → Lines all row rest
    → after_pieces (Some (here (b ∷ bs) (Looping []))) row ≡ after_pieces
    (Some (here bs (Ended (in_loops b.heads (b.addr, Block (after b.commands all)))))) rest

done_reads : LinesRead Done
done_reads bs b row rest e =
    ap (λ (l : List Piece). after_pieces (Some (here (b ∷ bs) (Looping []))) l) e
    ∙ ap (λ (all : Commands). after_pieces (Some (here bs (Ended (in_loops b.heads (b.addr, Block all))))) rest)
    (after_done b.commands)

with_line_is : (b : OpenBlock) (line : Line) → is_opened line ≡ false → with_line b line ≡ with_command b
    (command_of line)
with_line_is b Opened e = absurd cc
with_line_is b (Looping hs) e = refl
with_line_is b (Addressed hs a) e = refl
with_line_is b (Ended c) e = refl

then_reads : (a : address.Tree) (act : Action) (more : Commands) → ActReads act → LinesRead more
    → LinesRead (Then a act more)
then_reads a act more f g bs b row rest (next, x, y) =
    let on = command_reads act f a (b ∷ bs) [] row (EndsLine ∷ next) tt x in
    on.1
    ∙ ap (λ (d : OpenBlock). after_pieces (Some (here (d ∷ bs) (Looping []))) next)
    (with_line_is b on.0 on.2 ∙ ap (λ (c : Command). with_command b c) on.3)
    ∙ g bs (with_command b (a, act)) next rest y
    ∙ ap (λ (all : Commands). after_pieces (Some (here bs (Ended (in_loops b.heads (b.addr, Block all))))) rest)
    (after_snoc b.commands (a, act) more)

opening : (bs : List OpenBlock) (hs : List Head) (o : Option address.Tree) (row : List Piece)
    → after_pieces (Some (here bs (begun hs o))) (Opens ∷ EndsLine ∷ row)
    ≡ after_pieces (Some (here (record { heads = hs; addr = addr_of o; commands = [] } ∷ bs) (Looping []))) row
opening bs hs None row = refl
opening bs hs (Some a) row = refl

block_reads : (all : Commands) → LinesRead all → ActReads (Block all)
block_reads all f bs hs o row rest st (lines, e, x) = (
  Ended (in_loops hs (addr_of o, Block all)),
  ap (λ (l : List Piece). after_pieces (Some (here bs (begun hs o))) l) e ∙ opening bs hs o lines
      ∙ f bs (record { heads = hs; addr = addr_of o; commands = [] }) lines rest x,
  refl,
  refl,
)

mutual
  act_reads : (act : Action) → ActReads act
  act_reads Nothing = nothing_reads
  act_reads (Append t) = λ bs hs o row rest st e. letter_reads (Append t) bs hs o row rest e
  act_reads (Change t) = λ bs hs o row rest st e. letter_reads (Change t) bs hs o row rest e
  act_reads (Insert t) = λ bs hs o row rest st e. letter_reads (Insert t) bs hs o row rest e
  act_reads Delete = λ bs hs o row rest st e. letter_reads Delete bs hs o row rest e
  act_reads (Substitute n re with all) = λ bs hs o row rest st e. letter_reads (Substitute n re with all) bs hs o row
      rest e
  act_reads (Move to) = λ bs hs o row rest st e. letter_reads (Move to) bs hs o row rest e
  act_reads (Copy to) = λ bs hs o row rest st e. letter_reads (Copy to) bs hs o row rest e
  act_reads Print = λ bs hs o row rest st e. letter_reads Print bs hs o row rest e
  act_reads LineNumber = λ bs hs o row rest st e. letter_reads LineNumber bs hs o row rest e
  act_reads RuneNumber = λ bs hs o row rest st e. letter_reads RuneNumber bs hs o row rest e
  act_reads (tree.Loops kind re a act) = loop_reads kind re a act (act_reads act)
  act_reads (Block all) = block_reads all (lines_read all)
  act_reads (Asks kind command) = λ bs hs o row rest st e. letter_reads (Asks kind command) bs hs o row rest e

  lines_read : (all : Commands) → LinesRead all
  lines_read Done = done_reads
  lines_read (Then a act more) = then_reads a act more (act_reads act) (lines_read more)

ends_done : (line : Line) → is_opened line ≡ false → is_done (here [] line) ≡ true
ends_done Opened e = absurd cc
ends_done (Looping hs) e = refl
ends_done (Addressed hs a) e = refl
ends_done (Ended c) e = refl

pub written_joined : (ps : List Piece) (c : Command) → Writes ps c → IsJoined ps c
written_joined ps c x =
    let on = command_reads c.1 (act_reads c.1) c.0 [] [] (without_blanks ps) [] tt x in
    (here [] on.0, joined_blanks (Some begin) ps ∙ on.1, ends_done on.0 on.2, sym on.3)
