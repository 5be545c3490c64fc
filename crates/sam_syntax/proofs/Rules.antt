-- How rows of pieces are joined.
use Rattle.std.proofs.Common.{◌≡◌, true, List, [], ◌∷◌, ◌++◌, Option, Some, None, refl, sym, ap, ◌∙◌, append-nil}
use Rattle.std.proofs.Common.{append_assoc}
use Rattle.addr_syntax.specs.Tree.{Missing}
use Rattle.edit_parts.specs.Tree as tree
use Rattle.edit_parts.specs.Tree.{Loop, Command, Nothing, Print, Block}
use Rattle.edit_parts.specs.Pieces.{Piece, Blank, EndsLine, At, Loops, Opens, Closes, Does}
use Rattle.sam_syntax.specs.Joined.{Head, OpenBlock, Line, Opened, Looping, Addressed, Ended, Reading, begin, is_done}
use Rattle.sam_syntax.specs.Joined.{in_loops, commands_of, with_line, whole, close_all, after_piece, after_pieces}
use Rattle.sam_syntax.specs.Laws.{body_of, LoopsTakeTheRest, AreLines, ended_lines, BlocksHoldTheirLines}
use Rattle.sam_syntax.proofs.Rows.{joined_none, joined_append}

-- ---- all that is read stands in one loop more, outside all others

abbrev looped : Head → Command → Command
looped h c = (h.addr, tree.Loops h.kind h.re c.0 c.1)

loops_snoc : (hs : List Head) (h : Head) (c : Command) → in_loops (hs ++ h ∷ []) c ≡ looped h (in_loops hs c)
loops_snoc [] h c = refl
loops_snoc (k ∷ ks) h c = loops_snoc ks h (k.addr, tree.Loops k.kind k.re c.0 c.1)

abbrev under_line : Head → Line → Line
under_line h Opened = Opened
under_line h (Looping hs) = Looping (hs ++ h ∷ [])
under_line h (Addressed hs a) = Addressed (hs ++ h ∷ []) a
under_line h (Ended c) = Ended (looped h c)

abbrev under_block : Head → OpenBlock → OpenBlock
under_block h b = record { heads = b.heads ++ h ∷ []; addr = b.addr; commands = b.commands }

abbrev under_blocks : Head → OpenBlock → List OpenBlock → List OpenBlock
under_blocks h b [] = under_block h b ∷ []
under_blocks h b (d ∷ ds) = b ∷ under_blocks h d ds

abbrev under_all : Head → List OpenBlock → Line → Reading
under_all h [] line = record { blocks = []; line = under_line h line }
under_all h (b ∷ bs) line = record { blocks = under_blocks h b bs; line = line }

abbrev under : Head → Reading → Reading
under h r = under_all h r.blocks r.line

abbrev UnderOn : Head → Option Reading → Option Reading → Type 0
UnderOn h None o = Unit {0}
UnderOn h (Some s) o = o ≡ Some (under h s)

with_line_under : (h : Head) (b : OpenBlock) (line : Line) → with_line (under_block h b) line ≡ under_block h
    (with_line b line)
with_line_under h b Opened = refl
with_line_under h b (Looping hs) = refl
with_line_under h b (Addressed hs a) = refl
with_line_under h b (Ended c) = refl

under_joins : (h : Head) (bs : List OpenBlock) (line : Line) (p : Piece)
    → UnderOn h (after_piece (record { blocks = bs; line = line }) p) (after_piece (under_all h bs line) p)
under_joins h [] line Blank = refl
under_joins h (b ∷ bs) line Blank = refl
under_joins h [] line EndsLine = tt
under_joins h (b ∷ []) line EndsLine = ap (λ (d : OpenBlock). Some (record { blocks = d ∷ []; line = Looping [] }))
    (with_line_under h b line)
under_joins h (b ∷ d ∷ ds) line EndsLine = refl
under_joins h bs Opened (At a) = tt
under_joins h [] (Looping hs) (At a) = refl
under_joins h (b ∷ bs) (Looping hs) (At a) = refl
under_joins h bs (Addressed hs b) (At a) = tt
under_joins h bs (Ended c) (At a) = tt
under_joins h bs Opened (Loops k re) = tt
under_joins h [] (Looping hs) (Loops k re) = refl
under_joins h (b ∷ bs) (Looping hs) (Loops k re) = refl
under_joins h [] (Addressed hs a) (Loops k re) = refl
under_joins h (b ∷ bs) (Addressed hs a) (Loops k re) = refl
under_joins h bs (Ended c) (Loops k re) = tt
under_joins h bs Opened Opens = tt
under_joins h [] (Looping hs) Opens = refl
under_joins h (b ∷ bs) (Looping hs) Opens = refl
under_joins h [] (Addressed hs a) Opens = refl
under_joins h (b ∷ bs) (Addressed hs a) Opens = refl
under_joins h bs (Ended c) Opens = tt
under_joins h [] line Closes = tt
under_joins h (b ∷ bs) Opened Closes = tt
under_joins h (b ∷ []) (Looping []) Closes = ap (λ (c : Command). Some (record { blocks = []; line = Ended c }))
    (loops_snoc b.heads h (b.addr, Block (commands_of b.commands)))
under_joins h (b ∷ d ∷ ds) (Looping []) Closes = refl
under_joins h (b ∷ bs) (Looping (k ∷ ks)) Closes = tt
under_joins h (b ∷ bs) (Addressed hs a) Closes = tt
under_joins h (b ∷ bs) (Ended c) Closes = tt
under_joins h bs Opened (Does act) = tt
under_joins h [] (Looping hs) (Does act) = ap (λ (c : Command). Some (record { blocks = []; line = Ended c }))
    (loops_snoc hs h (Missing, act))
under_joins h (b ∷ bs) (Looping hs) (Does act) = refl
under_joins h [] (Addressed hs a) (Does act) = ap (λ (c : Command). Some (record { blocks = []; line = Ended c }))
    (loops_snoc hs h (a, act))
under_joins h (b ∷ bs) (Addressed hs a) (Does act) = refl
under_joins h bs (Ended c) (Does act) = tt

under_pieces : (h : Head) (ps : List Piece) (r s : Reading) → after_pieces (Some r) ps ≡ Some s
    → after_pieces (Some (under h r)) ps ≡ Some (under h s)
under_pieces h [] r s e = let same : r ≡ s = cc in ap (λ (x : Reading). Some (under h x)) same
under_pieces h (p ∷ ps) r s e = go (after_piece r p) refl (under_joins h r.blocks r.line p)
    (λ x g. under_pieces h ps x s g)
  where
    go : (o : Option Reading) → after_piece r p ≡ o → UnderOn h o (after_piece (under h r) p)
        → ((x : Reading) → after_pieces (Some x) ps ≡ Some s → after_pieces (Some (under h x)) ps ≡ Some (under h s))
        → after_pieces (Some (under h r)) (p ∷ ps) ≡ Some (under h s)
    go None t k on = let g : after_pieces None ps ≡ Some s = sym (ap (λ (o : Option Reading). after_pieces o ps) t)
        ∙ e in let n : after_pieces None ps ≡ None = joined_none ps in absurd cc
    go (Some x) t k on =
        ap (λ (o : Option Reading). after_pieces o ps) k ∙ on x (sym (ap (λ (o : Option Reading). after_pieces o ps) t)
        ∙ e)

abbrev UnderEnds : Head → List OpenBlock → Line → Type 0
UnderEnds h bs line = (is_done (under_all h bs line) ≡ true) × (whole (under_all h bs line) ≡ looped h (body_of line))

under_ends : (h : Head) (bs : List OpenBlock) (line : Line) → is_done (record { blocks = bs; line = line }) ≡ true →
    UnderEnds h bs line
under_ends h (b ∷ bs) line e = absurd cc
under_ends h [] Opened e = absurd cc
under_ends h [] (Looping []) e = (refl, refl)
under_ends h [] (Looping (k ∷ ks)) e = (refl, loops_snoc (k ∷ ks) h (Missing, Print))
under_ends h [] (Addressed hs a) e = (refl, loops_snoc hs h (a, Nothing))
under_ends h [] (Ended c) e = (refl, refl)

pub loops_take : LoopsTakeTheRest
loops_take kind re ps r e done =
    let ends : UnderEnds (record { addr = Missing; kind = kind; re = re }) r.blocks r.line =
    under_ends (record { addr = Missing; kind = kind; re = re }) r.blocks r.line done in (
      under (record { addr = Missing; kind = kind; re = re }) r,
      under_pieces
          (record { addr = Missing; kind = kind; re = re }) ps begin r e,
      ends.0,
      ends.1,
    )

-- ---- all that is read stands inside a block

abbrev inside : OpenBlock → Reading → Reading
inside b r = record { blocks = r.blocks ++ b ∷ []; line = r.line }

abbrev InsideOn : OpenBlock → Option Reading → Option Reading → Type 0
InsideOn b None o = Unit {0}
InsideOn b (Some s) o = o ≡ Some (inside b s)

inside_joins : (z : OpenBlock) (bs : List OpenBlock) (line : Line) (p : Piece)
    → InsideOn z (after_piece (record { blocks = bs; line = line }) p)
    (after_piece (record { blocks = bs ++ z ∷ []; line = line }) p)
inside_joins z bs line Blank = refl
inside_joins z [] line EndsLine = tt
inside_joins z (b ∷ bs) line EndsLine = refl
inside_joins z bs Opened (At a) = tt
inside_joins z bs (Looping hs) (At a) = refl
inside_joins z bs (Addressed hs b) (At a) = tt
inside_joins z bs (Ended c) (At a) = tt
inside_joins z bs Opened (Loops k re) = tt
inside_joins z bs (Looping hs) (Loops k re) = refl
inside_joins z bs (Addressed hs a) (Loops k re) = refl
inside_joins z bs (Ended c) (Loops k re) = tt
inside_joins z bs Opened Opens = tt
inside_joins z bs (Looping hs) Opens = refl
inside_joins z bs (Addressed hs a) Opens = refl
inside_joins z bs (Ended c) Opens = tt
inside_joins z [] line Closes = tt
inside_joins z (b ∷ bs) Opened Closes = tt
inside_joins z (b ∷ bs) (Looping []) Closes = refl
inside_joins z (b ∷ bs) (Looping (h ∷ hs)) Closes = tt
inside_joins z (b ∷ bs) (Addressed hs a) Closes = tt
inside_joins z (b ∷ bs) (Ended c) Closes = tt
inside_joins z bs Opened (Does act) = tt
inside_joins z bs (Looping hs) (Does act) = refl
inside_joins z bs (Addressed hs a) (Does act) = refl
inside_joins z bs (Ended c) (Does act) = tt

inside_pieces : (z : OpenBlock) (ps : List Piece) (r s : Reading) → after_pieces (Some r) ps ≡ Some s
    → after_pieces (Some (inside z r)) ps ≡ Some (inside z s)
inside_pieces z [] r s e = let same : r ≡ s = cc in ap (λ (x : Reading). Some (inside z x)) same
inside_pieces z (p ∷ ps) r s e = go (after_piece r p) refl (inside_joins z r.blocks r.line p)
    (λ x g. inside_pieces z ps x s g)
  where
    go : (o : Option Reading) → after_piece r p ≡ o → InsideOn z o (after_piece (inside z r) p)
        → ((x : Reading) → after_pieces (Some x) ps ≡ Some s → after_pieces (Some (inside z x)) ps ≡ Some (inside z s))
        → after_pieces (Some (inside z r)) (p ∷ ps) ≡ Some (inside z s)
    go None t k on = let g : after_pieces None ps ≡ Some s = sym (ap (λ (o : Option Reading). after_pieces o ps) t)
        ∙ e in let n : after_pieces None ps ≡ None = joined_none ps in absurd cc
    go (Some x) t k on =
        ap (λ (o : Option Reading). after_pieces o ps) k ∙ on x (sym (ap (λ (o : Option Reading). after_pieces o ps) t)
        ∙ e)

abbrev block_with : List Command → OpenBlock
block_with cs = record { heads = []; addr = Missing; commands = cs }

abbrev at_line : List Command → Reading
at_line cs = record { blocks = block_with cs ∷ []; line = Looping [] }

line_ends : (cs : List Command) (bs : List OpenBlock) (line : Line)
    → is_done (record { blocks = bs; line = line }) ≡ true → after_piece
    (inside (block_with cs) (record { blocks = bs; line = line }))
    EndsLine ≡ Some (at_line (cs ++ close_all bs line ∷ []))
line_ends cs (b ∷ bs) line e = absurd cc
line_ends cs [] Opened e = absurd cc
line_ends cs [] (Looping hs) e = refl
line_ends cs [] (Addressed hs a) e = refl
line_ends cs [] (Ended c) e = refl

lines_join : (cs : List Command) (lines : List (List Piece)) (ds : List Command) → AreLines lines ds
    → after_pieces (Some (at_line cs)) (ended_lines lines) ≡ Some (at_line (cs ++ ds))
lines_join cs [] [] x = ap (λ (l : List Command). Some (at_line l)) (sym (append-nil cs))
lines_join cs [] (d ∷ ds) x = absurd x
lines_join cs (line ∷ lines) [] x = absurd x
lines_join cs (line ∷ lines) (d ∷ ds) x =
    let r = x.0.0 in
    let front : after_pieces (Some (at_line cs)) line ≡ Some (inside (block_with cs) r) = inside_pieces (block_with cs)
    line begin r x.0.1 in
    let last : after_piece (inside (block_with cs) r) EndsLine ≡ Some (at_line (cs ++ d ∷ [])) = line_ends cs r.blocks
    r.line x.0.2 ∙ ap (λ (c : Command). Some (at_line (cs ++ c ∷ []))) x.0.3 in
    joined_append (Some (at_line cs)) line (EndsLine ∷ ended_lines lines)
    ∙ ap (λ (o : Option Reading). after_pieces o (EndsLine ∷ ended_lines lines)) front
    ∙ ap (λ (o : Option Reading). after_pieces o (ended_lines lines)) last
    ∙ lines_join (cs ++ d ∷ []) lines ds x.1
    ∙ ap (λ (l : List Command). Some (at_line l)) (append_assoc cs (d ∷ []) ds)

pub blocks_hold : BlocksHoldTheirLines
blocks_hold lines cs x =
    joined_append (Some (at_line [])) (ended_lines lines) (Closes ∷ [])
    ∙ ap (λ (o : Option Reading). after_pieces o (Closes ∷ [])) (lines_join [] lines cs x)
