-- Rows of pieces: how a text is cut into pieces, that there is one way to do it, and how rows end.
use Rattle.std.proofs.Common.{◌≡◌, ℕ, ◌+◌, ◌≤◌, Bool, true, false, List, [], ◌∷◌, ◌++◌, length, Option, Some, None}
use Rattle.std.proofs.Common.{refl, sym, ap, subst, ◌∙◌, arith, append_assoc}
use Rattle.std.proofs.lemmas.List.{length-append}
use Rattle.addr_syntax.specs.Marks.{next_of}
use Rattle.edit_parts.specs.Kinds.{kind_of, ends_line}
use Rattle.edit_parts.specs.Pieces.{Piece, Blank, EndsLine, At, Loops, Opens, Closes, Does, GoesOnAs, IsPiece}
use Rattle.edit_parts.specs.declared.kind.Kind.{Kind}
use Rattle.edit_parts.specs.declared.kind.Kind.TheVariants as kind
use Rattle.edit_parts.proofs.Once.{one_piece}
use Rattle.sam_syntax.specs.Joined.{Reading, OpenBlock, Line, Opened, Looping, Addressed, Ended, with_line, block_of}
use Rattle.sam_syntax.specs.Joined.{is_done, after_piece, after_pieces}
use Rattle.sam_syntax.specs.Grammar.{BeginsWith}
use Rattle.edit_parts.proofs.Closes.{piece_ends_line}

-- ---- rows

pub begins_append : (ps qs : List Piece) (text middle rest : List ℕ) → BeginsWith ps text middle
    → BeginsWith qs middle rest → BeginsWith (ps ++ qs) text rest
begins_append [] qs text middle rest x y = subst (λ (l : List ℕ). BeginsWith qs l rest) (sym x) y
begins_append (p ∷ ps) qs text middle rest x y = (x.0, x.1, x.2, x.3, begins_append ps qs x.1 middle rest x.4 y)

pub begins_snoc : (ps : List Piece) (p : Piece) (text middle piece rest : List ℕ) → BeginsWith ps text middle
    → middle ≡ piece ++ rest → IsPiece p piece (next_of rest) → BeginsWith (ps ++ p ∷ []) text rest
begins_snoc ps p text middle piece rest x e y = begins_append ps (p ∷ []) text middle rest x (piece, rest, e, y, refl)

-- what comes behind a row may be changed where its first rune stays
abbrev pub Loose : List Piece → List ℕ → List ℕ → Type 0
Loose ps text rest = (w : List ℕ) × (text ≡ w ++ rest) × ((y : List ℕ) → next_of y ≡ next_of rest
    → BeginsWith ps (w ++ y) y)

pub begins_loose : (ps : List Piece) (text rest : List ℕ) → BeginsWith ps text rest → Loose ps text rest
begins_loose [] text rest x = ([], x, λ y h. refl)
begins_loose (p ∷ ps) text rest x = go (begins_loose ps x.1 rest x.4)
  where
    next : (w y : List ℕ) → x.1 ≡ w ++ rest → next_of y ≡ next_of rest → IsPiece p x.0 (next_of (w ++ y))
    next [] y e h = subst (λ (n : Option ℕ). IsPiece p x.0 n) (ap next_of e ∙ sym h) x.3
    next (c ∷ cs) y e h = subst (λ (n : Option ℕ). IsPiece p x.0 n) (ap next_of e) x.3

    go : Loose ps x.1 rest → Loose (p ∷ ps) text rest
    go (w, e, f) = (
      x.0 ++ w,
      x.2 ∙ ap (λ (l : List ℕ). x.0 ++ l) e ∙ sym (append_assoc x.0 w rest),
      λ y h. (x.0, w ++ y, append_assoc x.0 w y, next w y e h, f y h),
    )

-- a row, with some runes more, may stand before the end of a line
abbrev pub Ending : List Piece → List ℕ → List ℕ → Type 0
Ending ps text rest = (w more : List ℕ) × (text ≡ w ++ rest) × ((y : List ℕ)
    → ends_line (next_of y) ≡ true → BeginsWith ps (w ++ (more ++ y)) y)

abbrev SomeEnding : Piece → List Piece → List ℕ → List ℕ → Type 0
SomeEnding p ps text rest = (c : ℕ) × (w more : List ℕ) × (text ≡ c ∷ (w ++ rest))
    × ((y : List ℕ) → ends_line (next_of y) ≡ true → BeginsWith (p ∷ ps) (c ∷ (w ++ (more ++ y))) y)

some_end : (p : Piece) (ps : List Piece) (text rest : List ℕ) → BeginsWith (p ∷ ps) text rest
    → SomeEnding p ps text rest
some_end p ps text rest ([], behind, e, z, on) = absurd z
some_end p [] text rest (c ∷ cs, behind, e, z, on) =
    let s = piece_ends_line p (c ∷ cs) (next_of behind) z in (
      c,
      cs,
      s.0,
      e ∙ ap (λ (l : List ℕ). (c ∷ cs) ++ l) on,
      λ y h. (
        c ∷ (cs ++ s.0),
        y,
        sym (append_assoc (c ∷ cs) s.0 y),
        s.2 (next_of y) h,
        refl,
      ),
    )
some_end p (q ∷ qs) text rest (c ∷ cs, behind, e, z, on) =
    let s = some_end q qs behind rest on in (
      c,
      cs ++ s.0 ∷ s.1,
      s.2,
      e ∙ ap (λ (l : List ℕ). (c ∷ cs) ++ l) s.3 ∙ sym (append_assoc (c ∷ cs) (s.0 ∷ s.1) rest),
      λ y h. (
        c ∷ cs,
        s.0 ∷ (s.1 ++ (s.2 ++ y)),
        append_assoc (c ∷ cs) (s.0 ∷ s.1) (s.2 ++ y),
        subst (λ (n : Option ℕ). IsPiece p (c ∷ cs) n) (ap next_of s.3) z,
        s.4 y h,
      ),
    )

pub row_ends : (ps : List Piece) (text rest : List ℕ) → BeginsWith ps text rest → Ending ps text rest
row_ends [] text rest x = ([], [], x, λ y h. refl)
row_ends (p ∷ ps) text rest x = let s = some_end p ps text rest x in (s.0 ∷ s.1, s.2, s.3, s.4)

pub no_piece : (p : Piece) (u m : List ℕ) (next : Option ℕ) → [] ≡ u ++ m → IsPiece p u next → ⊥
no_piece p [] m next e x = x
no_piece p (c ∷ cs) m next e x = absurd cc

pub rows_same : (ps qs : List Piece) (text y : List ℕ) → BeginsWith ps text y → BeginsWith qs text []
    → (more : List Piece) × (qs ≡ ps ++ more) × BeginsWith more y []
rows_same [] qs text y x z = (qs, refl, subst (λ (l : List ℕ). BeginsWith qs l []) x z)
rows_same (p ∷ ps) [] text y x z = absurd (no_piece p x.0 x.1 (next_of x.1) (sym z ∙ x.2) x.3)
rows_same (p ∷ ps) (q ∷ qs) text y x z =
    let s = one_piece p q x.0 x.1 z.0 z.1 (sym x.2 ∙ z.2) x.3 z.3 in
    let on = rows_same ps qs x.1 y x.4 (subst (λ (l : List ℕ). BeginsWith qs l []) (sym s.1) z.4) in
    (on.0, ap (λ r. r ∷ qs) (sym s.0) ∙ ap (λ (l : List Piece). p ∷ l) on.1, on.2)

pub nothing_left : (ps : List Piece) → BeginsWith ps [] [] → ps ≡ []
nothing_left [] x = refl
nothing_left (p ∷ ps) x = absurd (no_piece p x.0 x.1 (next_of x.1) x.2 x.3)

-- ---- joining

pub joined_none : (ps : List Piece) → after_pieces None ps ≡ None
joined_none [] = refl
joined_none (p ∷ ps) = refl

pub joined_append : (o : Option Reading) (ps qs : List Piece) → after_pieces o
    (ps ++ qs) ≡ after_pieces (after_pieces o ps) qs
joined_append o [] qs = refl
joined_append None (p ∷ ps) qs = sym (joined_none qs)
joined_append (Some r) (p ∷ ps) qs = joined_append (after_piece r p) ps qs

pub joined_snoc : (o : Option Reading) (ps : List Piece) (p : Piece) (r : Reading) → after_pieces o ps ≡ Some r
    → after_pieces o (ps ++ p ∷ []) ≡ after_piece r p
joined_snoc o ps p r e = joined_append o ps (p ∷ []) ∙ ap (λ (x : Option Reading). after_pieces x (p ∷ [])) e

-- ---- a line behind `{` is inside a block, and what is read is at most as deep as it is long

abbrev pub is_sane : Reading → Bool
is_sane r = go r.blocks r.line
  where
    go : List OpenBlock → Line → Bool
    go [] Opened = false
    go [] (Looping heads) = true
    go [] (Addressed heads a) = true
    go [] (Ended c) = true
    go (b ∷ bs) line = true

abbrev pub few : List OpenBlock → Option Reading → Type 0
few bs None = Unit {0}
few bs (Some s) = (is_sane s ≡ true) × (length s.blocks ≤ length bs + 1)

piece_sane : (bs : List OpenBlock) (line : Line) (p : Piece) → is_sane (record { blocks = bs; line = line }) ≡ true →
    few bs (after_piece (record { blocks = bs; line = line }) p)
piece_sane bs line Blank e = (e, omega arith)
piece_sane [] line EndsLine e = tt
piece_sane (b ∷ bs) line EndsLine e = (refl, omega arith)
piece_sane bs Opened (At a) e = tt
piece_sane [] (Looping hs) (At a) e = (refl, omega arith)
piece_sane (b ∷ bs) (Looping hs) (At a) e = (refl, omega arith)
piece_sane bs (Addressed hs b) (At a) e = tt
piece_sane bs (Ended c) (At a) e = tt
piece_sane bs Opened (Loops k re) e = tt
piece_sane [] (Looping hs) (Loops k re) e = (refl, omega arith)
piece_sane (b ∷ bs) (Looping hs) (Loops k re) e = (refl, omega arith)
piece_sane [] (Addressed hs a) (Loops k re) e = (refl, omega arith)
piece_sane (b ∷ bs) (Addressed hs a) (Loops k re) e = (refl, omega arith)
piece_sane bs (Ended c) (Loops k re) e = tt
piece_sane bs Opened Opens e = tt
piece_sane bs (Looping hs) Opens e = (refl, omega arith)
piece_sane bs (Addressed hs a) Opens e = (refl, omega arith)
piece_sane bs (Ended c) Opens e = tt
piece_sane [] line Closes e = tt
piece_sane (b ∷ bs) Opened Closes e = tt
piece_sane (b ∷ []) (Looping []) Closes e = (refl, omega arith)
piece_sane (b ∷ d ∷ bs) (Looping []) Closes e = (refl, omega arith)
piece_sane (b ∷ bs) (Looping (h ∷ hs)) Closes e = tt
piece_sane (b ∷ bs) (Addressed hs a) Closes e = tt
piece_sane (b ∷ bs) (Ended c) Closes e = tt
piece_sane bs Opened (Does act) e = tt
piece_sane [] (Looping hs) (Does act) e = (refl, omega arith)
piece_sane (b ∷ bs) (Looping hs) (Does act) e = (refl, omega arith)
piece_sane [] (Addressed hs a) (Does act) e = (refl, omega arith)
piece_sane (b ∷ bs) (Addressed hs a) (Does act) e = (refl, omega arith)
piece_sane bs (Ended c) (Does act) e = tt

pub pieces_sane : (ps : List Piece) (r s : Reading) → is_sane r ≡ true → after_pieces (Some r) ps ≡ Some s
    → (is_sane s ≡ true) × (length s.blocks ≤ length r.blocks + length ps)
pieces_sane [] r s e f =
    let same : r ≡ s = cc in
    (sym (ap is_sane same) ∙ e, omega (arith, ap (λ (x : Reading). length x.blocks) same))
pieces_sane (p ∷ ps) r s e f = go (after_piece r p) refl (piece_sane r.blocks r.line p e)
    (λ x g h. pieces_sane ps x s g h)
  where
    go : (o : Option Reading) → after_piece r p ≡ o → few r.blocks o
        → ((x : Reading) → is_sane x ≡ true → after_pieces (Some x) ps ≡ Some s → (is_sane s ≡ true)
        × (length s.blocks ≤ length x.blocks + length ps)) → (is_sane s ≡ true)
        × (length s.blocks ≤ length r.blocks + length (p ∷ ps))
    go None t k on = let g : after_pieces None ps ≡ Some s = sym (ap (λ (o : Option Reading). after_pieces o ps) t)
        ∙ f in let n : after_pieces None ps ≡ None = joined_none ps in absurd cc
    go (Some x) t k on =
        let y = on x k.0 (sym (ap (λ (o : Option Reading). after_pieces o ps) t) ∙ f) in
        (y.0, omega (arith, y.1, k.1))

-- each piece has a rune
pub pieces_short : (ps : List Piece) (text rest : List ℕ) → BeginsWith ps text rest
    → length ps + length rest ≤ length text
pieces_short [] text rest x = omega (arith, ap length x)
pieces_short (p ∷ ps) text rest ([], behind, e, z, on) = absurd z
pieces_short (p ∷ ps) text rest (c ∷ cs, behind, e, z, on) = omega (
  arith,
  pieces_short ps behind rest on,
  ap length e,
  length-append cs behind,
)

-- ---- open blocks can be closed

-- a newline and `}` for each block
abbrev pub closings : List OpenBlock → List ℕ
closings [] = []
closings (b ∷ bs) = 10 ∷ 125 ∷ closings bs

pub closings_end : (bs : List OpenBlock) → ends_line (next_of (closings bs)) ≡ true
closings_end [] = refl
closings_end (b ∷ bs) = refl

newline_kind : kind_of 10 ≡ kind.EndsLine
unfolding kind_of
newline_kind = refl

close_kind : kind_of 125 ≡ kind.Closes
unfolding kind_of
close_kind = refl

newline_piece : (next : Option ℕ) → IsPiece EndsLine (10 ∷ []) next
newline_piece next rest e = subst (λ (k : Kind). GoesOnAs k EndsLine 10 rest rest) (sym newline_kind) (refl, refl)

close_piece : (next : Option ℕ) → IsPiece Closes (125 ∷ []) next
close_piece next rest e = subst (λ (k : Kind). GoesOnAs k Closes 125 rest rest) (sym close_kind) (refl, refl)

abbrev pub Closed : List OpenBlock → Reading → Type 0
Closed bs r = (ps : List Piece) × (s : Reading) × BeginsWith ps (closings bs) [] × (after_pieces (Some r) ps ≡ Some s)
    × (is_done s ≡ true)

all_close : (bs : List OpenBlock) (line : Line) → is_sane (record { blocks = bs; line = line }) ≡ true → Closed bs
    (record { blocks = bs; line = line })
all_close [] Opened e = absurd cc
all_close [] (Looping hs) e = ([], record { blocks = []; line = Looping hs }, refl, refl, refl)
all_close [] (Addressed hs a) e = ([], record { blocks = []; line = Addressed hs a }, refl, refl, refl)
all_close [] (Ended c) e = ([], record { blocks = []; line = Ended c }, refl, refl, refl)
all_close (b ∷ bs) line e = go bs refl (all_close bs (Ended (block_of (with_line b line))))
  where
    sane : (ds : List OpenBlock) → is_sane (record { blocks = ds; line = Ended (block_of (with_line b line)) }) ≡ true
    sane [] = refl
    sane (d ∷ ds) = refl

    go : (ds : List OpenBlock) → ds ≡ bs → (is_sane (record { blocks = bs; line = Ended (block_of (with_line b line)) })
        ≡ true → Closed bs (record { blocks = bs; line = Ended (block_of (with_line b line)) }))
        → Closed (b ∷ bs) (record { blocks = b ∷ bs; line = line })
    go ds f k =
        let on = k (sane bs) in (
          EndsLine ∷ Closes ∷ on.0,
          on.1,
          (
            10 ∷ [],
            125 ∷ closings bs,
            refl,
            newline_piece (Some 125),
            (125 ∷ [], closings bs, refl, close_piece (next_of (closings bs)), on.2),
          ),
          on.3,
          on.4,
        )

pub blocks_close : (r : Reading) → is_sane r ≡ true → Closed r.blocks r
blocks_close r e = all_close r.blocks r.line e
