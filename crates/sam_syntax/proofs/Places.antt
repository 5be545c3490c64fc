-- What reading a command answers.
use Rattle.std.proofs.Common.{◌≡◌, ℕ, ◌+◌, ◌-◌, ◌<◌, ◌≤◌, ◌^◌, true, false, List, [], ◌∷◌, ◌++◌, length, get_or, take}
use Rattle.std.proofs.Common.{drop, Option, Some, None, refl, sym, ap, subst, ◌∙◌, arith, append-nil, append_assoc}
use Rattle.std.specs.Prelude.{slice_range}
use Rattle.std.proofs.lemmas.List.{take-append-drop, append_cancel_right, take_all, length-drop}
use Rattle.addr_syntax.specs.Marks.{next_of}
use Rattle.addr_syntax.specs.declared.address.SynFault.{SynFault}
use Rattle.addr_syntax.specs.declared.address.SynFault.TheVariants.{Bad, Nodes, Deep, NoMemory}
use Rattle.addr_syntax.proofs.Slices.{slice_more, slice_front, slice_length, next_at, drop_end}
use Rattle.addr_syntax.proofs.Places.{slice_behind}
use Rattle.edit_parts.specs.Tree.{Command, command}
use Rattle.edit_parts.specs.Kinds.{kind_of, ends_line}
use Rattle.edit_parts.specs.Pieces.{Piece, IsPiece}
use Rattle.edit_parts.specs.Answer.{IsPieceAt, IsBadPiece, PieceFails}
use Rattle.edit_parts.specs.declared.command.Cmd.{Cmd}
use Rattle.edit_parts.specs.declared.kind.Kind.{Kind}
use Rattle.sam_syntax.specs.Joined.{Reading, begin, is_done, whole, after_piece, after_pieces}
use Rattle.sam_syntax.specs.Grammar.{BeginsWith, IsEdit, GoesOn}
use Rattle.sam_syntax.specs.Answer.{IsBad, Refuses, Reaches}
use Rattle.sam_syntax.specs.Position.{position_of, position_if, after_kind}
use Rattle.sam_syntax.specs.Read.{FinishFails, piece_levels}
use Rattle.sam_syntax.specs.declared.position.Position.{Position}
use Rattle.sam_syntax.proofs.Positions.{position_passes}
use Rattle.sam_syntax.proofs.Flat.{goes_flat}
use Rattle.sam_syntax.proofs.Rows.{begins_append, begins_snoc, Loose, begins_loose, Ending, row_ends, rows_same}
use Rattle.sam_syntax.proofs.Rows.{nothing_left, joined_none, joined_append, joined_snoc, is_sane, pieces_sane}
use Rattle.sam_syntax.proofs.Rows.{pieces_short, Closed, closings, closings_end, blocks_close}

-- ---- slices from the beginning

front_slice : (text : List ℕ) (at : ℕ) → slice_range text 0 at ≡ take at text
front_slice text at = let e : at - 0 ≡ at = omega arith in rw e refl

front_more : (text : List ℕ) (at place : ℕ) → at ≤ place → place ≤ length text → take place text ≡ take at text
    ++ slice_range text at place
front_more text at place l m =
    let whole : take at text ++ drop at text ≡ text = take-append-drop at text in
    let part : slice_range text at place ++ drop place text ≡ drop at text = sym (slice_behind text at place l) in
    let all : (take at text ++ slice_range text at place) ++ drop place text ≡ text = append_assoc (take at text)
    (slice_range text at place) (drop place text) ∙ ap (λ (l : List ℕ). take at text ++ l) part ∙ whole in
    append_cancel_right (take place text) (take at text ++ slice_range text at place) (drop place text)
    (take-append-drop place text ∙ sym all)

cut_at : (text : List ℕ) (at place : ℕ) (more : List ℕ) → at ≤ place → place ≤ length text → slice_range text 0 place
    ++ more ≡ take at text ++ (slice_range text at place ++ more)
cut_at text at place more l m =
    ap (λ (x : List ℕ). x ++ more) (front_slice text place ∙ front_more text at place l m)
    ∙ append_assoc (take at text) (slice_range text at place) more

one_more : (text : List ℕ) (place : ℕ) (rest : List ℕ) → place < length text → slice_range text 0 (place + 1)
    ++ rest ≡ slice_range text 0 place ++ (get_or text place 0 ∷ rest)
one_more text place rest l =
    ap (λ (x : List ℕ). x ++ rest) (slice_more text 0 place (omega arith) l)
    ∙ append_assoc (slice_range text 0 place) (get_or text place 0 ∷ []) rest

all_of : (text : List ℕ) (place : ℕ) → place ≡ length text → text ≡ slice_range text 0 place ++ []
all_of text place e = sym (append-nil (slice_range text 0 place) ∙ front_slice text place
    ∙ take_all place text (omega (arith, e)))

-- ---- what is read so far

reached : (text : List ℕ) (at : ℕ) (r : Reading) (x : Reaches text at r) → (is_sane r ≡ true)
    × (length r.blocks ≤ length x.pieces)
reached text at r x = let s = pieces_sane x.pieces begin r refl x.joins in (s.0, omega (arith, s.1))

pub few_blocks : (text : List ℕ) (at : ℕ) (r : Reading) → Reaches text at r → length r.blocks ≤ at
few_blocks text at r x = omega (
  arith,
  (reached text at r x).1,
  pieces_short x.pieces text (drop at text) x.cut,
  length-drop at text,
  x.within,
)

-- the pieces so far begin any text that goes on with the same rune
front : (text : List ℕ) (at : ℕ) (r : Reading) (x : Reaches text at r) (y : List ℕ) → next_of y ≡ next_of (drop at text)
    → BeginsWith x.pieces (take at text ++ y) y
front text at r x y h =
    let l : Loose x.pieces text (drop at text) = begins_loose x.pieces text (drop at text) x.cut in
    let same : l.0 ≡ take at text = append_cancel_right l.0 (take at text) (drop at text)
    (sym l.1 ∙ sym (take-append-drop at text)) in
    subst (λ (w : List ℕ). BeginsWith x.pieces (w ++ y) y) same (l.2 y h)

-- a command goes on so
goes_on : (text : List ℕ) (at : ℕ) (r : Reading) → Reaches text at r → GoesOn (slice_range text 0 at)
goes_on text at r x =
    let l : Ending x.pieces text (drop at text) = row_ends x.pieces text (drop at text) x.cut in
    let same : l.0 ≡ slice_range text 0 at = append_cancel_right l.0 (take at text) (drop at text)
    (sym l.2 ∙ sym (take-append-drop at text)) ∙ sym (front_slice text at) in
    let c : Closed r.blocks r = blocks_close r (reached text at r x).0 in
    let row : BeginsWith (x.pieces ++ c.0) (l.0 ++ (l.1 ++ closings r.blocks)) [] = begins_append x.pieces c.0
    (l.0 ++ (l.1 ++ closings r.blocks)) (closings r.blocks) [] (l.3 (closings r.blocks) (closings_end r.blocks))
    c.2 in
    let joins : after_pieces (Some begin) (x.pieces ++ c.0) ≡ Some c.1 = joined_append (Some begin) x.pieces c.0
    ∙ ap (λ (o : Option Reading). after_pieces o c.0) x.joins ∙ c.3 in (
      l.1 ++ closings r.blocks,
      whole c.1,
      subst (λ (w : List ℕ). IsEdit (w ++ (l.1 ++ closings r.blocks)) (whole c.1))
          same (x.pieces ++ c.0, c.1, row, joins, c.4, refl),
    )

-- a command that begins with what is read goes on with pieces behind it
next_pieces : (text : List ℕ) (at : ℕ) (r : Reading) → Reaches text at r → (z : List ℕ) (a : Command)
    → next_of z ≡ next_of (drop at text) → IsEdit (take at text ++ z) a → (qs : List Piece) × (s : Reading)
    × BeginsWith qs z [] × (after_pieces (Some r) qs ≡ Some s) × (is_done s ≡ true)
next_pieces text at r x z a h y =
    let on = rows_same x.pieces y.0 (take at text ++ z) z (front text at r x z h) y.2 in
    let joins : after_pieces (Some r) on.0 ≡ Some y.1 =
    ap (λ (o : Option Reading). after_pieces o on.0) (sym x.joins) ∙ sym (joined_append (Some begin) x.pieces on.0)
    ∙ ap (λ (l : List Piece). after_pieces (Some begin) l) (sym on.1) ∙ y.3 in
    (on.0, y.1, on.2, joins, y.4)

-- what a piece with this first rune leads to
pub leads : (r : Reading) (p : Piece) (c : ℕ) (cs : List ℕ) (next : Option ℕ) → IsPiece p (c ∷ cs) next
    → (rest : List ℕ) → next_of rest ≡ next → position_if (after_piece r p) ≡ after_kind (position_of r) (kind_of c)
leads r p c cs next x rest e = position_passes r (kind_of c) p c (cs ++ rest) rest (x rest e)

first_of_slice : (text : List ℕ) (at place : ℕ) (more : List ℕ) → at ≤ place → place ≤ length text
    → next_of more ≡ next_of (drop place text) → next_of (slice_range text at place ++ more) ≡ next_of (drop at text)
first_of_slice text at place more l m h =
    let there : drop at text ≡ slice_range text at place ++ drop place text = slice_behind text at place l in
    go (slice_range text at place) ∙ sym (ap next_of there)
  where
    go : (s : List ℕ) → next_of (s ++ more) ≡ next_of (s ++ drop place text)
    go [] = h
    go (c ∷ cs) = refl

-- ---- where no piece goes on

dead_here : (text : List ℕ) (at place : ℕ) (r : Reading) → Reaches text at r → at < length text
    → IsBadPiece text at place → (more : List ℕ) → next_of more ≡ next_of (drop place text) → (a : Command)
    → IsEdit (slice_range text 0 place ++ more) a → ⊥
dead_here text at place r x l bad more next a y = go on.0 on.2
  where
    z : List ℕ
    z = slice_range text at place ++ more

    first : next_of (slice_range text at place ++ more) ≡ next_of (drop at text)
    first = first_of_slice text at place more bad.order bad.within next

    moved : IsEdit (take at text ++ (slice_range text at place ++ more)) a
    moved = subst (λ (t : List ℕ). IsEdit t a) (cut_at text at place more bad.order bad.within) y

    on : (qs : List Piece) × (s : Reading) × BeginsWith qs (slice_range text at place ++ more) []
        × (after_pieces (Some r) qs ≡ Some s) × (is_done s ≡ true)
    on = next_pieces text at r x (slice_range text at place ++ more) a first moved

    go : (qs : List Piece) → BeginsWith qs (slice_range text at place ++ more) [] → ⊥
    go [] e = let none : None ≡ Some (get_or text at 0) = sym (ap next_of e) ∙ first ∙ next_at text at l in absurd cc
    go (q ∷ qs) e = bad.dead more next q e.0 e.1 e.2 e.3

-- a piece goes on up to the place, and what is read goes on with it
before_on : (text : List ℕ) (at place : ℕ) (r : Reading) (next : Position) → Reaches text at r → at < length text
    → after_kind (position_of r) (kind_of (get_or text at 0)) ≡ Some next → IsBadPiece text at place → at < place
    → GoesOn (slice_range text 0 place)
before_on text at place r next x l pass bad some =
    let b = bad.before some in
    let u = slice_range text (at + 1) place ++ b.0 in
    let cut : slice_range text at place ++ b.0 ≡ get_or text at 0 ∷ u = ap (λ (s : List ℕ). s ++ b.0)
    (slice_front text at place some bad.within) in
    let piece : (n : Option ℕ) → ends_line n ≡ true → IsPiece b.1 (get_or text at 0 ∷ u) n =
    λ n h. subst (λ (s : List ℕ). IsPiece b.1 s n) cut (b.2 n h) in
    let to : position_if (after_piece r b.1) ≡ Some next = leads r b.1 (get_or text at 0) u None (piece None refl) []
    refl ∙ pass in
    finish b.0 b.1 u cut piece (after_piece r b.1) refl to
  where
    finish : (more : List ℕ) (p : Piece) (u : List ℕ) → slice_range text at place ++ more ≡ get_or text at 0 ∷ u
        → ((n : Option ℕ) → ends_line n ≡ true → IsPiece p (get_or text at 0 ∷ u) n) → (o : Option Reading)
        → after_piece r p ≡ o → position_if o ≡ Some next → GoesOn (slice_range text 0 place)
    finish more p u cut piece None t to = absurd cc
    finish more p u cut piece (Some s) t to =
        let joins : after_pieces (Some begin) (x.pieces ++ p ∷ []) ≡ Some s = joined_snoc (Some begin) x.pieces p r
        x.joins ∙ t in
        let sane : is_sane s ≡ true = (pieces_sane (x.pieces ++ p ∷ []) begin s refl joins).0 in
        let c : Closed s.blocks s = blocks_close s sane in
        let tail = closings s.blocks in
        let z = get_or text at 0 ∷ u ++ tail in
        let row : BeginsWith (x.pieces ++ p ∷ []) (take at text ++ (get_or text at 0 ∷ u ++ closings s.blocks))
        (closings s.blocks) =
        begins_snoc x.pieces p (take at text ++ (get_or text at 0 ∷ u ++ closings s.blocks))
        (get_or text at 0 ∷ u ++ closings s.blocks) (get_or text at 0 ∷ u) (closings s.blocks)
        (front text at r x (get_or text at 0 ∷ u ++ closings s.blocks) (sym (next_at text at l))) refl
        (piece (next_of (closings s.blocks)) (closings_end s.blocks)) in
        let all : BeginsWith ((x.pieces ++ p ∷ []) ++ c.0) (take at text ++ (get_or text at 0 ∷ u ++ closings s.blocks))
        [] =
        begins_append (x.pieces ++ p ∷ []) c.0 (take at text ++ (get_or text at 0 ∷ u ++ closings s.blocks))
        (closings s.blocks) [] row c.2 in
        let ends : after_pieces (Some begin) ((x.pieces ++ p ∷ []) ++ c.0) ≡ Some c.1 = joined_append (Some begin)
        (x.pieces ++ p ∷ []) c.0 ∙ ap (λ (o : Option Reading). after_pieces o c.0) joins ∙ c.3 in
        let there : take at text ++ (get_or text at 0 ∷ u ++ closings s.blocks) ≡ slice_range text 0 place
        ++ (more ++ closings s.blocks) =
        ap (λ (w : List ℕ). take at text ++ (w ++ closings s.blocks)) (sym cut)
        ∙ ap (λ (w : List ℕ). take at text ++ w) (append_assoc (slice_range text at place) more (closings s.blocks))
        ∙ sym (cut_at text at place (more ++ closings s.blocks) bad.order bad.within) in (
          more ++ closings s.blocks,
          whole c.1,
          subst (λ (t : List ℕ). IsEdit t (whole c.1)) there
              ((x.pieces ++ p ∷ []) ++ c.0, c.1, all, ends, c.4, refl),
        )

bad_before : (text : List ℕ) (at place : ℕ) (r : Reading) (next : Position) → Reaches text at r → at < length text
    → after_kind (position_of r) (kind_of (get_or text at 0)) ≡ Some next → IsBadPiece text at place → (s : List ℕ)
    → slice_range text at place ≡ s → GoesOn (slice_range text 0 place)
bad_before text at place r next x l pass bad [] e =
    let here : at ≡ place = omega (arith, bad.order, ap length e, slice_length text at place bad.order bad.within) in
    subst (λ k. GoesOn (slice_range text 0 k)) here (goes_on text at r x)
bad_before text at place r next x l pass bad (y ∷ ys) e =
    before_on text at place r next x l pass bad (omega (
      arith,
      ap length e,
      slice_length text at place bad.order bad.within,
    ))

bad_here : (text : List ℕ) (at place : ℕ) (r : Reading) (next : Position) → Reaches text at r → at < length text
    → after_kind (position_of r) (kind_of (get_or text at 0)) ≡ Some next → IsBadPiece text at place → IsBad text place
bad_here text at place r next x l pass bad = record {
  within = bad.within;
  before = bad_before text at place r next x l pass bad (slice_range text at place) refl;
  after = λ m g. dead_here text at place r x l bad (get_or text place 0 ∷ g.0) (sym (next_at text place m)) g.1
      (subst (λ (t : List ℕ). IsEdit t g.1) (one_more text place g.0 m) g.2);
  short = λ e a y. dead_here text at place r x l bad [] (sym (ap next_of (ap (λ k. drop k text) e ∙ drop_end text))) a
      (subst (λ (t : List ℕ). IsEdit t a) (all_of text place e) y);
}

-- ---- a piece that can't stand here

unjoined_on : (text : List ℕ) (at : ℕ) (r : Reading) → after_kind (position_of r) (kind_of (get_or text at 0)) ≡ None →
    (rest : List ℕ) (qs : List Piece) (s : Reading) → BeginsWith qs (get_or text at 0 ∷ rest) []
    → after_pieces (Some r) qs ≡ Some s → ⊥
unjoined_on text at r pass rest [] s y e = absurd cc
unjoined_on text at r pass rest (q ∷ qs) s ([], behind, f, z, on) e = absurd z
unjoined_on text at r pass rest (q ∷ qs) s (c ∷ cs, behind, f, z, on) e =
    let same : get_or text at 0 ≡ c = cc in
    let none : position_if (after_piece r q) ≡ None = leads r q c cs (next_of behind) z behind refl
    ∙ ap (λ n. after_kind (position_of r) (kind_of n)) (sym same) ∙ pass in
    go (after_piece r q) refl none
  where
    go : (o : Option Reading) → after_piece r q ≡ o → position_if o ≡ None → ⊥
    go None t n =
        let g : after_pieces None qs ≡ Some s = sym (ap (λ (o : Option Reading). after_pieces o qs) t) ∙ e in
        let never : after_pieces None qs ≡ None = joined_none qs in
        absurd cc
    go (Some x) t n = absurd cc

pub unjoined_here : (text : List ℕ) (at : ℕ) (r : Reading) → Reaches text at r → at < length text
    → after_kind (position_of r) (kind_of (get_or text at 0)) ≡ None → IsBad text at
unjoined_here text at r x l pass = record {
  within = omega (arith, l);
  before = goes_on text at r x;
  after = λ m g.
      let moved : IsEdit (take at text ++ (get_or text at 0 ∷ g.0)) g.1 =
      subst (λ (t : List ℕ). IsEdit t g.1) (one_more text at g.0 m
      ∙ ap (λ (t : List ℕ). t ++ (get_or text at 0 ∷ g.0)) (front_slice text at)) g.2 in
      let on = next_pieces text at r x (get_or text at 0 ∷ g.0) g.1 (sym (next_at text at l)) moved in
      unjoined_on text at r pass g.0 on.0 on.1 on.2 on.3;
  short = λ e a z. absurd (omega (arith, e, l));
}

-- ---- one token more

pub token_refuses : (text : List ℕ) (at : ℕ) (r : Reading) (next : Position) → Reaches text at r → at < length text
    → after_kind (position_of r) (kind_of (get_or text at 0)) ≡ Some next → (e : SynFault) → PieceFails text at e
    → Refuses text e
token_refuses text at r next x l pass (Bad place) y = bad_here text at place r next x l pass y
token_refuses text at r next x l pass Nodes y = absurd y
token_refuses text at r next x l pass Deep y = absurd y
token_refuses text at r next x l pass NoMemory y = tt

-- the piece at a place has no levels, and leads where its first rune says
pub piece_leads : (text : List ℕ) (at end : ℕ) (r : Reading) (p : Piece) → IsPieceAt text at p end
    → (piece_levels p ≡ 0) × (position_if (after_piece r p) ≡ after_kind (position_of r) (kind_of (get_or text at 0)))
piece_leads text at end r p x =
    let w : IsPiece p (get_or text at 0 ∷ slice_range text (at + 1) end) (next_of (drop end text)) =
    subst (λ (l : List ℕ). IsPiece p l (next_of (drop end text))) (slice_front text at end x.order x.within)
    x.written in (
      goes_flat (kind_of (get_or text at 0)) p (get_or text at 0) (slice_range text (at + 1) end ++ drop end text)
          (drop end text) (w (drop end text) refl),
      leads r p (get_or text at 0) (slice_range text (at + 1) end) (next_of (drop end text)) w (drop end text) refl,
    )

pub step_reaches : (text : List ℕ) (at end : ℕ) (r s : Reading) (p : Piece) → Reaches text at r
    → IsPieceAt text at p end → after_piece r p ≡ Some s → Reaches text end s
step_reaches text at end r s p x y e = record {
  pieces = x.pieces ++ p ∷ [];
  within = y.within;
  cut = begins_snoc x.pieces p text (drop at text) (slice_range text at end) (drop end text) x.cut
      (slice_behind text at end (omega (arith, y.order))) y.written;
  joins = joined_snoc (Some begin) x.pieces p r x.joins ∙ e;
}

pub begin_reaches : (text : List ℕ) → Reaches text 0 begin
begin_reaches text = record { pieces = []; within = omega arith; cut = refl; joins = refl }

-- ---- the end of the text

all_read : (text : List ℕ) (r : Reading) → Reaches text (length text) r → is_done r ≡ true → IsEdit text (whole r)
all_read text r x done = (
  x.pieces,
  r,
  subst (λ (l : List ℕ). BeginsWith x.pieces text l) (drop_end text) x.cut,
  x.joins,
  done,
  refl,
)

pub unended_here : (text : List ℕ) (r : Reading) → Reaches text (length text) r
    → is_done r ≡ false → IsBad text (length text)
unended_here text r x opens = record {
  within = omega arith;
  before = goes_on text (length text) r x;
  after = λ l. absurd (omega (arith, l));
  short = λ e a y.
      let moved : IsEdit (take (length text) text ++ []) a = subst (λ (t : List ℕ). IsEdit t a)
      (all_of text (length text) refl ∙ ap (λ (l : List ℕ). l ++ []) (front_slice text (length text))) y in
      let on = next_pieces text (length text) r x [] a (sym (ap next_of (drop_end text))) moved in
      ends on.0 on.1 (nothing_left on.0 on.2) on.3 on.4;
}
  where
    ends : (qs : List Piece) (s : Reading) → qs ≡ [] → after_pieces (Some r) qs ≡ Some s → is_done s ≡ true → ⊥
    ends qs s e f done =
        let g : Some r ≡ Some s = sym (ap (λ (l : List Piece). after_pieces (Some r) l) e) ∙ f in
        let same : r ≡ s = cc in
        let never : false ≡ true = sym opens ∙ ap is_done same ∙ done in
        absurd cc

pub finish_refuses : (text : List ℕ) (r : Reading) → Reaches text (length text) r → (e : SynFault)
    → FinishFails (length text) r e → Refuses text e
finish_refuses text r x (Bad place) y = subst (λ k. IsBad text k) (sym y.0) (unended_here text r x y.1)
finish_refuses text r x Nodes y = (whole r, all_read text r x y.0, y.1)
finish_refuses text r x Deep y = (whole r, all_read text r x y.0, y.1, y.2)
finish_refuses text r x NoMemory y = tt

pub finish_reads : (text : List ℕ) (r : Reading) → Reaches text (length text) r → (c : Cmd)
    → is_done r ≡ true → command c ≡ whole r → IsEdit text (command c)
finish_reads text r x c done e = subst (λ (t : Command). IsEdit text t) (sym e) (all_read text r x done)

-- ---- one tree

pub one_edit : (text : List ℕ) (a b : Command) → IsEdit text a → IsEdit text b → a ≡ b
one_edit text a b x y =
    let on = rows_same x.0 y.0 text [] x.2 y.2 in
    let none : on.0 ≡ [] = nothing_left on.0 on.2 in
    let same : y.0 ≡ x.0 = on.1 ∙ ap (λ (l : List Piece). x.0 ++ l) none ∙ append-nil x.0 in
    let joins : Some x.1 ≡ Some y.1 = sym x.3 ∙ ap (λ (l : List Piece). after_pieces (Some begin) l) (sym same) ∙ y.3 in
    let reading : x.1 ≡ y.1 = cc in
    x.5 ∙ ap whole reading ∙ sym y.5

-- where the program's position leads
pub passes_on : (text : List ℕ) (at : ℕ) (r : Reading) (here : Position) (k : Kind) (o : Option Position)
    → Reaches text at r → at < length text → length text < 2 ^ 64 → here ≡ position_of r
    → k ≡ kind_of (get_or text at 0) → (here.blocks + 1 < 2 ^ 64 → o ≡ after_kind here k)
    → after_kind (position_of r) (kind_of (get_or text at 0)) ≡ o
passes_on text at r here k o x l bound e f g =
    let few : here.blocks + 1 < 2 ^ 64 = omega (arith, few_blocks text at r x, ap (λ (p : Position). p.blocks) e) in
    sym (g few ∙ ap (λ (p : Position). after_kind p k) e ∙ ap (λ (z : Kind). after_kind (position_of r) z) f)
