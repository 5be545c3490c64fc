-- What reading an address answers.
use Rattle.std.proofs.Common.{◌≡◌, ℕ, ◌+◌, ◌-◌, ◌<◌, ◌≤◌, ◌||◌, ◌⊎◌, Bool, true, false, List, [], ◌∷◌, ◌++◌, length}
use Rattle.std.proofs.Common.{get_or, take, drop, Option, Some, None, refl, sym, ap, subst, ◌∙◌, inl, inr, arith}
use Rattle.std.proofs.Common.{append-nil, append_assoc}
use Rattle.std.specs.Prelude.{slice_range}
use Rattle.std.proofs.lemmas.List.{take-append-drop, drop-drop, append_cancel_right, take_all}
use Rattle.addr_syntax.specs.Tree.{Tree, Missing, Dot, tree, operators, is_large}
use Rattle.addr_syntax.specs.Marks.{mark_of, next_of}
use Rattle.addr_syntax.specs.Pieces.{Piece, Part, Adds, Splits, GoesOnAs, IsPiece, BeginsWith}
use Rattle.addr_syntax.specs.Joined.{Reading, Row, Nothing, Signed, Ended, with_part, may_follow, is_nothing, row_tree}
use Rattle.addr_syntax.specs.Joined.{join_part, join_sign, join_separator, whole, after_piece, after_pieces, begin}
use Rattle.addr_syntax.specs.Grammar.{IsAddress, GoesOn}
use Rattle.addr_syntax.specs.Answer.{IsBad, Refuses, Reaches, StepFails}
use Rattle.addr_syntax.specs.Scan.{IsPieceAt, IsBadPiece, PieceFails, Continues}
use Rattle.addr_syntax.specs.Read.{FinishFails}
use Rattle.addr_syntax.specs.declared.address.Addr.{Addr, Here, Zero, Last, Char, Line, Fore, Back, Plus', Minus'}
use Rattle.addr_syntax.specs.declared.address.Addr.{Comma', Semi'}
use Rattle.addr_syntax.specs.declared.mark.Separator.{Separator}
use Rattle.addr_syntax.specs.declared.mark.Mark.{Mark}
use Rattle.addr_syntax.specs.declared.mark.Mark.TheVariants as mark
use Rattle.addr_syntax.specs.declared.address.SynFault.{SynFault}
use Rattle.addr_syntax.specs.declared.address.SynFault.TheVariants.{Bad, Nodes, Deep, NoMemory}
use Rattle.addr_syntax.proofs.Slices.{slice_more, slice_front, slice_length, next_at, drop_end}
use Rattle.addr_syntax.proofs.Rows.{begins_snoc, begins_loose, Loose, rows_same, no_piece, nothing_left, joined_none}
use Rattle.addr_syntax.proofs.Rows.{joined_append, joined_snoc, stands_joins, same_none}

-- ---- slices from the beginning

front_slice : (text : List ℕ) (at : ℕ) → slice_range text 0 at ≡ take at text
front_slice text at = let e : at - 0 ≡ at = omega arith in rw e refl

pub slice_behind : (text : List ℕ) (at end : ℕ) → at ≤ end → drop at text ≡ slice_range text at end ++ drop end text
slice_behind text at end l =
    let place_is : at + (end - at) ≡ end = omega arith in
    sym (ap (λ (r : List ℕ). slice_range text at end ++ r) (sym (drop-drop (end - at) at text
    ∙ ap (λ k. drop k text) place_is)) ∙ take-append-drop (end - at) (drop at text))

pub front_more : (text : List ℕ) (at place : ℕ) → at ≤ place → place ≤ length text → take place text ≡ take at text
    ++ slice_range text at place
front_more text at place l m =
    let whole : take at text ++ drop at text ≡ text = take-append-drop at text in
    let part : slice_range text at place ++ drop place text ≡ drop at text = sym (slice_behind text at place l) in
    let all : (take at text ++ slice_range text at place) ++ drop place text ≡ text = append_assoc (take at text)
    (slice_range text at place) (drop place text) ∙ ap (λ (l : List ℕ). take at text ++ l) part ∙ whole in
    append_cancel_right (take place text) (take at text ++ slice_range text at place) (drop place text)
    (take-append-drop place text ∙ sym all)

-- ---- what is read so far

-- the pieces so far begin any text that goes on in the same way
pub record Front (text : List ℕ) (at : ℕ) (r : Reading) : Type 0 where
  pub pieces : List Piece
  pub loose : (y : List ℕ) → ((next_of y ≡ next_of (drop at text)) ⊎ (y ≡ [])) → BeginsWith pieces (take at text ++ y) y
  pub joins : after_pieces (Some begin) pieces ≡ Some r

front : (text : List ℕ) (at : ℕ) (r : Reading) → Reaches text at r → Front text at r
front text at r x =
    let l : Loose x.pieces text (drop at text) = begins_loose x.pieces text (drop at text) x.cut in
    let same : l.0 ≡ take at text = append_cancel_right l.0 (take at text) (drop at text)
    (sym l.1 ∙ sym (take-append-drop at text)) in
    record {
      pieces = x.pieces;
      loose = subst (λ (w : List ℕ). (y : List ℕ) → ((next_of y ≡ next_of (drop at text)) ⊎ (y ≡ []))
          → BeginsWith x.pieces (w ++ y) y) same l.2;
      joins = x.joins;
    }

-- pieces that are joined are an address, where there is one
an_address : (ps : List Piece) (text : List ℕ) (r : Reading) → (ps ≡ [] → ⊥) → BeginsWith ps text []
    → after_pieces (Some begin) ps ≡ Some r → IsAddress text (whole r)
an_address [] text r some x e = absurd (some refl)
an_address (p ∷ ps) text r some x e = (p, ps, r, x, e, refl)

snoc_some : (ps : List Piece) (p : Piece) → ps ++ p ∷ [] ≡ [] → ⊥
snoc_some [] p e = absurd cc
snoc_some (q ∷ qs) p e = absurd cc

dot_mark : mark_of 46 ≡ mark.Dot
unfolding mark_of
dot_mark = refl

pub dot_piece : IsPiece (Part Dot) (46 ∷ []) None
dot_piece = subst (λ (m : Mark). GoesOnAs m (Part Dot) 46 [] None) (sym dot_mark) (refl, refl)

-- `.` is an address
dot_alone : IsAddress (46 ∷ []) Dot
dot_alone = (Part Dot, [], record { before = None; row = Ended Dot }, (46 ∷ [], [], refl, dot_piece, refl), refl, refl)

goes_on : (text : List ℕ) (at : ℕ) (r : Reading) → Front text at r → GoesOn (slice_range text 0 at)
goes_on text at r f = go f.pieces refl
  where
    go : (ps : List Piece) → f.pieces ≡ ps → GoesOn (slice_range text 0 at)
    go [] e =
        let none : take at text ++ [] ≡ [] = subst (λ (l : List Piece). BeginsWith l (take at text ++ []) []) e
        (f.loose [] (inr refl)) in
        let empty : slice_range text 0 at ≡ [] = front_slice text at ∙ sym (append-nil (take at text)) ∙ none in
        (46 ∷ [], Dot, subst (λ (l : List ℕ). IsAddress (l ++ 46 ∷ []) Dot) (sym empty) dot_alone)
    go (p ∷ ps) e =
        let whole_text : take at text ++ [] ≡ slice_range text 0 at
        ++ [] = ap (λ (l : List ℕ). l ++ []) (sym (front_slice text at)) in (
          [],
          whole r,
          subst (λ (l : List ℕ). IsAddress l (whole r)) whole_text
              (an_address f.pieces (take at text ++ []) r (λ g. absurd (let h = sym e ∙ g in cc)) (f.loose [] (inr refl))
              f.joins),
        )

-- an address that begins with what is read goes on with pieces behind it
next_pieces : (text : List ℕ) (at : ℕ) (r : Reading) → Front text at r → (z : List ℕ) (a : Tree)
    → ((next_of z ≡ next_of (drop at text)) ⊎ (z ≡ [])) → IsAddress (take at text ++ z) a → (qs : List Piece)
    × (s : Reading) × BeginsWith qs z [] × (after_pieces (Some r) qs ≡ Some s)
next_pieces text at r f z a h x =
    let on = rows_same f.pieces (x.0 ∷ x.1) (take at text ++ z) z (f.loose z h) x.3 in
    let joins : after_pieces (Some r) on.0 ≡ Some x.2 =
    ap (λ (o : Option Reading). after_pieces o on.0) (sym f.joins) ∙ sym (joined_append (Some begin) f.pieces on.0)
    ∙ ap (λ (l : List Piece). after_pieces (Some begin) l) (sym on.1) ∙ x.4 in
    (on.0, x.2, on.2, joins)

-- what stands at the place, and what may come behind
first_rune : (text : List ℕ) (at place : ℕ) (more : List ℕ) → at < length text → at ≤ place → place ≤ length text
    → Continues text place more → (s : List ℕ) → slice_range text at place ≡ s → (b : List ℕ)
    × (slice_range text at place ++ more ≡ get_or text at 0 ∷ b)
first_rune text at place more l m w next [] e =
    let here : at ≡ place = omega (arith, ap length e, slice_length text at place m w) in
    elim next [
      | inl p ↦ absurd (omega (arith, here, p.0))
      | inr p ↦ (p.1, ap (λ (x : List ℕ). x ++ more) e ∙ p.2 ∙ ap (λ k. get_or text k 0 ∷ p.1) (sym here))
    ]
first_rune text at place more l m w next (y ∷ ys) e =
    let some : at < place = omega (arith, ap length e, slice_length text at place m w) in
    (slice_range text (at + 1) place ++ more, ap (λ (x : List ℕ). x ++ more) (slice_front text at place some w))

cut_at : (text : List ℕ) (at place : ℕ) (more : List ℕ) → at ≤ place → place ≤ length text → slice_range text 0 place
    ++ more ≡ take at text ++ (slice_range text at place ++ more)
cut_at text at place more l m =
    ap (λ (x : List ℕ). x ++ more) (front_slice text place ∙ front_more text at place l m)
    ∙ append_assoc (take at text) (slice_range text at place) more

dead_here : (text : List ℕ) (at place : ℕ) (r : Reading) → Front text at r → at < length text → IsBadPiece text at place
    → (more : List ℕ) → Continues text place more → (a : Tree) → IsAddress (slice_range text 0 place ++ more) a → ⊥
dead_here text at place r f l bad more next a x = go on.0 on.2
  where
    first : (b : List ℕ) × (slice_range text at place ++ more ≡ get_or text at 0 ∷ b)
    first = first_rune text at place more l bad.order bad.within next (slice_range text at place) refl

    moved : IsAddress (take at text ++ (slice_range text at place ++ more)) a
    moved = subst (λ (t : List ℕ). IsAddress t a) (cut_at text at place more bad.order bad.within) x

    on : (qs : List Piece) × (s : Reading) × BeginsWith qs (slice_range text at place ++ more) []
        × (after_pieces (Some r) qs ≡ Some s)
    on = next_pieces text at r f (slice_range text at place ++ more) a
        (inl (ap next_of first.1 ∙ sym (next_at text at l))) moved

    go : (qs : List Piece) → BeginsWith qs (slice_range text at place ++ more) [] → ⊥
    go [] y = let e = first.1 in absurd cc
    go (q ∷ qs) y = bad.dead more q y.0 y.1 next y.2 y.3

bad_before : (text : List ℕ) (at place : ℕ) (r : Reading) → Front text at r → at < length text
    → IsBadPiece text at place → (s : List ℕ) → slice_range text at place ≡ s → GoesOn (slice_range text 0 place)
bad_before text at place r f l bad [] e =
    let here : at ≡ place = omega (arith, bad.order, ap length e, slice_length text at place bad.order bad.within) in
    subst (λ k. GoesOn (slice_range text 0 k)) here (goes_on text at r f)
bad_before text at place r f l bad (y ∷ ys) e =
    let some : at < place = omega (arith, ap length e, slice_length text at place bad.order bad.within) in
    let on = bad.before some in
    let piece = slice_range text at place ++ on.0 in
    let first : next_of piece ≡ next_of (drop at text) = ap (λ (x : List ℕ). next_of (x ++ on.0))
    (slice_front text at place some bad.within) ∙ sym (next_at text at l) in
    let row : BeginsWith (f.pieces ++ Part on.1 ∷ []) (take at text ++ piece) [] = begins_snoc f.pieces (Part on.1)
    (take at text ++ piece) piece piece [] (f.loose piece (inl first)) (sym (append-nil piece)) on.2 in
    let joins : after_pieces (Some begin) (f.pieces ++ Part on.1 ∷ []) ≡ Some (join_part r on.1) =
    joined_snoc (Some begin) f.pieces (Part on.1) r f.joins ∙ stands_joins r on.1 on.3 in
    let address : IsAddress (take at text ++ piece) (whole (join_part r on.1)) = an_address (f.pieces ++ Part on.1 ∷ [])
    (take at text ++ piece) (join_part r on.1) (snoc_some f.pieces (Part on.1)) row joins in (
      on.0,
      whole (join_part r on.1),
      subst (λ (t : List ℕ). IsAddress t (whole (join_part r on.1)))
          (sym (cut_at text at place on.0 bad.order bad.within)) address,
    )

one_more : (text : List ℕ) (place : ℕ) (rest : List ℕ) → place < length text → slice_range text 0 (place + 1)
    ++ rest ≡ slice_range text 0 place ++ (get_or text place 0 ∷ rest)
one_more text place rest l =
    ap (λ (x : List ℕ). x ++ rest) (slice_more text 0 place (omega arith) l)
    ∙ append_assoc (slice_range text 0 place) (get_or text place 0 ∷ []) rest

all_of : (text : List ℕ) (place : ℕ) → place ≡ length text → text ≡ slice_range text 0 place ++ []
all_of text place e = sym (append-nil (slice_range text 0 place) ∙ front_slice text place
    ∙ take_all place text (omega (arith, e)))

pub bad_here : (text : List ℕ) (at place : ℕ) (r : Reading) → Reaches text at r → at < length text
    → IsBadPiece text at place → IsBad text place
bad_here text at place r x l bad = record {
  within = bad.within;
  before = bad_before text at place r (front text at r x) l bad (slice_range text at place) refl;
  after = λ m g. dead_here text at place r (front text at r x) l bad (get_or text place 0 ∷ g.0) (inr (m, g.0, refl))
      g.1 (subst (λ (t : List ℕ). IsAddress t g.1) (one_more text place g.0 m) g.2);
  short = λ e a y. dead_here text at place r (front text at r x) l bad [] (inl (e, refl)) a
      (subst (λ (t : List ℕ). IsAddress t a) (all_of text place e) y);
}

-- ---- a token that doesn't go on with what is read

pub other_piece : (text : List ℕ) (at end : ℕ) (r : Reading) (p q : Piece) → IsPieceAt text at p end
    → after_piece r p ≡ None → (piece behind rest : List ℕ) → get_or text at 0 ∷ rest ≡ piece ++ behind → IsPiece q
    piece (next_of behind) → after_piece r q ≡ None
other_piece text at end r p q x none [] behind rest e y = absurd y
other_piece text at end r p q x none (c ∷ cs) behind rest e y =
    let same : c ≡ get_or text at 0 = cc in
    let mine : GoesOnAs (mark_of (get_or text at 0)) p (get_or text at 0) (slice_range text (at + 1) end)
    (next_of (drop end text)) =
    subst (λ (l : List ℕ). IsPiece p l (next_of (drop end text))) (slice_front text at end x.order x.within)
    x.written in
    let other : GoesOnAs (mark_of (get_or text at 0)) q (get_or text at 0) cs (next_of behind) =
    subst (λ (z : ℕ). GoesOnAs (mark_of z) q z cs (next_of behind)) same y in
    same_none (mark_of (get_or text at 0)) r p q (get_or text at 0) (slice_range text (at + 1) end)
    (next_of (drop end text)) cs (next_of behind) mine other none

unjoined_on : (text : List ℕ) (at end : ℕ) (r : Reading) (p : Piece) → IsPieceAt text at p end
    → after_piece r p ≡ None → (rest : List ℕ) (qs : List Piece) (s : Reading)
    → BeginsWith qs (get_or text at 0 ∷ rest) [] → after_pieces (Some r) qs ≡ Some s → ⊥
unjoined_on text at end r p x none rest [] s y e = absurd cc
unjoined_on text at end r p x none rest (q ∷ qs) s y e =
    let never : after_piece r q ≡ None = other_piece text at end r p q x none y.0 y.1 rest y.2 y.3 in
    let all : after_pieces (Some r) (q ∷ qs) ≡ None = ap (λ (o : Option Reading). after_pieces o qs) never
    ∙ joined_none qs in
    absurd cc

pub unjoined_here : (text : List ℕ) (at end : ℕ) (r : Reading) (p : Piece) → Reaches text at r → at < length text
    → IsPieceAt text at p end → after_piece r p ≡ None → IsBad text at
unjoined_here text at end r p x l y none = record {
  within = omega (arith, l);
  before = goes_on text at r (front text at r x);
  after = λ m g.
      let moved : IsAddress (take at text ++ (get_or text at 0 ∷ g.0)) g.1 =
      subst (λ (t : List ℕ). IsAddress t g.1) (one_more text at g.0 m
      ∙ ap (λ (t : List ℕ). t ++ (get_or text at 0 ∷ g.0)) (front_slice text at)) g.2 in
      let on = next_pieces text at r (front text at r x) (get_or text at 0 ∷ g.0) g.1 (inl (sym (next_at text at l)))
      moved in
      unjoined_on text at end r p y none g.0 on.0 on.1 on.2 on.3;
  short = λ e a z. absurd (omega (arith, e, l));
}

-- ---- one token more

pub piece_refuses : (text : List ℕ) (at : ℕ) (r : Reading) (e : SynFault) → PieceFails text at e → StepFails text at r e
piece_refuses text at r (Bad place) y = inl y
piece_refuses text at r Nodes y = absurd y
piece_refuses text at r Deep y = absurd y
piece_refuses text at r NoMemory y = tt

pub step_refuses : (text : List ℕ) (at : ℕ) (r : Reading) → Reaches text at r → at < length text → (e : SynFault)
    → StepFails text at r e → Refuses text e
step_refuses text at r x l (Bad place) (inl y) = bad_here text at place r x l y
step_refuses text at r x l (Bad place) (inr y) = subst (λ k. IsBad text k) (sym y.0)
    (unjoined_here text at y.2 r y.1 x l y.3 y.4)
step_refuses text at r x l Nodes y = absurd y
step_refuses text at r x l Deep y = absurd y
step_refuses text at r x l NoMemory y = tt

pub step_reaches : (text : List ℕ) (at end : ℕ) (r s : Reading) (p : Piece) → Reaches text at r
    → IsPieceAt text at p end → after_piece r p ≡ Some s → Reaches text end s
step_reaches text at end r s p x y e = record {
  pieces = x.pieces ++ p ∷ [];
  within = y.within;
  cut = begins_snoc x.pieces p text (drop at text) (slice_range text at end) (drop end text) x.cut
      (slice_behind text at end (omega (arith, y.order))) y.written;
  joins = joined_snoc (Some begin) x.pieces p r x.joins ∙ e;
}

pub begin_reaches : (text : List ℕ) → Reaches text 0 begin
begin_reaches text = record { pieces = []; within = omega arith; cut = refl; joins = refl }

-- ---- the end of the text

pub part_some : (r : Row) (q : Tree) → with_part r q ≡ Nothing → ⊥
part_some Nothing q e = absurd cc
part_some (Signed a k) q e = absurd cc
part_some (Ended a) q e = absurd cc

abbrev is_alone : Option (Tree × Separator) → Bool
is_alone None = true
is_alone (Some b) = false

joined_some : (r : Reading) (p : Piece) (s : Reading) → after_piece r p ≡ Some s → s ≡ begin → ⊥
joined_some r (Adds k) s e f =
    let same : join_sign r k ≡ begin = let g : s ≡ join_sign r k = cc in sym g ∙ f in
    let row : Signed (row_tree r.row) k ≡ Nothing = ap (λ (x : Reading). x.row) same in
    absurd cc
joined_some r (Splits k) s e f =
    let same : join_separator r k ≡ begin = let g : s ≡ join_separator r k = cc in sym g ∙ f in
    let before : false ≡ true = ap (λ (x : Reading). is_alone x.before) same in
    absurd cc
joined_some r (Part q) s e f = go (may_follow q || is_nothing r.row) refl
  where
    go : (b : Bool) → (may_follow q || is_nothing r.row) ≡ b → ⊥
    go true t =
        let g : Some (join_part r q) ≡ Some s = rw t at e in
        let same : join_part r q ≡ begin = let h : s ≡ join_part r q = cc in sym h ∙ f in
        part_some r.row q (ap (λ (x : Reading). x.row) same)
    go false t = let g : None ≡ Some s = rw t at e in absurd cc

pub joined_on_some : (ps : List Piece) (p : Piece) (r s : Reading) → after_pieces (Some r) (p ∷ ps) ≡ Some s
    → s ≡ begin → ⊥
joined_on_some [] p r s e f = joined_some r p s e f
joined_on_some (q ∷ qs) p r s e f = go (after_piece r p) refl (λ x g. joined_on_some qs q x s g f)
  where
    go : (o : Option Reading) → after_piece r p ≡ o → ((x : Reading) → after_pieces (Some x) (q ∷ qs) ≡ Some s → ⊥) → ⊥
    go None t k = let g : after_pieces None (q ∷ qs) ≡ Some s = sym
        (ap (λ (o : Option Reading). after_pieces o (q ∷ qs)) t) ∙ e in absurd cc
    go (Some x) t k = k x (sym (ap (λ (o : Option Reading). after_pieces o (q ∷ qs)) t) ∙ e)

pub all_read : (text : List ℕ) (r : Reading) → Reaches text (length text) r → (r ≡ begin → ⊥) → IsAddress text (whole r)
all_read text r x some = an_address x.pieces text r pieces (subst (λ (l : List ℕ). BeginsWith x.pieces text l)
    (drop_end text) x.cut) x.joins
  where
    pieces : x.pieces ≡ [] → ⊥
    pieces e =
        let none : Some begin ≡ Some r = sym (ap (λ (l : List Piece). after_pieces (Some begin) l) e) ∙ x.joins in
        some (cc)

nothing_read : (text : List ℕ) (ps : List Piece) → BeginsWith ps text [] → after_pieces (Some begin) ps ≡ Some begin
    → text ≡ []
nothing_read text [] x e = x
nothing_read text (p ∷ ps) x e = absurd (joined_on_some ps p begin begin e refl)

pub nothing_here : (text : List ℕ) (r : Reading) → Reaches text (length text) r → r ≡ begin → IsBad text (length text)
nothing_here text r x e = record {
  within = omega arith;
  before = goes_on text (length text) r (front text (length text) r x);
  after = λ l. absurd (omega (arith, l));
  short = λ f a y.
      let row : BeginsWith (y.0 ∷ y.1) text [] = y.3 in
      no_piece y.0 row.0 row.1 (next_of row.1) (sym empty ∙ row.2) row.3;
}
  where
    empty : text ≡ []
    empty = nothing_read text x.pieces (subst (λ (l : List ℕ). BeginsWith x.pieces text l) (drop_end text) x.cut)
        (x.joins ∙ ap (λ (z : Reading). Some z) e)

pub finish_refuses : (text : List ℕ) (r : Reading) → Reaches text (length text) r → (e : SynFault)
    → FinishFails (length text) r e → Refuses text e
finish_refuses text r x (Bad place) y = subst (λ k. IsBad text k) (sym y.0) (nothing_here text r x y.1)
finish_refuses text r x Nodes y = (
  whole r,
  all_read text r x (λ e. let h : is_large (whole r) ≡ false =
      ap (λ (z : Reading). is_large (whole z)) e in absurd cc),
  y,
)
finish_refuses text r x Deep y = (
  whole r,
  all_read text r x (λ e. absurd
      (let h : operators (whole r) ≡ 0 = ap (λ (z : Reading). operators (whole z)) e in omega (arith, y.1, h))),
  y.0,
  y.1,
)
finish_refuses text r x NoMemory y = tt

pub tree_some : (a : Addr) → tree a ≡ Missing → ⊥
tree_some Here e = absurd cc
tree_some Zero e = absurd cc
tree_some Last e = absurd cc
tree_some (Char n) e = absurd cc
tree_some (Line n) e = absurd cc
tree_some (Fore re) e = absurd cc
tree_some (Back re) e = absurd cc
tree_some (Plus' a b) e = absurd cc
tree_some (Minus' a b) e = absurd cc
tree_some (Comma' a b) e = absurd cc
tree_some (Semi' a b) e = absurd cc

pub finish_reads : (text : List ℕ) (r : Reading) → Reaches text (length text) r → (a : Addr) → tree a ≡ whole r
    → IsAddress text (tree a)
finish_reads text r x a e =
    subst (λ (t : Tree). IsAddress text t) (sym e) (all_read text r x (λ f. tree_some a (e ∙ ap whole f)))

-- ---- one tree

pub one_address : (text : List ℕ) (a b : Tree) → IsAddress text a → IsAddress text b → a ≡ b
one_address text a b x y =
    let on = rows_same (x.0 ∷ x.1) (y.0 ∷ y.1) text [] x.3 y.3 in
    let none : on.0 ≡ [] = nothing_left on.0 on.2 in
    let same : y.0 ∷ y.1 ≡ x.0 ∷ x.1 = on.1 ∙ ap (λ (l : List Piece). (x.0 ∷ x.1) ++ l) none ∙ append-nil (x.0 ∷ x.1) in
    let joins : Some x.2 ≡ Some y.2 = sym x.4 ∙ ap (λ (l : List Piece). after_pieces (Some begin) l) (sym same) ∙ y.4 in
    let reading : x.2 ≡ y.2 = cc in
    x.5 ∙ ap whole reading ∙ sym y.5
