-- Addresses at the beginning of a text.
use Rattle.std.proofs.Common.{◌≡◌, ℕ, ◌<◌, ◌≤◌, ◌==◌, Bool, true, false, List, [], ◌∷◌, ◌++◌, length, get_or, drop}
use Rattle.std.proofs.Common.{Option, Some, None, refl, sym, ap, subst, ◌∙◌, inl, inr, arith, append-nil, append_assoc}
use Rattle.std.specs.Prelude.{slice_range, nat_lt, if◌then◌else◌}
use Rattle.std.specs.Char.{is_ascii_digit}
use Rattle.std.proofs.lemmas.List.{append_cancel_right, length-drop}
use Rattle.std.proofs.lemmas.Bool.{ltb-true, ltb-false}
use Rattle.re_syntax.specs.Tree as expression
use Rattle.addr_syntax.specs.Tree.{Tree, Dot, operators, is_large}
use Rattle.addr_syntax.specs.Marks.{mark_of, next_of, is_digit, is_mark, begins_piece}
use Rattle.addr_syntax.specs.Pieces.{Piece, Part, IsNumber, IsSearch, GoesOnAs, IsPiece, BeginsWith}
use Rattle.addr_syntax.specs.Joined.{Reading, Ended, join_part, whole, after_piece, after_pieces, begin}
use Rattle.addr_syntax.specs.Grammar.{Begins, IsWritten}
use Rattle.addr_syntax.specs.Answer.{ReachesFrom, StepFails, LimitedFails, IsLimited, IsAddressAt, IsBadFrom, FailsFrom}
use Rattle.addr_syntax.specs.Scan.{IsPieceAt, IsBadPiece, Continues}
use Rattle.addr_syntax.specs.declared.address.Addr.{Addr}
use Rattle.addr_syntax.specs.declared.address.Limited.{Limited}
use Rattle.addr_syntax.specs.declared.address.Limited.TheVariants as limited
use Rattle.addr_syntax.specs.declared.address.SynFault.{SynFault}
use Rattle.addr_syntax.specs.declared.address.SynFault.TheVariants.{Bad, Nodes, Deep, NoMemory}
use Rattle.addr_syntax.specs.declared.mark.Mark.{Mark}
use Rattle.addr_syntax.specs.declared.mark.Mark.TheVariants as mark
use Rattle.addr_syntax.proofs.Slices.{slice_none, slice_front, next_at, drop_end}
use Rattle.addr_syntax.proofs.Rows.{begins_snoc, begins_loose, Loose, piece_same, joined_none, joined_append}
use Rattle.addr_syntax.proofs.Rows.{joined_snoc, stands_joins}
use Rattle.addr_syntax.proofs.Places.{slice_behind, joined_on_some, other_piece, tree_some}

-- ---- what begins a piece

pick : (b : Bool) (s t : Mark) → is_mark s ≡ true → is_mark t ≡ true → is_mark (if b then s else t) ≡ true
pick true s t e f = e
pick false s t e f = f

digit_begins : (c : ℕ) → is_ascii_digit c ≡ true → is_mark (mark_of c) ≡ true
unfolding mark_of
digit_begins c e =
    rw e (pick (c == 43) _ _ refl (pick (c == 45) _ _ refl (pick (c == 44) _ _ refl
    (pick (c == 59) _ _ refl (pick (c == 46) _ _ refl
    (pick (c == 36) _ _ refl (pick (c == 35) _ _ refl (pick (c == 47) _ _ refl (pick (c == 63) _ _ refl refl)))))))))

pub no_digit : (n : Option ℕ) → begins_piece n ≡ false → is_digit n ≡ false
no_digit None e = refl
no_digit (Some c) e = go (is_ascii_digit c) refl
  where
    go : (b : Bool) → is_ascii_digit c ≡ b → is_ascii_digit c ≡ false
    go true f = let g = digit_begins c f in absurd cc
    go false f = f

marked : (m : Mark) (p : Piece) (c : ℕ) (cs : List ℕ) (next : Option ℕ) → GoesOnAs m p c cs next → is_mark m ≡ true
marked (mark.Signs k) p c cs next x = refl
marked (mark.Separates k) p c cs next x = refl
marked mark.Dot p c cs next x = refl
marked mark.Dollar p c cs next x = refl
marked mark.Digit p c cs next x = refl
marked mark.Hash p c cs next x = refl
marked mark.Slash p c cs next x = refl
marked mark.Query p c cs next x = refl
marked mark.Other p c cs next x = absurd x

pub piece_first : (p : Piece) (u m : List ℕ) (next : Option ℕ) → IsPiece p u next
    → begins_piece (next_of (u ++ m)) ≡ true
piece_first p [] m next x = absurd x
piece_first p (c ∷ cs) m next x = marked (mark_of c) p c cs next x

pub not_both : (b : Bool) → b ≡ true → b ≡ false → ⊥
not_both b e f = absurd cc

pub row_first : (p : Piece) (ps : List Piece) (text rest : List ℕ) → BeginsWith (p ∷ ps) text rest
    → begins_piece (next_of text) ≡ true
row_first p ps text rest x = ap (λ (l : List ℕ). begins_piece (next_of l)) x.2 ∙ piece_first p x.0 x.1 (next_of x.1) x.3

-- ---- a text begins with one address

pub rows_on : (ps qs : List Piece) (text y rest : List ℕ) → BeginsWith ps text y → BeginsWith qs text rest
    → begins_piece (next_of rest) ≡ false → (more : List Piece) × (qs ≡ ps ++ more) × BeginsWith more y rest
rows_on [] qs text y rest x z e = (qs, refl, subst (λ (l : List ℕ). BeginsWith qs l rest) x z)
rows_on (p ∷ ps) [] text y rest x z e = absurd (not_both (begins_piece (next_of text)) (row_first p ps text y x)
    (ap (λ (l : List ℕ). begins_piece (next_of l)) z ∙ e))
rows_on (p ∷ ps) (q ∷ qs) text y rest x z e =
    let s = piece_same p q x.0 x.1 z.0 z.1 (sym x.2 ∙ z.2) x.3 z.3 in
    let on = rows_on ps qs x.1 y rest x.4 (subst (λ (l : List ℕ). BeginsWith qs l rest) (sym s.1) z.4) e in
    (on.0, ap (λ r. r ∷ qs) (sym s.0) ∙ ap (λ (l : List Piece). p ∷ l) on.1, on.2)

pub begins_once : (text rest more : List ℕ) (a b : Tree) → Begins a text rest → Begins b text more → (a ≡ b)
    × (rest ≡ more)
begins_once text rest more a b x y = go on.0 on.1 on.2
  where
    on : (z : List Piece) × (y.0 ∷ y.1 ≡ (x.0 ∷ x.1) ++ z) × BeginsWith z rest more
    on = rows_on (x.0 ∷ x.1) (y.0 ∷ y.1) text rest more x.3 y.3 y.6

    go : (z : List Piece) → y.0 ∷ y.1 ≡ (x.0 ∷ x.1) ++ z → BeginsWith z rest more → (a ≡ b) × (rest ≡ more)
    go [] e w =
        let same : y.0 ∷ y.1 ≡ x.0 ∷ x.1 = e ∙ append-nil (x.0 ∷ x.1) in
        let joins : Some x.2 ≡ Some y.2 = sym x.4 ∙ ap (λ (l : List Piece). after_pieces (Some begin) l) (sym same)
        ∙ y.4 in
        let reading : x.2 ≡ y.2 = cc in
        (x.5 ∙ ap whole reading ∙ sym y.5, w)
    go (p ∷ ps) e w = absurd (not_both (begins_piece (next_of rest)) (row_first p ps rest more w) x.6)

-- ---- what may come behind a piece

number_closes : (n : ℕ) (v : List ℕ) (next m : Option ℕ) → IsNumber n v next → begins_piece m ≡ false → IsNumber n v m
number_closes n [] next m x e = absurd x
number_closes n (d ∷ ds) next m x e = (x.0, no_digit m e)

search_closes : (d : ℕ) (r : expression.Tree) (v : List ℕ) (c : ℕ) (m : Option ℕ) → IsSearch d r v (Some c)
    → IsSearch d r v m
search_closes d r v c m (body, x, inl e) = (body, x, inl e)
search_closes d r v c m (body, x, inr e) = let f = e.1 in absurd cc

as_closes : (k : Mark) (p : Piece) (c : ℕ) (cs : List ℕ) (n : ℕ) (m : Option ℕ) → GoesOnAs k p c cs (Some n)
    → begins_piece m ≡ false → GoesOnAs k p c cs m
as_closes (mark.Signs k) p c cs n m x e = x
as_closes (mark.Separates k) p c cs n m x e = x
as_closes mark.Dot p c cs n m x e = x
as_closes mark.Dollar p c cs n m x e = x
as_closes mark.Digit p c cs n m x e = (x.0, x.1, number_closes x.0 (c ∷ cs) (Some n) m x.2 e)
as_closes mark.Hash p c cs n m x e = (x.0, x.1, number_closes x.0 cs (Some n) m x.2 e)
as_closes mark.Slash p c cs n m x e = (x.0, x.1, search_closes 47 x.0 cs n m x.2)
as_closes mark.Query p c cs n m x e = (x.0, x.1, search_closes 63 x.0 cs n m x.2)
as_closes mark.Other p c cs n m x e = absurd x

-- a piece before a rune may stand before anything that begins no piece
pub piece_closes : (p : Piece) (v : List ℕ) (n : ℕ) (m : Option ℕ) → IsPiece p v (Some n)
    → begins_piece m ≡ false → IsPiece p v m
piece_closes p [] n m x e = absurd x
piece_closes p (c ∷ cs) n m x e = as_closes (mark_of c) p c cs n m x e

-- a piece, with some runes more, may stand before anything that begins no piece
abbrev pub Closable : Mark → Piece → ℕ → List ℕ → Type 0
Closable k p c cs = (more : List ℕ) × ((m : Option ℕ) → begins_piece m ≡ false → GoesOnAs k p c (cs ++ more) m)

number_ended : (n : ℕ) (v : List ℕ) (next m : Option ℕ) → IsNumber n v next
    → begins_piece m ≡ false → IsNumber n (v ++ []) m
number_ended n v next m x e = subst (λ (l : List ℕ). IsNumber n l m) (sym (append-nil v)) (number_closes n v next m x e)

search_ended : (d : ℕ) (r : expression.Tree) (v : List ℕ) (next : Option ℕ) → IsSearch d r v next → (more : List ℕ)
    × ((m : Option ℕ) → IsSearch d r (v ++ more) m)
search_ended d r v next (body, x, inl e) = ([], λ m. (body, x, inl (append-nil v ∙ e)))
search_ended d r v next (body, x, inr e) = (d ∷ [], λ m. (body, x, inl (ap (λ (l : List ℕ). l ++ d ∷ []) e.0)))

closable : (k : Mark) (p : Piece) (c : ℕ) (cs : List ℕ) (next : Option ℕ) → GoesOnAs k p c cs next → Closable k p c cs
closable (mark.Signs k) p c cs next x = ([], λ m e. (x.0, append-nil cs ∙ x.1))
closable (mark.Separates k) p c cs next x = ([], λ m e. (x.0, append-nil cs ∙ x.1))
closable mark.Dot p c cs next x = ([], λ m e. (x.0, append-nil cs ∙ x.1))
closable mark.Dollar p c cs next x = ([], λ m e. (x.0, append-nil cs ∙ x.1))
closable mark.Digit p c cs next x = ([], λ m e. (x.0, x.1, number_ended x.0 (c ∷ cs) next m x.2 e))
closable mark.Hash p c cs next x = ([], λ m e. (x.0, x.1, number_ended x.0 cs next m x.2 e))
closable mark.Slash p c cs next x = let s = search_ended 47 x.0 cs next x.2 in (s.0, λ m e. (x.0, x.1, s.1 m))
closable mark.Query p c cs next x = let s = search_ended 63 x.0 cs next x.2 in (s.0, λ m e. (x.0, x.1, s.1 m))
closable mark.Other p c cs next x = absurd x

pub piece_closable : (p : Piece) (v : List ℕ) (next : Option ℕ) → IsPiece p v next → (more : List ℕ)
    × ((m : Option ℕ) → begins_piece m ≡ false → IsPiece p (v ++ more) m)
piece_closable p [] next x = absurd x
piece_closable p (c ∷ cs) next x = closable (mark_of c) p c cs next x

-- what comes behind a row that doesn't end the text may be changed to anything that begins no piece
pub rows_close : (ps : List Piece) (text rest : List ℕ) (n : ℕ) → next_of rest ≡ Some n → BeginsWith ps text rest
    → (w : List ℕ) × (text ≡ w ++ rest) × ((y : List ℕ) → begins_piece (next_of y) ≡ false → BeginsWith ps (w ++ y) y)
rows_close [] text rest n f x = ([], x, λ y h. refl)
rows_close (p ∷ ps) text rest n f x = go (rows_close ps x.1 rest n f x.4)
  where
    next : (w y : List ℕ) → x.1 ≡ w ++ rest → begins_piece (next_of y) ≡ false → IsPiece p x.0 (next_of (w ++ y))
    next [] y e h = piece_closes p x.0 n (next_of y) (subst (λ (k : Option ℕ). IsPiece p x.0 k) (ap next_of e ∙ f) x.3)
        h
    next (c ∷ cs) y e h = subst (λ (k : Option ℕ). IsPiece p x.0 k) (ap next_of e) x.3

    go : ((w : List ℕ) × (x.1 ≡ w ++ rest) × ((y : List ℕ) → begins_piece (next_of y) ≡ false → BeginsWith ps (w ++ y)
        y)) → (w : List ℕ) × (text ≡ w ++ rest) × ((y : List ℕ) → begins_piece (next_of y) ≡ false → BeginsWith (p ∷ ps)
        (w ++ y) y)
    go (w, e, g) = (
      x.0 ++ w,
      x.2 ∙ ap (λ (l : List ℕ). x.0 ++ l) e ∙ sym (append_assoc x.0 w rest),
      λ y h. (x.0, w ++ y, append_assoc x.0 w y, next w y e h, g y h),
    )

-- ---- what is read so far

pub begins_from : (text : List ℕ) (from : ℕ) → from ≤ length text → ReachesFrom text from from begin
begins_from text from l = record { pieces = []; order = omega arith; within = l; cut = refl; joins = refl }

pub step_from : (text : List ℕ) (from at end : ℕ) (r s : Reading) (p : Piece) → ReachesFrom text from at r
    → IsPieceAt text at p end → after_piece r p ≡ Some s → ReachesFrom text from end s
step_from text from at end r s p x y e = record {
  pieces = x.pieces ++ p ∷ [];
  order = omega (arith, x.order, y.order);
  within = y.within;
  cut = begins_snoc x.pieces p (drop from text) (drop at text) (slice_range text at end) (drop end text) x.cut
      (slice_behind text at end (omega (arith, y.order))) y.written;
  joins = joined_snoc (Some begin) x.pieces p r x.joins ∙ e;
}

-- the runes so far
pub record Front (text : List ℕ) (from at : ℕ) (r : Reading) : Type 0 where
  pub pieces : List Piece
  pub loose : (y : List ℕ) → next_of y ≡ next_of (drop at text) → BeginsWith pieces (slice_range text from at ++ y) y
  pub joins : after_pieces (Some begin) pieces ≡ Some r

pub same_front : (text w : List ℕ) (from at : ℕ) → from ≤ at → drop from text ≡ w ++ drop at text
    → w ≡ slice_range text from at
same_front text w from at l e = append_cancel_right w (slice_range text from at) (drop at text)
    (sym e ∙ slice_behind text from at l)

pub front : (text : List ℕ) (from at : ℕ) (r : Reading) → ReachesFrom text from at r → Front text from at r
front text from at r x =
    let l : Loose x.pieces (drop from text) (drop at text) = begins_loose x.pieces (drop from text) (drop at text)
    x.cut in
    record {
      pieces = x.pieces;
      loose = λ y h. subst (λ (w : List ℕ). BeginsWith x.pieces (w ++ y) y) (same_front text l.0 from at x.order l.1)
          (l.2 y (inl h));
      joins = x.joins;
    }

-- pieces that are joined are an address, where there is one
an_address : (ps : List Piece) (text rest : List ℕ) (r : Reading) → (ps ≡ [] → ⊥) → BeginsWith ps text rest
    → after_pieces (Some begin) ps ≡ Some r → begins_piece (next_of rest) ≡ false → Begins (whole r) text rest
an_address [] text rest r some x e n = absurd (some refl)
an_address (p ∷ ps) text rest r some x e n = (p, ps, r, x, e, refl, n)

pub some_pieces : (ps : List Piece) (r : Reading) → after_pieces (Some begin) ps ≡ Some r → (r ≡ begin → ⊥) → ps ≡ []
    → ⊥
some_pieces ps r e some f =
    let none : Some begin ≡ Some r = sym (ap (λ (l : List Piece). after_pieces (Some begin) l) f) ∙ e in
    some (cc)

limited_some : (b : Limited Addr) (r : Reading) → IsLimited b (whole r) → r ≡ begin → ⊥
limited_some (limited.Whole a) r x e = tree_some a (x.0 ∙ ap whole e)
limited_some limited.Deep r x e = absurd (let h : operators (whole r) ≡ 0 = ap (λ (z : Reading). operators (whole z))
    e in omega (arith, x.1, h))
limited_some limited.Large r x e = let h : is_large (whole r) ≡ false = ap (λ (z : Reading). is_large (whole z)) e in
    absurd cc

pub addr_read : (text : List ℕ) (from at : ℕ) (r : Reading) (b : Limited Addr) → ReachesFrom text from at r
    → begins_piece (next_of (drop at text)) ≡ false → IsLimited b (whole r) → IsAddressAt text from (whole r) at
addr_read text from at r b x stop built = record { order = order; within = x.within; written = written }
  where
    some : x.pieces ≡ [] → ⊥
    some = some_pieces x.pieces r x.joins (limited_some b r built)

    written : IsWritten (whole r) (slice_range text from at) (next_of (drop at text))
    written rest e =
        let f = front text from at r x in
        let some_here = some_pieces f.pieces r f.joins (limited_some b r built) in
        an_address f.pieces (slice_range text from at ++ rest) rest r some_here (f.loose rest e) f.joins
        (ap begins_piece e ∙ stop)

    differ : (ps : List Piece) → x.pieces ≡ ps → from ≡ at → ⊥
    differ [] e g = some e
    differ (p ∷ ps) e g =
        let cut : BeginsWith (p ∷ ps) (drop from text) (drop at text) =
        subst (λ (l : List Piece). BeginsWith l (drop from text) (drop at text)) e x.cut in
        not_both (begins_piece (next_of (drop from text))) (row_first p ps (drop from text) (drop at text) cut)
        (ap (λ k. begins_piece (next_of (drop k text))) g ∙ stop)

    order : from < at
    order = go (nat_lt from at) refl
      where
        go : (b : Bool) → nat_lt from at ≡ b → from < at
        go true e = ltb-true from at e
        go false e = absurd (differ x.pieces refl (omega (arith, x.order, ltb-false from at e)))

-- ---- where no address goes on

pub next_joined : (u y z : List ℕ) → next_of y ≡ next_of z → next_of (u ++ y) ≡ next_of (u ++ z)
next_joined [] y z e = e
next_joined (c ∷ cs) y z e = refl

pub continues : (text : List ℕ) (place : ℕ) (more : List ℕ) → place ≤ length text
    → next_of more ≡ next_of (drop place text) → Continues text place more
continues text place more l e = go (nat_lt place (length text)) refl more e
  where
    go : (b : Bool) → nat_lt place (length text) ≡ b → (more : List ℕ) → next_of more ≡ next_of (drop place text)
        → Continues text place more
    go true f [] e = let h : None ≡ Some (get_or text place 0) = e ∙ next_at text place
        (ltb-true place (length text) f) in absurd cc
    go true f (c ∷ cs) e =
        let here : place < length text = ltb-true place (length text) f in
        let h : Some c ≡ Some (get_or text place 0) = e ∙ next_at text place here in
        let same : c ≡ get_or text place 0 = cc in
        inr (here, cs, ap (λ z. z ∷ cs) same)
    go false f more e =
        let ends : place ≡ length text = omega (arith, l, ltb-false place (length text) f) in
        inl (ends, none more (e ∙ ap (λ k. next_of (drop k text)) ends ∙ ap next_of (drop_end text)))
      where
        none : (m : List ℕ) → next_of m ≡ None → m ≡ []
        none [] e = refl
        none (c ∷ cs) e = absurd cc

pub cut_from : (text : List ℕ) (from at place : ℕ) → from ≤ at → at ≤ place → place ≤ length text
    → slice_range text from place ≡ slice_range text from at ++ slice_range text at place
cut_from text from at place l m n =
    let whole : slice_range text from at ++ drop at text ≡ drop from text = sym (slice_behind text from at l) in
    let part : slice_range text at place ++ drop place text ≡ drop at text = sym (slice_behind text at place m) in
    let all : (slice_range text from at ++ slice_range text at place)
    ++ drop place text ≡ drop from text = append_assoc (slice_range text from at) (slice_range text at place)
    (drop place text) ∙ ap (λ (l : List ℕ). slice_range text from at ++ l) part ∙ whole in
    append_cancel_right (slice_range text from place) (slice_range text from at ++ slice_range text at place)
    (drop place text) (sym (slice_behind text from place (omega (arith, l, m))) ∙ sym all)

pub cut_more : (text : List ℕ) (from at place : ℕ) (more : List ℕ) → from ≤ at → at ≤ place → place ≤ length text
    → slice_range text from place ++ more ≡ slice_range text from at ++ (slice_range text at place ++ more)
cut_more text from at place more l m n = ap (λ (x : List ℕ). x ++ more) (cut_from text from at place l m n)
    ∙ append_assoc (slice_range text from at) (slice_range text at place) more

-- the pieces that come behind what is read, where an address begins with that
next_pieces : (text : List ℕ) (from at : ℕ) (r : Reading) → Front text from at r → (z rest : List ℕ) (a : Tree)
    → next_of z ≡ next_of (drop at text) → Begins a (slice_range text from at ++ z) rest → (qs : List Piece)
    × (s : Reading) × BeginsWith qs z rest × (after_pieces (Some r) qs ≡ Some s)
next_pieces text from at r f z rest a h x =
    let on = rows_on f.pieces (x.0 ∷ x.1) (slice_range text from at ++ z) z rest (f.loose z h) x.3 x.6 in
    let joins : after_pieces (Some r) on.0 ≡ Some x.2 =
    ap (λ (o : Option Reading). after_pieces o on.0) (sym f.joins) ∙ sym (joined_append (Some begin) f.pieces on.0)
    ∙ ap (λ (l : List Piece). after_pieces (Some begin) l) (sym on.1) ∙ x.4 in
    (on.0, x.2, on.2, joins)

dead_piece : (text : List ℕ) (from at place : ℕ) (r : Reading) → ReachesFrom text from at r
    → begins_piece (next_of (drop at text)) ≡ true → IsBadPiece text at place → (more : List ℕ)
    → next_of more ≡ next_of (drop place text) → (a : Tree) (rest : List ℕ)
    → Begins a (slice_range text from place ++ more) rest → ⊥
dead_piece text from at place r x begins bad more next a rest y = go on.0 on.2
  where
    z : List ℕ
    z = slice_range text at place ++ more

    same : next_of z ≡ next_of (drop at text)
    same = next_joined (slice_range text at place) more (drop place text) next
        ∙ ap next_of (sym (slice_behind text at place bad.order))

    on : (qs : List Piece) × (s : Reading) × BeginsWith qs z rest × (after_pieces (Some r) qs ≡ Some s)
    on = next_pieces text from at r (front text from at r x) z rest a same
        (subst (λ (t : List ℕ). Begins a t rest) (cut_more text from at place more x.order bad.order bad.within) y)

    go : (qs : List Piece) → BeginsWith qs z rest → ⊥
    go [] e = not_both (begins_piece (next_of z)) (ap begins_piece same ∙ begins)
        (ap (λ (l : List ℕ). begins_piece (next_of l)) e ∙ y.6)
    go (q ∷ qs) w = bad.dead more q w.0 w.1 (continues text place more bad.within next) w.2 w.3

dead_joined : (text : List ℕ) (from at end : ℕ) (r : Reading) (p : Piece) → ReachesFrom text from at r
    → at < length text → begins_piece (next_of (drop at text)) ≡ true → IsPieceAt text at p end
    → after_piece r p ≡ None → (more : List ℕ) → next_of more ≡ next_of (drop at text) → (a : Tree) (rest : List ℕ)
    → Begins a (slice_range text from at ++ more) rest → ⊥
dead_joined text from at end r p x l begins at_p none more next a rest y = go on.0 on.1 on.2 on.3
    (continues text at more (omega (arith, l)) next)
  where
    on : (qs : List Piece) × (s : Reading) × BeginsWith qs more rest × (after_pieces (Some r) qs ≡ Some s)
    on = next_pieces text from at r (front text from at r x) more rest a next y

    go : (qs : List Piece) (s : Reading) → BeginsWith qs more rest → after_pieces (Some r) qs ≡ Some s
        → Continues text at more → ⊥
    go qs s w e (inl k) = absurd (omega (arith, k.0, l))
    go [] s w e (inr k) = not_both (begins_piece (next_of more)) (ap begins_piece next ∙ begins)
        (ap (λ (l : List ℕ). begins_piece (next_of l)) w ∙ y.6)
    go (q ∷ qs) s w e (inr k) =
        let never : after_piece r q ≡ None = other_piece text at end r p q at_p none w.0 w.1 k.1 (sym k.2 ∙ w.2) w.3 in
        let all : after_pieces (Some r) (q ∷ qs) ≡ None = ap (λ (o : Option Reading). after_pieces o qs) never
        ∙ joined_none qs in
        absurd cc

-- ---- what may come at such a place

abbrev pub GoesOnFrom : List ℕ → ℕ → ℕ → Type 0
GoesOnFrom text from place = (more : List ℕ) × (a : Tree) × ((next : Option ℕ)
    → begins_piece next ≡ false → IsWritten a (slice_range text from place ++ more) next)

dot_closes : (m : Option ℕ) → IsPiece (Part Dot) (46 ∷ []) m
unfolding mark_of
dot_closes m = (refl, refl)

pub dot_row : (y : List ℕ) → begins_piece (next_of y) ≡ false → Begins Dot (46 ∷ y) y
dot_row y n = (
  Part Dot,
  [],
  record { before = None; row = Ended Dot },
  (46 ∷ [], y, refl, dot_closes (next_of y), refl),
  refl,
  refl,
  n,
)

on_nothing : (text : List ℕ) (from place : ℕ) → from ≡ place → GoesOnFrom text from place
on_nothing text from place e =
    let none : slice_range text from place ≡ [] = ap (λ k. slice_range text from k) (sym e) ∙ slice_none text from in (
      46 ∷ [],
      Dot,
      λ next n rest same. subst (λ (l : List ℕ). Begins Dot ((l ++ 46 ∷ []) ++ rest) rest) (sym none)
          (dot_row rest (ap begins_piece same ∙ n)),
    )

-- where a piece or more is read
on_pieces : (text : List ℕ) (from at : ℕ) (r : Reading) → ReachesFrom text from at r → at < length text
    → GoesOnFrom text from at
on_pieces text from at r x l = go x.pieces refl
  where
    go : (ps : List Piece) → x.pieces ≡ ps → GoesOnFrom text from at
    go [] e =
        let same : drop from text ≡ drop at text = subst (λ (l : List Piece). BeginsWith l (drop from text)
        (drop at text)) e x.cut in
        on_nothing text from at (omega (arith, ap length same, length-drop from text, length-drop at text, x.order, l))
    go (p ∷ ps) e =
        let c = rows_close x.pieces (drop from text) (drop at text) (get_or text at 0) (next_at text at l) x.cut in
        let w : c.0 ≡ slice_range text from at = same_front text c.0 from at x.order c.1 in (
          [],
          whole r,
          λ next n rest same.
              let stop : begins_piece (next_of rest) ≡ false = ap begins_piece same ∙ n in
              let row : BeginsWith x.pieces ((slice_range text from at ++ []) ++ rest) rest =
              subst (λ (l : List ℕ). BeginsWith x.pieces (l ++ rest) rest)
              (w ∙ sym (append-nil (slice_range text from at))) (c.2 rest stop) in
              an_address x.pieces ((slice_range text from at ++ []) ++ rest) rest r
              (λ f. absurd (let h = sym e ∙ f in cc)) row x.joins stop,
        )

snoc_some : (ps : List Piece) (p : Piece) → ps ++ p ∷ [] ≡ [] → ⊥
snoc_some [] p e = absurd cc
snoc_some (q ∷ qs) p e = absurd cc

on_piece : (text : List ℕ) (from at place : ℕ) (r : Reading) → ReachesFrom text from at r → at < length text
    → IsBadPiece text at place → at < place → GoesOnFrom text from place
on_piece text from at place r x l bad some = (more, whole s, written)
  where
    f : Front text from at r
    f = front text from at r x

    v : List ℕ
    v = slice_range text at place ++ (bad.before some).0

    q : Tree
    q = (bad.before some).1

    s : Reading
    s = join_part r q

    ends : (more : List ℕ) × ((m : Option ℕ) → begins_piece m ≡ false → IsPiece (Part q) (v ++ more) m)
    ends = piece_closable (Part q) v None (bad.before some).2

    more : List ℕ
    more = (bad.before some).0 ++ ends.0

    joins : after_pieces (Some begin) (f.pieces ++ Part q ∷ []) ≡ Some s
    joins = joined_snoc (Some begin) f.pieces (Part q) r f.joins ∙ stands_joins r q (bad.before some).3

    first : (rest : List ℕ) → next_of ((v ++ ends.0) ++ rest) ≡ next_of (drop at text)
    first rest =
        ap (λ (l : List ℕ). next_of (((l ++ (bad.before some).0) ++ ends.0) ++ rest))
        (slice_front text at place some bad.within) ∙ sym (next_at text at l)

    cut : (rest : List ℕ) → (slice_range text from place ++ more) ++ rest ≡ slice_range text from at
        ++ ((v ++ ends.0) ++ rest)
    cut rest =
        let a : slice_range text from place ++ more ≡ slice_range text from at
        ++ (slice_range text at place ++ more) = cut_more text from at place more x.order bad.order bad.within in
        let b : slice_range text at place ++ more ≡ v ++ ends.0 = sym
        (append_assoc (slice_range text at place) (bad.before some).0 ends.0) in
        ap (λ (l : List ℕ). l ++ rest) (a ∙ ap (λ (l : List ℕ). slice_range text from at ++ l) b)
        ∙ append_assoc (slice_range text from at) (v ++ ends.0) rest

    written : (next : Option ℕ) → begins_piece next ≡ false → IsWritten (whole s) (slice_range text from place ++ more)
        next
    written next n rest same =
        let stop : begins_piece (next_of rest) ≡ false = ap begins_piece same ∙ n in
        let row : BeginsWith (f.pieces ++ Part q ∷ []) (slice_range text from at ++ ((v ++ ends.0) ++ rest)) rest =
        begins_snoc f.pieces (Part q) (slice_range text from at ++ ((v ++ ends.0) ++ rest)) ((v ++ ends.0) ++ rest)
        (v ++ ends.0) rest (f.loose ((v ++ ends.0) ++ rest) (first rest)) refl (ends.1 (next_of rest) stop) in
        subst (λ (l : List ℕ). Begins (whole s) l rest) (sym (cut rest))
        (an_address (f.pieces ++ Part q ∷ []) (slice_range text from at ++ ((v ++ ends.0) ++ rest)) rest s
        (snoc_some f.pieces (Part q)) row joins stop)

bad_piece_from : (text : List ℕ) (from at place : ℕ) (r : Reading) → ReachesFrom text from at r → at < length text
    → begins_piece (next_of (drop at text)) ≡ true → IsBadPiece text at place → IsBadFrom text from place
bad_piece_from text from at place r x l begins bad = record {
  order = omega (arith, x.order, bad.order);
  within = bad.within;
  before = go (nat_lt at place) refl;
  dead = dead_piece text from at place r x begins bad;
}
  where
    go : (b : Bool) → nat_lt at place ≡ b → GoesOnFrom text from place
    go true e = on_piece text from at place r x l bad (ltb-true at place e)
    go false e =
        let here : at ≡ place = omega (arith, bad.order, ltb-false at place e) in
        subst (λ k. GoesOnFrom text from k) here (on_pieces text from at r x l)

bad_joined_from : (text : List ℕ) (from at end : ℕ) (r : Reading) (p : Piece) → ReachesFrom text from at r
    → at < length text → begins_piece (next_of (drop at text)) ≡ true → IsPieceAt text at p end
    → after_piece r p ≡ None → IsBadFrom text from at
bad_joined_from text from at end r p x l begins at_p none = record {
  order = x.order;
  within = x.within;
  before = on_pieces text from at r x l;
  dead = dead_joined text from at end r p x l begins at_p none;
}

pub step_fails_from : (text : List ℕ) (from at : ℕ) (r : Reading) → ReachesFrom text from at r → at < length text
    → begins_piece (Some (get_or text at 0)) ≡ true → (e : SynFault) → StepFails text at r e → FailsFrom text from e
step_fails_from text from at r x l begins (Bad place) (inl y) =
    bad_piece_from text from at place r x l (ap begins_piece (next_at text at l) ∙ begins) y
step_fails_from text from at r x l begins (Bad place) (inr y) =
    subst (λ k. IsBadFrom text from k) (sym y.0) (bad_joined_from text from at y.2 r y.1 x l
    (ap begins_piece (next_at text at l) ∙ begins) y.3 y.4)
step_fails_from text from at r x l begins Nodes y = absurd y
step_fails_from text from at r x l begins Deep y = absurd y
step_fails_from text from at r x l begins NoMemory y = tt

nothing_from : (text : List ℕ) (from at : ℕ) (r : Reading) → ReachesFrom text from at r
    → begins_piece (next_of (drop at text)) ≡ false → r ≡ begin → IsBadFrom text from at
nothing_from text from at r x stop e = record {
  order = x.order;
  within = x.within;
  before = on_nothing text from at here;
  dead = λ more next a rest y.
      let none : slice_range text from at ≡ [] = ap (λ k. slice_range text from k) (sym here) ∙ slice_none text from in
      let row : BeginsWith (y.0 ∷ y.1) more rest = subst (λ (l : List ℕ). BeginsWith (y.0 ∷ y.1) (l ++ more) rest) none
      y.3 in
      not_both (begins_piece (next_of more)) (row_first y.0 y.1 more rest row) (ap begins_piece next ∙ stop);
}
  where
    empty : (ps : List Piece) → BeginsWith ps (drop from text) (drop at text) → after_pieces (Some begin) ps ≡ Some r
        → drop from text ≡ drop at text
    empty [] w f = w
    empty (p ∷ ps) w f = absurd (joined_on_some ps p begin r f e)

    here : from ≡ at
    here =
        let same : drop from text ≡ drop at text = empty x.pieces x.cut x.joins in
        omega (arith, ap length same, length-drop from text, length-drop at text, x.order, x.within)

pub limited_fails_from : (text : List ℕ) (from at : ℕ) (r : Reading) → ReachesFrom text from at r
    → begins_piece (next_of (drop at text)) ≡ false → (e : SynFault) → LimitedFails at r e → FailsFrom text from e
limited_fails_from text from at r x stop (Bad place) y = subst (λ k. IsBadFrom text from k) (sym y.0)
    (nothing_from text from at r x stop y.1)
limited_fails_from text from at r x stop Nodes y = absurd y
limited_fails_from text from at r x stop Deep y = absurd y
limited_fails_from text from at r x stop NoMemory y = tt

-- ---- where reading ends

pub stops_at_end : (text : List ℕ) (at : ℕ) → at ≡ length text → begins_piece (next_of (drop at text)) ≡ false
stops_at_end text at e = ap (λ k. begins_piece (next_of (drop k text))) e
    ∙ ap (λ (l : List ℕ). begins_piece (next_of l)) (drop_end text)

pub stops_there : (text : List ℕ) (at : ℕ) → at < length text → begins_piece (Some (get_or text at 0)) ≡ false →
    begins_piece (next_of (drop at text)) ≡ false
stops_there text at l e = ap begins_piece (next_at text at l) ∙ e
