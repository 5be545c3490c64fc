-- Rows of pieces: how a text is cut into pieces, and that there is one way to do it.
use Rattle.std.proofs.Common.{◌≡◌, ℕ, ◌<◌, ◌==◌, ◌⊎◌, Bool, true, false, List, [], ◌∷◌, ◌++◌, length, take, drop}
use Rattle.std.proofs.Common.{Option, Some, None, refl, sym, ap, subst, ◌∙◌, inl, inr, append-nil, append_assoc}
use Rattle.std.proofs.lemmas.List.{take_at, drop_at}
use Rattle.std.specs.Prelude.{IfSome}
use Rattle.std.specs.Char.{is_ascii_digit}
use Rattle.am_text.specs.Number.{number_after}
use Rattle.re_syntax.specs.Tree as expression
use Rattle.re_syntax.specs.Grammar.{IsExpression}
use Rattle.re_syntax.proofs.Complete.{one_tree}
use Rattle.addr_syntax.specs.Tree.{Tree, RuneAt, LineAt, Forward, Backward}
use Rattle.addr_syntax.specs.Marks.{mark_of, next_of, is_digit}
use Rattle.addr_syntax.specs.Pieces.{Piece, Part, Adds, Splits, IsNumber, IsSearch, GoesOnAs, IsPiece, BeginsWith}
use Rattle.addr_syntax.specs.Joined.{Reading, may_follow, is_nothing, join_part, after_piece, after_pieces}
use Rattle.addr_syntax.specs.Scan.{body_length}
use Rattle.addr_syntax.specs.declared.mark.Mark.{Mark}
use Rattle.addr_syntax.specs.declared.mark.Mark.TheVariants as mark
use Rattle.addr_syntax.proofs.Slices.{cut_twice}
use Rattle.addr_syntax.proofs.Digits.{digit_inside, number_of_digits, true_or_false}
use Rattle.addr_syntax.proofs.Bodies.{Stopped, whole_expression, whole_length}

-- ---- a piece before the end of the text

number_ends_text : (n : ℕ) (v : List ℕ) (next : Option ℕ) → IsNumber n v next → IsNumber n v None
number_ends_text n [] next x = absurd x
number_ends_text n (d ∷ ds) next x = (x.0, refl)

search_ends_text : (d : ℕ) (r : expression.Tree) (v : List ℕ) (next : Option ℕ) → IsSearch d r v next
    → IsSearch d r v None
search_ends_text d r v next (body, x, inl e) = (body, x, inl e)
search_ends_text d r v next (body, x, inr e) = (body, x, inr (e.0, refl))

as_ends : (m : Mark) (p : Piece) (c : ℕ) (cs : List ℕ) (next : Option ℕ) → GoesOnAs m p c cs next
    → GoesOnAs m p c cs None
as_ends (mark.Signs k) p c cs next x = x
as_ends (mark.Separates k) p c cs next x = x
as_ends mark.Dot p c cs next x = x
as_ends mark.Dollar p c cs next x = x
as_ends mark.Digit p c cs next x = (x.0, x.1, number_ends_text x.0 (c ∷ cs) next x.2)
as_ends mark.Hash p c cs next x = (x.0, x.1, number_ends_text x.0 cs next x.2)
as_ends mark.Slash p c cs next x = (x.0, x.1, search_ends_text 47 x.0 cs next x.2)
as_ends mark.Query p c cs next x = (x.0, x.1, search_ends_text 63 x.0 cs next x.2)
as_ends mark.Other p c cs next x = x

pub piece_ends : (p : Piece) (piece : List ℕ) (next : Option ℕ) → IsPiece p piece next → IsPiece p piece None
piece_ends p [] next x = x
piece_ends p (c ∷ cs) next x = as_ends (mark_of c) p c cs next x

-- ---- a text begins with one piece at most

tail_same : (v m v' m' : List ℕ) → v ≡ [] → v' ≡ [] → v ++ m ≡ v' ++ m' → m ≡ m'
tail_same v m v' m' e f g = sym (ap (λ (l : List ℕ). l ++ m) e) ∙ g ∙ ap (λ (l : List ℕ). l ++ m') f

pub number_same : (n n' : ℕ) (v m v' m' : List ℕ) → v ++ m ≡ v' ++ m' → IsNumber n v (next_of m)
    → IsNumber n' v' (next_of m') → (n ≡ n') × (m ≡ m')
number_same n n' v m v' m' e x y = go (cut_twice v m v' m' e)
  where
    a : (0 < length v) × (number_after 0 v ≡ Some n) × (is_digit (next_of m) ≡ false)
    a = number_of_digits n v (next_of m) x

    b : (0 < length v') × (number_after 0 v' ≡ Some n') × (is_digit (next_of m') ≡ false)
    b = number_of_digits n' v' (next_of m') y

    go : (((z : List ℕ) × (v' ≡ v ++ z) × (m ≡ z ++ m')) ⊎ ((z : ℕ) × (zs : List ℕ) × (v ≡ v' ++ z ∷ zs)
        × (m' ≡ z ∷ zs ++ m))) → (n ≡ n') × (m ≡ m')
    go (inl ([], f, g)) =
        let same : v' ≡ v = f ∙ append-nil v in
        let h = a.1 in
        let i = b.1 in
        let j : number_after 0 v' ≡ number_after 0 v = ap (number_after 0) same in
        (cc, g)
    go (inl (z ∷ zs, f, g)) =
        absurd (true_or_false (is_ascii_digit z) (digit_inside v 0 z zs n' (ap (number_after 0) (sym f) ∙ b.1))
        (sym (ap (λ (l : List ℕ). is_digit (next_of l)) g) ∙ a.2))
    go (inr (z, zs, f, g)) =
        absurd (true_or_false (is_ascii_digit z) (digit_inside v' 0 z zs n (ap (number_after 0) (sym f) ∙ a.1))
        (sym (ap (λ (l : List ℕ). is_digit (next_of l)) g) ∙ b.2))

-- the expression, and what comes from its last delimiter on
abbrev Body : ℕ → expression.Tree → List ℕ → List ℕ → Type 0
Body d r v m = (body tail : List ℕ) × IsExpression (Some d) body r × (v ++ m ≡ body ++ tail) × Stopped d tail
    × ((tail ≡ d ∷ m) ⊎ ((tail ≡ []) × (m ≡ [])))

none_next : (m : List ℕ) → next_of m ≡ None → m ≡ []
none_next [] e = refl
none_next (c ∷ cs) e = absurd cc

body_of : (d : ℕ) (r : expression.Tree) (v m : List ℕ) → (d == d) ≡ true → IsSearch d r v (next_of m) → Body d r v m
body_of d r v m same (body, x, inl e) = (
  body,
  d ∷ m,
  x,
  ap (λ (l : List ℕ). l ++ m) e
      ∙ append_assoc body (d ∷ []) m,
  same,
  inl refl,
)
body_of d r v m same (body, x, inr e) =
    let none : m ≡ [] = none_next m e.1 in
    (body, [], x, ap (λ (l : List ℕ). l ++ m) e.0 ∙ ap (λ (l : List ℕ). body ++ l) none, tt, inr (refl, none))

pub bodies_same : (d : ℕ) (r r' : expression.Tree) (b t b' t' : List ℕ) → IsExpression (Some d) b r
    → IsExpression (Some d) b' r' → Stopped d t → Stopped d t' → b ++ t ≡ b' ++ t' → (b ≡ b') × (t ≡ t')
bodies_same d r r' b t b' t' x x' s s' e =
    let long : body_length d false (b ++ t) ≡ length b = whole_length d false b t (whole_expression d b r x) s in
    let long' : body_length d false (b' ++ t') ≡ length b' = whole_length d false b' t' (whole_expression d b' r' x')
    s' in
    let same : length b ≡ length b' = sym long ∙ ap (body_length d false) e ∙ long' in
    let front : take (length b') (b ++ t) ≡ b = take_at b t (length b') same in
    let front' : take (length b') (b' ++ t') ≡ b' = take_at b' t' (length b') refl in
    let back : drop (length b') (b ++ t) ≡ t = drop_at b t (length b') same in
    let back' : drop (length b') (b' ++ t') ≡ t' = drop_at b' t' (length b') refl in
    (sym front ∙ ap (take (length b')) e ∙ front', sym back ∙ ap (drop (length b')) e ∙ back')

search_same : (d : ℕ) (r r' : expression.Tree) (v m v' m' : List ℕ)
    → (d == d) ≡ true → v ++ m ≡ v' ++ m' → IsSearch d r v (next_of m) → IsSearch d r' v' (next_of m') → (r ≡ r')
    × (m ≡ m')
search_same d r r' v m v' m' same e x y = go (body_of d r v m same x) (body_of d r' v' m' same y)
  where
    rest : (t t' : List ℕ) → t ≡ t' → ((t ≡ d ∷ m) ⊎ ((t ≡ []) × (m ≡ []))) → ((t' ≡ d ∷ m') ⊎ ((t' ≡ []) × (m' ≡ [])))
        → m ≡ m'
    rest t t' f (inl g) (inl h) = cc
    rest t t' f (inl g) (inr h) = let i = h.0 in absurd cc
    rest t t' f (inr g) (inl h) = let i = g.0 in absurd cc
    rest t t' f (inr g) (inr h) = g.1 ∙ sym h.1

    go : Body d r v m → Body d r' v' m' → (r ≡ r') × (m ≡ m')
    go (b, t, w, f, s, i) (b', t', w', f', s', i') =
        let both : (b ≡ b') × (t ≡ t') = bodies_same d r r' b t b' t' w w' s s' (sym f ∙ e ∙ f') in (
          one_tree (Some d) b r r' w (subst (λ (l : List ℕ). IsExpression (Some d) l r') (sym both.0) w'),
          rest t t' both.1 i i',
        )

as_same : (m : Mark) (p q : Piece) (c : ℕ) (cs rest cs' rest' : List ℕ)
    → cs ++ rest ≡ cs' ++ rest' → GoesOnAs m p c cs (next_of rest) → GoesOnAs m q c cs' (next_of rest') → (p ≡ q)
    × (rest ≡ rest')
as_same (mark.Signs k) p q c cs rest cs' rest' e x y = (x.0 ∙ sym y.0, tail_same cs rest cs' rest' x.1 y.1 e)
as_same (mark.Separates k) p q c cs rest cs' rest' e x y = (x.0 ∙ sym y.0, tail_same cs rest cs' rest' x.1 y.1 e)
as_same mark.Dot p q c cs rest cs' rest' e x y = (x.0 ∙ sym y.0, tail_same cs rest cs' rest' x.1 y.1 e)
as_same mark.Dollar p q c cs rest cs' rest' e x y = (x.0 ∙ sym y.0, tail_same cs rest cs' rest' x.1 y.1 e)
as_same mark.Digit p q c cs rest cs' rest' e x y =
    let s = number_same x.0 y.0 (c ∷ cs) rest (c ∷ cs') rest' (ap (λ (l : List ℕ). c ∷ l) e) x.2 y.2 in
    (x.1 ∙ ap (λ n. Part (LineAt n)) s.0 ∙ sym y.1, s.1)
as_same mark.Hash p q c cs rest cs' rest' e x y =
    let s = number_same x.0 y.0 cs rest cs' rest' e x.2 y.2 in
    (x.1 ∙ ap (λ n. Part (RuneAt n)) s.0 ∙ sym y.1, s.1)
as_same mark.Slash p q c cs rest cs' rest' e x y =
    let s = search_same 47 x.0 y.0 cs rest cs' rest' refl e x.2 y.2 in
    (x.1 ∙ ap (λ r. Part (Forward r)) s.0 ∙ sym y.1, s.1)
as_same mark.Query p q c cs rest cs' rest' e x y =
    let s = search_same 63 x.0 y.0 cs rest cs' rest' refl e x.2 y.2 in
    (x.1 ∙ ap (λ r. Part (Backward r)) s.0 ∙ sym y.1, s.1)
as_same mark.Other p q c cs rest cs' rest' e x y = absurd x

pub piece_same : (p q : Piece) (u m u' m' : List ℕ) → u ++ m ≡ u' ++ m' → IsPiece p u (next_of m)
    → IsPiece q u' (next_of m') → (p ≡ q) × (m ≡ m')
piece_same p q [] m u' m' e x y = absurd x
piece_same p q (c ∷ cs) m [] m' e x y = absurd y
piece_same p q (c ∷ cs) m (c' ∷ cs') m' e x y =
    let first : c' ≡ c = cc in
    let behind : cs ++ m ≡ cs' ++ m' = cc in
    as_same (mark_of c) p q c cs m cs' m' behind x (subst (λ (z : ℕ). GoesOnAs (mark_of z) q z cs' (next_of m')) first
    y)

-- ---- rows

pub begins_snoc : (ps : List Piece) (p : Piece) (text middle piece rest : List ℕ) → BeginsWith ps text middle
    → middle ≡ piece ++ rest → IsPiece p piece (next_of rest) → BeginsWith (ps ++ p ∷ []) text rest
begins_snoc [] p text middle piece rest x e y = (piece, rest, x ∙ e, y, refl)
begins_snoc (q ∷ qs) p text middle piece rest x e y = (
  x.0,
  x.1,
  x.2,
  x.3,
  begins_snoc qs p x.1 middle piece rest x.4 e y,
)

-- what comes behind a row may be changed, where its first rune stays or nothing is left
abbrev pub Loose : List Piece → List ℕ → List ℕ → Type 0
Loose ps text rest = (w : List ℕ) × (text ≡ w ++ rest) × ((y : List ℕ) → ((next_of y ≡ next_of rest) ⊎ (y ≡ []))
    → BeginsWith ps (w ++ y) y)

pub begins_loose : (ps : List Piece) (text rest : List ℕ) → BeginsWith ps text rest → Loose ps text rest
begins_loose [] text rest x = ([], x, λ y h. refl)
begins_loose (p ∷ ps) text rest x = go (begins_loose ps x.1 rest x.4)
  where
    next : (w y : List ℕ) → x.1 ≡ w ++ rest → ((next_of y ≡ next_of rest) ⊎ (y ≡ [])) → IsPiece p x.0 (next_of (w ++ y))
    next [] y e (inl h) = subst (λ (n : Option ℕ). IsPiece p x.0 n) (ap next_of e ∙ sym h) x.3
    next [] y e (inr h) = subst (λ (n : Option ℕ). IsPiece p x.0 n) (sym (ap next_of h))
        (piece_ends p x.0 (next_of x.1) x.3)
    next (c ∷ cs) y e h = subst (λ (n : Option ℕ). IsPiece p x.0 n) (ap next_of e) x.3

    go : Loose ps x.1 rest → Loose (p ∷ ps) text rest
    go (w, e, f) = (
      x.0 ++ w,
      x.2 ∙ ap (λ (l : List ℕ). x.0 ++ l) e ∙ sym (append_assoc x.0 w rest),
      λ y h. (x.0, w ++ y, append_assoc x.0 w y, next w y e h, f y h),
    )

pub no_piece : (p : Piece) (u m : List ℕ) (next : Option ℕ) → [] ≡ u ++ m → IsPiece p u next → ⊥
no_piece p [] m next e x = x
no_piece p (c ∷ cs) m next e x = absurd cc

pub rows_same : (ps qs : List Piece) (text y : List ℕ) → BeginsWith ps text y → BeginsWith qs text []
    → (more : List Piece) × (qs ≡ ps ++ more) × BeginsWith more y []
rows_same [] qs text y x z = (qs, refl, subst (λ (l : List ℕ). BeginsWith qs l []) x z)
rows_same (p ∷ ps) [] text y x z = absurd (no_piece p x.0 x.1 (next_of x.1) (sym z ∙ x.2) x.3)
rows_same (p ∷ ps) (q ∷ qs) text y x z =
    let s = piece_same p q x.0 x.1 z.0 z.1 (sym x.2 ∙ z.2) x.3 z.3 in
    let on = rows_same ps qs x.1 y x.4 (subst (λ (l : List ℕ). BeginsWith qs l []) (sym s.1) z.4) in
    (on.0, ap (λ r. r ∷ qs) (sym s.0) ∙ ap (λ (l : List Piece). p ∷ l) on.1, on.2)

pub nothing_left : (ps : List Piece) → BeginsWith ps [] [] → ps ≡ []
nothing_left [] x = refl
nothing_left (p ∷ ps) x = absurd (no_piece p x.0 x.1 (next_of x.1) x.2 x.3)

-- ---- joining

pub joined_none : (ps : List Piece) → after_pieces None ps ≡ None
joined_none [] = refl
joined_none (p ∷ ps) = refl

pub joined_append : (o : Option Reading) (ps qs : List Piece) → after_pieces o
    (ps ++ qs) ≡ after_pieces (after_pieces o ps) qs
joined_append o [] qs = refl
joined_append None (p ∷ ps) qs = sym (joined_none qs)
joined_append (Some r) (p ∷ ps) qs = joined_append (after_piece r p) ps qs

pub joined_snoc : (o : Option Reading) (ps : List Piece) (p : Piece) (r : Reading) → after_pieces o ps ≡ Some r
    → after_pieces o (ps ++ p ∷ []) ≡ after_piece r p
joined_snoc o ps p r e = joined_append o ps (p ∷ []) ∙ ap (λ (x : Option Reading). after_pieces x (p ∷ [])) e

pub stands_joins : (r : Reading) (q : Tree) → may_follow q ≡ true → after_piece r (Part q) ≡ Some (join_part r q)
stands_joins r q e = rw e refl

pub begins_joins : (r : Reading) (q : Tree) → is_nothing r.row ≡ true → after_piece r (Part q) ≡ Some (join_part r q)
begins_joins r q e = go (may_follow q) refl
  where
    go : (b : Bool) → may_follow q ≡ b → after_piece r (Part q) ≡ Some (join_part r q)
    go true f = rw f refl
    go false f = rw (f, e) refl

pub begins_none : (r : Reading) (q : Tree) → may_follow q ≡ false → is_nothing r.row ≡ false → after_piece r
    (Part q) ≡ None
begins_none r q e f = rw (e, f) refl

-- a piece that doesn't go on with a row is known by its first rune
pub same_none : (m : Mark) (r : Reading) (p q : Piece) (c : ℕ) (cs : List ℕ) (next : Option ℕ) (cs' : List ℕ)
    (next' : Option ℕ) → GoesOnAs m p c cs next → GoesOnAs m q c cs' next'
    → after_piece r p ≡ None → after_piece r q ≡ None
same_none (mark.Signs k) r p q c cs next cs' next' x y e = let f = x.0 in
    let g : after_piece r p ≡ after_piece r (Adds k) = ap (after_piece r) f in absurd cc
same_none (mark.Separates k) r p q c cs next cs' next' x y e = let f = x.0 in
    let g : after_piece r p ≡ after_piece r (Splits k) = ap (after_piece r) f in absurd cc
same_none mark.Dot r p q c cs next cs' next' x y e = ap (after_piece r) (y.0 ∙ sym x.0) ∙ e
same_none mark.Dollar r p q c cs next cs' next' x y e = ap (after_piece r) (y.0 ∙ sym x.0) ∙ e
same_none mark.Digit r p q c cs next cs' next' x y e = let g : after_piece r p ≡ Some (join_part r (LineAt x.0)) =
    ap (after_piece r) x.1 in absurd cc
same_none mark.Hash r p q c cs next cs' next' x y e = let g : after_piece r p ≡ Some (join_part r (RuneAt x.0)) =
    ap (after_piece r) x.1 in absurd cc
same_none mark.Slash r p q c cs next cs' next' x y e = let g : after_piece r p ≡ Some (join_part r (Forward x.0)) =
    ap (after_piece r) x.1 in absurd cc
same_none mark.Query r p q c cs next cs' next' x y e = let g : after_piece r p ≡ Some (join_part r (Backward x.0)) =
    ap (after_piece r) x.1 in absurd cc
same_none mark.Other r p q c cs next cs' next' x y e = absurd x

pub some_weaker : {X : Type 0} (o : Option X) (P Q : X → Type 0) → ((x : X) → P x → Q x) → IfSome o P → IfSome o Q
some_weaker None P Q f h = tt
some_weaker (Some x) P Q f h = f x h
