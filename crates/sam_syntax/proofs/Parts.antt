-- The parts of pieces at the front of a text: the functions cut them as the relations say.
use Rattle.std.proofs.Common.{◌≡◌, ℕ, zero, suc, ◌≤◌, ◌==◌, Bool, true, false, List, [], ◌∷◌, ◌++◌, length, Option}
use Rattle.std.proofs.Common.{Some, None, refl, sym, ap, subst, ◌∙◌, inl, inr, arith}
use Rattle.std.specs.Option.{option_map}
use Rattle.std.proofs.lemmas.Bool.{eqb-true}
use Rattle.std.proofs.lemmas.List.{length-append}
use Rattle.am_text.specs.Number.{number_after}
use Rattle.re_syntax.specs.Tree as expression
use Rattle.addr_syntax.specs.Tree as address
use Rattle.addr_syntax.specs.Marks.{next_of, is_digit, begins_piece}
use Rattle.addr_syntax.specs.Pieces as part
use Rattle.addr_syntax.specs.Pieces.{IsNumber}
use Rattle.addr_syntax.specs.Joined.{Reading, begin, whole, after_pieces}
use Rattle.addr_syntax.specs.Grammar.{Begins}
use Rattle.addr_syntax.specs.Addresses.{expression_of, first_piece, tree_of_pieces}
use Rattle.addr_syntax.proofs.Bodies.{whole_expression}
use Rattle.addr_syntax.proofs.Cuts.{piece_cut, piece_back}
use Rattle.addr_syntax.proofs.Digits.{digit_inside, number_of_digits}
use Rattle.addr_syntax.proofs.Fronts.{piece_first, not_both}
use Rattle.edit_parts.specs.Kinds.{is_next}
use Rattle.edit_parts.specs.Texts.{after_blanks, unescaped, Quoted, Text, Nth, All}
use Rattle.sam_syntax.specs.Cuts.{Cut, cut_as, cut_on, before}
use Rattle.sam_syntax.specs.Texts.{up_to_slash, lines, text, quoted_expression, number_from, nth, all, row_within}
use Rattle.sam_syntax.specs.Texts.{first_address}
use Rattle.sam_syntax.proofs.Cuts.{some_same, cut_same, none_cut, as_only, on_only, before_only}
use Rattle.sam_syntax.proofs.Texts.{closed_some, closed_only, lines_some, lines_only, number_some, number_only}
use Rattle.sam_syntax.proofs.Texts.{expression_some, expression_only}

-- ---- texts

pub text_some : (t u rest : List ℕ) → Text t u rest → text u ≡ Some (t, rest)
text_some t [] rest x = absurd x
text_some t (c ∷ cs) rest (inl x) =
    let f : up_to_slash false cs ≡ Some (x.1, rest) = ap (up_to_slash false) x.3.0 ∙ closed_some false x.1 rest x.3.1 in
    rw (ap (λ z. z == 47) x.0) (ap (cut_as (unescaped false)) f ∙ ap (λ (l : List ℕ). Some (l, rest)) (sym x.2))
text_some t (c ∷ cs) rest (inr x) =
    let f : lines true cs ≡ Some (t, rest) = ap (lines true) x.1.0 ∙ lines_some true t rest x.1.1 x.1.2 in
    rw (ap (λ z. z == 47) x.0, ap (λ z. z == 10) x.0) f

pub text_only : (t u rest : List ℕ) → text u ≡ Some (t, rest) → Text t u rest
text_only t [] rest h = none_cut t rest h
text_only t (c ∷ cs) rest h = go (c == 47) refl (c == 10) refl
  where
    go : (a : Bool) → (c == 47) ≡ a → (b : Bool) → (c == 10) ≡ b → Text t (c ∷ cs) rest
    go true e b f =
        let g : cut_as (unescaped false) (up_to_slash false cs) ≡ Some (t, rest) = rw e at h in
        let x = as_only (unescaped false) (up_to_slash false cs) t rest g in
        inl (eqb-true c 47 e, x.0, sym x.2, closed_only false cs x.0 rest x.1)
    go false e true f =
        let g : lines true cs ≡ Some (t, rest) = rw (e, f) at h in
        inr (eqb-true c 10 f, lines_only true cs t rest g)
    go false e false f =
        let g : ◌≡◌ {A = Cut (List ℕ)} None (Some (t, rest)) = rw (e, f) at h in
        absurd (none_cut t rest g)

-- ---- expressions

abbrev expression_before : List ℕ → List ℕ → Cut expression.Tree
expression_before body behind = before (expression_of 47 body) behind

pub quoted_some : (re : expression.Tree) (u rest : List ℕ) → Quoted re u rest → quoted_expression u ≡ Some (re, rest)
quoted_some re u rest (body, e, x) =
    ap quoted_expression e
    ∙ ap (λ (o : Cut (List ℕ)). cut_on o expression_before) (closed_some false body rest
    (whole_expression 47 body re x))
    ∙ ap (λ (o : Option expression.Tree). before o rest) (expression_some 47 body re x)

pub quoted_only : (re : expression.Tree) (u rest : List ℕ) → quoted_expression u ≡ Some (re, rest) → Quoted re u rest
quoted_only re [] rest h = absurd (none_cut re rest h)
quoted_only re (c ∷ cs) rest h = go (c == 47) refl
  where
    go : (b : Bool) → (c == 47) ≡ b → Quoted re (c ∷ cs) rest
    go true e =
        let g : cut_on (up_to_slash false cs) expression_before ≡ Some (re, rest) = rw e at h in
        let x = on_only (up_to_slash false cs) expression_before re rest g in
        let b = before_only (expression_of 47 x.0) x.1 re rest x.3 in
        let o = closed_only false cs x.0 x.1 x.2 in (
          x.0,
          ap (λ z. z ∷ cs) (eqb-true c 47 e) ∙ ap (λ (l : List ℕ). 47 ∷ l)
              (o.0 ∙ ap (λ (l : List ℕ). x.0 ++ 47 ∷ l) b.1),
          expression_only 47 x.0 re b.0,
        )
    go false e =
        let g : ◌≡◌ {A = Cut expression.Tree} None (Some (re, rest)) = rw e at h in
        absurd (none_cut re rest g)

-- ---- the number of a match

abbrev behind_blanks : ℕ → List ℕ → Cut ℕ
behind_blanks n behind = Some (n, after_blanks behind)

digits_first : (n : ℕ) (v m : List ℕ) (next : Option ℕ) → IsNumber n v next → is_digit (next_of (v ++ m)) ≡ true
digits_first n [] m next x = absurd x
digits_first n (d ∷ ds) m next x = digit_inside [] 0 d ds n x.0

pub nth_some : (n : ℕ) (u rest : List ℕ) → Nth n u rest → nth u ≡ Some (n, rest)
nth_some n u rest (inl x) = rw x.0 (ap (λ (z : ℕ). Some (z, u)) (sym x.1) ∙ ap (λ (l : List ℕ). Some (n, l)) (sym x.2))
nth_some n u rest (inr (digits, m, e, number, i)) =
    let d : is_digit (next_of u) ≡ true = ap (λ (l : List ℕ). is_digit (next_of l)) e
    ∙ digits_first n digits m (next_of m) number in
    let k = number_of_digits n digits (next_of m) number in
    let f : number_from 0 u ≡ Some (n, m) = ap (number_from 0) e ∙ number_some digits m 0 n k.1 k.2 in
    rw d (ap (λ (o : Cut ℕ). cut_on o behind_blanks) f ∙ ap (λ (l : List ℕ). Some (n, l)) (sym i))

pub nth_only : (n : ℕ) (u rest : List ℕ) → nth u ≡ Some (n, rest) → Nth n u rest
nth_only n u rest h = go (is_digit (next_of u)) refl
  where
    as_number : (k : ℕ) (v m : List ℕ) → is_digit (next_of u) ≡ true → u ≡ v ++ m → number_after 0 v ≡ Some k
        → is_digit (next_of m) ≡ false → IsNumber k v (next_of m)
    as_number k [] m d e f g = not_both (is_digit (next_of u)) d (ap (λ (l : List ℕ). is_digit (next_of l)) e ∙ g)
    as_number k (c ∷ cs) m d e f g = (f, g)

    go : (b : Bool) → is_digit (next_of u) ≡ b → Nth n u rest
    go true e =
        let g : cut_on (number_from 0 u) behind_blanks ≡ Some (n, rest) = rw e at h in
        let x = on_only (number_from 0 u) behind_blanks n rest g in
        let s = cut_same x.0 n (after_blanks x.1) rest x.3 in
        let o = number_only u 0 x.0 x.1 x.2 in
        inr (
          o.0,
          x.1,
          o.1,
          subst (λ (k : ℕ). IsNumber k o.0 (next_of x.1)) s.0 (as_number x.0 o.0 x.1 e o.1 o.2 o.3),
          sym s.1,
        )
    go false e =
        let g : ◌≡◌ {A = Cut ℕ} (Some (1, u)) (Some (n, rest)) = rw e at h in
        let s = cut_same 1 n u rest g in
        inl (e, sym s.0, sym s.1)

-- ---- `g`

pub all_some : (b : Bool) (u rest : List ℕ) → All b u rest → all u ≡ Some (b, rest)
all_some true u rest x = ap all x
all_some false [] rest x = ap (λ (l : List ℕ). Some (false, l)) x.0
all_some false (c ∷ cs) rest x =
    let e : (c == 103) ≡ false = ap (λ (l : List ℕ). is_next 103 (next_of l)) x.0 ∙ x.1 in
    rw e (ap (λ (l : List ℕ). Some (false, l)) x.0)

pub all_only : (b : Bool) (u rest : List ℕ) → all u ≡ Some (b, rest) → All b u rest
all_only b [] rest h =
    let s = cut_same false b [] rest h in
    subst (λ (a : Bool). All a [] rest) s.0 (s.1, ap (λ (l : List ℕ). is_next 103 (next_of l)) (sym s.1))
all_only b (c ∷ cs) rest h = go (c == 103) refl
  where
    go : (a : Bool) → (c == 103) ≡ a → All b (c ∷ cs) rest
    go true e =
        let g : ◌≡◌ {A = Cut Bool} (Some (true, cs)) (Some (b, rest)) = rw e at h in
        let s = cut_same true b cs rest g in
        subst (λ (a : Bool). All a (c ∷ cs) rest) s.0 (ap (λ z. z ∷ cs) (eqb-true c 103 e)
        ∙ ap (λ (l : List ℕ). 103 ∷ l) s.1)
    go false e =
        let g : ◌≡◌ {A = Cut Bool} (Some (false, c ∷ cs)) (Some (b, rest)) = rw e at h in
        let s = cut_same false b (c ∷ cs) rest g in
        subst (λ (a : Bool). All a (c ∷ cs) rest) s.0 (s.1, ap (λ (l : List ℕ). is_next 103 (next_of l)) (sym s.1) ∙ e)

-- ---- addresses

abbrev Row : Type 0
Row = List part.Piece

abbrev row_on : ℕ → part.Piece → List ℕ → Cut Row
row_on n p behind = cut_as (λ (ps : Row). p ∷ ps) (row_within n behind)

row_none : (n : ℕ) → row_within n [] ≡ Some ([], [])
unfolding row_within
row_none n = refl

row_zero : (c : ℕ) (cs : List ℕ) → row_within 0 (c ∷ cs) ≡ None
unfolding row_within
row_zero c cs = refl

row_ends : (n c : ℕ) (cs : List ℕ) → begins_piece (Some c) ≡ false → row_within (suc n) (c ∷ cs) ≡ Some ([], c ∷ cs)
unfolding row_within
row_ends n c cs e = rw e refl

row_more : (n c : ℕ) (cs : List ℕ) → begins_piece (Some c) ≡ true → row_within (suc n)
    (c ∷ cs) ≡ cut_on (first_piece (c ∷ cs)) (row_on n)
unfolding row_within
row_more n c cs e = rw e refl

row_stops : (n : ℕ) (t : List ℕ) → length t ≤ n → begins_piece (next_of t) ≡ false → row_within n t ≡ Some ([], t)
row_stops n [] l e = row_none n
row_stops zero (c ∷ cs) l e = absurd (omega (arith, l))
row_stops (suc n) (c ∷ cs) l e = row_ends n c cs e

pub row_some : (ps : Row) (t rest : List ℕ) (n : ℕ) → length t ≤ n → part.BeginsWith ps t rest
    → begins_piece (next_of rest) ≡ false → row_within n t ≡ Some (ps, rest)
row_some [] t rest n l x f =
    row_stops n t l (ap (λ (u : List ℕ). begins_piece (next_of u)) x ∙ f) ∙ ap (λ (u : List ℕ). Some ([], u)) x
row_some (p ∷ ps) t rest n l x f = go x.0 x.1 n x.2 x.3 l (λ m k. row_some ps x.1 rest m k x.4 f)
  where
    go : (piece behind : List ℕ) (n : ℕ) → t ≡ piece ++ behind → part.IsPiece p piece (next_of behind) → length t ≤ n
        → ((m : ℕ) → length behind ≤ m → row_within m behind ≡ Some (ps, rest)) → row_within n t ≡ Some (p ∷ ps, rest)
    go [] behind n e y l on = absurd y
    go (c ∷ cs) behind zero e y l on = absurd (let k : length t ≡ suc (length (cs ++ behind)) = ap length e in
        omega (arith, k, l))
    go (c ∷ cs) behind (suc m) e y l on =
        let k : length t ≡ suc (length (cs ++ behind)) = ap length e in
        let small : length behind ≤ m = omega (arith, k, l, length-append cs behind) in
        let first : begins_piece (Some c) ≡ true = piece_first p (c ∷ cs) behind (next_of behind) y in
        ap (row_within (suc m)) e ∙
        row_more m c (cs ++ behind) first ∙
        ap (λ (o : Cut part.Piece). cut_on o (row_on m)) (piece_cut p c cs behind y) ∙
        ap (cut_as (λ (qs : Row). p ∷ qs)) (on m small)

abbrev IsRow : List part.Piece → List ℕ → List ℕ → Type 0
IsRow ps t rest = part.BeginsWith ps t rest × (begins_piece (next_of rest) ≡ false)

no_row : (ps : Row) (t rest : List ℕ) → ◌≡◌ {A = Cut Row} (Some ([], t)) (Some (ps, rest))
    → begins_piece (next_of t) ≡ false → IsRow ps t rest
no_row ps t rest e f =
    let s = cut_same [] ps t rest e in
    subst (λ (qs : Row). IsRow qs t rest) s.0 (s.1, ap (λ (u : List ℕ). begins_piece (next_of u)) (sym s.1) ∙ f)

pub row_only : (n : ℕ) (t : List ℕ) (ps : Row) (rest : List ℕ) → row_within n t ≡ Some (ps, rest) → IsRow ps t rest
row_only n [] ps rest h = no_row ps [] rest (sym (row_none n) ∙ h) refl
row_only zero (c ∷ cs) ps rest h = absurd (none_cut ps rest (sym (row_zero c cs) ∙ h))
row_only (suc n) (c ∷ cs) ps rest h = go (begins_piece (Some c)) refl (λ t qs e. row_only n t qs rest e)
  where
    go : (b : Bool) → begins_piece (Some c) ≡ b → ((t : List ℕ) (qs : Row) → row_within n t ≡ Some (qs, rest)
        → IsRow qs t rest) → IsRow ps (c ∷ cs) rest
    go false e on = no_row ps (c ∷ cs) rest (sym (row_ends n c cs e) ∙ h) e
    go true e on =
        let x = on_only (first_piece (c ∷ cs)) (row_on n) ps rest (sym (row_more n c cs e) ∙ h) in
        let y = as_only (λ (qs : Row). x.0 ∷ qs) (row_within n x.1) ps rest x.3 in
        let s = piece_back x.0 c cs x.1 x.2 in
        let o = on x.1 y.0 y.1 in
        subst (λ (qs : Row). IsRow qs (c ∷ cs) rest) y.2 ((c ∷ s.0, x.1, ap (λ (l : List ℕ). c ∷ l) s.1, s.2, o.0), o.1)

abbrev tree_before : Row → List ℕ → Cut address.Tree
tree_before ps behind = before (tree_of_pieces (Some ps)) behind

pub address_some : (a : address.Tree) (u rest : List ℕ) → Begins a u rest → first_address u ≡ Some (a, rest)
address_some a u rest (p, ps, r, x, e, same, f) =
    let row : row_within (length u) u ≡ Some (p ∷ ps, rest) = row_some (p ∷ ps) u rest (length u) (omega arith) x f in
    ap (λ (o : Cut Row). cut_on o tree_before) row
    ∙ ap (λ (o : Option Reading). before (option_map whole o) rest) e
    ∙ ap (λ (t : address.Tree). Some (t, rest)) (sym same)

pub address_only : (a : address.Tree) (u rest : List ℕ) → first_address u ≡ Some (a, rest) → Begins a u rest
address_only a u rest h =
    let x = on_only (row_within (length u) u) tree_before a rest h in
    let b = before_only (tree_of_pieces (Some x.0)) x.1 a rest x.3 in
    go x.0 x.1 x.2 b.0 b.1
  where
    joins : (p : part.Piece) (ps : Row) (m : List ℕ) → IsRow (p ∷ ps) u m → m ≡ rest → (o : Option Reading)
        → after_pieces (Some begin) (p ∷ ps) ≡ o → option_map whole o ≡ Some a → Begins a u rest
    joins p ps m y same None f g = absurd cc
    joins p ps m y same (Some r) f g =
        let z = subst (λ (l : List ℕ). IsRow (p ∷ ps) u l) same y in
        (p, ps, r, z.0, f, sym (some_same (whole r) a g), z.1)

    go : (ps : Row) (m : List ℕ) → row_within (length u) u ≡ Some (ps, m) → tree_of_pieces (Some ps) ≡ Some a
        → m ≡ rest → Begins a u rest
    go [] m e f same = absurd cc
    go (p ∷ ps) m e f same = joins p ps m (row_only (length u) u (p ∷ ps) m e) same (after_pieces (Some begin) (p ∷ ps))
        refl f
