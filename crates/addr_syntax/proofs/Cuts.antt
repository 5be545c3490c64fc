-- One piece at the front of a text: the function cuts it as the relation says.
use Rattle.std.proofs.Common.{◌≡◌, ℕ, suc, ◌+◌, ◌-◌, ◌*◌, ◌<◌, ◌≤◌, ◌==◌, Bool, true, false, cond, List, [], ◌∷◌, ◌++◌}
use Rattle.std.proofs.Common.{length, take, drop, Option, Some, None, refl, sym, ap, subst, ◌∙◌, inl, inr, arith}
use Rattle.std.proofs.Common.{add-one, append_assoc}
use Rattle.std.proofs.lemmas.List.{take_at, drop_at, take-append-drop, length-take-le}
use Rattle.std.proofs.lemmas.Bool.{eqb-true, eqb-false}
use Rattle.std.proofs.lemmas.Bool.Decides.{nat_tests}
use Rattle.std.specs.Char.{is_ascii_digit}
use Rattle.am_text.specs.Number.{number_after}
use Rattle.re_syntax.specs.Tree as expression
use Rattle.re_syntax.specs.Build.{level_tree}
use Rattle.re_syntax.specs.Grammar.{IsExpression}
use Rattle.re_syntax.specs.Read as re
use Rattle.re_syntax.proofs.Sound.{whole}
use Rattle.re_syntax.proofs.Complete.{complete_read}
use Rattle.addr_syntax.specs.Tree.{Tree, Dot, End, RuneAt, LineAt, Forward, Backward}
use Rattle.addr_syntax.specs.Marks.{mark_of, next_of, is_digit}
use Rattle.addr_syntax.specs.Pieces.{Piece, Part, Adds, Splits, IsNumber, IsSearch, GoesOnAs, IsPiece}
use Rattle.addr_syntax.specs.Scan.{body_length}
use Rattle.addr_syntax.specs.declared.mark.Mark.{Mark}
use Rattle.addr_syntax.specs.declared.mark.Mark.TheVariants as mark
use Rattle.addr_syntax.proofs.Bodies.{Stopped, whole_expression, whole_length}
use Rattle.addr_syntax.proofs.Digits.{goes, step_true, step_false, digit_inside, number_of_digits, is_number}
use Rattle.addr_syntax.specs.Addresses.{tree_read, expression_of, Cut, digits, number_piece, behind_delimiter}
use Rattle.addr_syntax.specs.Addresses.{search_piece, piece_by, first_piece}

-- ---- what is cut

some_same : (x y : Piece × List ℕ) → Some x ≡ Some y → x ≡ y
some_same x y e = cc

pub cut_same : (p q : Piece) (a b : List ℕ) → ◌≡◌ {A = Cut} (Some (p, a)) (Some (q, b)) → (q ≡ p) × (a ≡ b)
cut_same p q a b e =
    let x : Piece × List ℕ = (p, a) in
    let y : Piece × List ℕ = (q, b) in
    let f : x ≡ y = some_same x y e in
    (sym (ap (λ (z : Piece × List ℕ). z.0) f), ap (λ (z : Piece × List ℕ). z.1) f)

-- ---- expressions

tree_is : (r s : expression.Tree) → Some r ≡ Some s → r ≡ s
tree_is r s e = cc

expression_some : (d : ℕ) (text : List ℕ) (r : expression.Tree) → IsExpression (Some d) text r
    → expression_of d text ≡ Some r
unfolding expression_of
expression_some d text r is =
    let c = complete_read (Some d) text r is in
    ap tree_read c.reads_to ∙ ap (λ (t : Bool). cond t (level_tree c.reading.stack.top) None) c.complete ∙ c.finished_is

expression_only : (d : ℕ) (text : List ℕ) (r : expression.Tree) → expression_of d text ≡ Some r
    → IsExpression (Some d) text r
unfolding expression_of
expression_only d text r e = of (re.reads (Some (re.begin (Some d))) text) refl e
  where
    of : (o : Option re.Reading) → re.reads (Some (re.begin (Some d))) text ≡ o → tree_read o ≡ Some r
        → IsExpression (Some d) text r
    of None is = λ h. absurd cc
    of (Some m) is =
        elim (re.is_complete m.scanner) as (λ t. re.is_complete m.scanner ≡ t → cond t (level_tree m.stack.top)
        None ≡ Some r → IsExpression (Some d) text r) [
          | true ↦ λ t h. let w = whole (Some d) text m is t in subst
              (λ (s : expression.Tree). IsExpression (Some d) text s) (tree_is w.result r (sym w.finished_is ∙ h))
              w.written
          | false ↦ λ t h. absurd cc
        ] refl

-- ---- numbers

some_long : (n : ℕ) → 0 < n → (n == 0) ≡ false
some_long n l = grind (arith, nat_tests)

-- all digits of a number are at the front, and no more
digits_all : (v m : List ℕ) (k n : ℕ) → number_after k v ≡ Some n → is_digit (next_of m) ≡ false →
    digits (v ++ m) ≡ length v
digits_all [] [] k n e f = refl
digits_all [] (c ∷ cs) k n e f = rw f refl
digits_all (d ∷ ds) m k n e f = go (goes k d) refl (λ j g. digits_all ds m j n g f)
  where
    go : (b : Bool) → goes k d ≡ b → ((j : ℕ) → number_after j ds ≡ Some n → digits (ds ++ m) ≡ length ds)
        → digits (d ∷ ds ++ m) ≡ suc (length ds)
    go true t on = rw (digit_inside [] k d ds n e) (omega (
      arith,
      on (k * 10 + (d - 48))
          (sym (step_true k d ds t) ∙ e),
    ))
    go false t on = let g = step_false k d ds t in absurd cc

number_cut : (part : ℕ → Tree) (n : ℕ) (v m : List ℕ) → IsNumber n v (next_of m)
    → number_piece part (v ++ m) ≡ Some (Part (part n), m)
number_cut part n v m x =
    let f = number_of_digits n v (next_of m) x in
    rw (
      digits_all v m 0 n f.1 f.2,
      some_long (length v) f.0,
      take_at v m (length v) refl,
      drop_at v m (length v) refl,
      f.1,
    ) refl

digits_within : (text : List ℕ) → digits text ≤ length text
digits_within [] = omega arith
digits_within (c ∷ cs) = go (is_ascii_digit c) refl (digits_within cs)
  where
    go : (b : Bool) → is_ascii_digit c ≡ b → digits cs ≤ length cs → digits (c ∷ cs) ≤ suc (length cs)
    go true e l = rw e (omega (arith, l))
    go false e l = rw e (omega arith)

digits_end : (text : List ℕ) → is_digit (next_of (drop (digits text) text)) ≡ false
digits_end [] = refl
digits_end (c ∷ cs) = go (is_ascii_digit c) refl (digits_end cs)
  where
    go : (b : Bool) → is_ascii_digit c ≡ b → is_digit (next_of (drop (digits cs) cs)) ≡ false →
        is_digit (next_of (drop (digits (c ∷ cs)) (c ∷ cs))) ≡ false
    go true e on = rw (e, add-one) on
    go false e on = rw e e

abbrev IsNumberCut : (ℕ → Tree) → List ℕ → Piece → List ℕ → Type 0
IsNumberCut part text p behind = (v : List ℕ) × (n : ℕ) × (text ≡ v ++ behind) × (p ≡ Part (part n))
    × IsNumber n v (next_of behind)

number_back : (part : ℕ → Tree) (text : List ℕ) (p : Piece) (behind : List ℕ)
    → number_piece part text ≡ Some (p, behind) → IsNumberCut part text p behind
number_back part text p behind e = go (digits text == 0) refl (number_after 0 (take (digits text) text)) refl
  where
    go : (b : Bool) → (digits text == 0) ≡ b → (o : Option ℕ) → number_after 0 (take (digits text) text) ≡ o →
        IsNumberCut part text p behind
    go true t o f = absurd (let h : ◌≡◌ {A = Cut} None (Some (p, behind)) = rw t at e in cc)
    go false t None f = absurd (let h : ◌≡◌ {A = Cut} None (Some (p, behind)) = rw (t, f) at e in cc)
    go false t (Some n) f =
        let h : ◌≡◌ {A = Cut} (Some (Part (part n), drop (digits text) text)) (Some (p, behind)) = rw (t, f) at e in
        let s = cut_same (Part (part n)) p (drop (digits text) text) behind h in
        let some : 0 < digits text = omega (arith, eqb-false (digits text) 0 t) in
        let front = take-append-drop (digits text) text in
        let long : length (take (digits text) text) ≡ digits text = length-take-le (digits text) text
        (digits_within text) in (
          take (digits text) text,
          n,
          sym front ∙ ap (λ (l : List ℕ). take (digits text) text ++ l) s.1,
          s.0,
          subst (λ (l : List ℕ). IsNumber n (take (digits text) text) (next_of l)) s.1
              (is_number n (take (digits text) text) (next_of (drop (digits text) text)) (omega (arith, long, some)) f
              (digits_end text)),
        )

-- ---- searches

none_next : (m : List ℕ) → next_of m ≡ None → m ≡ []
none_next [] e = refl
none_next (c ∷ cs) e = absurd cc

search_at : (part : expression.Tree → Tree) (d : ℕ) (r : expression.Tree) (text body tail : List ℕ)
    → IsExpression (Some d) body r → Stopped d tail → text ≡ body ++ tail → search_piece part d
    text ≡ Some (Part (part r), behind_delimiter tail)
search_at part d r text body tail x s e =
    let long : body_length d false (body ++ tail) ≡ length body = whole_length d false body tail
    (whole_expression d body r x) s in
    rw (e, long, take_at body tail (length body) refl, drop_at body tail (length body) refl, expression_some d body r x)
    refl

search_cut : (part : expression.Tree → Tree) (d : ℕ) (r : expression.Tree) (v m : List ℕ)
    → (d == d) ≡ true → IsSearch d r v (next_of m) → search_piece part d (v ++ m) ≡ Some (Part (part r), m)
search_cut part d r v m same (body, x, inl e) =
    search_at part d r (v ++ m) body (d ∷ m) x same (ap (λ (l : List ℕ). l ++ m) e ∙ append_assoc body (d ∷ []) m)
search_cut part d r v m same (body, x, inr e) =
    let none : m ≡ [] = none_next m e.1 in
    search_at part d r (v ++ m) body [] x tt (ap (λ (l : List ℕ). l ++ m) e.0 ∙ ap (λ (l : List ℕ). body ++ l) none)
    ∙ ap (λ (l : List ℕ). Some (Part (part r), l)) (sym none)

body_ends : (d : ℕ) (e : Bool) (text : List ℕ) → Stopped d (drop (body_length d e text) text)
body_ends d e [] = tt
body_ends d true (c ∷ cs) = rw add-one (body_ends d false cs)
body_ends d false (c ∷ cs) = go (d == c) refl (λ b. body_ends d b cs)
  where
    go : (b : Bool) → (d == c) ≡ b → ((x : Bool) → Stopped d (drop (body_length d x cs) cs))
        → Stopped d (drop (body_length d false (c ∷ cs)) (c ∷ cs))
    go true t on = rw t t
    go false t on = rw (t, add-one) (on (c == 92))

abbrev IsSearchCut : (expression.Tree → Tree) → ℕ → List ℕ → Piece → List ℕ → Type 0
IsSearchCut part d text p behind = (v : List ℕ) × (r : expression.Tree) × (text ≡ v ++ behind) × (p ≡ Part (part r))
    × IsSearch d r v (next_of behind)

-- what is cut, from the expression and what stands behind it
search_ends : (part : expression.Tree → Tree) (d : ℕ) (r : expression.Tree) (text body tail : List ℕ) (p : Piece)
    (behind : List ℕ) → IsExpression (Some d) body r → Stopped d tail → text ≡ body ++ tail → p ≡ Part (part r)
    → behind_delimiter tail ≡ behind → IsSearchCut part d text p behind
search_ends part d r text body [] p behind x s e is f =
    (body, r, e ∙ ap (λ (l : List ℕ). body ++ l) f, is, (body, x, inr (refl, ap next_of (sym f))))
search_ends part d r text body (c ∷ cs) p behind x s e is f =
    let first : d ≡ c = eqb-true d c s in
    let tail : c ∷ cs ≡ d ∷ behind = cc in (
      body ++ d ∷ [],
      r,
      e ∙ ap (λ (l : List ℕ). body ++ l) tail ∙ sym (append_assoc body (d ∷ []) behind),
      is,
      (body, x, inl refl),
    )

search_back : (part : expression.Tree → Tree) (d : ℕ) (text : List ℕ) (p : Piece) (behind : List ℕ)
    → search_piece part d text ≡ Some (p, behind) → IsSearchCut part d text p behind
search_back part d text p behind e = go (expression_of d (take (body_length d false text) text)) refl
  where
    go : (o : Option expression.Tree) → expression_of d (take (body_length d false text) text) ≡ o → IsSearchCut part d
        text p behind
    go None f = absurd (let h : ◌≡◌ {A = Cut} None (Some (p, behind)) = rw f at e in cc)
    go (Some r) f =
        let n : ℕ = body_length d false text in
        let h : ◌≡◌ {A = Cut} (Some (Part (part r), behind_delimiter (drop n text))) (Some (p, behind)) = rw f at e in
        let s = cut_same (Part (part r)) p (behind_delimiter (drop n text)) behind h in
        search_ends part d r text (take n text) (drop n text) p behind (expression_only d (take n text) r f)
        (body_ends d false text) (sym (take-append-drop n text)) s.0 s.1

-- ---- pieces

by_mark : (m : Mark) (p : Piece) (c : ℕ) (cs rest : List ℕ) → GoesOnAs m p c cs (next_of rest)
    → piece_by m c (cs ++ rest) ≡ Some (p, rest)
by_mark (mark.Signs k) p c cs rest x = rw (x.0, x.1) refl
by_mark (mark.Separates k) p c cs rest x = rw (x.0, x.1) refl
by_mark mark.Dot p c cs rest x = rw (x.0, x.1) refl
by_mark mark.Dollar p c cs rest x = rw (x.0, x.1) refl
by_mark mark.Digit p c cs rest x = number_cut LineAt x.0 (c ∷ cs) rest x.2
    ∙ ap (λ (q : Piece). Some (q, rest)) (sym x.1)
by_mark mark.Hash p c cs rest x = number_cut RuneAt x.0 cs rest x.2 ∙ ap (λ (q : Piece). Some (q, rest)) (sym x.1)
by_mark mark.Slash p c cs rest x = search_cut Forward 47 x.0 cs rest refl x.2
    ∙ ap (λ (q : Piece). Some (q, rest)) (sym x.1)
by_mark mark.Query p c cs rest x = search_cut Backward 63 x.0 cs rest refl x.2
    ∙ ap (λ (q : Piece). Some (q, rest)) (sym x.1)
by_mark mark.Other p c cs rest x = absurd x

pub piece_cut : (p : Piece) (c : ℕ) (cs rest : List ℕ) → IsPiece p (c ∷ cs) (next_of rest)
    → first_piece (c ∷ cs ++ rest) ≡ Some (p, rest)
piece_cut p c cs rest x = by_mark (mark_of c) p c cs rest x

abbrev IsCut : Mark → Piece → ℕ → List ℕ → List ℕ → Type 0
IsCut m p c text behind = (v : List ℕ) × (text ≡ v ++ behind) × GoesOnAs m p c v (next_of behind)

digit_cut : (p : Piece) (c : ℕ) (cs behind : List ℕ) → IsNumberCut LineAt (c ∷ cs) p behind
    → IsCut mark.Digit p c cs behind
digit_cut p c cs behind ([], n, e, is, x) = absurd x
digit_cut p c cs behind (d ∷ ds, n, e, is, x) =
    let first : d ≡ c = cc in
    let rest : cs ≡ ds ++ behind = cc in
    (ds, rest, (n, is, subst (λ (z : ℕ). IsNumber n (z ∷ ds) (next_of behind)) first x))

mark_back : (m : Mark) (p : Piece) (c : ℕ) (cs behind : List ℕ) → piece_by m c cs ≡ Some (p, behind)
    → IsCut m p c cs behind
mark_back (mark.Signs k) p c cs behind e = let s = cut_same (Adds k) p cs behind e in ([], s.1, (s.0, refl))
mark_back (mark.Separates k) p c cs behind e = let s = cut_same (Splits k) p cs behind e in ([], s.1, (s.0, refl))
mark_back mark.Dot p c cs behind e = let s = cut_same (Part Dot) p cs behind e in ([], s.1, (s.0, refl))
mark_back mark.Dollar p c cs behind e = let s = cut_same (Part End) p cs behind e in ([], s.1, (s.0, refl))
mark_back mark.Digit p c cs behind e = digit_cut p c cs behind (number_back LineAt (c ∷ cs) p behind e)
mark_back mark.Hash p c cs behind e = let s = number_back RuneAt cs p behind e in (s.0, s.2, (s.1, s.3, s.4))
mark_back mark.Slash p c cs behind e = let s = search_back Forward 47 cs p behind e in (s.0, s.2, (s.1, s.3, s.4))
mark_back mark.Query p c cs behind e = let s = search_back Backward 63 cs p behind e in (s.0, s.2, (s.1, s.3, s.4))
mark_back mark.Other p c cs behind e = absurd cc

pub piece_back : (p : Piece) (c : ℕ) (cs behind : List ℕ) → first_piece (c ∷ cs) ≡ Some (p, behind) → (v : List ℕ)
    × (cs ≡ v ++ behind) × IsPiece p (c ∷ v) (next_of behind)
piece_back p c cs behind e = mark_back (mark_of c) p c cs behind e
