-- A text begins with one piece at most.
use Rattle.std.proofs.Common.{◌≡◌, ℕ, Bool, true, false, List, [], ◌∷◌, ◌++◌, length, Option, Some, refl, sym, ap}
use Rattle.std.proofs.Common.{subst, ◌∙◌, inl, inr, arith}
use Rattle.re_syntax.specs.Tree as expression
use Rattle.re_syntax.specs.Grammar.{IsExpression}
use Rattle.re_syntax.proofs.Complete.{one_tree}
use Rattle.addr_syntax.specs.Marks.{next_of, is_digit}
use Rattle.addr_syntax.specs.Pieces.{IsNumber}
use Rattle.addr_syntax.specs.Scan.{body_length}
use Rattle.addr_syntax.proofs.Digits.{digit_inside}
use Rattle.addr_syntax.proofs.Rows.{number_same, bodies_same}
use Rattle.addr_syntax.proofs.Fronts.{not_both, begins_once}
use Rattle.edit_parts.specs.Tree as tree
use Rattle.edit_parts.specs.Tree.{Action}
use Rattle.edit_parts.specs.Kinds.{is_next, kind_of, loop_of, puts, sends, request_of}
use Rattle.edit_parts.specs.Texts.{after_blanks, unescaped, lines_length, line_length, Closed, Quoted, Lines}
use Rattle.edit_parts.specs.Texts.{RestOfLine, Text, Nth, All}
use Rattle.edit_parts.specs.Pieces.{Piece, At, Loops, Does, LoopsOver, SubstitutesAs, ActsAs, GoesOnAs, BeginsAs}
use Rattle.edit_parts.specs.Pieces.{IsPiece}
use Rattle.edit_parts.specs.declared.kind.Letter.{Letter}
use Rattle.edit_parts.specs.declared.kind.Letter.TheVariants as letter
use Rattle.edit_parts.specs.declared.kind.Loop.{Loop}
use Rattle.edit_parts.specs.declared.kind.Loop.TheVariants.{ForEach, ForBetween, Where, WhereNot}
use Rattle.edit_parts.specs.declared.kind.Kind.{Kind}
use Rattle.edit_parts.specs.declared.kind.Kind.TheVariants as kind
use Rattle.edit_parts.proofs.Parts.{cuts_same}
use Rattle.edit_parts.proofs.Ends.{closed_length, dot_length, rest_length}

tails : (c : ℕ) (t u : List ℕ) → c ∷ t ≡ c ∷ u → t ≡ u
tails c t u e = cc

closed_once : (a b t m n : List ℕ) → Closed a t m → Closed b t n → (a ≡ b) × (m ≡ n)
closed_once a b t m n x y =
    let e : a ++ 47 ∷ m ≡ b ++ 47 ∷ n = sym x.0 ∙ y.0 in
    let same : length a ≡ length b = sym (closed_length a m x.1) ∙ ap (body_length 47 false) e
    ∙ closed_length b n y.1 in
    let c = cuts_same a (47 ∷ m) b (47 ∷ n) e same in
    (c.0, tails 47 m n c.1)

pub closed_rest : (a b t m n : List ℕ) → Closed a t m → Closed b t n → m ≡ n
closed_rest a b t m n x y = (closed_once a b t m n x y).1

pub quoted_once : (re s : expression.Tree) (t m n : List ℕ) → Quoted re t m → Quoted s t n → (re ≡ s) × (m ≡ n)
quoted_once re s t m n x y =
    let e : x.0 ++ 47 ∷ m ≡ y.0 ++ 47 ∷ n = tails 47 (x.0 ++ 47 ∷ m) (y.0 ++ 47 ∷ n) (sym x.1 ∙ y.1) in
    let both : (x.0 ≡ y.0) × (47 ∷ m ≡ 47 ∷ n) = bodies_same 47 re s x.0 (47 ∷ m) y.0 (47 ∷ n) x.2 y.2 refl refl e in (
      one_tree (Some 47) x.0 re s x.2 (subst (λ (l : List ℕ). IsExpression (Some 47) l s) (sym both.0) y.2),
      tails 47 m n both.1,
    )

lines_once : (a b t m n : List ℕ) → Lines a t m → Lines b t n → (a ≡ b) × (m ≡ n)
lines_once a b t m n x y =
    let e : a ++ 46 ∷ m ≡ b ++ 46 ∷ n = sym x.0 ∙ y.0 in
    let same : length a ≡ length b = sym (dot_length true a m x.1 x.2) ∙ ap (lines_length true) e
    ∙ dot_length true b n y.1 y.2 in
    let c = cuts_same a (46 ∷ m) b (46 ∷ n) e same in
    (c.0, tails 46 m n c.1)

rest_once : (a b t m n : List ℕ) → RestOfLine a t m → RestOfLine b t n → (a ≡ b) × (m ≡ n)
rest_once a b t m n x y =
    let e : a ++ m ≡ b ++ n = sym x.0 ∙ y.0 in
    let same : length a ≡ length b = sym (rest_length a m x.1 x.2) ∙ ap line_length e ∙ rest_length b n y.1 y.2 in
    cuts_same a m b n e same

text_once : (a b t m n : List ℕ) → Text a t m → Text b t n → (a ≡ b) × (m ≡ n)
text_once a b [] m n x y = absurd x
text_once a b (c ∷ cs) m n (inl x) (inl y) =
    let s = closed_once x.1 y.1 cs m n x.3 y.3 in
    (x.2 ∙ ap (unescaped false) s.0 ∙ sym y.2, s.1)
text_once a b (c ∷ cs) m n (inl x) (inr y) = absurd (omega (arith, x.0, y.0))
text_once a b (c ∷ cs) m n (inr x) (inl y) = absurd (omega (arith, x.0, y.0))
text_once a b (c ∷ cs) m n (inr x) (inr y) = lines_once a b cs m n x.1 y.1

digits_first : (n : ℕ) (v m : List ℕ) (next : Option ℕ) → IsNumber n v next → is_digit (next_of (v ++ m)) ≡ true
digits_first n [] m next x = absurd x
digits_first n (d ∷ ds) m next x = digit_inside [] 0 d ds n x.0

pub nth_once : (k l : ℕ) (t m n : List ℕ) → Nth k t m → Nth l t n → (k ≡ l) × (m ≡ n)
nth_once k l t m n (inl x) (inl y) = (x.1 ∙ sym y.1, x.2 ∙ sym y.2)
nth_once k l t m n (inl x) (inr y) =
    absurd (not_both (is_digit (next_of t)) (ap (λ (u : List ℕ). is_digit (next_of u)) y.2
    ∙ digits_first l y.0 y.1 (next_of y.1) y.3) x.0)
nth_once k l t m n (inr x) (inl y) =
    absurd (not_both (is_digit (next_of t)) (ap (λ (u : List ℕ). is_digit (next_of u)) x.2
    ∙ digits_first k x.0 x.1 (next_of x.1) x.3) y.0)
nth_once k l t m n (inr x) (inr y) =
    let s = number_same k l x.0 x.1 y.0 y.1 (sym x.2 ∙ y.2) x.3 y.3 in
    (s.0, x.4 ∙ ap after_blanks s.1 ∙ sym y.4)

all_once : (a b : Bool) (t m n : List ℕ) → All a t m → All b t n → (a ≡ b) × (m ≡ n)
all_once true true t m n x y = (refl, tails 103 m n (sym x ∙ y))
all_once true false t m n x y =
    absurd (not_both (is_next 103 (next_of n)) (ap (λ (u : List ℕ). is_next 103 (next_of u)) (sym y.0 ∙ x)) y.1)
all_once false true t m n x y =
    absurd (not_both (is_next 103 (next_of m)) (ap (λ (u : List ℕ). is_next 103 (next_of u)) (sym x.0 ∙ y)) x.1)
all_once false false t m n x y = (refl, sym x.0 ∙ y.0)

substitutes_once : (a b : Action) (t m n : List ℕ) → SubstitutesAs a t m → SubstitutesAs b t n → (a ≡ b) × (m ≡ n)
substitutes_once a b t m n (i, re, with, all, e, (l1, m1, k1, x, q, c, g))
    (j, s, with', all', e', (l2, m2, k2, x', q', c', g')) =
    let s1 = nth_once i j t l1 l2 x x' in
    let s2 = quoted_once re s l1 m1 m2 q (subst (λ (u : List ℕ). Quoted s u m2) (sym s1.1) q') in
    let s3 = closed_once with with' m1 k1 k2 c (subst (λ (u : List ℕ). Closed with' u k2) (sym s2.1) c') in
    let s4 = all_once all all' (after_blanks k1) m n g (subst (λ (u : List ℕ). All all' (after_blanks u) n) (sym s3.1)
    g') in
    let f1 = s1.0 in
    let f2 = s2.0 in
    let f3 = s3.0 in
    let f4 = s4.0 in
    let same : tree.Substitute i re with all ≡ tree.Substitute j s with' all' = cc in
    (e ∙ same ∙ sym e', s4.1)

loops_once : (k : Loop) (re s : expression.Tree) (t m n : List ℕ) → LoopsOver k re t m → LoopsOver k s t n → (re ≡ s)
    × (m ≡ n)
loops_once ForEach re s t m n (inl x) (inl y) = quoted_once re s t m n x y
loops_once ForEach re s t m n (inl x) (inr y) =
    absurd (not_both (is_next 47 (next_of n)) (ap (λ (u : List ℕ). is_next 47 (next_of u)) (sym y.1 ∙ x.1)) y.2)
loops_once ForEach re s t m n (inr x) (inl y) =
    absurd (not_both (is_next 47 (next_of m)) (ap (λ (u : List ℕ). is_next 47 (next_of u)) (sym x.1 ∙ y.1)) x.2)
loops_once ForEach re s t m n (inr x) (inr y) = (x.0 ∙ sym y.0, sym x.1 ∙ y.1)
loops_once ForBetween re s t m n x y = quoted_once re s t m n x y
loops_once Where re s t m n x y = quoted_once re s t m n x y
loops_once WhereNot re s t m n x y = quoted_once re s t m n x y

acts_once : (l : Letter) (a b : Action) (t m n : List ℕ) → ActsAs l a t m → ActsAs l b t n → (a ≡ b) × (m ≡ n)
acts_once (letter.Puts place) a b t m n x y =
    let s = text_once x.0 y.0 (after_blanks t) m n x.2 y.2 in
    (x.1 ∙ ap (puts place) s.0 ∙ sym y.1, s.1)
acts_once letter.Delete a b t m n x y = (x.0 ∙ sym y.0, sym x.1 ∙ y.1)
acts_once letter.Substitute a b t m n x y = substitutes_once a b (after_blanks t) m n x y
acts_once (letter.Sends way) a b t m n x y =
    let s = begins_once (after_blanks t) m n x.0 y.0 x.2 y.2 in
    (x.1 ∙ ap (sends way) s.0 ∙ sym y.1, s.1)
acts_once letter.Print a b t m n x y = (x.0 ∙ sym y.0, sym x.1 ∙ y.1)
acts_once letter.Equals a b t m n (inl x) (inl y) = (x.0 ∙ sym y.0, tails 35 m n (sym x.1 ∙ y.1))
acts_once letter.Equals a b t m n (inl x) (inr y) =
    absurd (not_both (is_next 35 (next_of n)) (ap (λ (u : List ℕ). is_next 35 (next_of u)) (sym y.1 ∙ x.1)) y.2)
acts_once letter.Equals a b t m n (inr x) (inl y) =
    absurd (not_both (is_next 35 (next_of m)) (ap (λ (u : List ℕ). is_next 35 (next_of u)) (sym x.1 ∙ y.1)) x.2)
acts_once letter.Equals a b t m n (inr x) (inr y) = (x.0 ∙ sym y.0, sym x.1 ∙ y.1)
acts_once (letter.Asks request) a b t m n x y =
    let s = rest_once x.0 y.0 (after_blanks t) m n x.2 y.2 in
    (x.1 ∙ ap (tree.Asks (request_of request)) s.0 ∙ sym y.1, s.1)

goes_once : (k : Kind) (p q : Piece) (c : ℕ) (t m n : List ℕ) → GoesOnAs k p c t m → GoesOnAs k q c t n → (p ≡ q)
    × (m ≡ n)
goes_once kind.Blank p q c t m n x y = (x.0 ∙ sym y.0, sym x.1 ∙ y.1)
goes_once kind.EndsLine p q c t m n x y = (x.0 ∙ sym y.0, sym x.1 ∙ y.1)
goes_once kind.Address p q c t m n x y =
    let s = begins_once (c ∷ t) m n x.0 y.0 x.2 y.2 in
    (x.1 ∙ ap At s.0 ∙ sym y.1, s.1)
goes_once (kind.Loops k) p q c t m n x y =
    let s = loops_once k x.0 y.0 (after_blanks t) m n x.2 y.2 in
    (x.1 ∙ ap (Loops (loop_of k)) s.0 ∙ sym y.1, s.1)
goes_once kind.Opens p q c t m n x y = (x.0 ∙ sym y.0, sym x.1 ∙ y.1)
goes_once kind.Closes p q c t m n x y = (x.0 ∙ sym y.0, sym x.1 ∙ y.1)
goes_once (kind.Acts l) p q c t m n x y =
    let s = acts_once l x.0 y.0 t m n x.2 y.2 in
    (x.1 ∙ ap Does s.0 ∙ sym y.1, s.1)
goes_once kind.Other p q c t m n x y = absurd x

pub begins_once_as : (p q : Piece) (t m n : List ℕ) → BeginsAs p t m → BeginsAs q t n → (p ≡ q) × (m ≡ n)
begins_once_as p q [] m n x y = absurd x
begins_once_as p q (c ∷ t) m n x y = goes_once (kind_of c) p q c t m n x y

-- a piece, and whatever stands behind it
pub begins_with : (p : Piece) (u rest : List ℕ) → IsPiece p u (next_of rest) → BeginsAs p (u ++ rest) rest
begins_with p [] rest x = absurd x
begins_with p (c ∷ cs) rest x = x rest refl

pub one_piece : (p q : Piece) (u m v n : List ℕ) → u ++ m ≡ v ++ n → IsPiece p u (next_of m) → IsPiece q v (next_of n)
    → (p ≡ q) × (m ≡ n)
one_piece p q u m v n e x y =
    begins_once_as p q (u ++ m) m n (begins_with p u m x) (subst (λ (t : List ℕ). BeginsAs q t n) (sym e)
    (begins_with q v n y))
