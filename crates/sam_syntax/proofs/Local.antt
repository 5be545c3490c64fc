-- What a text begins with stays where what stands behind the next rune is changed.
use Rattle.std.proofs.Common.{◌≡◌, ℕ, Bool, true, false, List, [], ◌∷◌, ◌++◌, Option, refl, sym, ap, subst, ◌∙◌, inl}
use Rattle.std.proofs.Common.{inr, append_assoc}
use Rattle.re_syntax.specs.Tree as expression
use Rattle.addr_syntax.specs.Tree as address
use Rattle.addr_syntax.specs.Marks.{next_of, is_digit, begins_piece}
use Rattle.addr_syntax.specs.Pieces as part
use Rattle.addr_syntax.specs.Pieces.{IsNumber}
use Rattle.addr_syntax.specs.Grammar.{Begins}
use Rattle.addr_syntax.proofs.Fronts.{next_joined, row_first, not_both}
use Rattle.edit_parts.specs.Tree.{Action}
use Rattle.edit_parts.specs.Kinds.{kind_of, ends_line, is_next}
use Rattle.edit_parts.specs.Texts.{after_blanks, Closed, Quoted, Text, RestOfLine, Nth, All}
use Rattle.edit_parts.specs.Pieces.{Piece, LoopsOver, SubstitutesAs, ActsAs, GoesOnAs, BeginsAs, IsPiece}
use Rattle.edit_parts.specs.declared.kind.Letter.{Letter}
use Rattle.edit_parts.specs.declared.kind.Letter.TheVariants as letter
use Rattle.edit_parts.specs.declared.kind.Loop.{Loop}
use Rattle.edit_parts.specs.declared.kind.Loop.TheVariants.{ForEach, ForBetween, Where, WhereNot}
use Rattle.edit_parts.specs.declared.kind.Kind.{Kind}
use Rattle.edit_parts.specs.declared.kind.Kind.TheVariants as kind
use Rattle.edit_parts.proofs.Parts.{Skipped, skipped, solid_behind}
use Rattle.edit_parts.proofs.Substitutions.{Ending, Middle}

-- the runes before the rest, which may stand before any other rest that begins with the same rune
abbrev pub IsLocal : (List ℕ → List ℕ → Type 0) → List ℕ → List ℕ → Type 0
IsLocal R t r = (w : List ℕ) × (t ≡ w ++ r) × ((z : List ℕ) → next_of z ≡ next_of r → R (w ++ z) z)

as_local : (R S : List ℕ → List ℕ → Type 0) (t r : List ℕ) → ((u s : List ℕ) → R u s → S u s) → IsLocal R t r
    → IsLocal S t r
as_local R S t r f x = (x.0, x.1, λ z n. f (x.0 ++ z) z (x.2 z n))

on_local : (R S T : List ℕ → List ℕ → Type 0) (t m r : List ℕ) → ((u l s : List ℕ) → R u l → S l s → T u s)
    → IsLocal R t m → IsLocal S m r → IsLocal T t r
on_local R S T t m r f x y = (
  x.0 ++ y.0,
  x.1 ∙ ap (λ (l : List ℕ). x.0 ++ l) y.1 ∙ sym (append_assoc x.0 y.0 r),
  λ z n.
      let next : next_of (y.0 ++ z) ≡ next_of m = next_joined y.0 z r n ∙ ap next_of (sym y.1) in
      subst (λ (l : List ℕ). T l z) (sym (append_assoc x.0 y.0 z))
      (f (x.0 ++ (y.0 ++ z)) (y.0 ++ z) z (x.2 (y.0 ++ z) next) (y.2 z n)),
)

blank_local : (R : List ℕ → List ℕ → Type 0) (t r : List ℕ) → IsLocal R (after_blanks t) r
    → IsLocal (λ u s. R (after_blanks u) s) t r
blank_local R t r x =
    let s : Skipped t = skipped t in (
      s.0 ++ x.0,
      s.1 ∙ ap (λ (l : List ℕ). s.0 ++ l) x.1 ∙ sym (append_assoc s.0 x.0 r),
      λ z n.
          let solid : is_next 32 (next_of (x.0 ++ z)) ≡ false = ap (is_next 32)
          (next_joined x.0 z r n ∙ ap next_of (sym x.1)) ∙ solid_behind t in
          let gone : after_blanks ((s.0 ++ x.0) ++ z) ≡ x.0 ++ z = ap after_blanks (append_assoc s.0 x.0 z)
          ∙ s.2 (x.0 ++ z) solid in
          subst (λ (l : List ℕ). R l z) (sym gone) (x.2 z n),
    )

same_local : (t r : List ℕ) → t ≡ r → IsLocal (λ u s. u ≡ s) t r
same_local t r e = ([], e, λ z n. refl)

-- ---- parts

closed_local : (t u r : List ℕ) → Closed t u r → IsLocal (Closed t) u r
closed_local t u r x = (t ++ 47 ∷ [], x.0 ∙ sym (append_assoc t (47 ∷ []) r), λ z n. (append_assoc t (47 ∷ []) z, x.1))

quoted_local : (re : expression.Tree) (u r : List ℕ) → Quoted re u r → IsLocal (Quoted re) u r
quoted_local re u r (body, e, x) = (
  47 ∷ body ++ 47 ∷ [],
  e ∙ ap (λ (l : List ℕ). 47 ∷ l) (sym (append_assoc body (47 ∷ []) r)),
  λ z n. (body, ap (λ (l : List ℕ). 47 ∷ l) (append_assoc body (47 ∷ []) z), x),
)

text_local : (t u r : List ℕ) → Text t u r → IsLocal (Text t) u r
text_local t [] r x = absurd x
text_local t (c ∷ cs) r (inl x) = (
  47 ∷ x.1 ++ 47 ∷ [],
  ap (λ z. z ∷ cs) x.0 ∙ ap (λ (l : List ℕ). 47 ∷ l) (x.3.0 ∙ sym (append_assoc x.1 (47 ∷ []) r)),
  λ z n. inl (refl, x.1, x.2, (append_assoc x.1 (47 ∷ []) z, x.3.1)),
)
text_local t (c ∷ cs) r (inr x) = (
  10 ∷ t ++ 46 ∷ [],
  ap (λ z. z ∷ cs) x.0 ∙ ap (λ (l : List ℕ). 10 ∷ l) (x.1.0 ∙ sym (append_assoc t (46 ∷ []) r)),
  λ z n. inr (refl, (append_assoc t (46 ∷ []) z, x.1.1, ap ends_line n ∙ x.1.2)),
)

rest_local : (t u r : List ℕ) → RestOfLine t u r → IsLocal (RestOfLine t) u r
rest_local t u r x = (t, x.0, λ z n. (refl, x.1, ap ends_line n ∙ x.2))

number_next : (n : ℕ) (v : List ℕ) (p q : Option ℕ) → p ≡ q → IsNumber n v p → IsNumber n v q
number_next n v p q e x = subst (λ (k : Option ℕ). IsNumber n v k) e x

nth_local : (n : ℕ) (u r : List ℕ) → Nth n u r → IsLocal (Nth n) u r
nth_local n u r (inl x) = (
  [],
  sym x.2,
  λ z e. inl (ap is_digit e ∙ ap (λ (l : List ℕ). is_digit (next_of l)) x.2 ∙ x.0, x.1, refl),
)
nth_local n u r (inr (digits, m, e, number, i)) =
    let s : Skipped m = skipped m in
    let behind : m ≡ s.0 ++ r = s.1 ∙ ap (λ (l : List ℕ). s.0 ++ l) (sym i) in (
      digits ++ s.0,
      e ∙ ap (λ (l : List ℕ). digits ++ l) behind ∙ sym (append_assoc digits s.0 r),
      λ z f.
          let solid : is_next 32 (next_of z) ≡ false = ap (is_next 32) (f ∙ ap next_of i) ∙ solid_behind m in
          let next : next_of m ≡ next_of (s.0 ++ z) = ap next_of behind ∙ sym (next_joined s.0 z r f) in
          inr (
            digits,
            s.0 ++ z,
            append_assoc digits s.0 z,
            number_next n digits (next_of m) (next_of (s.0 ++ z)) next
                number,
            sym (s.2 z solid),
          ),
    )

all_local : (b : Bool) (u r : List ℕ) → All b u r → IsLocal (All b) u r
all_local true u r x = (103 ∷ [], x, λ z n. refl)
all_local false u r x = ([], x.0, λ z n. (refl, ap (is_next 103) n ∙ x.1))

loops_local : (k : Loop) (re : expression.Tree) (u r : List ℕ) → LoopsOver k re u r → IsLocal (LoopsOver k re) u r
loops_local ForEach re u r (inl x) = as_local (Quoted re) (LoopsOver ForEach re) u r (λ t s y. inl y)
    (quoted_local re u r x)
loops_local ForEach re u r (inr x) = ([], x.1, λ z n. inr (x.0, refl, ap (is_next 47) n ∙ x.2))
loops_local ForBetween re u r x = quoted_local re u r x
loops_local Where re u r x = quoted_local re u r x
loops_local WhereNot re u r x = quoted_local re u r x

substitutes_local : (act : Action) (u r : List ℕ) → SubstitutesAs act u r → IsLocal (SubstitutesAs act) u r
substitutes_local act u r (n, re, with, all, e, (l, m, k, a, q, c, g)) =
    let global = blank_local (All all) k r (all_local all (after_blanks k) r g) in
    let ending = on_local (Closed with) (λ t s. All all (after_blanks t) s) (Ending with all) m k r
    (λ t j s x y. (j, x, y)) (closed_local with m k c) global in
    let middle = on_local (Quoted re) (Ending with all) (Middle re with all) l m r (λ t j s x y. (j, x, y))
    (quoted_local re l m q) ending in
    on_local (Nth n) (Middle re with all) (SubstitutesAs act) u l r
    (λ t j s x y. (n, re, with, all, e, (j, y.0, y.2.0, x, y.1, y.2.1, y.2.2))) (nth_local n u l a) middle

-- ---- addresses

row_local : (ps : List part.Piece) (t r : List ℕ) → part.BeginsWith ps t r → IsLocal (part.BeginsWith ps) t r
row_local [] t r x = same_local t r x
row_local (p ∷ ps) t r x =
    let on : IsLocal (part.BeginsWith ps) x.1 r = row_local ps x.1 r x.4 in (
      x.0 ++ on.0,
      x.2 ∙ ap (λ (l : List ℕ). x.0 ++ l) on.1 ∙ sym (append_assoc x.0 on.0 r),
      λ z n.
          let next : next_of x.1 ≡ next_of (on.0 ++ z) = ap next_of on.1 ∙ sym (next_joined on.0 z r n) in
          (x.0, on.0 ++ z, append_assoc x.0 on.0 z, subst (λ (k : Option ℕ). part.IsPiece p x.0 k) next x.3, on.2 z n),
    )

begins_local : (a : address.Tree) (t r : List ℕ) → Begins a t r → IsLocal (Begins a) t r
begins_local a t r x =
    let row = row_local (x.0 ∷ x.1) t r x.3 in
    (row.0, row.1, λ z n. (x.0, x.1, x.2, row.2 z n, x.4, x.5, ap begins_piece n ∙ x.6))

-- ---- letters and pieces

act_local : (l : Letter) (act : Action) (u r : List ℕ) → ActsAs l act u r → IsLocal (ActsAs l act) u r
act_local (letter.Puts p) act u r x =
    as_local (λ t s. Text x.0 (after_blanks t) s) (ActsAs (letter.Puts p) act) u r (λ t s y. (x.0, x.1, y))
    (blank_local (Text x.0) u r (text_local x.0 (after_blanks u) r x.2))
act_local letter.Delete act u r x = as_local (λ t s. t ≡ s) (ActsAs letter.Delete act) u r (λ t s y. (x.0, y))
    (same_local u r x.1)
act_local letter.Substitute act u r x = blank_local (SubstitutesAs act) u r (substitutes_local act (after_blanks u) r x)
act_local (letter.Sends w) act u r x =
    as_local (λ t s. Begins x.0 (after_blanks t) s) (ActsAs (letter.Sends w) act) u r (λ t s y. (x.0, x.1, y))
    (blank_local (Begins x.0) u r (begins_local x.0 (after_blanks u) r x.2))
act_local letter.Print act u r x = as_local (λ t s. t ≡ s) (ActsAs letter.Print act) u r (λ t s y. (x.0, y))
    (same_local u r x.1)
act_local letter.Equals act u r (inl x) = (35 ∷ [], x.1, λ z n. inl (x.0, refl))
act_local letter.Equals act u r (inr x) = ([], x.1, λ z n. inr (x.0, refl, ap (is_next 35) n ∙ x.2))
act_local (letter.Asks q) act u r x =
    as_local (λ t s. RestOfLine x.0 (after_blanks t) s) (ActsAs (letter.Asks q) act) u r (λ t s y. (x.0, x.1, y))
    (blank_local (RestOfLine x.0) u r (rest_local x.0 (after_blanks u) r x.2))

-- behind the first rune, which begins the address
address_local : (a : address.Tree) (c : ℕ) (u r : List ℕ) → Begins a (c ∷ u) r → IsLocal (λ t s. Begins a (c ∷ t) s) u r
address_local a c u r x = go (begins_local a (c ∷ u) r x)
  where
    go : IsLocal (Begins a) (c ∷ u) r → IsLocal (λ t s. Begins a (c ∷ t) s) u r
    go ([], e, f) =
        let starts : begins_piece (next_of r) ≡ true = ap (λ (l : List ℕ). begins_piece (next_of l)) (sym e)
        ∙ row_first x.0 x.1 (c ∷ u) r x.3 in
        absurd (not_both (begins_piece (next_of r)) starts x.6)
    go (d ∷ ds, e, f) =
        let first : d ≡ c = cc in
        let tail : u ≡ ds ++ r = cc in
        (ds, tail, λ z n. subst (λ (k : ℕ). Begins a (k ∷ ds ++ z) z) first (f z n))

goes_local : (k : Kind) (p : Piece) (c : ℕ) (u r : List ℕ) → GoesOnAs k p c u r → IsLocal (GoesOnAs k p c) u r
goes_local kind.Blank p c u r x = as_local (λ t s. t ≡ s) (GoesOnAs kind.Blank p c) u r (λ t s y. (x.0, y))
    (same_local u r x.1)
goes_local kind.EndsLine p c u r x = as_local (λ t s. t ≡ s) (GoesOnAs kind.EndsLine p c) u r (λ t s y. (x.0, y))
    (same_local u r x.1)
goes_local kind.Address p c u r x =
    as_local (λ t s. Begins x.0 (c ∷ t) s) (GoesOnAs kind.Address p c) u r (λ t s y. (x.0, x.1, y))
    (address_local x.0 c u r x.2)
goes_local (kind.Loops k) p c u r x =
    as_local (λ t s. LoopsOver k x.0 (after_blanks t) s) (GoesOnAs (kind.Loops k) p c) u r (λ t s y. (x.0, x.1, y))
    (blank_local (LoopsOver k x.0) u r (loops_local k x.0 (after_blanks u) r x.2))
goes_local kind.Opens p c u r x = as_local (λ t s. t ≡ s) (GoesOnAs kind.Opens p c) u r (λ t s y. (x.0, y))
    (same_local u r x.1)
goes_local kind.Closes p c u r x = as_local (λ t s. t ≡ s) (GoesOnAs kind.Closes p c) u r (λ t s y. (x.0, y))
    (same_local u r x.1)
goes_local (kind.Acts l) p c u r x =
    as_local (ActsAs l x.0) (GoesOnAs (kind.Acts l) p c) u r (λ t s y. (x.0, x.1, y)) (act_local l x.0 u r x.2)
goes_local kind.Other p c u r x = absurd x

pub piece_local : (p : Piece) (c : ℕ) (cs r : List ℕ) → BeginsAs p (c ∷ cs) r → (w : List ℕ) × (cs ≡ w ++ r)
    × IsPiece p (c ∷ w) (next_of r)
piece_local p c cs r x = goes_local (kind_of c) p c cs r x
