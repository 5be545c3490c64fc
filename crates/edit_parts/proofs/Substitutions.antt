-- The parts of `s`.
use Rattle.std.proofs.Common.{◌≡◌, ℕ, ◌+◌, ◌≤◌, Bool, true, false, List, [], ◌∷◌, ◌++◌, length, drop, Option, Some}
use Rattle.std.proofs.Common.{None, refl, sym, ap, subst, ◌∙◌, inl, inr, arith, append_assoc}
use Rattle.std.specs.Prelude.{slice_range}
use Rattle.std.proofs.lemmas.Bool.{eqb-true, le-ltb, lt-ltb}
use Rattle.std.proofs.lemmas.List.{append_cancel_right, length-append}
use Rattle.re_syntax.specs.Tree as expression
use Rattle.re_syntax.specs.Tree.{Letter}
use Rattle.re_syntax.specs.declared.re.Re.{Re}
use Rattle.addr_syntax.specs.Marks.{next_of, is_digit}
use Rattle.addr_syntax.specs.Pieces.{IsNumber}
use Rattle.addr_syntax.specs.Scan.{IsBadNumber}
use Rattle.addr_syntax.specs.declared.address.Limited.TheVariants.{Whole, Large}
use Rattle.addr_syntax.specs.declared.address.SynFault.{SynFault}
use Rattle.addr_syntax.specs.declared.address.SynFault.TheVariants.{Bad, Nodes, Deep, NoMemory}
use Rattle.addr_syntax.proofs.Slices.{slice_none}
use Rattle.addr_syntax.proofs.Digits.{number_dead, is_number}
use Rattle.addr_syntax.proofs.Fronts.{not_both, continues, cut_more}
use Rattle.edit_parts.specs.Tree as tree
use Rattle.edit_parts.specs.Tree.{Action}
use Rattle.edit_parts.specs.Kinds.{ends_line, is_next}
use Rattle.edit_parts.specs.Texts.{after_blanks, Closed, Quoted, Nth, All}
use Rattle.edit_parts.specs.Pieces.{SubstitutesAs}
use Rattle.edit_parts.specs.Answer.{IsBuiltExpression, IsBuiltAction}
use Rattle.edit_parts.specs.Read.{IsReadBy, IsBadBy, IsClosedAt, NthFails, QuotedFails, ClosedFails, ActionFails}
use Rattle.edit_parts.specs.Read.{anything, is_solid}
use Rattle.edit_parts.specs.declared.command.Act as program
use Rattle.edit_parts.proofs.Parts.{Skipped, skipped, next_behind, behind, both, blank_read, regroup}
use Rattle.edit_parts.proofs.Quotes.{letter_a}
use Rattle.edit_parts.proofs.Written.{closing_read}
use Rattle.edit_parts.proofs.Once.{nth_once, quoted_once}

pub built_whole : (n : ℕ) (re : Re) (with : List ℕ) (all : Bool) (e : expression.Tree) → IsBuiltExpression (Some re) e
    → IsBuiltAction (Whole (program.Subst n re with all)) (tree.Substitute n e with all)
built_whole n re with all e x = (
  ap (λ (r : expression.Tree). tree.Substitute n r with all) x.0,
  le-ltb 2048 (expression.nodes e) x.1,
  refl,
)

pub built_large : (n : ℕ) (with : List ℕ) (all : Bool) (e : expression.Tree) → IsBuiltExpression None e
    → IsBuiltAction Large (tree.Substitute n e with all)
built_large n with all e x = lt-ltb 2048 (expression.nodes e) x

-- ---- read

abbrev pub Ending : List ℕ → Bool → List ℕ → List ℕ → Type 0
Ending with all text rest = (k : List ℕ) × Closed with text k × All all (after_blanks k) rest

abbrev pub Middle : expression.Tree → List ℕ → Bool → List ℕ → List ℕ → Type 0
Middle re with all text rest = (m : List ℕ) × Quoted re text m × Ending with all m rest

pub substitution_read : (text : List ℕ) (from slash with_from with_end mid end n : ℕ) (re : expression.Tree)
    (with : List ℕ) (all : Bool) → IsReadBy (Nth n) text from slash → IsReadBy (Quoted re) text slash with_from
    → IsClosedAt text with_from with_end → with ≡ slice_range text with_from with_end → with_end + 1 ≤ mid
    → drop mid text ≡ after_blanks (drop (with_end + 1) text) → IsReadBy (All all) text mid end
    → IsReadBy (SubstitutesAs (tree.Substitute n re with all)) text from end
substitution_read text from slash with_from with_end mid end n re with all x q c e l blanks g =
    let g' : IsReadBy (λ t r. All all (after_blanks t) r) text (with_end + 1) end = blank_read (All all) text
    (with_end + 1) mid end l blanks g in
    let c' : IsReadBy (Closed with) text with_from (with_end + 1) =
    subst (λ (w : List ℕ). IsReadBy (Closed w) text with_from (with_end + 1)) (sym e)
    (closing_read text with_from with_end c) in
    let ending : IsReadBy (Ending with all) text with_from end = both (Closed with) (λ t r. All all (after_blanks t) r)
    (Ending with all) text with_from (with_end + 1) end c' g' (λ t m r a b. (m, a, b)) in
    let middle : IsReadBy (Middle re with all) text slash end = both (Quoted re) (Ending with all) (Middle re with all)
    text slash with_from end q ending (λ t m r a b. (m, a, b)) in
    both (Nth n) (Middle re with all) (SubstitutesAs (tree.Substitute n re with all)) text from slash end x middle
    (λ t m r a b. (n, re, with, all, refl, (m, b.0, b.2.0, a, b.1, b.2.1, b.2.2)))

-- ---- what may come

newline_all : (rest : List ℕ) → ends_line (next_of rest) ≡ true → All false (after_blanks rest) rest
newline_all [] e = (refl, refl)
newline_all (c ∷ cs) e = subst (λ z. All false (after_blanks (z ∷ cs)) (z ∷ cs)) (sym (eqb-true c 10 e)) (refl, refl)

-- a number and its blanks may stand before any `/`
pub slash_behind : (n : ℕ) (u y z : List ℕ) → Nth n (u ++ y) y → is_digit (next_of z) ≡ false → is_next 32
    (next_of z) ≡ false → Nth n (u ++ z) z
slash_behind n u y z (inl x) d b =
    let none : u ≡ [] = append_cancel_right u [] y (sym x.2) in
    subst (λ (v : List ℕ). Nth n (v ++ z) z) (sym none) (inl (d, x.1, refl))
slash_behind n u y z (inr (digits, m, e, number, i)) d b =
    let s : Skipped m = skipped m in
    let cut : u ≡ digits ++ s.0 = append_cancel_right u (digits ++ s.0) y
    (e ∙ ap (λ (l : List ℕ). digits ++ l) (s.1 ∙ ap (λ (l : List ℕ). s.0 ++ l) (sym i))
    ∙ sym (append_assoc digits s.0 y)) in
    let here : Nth n ((digits ++ s.0) ++ z) z = inr (
      digits,
      s.0 ++ z,
      append_assoc digits s.0 z,
      moved s.0 y m (s.1 ∙ ap (λ (l : List ℕ). s.0 ++ l) (sym i)) number,
      sym (s.2 z b),
    ) in
    subst (λ (v : List ℕ). Nth n (v ++ z) z) (sym cut) here
  where
    as_number : (v : List ℕ) (p q : Option ℕ) → IsNumber n v p → is_digit q ≡ false → IsNumber n v q
    as_number [] p q x f = absurd x
    as_number (c ∷ cs) p q x f = (x.0, f)

    no_more : (v : List ℕ) (p : Option ℕ) → IsNumber n v p → is_digit p ≡ false
    no_more [] p x = absurd x
    no_more (c ∷ cs) p x = x.1

    moved : (w y m : List ℕ) → m ≡ w ++ y → IsNumber n digits (next_of m) → IsNumber n digits (next_of (w ++ z))
    moved [] y m f x = as_number digits (next_of m) (next_of z) x d
    moved (c ∷ cs) y m f x = as_number digits (next_of m) (Some c) x
        (ap (λ (l : List ℕ). is_digit (next_of l)) (sym f) ∙ no_more digits (next_of m) x)

-- an expression may stand before anything
pub quoted_behind : (re : expression.Tree) (u y z : List ℕ) → Quoted re (u ++ y) y → Quoted re (u ++ z) z
quoted_behind re u y z (body, e, x) =
    let cut : u ≡ 47 ∷ body ++ 47 ∷ [] = append_cancel_right u (47 ∷ body ++ 47 ∷ []) y
    (e ∙ ap (λ (l : List ℕ). 47 ∷ l) (sym (append_assoc body (47 ∷ []) y))) in
    (body, ap (λ (l : List ℕ). l ++ z) cut ∙ ap (λ (l : List ℕ). 47 ∷ l) (append_assoc body (47 ∷ []) z), x)

begins_quoted : (n : ℕ) (re : expression.Tree) (u y z r : List ℕ) → Nth n (u ++ y) y → Quoted re z r → Nth n (u ++ z) z
begins_quoted n re u y z r x q =
    slash_behind n u y z x (ap (λ (l : List ℕ). is_digit (next_of l)) q.1)
    (ap (λ (l : List ℕ). is_next 32 (next_of l)) q.1)

read_here : (R : List ℕ → List ℕ → Type 0) (text : List ℕ) (from end : ℕ) → IsReadBy R text from end
    → R (slice_range text from end ++ drop end text) (drop end text)
read_here R text from end x = x.written (drop end text) refl

-- ---- bad places

pub bad_closing : (text : List ℕ) (from slash with_from place n : ℕ) (re : expression.Tree)
    → IsReadBy (Nth n) text from slash → IsReadBy (Quoted re) text slash with_from
    → IsBadBy (List ℕ) Closed anything text with_from place → IsBadBy Action SubstitutesAs ends_line text from place
bad_closing text from slash with_from place n re x q bad = record {
  order = omega (arith, x.order, q.order, bad.order);
  within = bad.within;
  before =
      let b = bad.before in (
        b.0,
        tree.Substitute n re b.1 false,
        solid b.0,
        λ rest h.
            let z3 = (slice_range text with_from place ++ b.0) ++ rest in
            let z2 = slice_range text slash with_from ++ z3 in
            let quoted : Quoted re z2 z3 = quoted_behind re (slice_range text slash with_from) (drop with_from text) z3
            (read_here (Quoted re) text slash with_from q) in
            let nth : Nth n (slice_range text from slash ++ z2) z2 = begins_quoted n re (slice_range text from slash)
            (drop slash text) z2 z3 (read_here (Nth n) text from slash x) quoted in
            let cut : (slice_range text from place ++ b.0) ++ rest ≡ slice_range text from slash ++ z2 =
            append_assoc (slice_range text from place) b.0 rest
            ∙ cut_more text from slash place (b.0 ++ rest) x.order (omega (arith, q.order, bad.order)) bad.within
            ∙ ap (λ (l : List ℕ). slice_range text from slash ++ l)
            (cut_more text slash with_from place (b.0 ++ rest) q.order bad.order bad.within)
            ∙ ap (λ (l : List ℕ). slice_range text from slash ++ (slice_range text slash with_from ++ l))
            (sym (append_assoc (slice_range text with_from place) b.0 rest)) in
            let whole : SubstitutesAs (tree.Substitute n re b.1 false) (slice_range text from slash ++ z2) rest =
            (n, re, b.1, false, refl, (z2, z3, rest, nth, quoted, b.3 rest refl, newline_all rest h)) in
            subst (λ (l : List ℕ). SubstitutesAs (tree.Substitute n re b.1 false) l rest) (sym cut) whole,
      );
  dead = λ more e act rest (j, s, with, all, f, (l, m, k, a, c, d, g)).
      let first : Nth n (slice_range text from place ++ more) (slice_range text slash place ++ more) = behind (Nth n)
      text from slash place x (omega (arith, q.order, bad.order)) bad.within more e in
      let l_is : l ≡ slice_range text slash place ++ more = (nth_once j n (slice_range text from place ++ more) l
      (slice_range text slash place ++ more) a first).1 in
      let second : Quoted re (slice_range text slash place ++ more) (slice_range text with_from place ++ more) =
      behind (Quoted re) text slash with_from place q bad.order bad.within more e in
      let m_is : m ≡ slice_range text with_from place ++ more = (quoted_once s re (slice_range text slash place ++ more)
      m (slice_range text with_from place ++ more) (subst (λ (t : List ℕ). Quoted s t m) l_is c) second).1 in
      bad.dead more e with k (subst (λ (t : List ℕ). Closed with t k) m_is d);
}
  where
    none_of : (u y : List ℕ) → u ≡ [] → Quoted re (u ++ y) y → ⊥
    none_of u y e (body, f, w) =
        let g : y ≡ 47 ∷ body ++ 47 ∷ y = ap (λ (l : List ℕ). l ++ y) (sym e) ∙ f in
        let long : length y ≡ length (47 ∷ body ++ 47 ∷ y) = ap length g in
        omega (arith, long, length-append body (47 ∷ y))

    solid : (more : List ℕ) → from ≡ place → is_solid (next_of more) ≡ true
    solid more e =
        let same : slash ≡ with_from = omega (arith, e, x.order, q.order, bad.order) in
        let none : slice_range text slash with_from ≡ [] = ap (λ k. slice_range text slash k) (sym same)
        ∙ slice_none text slash in
        absurd (none_of (slice_range text slash with_from) (drop with_from text) none
        (read_here (Quoted re) text slash with_from q))

pub bad_quoted : (text : List ℕ) (from slash place n : ℕ) → IsReadBy (Nth n) text from slash
    → IsBadBy expression.Tree Quoted anything text slash place → IsBadBy Action SubstitutesAs ends_line text from place
bad_quoted text from slash place n x bad = record {
  order = omega (arith, x.order, bad.order);
  within = bad.within;
  before =
      let b = bad.before in (
        b.0 ++ 47 ∷ [],
        tree.Substitute n b.1 [] false,
        λ f. solid b.0 (b.2 (omega (arith, f, x.order, bad.order))),
        λ rest h.
            let z = (slice_range text slash place ++ b.0) ++ 47 ∷ rest in
            let quoted : Quoted b.1 z (47 ∷ rest) = b.3 (47 ∷ rest) refl in
            let nth : Nth n (slice_range text from slash ++ z) z = begins_quoted n b.1 (slice_range text from slash)
            (drop slash text) z (47 ∷ rest) (read_here (Nth n) text from slash x) quoted in
            let cut : (slice_range text from place ++ (b.0 ++ 47 ∷ [])) ++ rest ≡ slice_range text from slash ++ z =
            regroup (slice_range text from place) b.0 rest 47
            ∙ append_assoc (slice_range text from place) b.0 (47 ∷ rest)
            ∙ cut_more text from slash place (b.0 ++ 47 ∷ rest) x.order bad.order bad.within
            ∙ ap (λ (l : List ℕ). slice_range text from slash ++ l)
            (sym (append_assoc (slice_range text slash place) b.0 (47 ∷ rest))) in
            let whole : SubstitutesAs (tree.Substitute n b.1 [] false) (slice_range text from slash ++ z) rest =
            (n, b.1, [], false, refl, (z, 47 ∷ rest, rest, nth, quoted, (refl, refl), newline_all rest h)) in
            subst (λ (l : List ℕ). SubstitutesAs (tree.Substitute n b.1 [] false) l rest) (sym cut) whole,
      );
  dead = λ more e act rest (j, s, with, all, f, (l, m, k, a, c, d, g)).
      let first : Nth n (slice_range text from place ++ more) (slice_range text slash place ++ more) = behind (Nth n)
      text from slash place x bad.order bad.within more e in
      let l_is : l ≡ slice_range text slash place ++ more = (nth_once j n (slice_range text from place ++ more) l
      (slice_range text slash place ++ more) a first).1 in
      bad.dead more e s m (subst (λ (t : List ℕ). Quoted s t m) l_is c);
}
  where
    solid : (more : List ℕ) → is_solid (next_of more) ≡ true → is_solid (next_of (more ++ 47 ∷ [])) ≡ true
    solid [] e = refl
    solid (c ∷ cs) e = e

pub bad_nth : (text : List ℕ) (from place : ℕ) → is_digit (next_of (drop from text)) ≡ true → IsBadNumber text from
    place → IsBadBy Action SubstitutesAs ends_line text from place
bad_nth text from place digit bad = record {
  order = bad.order;
  within = bad.within;
  before = (
    slashes,
    tree.Substitute n (Letter 97) [] false,
    λ f. refl,
    λ rest h.
        let z = 47 ∷ 97 ∷ 47 ∷ 47 ∷ rest in
        let cut : (slice_range text from place ++ slashes) ++ rest ≡ slice_range text from place
        ++ z = append_assoc (slice_range text from place) slashes rest in
        let whole : SubstitutesAs (tree.Substitute n (Letter 97) [] false) (slice_range text from place ++ z) rest = (
          n,
          Letter 97,
          [],
          false,
          refl,
          (
            z,
            47 ∷ rest,
            rest,
            (number (slice_range text from place) refl).1 z refl
                refl,
            (97 ∷ [], refl, letter_a),
            (refl, refl),
            newline_all rest h,
          ),
        ) in
        subst (λ (l : List ℕ). SubstitutesAs (tree.Substitute n (Letter 97) [] false) l rest) (sym cut) whole,
  );
  dead = λ more e act rest (j, s, with, all, f, (l, m, k, a, c, d, g)). never more e j l a;
}
  where
    slashes : List ℕ
    slashes = 47 ∷ 97 ∷ 47 ∷ 47 ∷ []

    number : (s : List ℕ) → slice_range text from place ≡ s → (n : ℕ)
        × ((z : List ℕ) → is_digit (next_of z) ≡ false → after_blanks z ≡ z → Nth n (slice_range text from place ++ z)
        z)
    number [] e = (1, λ z d b. subst (λ (l : List ℕ). Nth 1 (l ++ z) z) (sym e) (inl (d, refl, refl)))
    number (c ∷ cs) e = (
      bad.digits.0,
      λ z d b. inr (
        slice_range text from place,
        z,
        refl,
        is_number bad.digits.0 (slice_range text from place) (next_of z) (omega (arith, ap length e)) bad.digits.1 d,
        sym b,
      ),
    )

    n : ℕ
    n = (number (slice_range text from place) refl).0

    never : (more : List ℕ) → next_of more ≡ next_of (drop place text) → (j : ℕ) (l : List ℕ)
        → Nth j (slice_range text from place ++ more) l → ⊥
    never more e j l (inl a) =
        not_both (is_digit (next_of (slice_range text from place ++ more)))
        (ap is_digit (next_behind text from place more bad.order e) ∙ digit) a.0
    never more e j l (inr (digits, m, f, x, g)) = number_dead text from place bad more
        (continues text place more bad.within e) j digits m f x

-- ---- by what is answered

pub nth_fails : (text : List ℕ) (from : ℕ) (e : SynFault) → NthFails text from e → ActionFails SubstitutesAs text from e
nth_fails text from (Bad place) x = bad_nth text from place x.0 x.1
nth_fails text from Nodes x = absurd x.1
nth_fails text from Deep x = absurd x.1
nth_fails text from NoMemory x = tt

pub quoted_fails : (text : List ℕ) (from slash n : ℕ) (e : SynFault) → IsReadBy (Nth n) text from slash
    → QuotedFails text slash e → ActionFails SubstitutesAs text from e
quoted_fails text from slash n (Bad place) r x = bad_quoted text from slash place n r x
quoted_fails text from slash n Nodes r x = absurd x
quoted_fails text from slash n Deep r x = absurd x
quoted_fails text from slash n NoMemory r x = tt

pub closing_fails : (text : List ℕ) (from slash with_from n : ℕ) (re : expression.Tree) (e : SynFault)
    → IsReadBy (Nth n) text from slash → IsReadBy (Quoted re) text slash with_from → ClosedFails text with_from e
    → ActionFails SubstitutesAs text from e
closing_fails text from slash with_from n re (Bad place) r q x = bad_closing text from slash with_from place n re r q x
closing_fails text from slash with_from n re Nodes r q x = absurd x
closing_fails text from slash with_from n re Deep r q x = absurd x
closing_fails text from slash with_from n re NoMemory r q x = tt
