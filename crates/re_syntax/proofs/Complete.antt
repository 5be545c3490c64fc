-- An expression is read to its tree.
use Rattle.std.proofs.Common.{◌≡◌, ℕ, ◌+◌, ◌-◌, ◌≤◌, ◌==◌, Bool, true, false, not, List, [], ◌∷◌, ◌++◌, Option, Some}
use Rattle.std.proofs.Common.{None, refl, sym, ap, subst, ◌∙◌, inl, inr, append_assoc, arith}
use Rattle.std.specs.Prelude.{IsTrue}
use Rattle.std.proofs.lemmas.Bool.{le-ltb}
use Rattle.std.proofs.lemmas.Bool.Decides.{nat_tests}
use Rattle.std.proofs.lemmas.List.{append-nil}
use Rattle.re_syntax.specs.Tree.{Tree, Letter, AnyLetter, OneOf, LineStart, LineEnd, Then, Either, Many, Several, Maybe}
use Rattle.re_syntax.specs.Tree.{Group, is_either, is_part, repetition}
use Rattle.re_syntax.specs.Signs.{class_sign_of}
use Rattle.re_syntax.specs.Grammar.{Has, ClassHas, WritesMember, WritesRange, WritesRanges, WritesClass, Writes}
use Rattle.re_syntax.specs.Grammar.{IsExpression, is_member}
use Rattle.re_syntax.specs.Scan.{Scanned, outside, in_class, after_bracket, after_low, high, after_dash, scan}
use Rattle.re_syntax.specs.Build.{Level, Stack, chain, choice, level_tree, whole, after_token, with_part, end_side}
use Rattle.re_syntax.specs.Read.{Reading, begin, after_scan, reads, is_complete}
use Rattle.re_syntax.specs.declared.re.Re.{Class}
use Rattle.re_syntax.specs.declared.sign.Repeat.{Repeat}
use Rattle.re_syntax.specs.declared.sign.Repeat.TheVariants.{Star, Plus, Opt}
use Rattle.re_syntax.specs.declared.sign.Sign.{Sign}
use Rattle.re_syntax.specs.declared.sign.Sign.TheVariants.{Escape, Bar, Repeats, Open, Close, Dot, Caret, Dollar}
use Rattle.re_syntax.specs.declared.sign.Sign.TheVariants.{OpenClass, Plain}
use Rattle.re_syntax.specs.declared.sign.ClassSign.{ClassSign}
use Rattle.re_syntax.specs.declared.sign.ClassSign.TheVariants.{Ends, Escapes, Dash, Closes, Hat, Member}
use Rattle.re_syntax.specs.declared.scanner.Mode.{Mode}
use Rattle.re_syntax.specs.declared.scanner.Mode.TheVariants.{Outside, Opened, Next, Low, Upto, UptoEscaped}
use Rattle.re_syntax.specs.declared.scanner.Token.TheVariants.{Leaf}
use Rattle.re_syntax.specs.declared.scanner.Scanner.{Scanner}

-- ---- what a tree leaves, the last first: the parts of a concatenation, the sides of an alternation, its last side

abbrev parts_after : Tree → List Tree → List Tree
parts_after (Then a b) ps = parts_after b (a ∷ ps)
parts_after r ps = r ∷ ps

abbrev sides_after : Tree → List Tree → List Tree
sides_after (Either a b) ss = sides_after b (a ∷ ss)
sides_after r ss = ss

abbrev last_side : Tree → Tree
last_side (Either a b) = last_side b
last_side r = r

whole_chain : (ss : List Tree) (r : Tree) (ps : List Tree) → whole ss (parts_after r ps) ≡ Some (choice (chain r ps) ss)
whole_chain ss (Then a b) ps = whole_chain ss b (a ∷ ps)
whole_chain ss _ ps = refl

choice_last : (r : Tree) (ss : List Tree) → choice (last_side r) (sides_after r ss) ≡ choice r ss
choice_last (Either a b) ss = choice_last b (a ∷ ss)
choice_last _ ss = refl

whole_tree : (r : Tree) → whole (sides_after r []) (parts_after (last_side r) []) ≡ Some r
whole_tree r = whole_chain (sides_after r []) (last_side r) [] ∙ ap (λ (x : Tree). Some x) (choice_last r [])

-- ---- readings

abbrev scanner_of : Option ℕ → Mode → Bool → List (ℕ × ℕ) → ℕ → Bool → Scanner
scanner_of st md b rs d e = record { stop = st; mode = md; negated = b; spans = rs; depth = d; expects = e }

abbrev stack_at : List Level → ℕ → List Tree → List Tree → ℕ → Stack
stack_at outer number ss ps groups = record {
  outer = outer;
  top = record { number = number; sides = ss; parts = ps };
  groups = groups;
}

abbrev with_scanner : Stack → ℕ → Scanner → Reading
with_scanner z n s = record { scanner = s; stack = z; size = n }

-- between two tokens
abbrev at : Option ℕ → Bool → List (ℕ × ℕ) → ℕ → Bool → Stack → ℕ → Reading
at stop b rs d e z n = with_scanner z n (scanner_of stop Outside b rs d e)

-- the text leads from that reading to one where a part stands before the rest, and this is built
abbrev Goes : Option ℕ → Reading → List ℕ → ℕ → Stack → List ℕ → Type 0
Goes stop m text d z rest =
    (b : Bool) × (rs : List (ℕ × ℕ)) × (n : ℕ) × (reads (Some m) text ≡ reads (Some (at stop b rs d false z n)) rest)

sign_goes : (stop : Option ℕ) (b : Bool) (rs : List (ℕ × ℕ)) (d : ℕ) (e : Bool) (z : Stack) (n : ℕ) (s : Sign)
    (text rest : List ℕ) (has : Has stop s text rest) → reads (Some (at stop b rs d e z n))
    text ≡ reads (after_scan (at stop b rs d e z n) (outside (scanner_of stop Outside b rs d e) s has.0)) rest
sign_goes stop b rs d e z n s text rest has =
    ap (reads (Some (at stop b rs d e z n))) has.1 ∙ ap (λ (x : Sign).
    reads (after_scan (at stop b rs d e z n) (outside (scanner_of stop Outside b rs d e) x has.0)) rest) has.2

-- ---- classes

abbrev may_start : Bool → ClassSign → Bool
may_start first Ends = false
may_start first Escapes = true
may_start first Dash = false
may_start first Closes = true
may_start first Hat = not first
may_start first Member = true

-- where a range may begin, and the scanner b has the ranges before it
abbrev Ready : Option ℕ → Bool → Scanner → Scanner → Type 0
Ready stop first s b = (c : ℕ) (sign : ClassSign) → class_sign_of stop c ≡ sign → IsTrue (may_start first sign)
    → scan s c ≡ in_class b sign c

in_any_mode : (stop : Option ℕ) (md nd : Mode) (b : Bool) (rs : List (ℕ × ℕ)) (d : ℕ) (e : Bool) (s : ClassSign) (c : ℕ)
    → in_class (scanner_of stop md b rs d e) s c ≡ in_class (scanner_of stop nd b rs d e) s c
in_any_mode stop md nd b rs d e Ends c = refl
in_any_mode stop md nd b rs d e Escapes c = refl
in_any_mode stop md nd b rs d e Dash c = refl
in_any_mode stop md nd b [] d e Closes c = refl
in_any_mode stop md nd b (r ∷ rs) d e Closes c = refl
in_any_mode stop md nd b rs d e Hat c = refl
in_any_mode stop md nd b rs d e Member c = refl

module _ (stop : Option ℕ) (b : Bool) (d : ℕ) (e : Bool) (z : Stack) (n : ℕ) where
  abbrev base : List (ℕ × ℕ) → Scanner
  base rs = scanner_of stop Next b rs d e

  abbrev inside : Scanner → Reading
  inside s = with_scanner z n s

  ready_next : (rs : List (ℕ × ℕ)) → Ready stop false (base rs) (base rs)
  ready_next rs c s sg may = ap (λ (x : ClassSign). in_class (base rs) x c) sg

  ready_low : (rs : List (ℕ × ℕ)) (a : ℕ) → Ready stop false (scanner_of stop (Low a) b rs d e)
      (base (rs ++ (a, a) ∷ []))
  ready_low rs a c s sg may =
      ap (λ (x : ClassSign). after_low (scanner_of stop (Low a) b rs d e) a x c) sg ∙ go s may
    where
      go : (s : ClassSign) → IsTrue (may_start false s) → after_low (scanner_of stop (Low a) b rs d e) a s
          c ≡ in_class (base (rs ++ (a, a) ∷ [])) s c
      go Ends may = refl
      go Escapes may = refl
      go Dash may = absurd cc
      go Closes may = in_any_mode stop (Low a) Next b (rs ++ (a, a) ∷ []) d e Closes c
      go Hat may = refl
      go Member may = refl

  member_goes : (first : Bool) (s : Scanner) (rs : List (ℕ × ℕ)) (a : ℕ) (text rest : List ℕ)
      → Ready stop first s (base rs) → WritesMember stop first a text rest
      → reads (Some (inside s)) text ≡ reads (Some (inside (scanner_of stop (Low a) b rs d e))) rest
  member_goes first s rs a text rest ready x = elim x [
    | inl m ↦
        ap (reads (Some (inside s))) m.0 ∙ plain (class_sign_of stop a) refl m.1
    | inr m ↦
        let f = ready m.1.0 Escapes m.1.2 refl in
        ap (reads (Some (inside s))) m.1.1 ∙ (ap (λ (o : Scanned). reads (after_scan (inside s) o) (m.0 ∷ rest)) f
        ∙ ap (λ (y : ℕ). reads (Some (inside (scanner_of stop (Low y) b rs d e))) rest) (sym m.2))
  ]
    where
      plain : (t : ClassSign) → class_sign_of stop a ≡ t → IsTrue (is_member first t)
          → reads (after_scan (inside s) (scan s a)) rest ≡ reads (Some (inside (scanner_of stop (Low a) b rs d e)))
          rest
      plain Ends sg m = absurd cc
      plain Escapes sg m = absurd cc
      plain Dash sg m = absurd cc
      plain Closes sg m = absurd cc
      plain Hat sg m = ap (λ (o : Scanned). reads (after_scan (inside s) o) rest) (ready a Hat sg m)
      plain Member sg m = ap (λ (o : Scanned). reads (after_scan (inside s) o) rest) (ready a Member sg refl)

  high_goes : (md : Mode) (rs : List (ℕ × ℕ)) (a x : ℕ) → a ≤ x → high (scanner_of stop md b rs d e) a
      x ≡ Some (base (rs ++ (a, x) ∷ []), None)
  high_goes md rs a x le = rw (le-ltb x a le) refl

  upto_goes : (rs : List (ℕ × ℕ)) (a x : ℕ) (text rest : List ℕ) → a ≤ x → WritesMember stop false x text rest
      → reads (Some (inside (scanner_of stop (Upto a) b rs d e))) text
      ≡ reads (Some (inside (base (rs ++ (a, x) ∷ [])))) rest
  upto_goes rs a x text rest le y = elim y [
    | inl m ↦ ap (reads (Some (inside (scanner_of stop (Upto a) b rs d e)))) m.0 ∙ plain (class_sign_of stop x) refl m.1
    | inr m ↦
        ap (reads (Some (inside (scanner_of stop (Upto a) b rs d e)))) m.1.1 ∙
        (ap (λ (s : ClassSign). reads (after_scan (inside (scanner_of stop (Upto a) b rs d e))
        (after_dash (scanner_of stop (Upto a) b rs d e) a s m.1.0)) (m.0 ∷ rest)) m.1.2 ∙
        (ap (λ (y : ℕ). reads (after_scan (inside (scanner_of stop (UptoEscaped a) b rs d e))
        (high (scanner_of stop (UptoEscaped a) b rs d e) a y)) rest) (sym m.2) ∙
        ap (λ (o : Scanned). reads (after_scan (inside (scanner_of stop (UptoEscaped a) b rs d e)) o) rest)
        (high_goes (UptoEscaped a) rs a x le)))
  ]
    where
      plain : (t : ClassSign) → class_sign_of stop x ≡ t → IsTrue (is_member false t)
          → reads (after_scan (inside (scanner_of stop (Upto a) b rs d e))
          (after_dash (scanner_of stop (Upto a) b rs d e) a (class_sign_of stop x) x))
          rest ≡ reads (Some (inside (base (rs ++ (a, x) ∷ [])))) rest
      plain Ends sg m = absurd cc
      plain Escapes sg m = absurd cc
      plain Dash sg m = absurd cc
      plain Closes sg m = absurd cc
      plain Hat sg m = ap (λ (s : ClassSign). reads (after_scan (inside (scanner_of stop (Upto a) b rs d e))
          (after_dash (scanner_of stop (Upto a) b rs d e) a s x)) rest) sg
          ∙ ap (λ (o : Scanned). reads (after_scan (inside (scanner_of stop (Upto a) b rs d e)) o) rest)
          (high_goes (Upto a) rs a x le)
      plain Member sg m = ap (λ (s : ClassSign). reads (after_scan (inside (scanner_of stop (Upto a) b rs d e))
          (after_dash (scanner_of stop (Upto a) b rs d e) a s x)) rest) sg
          ∙ ap (λ (o : Scanned). reads (after_scan (inside (scanner_of stop (Upto a) b rs d e)) o) rest)
          (high_goes (Upto a) rs a x le)

  abbrev GoesReady : Scanner → List ℕ → List (ℕ × ℕ) → List ℕ → Type 0
  GoesReady s text rs rest = (t : Scanner) × (reads (Some (inside s)) text ≡ reads (Some (inside t)) rest)
      × Ready stop false t (base rs)

  range_goes : (first : Bool) (s : Scanner) (rs : List (ℕ × ℕ)) (r : ℕ × ℕ) (text rest : List ℕ)
      → Ready stop first s (base rs) → WritesRange stop first r text rest → GoesReady s text (rs ++ r ∷ []) rest
  range_goes first s rs r text rest ready x = elim x [
    | inl m ↦ (
      scanner_of stop (Low r.0) b rs d e,
      member_goes first s rs r.0 text rest ready m.0,
      subst (λ (y : ℕ). Ready stop false (scanner_of stop (Low r.0) b rs d e) (base (rs ++ (r.0, y) ∷ [])))
          (sym m.1) (ready_low rs r.0),
    )
    | inr m ↦ (
      base (rs ++ r ∷ []),
      member_goes first s rs r.0 text m.0 ready m.2 ∙
          (ap (reads (Some (inside (scanner_of stop (Low r.0) b rs d e)))) m.3.1 ∙
          (ap (λ (t : ClassSign). reads (after_scan (inside (scanner_of stop (Low r.0) b rs d e))
          (after_low (scanner_of stop (Low r.0) b rs d e) r.0 t m.3.0)) m.1) m.3.2 ∙
          upto_goes rs r.0 r.1 m.1 rest m.5 m.4)),
      ready_next (rs ++ r ∷ []),
    )
  ]

  ranges_goes : (s : Scanner) (rs qs : List (ℕ × ℕ)) (text rest : List ℕ) → Ready stop false s (base rs)
      → WritesRanges stop false qs text rest → GoesReady s text (rs ++ qs) rest
  ranges_goes s rs [] text rest ready x = (
    s,
    ap (reads (Some (inside s))) x,
    subst (λ (l : List (ℕ × ℕ)). Ready stop false s (base l))
        (sym (append-nil rs)) ready,
  )
  ranges_goes s rs (q ∷ qs) text rest ready x =
      let one = range_goes false s rs q text x.0 ready x.1 in
      let more = ranges_goes one.0 (rs ++ q ∷ []) qs x.0 rest one.2 x.2 in (
        more.0,
        one.1 ∙ more.1,
        subst (λ (l : List (ℕ × ℕ)). Ready stop false more.0 (base l))
            (append_assoc rs (q ∷ []) qs) more.2,
      )

  -- from where the first range may begin
  body_goes : (first : Bool) (s : Scanner) (r : ℕ × ℕ) (rs : List (ℕ × ℕ)) (text m rest : List ℕ)
      → Ready stop first s (base []) → WritesRanges stop first (r ∷ rs) text m → ClassHas stop Closes m rest
      → reads (Some (inside s)) text ≡ reads (Some (at stop b [] d false (after_token z (Leaf (Class b (r ∷ rs))))
      (n + 2))) rest
  body_goes first s r rs text m rest ready x has =
      let one = range_goes first s [] r text x.0 ready x.1 in
      let more = ranges_goes one.0 (r ∷ []) rs x.0 m one.2 x.2 in
      one.1 ∙ (more.1 ∙ (ap (reads (Some (inside more.0))) has.1 ∙
      ap (λ (o : Scanned). reads (after_scan (inside more.0) o) rest) (more.2 has.0 Closes has.2 refl)))

ready_opened : (stop : Option ℕ) (d : ℕ) (e : Bool) → Ready stop true (scanner_of stop Opened false [] d e)
    (scanner_of stop Next false [] d e)
ready_opened stop d e c s sg may = ap (λ (x : ClassSign). after_bracket (scanner_of stop Opened false [] d e) x c) sg
    ∙ go s may
  where
    go : (s : ClassSign) → IsTrue (may_start true s) → after_bracket (scanner_of stop Opened false [] d e) s
        c ≡ in_class (scanner_of stop Next false [] d e) s c
    go Ends may = refl
    go Escapes may = refl
    go Dash may = refl
    go Closes may = refl
    go Hat may = absurd cc
    go Member may = refl

class_goes : (stop : Option ℕ) (b c : Bool) (rs : List (ℕ × ℕ)) (d : ℕ) (e : Bool) (z : Stack) (n : ℕ)
    (spans : List (ℕ × ℕ)) (text rest : List ℕ) → WritesClass stop c spans text rest
    → Goes stop (at stop b rs d e z n) text d (record z { top = with_part z.top (OneOf c spans) }) rest
class_goes stop b c rs d e z n [] text rest x = absurd x
class_goes stop b false rs d e z n (q ∷ qs) text rest x = (
  false,
  [],
  n + 2,
  sign_goes stop b rs d e z n OpenClass text x.0 x.2
      ∙ body_goes stop false d e z n true (scanner_of stop Opened false [] d e) q qs x.0 x.1 rest
      (ready_opened stop d e) x.3 x.4,
)
class_goes stop b true rs d e z n (q ∷ qs) text rest x =
    let has = x.2.2 in
    let hat : reads (Some (with_scanner z n (scanner_of stop Opened false [] d e)))
    x.2.0 ≡ reads (Some (with_scanner z n (scanner_of stop Next true [] d e))) x.0 =
    ap (reads (Some (with_scanner z n (scanner_of stop Opened false [] d e)))) has.1
    ∙ ap (λ (s : ClassSign). reads (after_scan (with_scanner z n (scanner_of stop Opened false [] d e))
    (after_bracket (scanner_of stop Opened false [] d e) s has.0)) x.0) has.2
    in (
      true,
      [],
      n + 2,
      sign_goes stop b rs d e z n OpenClass text x.2.0 x.2.1
          ∙ (hat ∙ body_goes stop true d e z n false (scanner_of stop Next true [] d e) q qs x.0 x.1 rest
          (ready_next stop true d e z n []) x.3 x.4),
    )

-- ---- trees

-- from any reading between two tokens
abbrev GoesFrom : Option ℕ → ℕ → List ℕ → ℕ → List ℕ → List Tree → List Tree → List Tree → List Tree → Type 0
GoesFrom stop g text h rest ss ps tt qs =
    (b : Bool) (rs : List (ℕ × ℕ)) (d : ℕ) (e : Bool) (n : ℕ) (outer : List Level) (number : ℕ)
    → Goes stop (at stop b rs d e (stack_at outer number ss ps g) n) text d (stack_at outer number tt qs h) rest

abbrev PartGoes : Option ℕ → Tree → Type 0
PartGoes stop r = (g h : ℕ) (text rest : List ℕ) → Writes stop r g text h rest → (ss ps : List Tree)
    → GoesFrom stop g text h rest ss ps ss (r ∷ ps)

abbrev ChainGoes : Option ℕ → Tree → Type 0
ChainGoes stop r = (g h : ℕ) (text rest : List ℕ) → Writes stop r g text h rest → (ss ps : List Tree)
    → GoesFrom stop g text h rest ss ps ss (parts_after r ps)

abbrev TreeGoes : Option ℕ → Tree → Type 0
TreeGoes stop r = (g h : ℕ) (text rest : List ℕ) → Writes stop r g text h rest → (ss : List Tree)
    → GoesFrom stop g text h rest ss [] (sides_after r ss) (parts_after (last_side r) [])

record AllGo (stop : Option ℕ) (r : Tree) : Type 0 where
  part : IsTrue (is_part r) → PartGoes stop r
  chained : is_either r ≡ false → ChainGoes stop r
  whole_goes : TreeGoes stop r

-- a tree that is a part
all_of_part : (stop : Option ℕ) (r : Tree) → ((ps : List Tree) → parts_after r ps ≡ r ∷ ps)
    → last_side r ≡ r → ((ss : List Tree) → sides_after r ss ≡ ss) → PartGoes stop r → AllGo stop r
all_of_part stop r e f s go = record {
  part = λ h. go;
  chained = λ x g h text rest w ss ps. subst (λ (l : List Tree). GoesFrom stop g text h rest ss ps ss l) (sym (e ps))
      (go g h text rest w ss ps);
  whole_goes = λ g h text rest w ss.
      let l : parts_after (last_side r) [] ≡ r ∷ [] = ap (λ (x : Tree). parts_after x []) f ∙ e [] in
      subst (λ (x : List Tree). GoesFrom stop g text h rest ss [] x (parts_after (last_side r) [])) (sym (s ss))
      (subst (λ (x : List Tree). GoesFrom stop g text h rest ss [] ss x) (sym l) (go g h text rest w ss []));
}

same_groups : (stop : Option ℕ) (m : Reading) (text : List ℕ) (d : ℕ) (outer : List Level) (number : ℕ)
    (ss ps : List Tree) (g h : ℕ) (rest : List ℕ) → h ≡ g → Goes stop m text d (stack_at outer number ss ps g) rest
    → Goes stop m text d (stack_at outer number ss ps h) rest
same_groups stop m text d outer number ss ps g h rest e x = subst (λ (k : ℕ). Goes stop m text d
    (stack_at outer number ss ps k) rest) (sym e) x

letter_goes : (stop : Option ℕ) (c : ℕ) → PartGoes stop (Letter c)
letter_goes stop c g h text rest w ss ps b rs d e n outer number =
    let z = stack_at outer number ss ps g in
    same_groups stop (at stop b rs d e z n) text d outer number ss (Letter c ∷ ps) g h rest w.0
    (elim w.1 [
      | inl x ↦ (b, rs, n + 2, sign_goes stop b rs d e z n Plain text rest (c, x.0, x.1))
      | inr x ↦ (
        b,
        rs,
        n + 2,
        sign_goes stop b rs d e z n Escape text (x.0 ∷ rest) x.1
            ∙ ap (λ (y : ℕ). reads (Some (at stop b rs d false (stack_at outer number ss (Letter y ∷ ps) g) (n + 2)))
            rest) (sym x.2),
      )
    ])

repeat_goes : (stop : Option ℕ) (a : Tree) (k : Repeat) (ss ps : List Tree) (g h : ℕ) (text m rest : List ℕ)
    → GoesFrom stop g text h m ss ps ss (a ∷ ps) → Has stop (Repeats k) m rest
    → GoesFrom stop g text h rest ss ps ss (repetition k a ∷ ps)
repeat_goes stop a k ss ps g h text m rest go has b rs d e n outer number =
    let x = go b rs d e n outer number in (
      x.0,
      x.1,
      x.2 + 1,
      x.3 ∙ sign_goes stop x.0 x.1 d false (stack_at outer number ss (a ∷ ps) h) x.2 (Repeats k) m
          rest has,
    )

suc_is : (d : ℕ) → ((d + 1) == 0) ≡ false
suc_is d = grind (arith, nat_tests)

back : (d : ℕ) → (d + 1) - 1 ≡ d
back d = omega arith

group_goes : (stop : Option ℕ) (k : ℕ) (a : Tree) → TreeGoes stop a → PartGoes stop (Group k a)
group_goes stop k a go g h text rest w ss ps b rs d e n outer number =
    let l = w.1 in
    let m = w.2 in
    let z = stack_at outer number ss ps g in
    let inner : Writes stop a (g + 1) l h m = subst (λ (j : ℕ). Writes stop a j l h m) w.0 w.4 in
    let x = go (g + 1) h l m inner [] b rs (d + 1) true (n + 1) (z.top ∷ outer) (g + 1) in
    let full = stack_at (z.top ∷ outer) (g + 1) (sides_after a []) (parts_after (last_side a) []) h in
    let closed : after_scan (at stop x.0 x.1 (d + 1) false full x.2)
    (outside (scanner_of stop Outside x.0 x.1 (d + 1) false) Close w.5.0)
    ≡ Some (at stop x.0 x.1 d false (stack_at outer number ss (Group k a ∷ ps) h) (x.2 + 0)) =
    rw (suc_is d, whole_tree a, back d, w.0) refl
    in (
      x.0,
      x.1,
      x.2 + 0,
      sign_goes stop b rs d e z n Open text l w.3
          ∙ (x.3 ∙ (sign_goes stop x.0 x.1 (d + 1) false full x.2 Close m rest w.5
          ∙ ap (λ (o : Option Reading). reads o rest) closed)),
    )

-- a bar ends the side
side_of : (number : ℕ) (r : Tree) (ss ps : List Tree) → end_side (record
    { number = number; sides = ss; parts = parts_after r ps }) (parts_after r ps)
    ≡ record { number = number; sides = chain r ps ∷ ss; parts = [] }
side_of number (Then a b) ss ps = side_of number b ss (a ∷ ps)
side_of number _ ss ps = refl

end_goes : (stop : Option ℕ) (a : Tree) → is_either a ≡ false → (ss : List Tree) (g : ℕ) (m rest : List ℕ)
    → Has stop Bar m rest → (b : Bool) (rs : List (ℕ × ℕ)) (d n : ℕ) (outer : List Level) (number : ℕ)
    → reads (Some (at stop b rs d false (stack_at outer number ss (parts_after a []) g) n))
    m ≡ reads (Some (at stop b rs d true (stack_at outer number (a ∷ ss) [] g) (n + 0))) rest
end_goes stop a e ss g m rest has b rs d n outer number =
    sign_goes stop b rs d false (stack_at outer number ss (parts_after a []) g) n Bar m rest has ∙
    ap (λ (l : Level). reads (Some (at stop b rs d true (record { outer = outer; top = l; groups = g }) (n + 0))) rest)
    (side_of number a ss [])

goes : (stop : Option ℕ) (r : Tree) → AllGo stop r
goes stop (Letter c) = all_of_part stop (Letter c) (λ ps. refl) refl (λ ss. refl) (letter_goes stop c)
goes stop AnyLetter = all_of_part stop AnyLetter (λ ps. refl) refl (λ ss. refl)
    (λ g h text rest w ss ps b rs d e n outer number.
    same_groups stop (at stop b rs d e (stack_at outer number ss ps g) n) text d outer number ss (AnyLetter ∷ ps) g h
    rest w.0 (b, rs, n + 2, sign_goes stop b rs d e (stack_at outer number ss ps g) n Dot text rest w.1))
goes stop LineStart = all_of_part stop LineStart (λ ps. refl) refl (λ ss. refl)
    (λ g h text rest w ss ps b rs d e n outer number.
    same_groups stop (at stop b rs d e (stack_at outer number ss ps g) n) text d outer number ss (LineStart ∷ ps) g h
    rest w.0 (b, rs, n + 2, sign_goes stop b rs d e (stack_at outer number ss ps g) n Caret text rest w.1))
goes stop LineEnd = all_of_part stop LineEnd (λ ps. refl) refl (λ ss. refl)
    (λ g h text rest w ss ps b rs d e n outer number.
    same_groups stop (at stop b rs d e (stack_at outer number ss ps g) n) text d outer number ss (LineEnd ∷ ps) g h rest
    w.0 (b, rs, n + 2, sign_goes stop b rs d e (stack_at outer number ss ps g) n Dollar text rest w.1))
goes stop (OneOf c spans) = all_of_part stop (OneOf c spans) (λ ps. refl) refl (λ ss. refl)
    (λ g h text rest w ss ps b rs d e n outer number.
    same_groups stop (at stop b rs d e (stack_at outer number ss ps g) n) text d outer number ss (OneOf c spans ∷ ps) g
    h rest w.0 (class_goes stop b c rs d e (stack_at outer number ss ps g) n spans text rest w.1))
goes stop (Then a b) =
    let go : ChainGoes stop (Then a b) = λ g h text rest w ss ps x rs d e n outer number.
    let first = (goes stop a).part w.0 g w.2 text w.3 w.4 ss ps x rs d e n outer number in
    let second = (goes stop b).chained w.1 w.2 h w.3 rest w.5 ss (a ∷ ps) first.0 first.1 d false first.2 outer
    number in
    (second.0, second.1, second.2, first.3 ∙ second.3)
    in
    record { part = λ h. absurd cc; chained = λ h. go; whole_goes = λ g h text rest w ss. go g h text rest w ss [] }
goes stop (Either a b) =
    record {
      part = λ h. absurd cc;
      chained = λ h. absurd cc;
      whole_goes = λ g h text rest w ss x rs d e n outer number.
          let first = (goes stop a).chained w.0 g w.1 text w.2 w.4 ss [] x rs d e n outer number in
          let ended = end_goes stop a w.0 ss w.1 w.2 w.3 w.5 first.0 first.1 d first.2 outer number in
          let second = (goes stop b).whole_goes w.1 h w.3 rest w.6 (a ∷ ss) first.0 first.1 d true (first.2 + 0) outer
          number in
          (second.0, second.1, second.2, first.3 ∙ (ended ∙ second.3));
    }
goes stop (Many a) = all_of_part stop (Many a) (λ ps. refl) refl (λ ss. refl)
    (λ g h text rest w ss ps. repeat_goes stop a Star ss ps g h text w.1 rest
    ((goes stop a).part w.0 g h text w.1 w.2 ss ps) w.3)
goes stop (Several a) = all_of_part stop (Several a) (λ ps. refl) refl (λ ss. refl)
    (λ g h text rest w ss ps. repeat_goes stop a Plus ss ps g h text w.1 rest
    ((goes stop a).part w.0 g h text w.1 w.2 ss ps) w.3)
goes stop (Maybe a) = all_of_part stop (Maybe a) (λ ps. refl) refl (λ ss. refl)
    (λ g h text rest w ss ps. repeat_goes stop a Opt ss ps g h text w.1 rest
    ((goes stop a).part w.0 g h text w.1 w.2 ss ps) w.3)
goes stop (Group k a) = all_of_part stop (Group k a) (λ ps. refl) refl (λ ss. refl)
    (group_goes stop k a (goes stop a).whole_goes)

-- an expression is read whole
pub record Read (stop : Option ℕ) (u : List ℕ) (r : Tree) : Type 0 where
  pub reading : Reading
  pub reads_to : reads (Some (begin stop)) u ≡ Some reading
  pub complete : is_complete reading.scanner ≡ true
  pub finished_is : level_tree reading.stack.top ≡ Some r

pub complete_read : (stop : Option ℕ) (u : List ℕ) (r : Tree) → IsExpression stop u r → Read stop u r
complete_read stop u r x =
    let go = (goes stop r).whole_goes 0 x.0 u [] x.1 [] false [] 0 true 0 [] 0 in
    record {
      reading = at stop go.0 go.1 0 false (stack_at [] 0 (sides_after r []) (parts_after (last_side r) []) x.0) go.2;
      reads_to = go.3;
      complete = refl;
      finished_is = whole_tree r;
    }

pub one_tree : (stop : Option ℕ) (u : List ℕ) (r s : Tree) → IsExpression stop u r → IsExpression stop u s → r ≡ s
one_tree stop u r s x y =
    let a = complete_read stop u r x in
    let b = complete_read stop u s y in
    let same : a.reading ≡ b.reading = cc (a.reads_to, b.reads_to) in
    let e : Some r ≡ Some s = sym a.finished_is ∙ (ap (λ (m : Reading). level_tree m.stack.top) same ∙ b.finished_is) in
    cc e
