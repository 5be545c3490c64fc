-- What is read is an expression, as far as it goes.
use Rattle.std.proofs.Common.{◌≡◌, ℕ, zero, suc, ◌+◌, ◌==◌, ◌&&◌, Bool, true, false, not, cond, List, [], ◌∷◌, ◌++◌}
use Rattle.std.proofs.Common.{Option, Some, None, refl, sym, ap, subst, inl, inr, arith}
use Rattle.std.specs.Prelude.{IfSome, nat_lt}
use Rattle.std.proofs.lemmas.Bool.{ltb-false}
use Rattle.std.proofs.lemmas.Bool.Decides.{nat_tests}
use Rattle.re_syntax.specs.Tree.{Tree, nodes}
use Rattle.re_syntax.specs.Signs.{sign_of, class_sign_of, escaped}
use Rattle.re_syntax.specs.Grammar.{Has, ClassHas, WritesMember, WritesRange, WritesRanges, OpensClass, IsExpression}
use Rattle.re_syntax.specs.Scan.{within, often, or, leave, outside, close_class, in_class, after_bracket, with_range}
use Rattle.re_syntax.specs.Scan.{after_low, high, after_dash, scan_in}
use Rattle.re_syntax.specs.Build.{Level, Stack, chain, choice, level_tree}
use Rattle.re_syntax.specs.Read.{Reading, begin, after_scan, read, reads, is_complete}
use Rattle.re_syntax.specs.declared.re.Re.{Lit, Any, Class, Start, End}
use Rattle.re_syntax.specs.declared.sign.Repeat.{Repeat}
use Rattle.re_syntax.specs.declared.sign.Sign.{Sign}
use Rattle.re_syntax.specs.declared.sign.Sign.TheVariants.{Stop, Lone, Escape, Bar, Repeats, Open, Close, Dot, Caret}
use Rattle.re_syntax.specs.declared.sign.Sign.TheVariants.{Dollar, OpenClass, Plain}
use Rattle.re_syntax.specs.declared.sign.ClassSign.{ClassSign}
use Rattle.re_syntax.specs.declared.sign.ClassSign.TheVariants.{Ends, Escapes, Dash, Closes, Hat, Member}
use Rattle.re_syntax.specs.declared.scanner.Mode.{Mode}
use Rattle.re_syntax.specs.declared.scanner.Mode.TheVariants.{Outside, Escaped, Opened, Next, NextEscaped, Low, Upto}
use Rattle.re_syntax.specs.declared.scanner.Mode.TheVariants.{UptoEscaped}
use Rattle.re_syntax.specs.declared.scanner.Scanner.{Scanner}
use Rattle.re_syntax.proofs.Written.{Kept, Levels, kept_leaf, kept_often, kept_or, kept_enter, kept_leave, level_writes}
use Rattle.re_syntax.proofs.Written.{level_nodes}

-- whether a `^` that comes next would be the first of its class
abbrev pub first_now : Bool → List (ℕ × ℕ) → Bool
first_now negated [] = not negated
first_now negated (r ∷ rs) = false

-- the class so far
abbrev pub Inside : Option ℕ → Bool → List (ℕ × ℕ) → List ℕ → List ℕ → Type 0
Inside stop negated spans k rest = (m : List ℕ) × OpensClass stop negated k m
    × WritesRanges stop (not negated) spans m rest

-- what was read since the last token
abbrev pub InMode : Option ℕ → Mode → Bool → List (ℕ × ℕ) → List ℕ → List ℕ → Type 0
InMode stop Outside b rs k rest = k ≡ rest
InMode stop Escaped b rs k rest = Has stop Escape k rest
InMode stop Opened b rs k rest = (b ≡ false) × (rs ≡ []) × Has stop OpenClass k rest
InMode stop Next b rs k rest = (first_now b rs ≡ false) × Inside stop b rs k rest
InMode stop NextEscaped b rs k rest = (m : List ℕ) × Inside stop b rs k m × ClassHas stop Escapes m rest
InMode stop (Low a) b rs k rest = (m : List ℕ) × Inside stop b rs k m × WritesMember stop (first_now b rs) a m rest
InMode stop (Upto a) b rs k rest =
    (m n : List ℕ) × Inside stop b rs k m × WritesMember stop (first_now b rs) a m n × ClassHas stop Dash n rest
InMode stop (UptoEscaped a) b rs k rest =
    (m n o : List ℕ) × Inside stop b rs k m × WritesMember stop (first_now b rs) a m n × ClassHas stop Dash n o
    × ClassHas stop Escapes o rest

-- the text w is read as far as rest
abbrev pub Built : Option ℕ → Reading → List ℕ → List ℕ → Type 0
Built stop m w rest =
    (k : List ℕ) × Kept stop m.scanner.stop m.scanner.expects m.scanner.depth m.stack m.size w k
    × InMode stop m.scanner.mode m.scanner.negated m.scanner.spans k rest

abbrev first_or : Bool → List (ℕ × ℕ) → Bool
first_or first [] = first
first_or first (r ∷ rs) = false

ranges_snoc : (stop : Option ℕ) (first : Bool) (rs : List (ℕ × ℕ)) (r : ℕ × ℕ) (m n rest : List ℕ)
    → WritesRanges stop first rs m n → WritesRange stop (first_or first rs) r n rest
    → WritesRanges stop first (rs ++ r ∷ []) m rest
ranges_snoc stop first [] r m n rest x y = (
  rest,
  subst (λ (l : List ℕ). WritesRange stop first r l rest) (sym x) y,
  refl,
)
ranges_snoc stop first (q ∷ []) r m n rest x y = (x.0, x.1, ranges_snoc stop false [] r x.0 n rest x.2 y)
ranges_snoc stop first (q ∷ s ∷ ss) r m n rest x y = (x.0, x.1, ranges_snoc stop false (s ∷ ss) r x.0 n rest x.2 y)

inside_snoc : (stop : Option ℕ) (b : Bool) (rs : List (ℕ × ℕ)) (r : ℕ × ℕ) (k m rest : List ℕ) → Inside stop b rs k m
    → WritesRange stop (first_now b rs) r m rest → Inside stop b (rs ++ r ∷ []) k rest
inside_snoc stop b [] r k m rest x y = (x.0, x.1, ranges_snoc stop (not b) [] r x.0 m rest x.2 y)
inside_snoc stop b (q ∷ rs) r k m rest x y = (x.0, x.1, ranges_snoc stop (not b) (q ∷ rs) r x.0 m rest x.2 y)

later : (b : Bool) (rs : List (ℕ × ℕ)) (r : ℕ × ℕ) → first_now b (rs ++ r ∷ []) ≡ false
later b [] r = refl
later b (q ∷ rs) r = refl

-- ---- one rune more

abbrev scanner_of : Option ℕ → Mode → Bool → List (ℕ × ℕ) → ℕ → Bool → Scanner
scanner_of st md b rs d e = record { stop = st; mode = md; negated = b; spans = rs; depth = d; expects = e }

abbrev reading_of : Scanner → Stack → ℕ → Reading
reading_of s z n = record { scanner = s; stack = z; size = n }

abbrev Fine : Option ℕ → List ℕ → List ℕ → Option Reading → Type 0
Fine stop w rest m = IfSome m (λ x. Built stop x w rest)

abbrev stack_at : List Level → ℕ → List Tree → List Tree → ℕ → Stack
stack_at outer number ss ps groups = record {
  outer = outer;
  top = record { number = number; sides = ss; parts = ps };
  groups = groups;
}

module _ (stop st : Option ℕ) (b : Bool) (rs : List (ℕ × ℕ)) (d n c : ℕ) (w k rest : List ℕ) where
  often_step : (e : Bool) (outer : List Level) (number : ℕ) (ss ps : List Tree) (groups : ℕ)
      → Kept stop st e d (stack_at outer number ss ps groups) n w k → (r : Repeat) → Has stop (Repeats r) k rest
      → Fine stop w rest (after_scan (reading_of (scanner_of st Outside b rs d e) (stack_at outer number ss ps groups)
      n) (often (scanner_of st Outside b rs d e) r))
  often_step true outer number ss ps groups kept r has = tt
  often_step false outer number ss [] groups kept r has = absurd (cc kept.expects)
  often_step false outer number ss (p ∷ ps) groups kept r has = (
    rest,
    kept_often stop st false d n w k rest outer number ss p ps groups kept r has,
    refl,
  )

  or_step : (e : Bool) (outer : List Level) (number : ℕ) (ss ps : List Tree) (groups : ℕ)
      → Kept stop st e d (stack_at outer number ss ps groups) n w k → Has stop Bar k rest
      → Fine stop w rest (after_scan (reading_of (scanner_of st Outside b rs d e) (stack_at outer number ss ps groups)
      n) (or (scanner_of st Outside b rs d e)))
  or_step true outer number ss ps groups kept has = tt
  or_step false outer number ss [] groups kept has = absurd (cc kept.expects)
  or_step false outer number ss (p ∷ ps) groups kept has = (
    rest,
    kept_or stop st false d n w k rest outer number ss p
        ps groups kept has,
    refl,
  )

pub suc_not_zero : (d : ℕ) → (suc d == 0) ≡ false
suc_not_zero d = grind (arith, nat_tests)

leave_step : (stop st : Option ℕ) (b : Bool) (rs : List (ℕ × ℕ)) (d n : ℕ) (w k rest : List ℕ) (e : Bool)
    (outer : List Level) (number : ℕ) (ss ps : List Tree) (groups : ℕ)
    → Kept stop st e d (stack_at outer number ss ps groups) n w k → Has stop Close k rest
    → Fine stop w rest (after_scan (reading_of (scanner_of st Outside b rs d e) (stack_at outer number ss ps groups) n)
    (leave (scanner_of st Outside b rs d e)))
leave_step stop st b rs d n w k rest true outer number ss ps groups kept has = tt
leave_step stop st b rs d n w k rest false outer number ss [] groups kept has = absurd (cc kept.expects)
leave_step stop st b rs d n w k rest false [] number ss (p ∷ ps) groups kept has =
    rw kept.depth tt
leave_step stop st b rs zero n w k rest false (l ∷ ls) number ss (p ∷ ps) groups kept has =
    absurd (omega (arith, kept.depth))
leave_step stop st b rs (suc d) n w k rest false (l ∷ ls) number ss (p ∷ ps) groups kept has =
    rw (suc_not_zero d) (rest, kept_leave stop st false (suc d) n w k rest l ls number ss p ps groups kept has, refl)

outside_step : (stop st : Option ℕ) (b : Bool) (rs : List (ℕ × ℕ)) (d n c : ℕ) (w k rest : List ℕ) (e : Bool)
    (z : Stack) → Kept stop st e d z n w k → (s : Sign) → Has stop s k rest → k ≡ c ∷ rest
    → Fine stop w rest (after_scan (reading_of (scanner_of st Outside b rs d e) z n)
    (outside (scanner_of st Outside b rs d e) s c))
outside_step stop st b rs d n c w k rest e z kept Stop has at = tt
outside_step stop st b rs d n c w k rest e z kept Lone has at = tt
outside_step stop st b rs d n c w k rest e z kept Escape has at = (k, kept, has)
outside_step stop st b rs d n c w k rest e z kept Bar has at = or_step stop st b rs d n c w k rest e z.outer
    z.top.number z.top.sides z.top.parts z.groups kept has
outside_step stop st b rs d n c w k rest e z kept (Repeats r) has at = often_step stop st b rs d n c w k rest e z.outer
    z.top.number z.top.sides z.top.parts z.groups kept r has
outside_step stop st b rs d n c w k rest e z kept Open has at = (
  rest,
  kept_enter stop st e d n w k rest z kept has,
  refl,
)
outside_step stop st b rs d n c w k rest e z kept Close has at = leave_step stop st b rs d n w k rest e z.outer
    z.top.number z.top.sides z.top.parts z.groups kept has
outside_step stop st b rs d n c w k rest e z kept Dot has at = (
  rest,
  kept_leaf stop st e d n w k rest z kept Any refl refl (refl, has),
  refl,
)
outside_step stop st b rs d n c w k rest e z kept Caret has at = (
  rest,
  kept_leaf stop st e d n w k rest z kept Start refl refl (refl, has),
  refl,
)
outside_step stop st b rs d n c w k rest e z kept Dollar has at = (
  rest,
  kept_leaf stop st e d n w k rest z kept End refl refl (refl, has),
  refl,
)
outside_step stop st b rs d n c w k rest e z kept OpenClass has at = (k, kept, (refl, refl, has))
outside_step stop st b rs d n c w k rest e z kept Plain has at =
    let same : has.0 ≡ c = cc (has.1, at) in (
      rest,
      kept_leaf stop st e d n w k rest z kept (Lit c) refl refl
          (refl, inl (at, subst (λ (x : ℕ). sign_of stop x ≡ Plain) same has.2)),
      refl,
    )

close_step : (stop st : Option ℕ) (md : Mode) (b : Bool) (rs : List (ℕ × ℕ)) (d n : ℕ) (w k m rest : List ℕ) (e : Bool)
    (z : Stack) → Kept stop st e d z n w k → Inside stop b rs k m → ClassHas stop Closes m rest
    → Fine stop w rest (after_scan (reading_of (scanner_of st md b rs d e) z n)
    (close_class (scanner_of st md b rs d e)))
close_step stop st md b [] d n w k m rest e z kept inside has = tt
close_step stop st md b (r ∷ rs) d n w k m rest e z kept inside has = (
  rest,
  kept_leaf stop st e d n w k rest z kept (Class b (r ∷ rs)) refl refl
      (refl, (inside.0, m, inside.1, inside.2, has)),
  refl,
)

class_step : (stop st : Option ℕ) (md : Mode) (b : Bool) (rs : List (ℕ × ℕ)) (d n c : ℕ) (w k m rest : List ℕ)
    (e : Bool) (z : Stack) → Kept stop st e d z n w k → Inside stop b rs k m → (s : ClassSign)
    → class_sign_of stop c ≡ s → m ≡ c ∷ rest → (s ≡ Hat → first_now b rs ≡ false)
    → Fine stop w rest (after_scan (reading_of (scanner_of st md b rs d e) z n)
    (in_class (scanner_of st md b rs d e) s c))
class_step stop st md b rs d n c w k m rest e z kept inside Ends sg at f = tt
class_step stop st md b rs d n c w k m rest e z kept inside Escapes sg at f = (k, kept, (m, inside, (c, at, sg)))
class_step stop st md b rs d n c w k m rest e z kept inside Dash sg at f = tt
class_step stop st md b rs d n c w k m rest e z kept inside Closes sg at f = close_step stop st md b rs d n w k m rest e
    z kept inside (c, at, sg)
class_step stop st md b rs d n c w k m rest e z kept inside Hat sg at f =
    (k, kept, (m, inside, inl (at, rw (sg, f refl) refl)))
class_step stop st md b rs d n c w k m rest e z kept inside Member sg at f =
    (k, kept, (m, inside, inl (at, rw sg refl)))

opened_step : (stop st : Option ℕ) (d n c : ℕ) (w k m rest : List ℕ) (e : Bool) (z : Stack) → Kept stop st e d z n w k
    → Has stop OpenClass k m → (s : ClassSign) → class_sign_of stop c ≡ s → m ≡ c ∷ rest
    → Fine stop w rest (after_scan (reading_of (scanner_of st Opened false [] d e) z n)
    (after_bracket (scanner_of st Opened false [] d e) s c))
opened_step stop st d n c w k m rest e z kept has Hat sg at = (k, kept, (refl, (rest, (m, has, (c, at, sg)), refl)))
opened_step stop st d n c w k m rest e z kept has Ends sg at = tt
opened_step stop st d n c w k m rest e z kept has Escapes sg at = class_step stop st Opened false [] d n c w k m rest e
    z kept (m, has, refl) Escapes sg at (λ x. absurd cc)
opened_step stop st d n c w k m rest e z kept has Dash sg at = tt
opened_step stop st d n c w k m rest e z kept has Closes sg at = tt
opened_step stop st d n c w k m rest e z kept has Member sg at = class_step stop st Opened false [] d n c w k m rest e z
    kept (m, has, refl) Member sg at (λ x. absurd cc)

low_step : (stop st : Option ℕ) (b : Bool) (rs : List (ℕ × ℕ)) (a d n c : ℕ) (w k m l rest : List ℕ) (e : Bool)
    (z : Stack) → Kept stop st e d z n w k → Inside stop b rs k m → WritesMember stop (first_now b rs) a m l
    → (s : ClassSign) → class_sign_of stop c ≡ s → l ≡ c ∷ rest → Fine stop w rest
    (after_scan (reading_of (scanner_of st (Low a) b rs d e) z n) (after_low (scanner_of st (Low a) b rs d e) a s c))
low_step stop st b rs a d n c w k m l rest e z kept inside member s sg at = go s sg
  where
    more : Inside stop b (rs ++ (a, a) ∷ []) k l
    more = inside_snoc stop b rs (a, a) k m l inside (inl (member, refl))

    go : (s : ClassSign) → class_sign_of stop c ≡ s → Fine stop w rest
        (after_scan (reading_of (scanner_of st (Low a) b rs d e) z n)
        (after_low (scanner_of st (Low a) b rs d e) a s c))
    go Dash sg = (k, kept, (m, l, inside, member, (c, at, sg)))
    go Ends sg = tt
    go Escapes sg = class_step stop st (Low a) b (rs ++ (a, a) ∷ []) d n c w k l rest e z kept more Escapes sg at
        (λ x. later b rs (a, a))
    go Closes sg = class_step stop st (Low a) b (rs ++ (a, a) ∷ []) d n c w k l rest e z kept more Closes sg at
        (λ x. later b rs (a, a))
    go Hat sg = class_step stop st (Low a) b (rs ++ (a, a) ∷ []) d n c w k l rest e z kept more Hat sg at
        (λ x. later b rs (a, a))
    go Member sg = class_step stop st (Low a) b (rs ++ (a, a) ∷ []) d n c w k l rest e z kept more Member sg at
        (λ x. later b rs (a, a))

high_step : (stop st : Option ℕ) (md : Mode) (b : Bool) (rs : List (ℕ × ℕ)) (a x d n : ℕ) (w k m l o rest : List ℕ)
    (e : Bool) (z : Stack) → Kept stop st e d z n w k → Inside stop b rs k m → WritesMember stop (first_now b rs) a m l
    → ClassHas stop Dash l o → WritesMember stop false x o rest → Fine stop w rest
    (after_scan (reading_of (scanner_of st md b rs d e) z n) (high (scanner_of st md b rs d e) a x))
high_step stop st md b rs a x d n w k m l o rest e z kept inside member dash up =
    elim (nat_lt x a) as (λ t. nat_lt x a ≡ t → Fine stop w rest (after_scan
    (reading_of (scanner_of st md b rs d e) z n) (cond t None (within (with_range (scanner_of st md b rs d e) a x)
    Next)))) [
      | true ↦ λ t. tt
      | false ↦ λ t. (
        k,
        kept,
        (
          later b rs (a, x),
          inside_snoc stop b rs (a, x) k m rest inside
              (inr (l, o, member, dash, up, ltb-false x a t)),
        ),
      )
    ] refl

dash_step : (stop st : Option ℕ) (b : Bool) (rs : List (ℕ × ℕ)) (a d n c : ℕ) (w k m l o rest : List ℕ) (e : Bool)
    (z : Stack) → Kept stop st e d z n w k → Inside stop b rs k m → WritesMember stop (first_now b rs) a m l
    → ClassHas stop Dash l o → (s : ClassSign) → class_sign_of stop c ≡ s → o ≡ c ∷ rest
    → Fine stop w rest (after_scan (reading_of (scanner_of st (Upto a) b rs d e) z n)
    (after_dash (scanner_of st (Upto a) b rs d e) a s c))
dash_step stop st b rs a d n c w k m l o rest e z kept inside member dash Ends sg at = tt
dash_step stop st b rs a d n c w k m l o rest e z kept inside member dash Dash sg at = tt
dash_step stop st b rs a d n c w k m l o rest e z kept inside member dash Closes sg at = tt
dash_step stop st b rs a d n c w k m l o rest e z kept inside member dash Escapes sg at =
    (k, kept, (m, l, o, inside, member, dash, (c, at, sg)))
dash_step stop st b rs a d n c w k m l o rest e z kept inside member dash Hat sg at = high_step stop st (Upto a) b rs a
    c d n w k m l o rest e z kept inside member dash (inl (at, rw sg refl))
dash_step stop st b rs a d n c w k m l o rest e z kept inside member dash Member sg at = high_step stop st (Upto a) b rs
    a c d n w k m l o rest e z kept inside member dash (inl (at, rw sg refl))

step_in : (stop st : Option ℕ) (md : Mode) (b : Bool) (rs : List (ℕ × ℕ)) (d n c : ℕ) (w k rest : List ℕ) (e : Bool)
    (z : Stack) → Kept stop st e d z n w k → InMode stop md b rs k (c ∷ rest)
    → Fine stop w rest (after_scan (reading_of (scanner_of st md b rs d e) z n)
    (scan_in md (scanner_of st md b rs d e) c))
step_in stop st Outside b rs d n c w k rest e z kept x =
    outside_step stop st b rs d n c w k rest e z kept (sign_of st c)
    (c, x, ap (λ (o : Option ℕ). sign_of o c) (sym kept.same)) x
step_in stop st Escaped b rs d n c w k rest e z kept x =
    (rest, kept_leaf stop st e d n w k rest z kept (Lit (escaped c)) refl refl (refl, inr (c, x, refl)), refl)
step_in stop st Opened b rs d n c w k rest e z kept x =
    rw (x.0, x.1) (opened_step stop st d n c w k (c ∷ rest) rest e z kept x.2 (class_sign_of st c)
    (ap (λ (o : Option ℕ). class_sign_of o c) (sym kept.same)) refl)
step_in stop st Next b rs d n c w k rest e z kept x =
    class_step stop st Next b rs d n c w k (c ∷ rest) rest e z kept x.1 (class_sign_of st c)
    (ap (λ (o : Option ℕ). class_sign_of o c) (sym kept.same)) refl (λ y. x.0)
step_in stop st NextEscaped b rs d n c w k rest e z kept x =
    (k, kept, (x.0, x.1, inr (c, x.2, refl)))
step_in stop st (Low a) b rs d n c w k rest e z kept x =
    low_step stop st b rs a d n c w k x.0 (c ∷ rest) rest e z kept x.1 x.2 (class_sign_of st c)
    (ap (λ (o : Option ℕ). class_sign_of o c) (sym kept.same)) refl
step_in stop st (Upto a) b rs d n c w k rest e z kept x =
    dash_step stop st b rs a d n c w k x.0 x.1 (c ∷ rest) rest e z kept x.2 x.3 x.4 (class_sign_of st c)
    (ap (λ (o : Option ℕ). class_sign_of o c) (sym kept.same)) refl
step_in stop st (UptoEscaped a) b rs d n c w k rest e z kept x =
    high_step stop st (UptoEscaped a) b rs a (escaped c) d n w k x.0 x.1 x.2 rest e z kept x.3 x.4 x.5
    (inr (c, x.6, refl))

-- ---- all runes

pub reads_none : (u : List ℕ) → reads None u ≡ None
reads_none [] = refl
reads_none (c ∷ u) = reads_none u

built_all : (stop : Option ℕ) (u w : List ℕ) (m : Option Reading) → IfSome m (λ x. Built stop x w u)
    → IfSome (reads m u) (λ x. Built stop x w [])
built_all stop [] w m h = h
built_all stop (c ∷ u) w None h = built_all stop u w None tt
built_all stop (c ∷ u) w (Some m) h =
    built_all stop u w (read m c) (step_in stop m.scanner.stop m.scanner.mode m.scanner.negated m.scanner.spans
    m.scanner.depth m.size c w h.0 u m.scanner.expects m.stack h.1 h.2)

pub built_from : (stop : Option ℕ) (u : List ℕ) (m : Reading) → reads (Some (begin stop)) u ≡ Some m → Built stop m u []
built_from stop u m e =
    let start : Built stop (begin stop) u u = (
      u,
      record {
        same = refl;
        expects = refl;
        depth = refl;
        size = refl;
        tokens = (0, u, (refl, refl), (refl, refl));
      },
      refl,
    ) in
    rw e at (built_all stop u u (Some (begin stop)) start)

-- what is complete is an expression
pub record Whole (stop : Option ℕ) (u : List ℕ) (m : Reading) : Type 0 where
  pub result : Tree
  pub finished_is : level_tree m.stack.top ≡ Some result
  pub written : IsExpression stop u result
  pub nodes_are : nodes result + 1 ≡ m.size

both : (a b : Bool) → (a && b) ≡ true → (a ≡ true) × (b ≡ true)
both true b e = (refl, e)
both false b e = absurd cc

not_true : (e : Bool) → not e ≡ true → e ≡ false
not_true false h = refl
not_true true h = absurd cc

whole_of : (stop st : Option ℕ) (md : Mode) (b : Bool) (rs : List (ℕ × ℕ)) (d n : ℕ) (w k : List ℕ) (e : Bool)
    (outer : List Level) (number : ℕ) (ss ps : List Tree) (groups : ℕ)
    → Kept stop st e d (stack_at outer number ss ps groups) n w k → InMode stop md b rs k []
    → is_complete (scanner_of st md b rs d e) ≡ true → Whole stop w
    (reading_of (scanner_of st md b rs d e) (stack_at outer number ss ps groups) n)
whole_of stop st Outside b rs zero n w k false [] number ss (p ∷ ps) groups kept x h =
    record {
      result = choice (chain p ps) ss;
      finished_is = refl;
      written = (
        groups,
        level_writes stop ss p ps number 0 groups w []
            (subst (λ (l : List ℕ). Levels stop [] (record { number = number; sides = ss; parts = p ∷ ps }) w groups l) x
            kept.tokens),
      );
      nodes_are = omega (arith, level_nodes ss p ps, kept.size);
    }
whole_of stop st Outside b rs zero n w k false [] number ss [] groups kept x h = absurd (cc kept.expects)
whole_of stop st Outside b rs zero n w k false (l ∷ ls) number ss ps groups kept x h =
    absurd (omega (arith, kept.depth))
whole_of stop st Outside b rs (suc d) n w k false outer number ss ps groups kept x h = absurd (cc (suc_not_zero d, h))
whole_of stop st Outside b rs d n w k true outer number ss ps groups kept x h = absurd cc
whole_of stop st _ b rs d n w k e outer number ss ps groups kept x h = absurd cc

pub whole : (stop : Option ℕ) (u : List ℕ) (m : Reading) → reads (Some (begin stop)) u ≡ Some m
    → is_complete m.scanner ≡ true → Whole stop u m
whole stop u m e h =
    let built = built_from stop u m e in
    whole_of stop m.scanner.stop m.scanner.mode m.scanner.negated m.scanner.spans m.scanner.depth m.size u built.0
    m.scanner.expects m.stack.outer m.stack.top.number m.stack.top.sides m.stack.top.parts m.stack.groups built.1
    built.2 h
