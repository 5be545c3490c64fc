-- What reading answers.
use Rattle.std.proofs.Common.{◌≡◌, ℕ, ◌+◌, ◌-◌, ◌<◌, ◌≤◌, ◌==◌, ◌&&◌, ◌||◌, Bool, true, false, not, List, [], ◌∷◌, ◌++◌}
use Rattle.std.proofs.Common.{length, get_or, drop, Option, Some, None, refl, sym, ap, subst, ◌∙◌, inl, inr, arith}
use Rattle.std.specs.Prelude.{IfSome, nat_lt, slice_range}
use Rattle.std.proofs.lemmas.List.{take_more, get_or-drop, length-drop}
use Rattle.re_syntax.specs.Tree.{Tree, tree, nodes}
use Rattle.re_syntax.specs.Signs.{is_stop, sign_of, class_sign_of}
use Rattle.re_syntax.specs.Grammar.{IsExpression, GoesOn, MayEnd}
use Rattle.re_syntax.specs.Answer.{IsRead, IsBad, Refuses}
use Rattle.re_syntax.specs.Scan.{Scanned, outside, in_class, after_bracket, after_low, after_dash, high, scan_in, scan}
use Rattle.re_syntax.specs.Build.{Stack, level_tree}
use Rattle.re_syntax.specs.Read.{Reading, begin, after_scan, read, reads, is_outside, is_escaped, is_complete, Follows}
use Rattle.re_syntax.specs.Read.{Finishes, FinishFails}
use Rattle.re_syntax.specs.declared.re.Re.{Re}
use Rattle.re_syntax.specs.declared.re.ReFault.{ReFault}
use Rattle.re_syntax.specs.declared.re.ReFault.TheVariants.{Bad, Nodes, NoMemory}
use Rattle.re_syntax.specs.declared.sign.Sign.{Sign}
use Rattle.re_syntax.specs.declared.sign.Sign.TheVariants.{Stop, Lone, Escape, Bar, Repeats, Open, Close, Dot, Caret}
use Rattle.re_syntax.specs.declared.sign.Sign.TheVariants.{Dollar, OpenClass, Plain}
use Rattle.re_syntax.specs.declared.sign.ClassSign.{ClassSign}
use Rattle.re_syntax.specs.declared.sign.ClassSign.TheVariants.{Ends, Escapes, Dash, Closes, Hat, Member}
use Rattle.re_syntax.specs.declared.scanner.Mode.{Mode}
use Rattle.re_syntax.specs.declared.scanner.Mode.TheVariants.{Outside, Escaped, Opened, Next, NextEscaped, Low, Upto}
use Rattle.re_syntax.specs.declared.scanner.Mode.TheVariants.{UptoEscaped}
use Rattle.re_syntax.specs.declared.scanner.Scanner.{Scanner}
use Rattle.re_syntax.specs.declared.parser.Parser.{Parser}
use Rattle.re_syntax.proofs.Sound.{reads_none, built_from, whole}
use Rattle.re_syntax.proofs.Complete.{complete_read}
use Rattle.re_syntax.proofs.Live.{reads_append, goes_on}

-- ---- slices

pub slice_none : (xs : List ℕ) (i : ℕ) → slice_range xs i i ≡ []
slice_none xs i = let e : i - i ≡ 0 = omega arith in rw e refl

pub slice_more : (xs : List ℕ) (i j : ℕ) → i ≤ j → j < length xs → slice_range xs i (j + 1) ≡ slice_range xs i j
    ++ get_or xs j 0 ∷ []
slice_more xs i j l m =
    let e : (j + 1) - i ≡ (j - i) + 1 = omega arith in
    let f : i + (j - i) ≡ j = omega arith in
    rw (e, take_more (drop i xs) (j - i) 0 (omega (arith, length-drop i xs)), get_or-drop i xs (j - i) 0, f) refl

-- ---- the depth rises by one at most

abbrev Near : ℕ → Scanned → Type 0
Near d o = IfSome o (λ p. p.0.depth ≤ d + 1)

class_near : (s : Scanner) (k : ClassSign) (c : ℕ) → Near s.depth (in_class s k c)
class_near s Ends c = tt
class_near s Escapes c = omega arith
class_near s Dash c = tt
class_near s Closes c = closed s.spans refl
  where
    closed : (rs : List (ℕ × ℕ)) → s.spans ≡ rs → Near s.depth (in_class s Closes c)
    closed [] e = rw e tt
    closed (r ∷ rs) e = rw e (omega arith)
class_near s Hat c = omega arith
class_near s Member c = omega arith

high_near : (s : Scanner) (a b : ℕ) → Near s.depth (high s a b)
high_near s a b = go (nat_lt b a) refl
  where
    go : (t : Bool) → nat_lt b a ≡ t → Near s.depth (high s a b)
    go true e = rw e tt
    go false e = rw e (omega arith)

outside_near : (s : Scanner) (k : Sign) (c : ℕ) → Near s.depth (outside s k c)
outside_near s Stop c = tt
outside_near s Lone c = tt
outside_near s Escape c = omega arith
outside_near s Bar c = go s.expects refl
  where
    go : (t : Bool) → s.expects ≡ t → Near s.depth (outside s Bar c)
    go true e = rw e tt
    go false e = rw e (omega arith)
outside_near s (Repeats r) c = go s.expects refl
  where
    go : (t : Bool) → s.expects ≡ t → Near s.depth (outside s (Repeats r) c)
    go true e = rw e tt
    go false e = rw e (omega arith)
outside_near s Open c = omega arith
outside_near s Close c = go (s.expects || (s.depth == 0)) refl
  where
    go : (t : Bool) → (s.expects || (s.depth == 0)) ≡ t → Near s.depth (outside s Close c)
    go true e = rw e tt
    go false e = rw e (omega arith)
outside_near s Dot c = omega arith
outside_near s Caret c = omega arith
outside_near s Dollar c = omega arith
outside_near s OpenClass c = omega arith
outside_near s Plain c = omega arith

opened_near : (s : Scanner) (k : ClassSign) (c : ℕ) → Near s.depth (after_bracket s k c)
opened_near s Ends c = tt
opened_near s Escapes c = omega arith
opened_near s Dash c = tt
opened_near s Closes c = class_near s Closes c
opened_near s Hat c = omega arith
opened_near s Member c = omega arith

low_near : (s : Scanner) (a : ℕ) (k : ClassSign) (c : ℕ) → Near s.depth (after_low s a k c)
low_near s a Ends c = tt
low_near s a Escapes c = omega arith
low_near s a Dash c = omega arith
low_near s a Closes c = class_near (record s { spans = s.spans ++ (a, a) ∷ [] }) Closes c
low_near s a Hat c = omega arith
low_near s a Member c = omega arith

dash_near : (s : Scanner) (a : ℕ) (k : ClassSign) (c : ℕ) → Near s.depth (after_dash s a k c)
dash_near s a Ends c = tt
dash_near s a Escapes c = omega arith
dash_near s a Dash c = tt
dash_near s a Closes c = tt
dash_near s a Hat c = high_near s a c
dash_near s a Member c = high_near s a c

scan_near : (md : Mode) (s : Scanner) (c : ℕ) → Near s.depth (scan_in md s c)
scan_near Outside s c = outside_near s (sign_of s.stop c) c
scan_near Escaped s c = omega arith
scan_near Opened s c = opened_near s (class_sign_of s.stop c) c
scan_near Next s c = class_near s (class_sign_of s.stop c) c
scan_near NextEscaped s c = omega arith
scan_near (Low a) s c = low_near s a (class_sign_of s.stop c) c
scan_near (Upto a) s c = dash_near s a (class_sign_of s.stop c) c
scan_near (UptoEscaped a) s c = high_near s a _

taken_near : (m : Reading) (o : Scanned) → Near m.scanner.depth o → IfSome (after_scan m o)
    (λ n. n.scanner.depth ≤ m.scanner.depth + 1)
taken_near m None h = tt
taken_near m (Some (s, None)) h = h
taken_near m (Some (s, Some t)) h = h

pub read_near : (m n : Reading) (c : ℕ) → read m c ≡ Some n → n.scanner.depth ≤ m.scanner.depth + 1
read_near m n c e = rw e at (taken_near m (scan m.scanner c) (scan_near m.scanner.mode m.scanner c))

-- ---- the delimiter

ends_none : (st : Option ℕ) (c : ℕ) → is_stop st c ≡ true → class_sign_of st c ≡ Ends
unfolding class_sign_of
ends_none st c e = rw e refl

stop_is : (st : Option ℕ) (c : ℕ) → is_stop st c ≡ true → sign_of st c ≡ Stop
unfolding sign_of
stop_is st c e = rw e refl

stop_in : (md : Mode) (s : Scanner) (c : ℕ) → is_escaped md ≡ false → is_stop s.stop c ≡ true → scan_in md s c ≡ None
stop_in Outside s c f e = ap (λ (k : Sign). outside s k c) (stop_is s.stop c e)
stop_in Escaped s c f e = absurd cc
stop_in Opened s c f e = ap (λ (k : ClassSign). after_bracket s k c) (ends_none s.stop c e)
stop_in Next s c f e = ap (λ (k : ClassSign). in_class s k c) (ends_none s.stop c e)
stop_in NextEscaped s c f e = absurd cc
stop_in (Low a) s c f e = ap (λ (k : ClassSign). after_low s a k c) (ends_none s.stop c e)
stop_in (Upto a) s c f e = ap (λ (k : ClassSign). after_dash s a k c) (ends_none s.stop c e)
stop_in (UptoEscaped a) s c f e = absurd cc

pub stop_read : (m : Reading) (c : ℕ) → is_escaped m.scanner.mode ≡ false → is_stop m.scanner.stop c ≡ true → read m
    c ≡ None
stop_read m c f e = ap (after_scan m) (stop_in m.scanner.mode m.scanner c f e)

both : (a b : Bool) → (a && b) ≡ true → (a ≡ true) × (b ≡ true)
both true b e = (refl, e)
both false b e = absurd cc

outside_not_escaped : (md : Mode) → is_outside md ≡ true → is_escaped md ≡ false
outside_not_escaped Outside h = refl
outside_not_escaped _ h = absurd cc

not_escaped : (s : Scanner) → is_complete s ≡ true → is_escaped s.mode ≡ false
not_escaped s h = outside_not_escaped s.mode (both (is_outside s.mode) (not s.expects)
    (both (is_outside s.mode && not s.expects) (s.depth == 0) h).0).0

-- ---- the answers

module _ (stop : Option ℕ) (text : List ℕ) (from here : ℕ) (m : Reading) (order : from ≤ here)
    (within : here ≤ length text) (e : reads (Some (begin stop)) (slice_range text from here) ≡ Some m) where
  -- an expression that ends here was read whole
  known : (r : Tree) → IsExpression stop (slice_range text from here) r → (is_complete m.scanner ≡ true)
      × (level_tree m.stack.top ≡ Some r)
  known r x =
      let c = complete_read stop (slice_range text from here) r x in
      let same : c.reading ≡ m = cc (c.reads_to, e) in (
        subst (λ (n : Reading). is_complete n.scanner ≡ true) same c.complete,
        subst (λ (n : Reading). level_tree n.stack.top ≡ Some r) same c.finished_is,
      )

  -- no expression goes on by a rune that is refused
  none_goes_on : here < length text → read m (get_or text here 0) ≡ None → GoesOn stop
      (slice_range text from (here + 1)) → ⊥
  none_goes_on l none x =
      let c = complete_read stop (slice_range text from (here + 1) ++ x.0) x.1 x.2 in
      let refused : reads (Some (begin stop)) (slice_range text from (here + 1)) ≡ None =
      ap (reads (Some (begin stop))) (slice_more text from here order l)
      ∙ (reads_append (slice_range text from here) (get_or text here 0 ∷ []) (Some (begin stop))
      ∙ (ap (λ (o : Option Reading). reads o (get_or text here 0 ∷ [])) e ∙ none))
      in
      let all : reads (Some (begin stop)) (slice_range text from (here + 1) ++ x.0) ≡ None =
      reads_append (slice_range text from (here + 1)) x.0 (Some (begin stop))
      ∙ (ap (λ (o : Option Reading). reads o x.0) refused ∙ reads_none x.0)
      in
      let both_are : Some c.reading ≡ None = sym c.reads_to ∙ all in
      absurd cc

  pub refused_here : here < length text → read m (get_or text here 0) ≡ None →
      (is_stop stop (get_or text here 0) ≡ true → is_escaped m.scanner.mode ≡ true) → IsBad stop text from here
  refused_here l none f = record {
    order = order;
    within = within;
    before = goes_on stop (slice_range text from here) m e;
    after = λ k. none_goes_on l none;
    short = λ may r x. elim may [
      | inl end ↦ absurd (omega (arith, end, l))
      | inr s ↦
          let plain : is_escaped m.scanner.mode ≡ false = not_escaped m.scanner (known r x).0 in
          let behind : is_escaped m.scanner.mode ≡ true = f s.1 in
          absurd (cc (plain, behind))
    ];
  }

  pub stop_here : (p : Parser) → Follows p m → false ≡ is_escaped p.scanner.mode
      → true ≡ is_stop stop (get_or text here 0) → read m (get_or text here 0) ≡ None
  stop_here p follows f s =
      let same : m.scanner.stop ≡ stop = (built_from stop (slice_range text from here) m e).1.same in
      stop_read m (get_or text here 0) (subst (λ (x : Scanner). is_escaped x.mode ≡ false) follows.scanner (sym f))
      (subst (λ (x : Option ℕ). is_stop x (get_or text here 0) ≡ true) (sym same) (sym s))

  -- an escaped delimiter
  pub behind_here : (p : Parser) → Follows p m → true ≡ is_escaped p.scanner.mode → is_escaped m.scanner.mode ≡ true
  behind_here p follows f = subst (λ (x : Scanner). is_escaped x.mode ≡ true) follows.scanner (sym f)

  module _ (may : MayEnd stop text here) (p : Parser) (follows : Follows p m) where
    pub finished_here : (re : Re) (end : ℕ) → Finishes p here re end → IsRead stop text from end (tree re)
        × (nodes (tree re) ≤ 2048)
    finished_here re end f =
        let complete : is_complete m.scanner ≡ true = subst (λ (s : Scanner). is_complete s ≡ true) follows.scanner
        f.complete in
        let w = whole stop (slice_range text from here) m e complete in
        let small = follows.small f.small in
        let built : level_tree m.stack.top ≡ Some (tree re) = subst (λ (z : Stack). level_tree z.top ≡ Some (tree re))
        small.1 f.tree_is in
        let same : Some w.result ≡ Some (tree re) = sym w.finished_is ∙ built in
        let is : w.result ≡ tree re = cc same in (
          subst (λ (k : ℕ). IsRead stop text from k (tree re)) (sym f.here) (record {
            order = order;
            written = subst (λ (r : Tree). IsExpression stop (slice_range text from here) r) is w.written;
            ends = may;
          }),
          subst (λ (r : Tree). nodes r ≤ 2048) is (omega (arith, w.nodes_are, small.0, f.small)),
        )

    pub fails_here : (here < length text → read m (get_or text here 0) ≡ None) → (fault : ReFault)
        → FinishFails p here fault → Refuses stop text from fault
    fails_here none (Bad place) f =
        let bad : IsBad stop text from here = record {
          order = order;
          within = within;
          before = goes_on stop (slice_range text from here) m e;
          after = λ l. none_goes_on l (none l);
          short = λ may r x.
              let k = known r x in
              elim f.1 [
                | inl incomplete ↦
                    let there : is_complete m.scanner ≡ false = subst (λ (s : Scanner). is_complete s ≡ false)
                    follows.scanner incomplete in
                    absurd (cc (there, k.0))
                | inr nothing ↦
                    let there : level_tree m.stack.top ≡ None = subst (λ (z : Stack). level_tree z.top ≡ None)
                    (follows.small nothing.0).1 nothing.1 in
                    let clash : Some r ≡ None = sym k.1 ∙ there in
                    absurd cc
              ];
        } in
        subst (λ (k : ℕ). IsBad stop text from k) (sym f.0) bad
    fails_here none Nodes f =
        let complete : is_complete m.scanner ≡ true = subst (λ (s : Scanner). is_complete s ≡ true) follows.scanner
        f.0 in
        let w = whole stop (slice_range text from here) m e complete in (
          here,
          w.result,
          record { order = order; written = w.written; ends = may },
          omega (arith, w.nodes_are, follows.large f.1),
        )
    fails_here none NoMemory f = tt

-- the reading after a rune that was read
pub more_here : (stop : Option ℕ) (text : List ℕ) (from here : ℕ) (m n : Reading) → from ≤ here → here < length text
    → reads (Some (begin stop)) (slice_range text from here) ≡ Some m → read m (get_or text here 0) ≡ Some n
    → reads (Some (begin stop)) (slice_range text from (here + 1)) ≡ Some n
more_here stop text from here m n order l e f =
    ap (reads (Some (begin stop))) (slice_more text from here order l)
    ∙ (reads_append (slice_range text from here) (get_or text here 0 ∷ []) (Some (begin stop))
    ∙ (ap (λ (o : Option Reading). reads o (get_or text here 0 ∷ [])) e ∙ f))
