-- What is read so far can always become an expression.
use Rattle.std.proofs.Common.{◌≡◌, ℕ, zero, suc, ◌+◌, ◌-◌, ◌<◌, ◌≤◌, ◌==◌, Bool, true, false, cond, List, [], ◌∷◌, ◌++◌}
use Rattle.std.proofs.Common.{length, Option, Some, None, refl, sym, ap, subst, ◌∙◌, arith}
use Rattle.std.proofs.lemmas.Bool.{le-ltb, eqb-true}
use Rattle.std.proofs.lemmas.Bool.Decides.{nat_tests}
use Rattle.re_syntax.specs.Signs.{is_stop, bracket, sign_of, class_sign_of, escaped}
use Rattle.re_syntax.specs.Grammar.{OpensClass, GoesOn}
use Rattle.re_syntax.specs.Scan.{outside, in_class, after_bracket, after_low, high, after_dash}
use Rattle.re_syntax.specs.Build.{Level, Stack, after_token}
use Rattle.re_syntax.specs.Read.{Reading, begin, after_scan, read, read_on, reads, is_complete}
use Rattle.re_syntax.specs.declared.sign.Repeat.TheVariants.{Star, Plus, Opt}
use Rattle.re_syntax.specs.declared.sign.Sign.{Sign}
use Rattle.re_syntax.specs.declared.sign.Sign.TheVariants.{Stop, Escape, Bar, Repeats, Open, Close, Dot, Caret, Dollar}
use Rattle.re_syntax.specs.declared.sign.Sign.TheVariants.{OpenClass, Plain}
use Rattle.re_syntax.specs.declared.sign.ClassSign.{ClassSign}
use Rattle.re_syntax.specs.declared.sign.ClassSign.TheVariants.{Closes, Member}
use Rattle.re_syntax.specs.declared.scanner.Mode.{Mode}
use Rattle.re_syntax.specs.declared.scanner.Mode.TheVariants.{Outside, Escaped, Opened, Next, NextEscaped, Low, Upto}
use Rattle.re_syntax.specs.declared.scanner.Mode.TheVariants.{UptoEscaped}
use Rattle.re_syntax.specs.declared.scanner.Scanner.{Scanner}
use Rattle.re_syntax.specs.declared.scanner.Token.TheVariants.{Leave}
use Rattle.re_syntax.proofs.Written.{Levels}
use Rattle.re_syntax.proofs.Sound.{Built, InMode, Inside, built_from, suc_not_zero, whole}

-- ---- signs

other : (c k : ℕ) → k < c → (c == k) ≡ false
other c k l = grind (arith, nat_tests)

plain_above : (stop : Option ℕ) (c : ℕ) → 125 ≤ c → is_stop stop c ≡ false → sign_of stop c ≡ Plain
unfolding sign_of
plain_above stop c l e =
    rw (
      e,
      other c 92 (omega arith),
      other c 124 (omega arith),
      other c 42 (omega arith),
      other c 43 (omega arith),
      other c 63 (omega arith),
      other c 40 (omega arith),
      other c 41 (omega arith),
      other c 46 (omega arith),
      other c 94 (omega arith),
      other c 36 (omega arith),
      other c 91 (omega arith),
    ) refl

member_above : (stop : Option ℕ) (c : ℕ) → 125 ≤ c → is_stop stop c ≡ false → class_sign_of stop c ≡ Member
unfolding class_sign_of
member_above stop c l e =
    rw (e, other c 92 (omega arith), other c 45 (omega arith), other c 93 (omega arith), other c 94 (omega arith)) refl

-- a rune above that stands for itself
record Free (stop : Option ℕ) (a : ℕ) : Type 0 where
  rune : ℕ
  above : a ≤ rune
  plain : sign_of stop rune ≡ Plain
  member : class_sign_of stop rune ≡ Member
  itself : escaped rune ≡ rune

free_at : (stop : Option ℕ) (a c : ℕ) → a + 125 ≤ c → is_stop stop c ≡ false → Free stop a
free_at stop a c l e = record {
  rune = c;
  above = omega arith;
  plain = plain_above stop c (omega arith) e;
  member = member_above stop c (omega arith) e;
  itself = rw (other c 110 (omega arith)) refl;
}

not_next : (s a : ℕ) → (s == a + 125) ≡ true → (s == a + 126) ≡ false
not_next s a e = let same : s ≡ a + 125 = eqb-true s (a + 125) e in grind (arith, nat_tests)

free : (stop : Option ℕ) (a : ℕ) → Free stop a
free None a = free_at None a (a + 125) (omega arith) refl
free (Some s) a =
    elim (s == a + 125) as (λ t. (s == a + 125) ≡ t → Free (Some s) a) [
      | true ↦ λ e. free_at (Some s) a (a + 126) (omega arith) (not_next s a e)
      | false ↦ λ e. free_at (Some s) a (a + 125) (omega arith) e
    ] refl

closes_is : (stop : Option ℕ) → is_stop stop 93 ≡ false → class_sign_of stop 93 ≡ Closes
unfolding class_sign_of
closes_is stop e = rw e refl

close_is : (stop : Option ℕ) → is_stop stop 41 ≡ false → sign_of stop 41 ≡ Close
unfolding sign_of
close_is stop e = rw e refl

abbrev pick : Bool → Bool → Bool → Bool → Bool → Bool → Bool → Bool → Bool → Bool → Bool → Bool → Bool → Bool → Sign
pick a b c d e f g h i j k l lone alone =
    cond a Stop (cond b Escape (cond c Bar (cond d (Repeats Star) (cond e (Repeats Plus)
    (cond f (Repeats Opt) (cond g (bracket Open lone) (cond h Close
    (cond i Dot (cond j Caret (cond k Dollar (cond l (bracket OpenClass alone) Plain)))))))))))

open_pick : (a b c d e f g h i j k l lone alone : Bool) → pick a b c d e f g h i j k l lone alone ≡ Open → lone ≡ false
open_pick true b c d e f g h i j k l lone alone x = absurd cc
open_pick false true c d e f g h i j k l lone alone x = absurd cc
open_pick false false true d e f g h i j k l lone alone x = absurd cc
open_pick false false false true e f g h i j k l lone alone x = absurd cc
open_pick false false false false true f g h i j k l lone alone x = absurd cc
open_pick false false false false false true g h i j k l lone alone x = absurd cc
open_pick false false false false false false true h i j k l true alone x = absurd cc
open_pick false false false false false false true h i j k l false alone x = refl
open_pick false false false false false false false true i j k l lone alone x = absurd cc
open_pick false false false false false false false false true j k l lone alone x = absurd cc
open_pick false false false false false false false false false true k l lone alone x = absurd cc
open_pick false false false false false false false false false false true l lone alone x = absurd cc
open_pick false false false false false false false false false false false true lone true x = absurd cc
open_pick false false false false false false false false false false false true lone false x = absurd cc
open_pick false false false false false false false false false false false false lone alone x = absurd cc

class_pick : (a b c d e f g h i j k l lone alone : Bool) → pick a b c d e f g h i j k l lone alone ≡ OpenClass →
    alone ≡ false
class_pick true b c d e f g h i j k l lone alone x = absurd cc
class_pick false true c d e f g h i j k l lone alone x = absurd cc
class_pick false false true d e f g h i j k l lone alone x = absurd cc
class_pick false false false true e f g h i j k l lone alone x = absurd cc
class_pick false false false false true f g h i j k l lone alone x = absurd cc
class_pick false false false false false true g h i j k l lone alone x = absurd cc
class_pick false false false false false false true h i j k l true alone x = absurd cc
class_pick false false false false false false true h i j k l false alone x = absurd cc
class_pick false false false false false false false true i j k l lone alone x = absurd cc
class_pick false false false false false false false false true j k l lone alone x = absurd cc
class_pick false false false false false false false false false true k l lone alone x = absurd cc
class_pick false false false false false false false false false false true l lone alone x = absurd cc
class_pick false false false false false false false false false false false true lone true x = absurd cc
class_pick false false false false false false false false false false false true lone false x = refl
class_pick false false false false false false false false false false false false lone alone x = absurd cc

open_free : (stop : Option ℕ) (c : ℕ) → sign_of stop c ≡ Open → is_stop stop 41 ≡ false
unfolding sign_of
open_free stop c x = open_pick (is_stop stop c) (c == 92) (c == 124) (c == 42) (c == 43) (c == 63) (c == 40) (c == 41)
    (c == 46) (c == 94) (c == 36) (c == 91) (is_stop stop 41) (is_stop stop 93) x

class_free : (stop : Option ℕ) (c : ℕ) → sign_of stop c ≡ OpenClass → is_stop stop 93 ≡ false
unfolding sign_of
class_free stop c x = class_pick (is_stop stop c) (c == 92) (c == 124) (c == 42) (c == 43) (c == 63) (c == 40) (c == 41)
    (c == 46) (c == 94) (c == 36) (c == 91) (is_stop stop 41) (is_stop stop 93) x

-- ---- to the end of what is open

abbrev scanner_of : Option ℕ → Mode → Bool → List (ℕ × ℕ) → ℕ → Bool → Scanner
scanner_of st md b rs d e = record { stop = st; mode = md; negated = b; spans = rs; depth = d; expects = e }

abbrev with_scanner : Stack → ℕ → Scanner → Reading
with_scanner z n s = record { scanner = s; stack = z; size = n }

abbrev at : Option ℕ → Bool → List (ℕ × ℕ) → ℕ → Stack → ℕ → Reading
at stop b rs d z n = with_scanner z n (scanner_of stop Outside b rs d false)

-- some text leads to where a part is read
record Arrives (stop : Option ℕ) (m : Reading) (d : ℕ) : Type 0 where
  text : List ℕ
  negated : Bool
  spans : List (ℕ × ℕ)
  stack : Stack
  size : ℕ
  leads : reads (Some m) text ≡ Some (at stop negated spans d stack size)

-- one rune first
then_arrives : (stop : Option ℕ) (m n : Reading) (d c : ℕ) → read m c ≡ Some n → Arrives stop n d → Arrives stop m d
then_arrives stop m n d c e x = record {
  text = c ∷ x.text;
  negated = x.negated;
  spans = x.spans;
  stack = x.stack;
  size = x.size;
  leads = ap (λ (o : Option Reading). reads o x.text) e ∙ x.leads;
}

module _ (stop : Option ℕ) (b : Bool) (d : ℕ) (e : Bool) (z : Stack) (n : ℕ) where
  abbrev inside : Mode → List (ℕ × ℕ) → Reading
  inside md rs = with_scanner z n (scanner_of stop md b rs d e)

  low_ends : is_stop stop 93 ≡ false → (rs : List (ℕ × ℕ)) (a : ℕ) → Arrives stop (inside (Low a) rs) d
  low_ends f [] a = record {
    text = 93 ∷ [];
    negated = b;
    spans = [];
    stack = _;
    size = _;
    leads = ap (λ (s : ClassSign). after_scan (inside (Low a) []) (after_low (scanner_of stop (Low a) b [] d e) a s 93))
        (closes_is stop f);
  }
  low_ends f (r ∷ rs) a = record {
    text = 93 ∷ [];
    negated = b;
    spans = [];
    stack = _;
    size = _;
    leads = ap (λ (s : ClassSign). after_scan (inside (Low a) (r ∷ rs))
        (after_low (scanner_of stop (Low a) b (r ∷ rs) d e) a s 93)) (closes_is stop f);
  }

  next_ends : is_stop stop 93 ≡ false → (rs : List (ℕ × ℕ)) → Arrives stop (inside Next rs) d
  next_ends f rs =
      let c = free stop 0 in
      then_arrives stop (inside Next rs) (inside (Low c.rune) rs) d c.rune
      (ap (λ (s : ClassSign). after_scan (inside Next rs) (in_class (scanner_of stop Next b rs d e) s c.rune))
      c.member) (low_ends f rs c.rune)

  high_is : (md : Mode) (rs : List (ℕ × ℕ)) (a x : ℕ) → a ≤ x → high (scanner_of stop md b rs d e) a
      x ≡ Some (scanner_of stop Next b (rs ++ (a, x) ∷ []) d e, None)
  high_is md rs a x le = rw (le-ltb x a le) refl

  upto_ends : is_stop stop 93 ≡ false → (rs : List (ℕ × ℕ)) (a : ℕ) → Arrives stop (inside (Upto a) rs) d
  upto_ends f rs a =
      let c = free stop a in
      then_arrives stop (inside (Upto a) rs) (inside Next (rs ++ (a, c.rune) ∷ [])) d c.rune
      (ap (λ (s : ClassSign). after_scan (inside (Upto a) rs) (after_dash (scanner_of stop (Upto a) b rs d e) a s
      c.rune)) c.member ∙ ap (after_scan (inside (Upto a) rs)) (high_is (Upto a) rs a c.rune c.above))
      (next_ends f (rs ++ (a, c.rune) ∷ []))

  upto_escaped_ends : is_stop stop 93 ≡ false → (rs : List (ℕ × ℕ)) (a : ℕ) → Arrives stop (inside (UptoEscaped a) rs) d
  upto_escaped_ends f rs a =
      let c = free stop a in
      then_arrives stop (inside (UptoEscaped a) rs) (inside Next (rs ++ (a, c.rune) ∷ [])) d c.rune
      (ap (λ (x : ℕ). after_scan (inside (UptoEscaped a) rs) (high (scanner_of stop (UptoEscaped a) b rs d e) a x))
      c.itself ∙ ap (after_scan (inside (UptoEscaped a) rs)) (high_is (UptoEscaped a) rs a c.rune c.above))
      (next_ends f (rs ++ (a, c.rune) ∷ []))

  opened_ends : is_stop stop 93 ≡ false → (rs : List (ℕ × ℕ)) → Arrives stop (inside Opened rs) d
  opened_ends f rs =
      let c = free stop 0 in
      then_arrives stop (inside Opened rs) (inside (Low c.rune) rs) d c.rune
      (ap (λ (s : ClassSign). after_scan (inside Opened rs) (after_bracket (scanner_of stop Opened b rs d e) s
      c.rune)) c.member) (low_ends f rs c.rune)

  escaped_ends : (rs : List (ℕ × ℕ)) → Arrives stop (inside Escaped rs) d
  escaped_ends rs = record { text = 97 ∷ []; negated = b; spans = rs; stack = _; size = _; leads = refl }

  next_escaped_ends : is_stop stop 93 ≡ false → (rs : List (ℕ × ℕ)) → Arrives stop (inside NextEscaped rs) d
  next_escaped_ends f rs = then_arrives stop (inside NextEscaped rs) (inside (Low 97) rs) d 97 refl (low_ends f rs 97)

outside_ends : (stop : Option ℕ) (b : Bool) (rs : List (ℕ × ℕ)) (d : ℕ) (e : Bool) (z : Stack) (n : ℕ)
    → Arrives stop (with_scanner z n (scanner_of stop Outside b rs d e)) d
outside_ends stop b rs d false z n = record { text = []; negated = b; spans = rs; stack = z; size = n; leads = refl }
outside_ends stop b rs d true z n =
    let c = free stop 0 in
    record {
      text = c.rune ∷ [];
      negated = b;
      spans = rs;
      stack = _;
      size = _;
      leads = ap (λ (s : Sign). after_scan (with_scanner z n (scanner_of stop Outside b rs d true))
          (outside (scanner_of stop Outside b rs d true) s c.rune)) c.plain;
    }

opens_free : (stop : Option ℕ) (b : Bool) (k m : List ℕ) → OpensClass stop b k m → is_stop stop 93 ≡ false
opens_free stop false k m x = class_free stop x.0 x.2
opens_free stop true k m x = class_free stop x.1.0 x.1.2

inside_free : (stop : Option ℕ) (b : Bool) (rs : List (ℕ × ℕ)) (k m : List ℕ) → Inside stop b rs k m
    → is_stop stop 93 ≡ false
inside_free stop b rs k m x = opens_free stop b k x.0 x.1

mode_ends : (stop : Option ℕ) (md : Mode) (b : Bool) (rs : List (ℕ × ℕ)) (d : ℕ) (e : Bool) (z : Stack) (n : ℕ)
    (k rest : List ℕ) → InMode stop md b rs k rest → Arrives stop (with_scanner z n (scanner_of stop md b rs d e)) d
mode_ends stop Outside b rs d e z n k rest x = outside_ends stop b rs d e z n
mode_ends stop Escaped b rs d e z n k rest x = escaped_ends stop b d e z n rs
mode_ends stop Opened b rs d e z n k rest x = opened_ends stop b d e z n (class_free stop x.2.0 x.2.2) rs
mode_ends stop Next b rs d e z n k rest x = next_ends stop b d e z n (inside_free stop b rs k rest x.1) rs
mode_ends stop NextEscaped b rs d e z n k rest x = next_escaped_ends stop b d e z n (inside_free stop b rs k x.0 x.1) rs
mode_ends stop (Low a) b rs d e z n k rest x = low_ends stop b d e z n (inside_free stop b rs k x.0 x.1) rs a
mode_ends stop (Upto a) b rs d e z n k rest x = upto_ends stop b d e z n (inside_free stop b rs k x.0 x.2) rs a
mode_ends stop (UptoEscaped a) b rs d e z n k rest x = upto_escaped_ends stop b d e z n
    (inside_free stop b rs k x.0 x.3) rs a

-- ---- the groups

record Closing (m : Reading) : Type 0 where
  text : List ℕ
  last : Reading
  leads : reads (Some m) text ≡ Some last
  complete : is_complete last.scanner ≡ true

then_ends : (m n : Reading) (c : ℕ) → read m c ≡ Some n → Closing n → Closing m
then_ends m n c e x = record {
  text = c ∷ x.text;
  last = x.last;
  leads = ap (λ (o : Option Reading). reads o x.text) e
      ∙ x.leads;
  complete = x.complete;
}

groups_end : (stop : Option ℕ) (d : ℕ) (b : Bool) (rs : List (ℕ × ℕ)) (z : Stack) (n : ℕ)
    → (0 < d → is_stop stop 41 ≡ false) → Closing (at stop b rs d z n)
groups_end stop zero b rs z n f = record { text = []; last = at stop b rs 0 z n; leads = refl; complete = refl }
groups_end stop (suc d) b rs z n f =
    let s = scanner_of stop Outside b rs (suc d) false in
    let m = at stop b rs (suc d) z n in
    let back : suc d - 1 ≡ d = omega arith in
    let e : after_scan m (outside s Close 41) ≡ Some (at stop b rs d (after_token z Leave) (n + 0)) =
    rw (suc_not_zero d, back) refl in
    then_ends m (at stop b rs d (after_token z Leave) (n + 0)) 41
    (ap (λ (x : Sign). after_scan m (outside s x 41)) (close_is stop (f (omega arith))) ∙ e)
    (groups_end stop d b rs (after_token z Leave) (n + 0) (λ l. f (omega arith)))

pub reads_append : (u v : List ℕ) (m : Option Reading) → reads m (u ++ v) ≡ reads (reads m u) v
reads_append [] v m = refl
reads_append (c ∷ u) v m = reads_append u v (read_on m c)

levels_free : (stop : Option ℕ) (outer : List Level) (top : Level) (w : List ℕ) (h : ℕ) (k : List ℕ)
    → Levels stop outer top w h k → 0 < length outer → is_stop stop 41 ≡ false
levels_free stop [] top w h k x l = absurd (omega arith)
levels_free stop (o ∷ os) top w h k x l = open_free stop x.4.0 x.4.2

all_ends : (stop : Option ℕ) (m : Reading) (w rest : List ℕ) → Built stop m w rest → m.scanner.stop ≡ stop → Closing m
all_ends stop m w rest x same =
    let s = m.scanner in
    let a : Arrives s.stop m s.depth = mode_ends s.stop s.mode s.negated s.spans s.depth s.expects m.stack m.size x.0
    rest (subst (λ (o : Option ℕ). InMode o s.mode s.negated s.spans x.0 rest) (sym same) x.2) in
    let g = groups_end s.stop s.depth a.negated a.spans a.stack a.size
    (λ l. subst (λ (o : Option ℕ). is_stop o 41 ≡ false) (sym same)
    (levels_free stop m.stack.outer m.stack.top w m.stack.groups x.0 x.1.tokens (omega (arith, x.1.depth)))) in
    record {
      text = a.text ++ g.text;
      last = g.last;
      leads = reads_append a.text g.text (Some m) ∙ (ap (λ (o : Option Reading). reads o g.text) a.leads ∙ g.leads);
      complete = g.complete;
    }

pub goes_on : (stop : Option ℕ) (u : List ℕ) (m : Reading) → reads (Some (begin stop)) u ≡ Some m → GoesOn stop u
goes_on stop u m e =
    let built = built_from stop u m e in
    let end = all_ends stop m u [] built built.1.same in
    let all : reads (Some (begin stop)) (u ++ end.text) ≡ Some end.last =
    reads_append u end.text (Some (begin stop)) ∙ (ap (λ (o : Option Reading). reads o end.text) e ∙ end.leads)
    in
    let w = whole stop (u ++ end.text) end.last all end.complete in
    (end.text, w.result, w.written)
