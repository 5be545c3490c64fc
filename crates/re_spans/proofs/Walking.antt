-- How far matches lead from one place.
use Rattle.std.proofs.Common.{◌≡◌, ℕ, zero, suc, ◌<◌, ◌≤◌, ◌+◌, ◌-◌, ◌||◌, ◌&&◌, Bool, true, false, not, List, length}
use Rattle.std.proofs.Common.{Option, Some, None, refl, sym, ap, subst, ◌∙◌, inl, inr, arith}
use Rattle.std.specs.Prelude.{IsTrue, ◌↔◌, ◌==◌, IfSome, IfNone, nat_le}
use Rattle.std.proofs.lemmas.Bool.{cases_lt, cases_eq, cases_Bool, both_ways, and_parts, and_from, not-true}
use Rattle.std.proofs.lemmas.Bool.{not_from_false, eqb-true, leb-true, le-leb}
use Rattle.re_syntax.specs.Tree.{Tree, Letter, AnyLetter, OneOf, LineStart, LineEnd, Then, Either, Many, Several, Maybe}
use Rattle.re_syntax.specs.Tree.{Group}
use Rattle.re_syntax.specs.Match.{Matches}
use Rattle.re_spans.specs.Places.{Cells, has}
use Rattle.re_spans.specs.Turns.{place_at, StaysInside}
use Rattle.re_spans.specs.Leaves.{here_at, read_at}
use Rattle.re_spans.specs.Reached.{Along}
use Rattle.re_spans.specs.Choice.{LeadsTo, UnlessNull, AmongThose, IsGreatestOf, HasNone, set_if}
use Rattle.re_spans.specs.Marks.{Marking, OfLeaf, OfOne, OfTwo, mark_of, with_mark, is_alive, passes, left_enters}
use Rattle.re_spans.specs.Marks.{right_enters, pair, leaf_mark, fresh, step, step_one, step_cat, step_alt}
use Rattle.re_spans.specs.declared.way.Way.{Way}
use Rattle.re_spans.specs.declared.way.Way.TheVariants.{On, Back}
use Rattle.re_spans.specs.declared.leaf.Read.{Read}
use Rattle.re_spans.specs.declared.marks.Mark.{Mark}
use Rattle.re_spans.proofs.Orders.{Before, turns_next, turns_lower, no_turn, turns_before, fewer_turns, never}
use Rattle.re_spans.proofs.Marking.{MarkIs}
use Rattle.re_spans.proofs.Stepping.{Holds, fresh_holds, stepped_holds}

-- ---- what is dead stays so

or_none : (a b : Bool) → (a || b) ≡ false → (a ≡ false) × (b ≡ false)
or_none true b e = absurd (both_ways true e refl)
or_none false b e = (refl, e)

dead_led : (s : Marking) → is_alive s ≡ false → (mark_of s).led ≡ false
dead_led (OfLeaf k) e = e
dead_led (OfOne k s) e = (or_none k.led (is_alive s) e).0
dead_led (OfTwo k s u) e = (or_none k.led (is_alive s || is_alive u) e).0

dead_part : (f : Bool → Marking → Marking) (again optional : Bool)
    → ((s : Marking) → is_alive s ≡ false → is_alive (f false s) ≡ false) → (s : Marking)
    → is_alive s ≡ false → is_alive (step_one f false again optional s) ≡ false
dead_part f again optional go (OfLeaf k) e = e
dead_part f again optional go (OfOne k s) e =
    let none = (or_none k.led (is_alive s) e).1 in
    let enters : (again && (mark_of s).led) ≡ false = ap (λ (x : Bool). again && x) (dead_led s none) ∙ no_both again in
    let dead : is_alive (f (again && (mark_of s).led) s) ≡ false = subst (λ (x : Bool). is_alive (f x s) ≡ false)
    (sym enters) (go s none) in
    rw (dead_led (f (again && (mark_of s).led) s) dead, dead) refl
  where
    no_both : (a : Bool) → (a && false) ≡ false
    no_both true = refl
    no_both false = refl
dead_part f again optional go (OfTwo k s u) e = e

passes_none : (k : Mark) → k.led ≡ false → passes k false ≡ false
passes_none k e = rw e refl

pair_led : (way : Way) (x y : Mark) → x.led ≡ false → y.led ≡ false → (pair way x y).led ≡ false
pair_led On x y e f = rw (e, f) refl
pair_led Back x y e f = rw (e, f) refl

left_none : (way : Way) (k : Mark) → k.led ≡ false → left_enters way false k ≡ false
left_none On k e = refl
left_none Back k e = passes_none k e

right_none : (way : Way) (k : Mark) → k.led ≡ false → right_enters way false k ≡ false
right_none On k e = passes_none k e
right_none Back k e = refl

dead_cat : (way : Way) (f g : Bool → Marking → Marking) → ((s : Marking)
    → is_alive s ≡ false → is_alive (f false s) ≡ false) → ((s : Marking)
    → is_alive s ≡ false → is_alive (g false s) ≡ false) → (s : Marking)
    → is_alive s ≡ false → is_alive (step_cat way f g false s) ≡ false
dead_cat way f g go_f go_g (OfLeaf k) e = e
dead_cat way f g go_f go_g (OfOne k s) e = e
dead_cat way f g go_f go_g (OfTwo k s u) e =
    let none = or_none (is_alive s) (is_alive u) (or_none k.led (is_alive s || is_alive u) e).1 in
    let x : is_alive (f (left_enters way false (mark_of u)) s) ≡ false = subst (λ (x : Bool). is_alive (f x s) ≡ false)
    (sym (left_none way (mark_of u) (dead_led u none.1))) (go_f s none.0) in
    let y : is_alive (g (right_enters way false (mark_of s)) u) ≡ false = subst (λ (x : Bool). is_alive (g x u) ≡ false)
    (sym (right_none way (mark_of s) (dead_led s none.0))) (go_g u none.1) in
    rw (
      pair_led way (mark_of (f (left_enters way false (mark_of u)) s))
          (mark_of (g (right_enters way false (mark_of s)) u)) (dead_led (f (left_enters way false (mark_of u)) s) x)
          (dead_led (g (right_enters way false (mark_of s)) u) y),
      x,
      y,
    ) refl

dead_alt : (f g : Bool → Marking → Marking) → ((s : Marking) → is_alive s ≡ false → is_alive (f false s) ≡ false)
    → ((s : Marking) → is_alive s ≡ false → is_alive (g false s) ≡ false) → (s : Marking)
    → is_alive s ≡ false → is_alive (step_alt f g false s) ≡ false
dead_alt f g go_f go_g (OfLeaf k) e = e
dead_alt f g go_f go_g (OfOne k s) e = e
dead_alt f g go_f go_g (OfTwo k s u) e =
    let none = or_none (is_alive s) (is_alive u) (or_none k.led (is_alive s || is_alive u) e).1 in
    let x = go_f s none.0 in
    let y = go_g u none.1 in
    rw (dead_led (f false s) x, dead_led (g false u) y, x, y) refl

dead_leaf : (k : Mark) (s : Marking) → k.led ≡ false → is_alive s ≡ false → is_alive (with_mark k s) ≡ false
dead_leaf k (OfLeaf old) e h = e
dead_leaf k (OfOne old s) e h = rw (e, (or_none old.led (is_alive s) h).1) refl
dead_leaf k (OfTwo old s u) e h = rw (e, (or_none old.led (is_alive s || is_alive u) h).1) refl

dead_stays : (way : Way) (r : Tree) (read : Read) (s : Marking) → is_alive s ≡ false →
    is_alive (step way r read false s) ≡ false
dead_stays way (Letter c) read s e = dead_leaf (leaf_mark (Letter c) read.here false) s refl e
dead_stays way AnyLetter read s e = dead_leaf (leaf_mark AnyLetter read.here false) s refl e
dead_stays way (OneOf negated spans) read s e = dead_leaf (leaf_mark (OneOf negated spans) read.here false) s refl e
dead_stays way LineStart read s e = dead_leaf (leaf_mark LineStart read.here false) s refl e
dead_stays way LineEnd read s e = dead_leaf (leaf_mark LineEnd read.here false) s refl e
dead_stays way (Then a b) read s e = dead_cat way (step way a read) (step way b read) (dead_stays way a read)
    (dead_stays way b read) s e
dead_stays way (Either a b) read s e = dead_alt (step way a read) (step way b read) (dead_stays way a read)
    (dead_stays way b read) s e
dead_stays way (Many a) read s e = dead_part (step way a read) true true (dead_stays way a read) s e
dead_stays way (Several a) read s e = dead_part (step way a read) true false (dead_stays way a read) s e
dead_stays way (Maybe a) read s e = dead_part (step way a read) false true (dead_stays way a read) s e
dead_stays way (Group n a) read s e = dead_part (step way a read) false false (dead_stays way a read) s e

-- ---- the greatest so far

better : (P : ℕ → Type 0) (n : ℕ) (best : Option ℕ) (on : Bool) → IsTrue on ↔ P (n + 1) → IfSome best (IsGreatestOf P n)
    → IfNone best (HasNone P n) → IfSome (set_if best on (n + 1)) (IsGreatestOf P (n + 1))
    × IfNone (set_if best on (n + 1)) (HasNone P (n + 1))
better P n best true tells some none = (record { inside = omega arith; has = tells.0 refl; most = λ e l p. l }, tt)
better P n None false tells some none = (
  tt,
  λ e l p. elim (cases_eq e (n + 1)) [
    | inl same ↦ both_ways false refl (tells.1 (subst P same p))
    | inr other ↦ none e (omega (arith, l, other)) p
  ],
)
better P n (Some d) false tells some none = (
  record {
    inside = omega (arith, some.inside);
    has = some.has;
    most = λ e l p. elim (cases_eq e (n + 1)) [
      | inl same ↦ absurd (both_ways false refl (tells.1 (subst P same p)))
      | inr other ↦ some.most e (omega (arith, l, other)) p
    ];
  },
  tt,
)

-- what comes later doesn't count
further_some : (P : ℕ → Type 0) (n m : ℕ) (best : Option ℕ) → n ≤ m → ((e : ℕ) → n < e → e ≤ m → P e → ⊥)
    → IfSome best (IsGreatestOf P n) → IfSome best (IsGreatestOf P m)
further_some P n m None l later some = tt
further_some P n m (Some d) l later some = record {
  inside = omega (arith, l, some.inside);
  has = some.has;
  most = λ e h p. elim (cases_lt n e) [ inl x ↦ absurd (later e x h p) | inr y ↦ some.most e y p ];
}

further_none : (P : ℕ → Type 0) (n m : ℕ) (best : Option ℕ) → ((e : ℕ) → n < e → e ≤ m → P e → ⊥)
    → IfNone best (HasNone P n) → IfNone best (HasNone P m)
further_none P n m (Some d) later none = tt
further_none P n m None later none = λ e h p. elim (cases_lt n e) [ inl x ↦ later e x h p | inr y ↦ none e y p ]

at_first : (P : ℕ → Type 0) (on : Bool) → IsTrue on ↔ P 0 → IfSome (set_if None on 0) (IsGreatestOf P 0)
    × IfNone (set_if None on 0) (HasNone P 0)
at_first P true tells = (record { inside = omega arith; has = tells.0 refl; most = λ e l p. l }, tt)
at_first P false tells = (
  tt,
  λ e l p. let zero_e : e ≡ 0 = omega (arith, l) in
      both_ways false refl (tells.1 (subst P zero_e p)),
)

-- ---- what counts

pub null_unless : (skip m : Bool) → IsTrue (m && not skip) ↔ (IsTrue m × UnlessNull skip 0)
null_unless skip m = (
  λ h. let both = and_parts m (not skip) h in (both.0, λ s e. both_ways skip (not-true skip both.1) s),
  λ p. and_from m (not skip) p.0 (not_from_false skip (unskipped (λ s. p.1 s refl))),
)
  where
    unskipped : (IsTrue skip → ⊥) → skip ≡ false
    unskipped f = elim (cases_Bool skip) [ inl s ↦ absurd (f s) | inr s ↦ s ]

pub led_unless : (skip m : Bool) (n : ℕ) → IsTrue m ↔ (IsTrue m × UnlessNull skip (n + 1))
led_unless skip m n = (λ h. (h, λ s e. omega (arith, e)), λ p. p.0)

pub among : (s : Cells) (low at d k : ℕ) (m : Bool) → k ≡ at + d → IsTrue (m && (nat_le low k && has s k)) ↔
    (IsTrue m × AmongThose s low at d)
among s low at d k m e = (
  λ h.
      let both = and_parts m (nat_le low k && has s k) h in
      let there = and_parts (nat_le low k) (has s k) both.1 in
      (both.0, (subst (λ (x : ℕ). low ≤ x) e (leb-true low k there.0), subst (λ (x : ℕ). IsTrue (has s x)) e there.1)),
  λ p. and_from m (nat_le low k && has s k) p.0 (and_from (nat_le low k) (has s k)
      (le-leb low k (subst (λ (x : ℕ). low ≤ x) (sym e) p.1.0)) (subst (λ (x : ℕ). IsTrue (has s x)) (sym e) p.1.1)),
)

-- ---- the walk so far

module _ (way : Way) (r : Tree) (t : List ℕ) (at : ℕ) (Q : ℕ → Type 0) where
  abbrev pub At : ℕ → Type 0
  At k = k ≡ at

  abbrev pub Leads : ℕ → Type 0
  Leads = LeadsTo way (Matches r t) at Q

  pub record Walked (n : ℕ) (marks : Marking) (best : Option ℕ) : Type 0 where
    pub holds : Holds way t r At (place_at way at n) marks
    pub some : IfSome best (IsGreatestOf Leads n)
    pub none : IfNone best (HasNone Leads n)

  led_leads : (n : ℕ) (k : Mark) → 0 < n → StaysInside way at n (length t)
      → MarkIs way (Along way (Matches r t)) At (place_at way at n) k
      → IsTrue k.led ↔ Along way (Matches r t) at (place_at way at n)
  led_leads n k l f is = (
    λ h. let p = is.is_led.0 h in subst (λ (x : ℕ). Along way (Matches r t) x (place_at way at n)) p.2 p.3,
    λ a. is.is_led.1 (at, turns_before way at n (length t) l f, refl, a),
  )

  entered_at : (n : ℕ) → StaysInside way at n (length t) → IsTrue (n == 0) ↔ At (place_at way at n)
  entered_at zero f = (λ h. no_turn way at, λ e. refl)
  entered_at (suc n) f = (
    λ h. absurd (let e = eqb-true (suc n) 0 h in omega (arith, e)),
    λ e. absurd (never way at (place_at way at (suc n)) (turns_before way at (suc n) (length t) (omega arith) f)
        (sym e)),
  )

  null_leads : (k : Mark) → MarkIs way (Along way (Matches r t)) At (place_at way at 0) k
      → IsTrue k.null ↔ Along way (Matches r t) at (place_at way at 0)
  null_leads k is = (
    λ h. subst (λ (x : ℕ). Along way (Matches r t) x (place_at way at 0)) (no_turn way at) (is.is_null.0 h),
    λ a. is.is_null.1 (subst (λ (x : ℕ). Along way (Matches r t) x (place_at way at 0)) (sym (no_turn way at)) a),
  )

  -- a match leads there, and it counts
  counted : (on m : Bool) (n : ℕ) → IsTrue on ↔ (IsTrue m × Q n) → IsTrue m ↔ Along way (Matches r t) at
      (place_at way at n) → IsTrue on ↔ Leads n
  counted on m n tells is = (
    λ h. (is.0 (tells.0 h).0, (tells.0 h).1),
    λ p. tells.1 (is.1 p.0, p.1),
  )

  not_before : (k : ℕ) → Before way k (place_at way at 0) → At k → ⊥
  not_before k b e = never way k (place_at way at 0) b (e ∙ sym (no_turn way at))

  pub walked_first : (on : Bool) → IsTrue on ↔ (IsTrue (mark_of (fresh way r (here_at t at))).null × Q 0)
      → Walked 0 (fresh way r (here_at t at)) (set_if None on 0)
  walked_first on tells =
      let here = subst (λ (x : ℕ). Holds way t r At (place_at way at 0) (fresh way r (here_at t x))) (no_turn way at)
      (fresh_holds way t r At (place_at way at 0) not_before) in
      let best = at_first Leads on (counted on (mark_of (fresh way r (here_at t at))).null 0 tells
      (null_leads (mark_of (fresh way r (here_at t at))) here.0)) in
      record { holds = here; some = best.0; none = best.1 }

  moved : (n : ℕ) (m : Bool) (marks : Marking) → StaysInside way at (n + 1) (length t)
      → IsTrue m ↔ At (place_at way at n) → Holds way t r At (place_at way at n) marks
      → Holds way t r At (place_at way at (n + 1)) (step way r (read_at way t (place_at way at n)
      (place_at way at (n + 1))) m marks)
  moved n m marks f e h =
      stepped_holds way t r At (place_at way at n) (place_at way at (n + 1)) m marks (turns_next way at n (length t) f)
      (turns_lower way at n (length t) f) e h.1

  stepped_at : (n : ℕ) (marks new : Marking) (best : Option ℕ) → StaysInside way at (n + 1) (length t)
      → new ≡ step way r (read_at way t (place_at way at n) (place_at way at (n + 1))) (n == 0) marks
      → Walked n marks best → Holds way t r At (place_at way at (n + 1)) new
  stepped_at n marks new best f e w =
      subst (λ (x : Marking). Holds way t r At (place_at way at (n + 1)) x) (sym e)
      (moved n (n == 0) marks f (entered_at n (fewer_turns way at n (n + 1) (length t) (omega arith) f)) w.holds)

  pub walked_more : (n : ℕ) (marks new : Marking) (best : Option ℕ) (on : Bool) → StaysInside way at (n + 1) (length t)
      → new ≡ step way r (read_at way t (place_at way at n) (place_at way at (n + 1))) (n == 0) marks
      → IsTrue on ↔ (IsTrue (mark_of new).led × Q (n + 1)) → Walked n marks best
      → Walked (n + 1) new (set_if best on (n + 1))
  walked_more n marks new best on f e tells w =
      let here = stepped_at n marks new best f e w in
      let next = better Leads n best on (counted on (mark_of new).led (n + 1) tells
      (led_leads (n + 1) (mark_of new) (omega arith) f here.0)) w.some w.none in
      record { holds = here; some = next.0; none = next.1 }

  dead_end : (d n : ℕ) (marks : Marking) → 0 < n → StaysInside way at (n + d) (length t)
      → is_alive marks ≡ false → Holds way t r At (place_at way at n) marks → Leads (n + d) → ⊥
  dead_end zero n marks l f dead h p =
      let same : n + 0 ≡ n = omega arith in
      let here = subst (λ (x : ℕ). StaysInside way at x (length t)) same f in
      both_ways (mark_of marks).led (dead_led marks dead) ((led_leads n (mark_of marks) l here h.0).1
      (subst Leads same p).0)
  dead_end (suc d) n marks l f dead h p =
      let same : n + suc d ≡ (n + 1) + d = omega arith in
      let there = subst (λ (x : ℕ). StaysInside way at x (length t)) same f in
      let next = fewer_turns way at (n + 1) (n + 1 + d) (length t) (omega arith) there in
      let outside : IsTrue false ↔ At (place_at way at n) = (
        λ h. absurd (both_ways false refl h),
        λ e. absurd (never way at (place_at way at n) (turns_before way at n (length t) l
            (fewer_turns way at n (n + 1) (length t) (omega arith) next)) (sym e)),
      ) in
      dead_end d (n + 1) (step way r (read_at way t (place_at way at n) (place_at way at (n + 1))) false marks)
      (omega arith) there (dead_stays way r (read_at way t (place_at way at n) (place_at way at (n + 1))) marks
      dead) (moved n false marks next outside h) (subst Leads same p)

  none_later : (n m : ℕ) (marks new : Marking) (best : Option ℕ) → n < m → StaysInside way at m (length t)
      → new ≡ step way r (read_at way t (place_at way at n) (place_at way at (n + 1))) (n == 0) marks
      → is_alive new ≡ false → Walked n marks best → (e : ℕ) → n < e → e ≤ m → Leads e → ⊥
  none_later n m marks new best l f s dead w e after inside p =
      let same : e ≡ (n + 1) + (e - (n + 1)) = omega (arith, after) in
      let there = subst (λ (x : ℕ). StaysInside way at x (length t)) same
      (fewer_turns way at e m (length t) inside f) in
      dead_end (e - (n + 1)) (n + 1) new (omega arith) there dead (stepped_at n marks new best
      (fewer_turns way at (n + 1) m (length t) (omega (arith, l)) f) s w) (subst Leads same p)

  pub walked_out : (n m : ℕ) (marks new : Marking) (best : Option ℕ) → n < m → StaysInside way at m (length t)
      → new ≡ step way r (read_at way t (place_at way at n) (place_at way at (n + 1))) (n == 0) marks
      → is_alive new ≡ false → Walked n marks best → IfSome best (IsGreatestOf Leads m) × IfNone best (HasNone Leads m)
  walked_out n m marks new best l f s dead w =
      let later = none_later n m marks new best l f s dead w in
      (further_some Leads n m best (omega (arith, l)) later w.some, further_none Leads n m best later w.none)
