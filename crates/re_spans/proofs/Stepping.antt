-- The marks of a tree go on from place to place.
use Rattle.std.proofs.Common.{◌≡◌, ℕ, ◌<◌, ◌&&◌, ◌||◌, ◌==◌, Bool, true, false, not, List, length, refl, sym, subst}
use Rattle.std.specs.Prelude.{IsTrue, ◌↔◌}
use Rattle.re_syntax.specs.Tree.{Tree, Letter, AnyLetter, OneOf, LineStart, LineEnd, Then, Either, Many, Several, Maybe}
use Rattle.re_syntax.specs.Tree.{Group}
use Rattle.re_syntax.specs.Match.{Matches, Repeats, Joins, line_start, line_end, is_in_class}
use Rattle.re_spans.specs.Turns.{lower}
use Rattle.re_spans.specs.Leaves.{takes, here_at, read_at}
use Rattle.re_spans.specs.Reached.{Along}
use Rattle.re_spans.specs.Marks.{Marking, OfLeaf, OfOne, OfTwo, mark_of, with_mark, left_enters, right_enters, pair}
use Rattle.re_spans.specs.Marks.{either, wrap, leaf_mark, fresh, step, step_one, step_cat, step_alt}
use Rattle.re_spans.specs.declared.way.Way.{Way}
use Rattle.re_spans.specs.declared.marks.Mark.{Mark}
use Rattle.re_spans.proofs.Ways.{Matches-on}
use Rattle.re_spans.proofs.Orders.{Before, Next}
use Rattle.re_spans.proofs.Marking.{MarkIs, LeftE, RightE, Again, trans, or_is, pair_is, either_is, many_is, several_is}
use Rattle.re_spans.proofs.Marking.{maybe_is, group_is, left_enters_is, right_enters_is, again_enters, no_left}
use Rattle.re_spans.proofs.Marking.{no_right, no_again}
use Rattle.re_spans.proofs.LeafMarks.{rune_is, rune_fresh, null_is, null_fresh, start_only, start_here, end_only}
use Rattle.re_spans.proofs.LeafMarks.{end_here}

abbrev pub InsideOne : (Marking → Type 0) → Marking → Type 0
InsideOne P (OfOne k s) = P s
InsideOne P _ = ⊥

abbrev pub InsideTwo : (Marking → Type 0) → (Marking → Type 0) → Marking → Type 0
InsideTwo P Q (OfTwo k s u) = P s × Q u
InsideTwo P Q _ = ⊥

-- the marks below say what they should, where the tree is entered at the places of E
abbrev pub Inside : Way → List ℕ → Tree → (ℕ → Type 0) → ℕ → Marking → Type 0
Inside way t (Then a b) E n s =
    InsideTwo (λ u. MarkIs way (Along way (Matches a t)) (LeftE way (Matches b t) E) n (mark_of u)
    × Inside way t a (LeftE way (Matches b t) E) n u) (λ u. MarkIs way (Along way (Matches b t))
    (RightE way (Matches a t) E) n (mark_of u) × Inside way t b (RightE way (Matches a t) E) n u) s
Inside way t (Either a b) E n s =
    InsideTwo (λ u. MarkIs way (Along way (Matches a t)) E n (mark_of u) × Inside way t a E n u)
    (λ u. MarkIs way (Along way (Matches b t)) E n (mark_of u) × Inside way t b E n u) s
Inside way t (Many a) E n s =
    InsideOne (λ u. MarkIs way (Along way (Matches a t)) (Again way (Matches a t) E) n (mark_of u)
    × Inside way t a (Again way (Matches a t) E) n u) s
Inside way t (Several a) E n s =
    InsideOne (λ u. MarkIs way (Along way (Matches a t)) (Again way (Matches a t) E) n (mark_of u)
    × Inside way t a (Again way (Matches a t) E) n u) s
Inside way t (Maybe a) E n s =
    InsideOne (λ u. MarkIs way (Along way (Matches a t)) E n (mark_of u) × Inside way t a E n u) s
Inside way t (Group m a) E n s =
    InsideOne (λ u. MarkIs way (Along way (Matches a t)) E n (mark_of u) × Inside way t a E n u) s
Inside way t _ E n s = Unit {0}

-- all marks do
abbrev pub Holds : Way → List ℕ → Tree → (ℕ → Type 0) → ℕ → Marking → Type 0
Holds way t r E n s = MarkIs way (Along way (Matches r t)) E n (mark_of s) × Inside way t r E n s

-- ---- at the place at which a search begins

pub fresh_holds : (way : Way) (t : List ℕ) (r : Tree) (E : ℕ → Type 0) (n : ℕ) → ((k : ℕ) → Before way k n → E k → ⊥)
    → Holds way t r E n (fresh way r (here_at t n))
fresh_holds way t (Letter c) E n none = (rune_fresh t (λ d. d == c) way E n none, tt)
fresh_holds way t AnyLetter E n none = (rune_fresh t (λ d. not (d == 10)) way E n none, tt)
fresh_holds way t (OneOf negated spans) E n none = (rune_fresh t (is_in_class negated spans) way E n none, tt)
fresh_holds way t LineStart E n none =
    (null_fresh (line_start t) (λ i. (here_at t i).starts) (start_only t) (start_here t) way E n, tt)
fresh_holds way t LineEnd E n none =
    (null_fresh (line_end t) (λ i. (here_at t i).ends) (end_only t) (end_here t) way E n, tt)
fresh_holds way t (Then a b) E n none =
    let on_a = Matches-on a t in
    let on_b = Matches-on b t in
    let x = fresh_holds way t a (LeftE way (Matches b t) E) n (no_left way (Matches b t) E n on_b none) in
    let y = fresh_holds way t b (RightE way (Matches a t) E) n (no_right way (Matches a t) E n on_a none) in (
      pair_is way (Matches a t) (Matches b t) E n (mark_of (fresh way a (here_at t n)))
          (mark_of (fresh way b (here_at t n))) on_a on_b x.0 y.0,
      (x, y),
    )
fresh_holds way t (Either a b) E n none =
    let x = fresh_holds way t a E n none in
    let y = fresh_holds way t b E n none in (
      either_is way (Matches a t) (Matches b t) E n (mark_of (fresh way a (here_at t n)))
          (mark_of (fresh way b (here_at t n))) x.0 y.0,
      (x, y),
    )
fresh_holds way t (Many a) E n none =
    let x = fresh_holds way t a (Again way (Matches a t) E) n (no_again way (Matches a t) E n none) in
    (many_is way (Matches a t) E n (mark_of (fresh way a (here_at t n))) x.0, x)
fresh_holds way t (Several a) E n none =
    let x = fresh_holds way t a (Again way (Matches a t) E) n (no_again way (Matches a t) E n none) in
    (several_is way (Matches a t) E n (mark_of (fresh way a (here_at t n))) (Matches-on a t) x.0, x)
fresh_holds way t (Maybe a) E n none =
    let x = fresh_holds way t a E n none in
    (maybe_is way (Matches a t) E n (mark_of (fresh way a (here_at t n))) x.0, x)
fresh_holds way t (Group m a) E n none =
    let x = fresh_holds way t a E n none in
    (group_is way (Along way (Matches a t)) E n (mark_of (fresh way a (here_at t n))) x.0, x)

-- ---- one place further on

one_holds : (W : Mark → Type 0) (P Q : Marking → Type 0) (f : Bool → Marking → Marking) (entered again optional : Bool)
    → ((s : Marking) → P s → W (wrap (mark_of (f (entered || (again && (mark_of s).led)) s)) optional)
    × Q (f (entered || (again && (mark_of s).led)) s)) → (s : Marking) → InsideOne P s
    → W (mark_of (step_one f entered again optional s)) × InsideOne Q (step_one f entered again optional s)
one_holds W P Q f entered again optional go (OfLeaf k) h = absurd h
one_holds W P Q f entered again optional go (OfOne k s) h = go s h
one_holds W P Q f entered again optional go (OfTwo k s u) h = absurd h

cat_holds : (W : Mark → Type 0) (P Q X Y : Marking → Type 0) (way : Way) (f g : Bool → Marking → Marking)
    (entered : Bool) → ((s u : Marking) → P s → Q u → W (pair way (mark_of (f (left_enters way entered (mark_of u)) s))
    (mark_of (g (right_enters way entered (mark_of s)) u))) × X (f (left_enters way entered (mark_of u)) s)
    × Y (g (right_enters way entered (mark_of s)) u)) → (s : Marking) → InsideTwo P Q s
    → W (mark_of (step_cat way f g entered s)) × InsideTwo X Y (step_cat way f g entered s)
cat_holds W P Q X Y way f g entered go (OfLeaf k) h = absurd h
cat_holds W P Q X Y way f g entered go (OfOne k s) h = absurd h
cat_holds W P Q X Y way f g entered go (OfTwo k s u) h = let x = go s u h.0 h.1 in (x.0, (x.1, x.2))

alt_holds : (W : Mark → Type 0) (P Q X Y : Marking → Type 0) (f g : Bool → Marking → Marking) (entered : Bool)
    → ((s u : Marking) → P s → Q u → W (either (mark_of (f entered s)) (mark_of (g entered u))) × X (f entered s)
    × Y (g entered u)) → (s : Marking) → InsideTwo P Q s → W (mark_of (step_alt f g entered s))
    × InsideTwo X Y (step_alt f g entered s)
alt_holds W P Q X Y f g entered go (OfLeaf k) h = absurd h
alt_holds W P Q X Y f g entered go (OfOne k s) h = absurd h
alt_holds W P Q X Y f g entered go (OfTwo k s u) h = let x = go s u h.0 h.1 in (x.0, (x.1, x.2))

marked : (k : Mark) (s : Marking) → mark_of (with_mark k s) ≡ k
marked k (OfLeaf old) = refl
marked k (OfOne old s) = refl
marked k (OfTwo old s u) = refl

leaf_holds : (way : Way) (A : ℕ → ℕ → Type 0) (E : ℕ → Type 0) (n : ℕ) (k : Mark) (s : Marking) → MarkIs way A E n k
    → MarkIs way A E n (mark_of (with_mark k s)) × Unit {0}
leaf_holds way A E n k s is = (subst (λ (x : Mark). MarkIs way A E n x) (sym (marked k s)) is, tt)

-- entered here, or its part left here
again_is : (way : Way) (R : ℕ → ℕ → Type 0) (E : ℕ → Type 0) (i : ℕ) (m : Bool) (k : Mark) → IsTrue m ↔ E i
    → MarkIs way (Along way R) (Again way R E) i k → IsTrue (m || k.led) ↔ Again way R E i
again_is way R E i m k e is =
    trans (IsTrue (m || k.led)) _ (Again way R E i) (or_is m k.led (E i) _ e is.is_led) (again_enters way R E i)

or_nothing : (m : Bool) (P : Type 0) → IsTrue m ↔ P → IsTrue (m || false) ↔ P
or_nothing true P e = e
or_nothing false P e = e

pub stepped_holds : (way : Way) (t : List ℕ) (r : Tree) (E : ℕ → Type 0) (i n : ℕ) (m : Bool) (s : Marking)
    → Next way i n → lower way i n < length t → IsTrue m ↔ E i → Inside way t r E i s
    → Holds way t r E n (step way r (read_at way t i n) m s)
stepped_holds way t (Letter c) E i n m s next l e h =
    leaf_holds way (Along way (Matches (Letter c) t)) E n (leaf_mark (Letter c) (here_at t n)
    (m && takes (Letter c) (read_at way t i n).rune)) s (rune_is t (λ d. d == c) way E i n m next l e)
stepped_holds way t AnyLetter E i n m s next l e h =
    leaf_holds way (Along way (Matches AnyLetter t)) E n (leaf_mark AnyLetter (here_at t n)
    (m && takes AnyLetter (read_at way t i n).rune)) s (rune_is t (λ d. not (d == 10)) way E i n m next l e)
stepped_holds way t (OneOf negated spans) E i n m s next l e h =
    leaf_holds way (Along way (Matches (OneOf negated spans) t)) E n
    (leaf_mark (OneOf negated spans) (here_at t n) (m && takes (OneOf negated spans) (read_at way t i n).rune)) s
    (rune_is t (is_in_class negated spans) way E i n m next l e)
stepped_holds way t LineStart E i n m s next l e h =
    leaf_holds way (Along way (Matches LineStart t)) E n (leaf_mark LineStart (here_at t n) (m && false)) s
    (null_is (line_start t) (λ x. (here_at t x).starts) (start_only t) (start_here t) way E n m)
stepped_holds way t LineEnd E i n m s next l e h =
    leaf_holds way (Along way (Matches LineEnd t)) E n (leaf_mark LineEnd (here_at t n) (m && false)) s
    (null_is (line_end t) (λ x. (here_at t x).ends) (end_only t) (end_here t) way E n m)
stepped_holds way t (Then a b) E i n m s next l e h =
    let on_a = Matches-on a t in
    let on_b = Matches-on b t in
    let R = Matches a t in
    let S = Matches b t in
    let f = step way a (read_at way t i n) in
    let g = step way b (read_at way t i n) in
    cat_holds (MarkIs way (Along way (Joins R S)) E n) (Holds way t a (LeftE way S E) i)
    (Holds way t b (RightE way R E) i) (Holds way t a (LeftE way S E) n) (Holds way t b (RightE way R E) n) way f g
    m (
    λ u v p q.
    let x = stepped_holds way t a (LeftE way S E) i n (left_enters way m (mark_of v)) u next l
    (left_enters_is way R S E i (mark_of v) m on_b q.0 e) p.1 in
    let y = stepped_holds way t b (RightE way R E) i n (right_enters way m (mark_of u)) v next l
    (right_enters_is way R S E i (mark_of u) m on_a p.0 e) q.1 in (
      pair_is way R S E n (mark_of (f (left_enters way m (mark_of v)) u))
          (mark_of (g (right_enters way m (mark_of u)) v)) on_a on_b x.0 y.0,
      x,
      y,
    )
    ) s h
stepped_holds way t (Either a b) E i n m s next l e h =
    let f = step way a (read_at way t i n) in
    let g = step way b (read_at way t i n) in
    alt_holds (MarkIs way (Along way (Matches (Either a b) t)) E n) (Holds way t a E i) (Holds way t b E i)
    (Holds way t a E n) (Holds way t b E n) f g m (
    λ u v p q.
    let x = stepped_holds way t a E i n m u next l e p.1 in
    let y = stepped_holds way t b E i n m v next l e q.1 in
    (either_is way (Matches a t) (Matches b t) E n (mark_of (f m u)) (mark_of (g m v)) x.0 y.0, x, y)
    ) s h
stepped_holds way t (Many a) E i n m s next l e h =
    let R = Matches a t in
    let f = step way a (read_at way t i n) in
    one_holds (MarkIs way (Along way (Repeats R)) E n) (Holds way t a (Again way R E) i)
    (Holds way t a (Again way R E) n) f m true true (
    λ u p.
    let x = stepped_holds way t a (Again way R E) i n (m || (mark_of u).led) u next l
    (again_is way R E i m (mark_of u) e p.0) p.1 in
    (many_is way R E n (mark_of (f (m || (mark_of u).led) u)) x.0, x)
    ) s h
stepped_holds way t (Several a) E i n m s next l e h =
    let R = Matches a t in
    let f = step way a (read_at way t i n) in
    one_holds (MarkIs way (Along way (Joins R (Repeats R))) E n) (Holds way t a (Again way R E) i)
    (Holds way t a (Again way R E) n) f m true false (
    λ u p.
    let x = stepped_holds way t a (Again way R E) i n (m || (mark_of u).led) u next l
    (again_is way R E i m (mark_of u) e p.0) p.1 in
    (several_is way R E n (mark_of (f (m || (mark_of u).led) u)) (Matches-on a t) x.0, x)
    ) s h
stepped_holds way t (Maybe a) E i n m s next l e h =
    let R = Matches a t in
    let f = step way a (read_at way t i n) in
    one_holds (MarkIs way (Along way (Matches (Maybe a) t)) E n) (Holds way t a E i) (Holds way t a E n) f m false true
    (
    λ u p.
    let x = stepped_holds way t a E i n (m || false) u next l (or_nothing m (E i) e) p.1 in
    (maybe_is way R E n (mark_of (f (m || false) u)) x.0, x)
    ) s h
stepped_holds way t (Group k a) E i n m s next l e h =
    let R = Matches a t in
    let f = step way a (read_at way t i n) in
    one_holds (MarkIs way (Along way R) E n) (Holds way t a E i) (Holds way t a E n) f m false false (
    λ u p.
    let x = stepped_holds way t a E i n (m || false) u next l (or_nothing m (E i) e) p.1 in
    (group_is way (Along way R) E n (mark_of (f (m || false) u)) x.0, x)
    ) s h
