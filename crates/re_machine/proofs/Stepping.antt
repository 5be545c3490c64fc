-- What a search knows after each step of the code.
use Rattle.std.proofs.Common.{◌≡◌, ℕ, zero, suc, ◌+◌, ◌-◌, ◌<◌, ◌≤◌, ◌==◌, ◌&&◌, ◌||◌, Bool, true, false, not, List, []}
use Rattle.std.proofs.Common.{◌∷◌, ◌++◌, length, map, get_or, Option, Some, None, refl, sym, subst, ◌∙◌, inl, inr}
use Rattle.std.proofs.Common.{arith}
use Rattle.std.specs.Prelude.{IsSome, is_some, bit_and, bit_or, slice_index, slice_set, nat_lt, if◌then◌else◌}
use Rattle.std.specs.Option.{is_none}
use Rattle.std.proofs.lemmas.Bool.Decides.{nat_tests}
use Rattle.am_text.specs.declared.range.Range.{Range}
use Rattle.re_syntax.specs.Tree.{Tree}
use Rattle.re_spans.specs.Choice.{is_at}
use Rattle.re_spans.proofs.Chosen.{found_first, found_last, firsts_between, lasts_between}
use Rattle.re_sets.specs.Readings.{Reading, forward, backward, mirrored}
use Rattle.re_sets.specs.Rows.{Row, Seen, seen, seen_at, ended, onward, solid, parted, move_rows, new_row}
use Rattle.re_sets.specs.Tables.{Table, IsTable, text_of, meet, join_rows, take_away}
use Rattle.re_sets.specs.Searches.{Known, Followed, Reached, FindsIn, from_end, found_from_end}
use Rattle.re_sets.proofs.Telling.{if_from, on_minus, on_minus_in}
use Rattle.re_sets.proofs.Wording.{on_zero}
use Rattle.std.specs.Int.Bits.{or_zero_l}
use Rattle.re_machine.proofs.Joining.{same_set}
use Rattle.re_sets.proofs.Searching.{known_skip, known_step, known_end, known_stops, known_alone, followed_step}
use Rattle.re_sets.proofs.Found as forth
use Rattle.re_sets.proofs.FoundBack as back
use Rattle.re_machine.specs.Contexts.{IsContextOf, IsNeverNull, NoneBegins}
use Rattle.re_machine.specs.Threads.{rows_of, one_row, move_by, begin_by, IsAlone}
use Rattle.re_machine.specs.Ways.{reading}
use Rattle.re_machine.specs.declared.way.Way.{Way}
use Rattle.re_machine.specs.declared.way.Way.TheVariants.{On, Back}
use Rattle.re_machine.specs.Found.{FindsFirst, FindsLast}
use Rattle.re_machine.specs.declared.contexts.Context.{Context}
use Rattle.re_machine.specs.declared.rows.Thread.{Thread}

-- what the code sees at a place is what the tables tell
pub seen_text : (t : Table) (w : Reading) (no_null : Option ℕ) (k : ℕ) (rows : List Row) (best : Option Range)
    (null : Bool) (last : ℕ) (s : Seen) → null ≡ (text_of t w no_null).null k → last ≡ t.last (w.here k)
    → s ≡ seen_at k null rows best (ended (λ x. meet t.size x last) rows) → s ≡ seen (text_of t w no_null) k rows best
seen_text t w no_null k rows best null last s n l e =
    subst (λ (z : ℕ). s ≡ seen_at k ((text_of t w no_null).null k) rows best (ended (λ x. meet t.size x z) rows)) l
    (subst (λ (b : Bool). s ≡ seen_at k b rows best (ended (λ x. meet t.size x last) rows)) n e)

-- and so is what it has after a rune
module _ {S : Type 0} (bits : S → ℕ) where
  onward_by : (t : Table) (w : Reading) (no_null : Option ℕ) (k : ℕ) (row : ℕ → ℕ) (first takes : ℕ) (s : Seen)
      (next : List Row) → row ≡ t.row (w.here k) → first ≡ t.first (w.here k) → takes ≡ t.takes (w.rune k)
      → nat_lt k w.count ≡ true → next ≡ solid (parted take_away bit_or
      (move_rows (λ x. bit_and (join_rows row x t.size) takes) s.rows ++ new_row s.enters k (bit_and first takes)) 0)
      → next ≡ solid (onward (text_of t w no_null) k s)
  onward_by t w no_null k row first takes s next r f d l e =
      let P : Bool → Type 0 = λ b. next ≡ solid (parted take_away bit_or
      (move_rows (λ x. if b then bit_and (join_rows (t.row (w.here k)) x t.size) (t.takes (w.rune k)) else 0) s.rows
      ++ new_row s.enters k (if b then bit_and (t.first (w.here k)) (t.takes (w.rune k)) else 0)) 0) in
      let Q : ℕ → Type 0 = λ z. next ≡ solid (parted take_away bit_or
      (move_rows (λ x. bit_and (join_rows (t.row (w.here k)) x t.size) z) s.rows
      ++ new_row s.enters k (bit_and (t.first (w.here k)) z)) 0) in
      let R : ℕ → Type 0 = λ z. next ≡ solid (parted take_away bit_or
      (move_rows (λ x. bit_and (join_rows (t.row (w.here k)) x t.size) takes) s.rows
      ++ new_row s.enters k (bit_and z takes)) 0) in
      let T : (ℕ → ℕ) → Type 0 = λ z. next ≡ solid (parted take_away bit_or
      (move_rows (λ x. bit_and (join_rows z x t.size) takes) s.rows ++ new_row s.enters k (bit_and first takes))
      0) in
      subst P (sym l) (subst Q d (subst R f (subst T r e)))

  pub onward_text : (t : Table) (w : Reading) (no_null : Option ℕ) (k : ℕ) (c : Context S) (takes : ℕ) (s : Seen)
      (next : List Row) → IsContextOf bits t (w.here k) c → takes ≡ t.takes (w.rune k) → k < w.count
      → next ≡ solid (parted take_away bit_or (move_rows (move_by bits t.size c takes) s.rows
      ++ new_row s.enters k (begin_by bits c takes)) 0) → next ≡ solid (onward (text_of t w no_null) k s)
  onward_text t w no_null k c takes s next is d l e =
      onward_by t w no_null k (slice_index (map bits c.follow.items)) (bits c.first) takes s next is.row_is is.first_is
      d (grind (arith, nat_tests, l)) e

module _ (r : Tree) (t : Table) (w : Reading) (no_null : Option ℕ) (low : ℕ) (is : IsTable r t) where
  pub step_known : (k : ℕ) (rows : List Row) (best : Option Range) (s : Seen) (next : List Row) (found : Option Range)
      → low ≤ k → s ≡ seen (text_of t w no_null) k rows best → next ≡ solid (onward (text_of t w no_null) k s)
      → found ≡ s.best → Reached r t w no_null low k rows best → Known r w no_null low (k + 1) next found
  step_known k rows best s next found above e n f known =
      let T = text_of t w no_null in
      let here = known_step r t w no_null low is k rows best above known in
      let there = subst (λ (z : Seen). Known r w no_null low (k + 1) (solid (onward T k z)) z.best) (sym e) here in
      subst (λ (z : List Row). Known r w no_null low (k + 1) z found) (sym n)
      (subst (λ (z : Option Range). Known r w no_null low (k + 1) (solid (onward T k s)) z) (sym f) there)

  pub end_known : (k : ℕ) (rows : List Row) (best : Option Range) (s : Seen) → low ≤ k
      → s ≡ seen (text_of t w no_null) k rows best → Reached r t w no_null low k rows best
      → FindsIn r w no_null low k s.best
  end_known k rows best s above e known = subst (λ (z : Seen). FindsIn r w no_null low k z.best) (sym e)
      (known_end r t w no_null low is k rows best above known)

  over_by : (k high : ℕ) (rows : List Row) (best : Option Range) → k ≤ high + 1 → rows ≡ [] → IsSome best
      → Known r w no_null low k rows best → FindsIn r w no_null low high best
  over_by k high rows None l e s known = absurd (cc s)
  over_by k high rows (Some b) l e s known = known_stops r t w no_null low is k high b
      (subst (λ (z : List Row). Known r w no_null low k z (Some b)) e known) l

  pub over_known : (k high : ℕ) (rows : List Row) (best : Option Range) → k ≤ high + 1 → rows ≡ [] → IsSome best
      → Known r w no_null low k rows best → FindsIn r w no_null low high best
  over_known = over_by

  skip_one : (k : ℕ) → low ≤ k → IsNeverNull t → NoneBegins t (w.rune k) → Known r w no_null low k [] None
      → Known r w no_null low (k + 1) [] None
  skip_one k above never none known =
      let n : (t.null (w.here k) && not (is_at no_null k)) ≡ false = rw (never (w.here k)) refl in
      known_skip r t w no_null low is k above n (λ m h. none (w.here k) m
      (if_from (nat_lt k w.count) (bit_and (t.first (w.here k)) (t.takes (w.rune k))) m h).1) known

  skipped : (n k : ℕ) → low ≤ k → IsNeverNull t → ((m : ℕ) → k ≤ m → m < k + n → NoneBegins t (w.rune m))
      → Known r w no_null low k [] None → Known r w no_null low (k + n) [] None
  skipped zero k above never none known = let e : k ≡ k + zero = omega arith in
      subst (λ (z : ℕ). Known r w no_null low z [] None) e known
  skipped (suc n) k above never none known =
      let e : k + 1 + n ≡ k + suc n = omega arith in
      subst (λ (z : ℕ). Known r w no_null low z [] None) e (skipped n (k + 1) (omega (arith, above)) never
      (λ m a b. none m (omega (arith, a)) (omega (arith, b))) (skip_one k above never
      (none k (omega arith) (omega arith)) known))

  pub skip_known : (k at : ℕ) (rows : List Row) (best : Option Range) → low ≤ k → k ≤ at → rows ≡ []
      → best ≡ None → IsNeverNull t → ((m : ℕ) → k ≤ m → m < at → NoneBegins t (w.rune m))
      → Known r w no_null low k rows best → Known r w no_null low at rows best
  skip_known k at rows best above l e f never none known =
      let s : k + (at - k) ≡ at = omega (arith, l) in
      let here = subst (λ (z : List Row). Known r w no_null low k z None) e
      (subst (λ (z : Option Range). Known r w no_null low k rows z) f known) in
      let there = subst (λ (z : ℕ). Known r w no_null low z [] None) s
      (skipped (at - k) k above never (λ m a b. none m a (omega (arith, b, l))) here) in
      subst (λ (z : List Row). Known r w no_null low at z best) (sym e)
      (subst (λ (z : Option Range). Known r w no_null low at [] z) (sym f) there)

-- ---- the answers

pub finds_first : (r : Tree) (text : List ℕ) (from end : ℕ) (no_null : Option ℕ) (o : Option Range)
    → FindsIn r (forward text) no_null from end o → FindsFirst r text from end no_null o
finds_first r text from end no_null o f =
    let found = forth.some_is r text no_null from end o f in
    let none = forth.none_is r text no_null from end o f in
    record {
      found = found;
      none = none;
      value = found_first r text from end no_null o found none;
      inside = firsts_between r text from end no_null o found;
    }

pub finds_last : (r : Tree) (text : List ℕ) (start to : ℕ) (no_null : Option ℕ) (o : Option Range) → start ≤ to
    → to ≤ length text → FindsIn (mirrored r) (backward text) (from_end (length text) no_null) (length text - to)
    (length text - start) o → FindsLast r text start to no_null (found_from_end (length text) o)
finds_last r text start to no_null o order within f =
    let found = back.some_is r text no_null start to order within o f in
    let none = back.none_is r text no_null start to order within o f in
    record {
      found = found;
      none = none;
      value = found_last r text start to no_null (found_from_end (length text) o) found none;
      inside = lasts_between r text start to no_null (found_from_end (length text) o) found;
    }

pub count_read : (way : Way) (text : List ℕ) → (reading way text).count ≡ length text
count_read On text = refl
count_read Back text = refl

-- ---- one row alone

take_none : (m : ℕ) → take_away m 0 ≡ m
take_none m = same_set (take_away m 0) m (λ n h. on_minus_in m 0 n h)
    (λ n h. elim (on_minus m 0 n h) [ inl y ↦ y | inr z ↦ absurd (on_zero n z) ])

solid_one : (start m : ℕ) (b : Bool) → (m == 0) ≡ b → (m ≡ 0 → ⊥) → (if b then [] else one_row start m) ≡ one_row start
    m
solid_one start m true e f = absurd (f (grind (arith, nat_tests, e)))
solid_one start m false e f = refl

lone : (start m : ℕ) → (m ≡ 0 → ⊥) → solid (one_row start (take_away m 0)) ≡ one_row start m
lone start m f = subst (λ (z : ℕ). solid (one_row start z) ≡ one_row start m) (sym (take_none m))
    (solid_one start m (m == 0) refl f)

-- the row, and one that has nothing
lone_two : (start m k b : ℕ) → (m ≡ 0 → ⊥) → take_away b m ≡ 0 → solid (one_row start (take_away m 0)
    ++ one_row k (take_away b (bit_or 0 m))) ≡ one_row start m
lone_two start m k b f e =
    let z : take_away b (bit_or 0 m) ≡ 0 = subst (λ (x : ℕ). take_away b x ≡ 0) (sym (or_zero_l m)) e in
    let P : ℕ → ℕ → Type 0 = λ x y. solid (one_row start x ++ one_row k y) ≡ one_row start m in
    subst (λ (x : ℕ). P x (take_away b (bit_or 0 m))) (sym (take_none m))
    (subst (λ (y : ℕ). P m y) (sym z) (two_by start m k (m == 0) refl f))
  where
    two_by : (start m k : ℕ) (b : Bool) → (m == 0) ≡ b → (m ≡ 0 → ⊥)
        → (if b then [] else record { start = start; set = m } ∷ []) ≡ one_row start m
    two_by start m k true e f = absurd (f (grind (arith, nat_tests, e)))
    two_by start m k false e f = refl

module _ {S : Type 0} (bits : S → ℕ) (r : Tree) (t : Table) (w : Reading) (no_null : Option ℕ) (low : ℕ)
    (is : IsTable r t) where
  abbrev pub Steps : ℕ → ℕ → ℕ → ℕ → Option Range → Type 0
  Steps k start set next best = Known r w no_null low k (one_row start set) best
      → Known r w no_null low (k + 1) (one_row start next) best

  -- the step of one row, as the tables tell it
  module _ (k start set next : ℕ) (c : Context S) (takes : ℕ) (above : low ≤ k) (inside : k < w.count)
      (of : IsContextOf bits t (w.here k) c) (is_takes : takes ≡ t.takes (w.rune k)) where
    lone_some : (b : Range) → IsAlone bits t.size c takes set false next → Steps k start set next (Some b)
    lone_some b a known =
        let s : Seen = record { rows = one_row start set; best = Some b; enters = false } in
        let seen_is : s ≡ seen_at k ((text_of t w no_null).null k) (one_row start set) (Some b)
        (ended (λ x. meet t.size x (bits c.last)) (one_row start set)) = rw a.goes_on refl in
        let e = seen_text t w no_null k (one_row start set) (Some b) ((text_of t w no_null).null k) (bits c.last) s refl
        of.last_is seen_is in
        let m = move_by bits t.size c takes set in
        let moved_is : one_row start next ≡ solid (parted take_away bit_or
        (move_rows (move_by bits t.size c takes) s.rows ++ new_row s.enters k (begin_by bits c takes)) 0) =
        subst (λ (z : ℕ). one_row start z ≡ solid (one_row start (take_away m 0))) (sym a.next_is)
        (sym (lone start m (λ z. a.some (a.next_is ∙ z)))) in
        step_known r t w no_null low is k (one_row start set) (Some b) s (one_row start next) (Some b) above e
        (onward_text bits t w no_null k c takes s (one_row start next) of is_takes inside moved_is) refl (inl known)

    lone_none : IsAlone bits t.size c takes set true next → Steps k start set next None
    lone_none a known =
        let s : Seen = record { rows = one_row start set; best = None; enters = true } in
        let no : (text_of t w no_null).null k ≡ false = subst (λ (b : Bool). (b && not (is_at no_null k)) ≡ false)
        (of.null_is) (rw (a.no_null refl) refl) in
        let seen_is : s ≡ seen_at k ((text_of t w no_null).null k) (one_row start set) None
        (ended (λ x. meet t.size x (bits c.last)) (one_row start set)) = rw (a.goes_on, no) refl in
        let e = seen_text t w no_null k (one_row start set) None ((text_of t w no_null).null k) (bits c.last) s refl
        of.last_is seen_is in
        let m = move_by bits t.size c takes set in
        let b = begin_by bits c takes in
        let other : take_away b m ≡ 0 = subst (λ (z : ℕ). take_away b z ≡ 0) a.next_is (a.no_other refl) in
        let moved_is : one_row start next ≡ solid (parted take_away bit_or
        (move_rows (move_by bits t.size c takes) s.rows ++ new_row s.enters k b) 0) =
        subst (λ (z : ℕ). one_row start z ≡ solid (one_row start (take_away m 0)
        ++ one_row k (take_away b (bit_or 0 m)))) (sym a.next_is)
        (sym (lone_two start m k b (λ z. a.some (a.next_is ∙ z)) other)) in
        step_known r t w no_null low is k (one_row start set) None s (one_row start next) None above e
        (onward_text bits t w no_null k c takes s (one_row start next) of is_takes inside moved_is) refl (inl known)

    pub lone_known : (best : Option Range) (is_idle : Bool) → is_idle ≡ is_none best
        → IsAlone bits t.size c takes set is_idle next → Steps k start set next best
    lone_known None is_idle e a = lone_none (subst (λ (b : Bool). IsAlone bits t.size c takes set b next) e a)
    lone_known (Some b) is_idle e a = lone_some b (subst (λ (b : Bool). IsAlone bits t.size c takes set b next) e a)

-- ---- one row followed alone

module _ {S : Type 0} (bits : S → ℕ) (r : Tree) (t : Table) (w : Reading) (no_null : Option ℕ) (low : ℕ)
    (is : IsTable r t) where
  moved_text : (k set next : ℕ) (row : ℕ → ℕ) (takes : ℕ) → row ≡ t.row (w.here k) → takes ≡ t.takes (w.rune k)
      → nat_lt k w.count ≡ true → next ≡ bit_and (join_rows row set t.size) takes
      → next ≡ (text_of t w no_null).move k set
  moved_text k set next row takes r d l e =
      let P : Bool → Type 0 = λ b. next ≡ (if b then bit_and (join_rows (t.row (w.here k)) set t.size)
      (t.takes (w.rune k)) else 0) in
      let Q : ℕ → Type 0 = λ z. next ≡ bit_and (join_rows (t.row (w.here k)) set t.size) z in
      let T : (ℕ → ℕ) → Type 0 = λ z. next ≡ bit_and (join_rows z set t.size) takes in
      subst P (sym l) (subst Q d (subst T r e))

  pub follow_known : (k start set next : ℕ) (c : Context S) (takes : ℕ) → k < w.count → IsContextOf bits t (w.here k) c
      → takes ≡ t.takes (w.rune k) → meet t.size set (bits c.last) ≡ false →
      next ≡ bit_and (join_rows (slice_index (map bits c.follow.items)) set t.size) takes
      → Followed r w no_null low k start set → Followed r w no_null low (k + 1) start next
  follow_known k start set next c takes inside of d e n f =
      let ends : (text_of t w no_null).ends k set ≡ false = subst (λ (z : ℕ). meet t.size set z ≡ false) of.last_is e in
      let move = moved_text k set next (slice_index (map bits c.follow.items)) takes of.row_is d
      (grind (arith, nat_tests, inside)) n in
      subst (λ (z : ℕ). Followed r w no_null low (k + 1) start z) (sym move)
      (followed_step r t w no_null low is k start set ends f)

  -- the one row of a list gets the letters that it has where it ends
  pub lead_known : (k at : ℕ) (xs : List (Thread S)) (x y : Thread S) (set : S) (best best' : Option Range)
      → length xs ≡ 1 → best ≡ None → x ≡ get_or xs 0 x → y ≡ get_or xs 0 y
      → ((start : ℕ) → Followed r w no_null low k start (bits x.set) → Followed r w no_null low at start (bits set))
      → meet t.size (bits set) (t.last (w.here at)) ≡ true → Known r w no_null low k (rows_of bits xs) best
      → Reached r t w no_null low at (rows_of bits (slice_set xs 0 (record { start = y.start; set = set }))) best'
  lead_known k at [] x y set best best' l n e f g m known = absurd (omega (arith, l))
  lead_known k at (z ∷ []) x y set best best' l n e f g m known =
      let one = subst (λ (o : Option Range). Known r w no_null low k (one_row z.start (bits z.set)) o) n known in
      let here = known_alone r t w no_null low is k z.start (bits z.set) one in
      let there = g z.start (subst (λ v. Followed r w no_null low k z.start (bits v.set)) (sym e) here) in
      inr (
        record { start = y.start; set = bits set },
        refl,
        subst (λ v. Followed r w no_null low at v.start (bits set))
            (sym f) there,
        m,
      )
  lead_known k at (z ∷ (u ∷ us)) x y set best best' l n e f g m known = absurd (omega (arith, l))

-- nothing ends or begins
pub is_alone : {S : Type 0} (bits : S → ℕ) (size : ℕ) (c : Context S) (takes set : ℕ) (is_idle : Bool) (next : ℕ)
    → (meet size set (bits c.last) || (is_idle && c.null)) ≡ false → next ≡ move_by bits size c takes set
    → (next == 0) ≡ false → (is_idle && not (take_away (begin_by bits c takes) next == 0)) ≡ false → IsAlone bits size c
    takes set is_idle next
is_alone bits size c takes set is_idle next e n z o = record {
  goes_on = (parts (meet size set (bits c.last)) (is_idle && c.null) e).0;
  no_null = λ i. idle is_idle c.null i (parts (meet size set (bits c.last)) (is_idle && c.null) e).1;
  next_is = n;
  some = λ f. grind (arith, nat_tests, z, f);
  no_other = λ i.
      let y = idle is_idle (not (take_away (begin_by bits c takes) next == 0)) i o in
      nothing (take_away (begin_by bits c takes) next) (take_away (begin_by bits c takes) next == 0) refl y;
}
  where
    parts : (x y : Bool) → (x || y) ≡ false → (x ≡ false) × (y ≡ false)
    parts true y e = absurd (cc e)
    parts false y e = (refl, e)

    idle : (x y : Bool) → x ≡ true → (x && y) ≡ false → y ≡ false
    idle true y i e = e
    idle false y i e = absurd (cc i)

    nothing : (m : ℕ) (b : Bool) → (m == 0) ≡ b → not b ≡ false → m ≡ 0
    nothing m true e f = grind (arith, nat_tests, e)
    nothing m false e f = absurd (cc f)

pub idle_is : (b : Bool) (o : Option Range) → is_some o ≡ not b → b ≡ is_none o
idle_is true None e = refl
idle_is true (Some x) e = absurd (cc e)
idle_is false None e = absurd (cc e)
idle_is false (Some x) e = refl

-- the one row of a list gets other letters
pub glide_known : {S : Type 0} (bits : S → ℕ) (r : Tree) (w : Reading) (no_null : Option ℕ) (low k at : ℕ)
    (xs : List (Thread S)) (x y : Thread S) (set : S) (best : Option Range) → length xs ≡ 1 → x ≡ get_or xs 0 x
    → y ≡ get_or xs 0 y → ((start : ℕ) → Known r w no_null low k (one_row start (bits x.set)) best
    → Known r w no_null low at (one_row start (bits set)) best) → Known r w no_null low k (rows_of bits xs) best
    → Known r w no_null low at (rows_of bits (slice_set xs 0 (record { start = y.start; set = set }))) best
glide_known bits r w no_null low k at [] x y set best l e f g known = absurd (omega (arith, l))
glide_known bits r w no_null low k at (z ∷ []) x y set best l e f g known =
    let here = subst (λ v. Known r w no_null low k (one_row z.start (bits v.set)) best) (sym e) known in
    subst (λ v. Known r w no_null low at (one_row v.start (bits set)) best) (sym f) (g z.start here)
glide_known bits r w no_null low k at (z ∷ (u ∷ us)) x y set best l e f g known = absurd (omega (arith, l))
