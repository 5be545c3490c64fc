-- The rows of a search as a list.
use Rattle.std.proofs.Common.{◌≡◌, ℕ, zero, suc, ◌+◌, ◌<◌, ◌==◌, Bool, true, false, List, [], ◌∷◌, ◌++◌, length, get_or}
use Rattle.std.proofs.Common.{take, Option, Some, None, refl, sym, ap, subst, ◌∙◌, append_assoc, arith}
use Rattle.std.specs.Prelude.{slice_index, bit_or, is_some, if◌then◌else◌}
use Rattle.std.proofs.lemmas.List.{get_or-map}
use Rattle.am_text.specs.declared.range.Range.{Range}
use Rattle.re_sets.specs.Rows.{Row, seen_at, ended, solid, parted, move_rows}
use Rattle.re_sets.specs.Tables.{take_away}
use Rattle.re_machine.specs.Threads.{rows_of, starts_of, sets_of, EndsAt, one_row}
use Rattle.re_machine.specs.declared.rows.Thread.{Thread}

module _ {S : Type 0} (bits : S → ℕ) where
  ended_none : (e : ℕ → Bool) (xs : List (Thread S)) → ((m : ℕ) → m < length xs
      → e (slice_index (sets_of bits xs) m) ≡ false) → ended e (rows_of bits xs) ≡ None
  ended_none e [] f = refl
  ended_none e (x ∷ xs) f =
      let here : e (bits x.set) ≡ false = f 0 (omega arith) in
      let rest = ended_none e xs (λ m l. f (suc m) (omega (arith, l))) in
      rw here (rw rest refl)

  ended_some : (e : ℕ → Bool) (xs : List (Thread S)) (n : ℕ) → n < length xs
      → e (slice_index (sets_of bits xs) n) ≡ true → ((m : ℕ) → m < n → e (slice_index (sets_of bits xs) m) ≡ false)
      → ended e (rows_of bits xs) ≡ Some (slice_index (starts_of bits xs) n, rows_of bits (take (suc n) xs))
  ended_some e [] n l t f = absurd (omega (arith, l))
  ended_some e (x ∷ xs) zero l t f = let here : e (bits x.set) ≡ true = t in rw here refl
  ended_some e (x ∷ xs) (suc n) l t f =
      let here : e (bits x.set) ≡ false = f 0 (omega arith) in
      let rest = ended_some e xs n (omega (arith, l)) t (λ m k. f (suc m) (omega (arith, k))) in
      rw here (rw rest refl)

  pub none_ended : (e : ℕ → Bool) (xs : List (Thread S)) → EndsAt bits e xs None → ended e (rows_of bits xs) ≡ None
  none_ended e xs f = ended_none e xs f

  pub row_ended : (e : ℕ → Bool) (xs : List (Thread S)) (n : ℕ) → EndsAt bits e xs (Some n)
      → ended e (rows_of bits xs) ≡ Some (slice_index (starts_of bits xs) n, rows_of bits (take (n + 1) xs))
  row_ended e xs n f =
      let s : suc n ≡ n + 1 = omega arith in
      subst (λ (z : ℕ). ended e (rows_of bits xs) ≡ Some (slice_index (starts_of bits xs) n, rows_of bits (take z xs)))
      s (ended_some e xs n f.0 f.1 f.2)

  pub set_there : (xs : List (Thread S)) (n : ℕ) (d : Thread S) → n < length xs
      → slice_index (sets_of bits xs) n ≡ bits (get_or xs n d).set
  set_there xs n d l = get_or-map (λ (y : Thread S). bits y.set) xs n d 0 l

  pub start_there : (xs : List (Thread S)) (n : ℕ) (x : Thread S) → n < length xs → x ≡ get_or xs n x
      → slice_index (starts_of bits xs) n ≡ x.start
  start_there xs n x l e = get_or-map (λ (y : Thread S). y.start) xs n x 0 l ∙ sym (ap (λ (y : Thread S). y.start) e)

-- no row ended
pub seen_kept : (k : ℕ) (null : Bool) (rows : List Row) (best : Option Range)
    → is_some best ≡ true → (record { rows = rows; best = best; enters = false }) ≡ seen_at k null rows best None
seen_kept k null rows None e = absurd (cc e)
seen_kept k null rows (Some b) e = refl

pub seen_null : (k : ℕ) (null : Bool) (rows : List Row) (best : Option Range)
    → is_some best ≡ false → null ≡ true → (record {
      rows = rows;
      best = Some (record { q0 = k; q1 = k });
      enters =
          true;
    }) ≡ seen_at k null rows best None
seen_null k null rows None e f = rw f refl
seen_null k null rows (Some b) e f = absurd (cc e)

pub seen_none : (k : ℕ) (null : Bool) (rows : List Row) (best : Option Range)
    → is_some best ≡ false → null ≡ false → (record { rows = rows; best = best; enters = true }) ≡ seen_at k null rows
    best None
seen_none k null rows None e f = rw f refl
seen_none k null rows (Some b) e f = absurd (cc e)

solid_cons : (x : Row) (xs : List Row) → solid (x ∷ xs) ≡ solid (x ∷ []) ++ solid xs
solid_cons x xs = go (x.set == 0)
  where
    go : (b : Bool) → (if b then solid xs else x ∷ solid xs) ≡ (if b then [] else x ∷ []) ++ solid xs
    go true = refl
    go false = refl

-- one row goes over a rune, and then the others
pub advanced : (f : ℕ → ℕ) (x : Row) (xs more : List Row) (seen : ℕ)
    → solid (parted take_away bit_or (move_rows f (x ∷ xs) ++ more) seen)
    ≡ solid (one_row x.start (take_away (f x.set) seen)) ++ solid (parted take_away bit_or (move_rows f xs ++ more)
    (bit_or seen (f x.set)))
advanced f x xs more seen = solid_cons (record { start = x.start; set = take_away (f x.set) seen })
    (parted take_away bit_or (move_rows f xs ++ more) (bit_or seen (f x.set)))

pub advanced_all : (f : ℕ → ℕ) (done : List Row) (x : Row) (xs : List Row) (seen set : ℕ) (next : List Row) (seen' : ℕ)
    (whole : List Row → List Row) → set ≡ f x.set → next ≡ done ++ solid (one_row x.start (take_away set seen))
    → seen' ≡ bit_or seen set → ((more : List Row) → done ++ solid
    (parted take_away bit_or (move_rows f (x ∷ xs) ++ more) seen) ≡ whole more) → (more : List Row)
    → next ++ solid (parted take_away bit_or (move_rows f xs ++ more) seen') ≡ whole more
advanced_all f done x xs seen set next seen' whole e n s h more =
    let one = solid (one_row x.start (take_away (f x.set) seen)) in
    let rest = solid (parted take_away bit_or (move_rows f xs ++ more) (bit_or seen (f x.set))) in
    let all : done ++ (one ++ rest) ≡ whole more = ap (λ (z : List Row). done ++ z) (sym (advanced f x xs more seen))
    ∙ h more in
    let two : (done ++ one) ++ rest ≡ whole more = append_assoc done one rest ∙ all in
    let set_is : (done ++ solid (one_row x.start (take_away set seen)))
    ++ solid (parted take_away bit_or (move_rows f xs ++ more) (bit_or seen set)) ≡ whole more =
    subst (λ (z : ℕ). (done ++ solid (one_row x.start (take_away z seen)))
    ++ solid (parted take_away bit_or (move_rows f xs ++ more) (bit_or seen z)) ≡ whole more) (sym e) two in
    subst (λ (z : List Row). z ++ solid (parted take_away bit_or (move_rows f xs ++ more) seen') ≡ whole more) (sym n)
    (subst (λ (z : ℕ). (done ++ solid (one_row x.start (take_away set seen)))
    ++ solid (parted take_away bit_or (move_rows f xs ++ more) z) ≡ whole more) (sym s) set_is)
