-- Numbers, digit by digit.
use Rattle.std.proofs.Common.{◌≡◌, ℕ, ◌+◌, ◌-◌, ◌*◌, ◌^◌, ◌<◌, ◌≤◌, ◌&&◌, ◌||◌, ◌==◌, ◌⊎◌, Bool, true, false, List, []}
use Rattle.std.proofs.Common.{◌∷◌, ◌++◌, length, get_or, drop, Option, Some, None, refl, sym, ap, ◌∙◌, inl, inr, arith}
use Rattle.std.proofs.Common.{append-nil, append_assoc}
use Rattle.std.specs.Prelude.{slice_range, nat_lt, Result, Ok, Err, IfOk, IfErr, if◌then◌else◌}
use Rattle.std.specs.Char.{is_ascii_digit}
use Rattle.am_text.specs.Number.{number_after}
use Rattle.addr_syntax.specs.Marks.{next_of, is_digit}
use Rattle.addr_syntax.specs.Pieces.{IsNumber}
use Rattle.addr_syntax.specs.Scan.{IsNumberAt, IsBadNumber, NumberFails, Continues}
use Rattle.addr_syntax.specs.declared.address.SynFault.{SynFault}
use Rattle.addr_syntax.specs.declared.address.SynFault.TheVariants.{Bad}
use Rattle.std.proofs.lemmas.Bool.{eqb-true, eqb-false}
use Rattle.addr_syntax.proofs.Slices.{slice_more, slice_length, next_at, drop_end, cut_twice}

-- a digit goes on with the number, and what isn't one or makes it too large doesn't
abbrev pub goes : ℕ → ℕ → Bool
goes n d = is_ascii_digit d && nat_lt (n * 10 + (d - 48)) (2 ^ 64)

pub step_true : (n d : ℕ) (ds : List ℕ) → goes n d ≡ true → number_after n (d ∷ ds) ≡ number_after (n * 10 + (d - 48))
    ds
unfolding number_after
step_true n d ds e = rw e refl

pub step_false : (n d : ℕ) (ds : List ℕ) → goes n d ≡ false → number_after n (d ∷ ds) ≡ None
unfolding number_after
step_false n d ds e = rw e refl

pub number_none : (n : ℕ) → number_after n [] ≡ Some n
unfolding number_after
number_none n = refl

number_snoc_at : (m d : ℕ) (ds : List ℕ) (c n : ℕ) → ((k : ℕ) → number_after k ds ≡ Some n
    → number_after k (ds ++ c ∷ []) ≡ number_after n (c ∷ [])) → (b : Bool)
    → goes m d ≡ b → number_after m (d ∷ ds) ≡ Some n → number_after m (d ∷ ds ++ c ∷ []) ≡ number_after n (c ∷ [])
number_snoc_at m d ds c n f true t e = step_true m d (ds ++ c ∷ []) t
    ∙ f (m * 10 + (d - 48)) (sym (step_true m d ds t) ∙ e)
number_snoc_at m d ds c n f false t e = let g = step_false m d ds t in absurd cc

pub number_snoc : (xs : List ℕ) (m c n : ℕ) → number_after m xs ≡ Some n
    → number_after m (xs ++ c ∷ []) ≡ number_after n (c ∷ [])
number_snoc [] m c n e =
    let f = number_none m in
    let same : m ≡ n = cc in
    ap (λ k. number_after k (c ∷ [])) same
number_snoc (d ∷ ds) m c n e = number_snoc_at m d ds c n (λ k g. number_snoc ds k c n g) (goes m d) refl e

-- the digits from one place to another, and one rune more
pub digits_more : (text : List ℕ) (from at n : ℕ) → from ≤ at → at < length text
    → number_after 0 (slice_range text from at) ≡ Some n → number_after 0
    (slice_range text from (at + 1)) ≡ number_after n (get_or text at 0 ∷ [])
digits_more text from at n l m e = rw (slice_more text from at l m)
    (number_snoc (slice_range text from at) 0 (get_or text at 0) n e)

pub is_number : (n : ℕ) (xs : List ℕ) (next : Option ℕ) → 0 < length xs → number_after 0 xs ≡ Some n
    → is_digit next ≡ false → IsNumber n xs next
is_number n [] next l e f = absurd (omega arith)
is_number n (x ∷ xs) next l e f = (e, f)

-- how a number ends at a place: at the end of the text, or at a rune that doesn't go on with it
abbrev pub Stops : List ℕ → ℕ → ℕ → Bool → Type 0
Stops text at n digit =
    ((at ≡ length text) × (digit ≡ false)) ⊎ ((at < length text) × (digit ≡ is_ascii_digit (get_or text at 0))
    × (number_after n (get_or text at 0 ∷ []) ≡ None))

next_is : (text : List ℕ) (at n : ℕ) (digit : Bool) → Stops text at n digit → is_digit (next_of (drop at text)) ≡ digit
next_is text at n digit (inl p) = rw (p.0, drop_end text) (sym p.1)
next_is text at n digit (inr p) = rw (next_at text at p.0) (sym p.1)

pub number_ends : (text : List ℕ) (from at n : ℕ) (digit : Bool) → from < at → at ≤ length text
    → number_after 0 (slice_range text from at) ≡ Some n → Stops text at n digit
    → digit ≡ false → IsNumberAt text from n at
number_ends text from at n digit l m e s f = record {
  order = l;
  within = m;
  written = is_number n (slice_range text from at) (next_of (drop at text))
      (omega (arith, slice_length text from at (omega arith) m)) e (next_is text at n digit s ∙ f);
}

pub number_breaks : (text : List ℕ) (from at n : ℕ) (digit : Bool) → from ≤ at → at ≤ length text
    → number_after 0 (slice_range text from at) ≡ Some n → Stops text at n digit → (from < at → digit ≡ true)
    → IsBadNumber text from at
number_breaks text from at n digit l m e (inl p) f = record {
  order = l;
  within = m;
  digits = (n, e);
  some = λ k. let g = f k in let h = p.1 in absurd cc;
  stops = λ k. absurd (omega (arith, p.0));
  digit = λ k. let g = f k in let h = p.1 in absurd cc;
}
number_breaks text from at n digit l m e (inr p) f = record {
  order = l;
  within = m;
  digits = (n, e);
  some = λ k. p.0;
  stops = λ k. digits_more text from at n l p.0 e ∙ p.2;
  digit = λ k. sym p.1 ∙ f k;
}

-- what `number_to` answers
pub ended_here : (text : List ℕ) (from at n : ℕ) (digit : Bool) → from ≤ at → at ≤ length text
    → number_after 0 (slice_range text from at) ≡ Some n → Stops text at n digit → (r : Result (ℕ × ℕ) SynFault)
    → r ≡ (if (from == at) || digit then Err (Bad at) else Ok (n, at)) → IfOk r (λ a. IsNumberAt text from a.0 a.1)
    × IfErr r (NumberFails text from)
ended_here text from at n digit l m e s r is = go (from == at) refl digit refl
  where
    go : (b : Bool) → (from == at) ≡ b → (c : Bool) → digit ≡ c → IfOk r (λ a. IsNumberAt text from a.0 a.1)
        × IfErr r (NumberFails text from)
    go true t c u =
        let here : r ≡ Err (Bad at) = is ∙ ap (λ (b : Bool). if b || digit then Err (Bad at) else Ok (n, at)) t in
        rw here (tt, number_breaks text from at n digit l m e s (λ k. absurd (omega (arith, eqb-true from at t))))
    go false t true u =
        let here : r ≡ Err (Bad at) = is ∙ ap (λ (b : Bool). if b || digit then Err (Bad at) else Ok (n, at)) t
        ∙ ap (λ (b : Bool). if b then Err (Bad at) else Ok (n, at)) u in
        rw here (tt, number_breaks text from at n digit l m e s (λ k. u))
    go false t false u =
        let here : r ≡ Ok (n, at) = is ∙ ap (λ (b : Bool). if b || digit then Err (Bad at) else Ok (n, at)) t
        ∙ ap (λ (b : Bool). if b then Err (Bad at) else Ok (n, at)) u in
        rw here (number_ends text from at n digit (omega (arith, eqb-false from at t)) m e s u, tt)

-- ---- numbers that can't go on

number_stuck_at : (m d : ℕ) (ds ys : List ℕ) → ((k : ℕ) → number_after k ds ≡ None → number_after k (ds ++ ys) ≡ None)
    → (b : Bool) → goes m d ≡ b → number_after m (d ∷ ds) ≡ None → number_after m (d ∷ ds ++ ys) ≡ None
number_stuck_at m d ds ys f true t e = step_true m d (ds ++ ys) t ∙ f (m * 10 + (d - 48)) (sym (step_true m d ds t) ∙ e)
number_stuck_at m d ds ys f false t e = step_false m d (ds ++ ys) t

pub number_stuck : (xs : List ℕ) (m : ℕ) (ys : List ℕ) → number_after m xs ≡ None → number_after m (xs ++ ys) ≡ None
number_stuck [] m ys e = let f = number_none m in absurd cc
number_stuck (d ∷ ds) m ys e = number_stuck_at m d ds ys (λ k f. number_stuck ds k ys f) (goes m d) refl e

and_first : (a b : Bool) → a && b ≡ true → a ≡ true
and_first true b e = refl
and_first false b e = e

digit_next : (m y : ℕ) (ys : List ℕ) (k : ℕ) → (b : Bool) → goes m y ≡ b → number_after m (y ∷ ys) ≡ Some k
    → is_ascii_digit y ≡ true
digit_next m y ys k true t e = and_first (is_ascii_digit y) (nat_lt (m * 10 + (y - 48)) (2 ^ 64)) t
digit_next m y ys k false t e = let f = step_false m y ys t in absurd cc

digit_inside_at : (m d : ℕ) (ds : List ℕ) (y : ℕ) (ys : List ℕ) (k : ℕ)
    → ((j : ℕ) → number_after j (ds ++ y ∷ ys) ≡ Some k → is_ascii_digit y ≡ true) → (b : Bool)
    → goes m d ≡ b → number_after m (d ∷ ds ++ y ∷ ys) ≡ Some k → is_ascii_digit y ≡ true
digit_inside_at m d ds y ys k f true t e = f (m * 10 + (d - 48)) (sym (step_true m d (ds ++ y ∷ ys) t) ∙ e)
digit_inside_at m d ds y ys k f false t e = let g = step_false m d (ds ++ y ∷ ys) t in absurd cc

pub digit_inside : (v : List ℕ) (m y : ℕ) (ys : List ℕ) (k : ℕ) → number_after m (v ++ y ∷ ys) ≡ Some k
    → is_ascii_digit y ≡ true
digit_inside [] m y ys k e = digit_next m y ys k (goes m y) refl e
digit_inside (d ∷ ds) m y ys k e = digit_inside_at m d ds y ys k (λ j f. digit_inside ds j y ys k f) (goes m d) refl e

pub number_of_digits : (n : ℕ) (v : List ℕ) (next : Option ℕ) → IsNumber n v next → (0 < length v)
    × (number_after 0 v ≡ Some n) × (is_digit next ≡ false)
number_of_digits n [] next x = absurd x
number_of_digits n (d ∷ ds) next x = (omega arith, x.0, x.1)

pub true_or_false : (b : Bool) → b ≡ true → b ≡ false → ⊥
true_or_false b e f = absurd cc

pub number_dead : (text : List ℕ) (from place : ℕ) → IsBadNumber text from place → (more : List ℕ)
    → Continues text place more → (n : ℕ) (v behind : List ℕ) → slice_range text from place
    ++ more ≡ v ++ behind → IsNumber n v (next_of behind) → ⊥
number_dead text from place bad more next n v behind e x = go (cut_twice (slice_range text from place) more v behind e)
    next
  where
    number : (0 < length v) × (number_after 0 v ≡ Some n) × (is_digit (next_of behind) ≡ false)
    number = number_of_digits n v (next_of behind) x

    go : (((x : List ℕ) × (v ≡ slice_range text from place ++ x) × (more ≡ x ++ behind))
        ⊎ ((y : ℕ) × (ys : List ℕ) × (slice_range text from place ≡ v ++ y ∷ ys) × (behind ≡ y ∷ ys ++ more)))
        → Continues text place more → ⊥
    go (inl ([], f, g)) k =
        let same : v ≡ slice_range text from place = f ∙ append-nil (slice_range text from place) in
        let some : from < place = omega (
          arith,
          number.0,
          ap length same,
          bad.order,
          slice_length text from place bad.order bad.within,
        ) in
        let here : place < length text = bad.some some in
        elim k [
          | inl p ↦ absurd (omega (arith, p.0, here))
          | inr p ↦
              let after : next_of behind ≡ Some (get_or text place 0) = ap next_of (sym g ∙ p.2) in
              true_or_false (is_ascii_digit (get_or text place 0)) (bad.digit some) (sym (ap is_digit after) ∙ number.2)
        ]
    go (inl (y ∷ ys, f, g)) (inl p) = let h = p.1 in absurd cc
    go (inl (y ∷ ys, f, g)) (inr p) =
        let h = p.2 in
        let first : y ≡ get_or text place 0 = cc in
        let none : number_after 0 (slice_range text from place ++ get_or text place 0 ∷ []) ≡ None = ap (number_after 0)
        (sym (slice_more text from place bad.order p.0)) ∙ bad.stops p.0 in
        let long : v ≡ slice_range text from place ++ get_or text place 0 ∷ []
        ++ ys = f ∙ ap (λ z. slice_range text from place ++ z ∷ ys) first
        ∙ sym (append_assoc (slice_range text from place) (get_or text place 0 ∷ []) ys) in
        let never : number_after 0 v ≡ None = ap (number_after 0) long
        ∙ number_stuck (slice_range text from place ++ get_or text place 0 ∷ []) 0 ys none in
        let some = number.1 in
        absurd cc
    go (inr (y, ys, f, g)) k =
        let digit : is_ascii_digit y ≡ true = digit_inside v 0 y ys bad.digits.0
        (ap (number_after 0) (sym f) ∙ bad.digits.1) in
        true_or_false (is_ascii_digit y) digit (sym (ap (λ l. is_digit (next_of l)) g) ∙ number.2)
