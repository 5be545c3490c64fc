-- What stands at the front of bytes.
use Rattle.std.proofs.Common.{◌≡◌, ◌⊎◌, ℕ, ◌-◌, ◌<◌, ◌≤◌, Bool, true, false, cond, ltb, leb, List, ◌++◌, length, take}
use Rattle.std.proofs.Common.{replicate, refl, sym, ap, ◌∙◌, subst, arith, inl, inr}
use Rattle.std.specs.Int.{w32, from_le_bytes}
use Rattle.std.proofs.lemmas.Bool.{and_parts, and_cases, and_from, and_left, and_right, ltb-true, ltb-false, leb-true}
use Rattle.std.proofs.lemmas.Bool.{leb-false, lt-ltb, le-ltb, le-leb, lt-leb, cases_lt}
use Rattle.std.proofs.lemmas.List.{length-append, length-take-le, length-replicate, take-append-le, take-append-drop}
use Rattle.std.proofs.lemmas.List.{take-take, take_at, drop_at}
use Rattle.ninep_cut.specs.declared.cut.Cut.{Cut}
use Rattle.ninep_cut.specs.declared.cut.Cut.TheVariants.{Whole, More, Broken}
use Rattle.ninep_cut.specs.Cuts.{size_of, is_lawful, IsMessage, cut_of, first_of, behind_first}
use Rattle.ninep_cut.specs.Laws.{WholeWhere, MoreWhere, BrokenWhere, StaysBroken, FrontIs}

-- ---- the size

size_of-append : (bytes more : List ℕ) → 4 ≤ length bytes → size_of (bytes ++ more) ≡ size_of bytes
unfolding size_of
size_of-append bytes more h = ap (from_le_bytes w32) (take-append-le 4 bytes more h)

size_of-take : (n : ℕ) (bytes : List ℕ) → 4 ≤ n → size_of (take n bytes) ≡ size_of bytes
unfolding size_of
size_of-take n bytes h = ap (from_le_bytes w32) (take-take 4 n bytes h)

lawful : (n : ℕ) → 7 ≤ n → n ≤ 65560 → is_lawful n ≡ true
lawful n low high = and_from (leb 7 n) (leb n 65560) (le-leb 7 n low) (le-leb n 65560 high)

unlawful : (n : ℕ) → (n < 7) ⊎ (65560 < n) → is_lawful n ≡ false
unlawful n out = elim out [
  | inl h ↦ and_left (leb 7 n) (leb n 65560) (lt-leb 7 n h)
  | inr h ↦ and_right (leb 7 n)
      (leb n 65560) (lt-leb n 65560 h)
]

lawful_parts : (n : ℕ) → is_lawful n ≡ true → (7 ≤ n) × (n ≤ 65560)
lawful_parts n e = let p = and_parts (leb 7 n) (leb n 65560) e in (leb-true 7 n p.0, leb-true n 65560 p.1)

unlawful_parts : (n : ℕ) → is_lawful n ≡ false → (n < 7) ⊎ (65560 < n)
unlawful_parts n e = elim (and_cases (leb 7 n) (leb n 65560) e) [
  | inl h ↦ inl (leb-false 7 n h)
  | inr h ↦ inr
      (leb-false n 65560 h)
]

-- ---- what each answer says of the bytes

pub record WholeAt (bytes : List ℕ) : Type 0 where
  pub least : 7 ≤ size_of bytes
  pub most : size_of bytes ≤ 65560
  pub within : size_of bytes ≤ length bytes

pub record ShortAt (bytes : List ℕ) : Type 0 where
  pub four : 4 ≤ length bytes
  pub least : 7 ≤ size_of bytes
  pub most : size_of bytes ≤ 65560
  pub short : length bytes < size_of bytes

pub record BrokenAt (bytes : List ℕ) (size : ℕ) : Type 0 where
  pub four : 4 ≤ length bytes
  pub told : size ≡ size_of bytes
  pub out : (size < 7) ⊎ (65560 < size)

abbrev Means : List ℕ → Cut → Type 0
Means bytes Whole = WholeAt bytes
Means bytes More = (length bytes < 4) ⊎ ShortAt bytes
Means bytes (Broken size) = BrokenAt bytes size

means_within : (bytes : List ℕ) → 4 ≤ length bytes → is_lawful (size_of bytes) ≡ true → (b : Bool)
    → ltb (length bytes) (size_of bytes) ≡ b → Means bytes (cond b More Whole)
means_within bytes four l true e =
    let p = lawful_parts (size_of bytes) l in
    inr (record { four = four; least = p.0; most = p.1; short = ltb-true (length bytes) (size_of bytes) e })
means_within bytes four l false e =
    let p = lawful_parts (size_of bytes) l in
    record { least = p.0; most = p.1; within = ltb-false (length bytes) (size_of bytes) e }

means_size : (bytes : List ℕ) → 4 ≤ length bytes → (b : Bool) → is_lawful (size_of bytes) ≡ b → Means bytes
    (cond b (cond (ltb (length bytes) (size_of bytes)) More Whole) (Broken (size_of bytes)))
means_size bytes four true e = means_within bytes four e (ltb (length bytes) (size_of bytes)) refl
means_size bytes four false e = record { four = four; told = refl; out = unlawful_parts (size_of bytes) e }

means_length : (bytes : List ℕ) (b : Bool) → ltb (length bytes) 4 ≡ b
    → Means bytes (cond b More (cond (is_lawful (size_of bytes)) (cond (ltb (length bytes) (size_of bytes)) More Whole)
    (Broken (size_of bytes))))
means_length bytes true e = inl (ltb-true (length bytes) 4 e)
means_length bytes false e = means_size bytes (ltb-false (length bytes) 4 e) (is_lawful (size_of bytes)) refl

means : (bytes : List ℕ) → Means bytes (cut_of bytes)
unfolding cut_of
means bytes = means_length bytes (ltb (length bytes) 4) refl

pub whole_at : (bytes : List ℕ) → cut_of bytes ≡ Whole → WholeAt bytes
whole_at bytes e = subst (Means bytes) e (means bytes)

more_at : (bytes : List ℕ) → cut_of bytes ≡ More → (length bytes < 4) ⊎ ShortAt bytes
more_at bytes e = subst (Means bytes) e (means bytes)

broken_at : (bytes : List ℕ) (size : ℕ) → cut_of bytes ≡ Broken size → BrokenAt bytes size
broken_at bytes size e = subst (Means bytes) e (means bytes)

-- ---- and which answer the bytes give

pub at_whole : (bytes : List ℕ) → WholeAt bytes → cut_of bytes ≡ Whole
unfolding cut_of
at_whole bytes w = rw (
  le-ltb (length bytes) 4 (omega arith),
  lawful (size_of bytes) w.least w.most,
  le-ltb (length bytes) (size_of bytes) w.within,
) refl

pub at_few : (bytes : List ℕ) → length bytes < 4 → cut_of bytes ≡ More
unfolding cut_of
at_few bytes h = rw (lt-ltb (length bytes) 4 h) refl

at_short : (bytes : List ℕ) → ShortAt bytes → cut_of bytes ≡ More
unfolding cut_of
at_short bytes s = rw (
  le-ltb (length bytes) 4 s.four,
  lawful (size_of bytes) s.least s.most,
  lt-ltb (length bytes) (size_of bytes) s.short,
) refl

at_broken : (bytes : List ℕ) (size : ℕ) → BrokenAt bytes size → cut_of bytes ≡ Broken size
unfolding cut_of
at_broken bytes size b =
    let out = subst (λ (n : ℕ). (n < 7) ⊎ (65560 < n)) b.told b.out in
    rw (le-ltb (length bytes) 4 b.four, unlawful (size_of bytes) out) (ap Broken (sym b.told))

-- ---- a message at the front

pub first_is_message : (bytes : List ℕ) → cut_of bytes ≡ Whole → IsMessage (first_of bytes)
first_is_message bytes e =
    let w = whole_at bytes e in
    let n = length-take-le (size_of bytes) bytes w.within in
    record { told = size_of-take (size_of bytes) bytes (omega arith) ∙ sym n; least = omega arith; most = omega arith }

pub first_and_behind : (bytes : List ℕ) → bytes ≡ first_of bytes ++ behind_first bytes
first_and_behind bytes = sym (take-append-drop (size_of bytes) bytes)

message_size : (message rest : List ℕ) → IsMessage message → size_of (message ++ rest) ≡ length message
message_size message rest m = size_of-append message rest (omega arith) ∙ m.told

pub message_whole : (message rest : List ℕ) → IsMessage message → cut_of (message ++ rest) ≡ Whole
message_whole message rest m =
    let n = message_size message rest m in
    let l = length-append message rest in
    at_whole (message ++ rest) (record { least = omega arith; most = omega arith; within = omega arith })

pub message_first : (message rest : List ℕ) → IsMessage message → first_of (message ++ rest) ≡ message
message_first message rest m = take_at message rest (size_of (message ++ rest)) (sym (message_size message rest m))

pub message_behind : (message rest : List ℕ) → IsMessage message → behind_first (message ++ rest) ≡ rest
message_behind message rest m = drop_at message rest (size_of (message ++ rest)) (sym (message_size message rest m))

pub front_is : FrontIs
front_is message rest m = (message_whole message rest m, message_first message rest m, message_behind message rest m)

-- ---- where each answer comes

pub whole_where : WholeWhere
whole_where bytes = (
  λ e. (first_of bytes, (behind_first bytes, (first_is_message bytes e, first_and_behind bytes))),
  λ h. ap cut_of h.1.1.1 ∙ message_whole h.0 h.1.0 h.1.1.0,
)

-- as many zeros as are wanting
filled : (bytes : List ℕ) → ShortAt bytes → (more : List ℕ) × ((0 < length more) × IsMessage (bytes ++ more))
filled bytes s =
    let zeros : List ℕ = replicate (size_of bytes - length bytes) 0 in
    let many : length zeros ≡ size_of bytes - length bytes = length-replicate (size_of bytes - length bytes) 0 in
    let all = length-append bytes zeros in
    let told = size_of-append bytes zeros s.four in
    (zeros, (omega arith, record { told = omega arith; least = omega arith; most = omega arith }))

short_of : (bytes more : List ℕ) → 4 ≤ length bytes → 0 < length more → IsMessage (bytes ++ more) → ShortAt bytes
short_of bytes more four some m =
    let told = size_of-append bytes more four in
    let all = length-append bytes more in
    let tells = m.told in
    record { four = four; least = omega arith; most = omega arith; short = omega arith }

more_of : (bytes more : List ℕ) → 0 < length more → IsMessage (bytes ++ more) → cut_of bytes ≡ More
more_of bytes more some m =
    elim (cases_lt (length bytes) 4) [ inl h ↦ at_few bytes h | inr h ↦ at_short bytes (short_of bytes more h some m) ]

pub more_where : MoreWhere
more_where bytes = (
  λ e. elim (more_at bytes e) [ inl h ↦ inl h | inr s ↦ inr (filled bytes s) ],
  λ w. elim w [ inl h ↦ at_few bytes h | inr h ↦ more_of bytes h.0 h.1.0 h.1.1 ],
)

pub broken_where : BrokenWhere
broken_where bytes size = (
  λ e. let b = broken_at bytes size e in (b.four, b.told, b.out),
  λ h. at_broken bytes size (record { four = h.0; told = h.1; out = h.2 }),
)

pub stays_broken : StaysBroken
stays_broken bytes more size e =
    let b = broken_at bytes size e in
    let all = length-append bytes more in
    at_broken (bytes ++ more) size (record {
      four = omega arith;
      told = b.told ∙ sym (size_of-append bytes more b.four);
      out = b.out;
    })

-- ---- for the function that takes a message

pub first_four : (bytes : List ℕ) → cut_of bytes ≡ Whole → 4 ≤ length bytes
first_four bytes e = let w = whole_at bytes e in omega arith

pub first_within : (bytes : List ℕ) → cut_of bytes ≡ Whole → size_of bytes ≤ length bytes
first_within bytes e = (whole_at bytes e).within

pub ruleset fronts = (first_four, first_within, first_is_message, first_and_behind)
