-- Each number of an event of a drill fits its field.
use Rattle.std.proofs.Common.{◌≡◌, ℕ, zero, suc, ◌+◌, ◌%◌, ◌^◌, ◌<◌, Bool, true, false, List, [], ◌∷◌, ◌++◌, codes}
use Rattle.std.proofs.Common.{refl, ap, arith}
use Rattle.std.specs.Prelude.{nat_lt, ◌&&◌, ◌==◌, if◌then◌else◌}
use Rattle.std.proofs.lemmas.Bool.Decides.{nat_tests}
use Rattle.std.specs.List.{AllByRecursion}
use Rattle.ninep_types.specs.declared.message.TBody.{TBody}
use Rattle.ninep_types.specs.declared.message.TBody.TheVariants as t
use Rattle.ninep_types.specs.Spelling.{spelling_t, BodyInRange_t}
use Rattle.am_journal.specs.declared.event.Event.{Event}
use Rattle.am_journal.specs.declared.event.Event.TheVariants as event
use Rattle.am_journal.specs.Lawful.{AreBytes, IsInRange}
use Rattle.am_drill.specs.declared.numbers.Turn.{Turn}
use Rattle.am_drill.specs.declared.numbers.Turn.TheVariants as turn
use Rattle.am_drill.specs.Drill.{seed_of, drawn, letter, turn_of, message, opening, read, played_turn, round, rounds}
use Rattle.am_drill.specs.Drill.{events}

-- ---- bytes

are_below : List ℕ → Bool
are_below [] = true
are_below (b ∷ bs) = nat_lt b 256 && are_below bs

head_below : (b : ℕ) (x : Bool) → (nat_lt b 256 && x) ≡ true → b < 256
head_below b x h = grind (arith, nat_tests, h)

tail_below : (b : Bool) (x : Bool) → (b && x) ≡ true → x ≡ true
tail_below true x h = h
tail_below false x h = absurd (cc h)

bytes_of : (bs : List ℕ) → are_below bs ≡ true → AreBytes bs
unfolding are_below
bytes_of [] h i = omega arith
bytes_of (b ∷ bs) h zero = head_below b (are_below bs) h
bytes_of (b ∷ bs) h (suc i) = bytes_of bs (tail_below (nat_lt b 256) (are_below bs) h) i

-- ---- events

ranged : (tag : ℕ) (body : TBody) → tag < 2 ^ 16 → BodyInRange_t body
    → are_below (spelling_t (record { tag = tag; body = body })) ≡ true → IsInRange (message tag body)
ranged tag body small fits below = (
  omega arith,
  record { tag = small; body = fits },
  bytes_of (spelling_t (record { tag = tag; body = body })) below,
)

opening_ranged : AllByRecursion IsInRange opening
unfolding are_below
opening_ranged = (
  omega arith,
  (
    ranged 0xFFFF (t.Version 8192 (codes "9P2000")) (omega arith) (omega arith) refl,
    (
      ranged 1 (t.Attach 0 0xFFFFFFFF (codes "u") []) (omega arith) (omega arith, omega arith) refl,
      (
        ranged 2 (t.Walk 0 1 (codes "new" ∷ codes "body" ∷ [])) (omega arith) (omega arith, omega arith) refl,
        (
          ranged 3 (t.Open 1 2) (omega arith) (omega arith, omega arith) refl,
          (
            ranged 2 (t.Walk 0 2 (codes "1" ∷ codes "event" ∷ [])) (omega arith) (omega arith, omega arith) refl,
            (ranged 3 (t.Open 2 0) (omega arith) (omega arith, omega arith) refl, tt),
          ),
        ),
      ),
    ),
  ),
)

read_ranged : IsInRange read
unfolding are_below
read_ranged = ranged 5 (t.Read 1 0 32) (omega arith) (omega arith, omega arith, omega arith) refl

turn_ranged : (turn : Turn) (l : ℕ) → l < 256 → AllByRecursion IsInRange (played_turn turn l)
unfolding are_below
turn_ranged turn.Write l h =
    let small : nat_lt l 256 ≡ true = grind (arith, nat_tests) in
    (ranged 4 (t.Write 1 0 (l ∷ [])) (omega arith) (omega arith, omega arith) (ap (λ (b : Bool). b && true) small), tt)
turn_ranged turn.Events l h = (
  ranged 10 (t.Read 2 0 64) (omega arith) (omega arith, omega arith, omega arith) refl,
  (ranged 11 (t.Flush 10) (omega arith) (omega arith) refl, tt),
)
turn_ranged turn.Key l h = (omega arith, tt)
turn_ranged turn.Read l h = (read_ranged, tt)

letter_small : (r : ℕ) → letter r < 256
letter_small r = omega arith

round_ranged_as : (b : Bool) (r : ℕ) → AllByRecursion IsInRange (if b then read ∷ event.Took 0 ∷ [] else played_turn
    (turn_of r) (letter r))
round_ranged_as true r = (read_ranged, (omega arith, tt))
round_ranged_as false r = turn_ranged (turn_of r) (letter r) (letter_small r)

-- ---- all of them

ranged-append : (a b : List Event) → AllByRecursion IsInRange a → AllByRecursion IsInRange b
    → AllByRecursion IsInRange (a ++ b)
ranged-append [] b first then_all = then_all
ranged-append (e ∷ a) b first then_all = (first.0, ranged-append a b first.1 then_all)

rounds_ranged : (n : ℕ) → AllByRecursion IsInRange (rounds n)
unfolding rounds
rounds_ranged zero = tt
rounds_ranged (suc k) =
    let r = drawn (seed_of (k + 1)) in
    ranged-append (rounds k) (round (k + 1) r) (rounds_ranged k) (round_ranged_as ((k + 1) % 50 == 0) r)

pub all_ranged : (n : ℕ) → AllByRecursion IsInRange (events n)
all_ranged n = ranged-append opening (rounds n) opening_ranged (rounds_ranged n)
