-- Each event of a drill can be done at its place.
use Rattle.std.proofs.Common.{◌≡◌, ℕ, zero, suc, ◌+◌, ◌*◌, ◌%◌, ◌^◌, ◌<◌, ◌≤◌, Bool, true, false, List, [], ◌∷◌, ◌++◌}
use Rattle.std.proofs.Common.{length, sym, ap, subst, ◌∙◌, arith, append_assoc, add-one}
use Rattle.std.specs.Prelude.{◌==◌, if◌then◌else◌}
use Rattle.std.specs.List.{fold}
use Rattle.std.proofs.lemmas.Grind.{fold-append}
use Rattle.std.proofs.lemmas.List.{length-append, append-nil}
use Rattle.am_journal.specs.declared.event.Event.{Event}
use Rattle.am_journal.specs.declared.event.Event.TheVariants as event
use Rattle.am_journal.specs.declared.event.Format.TheVariants.{One}
use Rattle.am_journal.specs.declared.event.Journal.{Journal}
use Rattle.am_journal.specs.Journal.{journal_in, longer}
use Rattle.am_counter.specs.Played.{ArePlayed}
use Rattle.acme_core.specs.Run.{step, run, enabled_in, AreEnabled}
use Rattle.acme_core.proofs.Goes.{run-push}
use Rattle.core_parts.specs.States.{State, start_of}
use Rattle.am_drill.specs.declared.numbers.Turn.{Turn}
use Rattle.am_drill.specs.declared.numbers.Turn.TheVariants as turn
use Rattle.am_drill.specs.Brief.{IsBrief, AreNext, followed}
use Rattle.am_drill.specs.Drill.{seed_of, drawn, letter, turn_of, opening, read, played_turn, round, rounds, events}
use Rattle.am_drill.specs.Drill.{drill_journal}
use Rattle.am_drill.proofs.Begins.{opening_goes}
use Rattle.am_drill.proofs.Calm.{CanDoAll}
use Rattle.am_drill.proofs.Turns.{Goes, Stands, most_unsent, round_goes}

run-append : (a : Journal) (b : List Event) → run (followed a b) ≡ fold step (run a) b
unfolding run
run-append a b = fold-append step (start_of a.format) a.events b

-- what can be done from where a journal leads can be done next
next_from : (before : Journal) (es : List Event) → CanDoAll (run before) es
    → length before.events + length es < 2 ^ 32 → AreNext before es
next_from before [] all short = tt
next_from before (e ∷ es) all short = (
  record {
    lawful = all.0.lawful;
    allowed = all.0.allowed;
    brief = subst (λ (s : State). IsBrief s.replies) (sym (run-push before e)) all.0.brief;
    short = omega arith;
  },
  next_from (longer before e) es (subst (λ (s : State). CanDoAll s es) (sym (run-push before e)) all.1)
      (omega (arith, length-append before.events (e ∷ []))),
)

played_from : (before es : List Event) → AreNext (journal_in One before) es → ArePlayed (enabled_in One) before es
unfolding ArePlayed
played_from before [] all = tt
played_from before (e ∷ es) all = (all.0.lawful, all.0.allowed, played_from (before ++ e ∷ []) es all.1)

played-append : (before a b : List Event) → ArePlayed (enabled_in One) before a
    → ArePlayed (enabled_in One) (before ++ a) b → ArePlayed (enabled_in One) before (a ++ b)
unfolding ArePlayed
played-append before [] b first then_all =
    subst (λ (j : List Event). ArePlayed (enabled_in One) j b) (append-nil before) then_all
played-append before (e ∷ a) b first then_all = (
  first.0,
  first.1,
  played-append (before ++ e ∷ []) a b first.2
      (subst (λ (j : List Event). ArePlayed (enabled_in One) j b) (sym (append_assoc before (e ∷ []) a)) then_all),
)

-- ---- how many events there are

turn_short : (turn : Turn) (l : ℕ) → length (played_turn turn l) ≤ 2
turn_short turn.Write l = omega arith
turn_short turn.Events l = omega arith
turn_short turn.Key l = omega arith
turn_short turn.Read l = omega arith

round_short_as : (b : Bool) (r : ℕ) → length (if b then read ∷ event.Took 0 ∷ [] else played_turn (turn_of r)
    (letter r)) ≤ 2
round_short_as true r = omega arith
round_short_as false r = turn_short (turn_of r) (letter r)

round_short : (k r : ℕ) → length (round k r) ≤ 2
round_short k r = round_short_as (k % 50 == 0) r

rounds_short : (n : ℕ) → length (rounds n) ≤ 2 * n
unfolding rounds
rounds_short zero = omega arith
rounds_short (suc k) = omega (
  arith,
  rounds_short k,
  round_short (k + 1) (drawn (seed_of (k + 1))),
  length-append (rounds k) (round (k + 1) (drawn (seed_of (k + 1)))),
)

-- ---- from round to round

pub next_events : (k : ℕ) → events (k + 1) ≡ events k ++ round (k + 1) (drawn (seed_of (k + 1)))
unfolding rounds
next_events k = ap events (add-one k) ∙ sym (append_assoc opening (rounds k) (round (k + 1) (drawn (seed_of (k + 1)))))

pub no_rounds : events 0 ≡ opening
unfolding rounds
no_rounds = append-nil opening

pub stands_after : (k : ℕ) → k ≤ 100000 → Stands k (most_unsent k) (run (drill_journal k))
unfolding run
stands_after zero h =
    subst (λ (j : List Event). Stands 0 6 (fold step (start_of One) j)) (sym no_rounds) opening_goes.stands
stands_after (suc k) h =
    let s : State = run (drill_journal k) in
    let goes : Goes (k + 1) (most_unsent (k + 1)) s (round (k + 1) (drawn (seed_of (k + 1)))) = round_goes s k
    (drawn (seed_of (k + 1))) (omega arith) (stands_after k (omega arith)) in
    let is : run (drill_journal (k + 1)) ≡ fold step s (round (k + 1) (drawn (seed_of (k + 1)))) =
    ap (λ (l : List Event). run (journal_in One l)) (next_events k)
    ∙ run-append (drill_journal k) (round (k + 1) (drawn (seed_of (k + 1)))) in
    subst (λ (n : ℕ). Stands n (most_unsent n) (run (drill_journal n))) (add-one k)
    (subst (λ (x : State). Stands (k + 1) (most_unsent (k + 1)) x) (sym is) goes.stands)

pub next_opening : AreNext (journal_in One []) opening
unfolding run
next_opening = next_from (journal_in One []) opening opening_goes.all (omega arith)

pub next_round : (k : ℕ) → k < 100000 → AreNext (drill_journal k) (round (k + 1) (drawn (seed_of (k + 1))))
next_round k h =
    let r = drawn (seed_of (k + 1)) in
    let goes : Goes (k + 1) (most_unsent (k + 1)) (run (drill_journal k)) (round (k + 1) r) =
    round_goes (run (drill_journal k)) k r h (stands_after k (omega arith)) in
    next_from (drill_journal k) (round (k + 1) r) goes.all (omega (
      arith,
      length-append opening (rounds k),
      rounds_short k,
      round_short (k + 1) r,
    ))

-- ---- all of them

pub all_played : (n : ℕ) → n ≤ 100000 → AreEnabled (drill_journal n)
all_played zero h = subst (λ (j : List Event). ArePlayed (enabled_in One) [] j) (sym no_rounds)
    (played_from [] opening next_opening)
all_played (suc k) h =
    let r = drawn (seed_of (k + 1)) in
    let more : ArePlayed (enabled_in One) (events k) (round (k + 1) r) = played_from (events k) (round (k + 1) r)
    (next_round k (omega arith)) in
    subst (λ (n : ℕ). AreEnabled (drill_journal n)) (add-one k)
    (subst (λ (j : List Event). ArePlayed (enabled_in One) [] j) (sym (next_events k))
    (played-append [] (events k) (round (k + 1) r) (all_played k (omega arith)) more))
