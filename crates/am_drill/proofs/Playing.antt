-- Loops over events.
use Rattle.std.proofs.Common.{◌≡◌, ℕ, zero, suc, ◌+◌, ◌-◌, ◌<◌, ◌≤◌, List, [], ◌∷◌, ◌++◌, length, take, drop, get_or}
use Rattle.std.proofs.Common.{map, map-id, refl, sym, ap, subst, ◌∙◌, arith, append_assoc, add-one, take-append-drop}
use Rattle.std.proofs.Common.{Result, Ok, Err, OnOk, OnErr}
use Rattle.std.specs.Vec.Iter.{into_iter_items, into_iter_len, into_iter_steps}
use Rattle.std.proofs.lemmas.Iterator.{YieldsList}
use Rattle.std.proofs.lemmas.Iterator.Adapters.{YieldsList-from_vec}
use Rattle.std.proofs.lemmas.List.{append-nil}
use Rattle.am_journal.specs.declared.event.Event.{Event}
use Rattle.am_journal.specs.declared.event.Format.TheVariants.{One}
use Rattle.am_journal.specs.declared.event.Journal.{Journal}
use Rattle.am_journal.specs.Journal.{journal_in, longer}
use Rattle.am_drill.specs.Brief.{IsNext, AreNext, IsBegun, Stopped, followed}
use Rattle.am_drill.specs.Drill.{seed_of, next_seed, drawn, opening, round, events, drill_journal}
use Rattle.am_drill.proofs.Rounds.{next_events, no_rounds, next_opening, next_round}

-- the items of a vector come one after another
pub items_come : {A Z : Type 0} → {s : _} (xs ys : List A) (n : ℕ)
    → into_iter_items s ≡ ys → into_iter_len s ≡ n → n ≡ length ys
    → ys ≡ xs → YieldsList (into_iter_steps {X = A} {Z = Z}) (λ y. y) s xs
items_come xs ys n a b c d = YieldsList-from_vec xs (a ∙ d) (b ∙ c ∙ ap length d)

-- a journal and nothing more
followed_nothing : (journal : Journal) → followed journal [] ≡ journal
followed_nothing journal = ap (journal_in journal.format) (append-nil journal.events)

-- each can be done after those before it
next_at : (before : Journal) (all : List Event) (n : ℕ) (e : Event) → AreNext before all → n < length all
    → e ≡ get_or all n e → IsNext (followed before (take n all)) e
next_at before [] n e next within is = absurd (omega arith)
next_at before (x ∷ all) zero e next within is =
    subst (λ (j : Journal). IsNext j e) (sym (followed_nothing before))
    (subst (λ (y : Event). IsNext before y) (sym is) next.0)
next_at before (x ∷ all) (suc n) e next within is =
    subst (λ (l : List Event). IsNext (journal_in before.format l) e)
    (append_assoc before.events (x ∷ []) (take n all))
    (next_at (longer before x) all n e next.1 (omega arith) is)

pub turn_next : (before : Journal) (all done : List Event) (now : Journal) (e : Event) → AreNext before all
    → map (λ y. y) done ≡ take (length done) all → now ≡ followed before done
    → (length done < length all) × (e ≡ get_or all (length done) e) → IsNext now e
turn_next before all done now e next front is turn =
    let same : take (length done) all ≡ done = sym front ∙ map-id done in
    subst (λ (j : Journal). IsNext j e) (ap (followed before) same ∙ sym is)
    (next_at before all (length done) e next turn.0 turn.1)

pub stopped_at : (before : Journal) (all done : List Event) (now : Journal)
    → map (λ y. y) done ≡ take (length done) all → now ≡ followed before done → Stopped before all now
stopped_at before all done now front is =
    let same : done ≡ take (length done) all = sym (map-id done) ∙ front in (
      done,
      (
        drop (length done) all,
        ap (λ (x : List Event). x ++ drop (length done) all) same
            ∙ take-append-drop (length done) all,
      ),
      is,
    )

-- what holds is so where a call failed, too
pub on_err : {T E : Type 0} (r : Result T E) (P : Type 0) → P → OnErr r P
on_err (Ok v) P p = tt
on_err (Err e) P p = p

-- ---- rounds

pub seed_more : (k : ℕ) → seed_of (k + 1) ≡ next_seed (seed_of k)
unfolding seed_of
seed_more k = ap seed_of (add-one k)

pub first_seed : seed_of 0 ≡ 1
unfolding seed_of
first_seed = refl

pub ruleset seeds = (seed_more, first_seed)

-- a front of the first rounds is one of all
front_more : (k more : ℕ) (now : Journal) → IsBegun now (drill_journal k) → IsBegun now (drill_journal (k + more))
front_more k zero now front =
    let same : k ≡ k + 0 = omega arith in
    subst (λ (n : ℕ). IsBegun now (drill_journal n)) same front
front_more k (suc more) now front =
    let n : ℕ = k + more in
    let before : IsBegun now (drill_journal n) = front_more k more now front in
    let r : List Event = round (n + 1) (drawn (seed_of (n + 1))) in
    let further : IsBegun now (drill_journal (n + 1)) = (
      before.0 ++ r,
      ap (journal_in now.format) (sym (append_assoc now.events before.0 r))
          ∙ ap (λ (x : Journal). followed x r) before.1 ∙ ap (journal_in One) (sym (next_events n)),
    ) in
    let same : (k + more) + 1 ≡ k + suc more = omega arith in
    subst (λ (m : ℕ). IsBegun now (drill_journal m)) same further

-- a front of the events up to a round
pub front_up : (k n : ℕ) (now : Journal) → k ≤ n → IsBegun now (drill_journal k) → IsBegun now (drill_journal n)
front_up k n now within front =
    let same : k + (n - k) ≡ n = omega arith in
    subst (λ (m : ℕ). IsBegun now (drill_journal m)) same (front_more k (n - k) now front)

-- ---- the events before the rounds

pub opening_next : (before : Journal) (es : List Event) → before ≡ journal_in One [] → es ≡ opening
    → AreNext before es
opening_next before es empty is =
    subst (λ (b : Journal). AreNext b es) (sym empty)
    (subst (λ (x : List Event). AreNext (journal_in One []) x) (sym is) next_opening)

pub opening_done : (before : Journal) (es : List Event) (now : Journal) → before ≡ journal_in One [] → es ≡ opening
    → now ≡ followed before es → now ≡ drill_journal 0
opening_done before es now empty is done =
    done ∙ ap (λ (b : Journal). followed b es) empty ∙ ap (journal_in One) (is ∙ sym no_rounds)

pub opening_stopped : (before : Journal) (es : List Event) (now : Journal) → before ≡ journal_in One []
    → es ≡ opening → Stopped before es now → IsBegun now (drill_journal 0)
opening_stopped before es now empty is stop =
    let done : List Event = stop.0 in
    let rest : List Event = stop.1.0 in (
      rest,
      ap (λ (x : Journal). followed x rest) (stop.2 ∙ ap (λ (x : Journal). followed x done) empty)
          ∙ ap (journal_in One) (stop.1.1 ∙ is ∙ sym no_rounds),
    )

pub nothing_done : (now : Journal) → now ≡ journal_in One [] → IsBegun now (drill_journal 0)
nothing_done now empty = (events 0, ap (λ (x : Journal). followed x (events 0)) empty)

-- ---- a round

round_is : (k s : ℕ) (es : List Event) → s ≡ seed_of (k + 1) → es ≡ round (k + 1) (drawn s)
    → es ≡ round (k + 1) (drawn (seed_of (k + 1)))
round_is k s es seed is = is ∙ ap (λ (x : ℕ). round (k + 1) (drawn x)) seed

pub round_next : (k s : ℕ) (before : Journal) (es : List Event) → k < 100000 → before ≡ drill_journal k
    → s ≡ seed_of (k + 1) → es ≡ round (k + 1) (drawn s) → AreNext before es
round_next k s before es few at seed is =
    subst (λ (b : Journal). AreNext b es) (sym at) (subst (λ (x : List Event). AreNext (drill_journal k) x)
    (sym (round_is k s es seed is)) (next_round k few))

pub round_done : (k s : ℕ) (before : Journal) (es : List Event) (now : Journal) → before ≡ drill_journal k
    → s ≡ seed_of (k + 1) → es ≡ round (k + 1) (drawn s) → now ≡ followed before es → now ≡ drill_journal (k + 1)
round_done k s before es now at seed is done =
    done ∙ ap (λ (b : Journal). followed b es) at
    ∙ ap (λ (x : List Event). journal_in One (events k ++ x)) (round_is k s es seed is)
    ∙ ap (journal_in One) (sym (next_events k))

pub round_stopped : (k s : ℕ) (before : Journal) (es : List Event) (now : Journal) → before ≡ drill_journal k
    → s ≡ seed_of (k + 1) → es ≡ round (k + 1) (drawn s) → Stopped before es now → IsBegun now (drill_journal (k + 1))
round_stopped k s before es now at seed is stop =
    let done : List Event = stop.0 in
    let rest : List Event = stop.1.0 in
    let all : (events k ++ done) ++ rest ≡ events (k + 1) = append_assoc (events k) done rest
    ∙ ap (λ (x : List Event). events k ++ x) (stop.1.1 ∙ round_is k s es seed is) ∙ sym (next_events k) in (
      rest,
      ap (λ (x : Journal). followed x rest) (stop.2 ∙ ap (λ (x : Journal). followed x done) at)
          ∙ ap (journal_in One) all,
    )

-- what holds where a call ended well or failed holds where that result is passed on
pub on_ok : {T E : Type 0} (r : Result T E) (P S : Type 0) → OnOk r P → (P → S) → OnOk r S
on_ok (Ok v) P S p f = f p
on_ok (Err e) P S p f = tt

pub on_failed : {T E : Type 0} (r : Result T E) (Q S : Type 0) → OnErr r Q → (Q → S) → OnErr r S
on_failed (Ok v) Q S q f = tt
on_failed (Err e) Q S q f = f q
