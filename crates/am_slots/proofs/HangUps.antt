-- A journal of enabled events has one hang-up at most of each connection.
use Rattle.std.proofs.Common.{◌≡◌, ⊎_elim, ℕ, Bool, true, false, ◌||◌, List, [], ◌∷◌, ◌++◌, Some, None, refl, sym, ap}
use Rattle.std.proofs.Common.{◌∙◌, append_assoc, append-nil}
use Rattle.std.specs.Prelude.{if◌then◌else◌}
use Rattle.std.specs.List.{list_any}
use Rattle.std.proofs.lemmas.Bool.{cases_Bool, or_left, or_right, eq-eqb, eqb-true, false_from_ne_true}
use Rattle.std.proofs.lemmas.List.Folds.{list_any-append}
use Rattle.am_journal.specs.Lawful.{IsLawful}
use Rattle.am_journal.specs.declared.ending.Ending.{Ending}
use Rattle.am_journal.specs.declared.event.Event.{Event}
use Rattle.am_journal.specs.declared.event.Event.TheVariants as event
use Rattle.am_journal.specs.declared.event.Why.TheVariants as why
use Rattle.am_counter.specs.Played.{ArePlayed, IsPlayed, has_dial, has_hang, hang_why, is_hang_of}
use Rattle.am_serve.specs.Gained.{Rule}
use Rattle.am_slots.specs.Connection.{ended_by, endings_of}

-- ---- one event

hang_ends : (conn : ℕ) (e : Event) → is_hang_of conn e ≡ true → (why : Ending) × (e ≡ event.Hang conn why)
hang_ends conn (event.Dial c) h = absurd cc
hang_ends conn (event.Msg c msg) h = absurd cc
hang_ends conn (event.Hang c why) h = (why, ap (λ n. event.Hang n why) (eqb-true c conn h))
hang_ends conn (event.Took c) h = absurd cc
hang_ends conn event.New h = absurd cc
hang_ends conn (event.Key w side text) h = absurd cc
hang_ends conn (event.Sel w range) h = absurd cc
hang_ends conn (event.Exec at) h = absurd cc
hang_ends conn (event.Arg at chord) h = absurd cc
hang_ends conn (event.Look at) h = absurd cc
hang_ends conn (event.File path text) h = absurd cc
hang_ends conn (event.Dir path) h = absurd cc

others_end_nothing : (conn : ℕ) (e : Event) → is_hang_of conn e ≡ false → ended_by conn e ≡ []
others_end_nothing conn (event.Dial c) h = refl
others_end_nothing conn (event.Msg c msg) h = refl
others_end_nothing conn (event.Hang c why) h = ap (λ b. if b then why ∷ [] else []) h
others_end_nothing conn (event.Took c) h = refl
others_end_nothing conn event.New h = refl
others_end_nothing conn (event.Key w side text) h = refl
others_end_nothing conn (event.Sel w range) h = refl
others_end_nothing conn (event.Exec at) h = refl
others_end_nothing conn (event.Arg at chord) h = refl
others_end_nothing conn (event.Look at) h = refl
others_end_nothing conn (event.File path text) h = refl
others_end_nothing conn (event.Dir path) h = refl

hang_ended : (conn : ℕ) (why : Ending) → ended_by conn (event.Hang conn why) ≡ why ∷ []
hang_ended conn why = ap (λ b. if b then why ∷ [] else []) (eq-eqb conn conn refl)

-- ---- a journal that has a hang-up, and one event more

played_next : (enabled : Rule) (before events : List Event) (e : Event) → ArePlayed enabled before events → IsLawful e
    → enabled (before ++ events) e ≡ None → ArePlayed enabled before (events ++ e ∷ [])
unfolding ArePlayed
played_next enabled before [] e p lawful next = (lawful, ap (λ l. enabled l e) (sym (append-nil before)) ∙ next, tt)
played_next enabled before (x ∷ events) e p lawful next = (
  p.0,
  p.1,
  played_next enabled (before ++ x ∷ []) events e p.2 lawful
      (ap (λ l. enabled l e) (append_assoc before (x ∷ []) events) ∙ next),
)

not_again : (journal : List Event) (conn : ℕ) → has_hang journal conn ≡ true → hang_why journal conn ≡ None → ⊥
not_again journal conn h e = by_cases (has_dial journal conn) (has_hang journal conn) h e
  where
    by_cases : (dialled ended : Bool) → ended ≡ true → (if dialled then (if ended then Some why.Ended else None) else
        Some why.Conn) ≡ None → ⊥
    by_cases true true h e = cc
    by_cases true false h e = cc
    by_cases false ended h e = cc

module _ (enabled : Rule) (conn : ℕ) (law : (journal : List Event) (why : Ending) → IsPlayed enabled journal
    → enabled journal (event.Hang conn why) ≡ hang_why journal conn) where
  no_hang_next : (journal : List Event) (e : Event) → IsPlayed enabled journal
      → enabled journal e ≡ None → has_hang journal conn ≡ true → is_hang_of conn e ≡ false
  no_hang_next journal e played next h =
      false_from_ne_true (is_hang_of conn e)
      (λ is. let x = hang_ends conn e is in
      not_again journal conn h (sym (law journal x.0 played) ∙ ap (enabled journal) (sym x.1) ∙ next))

  has_hang_next : (journal : List Event) (e : Event) → has_hang journal conn ≡ true → has_hang (journal ++ e ∷ [])
      conn ≡ true
  has_hang_next journal e h = list_any-append (is_hang_of conn) journal (e ∷ [])
      ∙ or_left (list_any (is_hang_of conn) journal) (list_any (is_hang_of conn) (e ∷ [])) h

  has_hang_new : (journal : List Event) (e : Event) → is_hang_of conn e ≡ true → has_hang (journal ++ e ∷ [])
      conn ≡ true
  has_hang_new journal e h =
      list_any-append (is_hang_of conn) journal (e ∷ [])
      ∙ or_right (list_any (is_hang_of conn) journal) (list_any (is_hang_of conn) (e ∷ []))
      (or_left (is_hang_of conn e) false h)

  none_more : (before events : List Event) → IsPlayed enabled before → ArePlayed enabled before events
      → has_hang before conn ≡ true → endings_of events conn ≡ []
  unfolding ArePlayed
  none_more before [] played next h = refl
  none_more before (e ∷ events) played next h =
      ap (λ l. l ++ endings_of events conn) (others_end_nothing conn e (no_hang_next before e played next.1 h))
      ∙ none_more (before ++ e ∷ []) events (played_next enabled [] before e played next.0 next.1) next.2
      (has_hang_next before e h)

  one_ending : (before events : List Event) → IsPlayed enabled before → ArePlayed enabled before events
      → has_hang events conn ≡ true
      → (cause : Ending) × (endings_of events conn ≡ cause ∷ [])
  unfolding ArePlayed
  one_ending before [] played next h = absurd cc
  one_ending before (e ∷ events) played next h =
      let now : IsPlayed enabled (before ++ e ∷ []) = played_next enabled [] before e played next.0 next.1 in
      ⊎_elim
      (λ is. let x = hang_ends conn e is in (
        x.0,
        ap (λ y. ended_by conn y ++ endings_of events conn) x.1 ∙ ap (λ l. l ++ endings_of events conn)
            (hang_ended conn x.0)
            ∙ ap (λ l. x.0 ∷ l) (none_more (before ++ e ∷ []) events now next.2 (has_hang_new before e is)),
      ))
      (λ no. let rest = one_ending (before ++ e ∷ []) events now next.2
      (sym (ap (λ b. b || has_hang events conn) no) ∙ h) in
      (rest.0, ap (λ l. l ++ endings_of events conn) (others_end_nothing conn e no) ∙ rest.1))
      (cases_Bool (is_hang_of conn e))

  -- a journal that has a hang-up of the connection has just one
  pub ends_once : (journal : List Event) → IsPlayed enabled journal → has_hang journal conn ≡ true → (cause : Ending)
      × (endings_of journal conn ≡ cause ∷ [])
  unfolding ArePlayed
  ends_once journal played h = one_ending [] journal tt played h
