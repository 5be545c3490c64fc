-- Journals of enabled events, in parts.
use Rattle.std.specs.List.{fold}
use Rattle.std.proofs.Common.{◌≡◌, ℕ, refl, List, [], ◌∷◌, ◌++◌, None, sym, ap, subst, append_assoc, append-nil}
use Rattle.am_journal.specs.Lawful.{IsLawful}
use Rattle.am_journal.specs.declared.event.Event.{Event}
use Rattle.am_counter.specs.Played.{ArePlayed}
use Rattle.fid_table.specs.Tables.{Tables}
use Rattle.core_events.specs.Putting.{put_living}
use Rattle.core_events.specs.Serving.{served_all}
use Rattle.core_events.specs.PortServing.{ports_served}
use Rattle.core_events.proofs.PortIdles.{none_said}
use Rattle.acme_core.specs.Run.{step, run, enabled, AreEnabled, enabled_in}
use Rattle.core_parts.specs.States.{State, start_of}
use Rattle.core_watch.specs.Serving.{watch_served}
use Rattle.acme_core.proofs.Idling.{idle_after, ports_idle_after, watch_idle_after}
use Rattle.acme_core.proofs.Watching.{none_said as none_followed}
use Rattle.core_steps.specs.Order.{as_asked}
use Rattle.core_steps.proofs.Idling.{silent}
use Rattle.core_steps.proofs.Orders.{none_asked}
use Rattle.am_journal.specs.declared.event.Format.{Format}
use Rattle.am_journal.specs.declared.event.Journal.{Journal}
use Rattle.am_journal.specs.Journal.{journal_in, longer}
use Rattle.core_laws.specs.Fronts.{followed}

-- ---- a journal goes on

pub none_more : (before : Journal) → followed before [] ≡ before
none_more before = ap (journal_in before.format) (append-nil before.events)

pub goes_on : (before : Journal) (e : Event) (events : List Event)
    → followed (longer before e) events ≡ followed before (e ∷ events)
goes_on before e events = ap (journal_in before.format) (append_assoc before.events (e ∷ []) events)

-- these events are lawful, and were enabled behind a journal
abbrev pub PlaysOn : Journal → List Event → Type 0
PlaysOn before events = ArePlayed (enabled_in before.format) before.events events

more_from : (format : Format) (before events : List Event) (e : Event) → ArePlayed (enabled_in format) before events
    → IsLawful e → enabled_in format (before ++ events) e ≡ None
    → ArePlayed (enabled_in format) before (events ++ e ∷ [])
unfolding ArePlayed
more_from format before [] e all lawful allowed = (
  lawful,
  subst (λ (l : List Event). enabled_in format l e ≡ None) (append-nil before)
      allowed,
  tt,
)
more_from format before (x ∷ events) e all lawful allowed = (
  all.0,
  all.1,
  more_from format (before ++ x ∷ []) events e all.2 lawful
      (subst (λ (l : List Event). enabled_in format l e ≡ None) (sym (append_assoc before (x ∷ []) events)) allowed),
)

pub played_more : (before : Journal) (e : Event) → AreEnabled before → IsLawful e → enabled before e ≡ None
    → AreEnabled (longer before e)
played_more before e all lawful allowed = more_from before.format [] before.events e all lawful allowed

parts_from : (format : Format) (before xs ys : List Event) → ArePlayed (enabled_in format) before (xs ++ ys)
    → ArePlayed (enabled_in format) before xs × ArePlayed (enabled_in format) (before ++ xs) ys
unfolding ArePlayed
parts_from format before [] ys all = (
  tt,
  subst (λ (l : List Event). ArePlayed (enabled_in format) l ys)
      (sym (append-nil before)) all,
)
parts_from format before (x ∷ xs) ys all =
    let parts : ArePlayed (enabled_in format) (before ++ x ∷ []) xs
    × ArePlayed (enabled_in format) ((before ++ x ∷ []) ++ xs) ys =
    parts_from format (before ++ x ∷ []) xs ys all.2 in (
      (all.0, all.1, parts.0),
      subst (λ (l : List Event). ArePlayed (enabled_in format) l ys) (append_assoc before (x ∷ []) xs)
          parts.1,
    )

-- the front of a journal, and the rest behind it
pub played_parts : (before : Journal) (events : List Event) → AreEnabled (followed before events)
    → AreEnabled before × PlaysOn before events
played_parts before events all = parts_from before.format [] before.events events all

-- the first event was enabled, and the others behind it
pub played_first : (before : Journal) (events : List Event) (e : Event) → PlaysOn before (e ∷ events)
    → (enabled before e ≡ None) × PlaysOn (longer before e) events
unfolding ArePlayed
played_first before events e all = (all.1, all.2)

-- ---- no items of a step are left behind it

fold_items : (s : State) (events : List Event) → s.scene.items ≡ [] → (fold step s events).scene.items ≡ []
unfolding step
fold_items s [] none = none
fold_items s (e ∷ events) none = fold_items (step s e) events refl

pub no_items : (journal : Journal) → (run journal).scene.items ≡ []
unfolding run
no_items journal = fold_items (start_of journal.format) journal.events refl

-- so an entry without deeds answers no read that waits
pub silent_after : (journal : Journal) (at : ℕ) (t : Tables) → as_asked t (served_all at
    (put_living [] (run journal).scene.book (run journal).scene.items) ∷ ports_served (run journal).scene.ports
    ∷ watch_served at (run journal).scene.watch ∷ []) ≡ []
silent_after journal at t =
    none_asked t (served_all at (put_living [] (run journal).scene.book (run journal).scene.items))
    (ports_served (run journal).scene.ports) (watch_served at (run journal).scene.watch)
    (silent at [] (run journal).scene.book (run journal).scene.items (idle_after journal) (no_items journal))
    (none_said (run journal).scene.ports (ports_idle_after journal))
    (none_followed at (run journal).scene.watch (watch_idle_after journal))
