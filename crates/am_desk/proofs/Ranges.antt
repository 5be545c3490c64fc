-- The numbers of a journal's events fit their fields, one event on.
use Rattle.std.proofs.Common.{◌≡◌, List, [], ◌∷◌, ◌++◌, sym, subst}
use Rattle.std.specs.Prelude.{Result, Ok, Err, OnOk, OnErr}
use Rattle.std.specs.List.{AllByRecursion}
use Rattle.am_journal.specs.declared.event.Event.{Event}
use Rattle.am_journal.specs.declared.event.Format.{Format}
use Rattle.am_journal.specs.declared.event.Journal.{Journal}
use Rattle.am_journal.specs.Journal.{journal_in, longer}
use Rattle.am_journal.specs.Lawful.{IsInRange}

ranged_push : (xs : List Event) (e : Event) → AllByRecursion IsInRange xs → IsInRange e
    → AllByRecursion IsInRange (xs ++ e ∷ [])
ranged_push [] e h new = (new, tt)
ranged_push (x ∷ xs) e h new = (h.0, ranged_push xs e h.1 new)

pub ranged_none : (journal : Journal) (format : Format) → journal ≡ journal_in format []
    → AllByRecursion IsInRange journal.events
ranged_none journal format none = subst (λ (j : Journal). AllByRecursion IsInRange j.events) (sym none) tt

-- after a step, whatever it answered
pub ranged_step : {T E : Type 0} (r : Result T E) (before now : Journal) (e : Event)
    → OnOk r (now ≡ longer before e) → OnErr r (now ≡ before)
    → AllByRecursion IsInRange before.events → IsInRange e → AllByRecursion IsInRange now.events
ranged_step (Ok x) before now e ok err h new =
    subst (λ (j : Journal). AllByRecursion IsInRange j.events) (sym ok) (ranged_push before.events e h new)
ranged_step (Err x) before now e ok err h new = subst (λ (j : Journal). AllByRecursion IsInRange j.events) (sym err) h

pub ruleset ranges = (ranged_none, ranged_step)
