-- After no journal can a waiting read be answered.
use Rattle.std.proofs.Common.{List, [], ◌∷◌, refl}
use Rattle.std.specs.List.{fold}
use Rattle.am_journal.specs.declared.event.Event.{Event}
use Rattle.am_journal.specs.declared.event.Journal.{Journal}
use Rattle.core_events.specs.Sound.{IsIdle}
use Rattle.core_events.specs.PortSound.{ArePortsIdle}
use Rattle.core_events.proofs.Idles.{AreIdle, empty_idle, idle_end}
use Rattle.core_parts.specs.States.{State, present, start_of}
use Rattle.core_intents.specs.Doings.{doing_of}
use Rattle.core_parts.specs.Kinds.{kind_of}
use Rattle.acme_core.specs.Run.{step, run}
use Rattle.core_steps.proofs.Idling.{idle_on, ports_idle_on}
use Rattle.core_watch.specs.Sound.{IsWatchIdle}
use Rattle.acme_core.proofs.Watching.{IsStill, still_on}

step_idle : (s : State) (e : Event) → AreIdle [] s.entries s.scene.book
    → AreIdle [] (step s e).entries (step s e).scene.book
unfolding step
step_idle s e idle = idle_on (present s) (kind_of e) (doing_of (present s) e) idle

fold_idle : (s : State) (events : List Event) → AreIdle [] s.entries s.scene.book
    → AreIdle [] (fold step s events).entries (fold step s events).scene.book
fold_idle s [] idle = idle
fold_idle s (e ∷ events) idle = fold_idle (step s e) events (step_idle s e idle)

pub run_idle : (journal : Journal) → AreIdle [] (run journal).entries (run journal).scene.book
unfolding run
run_idle journal = fold_idle (start_of journal.format) journal.events empty_idle

pub idle_after : (journal : Journal) → IsIdle (run journal).scene.book
idle_after journal = idle_end (run journal).entries (run journal).scene.book (run_idle journal)

-- the same of ports
step_ports : (s : State) (e : Event) → ArePortsIdle (step s e).scene.ports
unfolding step
step_ports s e = ports_idle_on (present s) (kind_of e) (doing_of (present s) e)

fold_ports : (s : State) (events : List Event) → ArePortsIdle s.scene.ports
    → ArePortsIdle (fold step s events).scene.ports
fold_ports s [] idle = idle
fold_ports s (e ∷ events) idle = fold_ports (step s e) events (step_ports s e)

pub ports_idle_after : (journal : Journal) → ArePortsIdle (run journal).scene.ports
unfolding run
ports_idle_after journal = fold_ports (start_of journal.format) journal.events refl

-- and of `log` and `jobs`
step_watch : (s : State) (e : Event) → IsStill s.scene.watch → IsStill (step s e).scene.watch
unfolding step
step_watch s e still = still_on (present s) (kind_of e) (doing_of (present s) e) still.single

fold_watch : (s : State) (events : List Event) → IsStill s.scene.watch → IsStill (fold step s events).scene.watch
fold_watch s [] still = still
fold_watch s (e ∷ events) still = fold_watch (step s e) events (step_watch s e still)

pub watch_still_after : (journal : Journal) → IsStill (run journal).scene.watch
unfolding run
watch_still_after journal = fold_watch (start_of journal.format) journal.events (record { single = refl; idle = refl })

pub watch_idle_after : (journal : Journal) → IsWatchIdle (run journal).scene.watch
watch_idle_after journal = (watch_still_after journal).idle

pub ruleset idling = (idle_after, ports_idle_after, watch_idle_after)
