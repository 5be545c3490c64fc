-- Each entry does what it does to ports by calls of them.
use Rattle.std.proofs.Common.{List, sym, subst}
use Rattle.am_journal.specs.declared.event.Event.{Event}
use Rattle.core_intents.specs.Doings.{doing_of}
use Rattle.core_parts.specs.Kinds.{kind_of}
use Rattle.core_parts.specs.States.{State, present}
use Rattle.acme_core.specs.Run.{step, run}
use Rattle.acme_core.proofs.Goes.{run-push}
use Rattle.core_laws.specs.Saying.{said_after}
use Rattle.core_steps.specs.Stages.{said}
use Rattle.event_laws.specs.Calls.{calls_at}
use Rattle.event_laws.specs.PortLaws.{ports_after, calls_of, IsByPorts}
use Rattle.event_laws.proofs.Stages.{Stage, entry_stage}
use Rattle.am_journal.specs.declared.event.Journal.{Journal}
use Rattle.am_journal.specs.Journal.{longer}

step_stage : (s : State) (e : Event)
    → Stage s.scene.ports (calls_at (present s) (kind_of e) (doing_of (present s) e))
    (said (present s) (kind_of e) (doing_of (present s) e)) (step s e).scene.ports
unfolding step
step_stage s e = entry_stage (present s) (kind_of e) (doing_of (present s) e)

pub entry : (before : Journal) (e : Event) → IsByPorts before e
entry before e =
    let all : Stage (ports_after before) (calls_of before e) (said_after before e) (ports_after (longer before e)) =
    subst (λ (t : State). Stage (ports_after before) (calls_of before e) (said_after before e) t.scene.ports)
    (sym (run-push before e)) (step_stage (run before) e)
    in
    record { can = all.can; ports = all.ports; gives = all.gives }
