use Rattle.std.proofs.Common.{◌≡◌, Some, sym, ap, ◌∙◌, subst, append-nil, ◌++◌, List}
use Rattle.am_text.specs.Twice.{Twice}
use Rattle.plumb_ports.specs.PortsState.{PortsState, served_of, after_serve}
use Rattle.core_events.specs.declared.response.Response.{Response}
use Rattle.core_events.specs.PortServing.{ports_after_serving}
use Rattle.core_events.specs.PortSound.{ArePortsIdle}
use Rattle.core_events.proofs.PortTurns.{said_more, more_said, after_all_more, all_none, none_next, idle}
use Rattle.core_events.proofs.PortTurns.{after_all_none, fewer, sound_after}
use Rattle.core_events.proofs.port_serving.serve_ports.Goals as goal

pub loop-said-smaller : goal.loop-said-smaller
loop-said-smaller c =
    fewer c.loop-said.ports.present c.serve.new.self.present c.in-Some.asker c.in-Some.piece
    (sym c.in_ok-asker.ensures.answer ∙ c.in-Some.is)
    (ap (λ (t : Twice PortsState). t.present) c.in_ok-asker.ensures.ok)

pub loop-said-preserved : goal.loop-said-preserved
loop-said-preserved c =
    let found : served_of c.loop-said.ports.present ≡ Some (c.in-Some.asker, c.in-Some.piece) =
    sym c.in_ok-asker.ensures.answer ∙ c.in-Some.is in
    let after : c.serve.new.self.present ≡ after_serve c.loop-said.ports.present =
    ap (λ (t : Twice PortsState). t.present) c.in_ok-asker.ensures.ok in
    record {
      exact = said_more c.args.ports.now.present c.loop-said.ports.present c.serve.new.self.present c.in-Some.asker
          c.in-Some.piece c.loop-said.said c.push.new.self
          found after c.loop-said.invariant.exact c.in_ok-push.ensures.ok;
      rest = ap ports_after_serving after
          ∙ sym (after_all_more c.loop-said.ports.present c.in-Some.asker c.in-Some.piece found)
          ∙ c.loop-said.invariant.rest;
      kept = ap (λ (t : Twice PortsState). t.kept) c.in_ok-asker.ensures.ok ∙ c.loop-said.invariant.kept;
      said = more_said c.loop-said.ports.present c.in-Some.asker c.in-Some.piece c.loop-said.said c.push.new.self
          c.loop-said.invariant.sound found
          c.loop-said.invariant.said c.in_ok-push.ensures.ok;
      sound = sound_after c.loop-said.ports.present c.serve.new.self.present c.loop-said.invariant.sound after;
    }

pub returns-clause-exact : goal.returns-clause-exact
returns-clause-exact c =
    let none = all_none c.loop-said.ports.present (sym c.in_ok-asker.ensures.answer ∙ c.in_default.is) in
    sym (append-nil c.loop-said.said)
    ∙ ap (λ (l : List Response). c.loop-said.said ++ l) (sym none)
    ∙ c.loop-said.invariant.exact

pub returns-clause-ok : goal.returns-clause-ok
returns-clause-ok c =
    let none = sym c.in_ok-asker.ensures.answer ∙ c.in_default.is in
    ap (λ (t : Twice PortsState). t.present) c.in_ok-asker.ensures.ok
    ∙ idle c.loop-said.ports.present none
    ∙ sym (after_all_none c.loop-said.ports.present none)
    ∙ c.loop-said.invariant.rest

pub returns-clause-idle : goal.returns-clause-idle
returns-clause-idle c =
    let none = sym c.in_ok-asker.ensures.answer ∙ c.in_default.is in
    subst ArePortsIdle (sym (ap (λ (t : Twice PortsState). t.present) c.in_ok-asker.ensures.ok
    ∙ idle c.loop-said.ports.present none)) (none_next c.loop-said.ports.present none)
