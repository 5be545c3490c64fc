use Rattle.std.proofs.Common.{sym, ap, ◌∙◌}
use Rattle.plumb_ports.specs.Undo.{all_undone}
use Rattle.plumb_ports.proofs.UndoLemmas.{undone_last}
use Rattle.plumb_ports.proofs.undo.take_all_back.Goals as goal

pub loop-step-preserved : goal.loop-step-preserved
loop-step-preserved c =
    rw c.take_back.ensures
    (sym (undone_last c.pop.new.self.items c.in-Some.step c.loop-step.ports)
    ∙ ap (λ us. all_undone us c.loop-step.ports) (sym c.in-Some.ensures.items) ∙ c.loop-step.invariant)
