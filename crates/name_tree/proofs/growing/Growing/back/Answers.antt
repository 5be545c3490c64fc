use Rattle.std.proofs.Common.{sym, ap, ◌∙◌}
use Rattle.name_tree.specs.Undo.{all_undone}
use Rattle.name_tree.proofs.UndoLemmas.{undone_last}
use Rattle.name_tree.proofs.growing.Growing.back.Goals as goal

pub loop-step-preserved : goal.loop-step-preserved
loop-step-preserved c =
    rw c.take_back.ensures
    (sym (undone_last c.pop.new.self.items c.in-Some.step c.loop-step.self.places)
    ∙ ap (λ us. all_undone us c.loop-step.self.places) (sym c.in-Some.ensures.items) ∙ c.loop-step.invariant)
