use Rattle.std.proofs.Common.{List, sym, subst}
use Rattle.std.specs.Prelude.{Option}
use Rattle.core_windows.specs.Possible.{CanChange}
use Rattle.core_windows.specs.Windows.{Window, WindowsState}
use Rattle.core_windows.proofs.NumberLemmas.{world_renewed, world_kept}
use Rattle.core_windows.proofs.windows.Windows.change.Goals as goal

pub invariant_of-self-2 : goal.invariant_of-self-2
invariant_of-self-2 c =
    let can = subst (λ (t : WindowsState). CanChange t.present c.args.change) (sym c.self.view_is) c.requires in
    record {
      present = world_renewed _ _ _ _ _ c.args.at c.args.change can c.self.invariant.present c.renumber.ensures.world
          c.renumber.ensures.watched c.in_ok-numbers.ensures c.in_ok-change.ensures.ok;
      kept = world_kept _ _ c.self.inside.states _ _ c.self.invariant.kept c.renumber.ensures.kept c.in_ok-change.ensures.ok;
    }
