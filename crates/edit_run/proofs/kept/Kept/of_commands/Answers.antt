use Rattle.std.proofs.Common.{List, sym, subst}
use Rattle.edit_run.specs.declared.kept.Kept.{Kept}
use Rattle.edit_run.specs.Kept.{AreOf}
use Rattle.edit_run.proofs.Keeping.{block_kept}
use Rattle.edit_run.proofs.kept.Kept.of_commands.Goals as goal

pub returns : goal.returns
returns c =
    subst (λ (x : List Kept). AreOf x c.args.commands.now.items) (sym c.inner.ensures)
    (block_kept c.args.commands.now c.args.self.now c.requires)
