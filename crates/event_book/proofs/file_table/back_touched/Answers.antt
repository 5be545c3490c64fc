use Rattle.std.proofs.Common.{sym, subst, ap, ◌∙◌}
use Rattle.event_book.specs.Table.{files_in, kept_of, IsTable}
use Rattle.event_book.proofs.TableLemmas.{back_step}
use Rattle.event_book.proofs.file_table.back_touched.Goals as goal

pub loop-window-preserved : goal.loop-window-preserved
loop-window-preserved c =
    let step = back_step c.pop.new.self.items c.loop-window.touched.items c.in-Some.window c.loop-window.all.items
    c.args.all.now.items c.in-Some.ensures.items c.loop-window.invariant.table c.loop-window.invariant.same in
    record {
      table = subst (IsTable c.pop.new.self.items) (sym c.back_at.ensures) step.0;
      same = ap (files_in kept_of) c.back_at.ensures ∙ step.1;
    }
