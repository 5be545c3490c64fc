use Rattle.fid_table.specs.Undo.{restored_in}
use Rattle.fid_table.proofs.PlaceLemmas.{missing_table, changed_table}
use Rattle.fid_table.proofs.table.Table.restore.Goals as goal

pub returns-in_default : goal.returns-in_default
returns-in_default c = rw (← c.self.view_is) (missing_table (restored_in c.args.fid c.args.value) _ _ _ _ (cc))

pub returns : goal.returns
returns c =
    rw (← c.self.view_is) (changed_table (restored_in c.args.fid c.args.value) _ _ _ _ _ c.index_mut-session.result.now
    _ (cc) (cc) (cc))
