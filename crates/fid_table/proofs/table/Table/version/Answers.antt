use Rattle.fid_table.specs.Tables.{begun}
use Rattle.fid_table.proofs.PlaceLemmas.{missing_table, changed_table}
use Rattle.fid_table.proofs.table.Table.version.Goals as goal

pub returns-in_default : goal.returns-in_default
returns-in_default c = rw (← c.self.view_is, c.drop_reads_on.ensures) (missing_table (begun c.args.msize) _ _ _ _ (cc))

pub returns : goal.returns
returns c =
    rw (← c.self.view_is, c.drop_reads_on.ensures) (changed_table (begun c.args.msize) _ _ _ _ _
    c.index_mut-session.result.now _ (cc) (cc) (cc))
