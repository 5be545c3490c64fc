use Rattle.std.proofs.Common.{sym, ap, nat_eq}
use Rattle.std.specs.Map.{lookup}
use Rattle.fid_table.specs.Tables.{fids_in, taken_from}
use Rattle.fid_table.proofs.PlaceLemmas.{find_none, find_some, missing_table, changed_table}
use Rattle.fid_table.proofs.table.Table.take.Goals as goal

pub returns-in_default-clause-value : goal.returns-in_default-clause-value
returns-in_default-clause-value c =
    rw (← c.self.view_is) (sym (ap (λ o. lookup (nat_eq c.args.fid) (fids_in o))
    (find_none c.self.inside.sessions.items c.args.conn (cc))))

pub returns-in_default-clause-new : goal.returns-in_default-clause-new
returns-in_default-clause-new c = rw (← c.self.view_is) (missing_table (taken_from c.args.fid) _ _ _ _ (cc))

pub returns-clause-value : goal.returns-clause-value
returns-clause-value c =
    rw (
      ← c.self.view_is,
      find_some c.self.inside.sessions.items c.args.conn c.in-Some.place
          c.index_mut-session.result.now (cc) (cc),
    )
    c.take.ensures.value

pub returns-clause-new : goal.returns-clause-new
returns-clause-new c =
    rw (← c.self.view_is) (changed_table (taken_from c.args.fid) _ _ _ _ _ c.index_mut-session.result.now _ (cc) (cc)
    (cc))
