use Rattle.std.proofs.Common.{sym, ap, nat_eq}
use Rattle.std.specs.Map.{lookup}
use Rattle.std.proofs.lemmas.Result.{on_ok_weaker}
use Rattle.fid_table.specs.Tables.{fids_in, put_in}
use Rattle.fid_table.proofs.PlaceLemmas.{find_none, find_some, missing_table, changed_table}
use Rattle.fid_table.proofs.table.Table.put.Goals as goal

pub returns-in_default-clause-before : goal.returns-in_default-clause-before
returns-in_default-clause-before c =
    rw (← c.self.view_is) (sym (ap (λ o. lookup (nat_eq c.args.fid) (fids_in o))
    (find_none c.self.inside.sessions.items c.args.conn (cc))))

pub returns-in_default-clause-ok : goal.returns-in_default-clause-ok
returns-in_default-clause-ok c = rw (← c.self.view_is) (missing_table (put_in c.args.fid c.args.value) _ _ _ _ (cc))

pub returns-clause-before : goal.returns-clause-before
returns-clause-before c =
    rw (
      ← c.self.view_is,
      find_some c.self.inside.sessions.items c.args.conn c.in-Some.place
          c.index_mut-session.result.now (cc) (cc),
    )
    c.put.ensures.before

pub returns-clause-ok : goal.returns-clause-ok
returns-clause-ok c =
    rw (← c.self.view_is)
    (on_ok_weaker c.put.result (λ e. changed_table (put_in c.args.fid c.args.value) _ _ _ _ _
    c.index_mut-session.result.now _ (cc) (cc) (cc)) c.put.ensures.ok)
