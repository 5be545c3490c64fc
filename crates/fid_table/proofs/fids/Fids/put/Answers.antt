use Rattle.std.proofs.Common.{◌∙◌}
use Rattle.fid_table.proofs.FidLemmas.{inserted}
use Rattle.fid_table.proofs.fids.Fids.put.Goals as goal

pub returns-clause-ok : goal.returns-clause-ok
returns-clause-ok c =
    rw (← c.self.view_is) (c.in_ok-before.ensures.entries ∙ inserted c.self.inside.map.entries c.args.fid c.args.value)
