use Rattle.std.proofs.Common.{◌∙◌}
use Rattle.fid_table.proofs.FidLemmas.{removed}
use Rattle.fid_table.proofs.fids.Fids.take.Goals as goal

pub returns-clause-new : goal.returns-clause-new
returns-clause-new c =
    rw (← c.self.view_is) (c.shift_remove.ensures.entries ∙ removed c.self.inside.map.entries c.args.fid
    c.len-len.ensures.unique)
