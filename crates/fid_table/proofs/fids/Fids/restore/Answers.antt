use Rattle.std.proofs.Common.{sym}
use Rattle.fid_table.proofs.FidLemmas.{absent_set}
use Rattle.fid_table.proofs.fids.Fids.restore.Goals as goal

pub returns-in_default : goal.returns-in_default
returns-in_default c =
    rw (← c.self.view_is, c.get_mut.follows.holds-at-none)
    (absent_set c.self.inside.map.entries c.args.fid c.args.value (sym c.in_default.ensures.value))
