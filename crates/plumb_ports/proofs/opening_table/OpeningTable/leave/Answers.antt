use Rattle.std.proofs.Common.{sym, subst, arith}
use Rattle.am_text.specs.Twice.{IsSteady}
use Rattle.plumb_ports.proofs.OpeningLemmas.{all_without}
use Rattle.plumb_ports.proofs.opening_table.OpeningTable.leave.Goals as goal

pub returns : goal.returns
returns c =
    let steady = subst IsSteady (sym c.self.view_is) c.requires in
    rw (← c.self.view_is) (all_without _ _ _ c.self.inside.kept _ steady (cc) (omega arith))
