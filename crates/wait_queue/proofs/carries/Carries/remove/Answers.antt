use Rattle.std.proofs.Common.{sym, subst, arith}
use Rattle.am_text.specs.Twice.{IsSteady}
use Rattle.wait_queue.proofs.OpeningLemmas.{all_without}
use Rattle.wait_queue.proofs.carries.Carries.remove.Goals as goal

pub returns : goal.returns
returns c =
    let steady = subst IsSteady (sym c.self.view_is) c.requires in
    rw (← c.self.view_is) (all_without _ _ _ c.self.inside.kept _ steady (cc) (omega arith))
