use Rattle.std.proofs.Common.{rules, ◌≡◌, Some, ap, subst, sym}
use Rattle.am_base.specs.Outside.{AreTold}
use Rattle.am_base.proofs.Gates.{at_dialled}
use Rattle.am_base.proofs.mem_host.MemHostHost.dial.Goals as goal

-- the gate that is dialled has the path
pub returns-in-Ok-clause-dialled : goal.returns-in-Ok-clause-dialled
returns-in-Ok-clause-dialled c =
    let at : c.take.result.path ≡ c.args.path.now = at_dialled c.args.self.now c.args.path.now c.in-Some.at
    c.take.result (search rules) (search rules) in
    let told : c.in-Ok.link.dialled ≡ Some c.take.result.path = search rules in
    subst (λ o. AreTold o c.args.path.now) (sym told) at
