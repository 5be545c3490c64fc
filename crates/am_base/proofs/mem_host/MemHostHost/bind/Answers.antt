use Rattle.std.proofs.Common.{rules, ◌≡◌}
use Rattle.am_base.proofs.Gates.{named_place}
use Rattle.am_base.proofs.mem_host.MemHostHost.bind.Goals as goal

-- the gate that is taken out has the name
pub returns-clause-named : goal.returns-clause-named
returns-clause-named c =
    let named : (c.take.result.path ≡ c.args.path.now) × (c.take.result.slot ≡ c.args.slot) =
    named_place c.args.self.now c.args.path.now c.args.slot c.in-Some.at c.take.result (search rules)
    (search rules) in
    (search (rules, named), search (rules, named))
