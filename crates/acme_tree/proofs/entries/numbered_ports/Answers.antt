use Rattle.std.proofs.Common.{◌^◌, ◌∙◌, arith}
use Rattle.acme_tree.proofs.Listed.{take_min}
use Rattle.acme_tree.proofs.entries.numbered_ports.Goals as goal

pub returns-clause-ports : goal.returns-clause-ports
returns-clause-ports c = c.split_at.ensures.front ∙ take_min c.args.ports.now c.min.result (2 ^ 32)
    (omega (arith, c.min.ensures))
