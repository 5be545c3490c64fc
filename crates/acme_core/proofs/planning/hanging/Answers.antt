use Rattle.std.proofs.Common.{◌+◌, refl}
use Rattle.acme_core.proofs.Hangs.{hanging}
use Rattle.acme_core.proofs.planning.hanging.Goals as goal

pub returns-clause-ready : goal.returns-clause-ready
returns-clause-ready c =
    hanging c.args.parts.now c.args.event (c.args.parts.now.entries + 1) c.new-3.result c.new.result c.new-2.result
    c.new.ensures c.new-2.ensures c.requires.hang c.requires.joined c.requires.steady c.requires.sound refl
    c.new-3.ensures.items
