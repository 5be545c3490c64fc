use Rattle.std.proofs.Common.{sym, ◌∙◌}
use Rattle.core_plumb.proofs.Taking.{closed_takes}
use Rattle.core_plumb.proofs.delivering.deliver_to_closed.Goals as goal

pub keep-requires-clause-takes : goal.keep-requires-clause-takes
keep-requires-clause-takes c =
    closed_takes c.args.scene.now.ports.present c.start.new.scene.ports.present c.args.name.now c.args.route.now.way
    c.in_ok-start.ensures.ports (sym c.is_client-client.ensures ∙ c.if-client.true) c.requires.closed
    c.requires.takes
