use Rattle.std.proofs.Common.{◌≡◌, drop}
use Rattle.plumb_rules.specs.Routes.{sets_route}
use Rattle.plumb_rules.proofs.routing.sets_route.Given as goal

abbrev pub invariant-loop-rules : goal.invariant-loop-rules
invariant-loop-rules l = sets_route l.tree.present l.msg (drop l.rules-index l.sets) ≡ sets_route l.tree.present l.msg
    l.sets
