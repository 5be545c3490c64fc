use Rattle.std.proofs.Common.{ap, ◌∙◌}
use Rattle.addr_syntax.specs.Tree.{tree}
use Rattle.addr_syntax.specs.Joined.{Reading, join_part}
use Rattle.addr_syntax.proofs.Counts.{limited_part}
use Rattle.addr_syntax.proofs.reading.build_small_part.Goals as goal

pub returns-in_ok-join_part-in-Whole : goal.returns-in_ok-join_part-in-Whole
returns-in_ok-join_part-in-Whole c = λ r b small none more.
    let builds = rw c.in-Whole.is at b in
    rw c.within_room.ensures (limited_part r (tree c.args.part) c.in_ok-join_part-in-Whole.field-0 c.in-Whole.room
    c.args.more builds.1 builds.2 small none more
    (c.in_ok-join_part-in-Whole.ensures ∙ ap (λ (x : Reading). join_part x (tree c.args.part)) builds.0))
