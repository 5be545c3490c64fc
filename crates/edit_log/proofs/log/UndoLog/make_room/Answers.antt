use Rattle.std.proofs.Common.{◌≡◌, length, arith}
use Rattle.edit_log.proofs.log.UndoLog.make_room.Goals as goal

pub invariant_of-self : goal.invariant_of-self
invariant_of-self c =
    let same : length c.grow.new.groups.items ≡ length c.self.inside.groups.items =
    omega (arith, c.grow.ensures.len, c.grow.new.groups.ok.0, c.self.inside.groups.ok.0) in (
      c.self.invariant.0,
      omega (arith, c.self.invariant.1, same),
      λ r. (
        omega (arith, (c.self.invariant.2 r).0, c.grow.ensures.len, c.grow.ensures.capacity),
        λ g. c.grow.ensures.spare c.self.inside.room ((c.self.invariant.2 r).1 g),
      ),
    )
