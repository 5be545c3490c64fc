use Rattle.std.proofs.Common.{arith}
use Rattle.std.proofs.lemmas.Result.{on_ok_weaker}
use Rattle.wait_queue.proofs.OpeningLemmas.{changed, unchanged, carry_of-none, carry_of-read}
use Rattle.wait_queue.proofs.carries.Carries.give.Goals as goal

pub returns-in_default-clause-bytes : goal.returns-in_default-clause-bytes
returns-in_default-clause-bytes c =
    rw (← c.self.view_is, carry_of-none c.self.inside.all.items c.args.id (cc)) (grind (arith))

pub returns-in_default-clause-ok : goal.returns-in_default-clause-ok
returns-in_default-clause-ok c = rw (← c.self.view_is) (unchanged _ _ _ _ (cc))

pub returns-clause-bytes : goal.returns-clause-bytes
returns-clause-bytes c =
    rw (
      ← c.self.view_is,
      carry_of-read c.self.inside.all.items c.args.id c.in-Some.place c.index_mut-opening.result.now
          (cc) (cc),
    )
    c.give.ensures.bytes

pub returns-clause-ok : goal.returns-clause-ok
returns-clause-ok c =
    rw (
      ← c.self.view_is,
      carry_of-read c.self.inside.all.items c.args.id c.in-Some.place c.index_mut-opening.result.now
          (cc) (cc),
    )
    (on_ok_weaker c.give.result (λ e. changed _ _ _ _ c.index_mut-opening.result.now _ _ (cc) (cc) (cc))
    c.give.ensures.ok)
