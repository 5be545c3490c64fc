use Rattle.wait_queue.proofs.OpeningLemmas.{any-present}
use Rattle.wait_queue.proofs.carries.Carries.has.Goals as goal

pub returns : goal.returns
returns c = rw (← c.self.view_is) (let any = any-present c.self.inside.all.items c.args.id in cc)
