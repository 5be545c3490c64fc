use Rattle.std.proofs.Common.{sym}
use Rattle.wait_queue.proofs.OpeningLemmas.{carry_of-none, carry_of-read}
use Rattle.wait_queue.proofs.carries.Carries.carry.Goals as goal

pub returns-in_default : goal.returns-in_default
returns-in_default c = rw (← c.self.view_is) (sym (carry_of-none c.self.inside.all.items c.args.id (cc)))

pub returns : goal.returns
returns c =
    rw (← c.self.view_is)
    (let found = carry_of-read c.self.inside.all.items c.args.id c.in-Some.place c.index.result.now (cc) (cc) in cc)
