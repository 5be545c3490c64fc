use Rattle.std.proofs.Common.{refl, get_or}
use Rattle.std.proofs.lemmas.List.{get_or_default}
use Rattle.wait_queue.specs.Held.{no_waiting}
use Rattle.wait_queue.proofs.ReadLemmas.{without-none, answered}
use Rattle.wait_queue.proofs.reads.Reads.take_ready.Goals as goal

pub returns-in_default : goal.returns-in_default
returns-in_default g c =
    rw (← c.self.view_is, without-none (g.A.Answers.answers c.args.by.now) c.self.inside.all (cc))

pub returns : goal.returns
returns g c =
    rw (← c.self.view_is, c.set_gone.ensures)
    (answered (g.A.Answers.answers c.args.by.now) c.self.inside.all c.self.inside.kept c.in-Some.place
    (get_or c.self.inside.all c.in-Some.place no_waiting) _ (cc)
    (get_or_default c.self.inside.all c.in-Some.place no_waiting _ c.in-Some.ensures.within) refl)
