use Rattle.std.proofs.Common.{sym}
use Rattle.wait_queue.proofs.ReadLemmas.{find-none, find-some}
use Rattle.wait_queue.proofs.reads.Reads.ready.Goals as goal

pub returns-in_default : goal.returns-in_default
returns-in_default g c =
    rw (← c.self.view_is)
    (sym (find-none (g.A.Answers.answers c.args.by.now) c.self.inside.all (cc)))

pub returns : goal.returns
returns g c =
    rw (← c.self.view_is)
    (let some = find-some (g.A.Answers.answers c.args.by.now) c.self.inside.all c.in-Some.place c.get.result (cc) in cc)
