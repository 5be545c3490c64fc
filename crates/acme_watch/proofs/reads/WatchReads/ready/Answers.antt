use Rattle.std.proofs.Common.{sym}
use Rattle.acme_watch.proofs.ReadLemmas.{find-none, find-some}
use Rattle.acme_watch.proofs.reads.WatchReads.ready.Goals as goal

pub returns-in_default : goal.returns-in_default
returns-in_default g c =
    rw (← c.self.view_is)
    (sym (find-none (g.P.Passes.passes c.args.by.now) c.self.inside.all.items (cc)))

pub returns : goal.returns
returns g c =
    rw (← c.self.view_is)
    (let some = find-some (g.P.Passes.passes c.args.by.now) c.self.inside.all.items c.in-Some.place c.index.result.now
    (cc) in cc)
