use Rattle.std.proofs.Common.{refl}
use Rattle.acme_watch.proofs.ReadLemmas.{without-none, answered}
use Rattle.acme_watch.proofs.reads.WatchReads.take_ready.Goals as goal

pub returns-in_default : goal.returns-in_default
returns-in_default g c =
    rw (← c.self.view_is, without-none (g.P.Passes.passes c.args.by.now) c.self.inside.all.items (cc))

pub returns : goal.returns
returns g c =
    rw (← c.self.view_is)
    (answered (g.P.Passes.passes c.args.by.now) c.self.inside.all.items c.self.inside.kept c.in-Some.place
    c.index_mut-held.result.now _ (cc) (cc) refl)
