use Rattle.acme_watch.proofs.EachLemmas.{and_true}
use Rattle.acme_watch.proofs.LogLemmas.{reader-none, reader-some}
use Rattle.acme_watch.proofs.log.LogReaders.must_wait.Goals as goal

pub returns-in_default : goal.returns-in_default
returns-in_default c = rw (← c.self.view_is, reader-none c.self.inside.all.items c.args.asker.opening (cc)) (and_true _)

pub returns : goal.returns
returns c =
    rw (
      ← c.self.view_is,
      reader-some c.self.inside.all.items c.args.asker.opening c.in-Some.place c.index.result.now
          (cc) (cc),
    ) (cc)
