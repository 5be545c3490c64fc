use Rattle.std.proofs.lemmas.Result.{on_ok_weaker}
use Rattle.core_scene.proofs.Dids.{book_stays}
use Rattle.core_tasks.proofs.task.do_task.Goals as goal

pub returns-clause-book : goal.returns-clause-book
returns-clause-book c = on_ok_weaker c.run.result (λ did. book_stays {a = c.args.scene.now} {b = c.run.new.scene} did
    c.run.ensures.kept) c.run.ensures.ok
