use Rattle.std.proofs.Common.{ap}
use Rattle.acme_core.specs.Run.{Editor}
use Rattle.am_drill.proofs.Replies.{none_counted}
use Rattle.am_drill.proofs.runner.Runner.new.Goals as goal

pub returns-clause-counted : goal.returns-clause-counted
returns-clause-counted c = none_counted _ (ap (λ (e : Editor). e.journal) c.in_ok-new.ensures)
