use Rattle.std.proofs.Common.{◌∙◌}
use Rattle.core_fids.proofs.Answers.{error_sent}
use Rattle.core_fids.proofs.refusal.error.Goals as goal

pub returns-clause-sent : goal.returns-clause-sent
returns-clause-sent c = error_sent _ _ (c.in_ok-copied.ensures ∙ c.refusal_text.ensures)
