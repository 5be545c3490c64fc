use Rattle.acmefs.proofs.Kept.{with_laws}
use Rattle.acmefs.proofs.TraceEnds.{says-done}
use Rattle.acmefs.proofs.asked.traced.Goals as goal

pub returns-clause-journal : goal.returns-clause-journal
returns-clause-journal g c = with_laws _ (says-done c.trace-ended.result.end _ _ _ _ c.trace-ended.ensures.says)
    c.trace-ended.ensures.laws
