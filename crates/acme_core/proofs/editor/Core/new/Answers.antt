use Rattle.acme_core.proofs.Goes.{kept_start}
use Rattle.acme_core.proofs.editor.Core.new.Goals as goal

pub invariant_of-result : goal.invariant_of-result
invariant_of-result c = kept_start c.changes_are_lawful.ensures _ _ _ c.new.ensures c.in_ok-new.ensures.state
    c.in_ok-new.ensures.steady
