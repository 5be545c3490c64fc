use Rattle.event_book.proofs.ShownLemmas.{pushed, split-push}
use Rattle.event_book.proofs.lives.ItemList.push.Goals as goal

pub invariant_of-self-2 : goal.invariant_of-self-2
invariant_of-self-2 c = rw c.in_ok-push.ensures.items (split-push _ _ _ _ _ c.self.invariant)

pub returns-clause-ok : goal.returns-clause-ok
returns-clause-ok c =
    rw (← c.self.view_is, c.in_ok-push.ensures.items) (pushed _ _ _ _ _ c.self.invariant.within
    c.self.invariant.kept_within)
