-- What is said, one after another.
use Rattle.std.proofs.Common.{◌≡◌, List, [], ◌∷◌, ◌++◌, sym, subst}
use Rattle.std.proofs.lemmas.List.Elements.{All-append, All-push, All-nil}
use Rattle.core_events.specs.declared.response.Response.{Response}
use Rattle.core_events.specs.Responses.{IsSaid, AreSaid}

pub both_said : (a b all : List Response) → all ≡ a ++ b → AreSaid a → AreSaid b → AreSaid all
both_said a b all e h k = subst AreSaid (sym e) (All-append IsSaid a b h k)

pub one_said : (r : Response) (all : List Response) → all ≡ r ∷ [] → IsSaid r → AreSaid all
one_said r all e h = subst AreSaid (sym e) (All-push IsSaid [] r (All-nil IsSaid) h)

pub none_said : (all : List Response) → all ≡ [] → AreSaid all
none_said all e = subst AreSaid (sym e) (All-nil IsSaid)

pub ruleset saying = (both_said, one_said, none_said)
