-- Deliveries by equal targets, routes and messages.
use Rattle.std.proofs.Common.{◌≡◌, ℕ, List, Option, subst}
use Rattle.plumb_msg.specs.declared.message.PlumbMsg.{PlumbMsg}
use Rattle.plumb_rules.specs.declared.answer.Route.{Route}
use Rattle.core_scene.specs.declared.deed.Entry.{Entry}
use Rattle.core_scene.specs.Scenes.{SceneState, Did}
use Rattle.core_actions.specs.declared.opening.Target.{Target}
use Rattle.core_plumb.specs.Routing.{route_in}
use Rattle.core_plumb.specs.Delivering.{open_if_any}
use Rattle.core_plumb.specs.Plumbing.{routed_deeds, plumb_deeds}
use Rattle.core_plumb.specs.Looking.{asked_msg, plumbed_if_any, plumb_look_deeds}

pub shown_too : (e : Entry) (a b : SceneState) (t t' : Option Target) (o o' : Option (List ℕ)) → t ≡ t' → o ≡ o'
    → Did e a b (open_if_any e t o a) → Did e a b (open_if_any e t' o' a)
shown_too e a b t t' o o' h k did =
    subst (λ (x : Option Target). Did e a b (open_if_any e x o' a)) h
    (subst (λ (x : Option (List ℕ)). Did e a b (open_if_any e t x a)) k did)

pub plumbed_too : (e : Entry) (a b : SceneState) (m : PlumbMsg) (r : Option Route) → r ≡ route_in m a
    → Did e a b (routed_deeds e r a) → Did e a b (plumb_deeds e m a)
plumbed_too e a b m r h did = subst (λ (x : Option Route). Did e a b (routed_deeds e x a)) h did

pub looked_too : (e : Entry) (a b : SceneState) (w : ℕ) (t : List ℕ) (o : Option PlumbMsg) → o ≡ asked_msg w t a
    → Did e a b (plumbed_if_any e o a) → Did e a b (plumb_look_deeds e w t a)
looked_too e a b w t o h did = subst (λ (x : Option PlumbMsg). Did e a b (plumbed_if_any e x a)) h did
