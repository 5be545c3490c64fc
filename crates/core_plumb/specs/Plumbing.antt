-- A plumb message is delivered, or refused (plumber(4)).
use Rattle.std.specs.Prelude.{List, [], Option, Some, None}
use Rattle.plumb_msg.specs.declared.message.PlumbMsg.{PlumbMsg}
use Rattle.plumb_rules.specs.declared.answer.Route.{Route}
use Rattle.core_scene.specs.declared.deed.Entry.{Entry}
use Rattle.core_scene.specs.declared.deed.Deed.{Deed}
use Rattle.core_scene.specs.Scenes.{SceneState}
use Rattle.core_plumb.specs.declared.refusal.PlumbRefusal.{PlumbRefusal}
use Rattle.core_plumb.specs.Routing.{route_in, route_refusal}
use Rattle.core_plumb.specs.Delivering.{deliver_deeds}

-- a message goes where its rule says, if one matches
abbrev pub delivered_if_any : Entry → Option Route → SceneState → List Deed
delivered_if_any e None s = []
delivered_if_any e (Some route) s = deliver_deeds e route s

-- the deeds, where nothing refuses them
abbrev pub unless_refused : Option PlumbRefusal → List Deed → List Deed
unless_refused None deeds = deeds
unless_refused (Some refusal) deeds = []

-- a message goes where its rule says, unless it is refused
abbrev pub routed_deeds : Entry → Option Route → SceneState → List Deed
routed_deeds e route s = unless_refused (route_refusal route s.ports) (delivered_if_any e route s)

-- A message is delivered by its route; one that is refused does nothing.
abbrev pub plumb_deeds : Entry → PlumbMsg → SceneState → List Deed
plumb_deeds e m s = routed_deeds e (route_in m s) s
