-- What an action does that may be refused.
use Rattle.std.specs.Prelude.{List, [], Option, Some, None}
use Rattle.core_scene.specs.declared.deed.Deed.{Deed}
use Rattle.core_actions.specs.declared.fault.ActionFault.{ActionFault}

-- the deeds, and why there are none, where it is refused
pub record Outcome : Type 0 where
  pub deeds : List Deed
  pub fault : Option ActionFault

-- these deeds are done
abbrev pub does : List Deed → Outcome
does deeds = record { deeds = deeds; fault = None }

-- nothing is done, for this fault
abbrev pub fails : ActionFault → Outcome
fails fault = record { deeds = []; fault = Some fault }
