-- What an event does.
use Rattle.std.specs.Prelude.{List, Option}
use Rattle.win_events.specs.declared.item.Origin.{Origin}
use Rattle.core_fids.specs.declared.effect.Effect.{Effect}
use Rattle.core_fids.specs.declared.effect.EventChange.{EventChange}
use Rattle.core_fids.specs.declared.effect.Answer.{Answer}
use Rattle.core_events.specs.declared.closing.BackItem.{BackItem}
use Rattle.core_watch.specs.declared.answering.RequestAnswer.{RequestAnswer}
use Rattle.core_scene.specs.declared.deed.Deed.{Deed}

-- To the fids and the session of its connection, to the files whose reads wait, and by deeds to the scene; what the
-- items come from that it makes; how its message is answered, where it is one; the item that it writes back, and the
-- answer to a request that it writes.
pub record Doing : Type 0 where
  pub effect : Effect
  pub events : EventChange
  pub deeds : List Deed
  pub origin : Origin
  pub answer : Option Answer
  pub back : Option BackItem
  pub answers : Option RequestAnswer
