-- What a message does that is answered at once, and what one does that asks something of the scene.
use Rattle.std.specs.Prelude.{ℕ, List, []}
use Rattle.ninep_types.specs.declared.message.RBody.{RBody}
use Rattle.ninep_types.specs.declared.message.RBody.TheVariants as r
use Rattle.core_windows.specs.declared.change.Change.{Change}
use Rattle.core_fids.specs.declared.effect.Effect.{Effect}
use Rattle.core_fids.specs.declared.effect.Effect.TheVariants as effect
use Rattle.core_fids.specs.declared.effect.Demand.{Demand}
use Rattle.core_fids.specs.declared.effect.Demand.TheVariants as demand
use Rattle.core_fids.specs.declared.effect.EventChange.TheVariants as events
use Rattle.core_fids.specs.declared.effect.Answer.TheVariants.{Says}
use Rattle.core_fids.specs.declared.effect.Reaction.{Reaction}

-- what has nothing to do with files whose reads wait
abbrev pub does : Effect → List Change → RBody → Reaction
does f changes body = record {
  effect = f;
  events = events.Nothing;
  changes = changes;
  demand = demand.Nothing;
  answer = Says body;
}

-- what frees a fid, asks this of the scene and is answered so
abbrev pub frees : ℕ → Demand → RBody → Reaction
frees number d body = record {
  effect = effect.Frees number;
  events = events.Nothing;
  changes = [];
  demand = d;
  answer = Says body;
}

-- a write that asks this of the scene: the whole count is answered, unless that is refused
abbrev pub demands : Demand → ℕ → Reaction
demands d count = record {
  effect = effect.Nothing;
  events = events.Nothing;
  changes = [];
  demand = d;
  answer = Says (r.Write count);
}
