-- Look at a text: the first of its steps that can be done is done (acme(1)).
use Rattle.std.specs.Prelude.{ℕ, List, Option, Some, None, if◌then◌else◌}
use Rattle.core_scene.specs.declared.deed.Entry.{Entry}
use Rattle.core_scene.specs.declared.deed.Deed.{Deed}
use Rattle.core_scene.specs.Scenes.{SceneState}
use Rattle.core_actions.specs.Looking.{look_target, look_deeds}
use Rattle.core_actions.specs.declared.opening.Target.{Target}
use Rattle.core_actions.specs.declared.opening.Target.TheVariants as target
use Rattle.core_plumb.specs.Looking.{is_plumbed, plumb_look_deeds}
use Rattle.core_exec.specs.declared.looking.LookStep.{LookStep}
use Rattle.core_exec.specs.declared.looking.LookStep.TheVariants as step

-- by what the text opens as a name
abbrev pub target_step : Option Target → LookStep
target_step None = step.Searches
target_step (Some (target.Live w)) = step.Takes
target_step (Some (target.New name text)) = step.Opens

-- the first step that can be done, in a window; the plumber is asked before the name is looked at
abbrev pub look_step : ℕ → List ℕ → SceneState → LookStep
look_step w text s = if is_plumbed w text s then step.Plumbs else target_step (look_target w text s)

-- a look at a text, in a window: the plumber takes it, or else it is opened as a name or searched for
unfoldable pub look_at_text_deeds : Entry → ℕ → List ℕ → SceneState → List Deed
look_at_text_deeds e w text s = if is_plumbed w text s then plumb_look_deeds e w text s else look_deeds e w text s
