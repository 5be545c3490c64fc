-- What a command makes of the bodies of windows.
use Rattle.std.specs.Prelude.{ℕ, ◌<◌, Bool, true, false, List, [], ◌∷◌, map, slice_index_or, Option, IsSome}
use Rattle.std.specs.Prelude.{Result, Ok, Err}
use Rattle.re_syntax.specs.Tree as expression
use Rattle.edit_parts.specs.Tree.{Command}
use Rattle.edit_run.specs.declared.types.EditPlan.{EditPlan}
use Rattle.edit_files.specs.Across.{takes, plans_from}
use Rattle.edit_files.specs.Command.{FilesCommand, One, Each, Other, Open, Drops, Enter, ReadIn, WriteOut}
use Rattle.core_windows.specs.Possible.{text_in}
use Rattle.core_windows.specs.Windows.{Window, window_at, numbers}
use Rattle.core_actions.specs.Seen.{name_of}
use Rattle.core_edit.specs.declared.fault.CommandFault.{CommandFault}
use Rattle.core_edit.specs.Plans.{Planned, window_plan, IsPlanOf}
use Rattle.core_across.specs.declared.planning.WindowPlan.{WindowPlan}

-- ---- the live windows, by rising number

-- the number of the one at a place
abbrev pub number_at : List (Option Window) → ℕ → ℕ
number_at ws k = slice_index_or (numbers 1 ws) k 0

-- their names; a window without one has the empty text
abbrev pub live_names : List (Option Window) → List (List ℕ)
live_names ws = map (λ w. name_of (window_at ws w)) (numbers 1 ws)

-- what a command makes of the body of the one at a place
abbrev pub plan_at : List (Option Window) → ℕ → Command → Planned
plan_at ws k c = window_plan (number_at ws k) (window_at ws (number_at ws k)) c

-- ---- plans of their bodies

-- plans by rising number of their windows, or the fault of the first one at fault
abbrev pub CommandPlans : Type 0
CommandPlans = Result (List WindowPlan) (Option CommandFault)

-- the plan of one window alone
abbrev pub one_plan : ℕ → Planned → CommandPlans
one_plan w (Ok plan) = Ok (record { window = w; plan = plan } ∷ [])
one_plan w (Err f) = Err f

-- a plan of the live window at a place, with its number
abbrev pub numbered : List (Option Window) → ℕ × EditPlan → WindowPlan
numbered ws p = record { window = number_at ws p.0; plan = p.1 }

-- plans of the live windows at these places, with their numbers
abbrev pub with_numbers : List (Option Window) → Result (List (ℕ × EditPlan)) (ℕ × Option CommandFault) → CommandPlans
with_numbers ws (Ok plans) = Ok (map (numbered ws) plans)
with_numbers ws (Err fault) = Err fault.1

-- those of the windows whose names have a match, or have none
abbrev pub across_plans : Bool → expression.Tree → Command → List (Option Window) → CommandPlans
across_plans with_match re c ws =
    with_numbers ws (plans_from (λ k. plan_at ws k c) (takes with_match re) 0 (live_names ws))

-- What a command makes of bodies: one of sam makes a plan of its window's, `X` and `Y` make one of each that they take;
-- the others plan none.
abbrev pub command_plans : ℕ → FilesCommand → List (Option Window) → CommandPlans
command_plans w (One c) ws = one_plan w (window_plan w (window_at ws w) c)
command_plans w (Each re c) ws = across_plans true re c ws
command_plans w (Other re c) ws = across_plans false re c ws
command_plans w (Open name) ws = Ok []
command_plans w (Drops names) ws = Ok []
command_plans w (Enter name) ws = Ok []
command_plans w (ReadIn addr name) ws = Ok []
command_plans w (WriteOut addr name) ws = Ok []

-- ---- what is known of them

-- The window lives, and the plan is one of its body.
pub record IsPlanIn (ws : List (Option Window)) (p : WindowPlan) : Type 0 where
  pub lives : IsSome (window_at ws p.window)
  pub sound : IsPlanOf (text_in (window_at ws p.window)) p.plan

-- each is one of its window
abbrev pub ArePlansIn : List (Option Window) → List WindowPlan → Type 0
ArePlansIn ws [] = Unit {0}
ArePlansIn ws (p ∷ ps) = IsPlanIn ws p × ArePlansIn ws ps

-- the numbers of their windows rise, all above this one
abbrev pub AreRising : ℕ → List WindowPlan → Type 0
AreRising n [] = Unit {0}
AreRising n (p ∷ ps) = (n < p.window) × AreRising p.window ps

-- They are plans of windows, one of each at most, by rising number.
pub record AreSound (ws : List (Option Window)) (plans : List WindowPlan) : Type 0 where
  pub rising : AreRising 0 plans
  pub each : ArePlansIn ws plans
