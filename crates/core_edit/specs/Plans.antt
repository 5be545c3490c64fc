-- What a command of Edit is to make of a window's body (sam(1)).
use Rattle.std.specs.Prelude.{◌≡◌, ℕ, ◌+◌, ◌-◌, List, [], ◌∷◌, length, Option, Some, None, Result, Ok, Err}
use Rattle.std.specs.Prelude.{if◌then◌else◌}
use Rattle.edit_log.specs.declared.types.Edit.{Edit}
use Rattle.edit_log.specs.Edited.{text_after}
use Rattle.edit_parts.specs.Tree.{Command}
use Rattle.edit_run.specs.declared.fault.EditFault.{EditFault}
use Rattle.edit_run.specs.declared.types.EditPlan.{EditPlan}
use Rattle.edit_run.specs.declared.types.Site.{Site}
use Rattle.edit_run.specs.Faults.{IsFault}
use Rattle.edit_run.specs.Plan.{planned}
use Rattle.win_text.specs.Bodies.{IsInside, AreInRange}
use Rattle.core_windows.specs.Possible.{text_in}
use Rattle.core_windows.specs.Windows.{Window}
use Rattle.core_actions.specs.Seen.{name_of, dot_of, fits}
use Rattle.core_edit.specs.declared.fault.CommandFault.{CommandFault}
use Rattle.core_edit.specs.declared.fault.CommandFault.TheVariants as fault
use Rattle.core_edit.specs.Faults.{command_fault}

-- a plan, or the fault that is said; of want of memory nothing is said
abbrev pub Planned : Type 0
Planned = Result EditPlan (Option CommandFault)

-- one of these two, where there is memory
abbrev pub as_planned : Result EditPlan CommandFault → Planned
as_planned (Ok plan) = Ok plan
as_planned (Err f) = Err (Some f)

-- where the commands of a window are done
abbrev pub site_of : ℕ → Option Window → Site
site_of w window = record { window = w; name = name_of window; dot = dot_of window }

-- a plan, or why there is none
abbrev pub planned_of : Result EditPlan EditFault → Planned
planned_of (Ok plan) = Ok plan
planned_of (Err f) = Err (command_fault f)

-- Wherever a command has the one fault, the other one is said.
abbrev pub IsToldAs : EditFault → CommandFault → Type 0
IsToldAs f as_told = (outcome : Result EditPlan EditFault) → IsFault f outcome → planned_of outcome ≡ Err (Some as_told)

-- A plan is one only where the body has room for what it makes.
abbrev pub plan_if_fits : List ℕ → Planned → Planned
plan_if_fits t (Err f) = Err f
plan_if_fits t (Ok plan) = if fits 0 (length (text_after t plan.edits)) then Ok plan else Err (Some fault.TextTooLong)

-- what a command makes of a text
abbrev pub plan_of : Command → List ℕ → Site → Planned
plan_of c t site = plan_if_fits t (planned_of (planned c t site))

-- what a command makes of a window's body
abbrev pub window_plan : ℕ → Option Window → Command → Planned
window_plan w window c = plan_of c (text_in window) (site_of w window)

-- Each edit of the plan is one of the text as it is then, and dot lies in the text that they leave.
pub record IsPlanOf (t : List ℕ) (plan : EditPlan) : Type 0 where
  pub edits : AreInRange t plan.edits
  pub dot : IsInside (text_after t plan.edits) plan.dot

-- ---- how long a text gets

-- how many runes a text of n runes has after an edit, and after edits
abbrev pub length_with : ℕ → Edit → ℕ
length_with n e = n - (e.q1 - e.q0) + length e.text

-- how long a text is after edits
abbrev pub length_after : ℕ → List Edit → ℕ
length_after n [] = n
length_after n (e ∷ es) = length_after (length_with n e) es
