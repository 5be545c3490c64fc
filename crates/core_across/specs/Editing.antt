-- Edit, as deeds: the language of sam(1) over the bodies of windows, and commands over windows and files.
use Rattle.std.specs.Prelude.{ℕ, List, [], ◌∷◌, ◌++◌, map, Option, Some, None, Result, Ok, Err, if◌then◌else◌}
use Rattle.am_text.specs.declared.job.Job.{Job}
use Rattle.edit_files.specs.Command.{FilesCommand}
use Rattle.core_windows.specs.Windows.{window_at}
use Rattle.core_windows.specs.declared.change.Change.TheVariants as change
use Rattle.core_windows.specs.declared.change.Setting.TheVariants as setting
use Rattle.core_scene.specs.declared.deed.Entry.{Entry}
use Rattle.core_scene.specs.declared.deed.Deed.{Deed}
use Rattle.core_scene.specs.declared.deed.Deed.TheVariants as deed
use Rattle.core_scene.specs.Scenes.{SceneState, then_}
use Rattle.core_actions.specs.Seen.{dir_of}
use Rattle.core_actions.specs.Errors.{errors_deeds}
use Rattle.core_edit.specs.declared.fault.CommandFault.{CommandFault}
use Rattle.core_edit.specs.declared.fault.CommandFault.TheVariants as fault
use Rattle.core_edit.specs.Faults.{fault_line}
use Rattle.core_across.specs.declared.planning.WindowPlan.{WindowPlan}
use Rattle.core_across.specs.Commands.{small_files, is_planned}
use Rattle.core_across.specs.Plans.{CommandPlans, command_plans}
use Rattle.core_across.specs.FileCommands.{file_deeds}

-- ---- the deeds of plans

-- a body is edited, and then its dot is set
abbrev pub body_deeds : WindowPlan → List Deed
body_deeds p =
    deed.Windows (change.Edits p.window p.plan.edits)
    ∷ deed.Windows (change.Sets p.window (setting.Dot p.plan.dot)) ∷ []

-- the bodies of all plans
abbrev pub all_bodies : List WindowPlan → List Deed
all_bodies [] = []
all_bodies (p ∷ ps) = body_deeds p ++ all_bodies ps

-- all that programs are asked for
abbrev pub all_jobs : List WindowPlan → List Job
all_jobs [] = []
all_jobs (p ∷ ps) = p.plan.jobs ++ all_jobs ps

-- all that is printed
abbrev pub all_prints : List WindowPlan → List ℕ
all_prints [] = []
all_prints (p ∷ ps) = p.plan.prints ++ all_prints ps

-- a program is requested for each of these
abbrev pub request_deeds : List Job → List Deed
request_deeds jobs = map deed.Requests jobs

-- all bodies are edited, and then programs are requested
abbrev pub change_deeds : List WindowPlan → SceneState → List Deed
change_deeds plans s = all_bodies plans ++ request_deeds (all_jobs plans)

-- and then all that was printed is put at the end of the directory's errors window, as one text
abbrev pub plan_deeds : Entry → List ℕ → List WindowPlan → SceneState → List Deed
plan_deeds e dir plans s = then_ e (change_deeds plans) (errors_deeds e dir (all_prints plans)) s

-- ---- a command, or its fault

-- what a command of Edit does, or why it isn't done; of want of memory nothing is said
abbrev pub Outcome : Type 0
Outcome = Result (List Deed) (Option CommandFault)

-- the deeds of plans
abbrev pub planned_outcome : Entry → List ℕ → CommandPlans → SceneState → Outcome
planned_outcome e dir (Ok plans) s = Ok (plan_deeds e dir plans s)
planned_outcome e dir (Err f) s = Err f

-- those of a command over windows and files
abbrev pub file_outcome : Result (List Deed) CommandFault → Outcome
file_outcome (Ok deeds) = Ok deeds
file_outcome (Err f) = Err (Some f)

-- what a command does in a window
abbrev pub command_outcome : Entry → ℕ → FilesCommand → SceneState → Outcome
command_outcome e w c s =
    if is_planned c then planned_outcome e (dir_of (window_at s.windows w)) (command_plans w c s.windows) s
    else file_outcome (file_deeds e w c s)

-- what a text does, if it is a command
abbrev pub outcome_of : Entry → ℕ → Option FilesCommand → SceneState → Outcome
outcome_of e w None s = Err (Some fault.BadCommand)
outcome_of e w (Some c) s = command_outcome e w c s

-- what a text of Edit does in a window
unfoldable pub edit_outcome : Entry → ℕ → List ℕ → SceneState → Outcome
edit_outcome e w text s = outcome_of e w (small_files text) s

-- ---- Edit

-- a fault is said in the directory's errors window
abbrev pub fault_deeds : Entry → List ℕ → Option CommandFault → SceneState → List Deed
fault_deeds e dir None s = []
fault_deeds e dir (Some f) s = errors_deeds e dir (fault_line f) s

-- what is done, or the fault is said and nothing else is done
abbrev pub told_deeds : Entry → List ℕ → Outcome → SceneState → List Deed
told_deeds e dir (Ok deeds) s = deeds
told_deeds e dir (Err f) s = fault_deeds e dir f s

-- Edit: what the text says is done, or its fault is said
unfoldable pub edit_deeds : Entry → ℕ → List ℕ → SceneState → List Deed
edit_deeds e w text s = told_deeds e (dir_of (window_at s.windows w)) (edit_outcome e w text s) s
