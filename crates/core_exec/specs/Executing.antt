-- What a text does that is executed (acme(1)).
use Rattle.std.specs.Prelude.{ℕ, List, [], ◌∷◌, ◌++◌, slice_range, codes, Option, Some, None}
use Rattle.acme_cmd.specs.Commands.{classified}
use Rattle.acme_cmd.specs.declared.command.Builtin.{Builtin}
use Rattle.acme_cmd.specs.declared.command.Builtin.TheVariants as builtin
use Rattle.acme_cmd.specs.declared.command.Command.{Command}
use Rattle.acme_cmd.specs.declared.command.Command.TheVariants as command
use Rattle.am_text.specs.declared.job.Job.{Job}
use Rattle.am_text.specs.declared.job.JobKind.{JobKind}
use Rattle.am_text.specs.declared.job.JobKind.TheVariants as kind
use Rattle.core_windows.specs.Windows.{Window, window_at}
use Rattle.core_scene.specs.declared.deed.Entry.{Entry}
use Rattle.core_scene.specs.declared.deed.Deed.{Deed}
use Rattle.core_scene.specs.declared.deed.Deed.TheVariants as deed
use Rattle.core_scene.specs.Scenes.{SceneState, done_all}
use Rattle.core_actions.specs.Seen.{dir_of, dot_text}
use Rattle.core_actions.specs.Outcomes.{Outcome}
use Rattle.core_actions.specs.Errors.{errors_deeds}
use Rattle.core_actions.specs.Files.{get_outcome, put_outcome}
use Rattle.core_actions.specs.Opening.{new_deeds}
use Rattle.core_actions.specs.Looking.{find_deeds}
use Rattle.core_actions.specs.Editing.{cut_deeds, snarf_deeds, paste_outcome}
use Rattle.core_actions.specs.Deleting.{del_deeds, delete_deeds}
use Rattle.core_actions.specs.Undoing.{move_deeds}
use Rattle.core_actions.specs.declared.fault.ActionFault.{ActionFault}
use Rattle.core_actions.specs.declared.fault.ActionFault.TheVariants as fault
use Rattle.core_actions.specs.declared.undoing.Move.TheVariants as move
use Rattle.core_across.specs.Editing.{edit_deeds}

-- ---- faults are said in the errors window

-- the text of a fault
abbrev pub fault_text : ActionFault → List ℕ
fault_text fault.NoFileName = codes "no file name"
fault_text fault.FileNotFound = codes "file not found"
fault_text fault.TextTooLong = codes "text too long"

-- the word of the command, and what is wrong
unfoldable pub fault_line : List ℕ → ActionFault → List ℕ
fault_line word f = word ++ codes ": " ++ fault_text f ++ codes "\n"

-- a fault is told, if there is one
abbrev pub said_if_any : Entry → List ℕ → List ℕ → Option ActionFault → SceneState → List Deed
said_if_any e dir word None s = []
said_if_any e dir word (Some f) s = errors_deeds e dir (fault_line word f) s

-- the deeds of an outcome, and a line where it has a fault
abbrev pub or_said : Entry → Option Window → List ℕ → Outcome → SceneState → List Deed
or_said e window word o s = o.deeds ++ said_if_any e (dir_of window) word o.fault (done_all e s o.deeds)

-- ---- built-in commands

-- what a built-in command does
unfoldable pub builtin_deeds : Entry → ℕ → Builtin → List ℕ → SceneState → List Deed
builtin_deeds e w builtin.Cut a s = cut_deeds w s
builtin_deeds e w builtin.Del a s = del_deeds e w s
builtin_deeds e w builtin.Delete a s = delete_deeds w s
builtin_deeds e w builtin.Edit a s = edit_deeds e w a s
builtin_deeds e w builtin.Get a s = or_said e (window_at s.windows w) (codes "Get") (get_outcome w a s) s
builtin_deeds e w builtin.Look a s = find_deeds w a s
builtin_deeds e w builtin.New a s = new_deeds e w a s
builtin_deeds e w builtin.Paste a s = or_said e (window_at s.windows w) (codes "Paste") (paste_outcome w s) s
builtin_deeds e w builtin.Put a s = or_said e (window_at s.windows w) (codes "Put") (put_outcome w a s) s
builtin_deeds e w builtin.Redo a s = move_deeds move.Redo w s
builtin_deeds e w builtin.Snarf a s = snarf_deeds w s
builtin_deeds e w builtin.Undo a s = move_deeds move.Undo w s
builtin_deeds e w builtin.Idle a s = []

-- the chord's text where there is one, or else what follows the word
abbrev pub argument_or : Option (List ℕ) → List ℕ → List ℕ
argument_or None text = text
argument_or (Some chord) text = chord

-- ---- requests

-- `<` is given nothing, `|` and `>` the text that is selected
abbrev pub input_of : JobKind → List ℕ → List ℕ
input_of kind.Run selected = selected
input_of kind.Pipe selected = selected
input_of kind.From selected = []
input_of kind.To selected = selected
input_of kind.Save selected = selected
input_of kind.Start selected = selected

-- the request of a program
abbrev pub job_of : JobKind → ℕ → Option Window → List ℕ → List ℕ → Job
job_of k w window text input = record { kind = k; window = w; dir = dir_of window; command = text; input = input }

-- a program is requested
abbrev pub request : JobKind → ℕ → Option Window → List ℕ → List ℕ → List Deed
request k w window text input = deed.Requests (job_of k w window text input) ∷ []

-- ---- a text is executed

-- a text that is executed, and its chord's, if there is one
pub record Executed : Type 0 where
  pub text : List ℕ
  pub chord : Option (List ℕ)

-- what a command does
unfoldable pub command_deeds : Entry → ℕ → Executed → Command → SceneState → List Deed
command_deeds e w x (command.Builtin b r) s = builtin_deeds e w b (argument_or x.chord (slice_range x.text r.q0 r.q1)) s
command_deeds e w x (command.Pipe k r) s =
    request k w (window_at s.windows w) (slice_range x.text r.q0 r.q1) (input_of k (dot_text (window_at s.windows w)))
command_deeds e w x command.External s = request kind.Run w (window_at s.windows w) x.text (argument_or x.chord [])

-- a built-in command is done; any other text makes a request, over what is selected behind `|` or `>`, or else over the
-- chord's text
unfoldable pub exec_deeds : Entry → ℕ → Executed → SceneState → List Deed
exec_deeds e w x s = command_deeds e w x (classified x.text) s
