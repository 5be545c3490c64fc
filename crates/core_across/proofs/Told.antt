-- What is done by what is read.
use Rattle.std.proofs.Common.{◌≡◌, ℕ, List, Option, Some, None, sym, ap, subst, ◌∙◌}
use Rattle.std.specs.Option.{option_map}
use Rattle.edit_files.specs.Command.{FilesCommand, files_command}
use Rattle.edit_files.specs.declared.command.FilesCmd.{FilesCmd}
use Rattle.core_windows.specs.Windows.{window_at}
use Rattle.core_scene.specs.declared.deed.Entry.{Entry}
use Rattle.core_scene.specs.Scenes.{SceneState, Did}
use Rattle.core_actions.specs.Seen.{dir_of}
use Rattle.core_edit.specs.declared.fault.CommandFault.TheVariants as fault
use Rattle.core_across.specs.Commands.{small_files}
use Rattle.core_across.specs.Editing.{command_outcome, outcome_of, edit_outcome, fault_deeds, told_deeds, edit_deeds}

told_by : (e : Entry) (a b : SceneState) (w : ℕ) (text : List ℕ) (o : Option FilesCommand) → o ≡ small_files text
    → Did e a b (told_deeds e (dir_of (window_at a.windows w)) (outcome_of e w o a) a) → Did e a b (edit_deeds e w text a)
unfolding edit_deeds edit_outcome
told_by e a b w text o read did =
    subst (λ (x : Option FilesCommand). Did e a b (told_deeds e (dir_of (window_at a.windows w)) (outcome_of e w x a) a))
    read did

pub told_some : (e : Entry) (a b : SceneState) (w : ℕ) (text : List ℕ) (found : Option FilesCmd) (c : FilesCmd)
    → found ≡ Some c → option_map files_command found ≡ small_files text
    → Did e a b (told_deeds e (dir_of (window_at a.windows w)) (command_outcome e w (files_command c) a) a)
    → Did e a b (edit_deeds e w text a)
told_some e a b w text found c is read did =
    told_by e a b w text (Some (files_command c)) (sym (ap (option_map files_command) is) ∙ read) did

pub told_none : (e : Entry) (a b : SceneState) (w : ℕ) (text : List ℕ) (found : Option FilesCmd)
    → found ≡ None → option_map files_command found ≡ small_files text
    → Did e a b (fault_deeds e (dir_of (window_at a.windows w)) (Some fault.BadCommand) a)
    → Did e a b (edit_deeds e w text a)
told_none e a b w text found is read did =
    told_by e a b w text None (sym (ap (option_map files_command) is) ∙ read) did
