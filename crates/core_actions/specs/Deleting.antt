-- Del and Delete.
use Rattle.std.specs.Prelude.{ℕ, List, [], ◌∷◌, ◌++◌, codes, if◌then◌else◌}
use Rattle.core_windows.specs.Windows.{window_at}
use Rattle.core_windows.specs.declared.change.Change.TheVariants as change
use Rattle.core_windows.specs.declared.change.Setting.TheVariants as setting
use Rattle.core_scene.specs.declared.deed.Entry.{Entry}
use Rattle.core_scene.specs.declared.deed.Deed.{Deed}
use Rattle.core_scene.specs.declared.deed.Deed.TheVariants as deed
use Rattle.core_scene.specs.Scenes.{SceneState, then_}
use Rattle.core_actions.specs.Seen.{name_of, dir_of, asks}
use Rattle.core_actions.specs.Errors.{errors_deeds}

-- a window is deleted
abbrev pub delete_deeds : ℕ → SceneState → List Deed
delete_deeds w s = deed.Windows (change.Deletes w) ∷ []

-- what is said of a window that is modified
unfoldable pub warning : List ℕ → List ℕ
warning name = name ++ codes " modified\n"

-- a window counts as saved
abbrev pub clean_deeds : ℕ → SceneState → List Deed
clean_deeds w s = deed.Windows (change.Sets w setting.Clean) ∷ []

-- it counts as unmodified, and this is said in its directory's errors window
abbrev pub warn_deeds : Entry → ℕ → SceneState → List Deed
warn_deeds e w s =
    then_ e (clean_deeds w) (errors_deeds e (dir_of (window_at s.windows w))
    (warning (name_of (window_at s.windows w)))) s

-- Del: a window that is modified and guarded is warned of, any other is deleted
abbrev pub del_deeds : Entry → ℕ → SceneState → List Deed
del_deeds e w s = if asks (window_at s.windows w) then warn_deeds e w s else delete_deeds w s
