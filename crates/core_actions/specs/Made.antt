-- Windows that actions make.
use Rattle.std.specs.Prelude.{ℕ, List, [], ◌∷◌}
use Rattle.win_text.specs.Bodies.{null_range}
use Rattle.core_addresses.specs.Data.{replacement}
use Rattle.core_windows.specs.Windows.{world_of}
use Rattle.core_windows.specs.declared.change.Change.TheVariants as change
use Rattle.core_scene.specs.declared.deed.Deed.{Deed}
use Rattle.core_scene.specs.declared.deed.Deed.TheVariants as deed
use Rattle.core_scene.specs.Scenes.{SceneState}

-- the number that the next window gets
abbrev pub next_window : SceneState → ℕ
next_window s = (world_of s.windows).next

-- a window of this name is made, and the text is put into it
abbrev pub make_deeds : List ℕ → List ℕ → SceneState → List Deed
make_deeds name text s =
    deed.Windows (change.Makes name) ∷ deed.Windows (change.Edits (next_window s) (replacement null_range text)) ∷ []
