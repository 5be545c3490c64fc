-- The lengths of tags, without their texts.
use Rattle.std.specs.Prelude.{ℕ, ◌+◌, ◌==◌, ◌&&◌, not, nat_eq, Bool, true, false, List, [], ◌∷◌, ◌++◌, length, codes}
use Rattle.std.specs.Prelude.{Option, Some, None, if◌then◌else◌}
use Rattle.std.specs.List.{ends_with}
use Rattle.win_events.specs.declared.item.Item.{Item}
use Rattle.win_events.specs.declared.item.Origin.{Origin}
use Rattle.win_events.specs.declared.item.Sort.TheVariants.{TagDel}
use Rattle.core_windows.specs.Windows.{Window}
use Rattle.core_scene.specs.NewItems.{plain_item, shown_of}
use Rattle.core_scene.specs.declared.size.TagSize.{TagSize}

-- the sizes of the parts of a window's tag
abbrev pub size_of : Window → TagSize
size_of window = record { name = length window.name; right = length window.right; shown = shown_of window }

-- the word where the test holds
abbrev pub word_size : Bool → ℕ → ℕ
word_size b n = if b then n else 0

-- whether the tag shows `Put`
abbrev pub shows_put : TagSize → Bool
shows_put s = not (s.name == 0) && s.shown.modified && not s.shown.dir

-- Del and Snarf, Undo, Redo, Put, Get, and the bar, each with the blank in front of it
abbrev pub words_size : TagSize → ℕ
words_size s =
    10 + word_size s.shown.undo 5 + word_size s.shown.redo 5 + word_size (shows_put s) 4 + word_size s.shown.dir 4 + 2

-- the part that the editor computes, and the whole tag
abbrev pub left_size : TagSize → ℕ
left_size s = s.name + words_size s

-- the runes of the tag
abbrev pub whole_size : TagSize → ℕ
whole_size s = left_size s + s.right

-- the removal of the right part
abbrev pub sized_clear : Origin → TagSize → Option Item
sized_clear origin s =
    if s.right == 0 then None else Some (plain_item origin TagDel (record { q0 = left_size s; q1 = whole_size s }) [])
