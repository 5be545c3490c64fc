-- Tags of windows.
use Rattle.std.specs.Prelude.{ℕ, Bool, not, ◌&&◌, ◌==◌, List, [], ◌++◌, length, codes, if◌then◌else◌}
use Rattle.win_ctl.specs.declared.tags.Tag.{Tag}
use Rattle.win_ctl.specs.declared.tags.Shown.{Shown}

-- the word where the test holds
abbrev pub word_if : Bool → List ℕ → List ℕ
word_if b word = if b then word else []

-- the window has a name, is modified and is no directory
abbrev pub shows_put : Tag → Shown → Bool
shows_put t s = not (length t.name == 0) && s.modified && not s.dir

-- the name, the commands that are offered, a bar, the right part
unfoldable pub tag_text : Tag → Shown → List ℕ
tag_text t s =
    t.name ++ codes " Del Snarf" ++ word_if s.undo (codes " Undo") ++ word_if s.redo (codes " Redo")
    ++ word_if (shows_put t s) (codes " Put") ++ word_if s.dir (codes " Get") ++ codes " |" ++ t.right
