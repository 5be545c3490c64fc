-- Windows by all that was ever done to them.
use Rattle.std.specs.Prelude.{◌≤◌, ℕ, ◌-◌, ◌==◌, not, Bool, true, List, [], ◌∷◌, ◌++◌, length, map, codes, Option, Some}
use Rattle.std.specs.Prelude.{None}
use Rattle.std.specs.Option.{option_map}
use Rattle.edit_log.specs.declared.types.Edit.{Edit}
use Rattle.win_text.specs.BodyStories.{BodyStory, new_story, shown, story_changed, story_with_dot, story_with_addr}
use Rattle.win_text.specs.BodyStories.{story_with_limit, story_marked, story_undone, story_redone}
use Rattle.win_text.specs.Laws.{IsLawful}
use Rattle.core_windows.specs.Places.{at_place, at_number, gone}
use Rattle.core_windows.specs.declared.change.Change.{Change}
use Rattle.core_windows.specs.declared.change.Change.TheVariants as change
use Rattle.core_windows.specs.declared.change.Setting.{Setting}
use Rattle.core_windows.specs.declared.change.Setting.TheVariants as setting
use Rattle.core_windows.specs.Windows.{Window}

-- a window: its name, the right part of its tag, its body by all edits ever made, and the clean mark: how many edits
-- had been made when the window was last marked clean, or none
pub record WindowStory : Type 0 where
  pub name : List ℕ
  pub right : List ℕ
  pub body : BodyStory
  pub clean : Option ℕ

-- modified: the clean mark isn't the number of edits
abbrev pub is_modified : Option ℕ → ℕ → Bool
is_modified None edits = true
is_modified (Some mark) edits = not (mark == edits)

-- the window as it stands
abbrev pub shown_window : WindowStory → Window
shown_window s = record {
  name = s.name;
  right = s.right;
  body = shown s.body;
  modified = is_modified s.clean (length s.body.edits);
}

-- the window of a story, if it is there
abbrev pub shown_if_live : Option WindowStory → Option Window
shown_if_live o = option_map shown_window o

-- the windows of stories
abbrev pub shown_windows : List (Option WindowStory) → List (Option Window)
shown_windows stories = map shown_if_live stories

-- the window of that number, if it lives
abbrev pub story_at : List (Option WindowStory) → ℕ → Option WindowStory
story_at stories w = at_number stories w

-- ---- one window

-- the story of a new window with this name
abbrev pub named_story : List ℕ → WindowStory
named_story name = record { name = name; right = codes " Look "; body = new_story; clean = Some 0 }

-- the story after edits
abbrev pub edited_story : List Edit → ℕ → WindowStory → WindowStory
edited_story edits at s = record s { body = story_changed s.body (record { edits = edits; dot = None }) at }

-- the story after Undo
abbrev pub undone_window_story : WindowStory → WindowStory
undone_window_story s = record s { body = story_undone s.body }

-- the story after Redo
abbrev pub redone_window_story : WindowStory → WindowStory
redone_window_story s = record s { body = story_redone s.body }

-- the story after a text at the end of the tag
abbrev pub added_story : List ℕ → WindowStory → WindowStory
added_story text s = record s { right = s.right ++ text }

-- the story after a setting
abbrev pub set_story : Setting → WindowStory → WindowStory
set_story setting.AddrToDot s = record s { body = story_with_addr s.body (shown s.body).dot }
set_story setting.DotToAddr s = record s { body = story_with_dot s.body (shown s.body).addr }
set_story setting.LimitToAddr s = record s { body = story_with_limit s.body (Some (shown s.body).addr) }
set_story setting.NoLimit s = record s { body = story_with_limit s.body None }
set_story (setting.Dot range) s = record s { body = story_with_dot s.body range }
set_story (setting.Addr range) s = record s { body = story_with_addr s.body range }
set_story setting.Clean s = record s { clean = Some (length s.body.edits) }
set_story setting.Dirty s = record s { clean = None }
set_story setting.ClearTag s = record s { right = [] }
set_story (setting.Mark automatic) s = record s { body = story_marked s.body automatic }
set_story (setting.Name name) s = record s { name = name }

-- ---- all windows

-- after a change by the step of this number
abbrev pub changed_stories : ℕ → List (Option WindowStory) → Change → List (Option WindowStory)
changed_stories at ss (change.Makes name) = ss ++ Some (named_story name) ∷ []
changed_stories at ss (change.Deletes w) = at_place gone (w - 1) ss
changed_stories at ss (change.Edits w edits) = at_place (option_map (edited_story edits at)) (w - 1) ss
changed_stories at ss (change.Adds w text) = at_place (option_map (added_story text)) (w - 1) ss
changed_stories at ss (change.Sets w setting) = at_place (option_map (set_story setting)) (w - 1) ss
changed_stories at ss (change.Undoes w) = at_place (option_map undone_window_story) (w - 1) ss
changed_stories at ss (change.Redoes w) = at_place (option_map redone_window_story) (w - 1) ss

-- after these changes by the step of this number, from first to last
abbrev pub all_changed_stories : ℕ → List (Option WindowStory) → List Change → List (Option WindowStory)
all_changed_stories at ss [] = ss
all_changed_stories at ss (c ∷ cs) = all_changed_stories at (changed_stories at ss c) cs

-- ---- what holds of each

-- the clean mark doesn't pass the number of edits
abbrev pub IsMarked : Option ℕ → ℕ → Type 0
IsMarked None edits = Unit {0}
IsMarked (Some mark) edits = mark ≤ edits

-- a story as changes can make it
pub record IsLawfulWindow (s : WindowStory) : Type 0 where
  pub body : IsLawful s.body
  pub mark : IsMarked s.clean (length s.body.edits)

-- so it is with one that is there
abbrev pub IsLawfulIfLive : Option WindowStory → Type 0
IsLawfulIfLive None = Unit {0}
IsLawfulIfLive (Some s) = IsLawfulWindow s

-- each live window is lawful
abbrev pub AreLawful : List (Option WindowStory) → Type 0
AreLawful [] = Unit {0}
AreLawful (s ∷ ss) = IsLawfulIfLive s × AreLawful ss
