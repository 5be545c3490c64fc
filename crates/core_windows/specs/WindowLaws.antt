-- Laws of windows.
use Rattle.std.specs.Prelude.{◌≡◌, ◌≤◌, ℕ, List, [], ◌∷◌, Option, Some, None}
use Rattle.win_text.specs.Numbers.{IsNumbered}
use Rattle.core_windows.specs.declared.change.Change.{Change}
use Rattle.core_windows.specs.Windows.{all_changed}
use Rattle.core_windows.specs.Possible.{CanChangeAll}
use Rattle.core_windows.specs.Stories.{WindowStory, shown_windows, all_changed_stories, AreLawful}

-- What the changes of a step make of the windows as they stand is what they make of them by all edits.
abbrev pub ChangesShow : Type 0
ChangesShow =
    (at : ℕ) (stories : List (Option WindowStory)) (changes : List Change) → AreLawful stories
    → CanChangeAll at (shown_windows stories) changes
    → shown_windows (all_changed_stories at stories changes) ≡ all_changed at (shown_windows stories) changes

-- Windows are lawful at the start and after the changes of each step.
pub record ChangesAreLawful : Type 0 where
  pub begins : AreLawful []
  pub stays : (at : ℕ) (stories : List (Option WindowStory)) (changes : List Change) → AreLawful stories
      → CanChangeAll at (shown_windows stories) changes
      → AreLawful (all_changed_stories at stories changes)

-- ---- the numbers of groups

-- along the groups of a window's body the numbers never fall, and none is above this one
abbrev pub IsNumberedIfLive : ℕ → Option WindowStory → Type 0
IsNumberedIfLive last None = Unit {0}
IsNumberedIfLive last (Some s) = IsNumbered last s.body.history

-- so it is with each
abbrev pub AreNumbered : ℕ → List (Option WindowStory) → Type 0
AreNumbered last [] = Unit {0}
AreNumbered last (s ∷ ss) = IsNumberedIfLive last s × AreNumbered last ss

-- So it is at the start, and after the changes of this step or a later one.
pub record NumbersStay : Type 0 where
  pub begins : AreNumbered 0 []
  pub stays : (last at : ℕ) (stories : List (Option WindowStory)) (changes : List Change) → last ≤ at
      → AreNumbered last stories
      → AreNumbered at (all_changed_stories at stories changes)
