-- The entries at which groups of edits began, over journals.
use Rattle.std.specs.Prelude.{◌≡◌, ℕ, ◌+◌, List, [], ◌∷◌, ◌++◌, length, Option, Some, None}
use Rattle.std.specs.List.{AllByRecursion}
use Rattle.am_journal.specs.declared.event.Event.{Event}
use Rattle.edit_log.specs.Edited.{text_after}
use Rattle.edit_log.specs.Groups.{DoneGroup, first_of}
use Rattle.edit_log.specs.declared.types.Done.{Done}
use Rattle.edit_log.specs.declared.types.Edit.{Edit}
use Rattle.win_text.specs.Bodies.{done_edit}
use Rattle.core_windows.specs.Stories.{WindowStory, story_at}
use Rattle.acme_core.specs.Run.{run}
use Rattle.am_journal.specs.declared.event.Journal.{Journal}
use Rattle.am_journal.specs.Journal.{longer}
use Rattle.core_laws.specs.Fronts.{followed}

-- all edits that were ever made in a window; none where there is none
abbrev pub edits_if : Option WindowStory → List Edit
edits_if None = []
edits_if (Some s) = s.body.edits

-- all that were made in the window of this number, after these entries
abbrev pub edits_of : Journal → ℕ → List Edit
edits_of journal w = edits_if (story_at (run journal).windows w)

-- Behind the edits made before, one was made that cut and put this in the text that stood then.
pub record IsMade (old new : List Edit) (done : Done) : Type 0 where
  pub earlier : List Edit
  pub edit : Edit
  pub later : List Edit
  pub made : new ≡ old ++ (earlier ++ edit ∷ later)
  pub did : done ≡ done_edit (text_after [] (old ++ earlier)) edit

-- the entry of this number is there, and made in the window what cut and put this
pub record IsMadeAt (journal : Journal) (w number : ℕ) (done : Done) : Type 0 where
  pub before : Journal
  pub entry : Event
  pub behind : List Event
  pub is : followed before (entry ∷ behind) ≡ journal
  pub at : length before.events + 1 ≡ number
  pub makes : IsMade (edits_of before w) (edits_of (longer before entry) w) done

-- The group's first edit was made at the entry of the group's number.
pub record IsBegun (journal : Journal) (w : ℕ) (g : DoneGroup) : Type 0 where
  pub first : Done
  pub there : first_of g.edits ≡ Some first
  pub begun : IsMadeAt journal w g.number first

-- So it is with each group of each window that lives, those that are past and those undone.
abbrev pub GroupsAreBegun : Journal → Type 0
GroupsAreBegun journal =
    (w : ℕ) (s : WindowStory) → story_at (run journal).windows w ≡ Some s
    → AllByRecursion (IsBegun journal w) (s.body.history.past ++ s.body.history.future)
