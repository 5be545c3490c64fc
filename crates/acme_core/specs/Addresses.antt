-- The address of a window after a journal: the range that the file `addr` holds.
use Rattle.std.specs.Prelude.{ℕ, List, [], Option, Some, None}
use Rattle.am_text.specs.declared.range.Range.{Range}
use Rattle.am_journal.specs.declared.event.Journal.{Journal}
use Rattle.win_text.specs.BodyStories.{story_text, range_now}
use Rattle.core_windows.specs.Stories.{WindowStory, story_at}
use Rattle.acme_core.specs.Run.{run}

-- as it was last set, moved by the edits that were made since
abbrev pub addr_of : Option WindowStory → Option Range
addr_of None = None
addr_of (Some s) = Some (range_now s.body.edits s.body.addr)

-- the address of a window after a journal
abbrev pub addr_at : Journal → ℕ → Option Range
addr_at journal w = addr_of (story_at (run journal).windows w)

-- the text of a window's body, which all edits that were ever made leave
abbrev pub body_of : Option WindowStory → List ℕ
body_of None = []
body_of (Some s) = story_text s.body

-- the text of a window after a journal
abbrev pub body_at : Journal → ℕ → List ℕ
body_at journal w = body_of (story_at (run journal).windows w)
