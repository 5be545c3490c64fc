-- The body of a window, as it is meant: all edits that were ever made, and each range as it was set.
use Rattle.std.specs.Prelude.{ℕ, Bool, List, [], ◌++◌, length, drop, Option, Some, None}
use Rattle.am_text.specs.declared.range.Range.{Range}
use Rattle.edit_log.specs.declared.types.Edit.{Edit}
use Rattle.edit_log.specs.Edited.{text_after}
use Rattle.win_text.specs.Bodies.{History, no_history, after_group, marked_history, undone_history, redone_history}
use Rattle.win_text.specs.Bodies.{edits_to_undo, edits_to_redo, put_range, IsLimitInside, moved, AreInRange, done_group}
use Rattle.win_text.specs.Bodies.{null_range, BodyState}
use Rattle.win_text.specs.declared.types.TextPlan.{TextPlan}
use Rattle.win_text.specs.declared.types.PlanKind.TheVariants.{Change}

-- a range, and how many edits had been made when it was set
pub record KeptRange : Type 0 where
  pub range : Range
  pub at : ℕ

-- all edits that were ever made, the ranges, and the groups that Undo takes back
pub record BodyStory : Type 0 where
  pub edits : List Edit
  pub dot : KeptRange
  pub addr : KeptRange
  pub limit : Option KeptRange
  pub history : History

-- a range that was set behind so many edits
abbrev pub set_at : ℕ → Range → KeptRange
set_at at r = record { range = r; at = at }

-- a limit that was set behind so many edits
abbrev pub limit_at : ℕ → Option Range → Option KeptRange
limit_at at None = None
limit_at at (Some r) = Some (set_at at r)

-- no edit was made, and each range is null at the front
abbrev pub new_story : BodyStory
new_story = record {
  edits = [];
  dot = set_at 0 null_range;
  addr = set_at 0 null_range;
  limit = None;
  history = no_history;
}

-- ---- what is seen now

-- the text after all edits
abbrev pub story_text : BodyStory → List ℕ
story_text s = text_after [] s.edits

-- where a range is now: its image through the edits that were made since it was set
abbrev pub range_now : List Edit → KeptRange → Range
range_now edits k = moved k.range (drop k.at edits)

-- a limit, moved by all edits since it was set
abbrev pub limit_now : List Edit → Option KeptRange → Option Range
limit_now edits None = None
limit_now edits (Some k) = Some (range_now edits k)

-- the body of a story
abbrev pub shown : BodyStory → BodyState
shown s = record {
  text = story_text s;
  dot = range_now s.edits s.dot;
  addr = range_now s.edits s.addr;
  limit = limit_now s.edits s.limit;
  history = s.history;
}

-- ---- what happens to it

-- the edits of one change, and what dot is set to after them; None: dot moves with them
pub record BodyChange : Type 0 where
  pub edits : List Edit
  pub dot : Option Range

-- the range that is set, or the one before
abbrev pub kept_or_set : KeptRange → ℕ → Option Range → KeptRange
kept_or_set k at None = k
kept_or_set k at (Some r) = set_at at r

-- after a change by the step of this number
abbrev pub story_changed : BodyStory → BodyChange → ℕ → BodyStory
story_changed s c number = record {
  edits = s.edits ++ c.edits;
  dot = kept_or_set s.dot (length (s.edits ++ c.edits)) c.dot;
  addr = s.addr;
  limit = s.limit;
  history = after_group s.history (done_group (story_text s) c.edits) number;
}

-- with this dot
abbrev pub story_with_dot : BodyStory → Range → BodyStory
story_with_dot s r = record s { dot = set_at (length s.edits) r }

-- with this address
abbrev pub story_with_addr : BodyStory → Range → BodyStory
story_with_addr s r = record s { addr = set_at (length s.edits) r }

-- with this limit
abbrev pub story_with_limit : BodyStory → Option Range → BodyStory
story_with_limit s r = record s { limit = limit_at (length s.edits) r }

-- with marks that come of themselves, or don't
abbrev pub story_marked : BodyStory → Bool → BodyStory
story_marked s automatic = record s { history = marked_history s.history automatic }

-- after these edits dot is what the last of them has put, and the groups are these; None: nothing is done
abbrev pub story_moved : BodyStory → Option (List Edit) → History → BodyStory
story_moved s None history = s
story_moved s (Some es) history = record {
  edits = s.edits ++ es;
  dot = set_at (length (s.edits ++ es)) (put_range es);
  addr = s.addr;
  limit = s.limit;
  history = history;
}

-- after Undo: the last group of past was taken back, if there is one
abbrev pub story_undone : BodyStory → BodyStory
story_undone s = story_moved s (edits_to_undo s.history) (undone_history s.history)

-- after Redo: the first group of future was made again, if there is one
abbrev pub story_redone : BodyStory → BodyStory
story_redone s = story_moved s (edits_to_redo s.history) (redone_history s.history)

-- ---- the same change, planned over the text and ranges as they are now

-- the range that is set, or the one before moved by the edits
abbrev pub moved_or_set : Range → List Edit → Option Range → Range
moved_or_set r es None = moved r es
moved_or_set r es (Some set) = set

-- the plan of a change
abbrev pub plan_of : BodyState → BodyChange → ℕ → TextPlan
plan_of s c number = record { edits = c.edits; dot = moved_or_set s.dot c.edits c.dot; kind = Change; number = number }

-- The edits are those of the text, and dot is set in the text that they leave.
pub record IsChangeOf (text : List ℕ) (c : BodyChange) : Type 0 where
  pub edits : AreInRange text c.edits
  pub dot : IsLimitInside (text_after text c.edits) c.dot
