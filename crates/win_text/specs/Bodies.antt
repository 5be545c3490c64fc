-- The body of a window, as it is kept: its text and ranges as they are now.
use Rattle.std.specs.Prelude.{◌≡◌, ℕ, ◌+◌, ◌<◌, ◌≤◌, ◌^◌, Bool, List, [], ◌∷◌, ◌++◌, length, drop, slice_range, Option}
use Rattle.std.specs.Prelude.{Some, None}
use Rattle.std.specs.Option.{option_map}
use Rattle.am_text.specs.declared.range.Range.{Range}
use Rattle.edit_log.specs.declared.types.Edit.{Edit}
use Rattle.edit_log.specs.declared.types.Done.{Done}
use Rattle.edit_log.specs.Edited.{after, text_after, images}
use Rattle.edit_log.specs.declared.types.Marking.{Marking}
use Rattle.edit_log.specs.Groups.{DoneGroup, Log, IsReadyFor, no_marking, goes_on, grown, marking_after, marked_marking}
use Rattle.edit_log.specs.Groups.{ended, redoing, undoing_group, redoing_group, last_of, first_of, before_last}
use Rattle.edit_log.specs.Groups.{with_last_of, with_first_of}
use Rattle.win_text.specs.declared.types.TextPlan.{TextPlan}
use Rattle.win_text.specs.declared.types.PlanKind.{PlanKind}
use Rattle.win_text.specs.declared.types.PlanKind.TheVariants.{Change, Undo, Redo}

-- ---- the groups that Undo takes back

-- an undo log without its room, and without what is forgotten
pub record History : Type 0 where
  pub past : List DoneGroup
  pub future : List DoneGroup
  -- what the next change does with the groups
  pub marking : Marking

-- the history of a log
abbrev pub history_of : Log → History
history_of l = record { past = l.past; future = l.future; marking = l.marking }

-- nothing was done
abbrev pub no_history : History
no_history = record { past = []; future = []; marking = no_marking }

-- whether edits of the step of this number go to the last group of past
abbrev pub goes_to_last : History → ℕ → Bool
goes_to_last h number = goes_on h.marking (length h.past) number

-- after edits of the step of this number were done: where there are none, nothing changed
abbrev pub after_group : History → List Done → ℕ → History
after_group h [] number = h
after_group h (d ∷ ds) number = record {
  past = grown (goes_to_last h number) h.past (d ∷ ds) number;
  future = [];
  marking = marking_after (goes_to_last h number) h.marking number;
}

-- after `mark` (automatic) or `nomark`: the next change begins a group
abbrev pub marked_history : History → Bool → History
marked_history h automatic = record h { marking = marked_marking h.marking automatic }

-- after Undo: the last group of past is the first of future, and the next change begins a group
abbrev pub undone_history : History → History
undone_history h = record {
  past = before_last h.past;
  future = with_last_of h.past h.future;
  marking = ended h.marking;
}

-- after Redo: the first group of future is the last of past, and the next change begins a group
abbrev pub redone_history : History → History
redone_history h = record { past = with_first_of h.future h.past; future = drop 1 h.future; marking = ended h.marking }

-- after a plan of this kind of the step of this number, whose edits cut and put this
abbrev pub history_after : PlanKind → History → List Done → ℕ → History
history_after Change h group number = after_group h group number
history_after Undo h group number = undone_history h
history_after Redo h group number = redone_history h

-- the edits that Undo makes: those that take back the last group of past
abbrev pub edits_to_undo : History → Option (List Edit)
edits_to_undo h = option_map undoing_group (last_of h.past)

-- the edits that Redo makes: those of the first group of future
abbrev pub edits_to_redo : History → Option (List Edit)
edits_to_redo h = option_map redoing_group (first_of h.future)

-- ---- ranges

-- both ends are in the text, in order
pub record IsInside (text : List ℕ) (r : Range) : Type 0 where
  pub order : r.q0 ≤ r.q1
  pub bounds : r.q1 ≤ length text

-- where a range is after these edits, done from first to last
abbrev pub moved : Range → List Edit → Range
moved r es = record { q0 = images r.q0 es; q1 = images r.q1 es }

-- a limit moved by edits
abbrev pub moved_limit : Option Range → List Edit → Option Range
moved_limit None es = None
moved_limit (Some r) es = Some (moved r es)

-- a limit lies in a text
abbrev pub IsLimitInside : List ℕ → Option Range → Type 0
IsLimitInside text None = Unit {0}
IsLimitInside text (Some r) = IsInside text r

-- ---- edits

-- the edit is one of this text, and not both null and empty
pub record IsEditOf (text : List ℕ) (e : Edit) : Type 0 where
  pub order : e.q0 ≤ e.q1
  pub bounds : e.q1 ≤ length text
  pub some : e.q0 < e.q1 + length e.text

-- each edit is one of the text as it is when the edit is done
abbrev pub AreInRange : List ℕ → List Edit → Type 0
AreInRange text [] = Unit {0}
AreInRange text (e ∷ es) = IsEditOf text e × AreInRange (after text e) es

-- what an edit of this text cuts and puts
abbrev pub done_edit : List ℕ → Edit → Done
done_edit text e = record { q0 = e.q0; cut = slice_range text e.q0 e.q1; put = e.text }

-- what the edits cut and put, each in the text as it is then
abbrev pub done_group : List ℕ → List Edit → List Done
done_group text [] = []
done_group text (e ∷ es) = done_edit text e ∷ done_group (after text e) es

-- how many runes they put
abbrev pub put_length : List Edit → ℕ
put_length [] = 0
put_length (e ∷ es) = length e.text + put_length es

-- what is ready to be noted when a plan of this kind is done, whose edits cut and put this: Undo and Redo move a group
abbrev pub noted : PlanKind → List Done → List Done
noted Change group = group
noted Undo group = []
noted Redo group = []

-- ---- what the groups were done to

-- The group is at least one edit, and what its edits cut and put in this text.
pub record IsDoneTo (text : List ℕ) (group : List Done) : Type 0 where
  pub some : 0 < length group
  pub edits : AreInRange text (redoing group)
  pub same : done_group text (redoing group) ≡ group

-- Each group is what was done to the text that those before it leave of this text.
abbrev pub AreDoneTo : List ℕ → List DoneGroup → Type 0
AreDoneTo text [] = Unit {0}
AreDoneTo text (g ∷ gs) = IsDoneTo text g.edits × AreDoneTo (text_after text (redoing g.edits)) gs

-- the text after these groups of edits, done from the first group to the last
abbrev pub text_of_groups : List ℕ → List DoneGroup → List ℕ
text_of_groups text [] = text
text_of_groups text (g ∷ gs) = text_of_groups (text_after text (redoing g.edits)) gs

-- The groups that are past lead from the empty text to this text, and those that were undone go on from it.
pub record IsHistoryOf (text : List ℕ) (past future : List DoneGroup) : Type 0 where
  pub groups : AreDoneTo [] (past ++ future)
  pub leads : text_of_groups [] past ≡ text

-- ---- the body

-- the text, the ranges dot and addr, the range that bounds searches, and the groups that Undo takes back
pub record BodyState : Type 0 where
  pub text : List ℕ
  pub dot : Range
  pub addr : Range
  pub limit : Option Range
  pub history : History

-- the null range at the front
abbrev pub null_range : Range
null_range = record { q0 = 0; q1 = 0 }

-- the body of a new window
abbrev pub empty_body : BodyState
empty_body = record { text = []; dot = null_range; addr = null_range; limit = None; history = no_history }

-- the ranges are in the text, and the groups lead to it
pub record IsSound (s : BodyState) : Type 0 where
  pub dot : IsInside s.text s.dot
  pub addr : IsInside s.text s.addr
  pub limit : IsLimitInside s.text s.limit
  pub history : IsHistoryOf s.text s.history.past s.history.future

-- with this dot
abbrev pub with_dot : BodyState → Range → BodyState
with_dot s r = record s { dot = r }

-- with this address
abbrev pub with_addr : BodyState → Range → BodyState
with_addr s r = record s { addr = r }

-- with this limit
abbrev pub with_limit : BodyState → Option Range → BodyState
with_limit s r = record s { limit = r }

-- with marks that come of themselves, or don't
abbrev pub marked_body : BodyState → Bool → BodyState
marked_body s automatic = record s { history = marked_history s.history automatic }

-- ---- plans

-- the range that the edit has put, if there is one
abbrev pub put_by : Option Edit → Range
put_by None = null_range
put_by (Some e) = record { q0 = e.q0; q1 = e.q0 + length e.text }

-- the range that the last of these edits has put
abbrev pub put_range : List Edit → Range
put_range es = put_by (last_of es)

-- these edits, after which dot is the range that the last of them has put
abbrev pub plan_with : PlanKind → List Edit → TextPlan
plan_with kind es = record { edits = es; dot = put_range es; kind = kind; number = 0 }

-- the plan of Undo, if there is a group to take back
abbrev pub undo_plan_of : BodyState → Option TextPlan
undo_plan_of s = option_map (plan_with Undo) (edits_to_undo s.history)

-- the plan of Redo, if there is a group to make again
abbrev pub redo_plan_of : BodyState → Option TextPlan
redo_plan_of s = option_map (plan_with Redo) (edits_to_redo s.history)

-- A plan of Undo or Redo is the one that there is now.
abbrev pub IsOfKind : PlanKind → BodyState → TextPlan → Type 0
IsOfKind Change s plan = Unit {0}
IsOfKind Undo s plan = undo_plan_of s ≡ Some plan
IsOfKind Redo s plan = redo_plan_of s ≡ Some plan

-- The plan's edits are those of the text, and its dot is in the text that they leave.
pub record IsPlanFor (s : BodyState) (plan : TextPlan) : Type 0 where
  pub edits : AreInRange s.text plan.edits
  pub dot : IsInside (text_after s.text plan.edits) plan.dot
  pub kind : IsOfKind plan.kind s plan

-- after a plan: its edits are done, as one change or as those of a group, addr and limit move with them, and dot is set
abbrev pub applied : BodyState → TextPlan → BodyState
applied s plan = record {
  text = text_after s.text plan.edits;
  dot = plan.dot;
  addr = moved s.addr plan.edits;
  limit = moved_limit s.limit plan.edits;
  history = history_after plan.kind s.history (done_group s.text plan.edits) plan.number;
}

-- after this plan, if there is one
abbrev pub applied_if_any : BodyState → Option TextPlan → BodyState
applied_if_any s None = s
applied_if_any s (Some plan) = applied s plan

-- what a plan has ready to be noted
abbrev pub group_for : BodyState → TextPlan → List Done
group_for s plan = noted plan.kind (done_group s.text plan.edits)

-- ---- room

-- a body, and how many runes and edits can be put in without taking memory
pub record BodyRoom : Type 0 where
  pub state : BodyState
  -- the undone groups that changes have forgotten since the last `settle`
  pub forgotten : List DoneGroup
  pub runes : ℕ
  -- there is room for so many edits of a change of the step of the number `ready`, or of any step
  pub edits : ℕ
  pub ready : Option ℕ

-- There is room for so many edits of a change of the step of this number.
abbrev pub IsLogReady : PlanKind → ℕ → Option ℕ → ℕ → ℕ → Type 0
IsLogReady Change room ready edits number = (edits ≤ room) × IsReadyFor ready number
IsLogReady Undo room ready edits number = Unit {0}
IsLogReady Redo room ready edits number = Unit {0}

-- there is room for the plan
pub record IsReady (b : BodyRoom) (plan : TextPlan) : Type 0 where
  pub runes : put_length plan.edits ≤ b.runes
  pub edits : IsLogReady plan.kind b.edits b.ready (length plan.edits) plan.number
  pub fits : length b.state.text + put_length plan.edits < 2 ^ 64

-- It stays so while the text is the same and the room doesn't fall.
abbrev pub StaysReady : Type 0
StaysReady =
    (b c : BodyRoom) (plan : TextPlan) → IsReady b plan → c.state.text ≡ b.state.text → b.runes ≤ c.runes → b.edits
    ≤ c.edits → c.ready ≡ b.ready → IsReady c plan
