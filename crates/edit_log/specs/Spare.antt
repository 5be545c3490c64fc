-- Groups in vectors.
use Rattle.std.specs.Prelude.{ℕ, ◌+◌, ◌-◌, ◌≤◌, ◌==◌, Bool, not, List, take, drop, slice_index_or, Option, Some, None}
use Rattle.std.specs.Prelude.{vec_len, vec_capacity}
use Rattle.edit_log.specs.declared.types.Marking.{Marking}
use Rattle.edit_log.specs.declared.log.Group.{Group}
use Rattle.edit_log.specs.Groups.{DoneGroup, Log, goes_on}

-- the group of a value of the program
abbrev pub group_of : Group → DoneGroup
group_of g = record { number = g.number; edits = g.edits.items }

-- the group at this place has room for n more edits
abbrev pub SpareAt : ℕ → ℕ → List Group → Type 0
SpareAt k n gs = (d : Group) → (let v = (slice_index_or gs k d).edits in vec_len v + n ≤ vec_capacity v)

-- edits of the step that room is ready for, or where that is any, of some step, go to the last group, of so many
abbrev pub may_go_on : Marking → ℕ → Option ℕ → Bool
may_go_on m groups None = not (groups == 0)
may_go_on m groups (Some number) = goes_on m groups number

-- groups in a row, how many of them are past, and where those end that are undone
pub record Stored : Type 0 where
  pub groups : List DoneGroup
  pub done : ℕ
  pub end : ℕ

-- the first of these groups are past, those up to `end` are undone, and the others are forgotten
abbrev pub log_of : Stored → Marking → ℕ → Option ℕ → Log
log_of stored marking room ready = record {
  past = take stored.done stored.groups;
  future = take (stored.end - stored.done) (drop stored.done stored.groups);
  forgotten = drop stored.end stored.groups;
  marking = marking;
  room = room;
  ready = ready;
}
