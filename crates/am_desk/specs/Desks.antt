-- What contracts see of a desk and its seats.
use Rattle.std.specs.Prelude.{ℕ}
use Rattle.am_journal.specs.declared.event.Event.{Event}
use Rattle.am_journal.specs.declared.event.Format.{Format}
use Rattle.am_counter.specs.Known.{Known}
use Rattle.turn_lock.specs.declared.view.View.{View}
use Rattle.turn_lock.specs.Words.{LockId, view_of, lock_of, id_of, parts_of}
use Rattle.am_desk.specs.declared.desk.Desk.{Desk}
use Rattle.am_desk.specs.declared.desk.DeskSeat.{DeskSeat}
use Rattle.am_desk.specs.Journals.{format_with}

abbrev pub desk_id : Desk → LockId
desk_id desk = id_of desk.turn

-- the parts that all seats have together
abbrev pub desk_parts : Desk → ℕ
desk_parts desk = parts_of desk.turn

-- the desk that the seat is of
abbrev pub seat_lock : DeskSeat → LockId
seat_lock seat = lock_of seat.seat

abbrev pub known_in : View Event → Known
known_in v = record { parts = v.parts; seen = v.seen; mine = v.mine; ended = v.ended }

-- the format that the seat's number tells, which is that of the desk's journal
abbrev pub seat_format : DeskSeat → Format
seat_format seat = format_with (view_of seat.seat).number

-- what the seat knows
abbrev pub known_of : DeskSeat → Known
known_of seat = known_in (view_of seat.seat)
