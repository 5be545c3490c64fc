-- What contracts see of a desk of format 2 and its seats.
use Rattle.std.specs.Prelude.{ℕ}
use Rattle.am_counter.specs.Known.{Known}
use Rattle.turn_lock.specs.Words.{LockId}
use Rattle.am_desk.specs.Desks.{desk_id, desk_parts, seat_lock, known_of}
use Rattle.am_desk.specs.declared.serving.ServingDesk.{ServingDesk}
use Rattle.am_desk.specs.declared.serving.ServingSeat.{ServingSeat}

abbrev pub serving_id : ServingDesk → LockId
serving_id desk = desk_id desk.desk

-- the parts that all seats have together
abbrev pub serving_parts : ServingDesk → ℕ
serving_parts desk = desk_parts desk.desk

-- the desk that the seat is of
abbrev pub serving_lock : ServingSeat → LockId
serving_lock seat = seat_lock seat.seat

-- what the seat knows
abbrev pub serving_known : ServingSeat → Known
serving_known seat = known_of seat.seat
