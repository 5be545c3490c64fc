-- What the openings of the code show.
use Rattle.std.specs.Prelude.{◌==◌, ℕ, Bool, []}
use Rattle.wait_queue.specs.Carry.{OpenCarry}
use Rattle.am_text.specs.Twice.{both}
use Rattle.wait_queue.specs.declared.carries.Opening.{Opening}

-- what an opening has left now
abbrev pub present_of : Opening → OpenCarry
present_of o = record { opening = o.id; carry = o.carry.present }

-- what it had left at the last keep
abbrev pub kept_of : Opening → OpenCarry
kept_of o = record { opening = o.id; carry = o.carry.kept }

-- whether it is the opening of this number
abbrev pub has_id : ℕ → Opening → Bool
has_id id o = o.id == id

-- with its present carry as the kept one, and the other way round
abbrev pub with_present : Opening → Opening
with_present o = record { id = o.id; carry = both o.carry.present }

-- with its kept carry as the present one
abbrev pub with_kept : Opening → Opening
with_kept o = record { id = o.id; carry = both o.carry.kept }

-- with nothing left, in both states
abbrev pub with_none : Opening → Opening
with_none o = record { id = o.id; carry = both [] }
