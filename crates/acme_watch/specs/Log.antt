-- The openings of `log`: each has a queue of its own of the lines that it wasn't given yet.
use Rattle.std.specs.Prelude.{ℕ, Bool, List, [], ◌∷◌, not, filter, if◌then◌else◌}
use Rattle.std.specs.List.{list_any}
use Rattle.am_text.specs.Twice.{Twice, both}
use Rattle.wait_queue.specs.Carry.{is_of}
use Rattle.wait_queue.specs.WaitState.{WaitState, nothing, after_enlist, after_put, after_piece}
use Rattle.wait_queue.specs.declared.types.Asker.{Asker}

-- whether it is the queue of this opening
abbrev pub is_reader : ℕ → WaitState → Bool
is_reader opening w = list_any (is_of opening) w.openings

-- the queue of an opening, with nothing in it
abbrev pub new_reader : ℕ → WaitState
new_reader opening = after_enlist nothing opening

-- the queue of this opening, and nothing where it isn't there
abbrev pub reader_of : List WaitState → ℕ → WaitState
reader_of [] opening = nothing
reader_of (w ∷ ws) opening = if is_reader opening w then w else reader_of ws opening

-- with a line more; lines have no numbers
abbrev pub noted : List ℕ → WaitState → WaitState
noted line w = after_put w 0 line

-- with what the piece of a read leaves to its opening
abbrev pub after_log_read : List WaitState → Asker → List WaitState
after_log_read [] r = []
after_log_read (w ∷ ws) r = if is_reader r.opening w then after_piece w r ∷ ws else w ∷ after_log_read ws r

-- without this opening
abbrev pub without_reader : List WaitState → ℕ → List WaitState
without_reader ws opening = filter (λ w. not (is_reader opening w)) ws

-- ---- what the code shows

-- a queue as it is
abbrev pub present_of : Twice WaitState → WaitState
present_of t = t.present

-- a queue at the last keep
abbrev pub kept_of : Twice WaitState → WaitState
kept_of t = t.kept

-- with its present state as the kept one
abbrev pub with_present : Twice WaitState → Twice WaitState
with_present t = both t.present

-- with what was kept as what is present
abbrev pub with_kept : Twice WaitState → Twice WaitState
with_kept t = both t.kept

-- the line was noted for the opening
abbrev pub with_noted : List ℕ → Twice WaitState → Twice WaitState
with_noted line t = record t { present = noted line t.present }
