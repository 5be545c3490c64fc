-- The reads that wait, in the order of asking.
use Rattle.std.specs.Prelude.{◌==◌, ◌&&◌, ◌||◌, ℕ, Bool, List, [], ◌∷◌, not, filter, nat_lt, length, if◌then◌else◌}
use Rattle.wait_queue.specs.Carry.{OpenCarry, carry_of}
use Rattle.wait_queue.specs.declared.types.Asker.{Asker}

-- whether this is the read with that tag on that connection
abbrev pub is_read : ℕ → ℕ → Asker → Bool
is_read conn tag r = (r.conn == conn) && (r.tag == tag)

-- whether the read is on that opening
abbrev pub is_on : ℕ → Asker → Bool
is_on opening r = r.opening == opening

-- whether the read can be answered: an item is there, or its opening has a carry
abbrev pub can_answer : Bool → List OpenCarry → Asker → Bool
can_answer any_item carries r = any_item || nat_lt 0 (length (carry_of carries r.opening))

-- all but the first that passes
abbrev pub without_first : (Asker → Bool) → List Asker → List Asker
without_first p [] = []
without_first p (r ∷ rs) = if p r then rs else r ∷ without_first p rs

-- all but the read with that tag on that connection
abbrev pub without_read : List Asker → ℕ → ℕ → List Asker
without_read rs conn tag = filter (λ r. not (is_read conn tag r)) rs

-- all but the reads on that opening
abbrev pub without_reads_on : List Asker → ℕ → List Asker
without_reads_on rs opening = filter (λ r. not (is_on opening r)) rs
