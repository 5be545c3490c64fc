-- What holds of the book between the steps: nothing was done later than the last entry, and the answer to each waiting
-- read will have a spelling.
use Rattle.std.specs.Prelude.{None, ℕ, ◌+◌, ◌≤◌, Bool, ◌≡◌, true, nat_lt, ◌^◌}
use Rattle.std.specs.List.{list_all}
use Rattle.wait_queue.specs.declared.types.Asker.{Asker}
use Rattle.event_book.specs.BookState.{BookState, next_of}
use Rattle.ninep_types.specs.Limits.{rread_head}

-- whether what a read asks for fits a message
abbrev pub is_small : Asker → Bool
is_small asker = nat_lt (asker.count + rread_head) (2 ^ 32)

-- event files as the steps up to this entry make them
pub record IsSound (at : ℕ) (book : BookState) : Type 0 where
  pub latest : book.latest ≤ at
  pub small : list_all is_small book.reads ≡ true

-- No waiting read can be answered.
abbrev pub IsIdle : BookState → Type 0
IsIdle book = next_of book ≡ None
