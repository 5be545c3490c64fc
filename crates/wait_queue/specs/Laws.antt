-- What holds of all that a queue gives.
use Rattle.std.specs.Prelude.{◌≡◌, ◌==◌, ◌≢◌, ◌⊎◌, ℕ, false, List, [], ◌∷◌, ◌++◌, Some, if◌then◌else◌}
use Rattle.std.specs.List.{Contains, list_any}
use Rattle.wait_queue.specs.Carry.{carry_of}
use Rattle.wait_queue.specs.WaitState.{WaitState, IsEnlisted, after_enlist, after_put, piece_of, after_piece, after_ask}
use Rattle.wait_queue.specs.WaitState.{next_of, served_of, after_serve, after_cancel, after_leave, after_close}
use Rattle.wait_queue.specs.Reads.{is_read}
use Rattle.wait_queue.specs.declared.pending.Pending.{Pending}
use Rattle.wait_queue.specs.declared.types.Asker.{Asker}
use Rattle.wait_queue.specs.declared.types.Piece.{Piece}

-- the bytes of the item that the read takes, where it takes one
abbrev pub taken_from : List ℕ → List Pending → List ℕ
taken_from (b ∷ bs) items = []
taken_from [] (item ∷ items) = item.bytes
taken_from [] [] = []

-- the bytes of the item that a read takes, where it takes one
abbrev pub taken_by : WaitState → Asker → List ℕ
taken_by w r = if r.count == 0 then [] else taken_from (carry_of w.openings r.opening) w.items

-- what an opening was given, with its carry, is its carry before with the item that it took
abbrev pub LosesNothing : Type 0
LosesNothing =
    (w : WaitState) (r : Asker) → IsEnlisted w r.opening →
    (piece_of w r).bytes ++ carry_of (after_piece w r).openings r.opening ≡ carry_of w.openings r.opening
    ++ taken_by w r

-- and the carries of the others stay
abbrev pub LeavesOthers : Type 0
LeavesOthers =
    (w : WaitState) (r : Asker) (other : ℕ) → other ≢ r.opening →
    carry_of (after_piece w r).openings other ≡ carry_of w.openings other

-- no read with that connection and tag waits after the cancel
abbrev pub CancelledIsGone : Type 0
CancelledIsGone =
    (w : WaitState) (conn tag : ℕ) → list_any (is_read conn tag) (after_cancel w conn tag).reads ≡ false

-- nor is one the next
abbrev pub CancelledIsNotNext : Type 0
CancelledIsNotNext =
    (w : WaitState) (conn tag : ℕ) (r : Asker) →
    next_of (after_cancel w conn tag) ≡ Some r → is_read conn tag r ≡ false

-- what waits after the call waited before
abbrev pub AddsNone : List Asker → List Asker → Type 0
AddsNone before after = (r : Asker) → Contains after r → Contains before r

-- what waits after the call waited before, or is this read
abbrev pub AddsOnly : Asker → List Asker → List Asker → Type 0
AddsOnly asked before after = (r : Asker) → Contains after r → Contains before r ⊎ (asked ≡ r)

-- no call but `ask` makes a read wait
pub record OnlyAskAdds (w : WaitState) : Type 0 where
  pub ask : (r : Asker) → AddsOnly r w.reads (after_ask w r).reads
  pub enlist : (opening : ℕ) → AddsNone w.reads (after_enlist w opening).reads
  pub put : (number : ℕ) (bytes : List ℕ) → AddsNone w.reads (after_put w number bytes).reads
  pub serve : AddsNone w.reads (after_serve w).reads
  pub cancel : (conn tag : ℕ) → AddsNone w.reads (after_cancel w conn tag).reads
  pub leave : (opening : ℕ) → AddsNone w.reads (after_leave w opening).reads
  pub close : AddsNone w.reads (after_close w).reads

-- only a read that asks begins to wait
abbrev pub OnlyAskWaits : Type 0
OnlyAskWaits = (w : WaitState) → OnlyAskAdds w

-- what `serve` answers waited
abbrev pub ServedWaited : Type 0
ServedWaited = (w : WaitState) (r : Asker) (piece : Piece) → served_of w ≡ Some (r, piece) → Contains w.reads r
