use Rattle.std.specs.Prelude.{◌≡◌, ◌<◌, ℕ, false, slice_index}
use Rattle.re_sets.specs.Tables.{meet}
use Rattle.re_machine.specs.Threads.{sets_of}
use Rattle.re_machine.proofs.rows.ended.Given as goal

abbrev pub invariant-loop-n : goal.invariant-loop-n
invariant-loop-n g l = (m : ℕ) → m < l.n → meet g.S.LetterSet.SIZE (slice_index (sets_of g.S.LetterSet.bits l.rows) m)
    (g.S.LetterSet.bits l.last) ≡ false
