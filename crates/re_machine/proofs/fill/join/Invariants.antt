use Rattle.std.specs.Prelude.{slice_index, map}
use Rattle.re_machine.proofs.Joining.{IsJoining}
use Rattle.re_machine.proofs.fill.join.Given as goal

abbrev pub invariant-letters : goal.invariant-letters
invariant-letters g l = IsJoining (slice_index (map g.S.LetterSet.bits l.rows)) g.S.LetterSet.SIZE
    (g.S.LetterSet.bits l.fn.set) (g.S.LetterSet.bits l.left) (g.S.LetterSet.bits l.all)

abbrev pub decreases-letters : goal.decreases-letters
decreases-letters g l = g.S.LetterSet.bits l.left
