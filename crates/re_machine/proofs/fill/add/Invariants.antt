use Rattle.std.specs.Prelude.{◌<◌, ℕ, IsTrue, length, map}
use Rattle.re_sets.specs.Words.{on}
use Rattle.re_machine.proofs.Adding.{IsAdding}
use Rattle.re_machine.proofs.fill.add.Given as goal

abbrev pub invariant-letters : goal.invariant-letters
invariant-letters g l = ((m : ℕ) → IsTrue (on (g.S.LetterSet.bits l.fn.from) m) → m < length l.fn.rows)
    → IsAdding (map g.S.LetterSet.bits l.fn.rows) (map g.S.LetterSet.bits l.rows) (g.S.LetterSet.bits l.fn.from)
    (g.S.LetterSet.bits l.to) (g.S.LetterSet.bits l.left)

abbrev pub decreases-letters : goal.decreases-letters
decreases-letters g l = g.S.LetterSet.bits l.left
