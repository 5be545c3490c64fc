use Rattle.std.specs.Prelude.{◌≤◌, ◌<◌, ℕ}
use Rattle.re_machine.specs.Ways.{reading}
use Rattle.re_machine.specs.Whole.{table_of}
use Rattle.re_machine.specs.Contexts.{NoneBegins}
use Rattle.re_machine.proofs.search.next_begin.Given as goal

abbrev pub invariant-loop-at : goal.invariant-loop-at
invariant-loop-at g l = (m : ℕ) → l.k ≤ m → m < l.at → NoneBegins (table_of g.S.LetterSet.bits g.S.LetterSet.SIZE
    l.tables) ((reading l.way (g.T.Letters.letters l.text)).rune m)
