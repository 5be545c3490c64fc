use Rattle.std.proofs.Common.{◌≡◌, ◌++◌, length}
use Rattle.am_text.proofs.front.put_words.Given as goal

abbrev pub invariant-loop-rest : goal.invariant-loop-rest
invariant-loop-rest l = l.text ++ l.rest ≡ l.fn.text ++ l.words

abbrev pub decreases-loop-rest : goal.decreases-loop-rest
decreases-loop-rest l = length l.rest
