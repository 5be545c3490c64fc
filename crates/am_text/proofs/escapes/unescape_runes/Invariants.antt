use Rattle.std.proofs.Common.{◌≡◌, false, [], length}
use Rattle.am_text.specs.Escapes.{unescaped_after}
use Rattle.am_text.proofs.escapes.unescape_runes.Given as goal

abbrev pub invariant-loop-rest : goal.invariant-loop-rest
invariant-loop-rest l = unescaped_after l.text false l.rest ≡ unescaped_after [] false l.runes

abbrev pub decreases-loop-rest : goal.decreases-loop-rest
decreases-loop-rest l = length l.rest
