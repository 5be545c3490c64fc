use Rattle.std.proofs.Common.{◌≡◌, ◌++◌, length, take, drop}
use Rattle.am_text.specs.Utf8.{utf8}
use Rattle.am_text.proofs.utf8.utf8_slice.Given as goal

abbrev pub invariant-loop-rest : goal.invariant-loop-rest
invariant-loop-rest l = l.bytes ++ take l.left.1 (drop l.left.0 (utf8 l.rest)) ≡ take l.count
    (drop l.offset (utf8 l.text))

abbrev pub decreases-loop-rest : goal.decreases-loop-rest
decreases-loop-rest l = length l.rest
