use Rattle.std.proofs.Common.{◌≡◌, ◌++◌, take}
use Rattle.edit_run.proofs.telling.put_number.Given as goal

abbrev pub invariant-loop-digit : goal.invariant-loop-digit
invariant-loop-digit l = l.made ≡ l.fn.made ++ l.mark ++ take l.digit-index l.digit-items
