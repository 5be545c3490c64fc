use Rattle.std.proofs.Common.{◌≡◌, ◌++◌, take}
use Rattle.std.specs.List.{flat_map}
use Rattle.plumb_msg.specs.Spelling.{after_blank}
use Rattle.plumb_msg.proofs.writing.put_attrs.Given as goal

abbrev pub invariant-loop-attr : goal.invariant-loop-attr
invariant-loop-attr l = l.out ≡ l.fn.out ++ flat_map after_blank (take l.attr-index l.attrs)
