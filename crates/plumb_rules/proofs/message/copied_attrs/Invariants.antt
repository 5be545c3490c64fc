use Rattle.std.proofs.Common.{◌≡◌, take}
use Rattle.plumb_rules.proofs.message.copied_attrs.Given as goal

abbrev pub invariant-loop-attr : goal.invariant-loop-attr
invariant-loop-attr l = l.new ≡ take l.attr-index l.attrs
