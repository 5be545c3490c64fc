use Rattle.std.proofs.Common.{◌≡◌, drop}
use Rattle.plumb_rules.specs.Attributes.{with_attrs}
use Rattle.plumb_rules.proofs.attributes.with_attrs.Given as goal

abbrev pub invariant-loop-attr : goal.invariant-loop-attr
invariant-loop-attr l = with_attrs l.all (drop l.attr-index l.more) ≡ with_attrs l.fn.attrs l.more
