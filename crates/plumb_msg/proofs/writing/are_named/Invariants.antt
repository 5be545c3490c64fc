use Rattle.std.proofs.Common.{◌≡◌, ℕ, List, [], take, drop}
use Rattle.plumb_msg.specs.Names.{is_known, is_among}
use Rattle.plumb_msg.specs.Spelling.{are_named}
use Rattle.plumb_msg.proofs.writing.are_named.Given as goal

abbrev pub invariant-loop-attr : goal.invariant-loop-attr
invariant-loop-attr l =
    ((name : List ℕ) → is_among name l.names ≡ is_known name (take l.attr-index l.attrs))
    × (are_named (take l.attr-index l.attrs) (drop l.attr-index l.attrs) ≡ are_named [] l.attrs)
