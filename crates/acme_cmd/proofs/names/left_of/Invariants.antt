use Rattle.std.proofs.Common.{◌≡◌, [], length}
use Rattle.std.specs.Prelude.{fold}
use Rattle.std.specs.List.{slice_split}
use Rattle.acme_cmd.specs.Names.{is_slash, after_part}
use Rattle.acme_cmd.proofs.names.left_of.Given as goal

abbrev pub invariant-loop-part : goal.invariant-loop-part
invariant-loop-part l = fold after_part l.left.items (slice_split is_slash l.rest) ≡ fold after_part []
    (slice_split is_slash l.text)

abbrev pub decreases-loop-part : goal.decreases-loop-part
decreases-loop-part l = length l.rest
