use Rattle.std.proofs.Common.{◌≡◌, length}
use Rattle.std.specs.List.{list_all, slice_split}
use Rattle.acme_cmd.specs.Names.{is_slash}
use Rattle.acme_cmd.specs.Paths.{is_part}
use Rattle.am_journal.proofs.paths.has_parts.Given as goal

abbrev pub invariant-loop-part : goal.invariant-loop-part
invariant-loop-part l = list_all is_part (slice_split is_slash l.rest) ≡ list_all is_part (slice_split is_slash l.bytes)

abbrev pub decreases-loop-part : goal.decreases-loop-part
decreases-loop-part l = length l.rest
