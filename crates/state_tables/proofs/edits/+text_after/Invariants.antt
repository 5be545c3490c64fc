use Rattle.std.proofs.Common.{length}
use Rattle.state_tables.proofs.edits.+text_after.Given as goal

-- the edits that are left
abbrev pub decreases-text_after : goal.decreases-text_after
decreases-text_after l = length l.edits.now
