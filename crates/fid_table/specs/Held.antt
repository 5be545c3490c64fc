-- How far a text was read that isn't whole yet.
use Rattle.std.specs.Prelude.{ℕ, List}
use Rattle.plumb_msg.specs.Growing.{IsBegun}
use Rattle.rule_syntax.specs.Cutting.{IsScanOf}
use Rattle.fid_table.specs.declared.held.Reached.{Reached}
use Rattle.fid_table.specs.declared.held.Reached.TheVariants.{Nothing, Rules, Message}

-- the text was read so far
abbrev pub IsReached : Reached → List ℕ → Type 0
IsReached Nothing text = Unit {0}
IsReached (Rules scan) text = IsScanOf scan text
IsReached (Message begun) text = IsBegun begun text
