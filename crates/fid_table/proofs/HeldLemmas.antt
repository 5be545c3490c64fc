-- Texts that grow.
use Rattle.std.proofs.Common.{ℕ, List, ◌++◌}
use Rattle.plumb_msg.specs.Growing.{IsBegun}
use Rattle.plumb_msg.proofs.GrowLemmas.{begun_more}
use Rattle.rule_syntax.proofs.Scans.{scan_more}
use Rattle.fid_table.specs.Held.{IsReached}
use Rattle.fid_table.specs.declared.held.Reached.{Reached}
use Rattle.fid_table.specs.declared.held.Reached.TheVariants.{Nothing, Rules, Message}

-- a text that grows was read as far as before
pub reached_more : (r : Reached) (text more : List ℕ) → IsReached r text → IsReached r (text ++ more)
reached_more Nothing text more h = tt
reached_more (Rules scan) text more h = scan_more scan text more h
reached_more (Message begun) text more h = begun_more begun text more h

pub ruleset reached = (reached_more, begun_more)
