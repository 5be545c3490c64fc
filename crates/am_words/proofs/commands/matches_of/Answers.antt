use Rattle.clap.proofs.WalkLemmas.{both}
use Rattle.am_words.proofs.commands.matches_of.Goals as goal

pub returns-in-Ok : goal.returns-in-Ok
returns-in-Ok c = (c.in-Ok.ensures.matches (both _ _ c.requires).0).0
