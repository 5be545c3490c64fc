use Rattle.core_fids.proofs.Answers.{stat_done}
use Rattle.core_fids.proofs.listing.stat.Goals as goal

pub returns-clause-done : goal.returns-clause-done
returns-clause-done c =
    stat_done _ c.in_ok-stat.stat _ _ _ c.in_ok-stat_write.ensures.«record»
    (c.in_ok-stat.ensures.named c.port_names-ports.ensures.named) c.new.ensures c.plain.ensures
