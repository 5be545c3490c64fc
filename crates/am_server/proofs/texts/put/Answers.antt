use Rattle.std.proofs.Common.{refl}
use Rattle.am_server.proofs.texts.put.Goals as goal

pub returns-in-Err-clause-err : goal.returns-in-Err-clause-err
returns-in-Err-clause-err g c = record { front = c.in-Err.ensures.err; risen = c.in-Err.ensures.cause.risen refl }
