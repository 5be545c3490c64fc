use Rattle.am_serve.proofs.Written.{ended_gains, ended_gets}
use Rattle.am_serve.proofs.writing.write_side.Goals as goal

pub returns-in-Gone-clause-gains : goal.returns-in-Gone-clause-gains
returns-in-Gone-clause-gains g c =
    ended_gains g.C.Counter.unsent c.args.at.now.conn _ _ _ _ _ _ _ _ c.write_replies-end.ensures.wrote
    c.hang_up.ensures.hangs_up

pub returns-in-Gone-clause-gets : goal.returns-in-Gone-clause-gets
returns-in-Gone-clause-gets g c =
    rw c.end-in-Gone.ensures.ends.bytes
    (ended_gets g.C.Counter.unsent c.args.at.now.conn _ _ _ _ _ _ _ _ c.write_replies-end.ensures.wrote
    c.hang_up.ensures.hangs_up)

pub returns-in-NoMemory-clause-gains : goal.returns-in-NoMemory-clause-gains
returns-in-NoMemory-clause-gains g c =
    ended_gains g.C.Counter.unsent c.args.at.now.conn _ _ _ _ _ _ _ _ c.write_replies-end.ensures.wrote
    c.hang_up-in-NoMemory.ensures.hangs_up

pub returns-in-NoMemory-clause-gets : goal.returns-in-NoMemory-clause-gets
returns-in-NoMemory-clause-gets g c =
    rw c.end-in-NoMemory.ensures.ends.bytes
    (ended_gets g.C.Counter.unsent c.args.at.now.conn _ _ _ _ _ _ _ _ c.write_replies-end.ensures.wrote
    c.hang_up-in-NoMemory.ensures.hangs_up)
