use Rattle.am_serve.proofs.Streams.{had_ended_gains, had_ended_entries, had_ended_gives, hung_gains, hung_entries}
use Rattle.am_serve.proofs.Streams.{unhung_entries, hung_gives, unhung_gives}
use Rattle.am_serve.proofs.reading.read_side.Goals as goal

pub returns-then-hang_up-clause-gains : goal.returns-then-hang_up-clause-gains
returns-then-hang_up-clause-gains g c = hung_gains g.C.Counter.enabled g.C.Counter.answer c.args.at.now.conn _ _ _ _ _ _
    _ c.in-Ends.ensures.reads c.hang_up.ensures.hangs_up

pub returns-then-hang_up-clause-entries : goal.returns-then-hang_up-clause-entries
returns-then-hang_up-clause-entries g c = hung_entries g.C.Counter.enabled g.C.Counter.answer c.args.at.now.conn _ _ _ _
    _ _ _ c.in-Ends.ensures.reads c.hang_up.ensures.hangs_up c.if-hang_up.true

pub returns-then-hang_up-clause-gives : goal.returns-then-hang_up-clause-gives
returns-then-hang_up-clause-gives g c = rw c.end.ensures.ends.bytes
    (hung_gives g.C.Counter.enabled g.C.Counter.answer c.args.at.now.conn _ _ _ _ _ _ _ c.in-Ends.ensures.reads
    c.hang_up.ensures.hangs_up c.if-hang_up.true)

pub returns-else-hang_up-clause-gains : goal.returns-else-hang_up-clause-gains
returns-else-hang_up-clause-gains g c = hung_gains g.C.Counter.enabled g.C.Counter.answer c.args.at.now.conn _ _ _ _ _ _
    _ c.in-Ends.ensures.reads c.hang_up.ensures.hangs_up

pub returns-else-hang_up-clause-entries : goal.returns-else-hang_up-clause-entries
returns-else-hang_up-clause-entries g c = unhung_entries g.C.Counter.enabled g.C.Counter.answer c.args.at.now.conn _ _ _
    _ _ _ _ c.in-Ends.ensures.reads c.hang_up.ensures.hangs_up c.if-hang_up.false

pub returns-else-hang_up-clause-gives : goal.returns-else-hang_up-clause-gives
returns-else-hang_up-clause-gives g c = rw c.end.ensures.ends.bytes
    (unhung_gives g.C.Counter.enabled g.C.Counter.answer c.args.at.now.conn _ _ _ _ _ _ _ c.in-Ends.ensures.reads
    c.hang_up.ensures.hangs_up)

pub returns-in-Ended-clause-gains : goal.returns-in-Ended-clause-gains
returns-in-Ended-clause-gains g c = had_ended_gains g.C.Counter.enabled g.C.Counter.answer c.args.at.now.conn _ _ _ _
    c.in-Ended.ensures.reads

pub returns-in-Ended-clause-entries : goal.returns-in-Ended-clause-entries
returns-in-Ended-clause-entries g c = had_ended_entries g.C.Counter.enabled g.C.Counter.answer c.args.at.now.conn _ _ _
    _ c.in-Ended.ensures.reads

pub returns-in-Ended-clause-gives : goal.returns-in-Ended-clause-gives
returns-in-Ended-clause-gives g c = rw c.end.ensures.ends.bytes (had_ended_gives g.C.Counter.enabled g.C.Counter.answer
    c.args.at.now.conn _ _ _ _ c.in-Ended.ensures.reads)
