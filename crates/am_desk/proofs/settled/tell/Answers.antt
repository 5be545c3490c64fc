use Rattle.std.proofs.Common.{◌+◌, refl}
use Rattle.acme_core.specs.Run.{run}
use Rattle.am_desk.proofs.Telling.{told_more, told_all}
use Rattle.am_desk.proofs.settled.tell.Goals as goal

pub loop-conn-preserved : goal.loop-conn-preserved
loop-conn-preserved c =
    told_more (run c.args.core.now.journal).replies c.loop-conn.k (c.loop-conn.k + 1)
    (record { conn = c.in-Some.conn; bytes = c.in-Some.field-0-1.now }) c.loop-conn.told.are c.add.new.self.are _
    c.in-Some.ensures.exact refl c.add.ensures c.loop-conn.invariant

pub returns : goal.returns
returns c = told_all (run c.args.core.now.journal).replies c.loop-conn.k c.loop-conn.told.are _
    c.in_default.ensures.exact c.loop-conn.invariant
