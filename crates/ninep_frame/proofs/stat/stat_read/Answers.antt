use Rattle.std.proofs.Common.{arith}
use Rattle.ninep_frame.proofs.Reading.{reads_record, reads_in_range, reads_again}
use Rattle.ninep_frame.proofs.stat.stat_read.Goals as goal

pub returns-clause-found : goal.returns-clause-found
returns-clause-found c = reads_record c.args.bytes.now c.read.result (λ i. omega (arith, c.type_inv.bytes i))
    c.read.ensures

pub returns-clause-in_range : goal.returns-clause-in_range
returns-clause-in_range c = reads_in_range c.args.bytes.now c.read.result (λ i. omega (arith, c.type_inv.bytes i))
    c.read.ensures

pub returns-clause-only : goal.returns-clause-only
returns-clause-only c = reads_again c.args.bytes.now c.read.result c.read.ensures
