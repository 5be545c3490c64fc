use Rattle.edit_run.proofs.Sequences.{no_range, at_fault, faultless}
use Rattle.edit_run.proofs.planning.edits_for.Goals as goal

pub unreachable-requires : goal.unreachable-requires
unreachable-requires c =
    no_range c.args.len c.in-Err-Range.field-0-0 c.args.changes.now c.requires
    (rw c.in-Err-Range.field-0-is at c.in-Err-Range.ensures.fault)

pub returns-in-Ok-clause-faultless : goal.returns-in-Ok-clause-faultless
returns-in-Ok-clause-faultless c = faultless c.args.len c.args.changes.now c.requires c.in-Ok.ensures.faultless

pub returns-in-Err-Sequence-clause-fault :
    goal.returns-in-Err-Sequence-clause-fault
returns-in-Err-Sequence-clause-fault c =
    at_fault c.args.len c.in-Err-Sequence.field-0-0 c.args.changes.now c.requires
    (rw c.in-Err-Sequence.field-0-is at c.in-Err-Sequence.ensures.fault)
