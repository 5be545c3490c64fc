use Rattle.std.proofs.Common.{arith}
use Rattle.core_windows.specs.Panes.{window_of}
use Rattle.core_fids.proofs.Answers.{plain_done}
use Rattle.core_answers.proofs.Possibly.{data_possible}
use Rattle.core_answers.proofs.addressing.write_data.Goals as goal

pub returns-clause-done : goal.returns-clause-done
returns-clause-done c =
    plain_done _ _ _ _ _ c.plain.ensures (record { body = tt; size = omega arith })
    (data_possible c.args.windows.now.present c.args.window (window_of c.in-Some.pane.now) c.in-Ok.taken.edits
    c.in-Ok.taken.addr c.in_ok-edits_with_addr.field-0 c.in_ok-edits_with_addr.ensures c.in-Some.ensures
    c.in-Ok.ensures.possible c.in-Ok.ensures.inside)
