use Rattle.std.proofs.Common.{subst, sym}
use Rattle.am_text.specs.Twice.{IsSteady}
use Rattle.event_book.specs.WindowFiles.{left, file_in}
use Rattle.event_book.proofs.FileLemmas.{agree-both, steady_items, steady_queue}
use Rattle.event_book.proofs.event_file.EventFile.leave.Goals as goal

pub leave_both-requires-clause-items : goal.leave_both-requires-clause-items
leave_both-requires-clause-items c =
    let steady = subst IsSteady (sym c.self.view_is) c.requires in
    steady_items c.self.inside.items c.self.inside.queue steady

pub leave_both-requires-clause-queue : goal.leave_both-requires-clause-queue
leave_both-requires-clause-queue c =
    let steady = subst IsSteady (sym c.self.view_is) c.requires in
    steady_queue c.self.inside.items c.self.inside.queue c.self.invariant steady

pub leave_both-requires-clause-agrees : goal.leave_both-requires-clause-agrees
leave_both-requires-clause-agrees c = c.self.invariant

pub invariant_of-self : goal.invariant_of-self
invariant_of-self c =
    agree-both c.leave_both.new.items c.leave_both.new.queue (left (file_in c.self.inside.items c.self.inside.queue)
    c.args.opening c.args.at) c.leave_both.ensures.items c.leave_both.ensures.queue
