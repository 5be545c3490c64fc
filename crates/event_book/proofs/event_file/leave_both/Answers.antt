use Rattle.std.proofs.Common.{sym, ap, ◌∙◌}
use Rattle.am_text.specs.Twice.{Twice}
use Rattle.wait_queue.specs.WaitState.{WaitState, has_openings}
use Rattle.event_book.proofs.FileLemmas.{left-closed_queue}
use Rattle.event_book.proofs.event_file.leave_both.Goals as goal

pub returns-clause-queue : goal.returns-clause-queue
returns-clause-queue c =
    left-closed_queue c.args.items.now c.args.queue.now c.leave.new.self c.close.new.self c.args.opening c.args.at
    c.leave.ensures c.close.ensures
    (sym (ap (λ (t : Twice WaitState). has_openings t.present) c.leave.ensures) ∙ sym c.is_open.ensures
    ∙ c.if-is_open.false)
