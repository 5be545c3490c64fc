use Rattle.core_steps.proofs.Moved.{task_deleted, task_ports, task_watch}
use Rattle.core_steps.proofs.acting.act.Goals as goal

pub returns-clause-deleted : goal.returns-clause-deleted
returns-clause-deleted c =
    task_deleted c.args.entry c.args.scene.now c.do_task.new.scene c.args.task c.requires.settled
    c.in_ok-refusal.ensures.ok c.take_items-items.new.self c.take_deleted-deleted.result
    c.take_items-items.ensures.scene c.take_deleted-deleted.ensures.taken

pub returns-clause-ports : goal.returns-clause-ports
returns-clause-ports c =
    task_ports c.args.entry c.args.scene.now c.do_task.new.scene c.args.task c.requires.settled
    c.in_ok-refusal.ensures.ok c.take_items-items.new.self c.take_deleted-deleted.new.self
    c.take_items-items.ensures.scene c.take_deleted-deleted.ensures.scene c.requires.ports

pub returns-clause-watch : goal.returns-clause-watch
returns-clause-watch c =
    task_watch c.args.entry c.args.scene.now c.do_task.new.scene c.args.task c.requires.settled
    c.in_ok-refusal.ensures.ok c.take_items-items.new.self c.take_deleted-deleted.new.self
    c.take_items-items.ensures.scene c.take_deleted-deleted.ensures.scene c.requires.watch
