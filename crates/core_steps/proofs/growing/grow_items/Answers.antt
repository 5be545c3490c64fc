use Rattle.std.proofs.Common.{sym, ◌∙◌}
use Rattle.core_steps.proofs.Idling.{none_if, silent, still}
use Rattle.core_steps.proofs.growing.grow_items.Goals as goal

pub returns-then-is_empty-clause-exact : goal.returns-then-is_empty-clause-exact
returns-then-is_empty-clause-exact c =
    c.new.ensures
    ∙ sym (silent c.args.at c.args.deleted.now c.args.book.now.present c.args.items c.requires.idle
    (none_if c.args.items c.is_empty.result c.is_empty.ensures c.if-is_empty.true))

pub returns-then-is_empty-clause-book : goal.returns-then-is_empty-clause-book
returns-then-is_empty-clause-book c =
    sym (still c.args.at c.args.deleted.now c.args.book.now.present c.args.items c.requires.idle
    (none_if c.args.items c.is_empty.result c.is_empty.ensures c.if-is_empty.true))
