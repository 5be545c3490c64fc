use Rattle.event_book.proofs.FileLemmas.{agree-deleted}
use Rattle.event_book.proofs.event_file.EventFile.delete.Goals as goal

pub invariant_of-self : goal.invariant_of-self
invariant_of-self c =
    agree-deleted c.self.inside.items.present c.args.at c.drop_pending.new.self c.new.result c.drop_pending.ensures
    c.new.ensures
