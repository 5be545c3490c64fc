use Rattle.event_book.proofs.FileLemmas.{agree-given}
use Rattle.event_book.proofs.event_file.EventFile.give.Goals as goal

pub invariant_of-self : goal.invariant_of-self
invariant_of-self c =
    agree-given c.self.inside.items c.settle_taken.new.items c.self.inside.queue c.ask.new.queue c.args.asker c.args.at
    c.in-Ok.piece c.self.invariant c.in-Ok.ensures.piece c.settle_taken.ensures c.in-Ok.ensures.ok
