use Rattle.event_book.proofs.FileLemmas.{agree-put}
use Rattle.event_book.proofs.event_file.EventFile.put.Goals as goal

pub invariant_of-self : goal.invariant_of-self
invariant_of-self c =
    agree-put c.self.inside.items c.put_both.new.items c.self.inside.queue c.put_both.new.queue c.args.item
    c.self.invariant c.in-Ok.ensures.items c.in-Ok.ensures.queue
