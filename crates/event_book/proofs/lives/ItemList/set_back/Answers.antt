use Rattle.std.proofs.Common.{arith}
use Rattle.event_book.proofs.ShownLemmas.{written_now, split-written}
use Rattle.event_book.proofs.lives.ItemList.set_back.Goals as goal

pub invariant_of-self : goal.invariant_of-self
invariant_of-self c =
    split-written _ _ _ _ c.self.inside.all.items c.write_back.new.all.items c.self.invariant c.write_back.ensures.len
    c.write_back.ensures.ones (omega arith)

pub returns : goal.returns
returns c =
    rw (← c.self.view_is)
    (written_now c.args.at _ _ c.args.number c.self.inside.all.items c.write_back.new.all.items
    c.write_back.ensures.shown (omega arith))
