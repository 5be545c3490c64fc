use Rattle.std.proofs.Common.{take, ap, ◌∙◌}
use Rattle.event_book.specs.Finding.{found_in}
use Rattle.event_book.proofs.ShownLemmas.{found-shown}
use Rattle.event_book.proofs.lives.ItemList.find.Goals as goal

pub returns : goal.returns
returns c =
    rw (← c.self.view_is)
    (c.found_in.ensures
    ∙ ap (λ es. found_in c.args.message.now (take c.self.inside.settled es)) c.deref.ensures.value
    ∙ found-shown c.args.message.now c.self.inside.settled c.self.inside.all.items)
