use Rattle.event_book.proofs.ShownLemmas.{life_at-read}
use Rattle.event_book.proofs.lives.set_life.Goals as goal

pub returns : goal.returns
returns c =
    life_at-read c.args.life c.args.place c.args.all.now.items c.index_mut-recorded.result.now
    c.index_mut-recorded.ensures.value c.requires
