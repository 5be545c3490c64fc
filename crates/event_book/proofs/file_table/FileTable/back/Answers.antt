use Rattle.event_book.proofs.TableLemmas.{all_back}
use Rattle.event_book.proofs.file_table.FileTable.back.Goals as goal

pub returns : goal.returns
returns c =
    rw (← c.self.view_is)
    (all_back c.back_touched.new.all.items c.self.inside.all.items c.back_touched.ensures.table
    c.back_touched.ensures.kept)
