use Rattle.event_book.proofs.TableLemmas.{all_kept}
use Rattle.event_book.proofs.file_table.FileTable.keep.Goals as goal

pub returns : goal.returns
returns c =
    rw (← c.self.view_is)
    (all_kept c.keep_touched.new.all.items c.self.inside.all.items c.keep_touched.ensures.table
    c.keep_touched.ensures.present)
