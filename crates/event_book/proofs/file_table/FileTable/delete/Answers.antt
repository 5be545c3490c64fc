use Rattle.event_book.proofs.file_table.FileTable.delete.Goals as goal

pub invariant_of-self : goal.invariant_of-self
invariant_of-self c = record {
  rises = c.delete.ensures.rises;
  tracked = c.delete.ensures.tracked c.self.inside.touched.items c.self.invariant.tracked;
}
