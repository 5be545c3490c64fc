use Rattle.event_book.proofs.file_table.FileTable.written.Goals as goal

pub invariant_of-self : goal.invariant_of-self
invariant_of-self c = record {
  rises = c.written.ensures.rises;
  tracked = c.written.ensures.tracked c.self.inside.touched.items c.self.invariant.tracked;
}
