use Rattle.event_book.proofs.file_table.FileTable.leave.Goals as goal

pub invariant_of-self : goal.invariant_of-self
invariant_of-self c = record {
  rises = c.leave.ensures.rises;
  tracked = c.leave.ensures.tracked c.self.inside.touched.items c.self.invariant.tracked;
}
