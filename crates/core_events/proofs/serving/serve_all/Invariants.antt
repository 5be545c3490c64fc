use Rattle.std.proofs.Common.{◌≡◌, ◌++◌, length}
use Rattle.core_events.specs.Responses.{AreSaid}
use Rattle.core_events.specs.Serving.{served_all, book_served_all}
use Rattle.core_events.specs.Sound.{IsSound}
use Rattle.core_events.proofs.serving.serve_all.Given as goal

abbrev pub invariant-loop-said : goal.invariant-loop-said
invariant-loop-said l = record {
  exact : l.said ++ served_all l.at l.book.present ≡ served_all l.at l.fn.book.present;
  rest : book_served_all l.at l.book.present ≡ book_served_all l.at l.fn.book.present;
  kept : l.book.kept ≡ l.fn.book.kept;
  said : AreSaid l.said;
  sound : IsSound l.at l.book.present;
}

abbrev pub decreases-loop-said : goal.decreases-loop-said
decreases-loop-said l = length l.book.present.reads
