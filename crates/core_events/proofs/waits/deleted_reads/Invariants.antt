use Rattle.std.proofs.Common.{◌≡◌, take, filter}
use Rattle.core_fids.specs.declared.refusal.Refusal.TheVariants as refusal
use Rattle.core_events.specs.Responses.{AreSaid, errors}
use Rattle.core_events.specs.Waits.{is_of_window}
use Rattle.core_events.proofs.waits.deleted_reads.Given as goal

abbrev pub invariant-loop-k : goal.invariant-loop-k
invariant-loop-k l = record {
  exact : l.said ≡ errors refusal.WindowDeleted l.sessions.present
      (filter (is_of_window l.sessions.present l.window) (take l.k l.sessions.present.waiting));
  said : AreSaid l.said;
}
