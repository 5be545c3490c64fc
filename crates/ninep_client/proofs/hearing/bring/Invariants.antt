use Rattle.std.proofs.Common.{◌≤◌, ◌≡◌, true}
use Rattle.std.specs.Prelude.{is_some}
use Rattle.ninep_client.specs.Asking.{reply_place}
use Rattle.ninep_client.specs.Hearing.{Hears, waiting}
use Rattle.ninep_client.proofs.hearing.bring.Given as goal

abbrev pub invariant-messages : goal.invariant-messages
invariant-messages g l = record {
  later : (g.R.Source.told l.fn.source).faults ≤ (g.R.Source.told l.source).faults;
  hears : Hears l.tag l.fn.asked.items l.fn.unread (g.R.Source.told l.fn.source).bytes (g.R.Source.told l.source).bytes
      l.asked.items l.unread;
  kept : is_some (reply_place l.tag l.fn.asked.items) ≡ true → l.asked.items ≡ l.fn.asked.items;
  unread : is_some (reply_place l.tag l.fn.asked.items) ≡ true → (g.R.Source.told l.source).bytes
      ≡ (g.R.Source.told l.fn.source).bytes;
}

abbrev pub decreases-messages : goal.decreases-messages
decreases-messages g l = waiting l.asked.items
