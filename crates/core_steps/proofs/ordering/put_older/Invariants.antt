use Rattle.std.proofs.Common.{◌≡◌, ◌++◌, length}
use Rattle.core_steps.specs.Order.{older, younger, place_in}
use Rattle.core_steps.proofs.ordering.put_older.Given as goal

abbrev pub invariant-older : goal.invariant-older
invariant-older l = record {
  older : l.all ++ older (place_in l.sessions.present) l.place l.row.items
      ≡ l.fn.all ++ older (place_in l.sessions.present) l.place l.fn.row.items;
  younger : younger (place_in l.sessions.present) l.place l.row.items
      ≡ younger (place_in l.sessions.present) l.place l.fn.row.items;
}

abbrev pub decreases-older : goal.decreases-older
decreases-older l = length l.row.items
