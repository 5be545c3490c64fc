use Rattle.std.proofs.Common.{◌≡◌, ◌≤◌, length, vec_len, vec_capacity}
use Rattle.am_serve.proofs.bells.Bells.new.Given as goal

abbrev pub invariant-loop-conn : goal.invariant-loop-conn
invariant-loop-conn l = (length l.connections.items ≡ l._conn) × (vec_len l.connections ≡ l._conn)
    × (64 ≤ vec_capacity l.connections)
