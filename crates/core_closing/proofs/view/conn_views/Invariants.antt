use Rattle.std.proofs.Common.{◌≡◌, ◌+◌, ◌++◌, length}
use Rattle.core_closing.specs.Views.{conn_views}
use Rattle.core_closing.proofs.view.conn_views.Given as goal

abbrev pub invariant-loop-rest : goal.invariant-loop-rest
invariant-loop-rest l = record {
  here : l.conn + length l.rest ≡ length l.connections;
  told : l.views ++ conn_views l.users l.conn l.rest ≡ conn_views l.users 0 l.connections;
}

abbrev pub decreases-loop-rest : goal.decreases-loop-rest
decreases-loop-rest l = length l.rest
