use Rattle.std.proofs.Common.{[], ◌∷◌}
use Rattle.std.specs.Prelude.{codes}
use Rattle.am_text.specs.Fields.{around}
use Rattle.am_journal.specs.Report.{conn_line, conn_state, user_end}
use Rattle.am_journal.proofs.Joined.{three}
use Rattle.am_journal.proofs.reporting.put_conn.Goals as goal

pub returns : goal.returns
unfolding conn_line
returns c =
    rw (c.in_ok-put_user.ensures, c.as_slice.ensures, c.in_ok-put_state.ensures, c.in_ok-put_around.ensures, c.from.ensures)
    (three c.args.out.now (around (codes "connection ") c.args.view.now.conn (32 ∷ []))
    (conn_state c.args.view.now.ending) (user_end c.args.format c.args.view.now.user))
