use Rattle.std.proofs.Common.{◌≡◌, ◌++◌, ◌∷◌, []}
use Rattle.fid_table.specs.declared.undo.Undo.TheVariants.{Unwait}
use Rattle.fid_table.proofs.UndoLemmas.{grown, wait_undone}
use Rattle.fid_table.proofs.sessions.Sessions.try_wait.Goals as goal

pub returns-clause-ok : goal.returns-clause-ok
returns-clause-ok c =
    let steps : c.push_reserved.new.self.items ≡ c.self.inside.trail.items ++ Unwait ∷ [] = cc in
    rw (← c.self.view_is, steps, c.in_ok-wait.ensures.ok)
    (grown c.self.inside.trail.items Unwait c.self.inside.table _ (wait_undone c.self.inside.table c.args.conn
    c.args.tag c.args.fid))
