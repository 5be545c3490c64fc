use Rattle.std.proofs.Common.{◌≡◌, ◌++◌, ◌∷◌, []}
use Rattle.fid_table.specs.Undo.{unset}
use Rattle.fid_table.proofs.UndoLemmas.{grown, put_undone}
use Rattle.fid_table.proofs.sessions.Sessions.try_put.Goals as goal

pub returns-clause-ok : goal.returns-clause-ok
returns-clause-ok c =
    let steps : c.push_reserved.new.self.items ≡ c.self.inside.trail.items ++ unset c.args.conn c.args.fid
    c.in_ok-before.before ∷ [] = cc in
    rw (← c.self.view_is, steps, c.in_ok-before.ensures.ok)
    (grown c.self.inside.trail.items (unset c.args.conn c.args.fid c.in_ok-before.before) c.self.inside.table _
    (put_undone c.self.inside.table c.args.conn c.args.fid c.args.value c.in_ok-before.before
    c.in_ok-before.ensures.before))
