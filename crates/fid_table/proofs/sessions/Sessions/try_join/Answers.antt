use Rattle.std.proofs.Common.{◌≡◌, ◌++◌, ◌∷◌, []}
use Rattle.fid_table.specs.declared.undo.Undo.TheVariants.{Leave}
use Rattle.fid_table.proofs.UndoLemmas.{grown, join_undone}
use Rattle.fid_table.proofs.sessions.Sessions.try_join.Goals as goal

pub returns-clause-ok : goal.returns-clause-ok
returns-clause-ok c =
    let steps : c.push_reserved.new.self.items ≡ c.self.inside.trail.items ++ Leave ∷ [] = cc in
    rw (← c.self.view_is, steps, c.in_ok-join.ensures.ok)
    (grown c.self.inside.trail.items Leave c.self.inside.table _ (join_undone c.self.inside.table c.args.conn))
