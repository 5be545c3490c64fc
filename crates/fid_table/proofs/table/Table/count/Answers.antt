use Rattle.std.proofs.Common.{◌≡◌, sym, subst, ap, find, None, ◌∙◌}
use Rattle.std.specs.List.{IsDistinct}
use Rattle.fid_table.specs.Fids.{AreDistinct}
use Rattle.fid_table.specs.Tables.{is_session, fids_in}
use Rattle.fid_table.proofs.table.Table.count.Goals as goal

pub returns-in-None-clause-distinct : goal.returns-in-None-clause-distinct
unfolding IsDistinct
returns-in-None-clause-distinct c =
    let none : find (is_session c.args.conn) c.self.inside.sessions.items ≡ None =
    ap (find (is_session c.args.conn)) (sym c.as_slice.ensures.value) ∙ sym c.in-None.ensures
    in
    rw (← c.self.view_is) (subst (λ o. AreDistinct (fids_in o)) (sym none) tt)
