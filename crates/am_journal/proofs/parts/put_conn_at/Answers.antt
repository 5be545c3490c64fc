use Rattle.std.proofs.Common.{List, ℕ, ◌≡◌, ◌++◌, ap, sym, subst, ◌∙◌}
use Rattle.std.specs.Prelude.{OnOk}
use Rattle.am_journal.specs.Report.{conn_line}
use Rattle.am_journal.proofs.Parted.{conn_at}
use Rattle.am_journal.proofs.parts.put_conn_at.Goals as goal

pub returns : goal.returns
returns c =
    let view = c.index-views-k.result in
    subst (λ (l : List ℕ). OnOk c.put_conn.result (c.put_conn.new.out ≡ c.args.out.now ++ l))
    (ap (conn_line c.args.format) c.index-views-k.is ∙ sym (conn_at c.args.format c.args.views.now c.args.k view c.requires)) c.put_conn.ensures
