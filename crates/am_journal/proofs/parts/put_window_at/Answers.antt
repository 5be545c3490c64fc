use Rattle.std.proofs.Common.{List, ℕ, ◌≡◌, ◌++◌, ap, sym, subst, ◌∙◌}
use Rattle.std.specs.Prelude.{OnOk}
use Rattle.am_journal.specs.Report.{window_lines}
use Rattle.am_journal.proofs.Parted.{window_at}
use Rattle.am_journal.proofs.parts.put_window_at.Goals as goal

pub returns : goal.returns
returns c =
    let view = c.index-views-k.result in
    subst (λ (l : List ℕ). OnOk c.put_window.result (c.put_window.new.out ≡ c.args.out.now ++ l))
    (ap window_lines c.index-views-k.is ∙ sym (window_at c.args.views.now c.args.k view c.requires)) c.put_window.ensures
