use Rattle.std.proofs.Common.{List, subst, take}
use Rattle.std.specs.Prelude.{OnOk, IfErr}
use Rattle.std.specs.List.{concat}
use Rattle.am_base.specs.Seen.{seen}
use Rattle.am_base.specs.Written.{IsWhole}
use Rattle.am_base.proofs.Puts.{whole_none}
use Rattle.am_journal.specs.declared.view.View.{View}
use Rattle.am_journal.specs.Report.{report_text}
use Rattle.am_journal.specs.Sections.{report_parts}
use Rattle.am_server.specs.Putting.{StopsIn}
use Rattle.am_server.proofs.texts.put_report.Goals as goal

pub returns-in-Ok-clause-ok : goal.returns-in-Ok-clause-ok
returns-in-Ok-clause-ok g c =
    subst (λ (v : View). OnOk c.put_view.result (IsWhole (seen (g.O.Sink.told c.args.output.now)
    (g.O.Sink.told c.put_view.new.output)) (report_text v))) c.in-Ok.ensures c.put_view.ensures.ok

pub returns-in-Ok-clause-err : goal.returns-in-Ok-clause-err
returns-in-Ok-clause-err g c =
    subst (λ (v : View). IfErr c.put_view.result (λ e. StopsIn e (seen (g.O.Sink.told c.args.output.now)
    (g.O.Sink.told c.put_view.new.output)) (report_text v) (λ n. concat (take n (report_parts v))))) c.in-Ok.ensures
    c.put_view.ensures.err

pub returns-in-Err-clause-err : goal.returns-in-Err-clause-err
returns-in-Err-clause-err g c = (0, whole_none (g.O.Sink.told c.args.output.now))
