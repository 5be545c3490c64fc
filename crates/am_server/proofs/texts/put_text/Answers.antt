use Rattle.std.proofs.lemmas.Result.{err_from_is_err_and}
use Rattle.std.proofs.Common.{arith, ◌++◌}
use Rattle.am_base.specs.Seen.{seen}
use Rattle.am_base.specs.Written.{IsWhole}
use Rattle.am_base.proofs.Puts.{whole_then}
use Rattle.acme_core.specs.Views.{view_of}
use Rattle.am_journal.specs.Journal.{journal_text}
use Rattle.am_journal.specs.Report.{report_text}
use Rattle.am_server.specs.Texts.{host_text, refusal_text}
use Rattle.am_server.proofs.Putting.{stops_in_hosts, stops_in_refusal, stops_in_report}
use Rattle.am_server.proofs.texts.put_text.Goals as goal

pub returns-in_err-put_report-clause-err : goal.returns-in_err-put_report-clause-err
returns-in_err-put_report-clause-err g c =
    let p = err_from_is_err_and c.from_residual-in_err-put_report.result c.from_residual-in_err-put_report.ensures.1 in
    let J : IsWhole (seen (g.O.Sink.told c.args.output.now) (g.O.Sink.told c.put_journal.new.output))
    (journal_text c.args.core.now.journal) = c.in_ok-put_journal.ensures.ok in
    rw (p.1, p.2)
    (stops_in_report {G = g.row.G.Denot} {L = g.row.L.Denot} {S = g.row.S.Denot} {K = g.row.K.Denot}
    c.args.core.now.journal c.args.slots.now c.args.end c.in_err-put_report.field-0.0
    (g.O.Sink.told c.args.output.now) (g.O.Sink.told c.put_journal.new.output) (g.O.Sink.told c.put_report.new.output) J
    c.put_journal.ensures.later c.in_err-put_report.ensures.err)

pub returns-in_err-put_hosts-clause-err : goal.returns-in_err-put_hosts-clause-err
returns-in_err-put_hosts-clause-err g c =
    let p = err_from_is_err_and c.from_residual-in_err-put_hosts.result c.from_residual-in_err-put_hosts.ensures.1 in
    let J : IsWhole (seen (g.O.Sink.told c.args.output.now) (g.O.Sink.told c.put_journal.new.output))
    (journal_text c.args.core.now.journal) = c.in_ok-put_journal.ensures.ok in
    let R = whole_then (g.O.Sink.told c.args.output.now) (g.O.Sink.told c.put_journal.new.output)
    (g.O.Sink.told c.put_report.new.output)
    (journal_text c.args.core.now.journal) (report_text (view_of c.args.core.now.journal)) J
    c.in_ok-put_report.ensures.ok in
    rw (p.1, p.2)
    (stops_in_hosts {G = g.row.G.Denot} {L = g.row.L.Denot} {S = g.row.S.Denot} {K = g.row.K.Denot}
    c.args.core.now.journal c.args.slots.now c.args.end c.in_err-put_hosts.field-0.0
    (g.O.Sink.told c.args.output.now) (g.O.Sink.told c.put_report.new.output) (g.O.Sink.told c.put_hosts.new.output) R
    (omega (arith, c.put_journal.ensures.later, c.put_report.ensures.later)) c.in_err-put_hosts.ensures.err)

pub returns-in_err-put_refusal-clause-err : goal.returns-in_err-put_refusal-clause-err
returns-in_err-put_refusal-clause-err g c =
    let p = err_from_is_err_and c.from_residual-in_err-put_refusal.result
    c.from_residual-in_err-put_refusal.ensures.1 in
    let J : IsWhole (seen (g.O.Sink.told c.args.output.now) (g.O.Sink.told c.put_journal.new.output))
    (journal_text c.args.core.now.journal) = c.in_ok-put_journal.ensures.ok in
    let R = whole_then (g.O.Sink.told c.args.output.now) (g.O.Sink.told c.put_journal.new.output)
    (g.O.Sink.told c.put_report.new.output)
    (journal_text c.args.core.now.journal) (report_text (view_of c.args.core.now.journal)) J
    c.in_ok-put_report.ensures.ok in
    let H = whole_then (g.O.Sink.told c.args.output.now) (g.O.Sink.told c.put_report.new.output)
    (g.O.Sink.told c.put_hosts.new.output)
    (journal_text c.args.core.now.journal ++ report_text (view_of c.args.core.now.journal))
    (host_text 0 c.args.slots.now) R c.in_ok-put_hosts.ensures.ok in
    rw (p.1, p.2)
    (stops_in_refusal {G = g.row.G.Denot} {L = g.row.L.Denot} {S = g.row.S.Denot} {K = g.row.K.Denot}
    c.args.core.now.journal c.args.slots.now c.args.end c.in_err-put_refusal.field-0.0
    (g.O.Sink.told c.args.output.now) (g.O.Sink.told c.put_hosts.new.output) (g.O.Sink.told c.put_refusal.new.output) H
    (omega (arith, c.put_journal.ensures.later, c.put_report.ensures.later, c.put_hosts.ensures.later))
    c.in_err-put_refusal.ensures.err)

pub returns-clause-ok : goal.returns-clause-ok
returns-clause-ok g c =
    let J : IsWhole (seen (g.O.Sink.told c.args.output.now) (g.O.Sink.told c.put_journal.new.output))
    (journal_text c.args.core.now.journal) = c.in_ok-put_journal.ensures.ok in
    let R = whole_then (g.O.Sink.told c.args.output.now) (g.O.Sink.told c.put_journal.new.output)
    (g.O.Sink.told c.put_report.new.output)
    (journal_text c.args.core.now.journal) (report_text (view_of c.args.core.now.journal)) J
    c.in_ok-put_report.ensures.ok in
    let H = whole_then (g.O.Sink.told c.args.output.now) (g.O.Sink.told c.put_report.new.output)
    (g.O.Sink.told c.put_hosts.new.output)
    (journal_text c.args.core.now.journal ++ report_text (view_of c.args.core.now.journal))
    (host_text 0 c.args.slots.now) R c.in_ok-put_hosts.ensures.ok in
    whole_then (g.O.Sink.told c.args.output.now) (g.O.Sink.told c.put_hosts.new.output)
    (g.O.Sink.told c.put_refusal.new.output)
    (journal_text c.args.core.now.journal ++ report_text (view_of c.args.core.now.journal)
    ++ host_text 0 c.args.slots.now) (refusal_text c.args.end) H c.in_ok-put_refusal.ensures.ok
