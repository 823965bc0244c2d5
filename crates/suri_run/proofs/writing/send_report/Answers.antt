use Rattle.std.proofs.Common.{None}
use Rattle.std.proofs.lemmas.Result.{err_from_is_err_and}
use Rattle.suri_outside.proofs.Fronts.{front_of_more, sent_front_of_more, sent_more}
use Rattle.record_texts.specs.Lines.{lines_of}
use Rattle.eve_record.specs.StatsLine.{stats_line}
use Rattle.suri_run.specs.Report.{audit_behind, text_of}
use Rattle.suri_run.proofs.writing.send_report.Goals as goal

pub returns-in_err-gathered-clause-front : goal.returns-in_err-gathered-clause-front
returns-in_err-gathered-clause-front g c =
    let o = c.args.options.now in
    let report = c.args.report.now in
    let lines = lines_of o.seed o.netflow report.lines.items in
    let p = err_from_is_err_and c.from_residual.result c.from_residual.ensures.1 in
    rw p.1
    (front_of_more (g.K.Sink.taken c.args.sink.now) (g.K.Sink.taken c.send_lines.new.sink) (text_of o report.lines.items report.stats) (audit_behind None o.audit report.trail)
    (front_of_more (g.K.Sink.taken c.args.sink.now) (g.K.Sink.taken c.send_lines.new.sink) lines (stats_line report.stats) (rw c.deref.ensures.value at c.in_err-gathered.ensures.front)))

pub returns-in_err-send_stats-clause-front : goal.returns-in_err-send_stats-clause-front
returns-in_err-send_stats-clause-front g c =
    let o = c.args.options.now in
    let report = c.args.report.now in
    let lines = lines_of o.seed o.netflow report.lines.items in
    let p = err_from_is_err_and c.from_residual-in_err-send_stats.result c.from_residual-in_err-send_stats.ensures.1 in
    rw p.1
    (front_of_more (g.K.Sink.taken c.args.sink.now) (g.K.Sink.taken c.send_stats.new.sink) (text_of o report.lines.items report.stats) (audit_behind None o.audit report.trail)
    (sent_front_of_more (g.K.Sink.taken c.args.sink.now) (g.K.Sink.taken c.send_lines.new.sink) (g.K.Sink.taken c.send_stats.new.sink) c.in_ok-gathered.gathered lines
    (stats_line report.stats) (rw c.deref.ensures.value at c.in_ok-gathered.ensures.ok) c.in_err-send_stats.ensures.front))

pub returns-in_err-send_audit-clause-front : goal.returns-in_err-send_audit-clause-front
returns-in_err-send_audit-clause-front g c =
    let o = c.args.options.now in
    let report = c.args.report.now in
    let lines = lines_of o.seed o.netflow report.lines.items in
    let p = err_from_is_err_and c.from_residual-in_err-send_audit.result c.from_residual-in_err-send_audit.ensures.1 in
    rw p.1
    (sent_front_of_more (g.K.Sink.taken c.args.sink.now) (g.K.Sink.taken c.send_stats.new.sink) (g.K.Sink.taken c.send_audit.new.sink) c.send_stats.new.gathered
    (text_of o report.lines.items report.stats) (audit_behind None o.audit report.trail)
    (sent_more (g.K.Sink.taken c.args.sink.now) (g.K.Sink.taken c.send_lines.new.sink) (g.K.Sink.taken c.send_stats.new.sink) c.in_ok-gathered.gathered lines (stats_line report.stats)
    c.send_stats.new.gathered (rw c.deref.ensures.value at c.in_ok-gathered.ensures.ok) c.in_ok-send_stats.ensures.ok) c.in_err-send_audit.ensures.front)

pub returns-clause-ok : goal.returns-clause-ok
returns-clause-ok g c =
    let o = c.args.options.now in
    let report = c.args.report.now in
    let lines = lines_of o.seed o.netflow report.lines.items in
    sent_more (g.K.Sink.taken c.args.sink.now) (g.K.Sink.taken c.send_stats.new.sink) (g.K.Sink.taken c.send_audit.new.sink) c.send_stats.new.gathered
    (text_of o report.lines.items report.stats) (audit_behind None o.audit report.trail) c.send_audit.new.gathered
    (sent_more (g.K.Sink.taken c.args.sink.now) (g.K.Sink.taken c.send_lines.new.sink) (g.K.Sink.taken c.send_stats.new.sink) c.in_ok-gathered.gathered lines (stats_line report.stats)
    c.send_stats.new.gathered (rw c.deref.ensures.value at c.in_ok-gathered.ensures.ok) c.in_ok-send_stats.ensures.ok) c.in_ok-send_audit.ensures.ok
