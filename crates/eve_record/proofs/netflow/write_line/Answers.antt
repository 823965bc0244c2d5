use Rattle.std.proofs.Common.{◌++◌, codes}
use Rattle.std.proofs.lemmas.Result.{on_ok_weaker}
use Rattle.eve_record.specs.NetflowLine.{netflow_back, netflow_data, netflow_middle}
use Rattle.eve_record.specs.Parts.{line_front, line_source}
use Rattle.eve_record.proofs.WrittenText.{writes_both, writes_more}
use Rattle.eve_record.proofs.netflow.write_line.Goals as goal

pub returns : goal.returns
unfolding netflow_data
returns c =
    let e = c.args.event.now in
    let p = e.parts in
    let front = line_front p.line.now e.way p.community.now p.dest.now (codes "netflow") in
    let middle = netflow_middle p.line.now e.way p.start.now p.end.now in
    let source = line_source p.line.now e.way p.source.now in
    let back = netflow_back p.line.now e.way p.end.now in
    let last = writes_more source back c.write_middle.new.out c.write_source.new.out c.write_back.new.out c.in_ok-write_source.ensures c.in_ok-write_back.ensures in
    let rest = writes_more middle (source ++ back) c.write_front.new.out c.write_middle.new.out c.write_back.new.out c.in_ok-write_middle.ensures last in
    on_ok_weaker c.close.result
    (writes_both front (middle ++ (source ++ back)) c.args.out.now c.open.new.out c.write_front.new.out c.write_back.new.out c.close.new.out c.in_ok-open.ensures
    c.in_ok-write_front.ensures rest) c.close.ensures
