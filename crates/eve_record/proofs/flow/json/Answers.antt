use Rattle.eve_record.specs.FlowLine.{flow_data}
use Rattle.eve_record.proofs.WrittenText.{written_text}
use Rattle.eve_record.proofs.flow.json.Goals as goal

pub returns : goal.returns
returns c =
    let p = c.args.parts.now in
    written_text (flow_data p.line.now p.community.now p.source.now p.dest.now p.start.now p.end.now) c.in_ok-out.out c.write_line.new.out c.into_inner.result.items
    c.in_ok-out.ensures.before c.in_ok-out.ensures.tokens c.in_ok-write_line.ensures c.into_inner.ensures.items
