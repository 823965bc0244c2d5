use Rattle.std.proofs.Common.{◌++◌, rules}
use Rattle.std.specs.Slice.Iter.{chunks_rest}
use Rattle.suri_base.specs.Keys.{IsNameable}
use Rattle.flow_object.specs.declared.outcome.FlowLine.{FlowLine}
use Rattle.record_texts.specs.Lines.{lines_of, record_lines}
use Rattle.suri_run.proofs.Sending.{all_behind, next_text, piece_first}
use Rattle.suri_run.proofs.summing.tally_lines.Goals as goal

pub loop-round-preserved : goal.loop-round-preserved
loop-round-preserved g c =
    let o = c.args.options.now in
    let round = c.in-Some.round.now in
    let before = chunks_rest c.loop-round.round-iterator in
    let behind = chunks_rest c.next.new.self in
    let steps = c.in-Some.ensures.steps in
    record {
      next = search rules;
      finite = tt;
      named = all_behind (λ (line : FlowLine). IsNameable line.sums.key) before round behind steps.1.0 c.loop-round.invariant.named;
      text = c.loop-round.invariant.text ++ lines_of o.seed o.netflow round;
      sums = c.in_ok-tally_round.ensures.ok c.loop-round.invariant.text c.loop-round.invariant.sums;
      rest = next_text c.loop-round.invariant.text (lines_of o.seed o.netflow round) (lines_of o.seed o.netflow behind) (lines_of o.seed o.netflow before) (lines_of o.seed o.netflow c.args.lines.now)
          (piece_first (record_lines o.seed o.netflow) before round behind steps.1.0) c.loop-round.invariant.rest;
    }
