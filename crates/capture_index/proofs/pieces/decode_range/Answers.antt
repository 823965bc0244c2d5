use Rattle.std.proofs.Common.{◌<◌, length, sym, arith}
use Rattle.capture_index.specs.Decode.{all_seen}
use Rattle.capture_index.proofs.Parts.{lies_inside, part_more, read_more, seen_count, seen_read}
use Rattle.capture_index.proofs.pieces.decode_range.Goals as goal

pub slot_at-requires-clause-inside : goal.slot_at-requires-clause-inside
slot_at-requires-clause-inside c =
    lies_inside (length c.args.bytes.now) 0 c.args.frames.now c.loop-no.no _ c.requires.inside (omega (arith, c.loop-no-test.true, c.requires.range.1))

pub loop-no-preserved : goal.loop-no-preserved
loop-no-preserved c =
    let low : c.loop-no.no < length c.args.frames.now = omega (arith, c.loop-no-test.true, c.requires.range.1) in
    let whole = all_seen c.args.link c.args.bytes.now c.args.frames.now c.args.clocks.now in
    let count = seen_count c.args.link c.args.bytes.now c.args.frames.now c.args.clocks.now c.requires.as_many in
    let so = c.loop-no.invariant in
    let read = sym (seen_read c.args.link c.args.bytes.now c.args.frames.now c.args.clocks.now c.loop-no.no _ _ _ c.requires.as_many low) in
    record {
      after = omega (arith, so.after);
      value = part_more whole c.loop-no.slots.items _ c.args.from c.loop-no.no _ c.slot_at.result so.after (omega (arith, low, count)) so.value read c.slot_at.ensures.value c.in_ok-push.ensures.items;
      read = read_more (length c.args.bytes.now) c.args.from c.loop-no.no c.args.frames.now c.args.clocks.now whole _ _ _ low c.requires.as_many count so.read read c.slot_at.ensures.read;
    }

pub returns-clause-read : goal.returns-clause-read
returns-clause-read c k f b s after before within = c.loop-no.invariant.read k f b s after (omega (arith, before, c.loop-no-test.false)) within
