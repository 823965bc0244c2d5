use Rattle.std.proofs.Common.{◌+◌, drop}
use Rattle.std.proofs.lemmas.List.{drop_more}
use Rattle.capture_gen.proofs.Appending.{next_record}
use Rattle.capture_gen.proofs.capture.write_records.Goals as goal

pub loop-place-preserved : goal.loop-place-preserved
loop-place-preserved c =
    let place = c.loop-place.place in
    let turns = c.args.turns.now in
    rw c.in_ok-write_record.ensures
    (next_record c.loop-place.out.items _ place _ (drop place turns) (drop (place + 1) turns) (drop_more turns place _ c.loop-place-test.true) c.loop-place.invariant)
