use Rattle.std.proofs.Common.{◌≡◌, [], rules}
use Rattle.std.proofs.lemmas.Result.{err_from_is_err_and}
use Rattle.trail_text.specs.Bounds.{BucketFits, HistoryFits}
use Rattle.trail_text.specs.Reading.{bucket_part}
use Rattle.trail_text.proofs.Rows.{map_push, row_faulty, took_all, took_more, took_none}
use Rattle.trail_text.proofs.Some.{nothing_fits}
use Rattle.trail_text.proofs.reading_parts.bucket_parts.Goals as goal

pub loop-number-init : goal.loop-number-init
loop-number-init c = rw c.new-buckets.ensures.items (took_none bucket_part (HistoryFits BucketFits) c.args.lines.now)

pub loop-number-preserved : goal.loop-number-preserved
loop-number-preserved c = rw c.in_ok-push.ensures.items (rw map_push (took_more bucket_part (HistoryFits BucketFits) _ _ _ _ _ _ c.loop-number.invariant c.in_ok-entries.ensures))

pub returns-in_err-entries : goal.returns-in_err-entries
returns-in_err-entries c =
    let p = err_from_is_err_and c.from_residual.result c.from_residual.ensures.1 in
    rw (p.1, p.2) (row_faulty bucket_part (HistoryFits BucketFits) [] (nothing_fits BucketFits) _ _ _ _ _ _ c.loop-number-test.true c.loop-number.invariant c.in_err-entries.ensures)

pub returns : goal.returns
returns c = let all : c.loop-number.number ≡ c.args.rows = search rules in took_all bucket_part (HistoryFits BucketFits) _ _ _ _ _ all c.loop-number.invariant
