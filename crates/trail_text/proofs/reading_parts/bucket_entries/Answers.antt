use Rattle.std.proofs.Common.{◌≡◌, ◌∷◌, [], rules}
use Rattle.std.proofs.lemmas.Result.{err_from_is_err_and}
use Rattle.trail_text.specs.Bounds.{BucketFits, EntryFits}
use Rattle.trail_text.specs.Lines.{entry_line}
use Rattle.trail_text.specs.Words.{bucket_words}
use Rattle.trail_text.proofs.Rows.{row_faulty, took_all, took_more, took_none}
use Rattle.trail_text.proofs.Some.{bucket_fits, some_bucket}
use Rattle.trail_text.proofs.reading_parts.bucket_entries.Goals as goal

pub loop-init : goal.loop-init
loop-init c = rw c.new-entries.ensures.items (took_none (λ _ e. entry_line bucket_words e ∷ []) (EntryFits BucketFits) c.args.lines.now)

pub loop-preserved : goal.loop-preserved
loop-preserved c = rw c.in_ok-push.ensures.items (took_more (λ _ e. entry_line bucket_words e ∷ []) (EntryFits BucketFits) _ _ _ _ _ _ c.loop.invariant c.in_ok-entry.ensures)

pub returns-in_err-entry : goal.returns-in_err-entry
returns-in_err-entry c =
    let p = err_from_is_err_and c.from_residual.result c.from_residual.ensures.1 in
    rw (p.1, p.2) (row_faulty (λ _ e. entry_line bucket_words e ∷ []) (EntryFits BucketFits) some_bucket bucket_fits _ _ _ _ _ _ c.loop-test.true c.loop.invariant c.in_err-entry.ensures)

pub returns : goal.returns
returns c = let all : c.loop.counter ≡ c.args.count = search rules in took_all (λ _ e. entry_line bucket_words e ∷ []) (EntryFits BucketFits) _ _ _ _ _ all c.loop.invariant
