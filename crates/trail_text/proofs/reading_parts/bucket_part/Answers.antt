use Rattle.std.proofs.Common.{◌∷◌, [], Global, Vec, codes, decimal}
use Rattle.std.proofs.lemmas.Result.{err_from_is_err_and}
use Rattle.suri_base.specs.declared.entry.BucketNote.{BucketNote}
use Rattle.suri_base.specs.declared.entry.Entry.{Entry}
use Rattle.trail_text.specs.Bounds.{BucketFits}
use Rattle.trail_text.specs.Words.{bucket_words}
use Rattle.trail_text.proofs.Histories.{part_head, part_read}
use Rattle.trail_text.proofs.Some.{bucket_fits, some_bucket}
use Rattle.trail_text.proofs.reading_parts.bucket_part.Goals as goal

pub returns-in_err-count : goal.returns-in_err-count
returns-in_err-count c =
    let p = err_from_is_err_and c.from_residual.result c.from_residual.ensures.1 in
    rw (p.1, p.2) (part_head (codes "bucket" ∷ decimal c.args.number ∷ []) bucket_words BucketFits some_bucket bucket_fits _ _ c.in_err-count.ensures)

pub returns : goal.returns
returns c = part_read (codes "bucket" ∷ decimal c.args.number ∷ []) bucket_words BucketFits (λ (v : Vec (Entry BucketNote) Global). v.items) _ _ _ _ _ c.in_ok-count.ensures c.bucket_entries.ensures
