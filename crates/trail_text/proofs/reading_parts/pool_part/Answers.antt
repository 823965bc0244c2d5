use Rattle.std.proofs.Common.{◌∷◌, [], Global, Vec, codes, refl}
use Rattle.std.proofs.lemmas.Result.{err_from_is_err_and}
use Rattle.suri_base.specs.declared.entry.PoolNote.{PoolNote}
use Rattle.suri_base.specs.declared.entry.Entry.{Entry}
use Rattle.trail_text.specs.Bounds.{PoolFits}
use Rattle.trail_text.specs.Words.{pool_words}
use Rattle.trail_text.proofs.Histories.{part_head, part_read}
use Rattle.trail_text.proofs.Some.{pool_fits, some_pool}
use Rattle.trail_text.proofs.Spacing.{literal_free}
use Rattle.trail_text.proofs.reading_parts.pool_part.Goals as goal

pub next_pool_head-requires : goal.next_pool_head-requires
next_pool_head-requires c = literal_free 32 (codes "pool") refl

pub returns-in_err-count : goal.returns-in_err-count
returns-in_err-count c =
    let p = err_from_is_err_and c.from_residual.result c.from_residual.ensures.1 in
    rw (p.1, p.2) (part_head (codes "pool" ∷ []) pool_words PoolFits some_pool pool_fits _ _ c.in_err-count.ensures)

pub returns : goal.returns
returns c = part_read (codes "pool" ∷ []) pool_words PoolFits (λ (v : Vec (Entry PoolNote) Global). v.items) _ _ _ _ _ c.in_ok-count.ensures c.pool_entries.ensures
