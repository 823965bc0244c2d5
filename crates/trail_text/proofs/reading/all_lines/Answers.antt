use Rattle.std.proofs.lemmas.Result.{err_from_is_err_and}
use Rattle.trail_text.proofs.Trails.{buckets_faulty, layout_faulty, pool_faulty, seg_faulty, title_faulty, trail_took}
use Rattle.trail_text.proofs.reading.all_lines.Goals as goal

pub returns-in_err-next_title : goal.returns-in_err-next_title
returns-in_err-next_title c =
    let p = err_from_is_err_and c.from_residual.result c.from_residual.ensures.1 in
    rw (p.1, p.2) (title_faulty _ _ c.in_err-next_title.ensures)

pub returns-in_err-layout : goal.returns-in_err-layout
returns-in_err-layout c =
    let p = err_from_is_err_and c.from_residual-in_err-layout.result c.from_residual-in_err-layout.ensures.1 in
    rw (p.1, p.2) (layout_faulty _ _ _ c.in_ok-next_title.ensures _ c.in_err-layout.ensures)

pub returns-in_err-pool : goal.returns-in_err-pool
returns-in_err-pool c =
    let p = err_from_is_err_and c.from_residual-in_err-pool.result c.from_residual-in_err-pool.ensures.1 in
    rw (p.1, p.2) (pool_faulty _ _ _ c.in_ok-next_title.ensures _ _ c.in_ok-layout.ensures _ c.in_err-pool.ensures)

pub returns-in_err-segments : goal.returns-in_err-segments
returns-in_err-segments c =
    let p = err_from_is_err_and c.from_residual-in_err-segments.result c.from_residual-in_err-segments.ensures.1 in
    rw (p.1, p.2) (seg_faulty _ _ _ c.in_ok-next_title.ensures _ _ c.in_ok-layout.ensures _ _ c.in_ok-pool.ensures _ c.in_err-segments.ensures)

pub returns-in_err-buckets : goal.returns-in_err-buckets
returns-in_err-buckets c =
    let p = err_from_is_err_and c.from_residual-in_err-buckets.result c.from_residual-in_err-buckets.ensures.1 in
    rw (p.1, p.2) (buckets_faulty _ _ _ c.in_ok-next_title.ensures _ _ c.in_ok-layout.ensures _ _ c.in_ok-pool.ensures _ _ c.in_ok-segments.ensures _ c.in_err-buckets.ensures)

pub returns : goal.returns
returns c = trail_took _ _ _ c.in_ok-next_title.ensures _ _ c.in_ok-layout.ensures _ _ c.in_ok-pool.ensures _ _ c.in_ok-segments.ensures _ _ c.in_ok-buckets.ensures
