use Rattle.std.proofs.Common.{◌≡◌, ◌∙◌, List, ap, refl, reverse, subst}
use Rattle.std.specs.Prelude.{count_by}
use Rattle.suri_base.specs.Trail.{Trailed}
use Rattle.suri_base.specs.declared.entry.Entry.{Entry}
use Rattle.suri_base.specs.declared.entry.PoolNote.{PoolNote}
use Rattle.suri_base.specs.declared.entry.SegNote.{SegNote}
use Rattle.run_counts.specs.Counting.{emergencies_begun}
use Rattle.run_rules.specs.Quiet.{is_full, is_short}
use Rattle.run_counts.proofs.Telling.{frame_counts, history_counts, record_counts}
use Rattle.run_counts.proofs.stats.stats_of.Goals as goal

pub returns : goal.returns
returns c = record {
  counted = record {
    of_frames = frame_counts c.args.capture.now _ c.count_frames-counts.ensures c.last_clock.ensures.greatest c.capture_bytes.ensures (c.from.ensures ∙ c.cut_bytes.ensures)
        (c.from-2.ensures ∙ c.count.ensures.count);
    of_records = record_counts c.args.lines.now _ c.count_records-records.ensures refl;
  };
  of_histories = history_counts c.args.trail.now _ c.all_refusals.ensures
      (subst (λ (h : List (Entry PoolNote)). c.count_pool-pool.result.full ≡ count_by (λ e. is_full e.note) h) (c.deref.ensures.value ∙ ap (λ (t : Trailed). t.pool) c.trail.view_is)
      c.count_pool-pool.ensures.full)
      (subst (λ (h : List (Entry SegNote)). c.times_short-short.result ≡ count_by (λ e. is_short e.note) h) (c.deref-2.ensures.value ∙ ap (λ (t : Trailed). t.segments) c.trail.view_is)
      c.times_short-short.ensures)
      (subst (λ (h : List (Entry PoolNote)). c.count_pool-pool.result.begun ≡ emergencies_begun (reverse h)) (c.deref.ensures.value ∙ ap (λ (t : Trailed). t.pool) c.trail.view_is)
      c.count_pool-pool.ensures.begun);
}
