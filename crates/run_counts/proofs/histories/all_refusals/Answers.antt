use Rattle.std.proofs.Common.{◌+◌, ◌∙◌, ap, arith}
use Rattle.std.specs.Prelude.{sum_by}
use Rattle.std.proofs.lemmas.List.{take_all}
use Rattle.std.proofs.lemmas.List.Sums.{sum_by-take-le}
use Rattle.suri_base.specs.Trail.{Trailed}
use Rattle.run_counts.specs.Counting.{refusals}
use Rattle.run_counts.proofs.Summing.{next_refusals, whole_refusals}
use Rattle.run_counts.proofs.histories.all_refusals.Goals as goal

pub loop-history-preserved : goal.loop-history-preserved
loop-history-preserved c =
    next_refusals c.deref-history-items.result.now (λ v. v.items) c.loop-history.history-index c.loop-history.count c.refusals.result c.history-item.result c.loop-history-test.true
    c.loop-history.invariant c.history-item.is (c.refusals.ensures ∙ ap (λ h. refusals h) c.deref.ensures.value)

pub overflow_add-count : goal.overflow_add-count
overflow_add-count c =
    let next =
    next_refusals c.deref-history-items.result.now (λ v. v.items) c.loop-history.history-index c.loop-history.count c.refusals.result c.history-item.result c.loop-history-test.true
    c.loop-history.invariant c.history-item.is (c.refusals.ensures ∙ ap (λ h. refusals h) c.deref.ensures.value) in
    let whole =
    whole_refusals c.deref-history-items.result.now (λ v. v.items) c.trail.inside.buckets.items c.args.trail.now c.deref-history-items.ensures.value
    (ap (λ (t : Trailed). t.buckets) c.trail.view_is) in
    let part = sum_by-take-le (λ v. refusals v.items) c.deref-history-items.result.now (c.loop-history.history-index + 1) in
    omega (arith, next, whole, part, c.requires)

pub returns : goal.returns
returns c =
    c.loop-history.invariant
    ∙ (ap (λ vs. sum_by (λ v. refusals v.items) vs) (take_all c.loop-history.history-index c.deref-history-items.result.now c.loop-history-test.false)
    ∙ whole_refusals c.deref-history-items.result.now (λ v. v.items) c.trail.inside.buckets.items c.args.trail.now c.deref-history-items.ensures.value
    (ap (λ (t : Trailed). t.buckets) c.trail.view_is))
