use Rattle.std.proofs.Common.{arith, refl, sym, ◌∙◌}
use Rattle.recycler.proofs.Serving.{serving_start, serving_next, served_all, nothing_left}
use Rattle.recycler.proofs.serve.serve.Goals as goal

pub loop-ended-init : goal.loop-ended-init
loop-ended-init g c = serving_start c.args.shared.now c.args.recycler.now c.requires.fits c.requires.objects

pub loop-ended-preserved : goal.loop-ended-preserved
loop-ended-preserved g c =
    let e = c.in_ok-finish_one.ensures in
    serving_next c.args.shared.now c.args.recycler.now c.loop-ended.recycler _ _ c.loop-ended.invariant c.in-Some.ensures.items e.finished e.line

pub returns : goal.returns
returns g c =
    let mid = c.loop-ended.recycler in
    let empty = nothing_left mid.waiting.items (omega (arith, c.in_default.ensures.cases.0, mid.waiting.ok)) in
    served_all c.args.shared.now c.args.recycler.now mid _ c.loop-ended.invariant empty refl refl (sym c.in_default.ensures.items ∙ empty)
