use Rattle.std.proofs.Common.{ℕ, ◌∙◌, List, ap, arith, subst, sym}
use Rattle.capture_index.specs.Batches.{batches_of}
use Rattle.flow_worker.specs.Batching.{DidBatch, MayBegin}
use Rattle.flow_worker.proofs.Working.{at_list, did_more, did_none, list_count, may_begin, worked}
use Rattle.flow_worker.proofs.round.work.Goals as goal

pub loop-place-init : goal.loop-place-init
loop-place-init g c = did_none c.args.shared.now c.args.worker.now c.args.round c.requires

pub run_batch-requires-clause-begins : goal.run_batch-requires-clause-begins
run_batch-requires-clause-begins g c =
    let same = c.in_ok-lists.ensures ∙ ap (λ (r : ℕ). batches_of c.args.shared.now.layout c.args.shared.now.capture.now.seen r c.args.round) c.role-role.ensures in
    let count = list_count c.in_ok-lists.lists.items _ same in
    let here = at_list c.in_ok-lists.lists.items _ c.loop-place.place c.index.result.now same c.index.ensures (omega (arith, c.loop-place-test.true, c.len-place-end.ensures, c.in_ok-lists.lists.ok)) ∙ sym c.deref.ensures.value in
    subst (λ (b : List ℕ). MayBegin c.args.shared.now c.loop-place.worker b) here
    (may_begin c.args.shared.now c.args.worker.now c.args.round c.requires c.loop-place.worker c.loop-place.place
    (omega (arith, c.loop-place-test.true, c.len-place-end.ensures, c.in_ok-lists.lists.ok, count)) c.loop-place.invariant)

pub loop-place-preserved : goal.loop-place-preserved
loop-place-preserved g c =
    let same = c.in_ok-lists.ensures ∙ ap (λ (r : ℕ). batches_of c.args.shared.now.layout c.args.shared.now.capture.now.seen r c.args.round) c.role-role.ensures in
    let count = list_count c.in_ok-lists.lists.items _ same in
    let here = at_list c.in_ok-lists.lists.items _ c.loop-place.place c.index.result.now same c.index.ensures (omega (arith, c.loop-place-test.true, c.len-place-end.ensures, c.in_ok-lists.lists.ok)) ∙ sym c.deref.ensures.value in
    did_more c.args.shared.now c.args.worker.now c.args.round c.requires c.loop-place.worker c.run_batch.new.worker c.loop-place.place
    (omega (arith, c.loop-place-test.true, c.len-place-end.ensures, c.in_ok-lists.lists.ok, count)) c.loop-place.invariant
    (subst (λ (b : List ℕ). DidBatch c.args.shared.now c.loop-place.worker c.run_batch.new.worker b) (sym here) c.in_ok-run_batch.ensures)

pub returns : goal.returns
returns g c =
    let same = c.in_ok-lists.ensures ∙ ap (λ (r : ℕ). batches_of c.args.shared.now.layout c.args.shared.now.capture.now.seen r c.args.round) c.role-role.ensures in
    let count = list_count c.in_ok-lists.lists.items _ same in
    worked c.args.shared.now c.args.worker.now c.args.round c.requires c.loop-place.worker c.loop-place.place
    (omega (arith, c.loop-place-test.false, c.loop-place.auto.place-end, c.len-place-end.ensures, c.in_ok-lists.lists.ok, count)) c.loop-place.invariant
