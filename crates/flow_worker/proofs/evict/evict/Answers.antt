use Rattle.std.proofs.Common.{◌≡◌, ℕ, ◌+◌, ◌∙◌, Bool, [], ap, refl, subst, arith}
use Rattle.flow_worker.specs.Looking.{TriedBucket}
use Rattle.flow_worker.specs.Places.{evict_on, is_evicting, to_denied, to_evicting, to_turning}
use Rattle.flow_worker.proofs.Steps.{denied_at, goes_as, goes_nowhere, goes_on, may_on}
use Rattle.flow_worker.proofs.evict.evict.Goals as goal

pub loop-tried-init : goal.loop-tried-init
loop-tried-init g c = goes_nowhere c.args.shared.now c.args.worker.now (is_evicting c.args.shared.now.layout.rows 0 c.args.no) (to_evicting c.args.shared.now.layout.rows 0 c.args.no) (λ st todo there. there)

pub evict_at-requires-clause-stands : goal.evict_at-requires-clause-stands
evict_at-requires-clause-stands g c =
    may_on c.args.shared.now c.args.worker.now c.loop-tried.worker (is_evicting c.args.shared.now.layout.rows 0 c.args.no) (is_evicting c.args.shared.now.layout.rows c.loop-tried.tried c.args.no) (to_evicting c.args.shared.now.layout.rows c.loop-tried.tried c.args.no) [] c.requires.stands c.loop-tried.invariant (λ before st todo hand is there. refl)

pub returns-then-found : goal.returns-then-found
returns-then-found g c =
    let tried = subst (λ (b : Bool). TriedBucket c.args.shared.now c.loop-tried.worker c.evict_at.new.worker c.loop-tried.tried c.args.no b) c.if-found.true c.in_ok-found.ensures in
    (tried.0, goes_on c.args.shared.now c.args.worker.now c.loop-tried.worker c.evict_at.new.worker (is_evicting c.args.shared.now.layout.rows 0 c.args.no) (is_evicting c.args.shared.now.layout.rows c.loop-tried.tried c.args.no) (to_evicting c.args.shared.now.layout.rows c.loop-tried.tried c.args.no) (to_turning c.args.no) [] [] c.loop-tried.invariant tried.1 (λ before st todo hand is there. refl) (λ st todo p hand. refl))

pub loop-tried-preserved : goal.loop-tried-preserved
loop-tried-preserved g c =
    let tried = subst (λ (b : Bool). TriedBucket c.args.shared.now c.loop-tried.worker c.evict_at.new.worker c.loop-tried.tried c.args.no b) c.if-found.false c.in_ok-found.ensures in
    goes_on c.args.shared.now c.args.worker.now c.loop-tried.worker c.evict_at.new.worker (is_evicting c.args.shared.now.layout.rows 0 c.args.no) (is_evicting c.args.shared.now.layout.rows c.loop-tried.tried c.args.no) (to_evicting c.args.shared.now.layout.rows c.loop-tried.tried c.args.no) (to_evicting c.args.shared.now.layout.rows (c.loop-tried.tried + 1) c.args.no) [] [] c.loop-tried.invariant tried (λ before st todo hand is there. refl) (λ st todo p hand. refl)

pub returns : goal.returns
returns g c =
    let last : c.loop-tried.tried ≡ c.args.shared.now.layout.rows = omega (arith, c.loop-tried.auto.tried-end, c.loop-tried-test.false) in
    goes_as c.args.shared.now c.args.worker.now c.loop-tried.worker (is_evicting c.args.shared.now.layout.rows 0 c.args.no) (to_evicting c.args.shared.now.layout.rows c.loop-tried.tried c.args.no) (to_denied c.args.no) [] c.loop-tried.invariant (λ st todo there. ap (λ (k : ℕ). evict_on c.args.shared.now.layout.rows k c.args.no todo) last ∙ denied_at c.args.shared.now.layout.rows c.args.no todo)
