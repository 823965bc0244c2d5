use Rattle.std.proofs.Common.{◌≡◌, ℕ, ◌+◌, [], ◌∷◌, length, sym, ap, ◌∙◌, subst, arith, length-append}
use Rattle.role_meets.specs.declared.roles.Role.{Role}
use Rattle.role_steps.specs.declared.roles.Passes.{Passes}
use Rattle.run_start.specs.Starting.{IsNew, IsNewRole}
use Rattle.run_start.proofs.Beginning.{cast_role, of_front, of_last, of_more}
use Rattle.run_start.proofs.cast.cast_all.Goals as goal

pub loop-number-preserved : goal.loop-number-preserved
loop-number-preserved c =
    let inv = c.loop-number.invariant in
    let s = c.args.shared.now in
    let rest = c.pop.new.self.items in
    let p = c.in-Some.passes in
    let is = c.in-Some.ensures.items in
    let less : length c.loop-number.all.items ≡ length rest + 1 = ap length is ∙ length-append rest (p ∷ []) in
    let is_new = λ (k : ℕ) (q : Passes). (role : ℕ) → k + role + 1 ≡ s.layout.workers + 3 → IsNew s role q in
    let here : IsNew s c.loop-number.number p = of_last is_new c.loop-number.all.items rest p is inv.1 c.loop-number.number (omega (arith, less, inv.0)) in
    let made = c.cast.ensures in
    let new = c.push_reserved.ensures in
    let role = cast_role s c.loop-number.number p c.cast.result here made.passes made.kind made.hand made.waiting made.lines made.well in (
      omega (arith, less, inv.0),
      of_front is_new c.loop-number.all.items rest p is inv.1,
      omega (arith, ap length new.items, length-append c.loop-number.roles.items (c.cast.result ∷ []), inv.2),
      omega (arith, new.capacity, inv.3),
      of_more (λ (k : ℕ) (r : Role). IsNewRole s k r) c.loop-number.roles.items c.push_reserved.new.self.items c.cast.result new.items inv.4
          (subst (λ (k : ℕ). IsNewRole s k c.cast.result) (sym inv.2) role),
    )

pub returns-clause-ender : goal.returns-clause-ender
returns-clause-ender c =
    let inv = c.loop-number.invariant in
    let s = c.args.shared.now in
    let rest = c.pop-2.new.self.items in
    let p = c.in-Some-pop.passes in
    let is = c.in-Some-pop.ensures.items in
    let less : length c.loop-number.all.items ≡ length rest + 1 = ap length is ∙ length-append rest (p ∷ []) in
    let last : c.loop-number.number ≡ s.layout.workers + 2 = omega (arith, c.loop-number.auto.number-end, c.loop-number-test.false) in
    subst (λ (q : Passes). IsNew s (s.layout.workers + 2) q) (sym c.recycler.ensures.passes)
    (of_last (λ (k : ℕ) (q : Passes). (role : ℕ) → k + role + 1 ≡ s.layout.workers + 3 → IsNew s role q) c.loop-number.all.items rest p is inv.1
    (s.layout.workers + 2) (omega (arith, less, inv.0, last)))
