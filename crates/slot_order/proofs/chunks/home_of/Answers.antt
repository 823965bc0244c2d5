use Rattle.std.proofs.Common.{arith, ◌∙◌, sym, ap, subst, ◌≡◌, ◌<◌, ◌≤◌, ◌-◌, ℕ, suc, true}
use Rattle.slot_order.specs.Rows.{begins_above, is_above}
use Rattle.slot_order.proofs.Rows.{above_at, above_end}
use Rattle.slot_order.proofs.chunks.home_of.Goals as goal

pub loop-high-init : goal.loop-high-init
loop-high-init g c = record { some = c.requires.some; within = omega arith; from = λ l. absurd (omega (arith, l)); to = above_end g.K.Ord.cmp c.args.chunks.now c.args.key }

pub overflow_sub-high : goal.overflow_sub-high
overflow_sub-high g c = omega (arith, c.loop-high.invariant.some)

pub bounds-chunks-middle : goal.bounds-chunks-middle
bounds-chunks-middle g c = omega (arith, c.loop-high-test.true, c.loop-high.invariant.within)

pub is_first_above-requires : goal.is_first_above-requires
is_first_above-requires g c =
    let m = c.requires.chunks _ c.index-chunks-middle.result (omega (arith, c.loop-high-test.true, c.loop-high.invariant.within)) in
    rw (c.deref.ensures.value, c.index-chunks-middle.is) m.some

pub loop-high-smaller-then-is_first_above : goal.loop-high-smaller-then-is_first_above
loop-high-smaller-then-is_first_above g c = omega (arith, c.loop-high-test.true)

pub loop-high-preserved-then-is_first_above : goal.loop-high-preserved-then-is_first_above
loop-high-preserved-then-is_first_above g c = record {
  some = omega (arith, c.loop-high-test.true);
  within = omega (arith, c.loop-high-test.true, c.loop-high.invariant.within);
  from = c.loop-high.invariant.from;
  to = above_at g.K.Ord.cmp c.args.chunks.now _ c.index-chunks-middle.result c.args.key (omega (arith, c.loop-high-test.true, c.loop-high.invariant.within))
      ∙ ap (λ v. begins_above g.K.Ord.cmp c.args.key v.items) (sym c.index-chunks-middle.is) ∙ ap (begins_above g.K.Ord.cmp c.args.key) (sym c.deref.ensures.value) ∙ sym c.is_first_above.ensures ∙ c.if-is_first_above.true;
}

pub loop-high-smaller : goal.loop-high-smaller
loop-high-smaller g c = omega (arith, c.loop-high-test.true)

pub loop-high-preserved : goal.loop-high-preserved
loop-high-preserved g c = record {
  some = omega (arith, c.loop-high-test.true);
  within = c.loop-high.invariant.within;
  from = λ l. above_at g.K.Ord.cmp c.args.chunks.now _ c.index-chunks-middle.result c.args.key (omega (arith, c.loop-high-test.true, c.loop-high.invariant.within))
      ∙ ap (λ v. begins_above g.K.Ord.cmp c.args.key v.items) (sym c.index-chunks-middle.is) ∙ ap (begins_above g.K.Ord.cmp c.args.key) (sym c.deref.ensures.value) ∙ sym c.is_first_above.ensures ∙ c.if-is_first_above.false;
  to = c.loop-high.invariant.to;
}

next : (low high : ℕ) → low < high → high - low ≤ 1 → high ≡ suc low
next low high l m = omega (arith, l, m)

pub returns : goal.returns
returns g c = record {
  within = omega (arith, c.loop-high.invariant.some, c.loop-high.invariant.within);
  from = c.loop-high.invariant.from;
  to = subst (λ (n : ℕ). is_above g.K.Ord.cmp c.args.key c.args.chunks.now n ≡ true) (next _ _ c.loop-high.invariant.some c.loop-high-test.false) c.loop-high.invariant.to;
}
