use Rattle.std.proofs.Common.{sym, subst, ap, ◌∙◌, ◌-◌, ◌≡◌, length, arith}
use Rattle.slot_order.specs.Order.{AreSorted, IsGap}
use Rattle.slot_order.specs.Rows.{IsMissingIn}
use Rattle.slot_order.proofs.Rows.{at_read, sorted_items, missing_behind}
use Rattle.slot_order.proofs.chunks.locate_new.Goals as goal

pub is_behind-requires : goal.is_behind-requires
is_behind-requires g c =
    let e = at_read c.args.chunks.now (length c.args.chunks.now - 1) c.index-chunks-last.result c.index-chunks-last.is (omega (arith, c.requires.some)) in
    subst (AreSorted g.K.Ord.cmp) (e ∙ sym c.deref.ensures.value) (sorted_items g.met.K.Ord.total c.args.chunks.now (length c.args.chunks.now - 1) c.requires.sorted)

pub returns-then-is_behind-clause-absent : goal.returns-then-is_behind-clause-absent
returns-then-is_behind-clause-absent g c =
    let gap = subst (λ es. IsGap g.K.Ord.cmp es c.args.key (length es)) c.deref.ensures.value (c.is_behind.ensures c.if-is_behind.true) in
    let is_len : length c.index-chunks-last.result.items ≡ c.len.result = sym (ap (length {A = _}) c.deref.ensures.value) ∙ c.deref.ensures.len ∙ sym c.len.ensures in
    subst (IsMissingIn g.K.Ord.cmp c.args.chunks.now c.args.key (length c.args.chunks.now - 1)) is_len
    (missing_behind g.met.K.Ord.total c.args.chunks.now c.index-chunks-last.result c.args.key c.requires.some c.index-chunks-last.is c.requires.chunks c.requires.sorted gap)
