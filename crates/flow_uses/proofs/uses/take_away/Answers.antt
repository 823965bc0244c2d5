use Rattle.std.proofs.Common.{◌∙◌, sym, subst}
use Rattle.flow_uses.specs.Uses.{IsAt, IsGap}
use Rattle.flow_uses.proofs.Rising.{absent_in_gap, remove_is}
use Rattle.flow_uses.proofs.Sets.{length-without_absent}
use Rattle.flow_uses.proofs.uses.take_away.Goals as goal

pub returns-in-Ok-clause-items : goal.returns-in-Ok-clause-items
returns-in-Ok-clause-items c = c.remove.ensures.items ∙ remove_is _ _ _ c.requires (subst (λ l. IsAt l c.args.item c.in-Ok.at) c.deref.ensures.value c.in-Ok.ensures.found)

pub returns-in-Err-clause-was : goal.returns-in-Err-clause-was
returns-in-Err-clause-was c = sym (absent_in_gap _ _ _ (subst (λ l. IsGap l c.args.item c.in-Err.field-0) c.deref.ensures.value c.in-Err.ensures.absent))

pub returns-in-Err-clause-items : goal.returns-in-Err-clause-items
returns-in-Err-clause-items c = sym (length-without_absent _ _ (absent_in_gap _ _ _ (subst (λ l. IsGap l c.args.item c.in-Err.field-0) c.deref.ensures.value c.in-Err.ensures.absent)))
