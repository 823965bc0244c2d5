use Rattle.std.proofs.Common.{subst, sym, ap, ◌∙◌}
use Rattle.flow_uses.specs.Uses.{has, AreRising, IsGap}
use Rattle.flow_uses.proofs.Rising.{has_insert, put_in, rising_insert}
use Rattle.flow_uses.proofs.uses.put.Goals as goal

pub returns-in-Err-clause-rising : goal.returns-in-Err-clause-rising
returns-in-Err-clause-rising c = subst AreRising (sym (put_in _ _ _ _ c.insert.ensures.items (c.insert.ensures.succeeds c.requires.room)))
    (rising_insert _ _ _ (subst (λ l. IsGap l c.args.item c.in-Err.at) c.deref.ensures.value c.in-Err.ensures.absent) c.requires.rising)

pub returns-in-Err-clause-numbers : goal.returns-in-Err-clause-numbers
returns-in-Err-clause-numbers c = λ u. ap (λ l. has l u) (put_in _ _ _ _ c.insert.ensures.items (c.insert.ensures.succeeds c.requires.room)) ∙ has_insert _ _ c.in-Err.at u
