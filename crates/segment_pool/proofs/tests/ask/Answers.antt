use Rattle.std.proofs.Common.{◌∷◌, sym, subst}
use Rattle.suri_base.specs.History.{entry}
use Rattle.segment_pool.specs.Pool.{CountsFor}
use Rattle.segment_pool.proofs.tests.ask.Goals as goal

pub returns-clause-past : goal.returns-clause-past
returns-clause-past c =
    let past = c.requires.past.0 in
    let stood = subst (λ p. CountsFor p past) (sym c.reserve.ensures.same) c.requires.past.1 in
    (entry 0 0 c.step.result.1 ∷ past, c.step.ensures.stands past stood c.requires.may 0)
