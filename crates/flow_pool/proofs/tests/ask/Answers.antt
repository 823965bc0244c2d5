use Rattle.std.proofs.Common.{◌∷◌, sym, subst}
use Rattle.suri_base.specs.History.{entry}
use Rattle.flow_pool.specs.Counting.{MayCall}
use Rattle.flow_pool.proofs.tests.ask.Goals as goal

pub returns-clause-past : goal.returns-clause-past
returns-clause-past c =
    let past = c.requires.past.0 in
    let stood = c.reserve.ensures.stands past c.requires.past.1 in
    let may = subst (λ s. MayCall s c.args.call) (sym c.reserve.ensures.fixed) c.requires.may in
    (entry 0 0 c.step.result.1 ∷ past, c.step.ensures.stands past stood may 0)
