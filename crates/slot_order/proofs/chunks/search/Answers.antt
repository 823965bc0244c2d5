use Rattle.std.proofs.Common.{rules}
use Rattle.std.proofs.lemmas.List.Sorted.{answers_always}
use Rattle.slot_order.proofs.Sorted.{searched}
use Rattle.slot_order.proofs.chunks.search.Goals as goal

pub returns : goal.returns
returns g c =
    let facts = c.binary_search_by_key.ensures in
    let by_key = facts.position (λ pair. pair.0) (answers_always _ _ _ (λ f a r h called. search rules)) in
    searched g.met.K.Ord.total _ c.args.key _ c.requires facts.bound by_key
