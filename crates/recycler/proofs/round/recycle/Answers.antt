use Rattle.recycler.proofs.Serving.{may_serve, recycled}
use Rattle.recycler.proofs.round.recycle.Goals as goal

pub serve-requires-clause-objects : goal.serve-requires-clause-objects
serve-requires-clause-objects g c = may_serve c.args.shared.now c.args.recycler.now c.requires

pub returns-clause-recycled : goal.returns-clause-recycled
returns-clause-recycled g c = recycled c.args.shared.now c.args.recycler.now c.serve.new.recycler c.requires c.in_ok-serve.ensures
