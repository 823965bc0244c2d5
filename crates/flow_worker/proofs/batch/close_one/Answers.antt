use Rattle.flow_worker.proofs.Batching.{closing_bears}
use Rattle.flow_worker.proofs.batch.close_one.Goals as goal

pub home_of-home-requires-clause-packet : goal.home_of-home-requires-clause-packet
home_of-home-requires-clause-packet g c = closing_bears c.args.shared.now c.requires.shared c.args.worker.now c.args.no c.requires.stands

pub verdict_on-app-requires-clause-packet : goal.verdict_on-app-requires-clause-packet
verdict_on-app-requires-clause-packet g c = closing_bears c.args.shared.now c.requires.shared c.args.worker.now c.args.no c.requires.stands
