use denote.Param.Send.{sendable}
use Rattle.run_round.proofs.Sent.{role_sent, round_sync}
use Rattle.run_round.proofs.play.play_all.Goals as goal

pub all_work-requires-send-T : goal.all_work-requires-send-T
all_work-requires-send-T g c κs within = search (sendable, role_sent)

pub all_work-requires-sync-S : goal.all_work-requires-sync-S
all_work-requires-sync-S g c κs within = search (sendable, round_sync)
