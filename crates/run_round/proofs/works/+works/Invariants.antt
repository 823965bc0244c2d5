use Rattle.std.proofs.Common.{◌+◌, ◌*◌, length}
use Rattle.run_round.proofs.works.+works.Given as goal

abbrev pub decreases-work_beside : goal.decreases-work_beside
decreases-work_beside g l = 3 * length l.others.now + 2

abbrev pub decreases-start_one : goal.decreases-start_one
decreases-start_one g l = 3 * length l.rest.now + 4

abbrev pub decreases-start_one-back : goal.decreases-start_one-back
decreases-start_one-back g l = 3 * length l.rest.now + 3
