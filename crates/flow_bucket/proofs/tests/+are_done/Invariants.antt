use Rattle.flow_bucket.proofs.tests.+are_done.Given as goal

abbrev pub decreases-are_done : goal.decreases-are_done
decreases-are_done g l = l.frames
