use Rattle.flow_bucket.specs.Bucket.{BucketStands}
use Rattle.flow_bucket.proofs.tests.close_each.Given as goal

abbrev pub invariant-loop-no : goal.invariant-loop-no
invariant-loop-no g l = BucketStands l.bucket l.past.items
