use Rattle.std.proofs.Common.{List, sym, subst}
use Rattle.suri_base.specs.declared.entry.Entry.{Entry}
use Rattle.suri_base.specs.declared.entry.BucketNote.{BucketNote}
use Rattle.bucket_rules.specs.declared.fixed.Fixed.{Fixed}
use Rattle.flow_bucket.specs.Bucket.{BucketStands}
use Rattle.flow_bucket.specs.Stands.{BucketMay}
use Rattle.flow_bucket.proofs.tests.ask.Goals as goal

pub returns-in-Ok : goal.returns-in-Ok
returns-in-Ok c =
    let past = c.args.past.now.items in
    let may = subst (λ (s : Fixed). BucketMay s c.args.role past c.args.call) (sym c.reserve.ensures.fixed) c.requires.may in
    let now = c.step-reply.ensures.stands past (c.reserve.ensures.stands past c.requires.stands) may 0 in
    record { stands = subst (λ (l : List (Entry BucketNote)). BucketStands c.step-reply.new.self l) (sym c.in-Ok.ensures.items) now }
