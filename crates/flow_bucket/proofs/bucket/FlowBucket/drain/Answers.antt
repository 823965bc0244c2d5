use Rattle.std.proofs.Common.{◌≡◌, ℕ, List, length, ◌∙◌, ap, arith}
use Rattle.suri_base.specs.declared.entry.Entry.{Entry}
use Rattle.suri_base.specs.declared.entry.BucketNote.{BucketNote}
use Rattle.suri_base.specs.declared.entry.BucketNote.TheVariants as note
use Rattle.flow_table.specs.Slots.{filled}
use Rattle.flow_bucket.specs.Bucket.{fixed_of, BucketStands}
use Rattle.flow_bucket.specs.Stands.{Did}
use Rattle.bucket_rules.proofs.Soundness.{sound}
use Rattle.flow_bucket.proofs.Ending.{few_gone, drain_did, drain_rule}
use Rattle.flow_bucket.proofs.bucket.FlowBucket.drain.Goals as goal

did : (c : goal.After-len-count) (count : ℕ) (past : List (Entry BucketNote)) → BucketStands c.args.self.now past
    → Did (fixed_of c.args.self.now) past (note.Drained count) (filled c.drain.new.self.slots) c.sort_by_run.new.ended.items
did c count past st =
    drain_did (fixed_of c.args.self.now) past c.last_clock-clock.result count (filled c.args.self.now.flows.slots) (filled c.drain.new.self.slots)
    c.clear.new.self.items c.drain.new.gone.items c.sort_by_run.new.ended.items st c.last_clock-clock.ensures.greatest c.clear.ensures.items
    c.drain.ensures.flows c.drain.ensures.gone c.sort_by_run.ensures.same c.sort_by_run.ensures.rising

pub overflow_cast-count : goal.overflow_cast-count
overflow_cast-count c =
    let few = few_gone (fixed_of c.args.self.now) c.requires.may.0 _ c.sort_by_run.new.ended.items c.count-frames.ensures.fits (sound (fixed_of c.args.self.now) c.requires.may.0 c.requires.may.1.legal) (omega (arith, c.count-frames.ensures.same, c.count-frames.ensures.few))
    (did c 0 c.requires.may.0 c.requires.may.1).gone in
    omega (arith, few, c.len-count.ensures, c.sort_by_run.new.ended.ok.0)

pub returns-clause-done : goal.returns-clause-done
returns-clause-done c = λ past st may.
    let d = did c c.len-count.result past st in
    let same : c.len-count.result ≡ length c.sort_by_run.new.ended.items = c.len-count.ensures ∙ c.sort_by_run.new.ended.ok.0 in
    record {
      rule = drain_rule (fixed_of c.args.self.now) past c.args.role c.len-count.result (filled c.args.self.now.flows.slots) (filled c.drain.new.self.slots) c.sort_by_run.new.ended.items st may d same;
      noted = ap (λ (n : ℕ). note.Drained n) same;
      did = d;
    }
