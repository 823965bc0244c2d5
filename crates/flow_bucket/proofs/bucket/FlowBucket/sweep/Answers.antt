use Rattle.std.proofs.Common.{◌≡◌, ℕ, List, length, ◌∙◌, ap, arith}
use Rattle.suri_base.specs.declared.entry.Entry.{Entry}
use Rattle.suri_base.specs.declared.entry.BucketNote.{BucketNote}
use Rattle.suri_base.specs.declared.entry.BucketNote.TheVariants as note
use Rattle.flow_table.specs.Slots.{filled}
use Rattle.flow_bucket.specs.Bucket.{fixed_of, BucketStands}
use Rattle.flow_bucket.specs.Stands.{Did}
use Rattle.bucket_rules.proofs.Soundness.{sound}
use Rattle.flow_bucket.proofs.Ending.{few_gone, sweep_did, sweep_rule}
use Rattle.flow_bucket.proofs.Taking.{none_leaves}
use Rattle.flow_bucket.proofs.bucket.FlowBucket.sweep.Goals as goal

pub sweep-requires-clause-stay : goal.sweep-requires-clause-stay
sweep-requires-clause-stay c = none_leaves (fixed_of c.args.self.now) c.requires.may.0 c.args.self.now.flows.slots c.requires.may.1

did : (c : goal.After-len-count) (count : ℕ) (past : List (Entry BucketNote)) → BucketStands c.args.self.now past
    → Did (fixed_of c.args.self.now) past (note.Swept c.args.round c.args.emergency c.args.seen count) (filled c.sweep.new.self.slots) c.sort_by_run.new.ended.items
did c count past st =
    sweep_did (fixed_of c.args.self.now) past c.args.round c.clock-clock.result c.args.emergency c.args.seen count (filled c.args.self.now.flows.slots) (filled c.sweep.new.self.slots)
    c.clear.new.self.items c.sweep.new.gone.items c.sort_by_run.new.ended.items c.count-frames.ensures.fits st c.clock-clock.ensures c.clear.ensures.items
    c.sweep.ensures.flows c.sweep.ensures.gone c.sort_by_run.ensures.same c.sort_by_run.ensures.rising

pub overflow_cast-count : goal.overflow_cast-count
overflow_cast-count c =
    let few = few_gone (fixed_of c.args.self.now) c.requires.may.0 _ c.sort_by_run.new.ended.items c.count-frames.ensures.fits (sound (fixed_of c.args.self.now) c.requires.may.0 c.requires.may.1.legal) (omega (arith, c.count-frames.ensures.same, c.count-frames.ensures.few))
    (did c 0 c.requires.may.0 c.requires.may.1).gone in
    omega (arith, few, c.len-count.ensures, c.sort_by_run.new.ended.ok.0)

pub returns-clause-done : goal.returns-clause-done
returns-clause-done c = λ past st may.
    let d = did c c.len-count.result past st in
    let same : c.len-count.result ≡ length c.sort_by_run.new.ended.items = c.len-count.ensures ∙ c.sort_by_run.new.ended.ok.0 in
    record {
      rule = sweep_rule (fixed_of c.args.self.now) past c.args.role c.args.round c.args.emergency c.args.seen c.len-count.result (filled c.args.self.now.flows.slots) (filled c.sweep.new.self.slots) c.sort_by_run.new.ended.items st may d same;
      noted = ap (λ (n : ℕ). note.Swept c.args.round c.args.emergency c.args.seen n) same;
      did = d;
    }
