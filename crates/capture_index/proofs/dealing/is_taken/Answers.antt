use Rattle.std.proofs.Common.{◌≡◌, Some, sym, ◌∙◌}
use Rattle.suri_base.proofs.Captures.{facts_at}
use Rattle.suri_base.specs.declared.seen.Seen.TheVariants.{Bears}
use Rattle.capture_index.proofs.Batching.{taken_bearing, taken_counted}
use Rattle.capture_index.proofs.dealing.is_taken.Goals as goal

pub returns-in-None : goal.returns-in-None
returns-in-None c s found =
    let has = c.counter.ensures.bears c.in-None.is in
    let same : Some s ≡ Some (Bears has.0) = sym found ∙ has.1.1 in
    let bears : s ≡ Bears has.0 = cc in
    taken_bearing c.args.layout.now c.args.worker c.args.no c.hash.result s has.0 bears (facts_at c.args.capture.now c.requires.fits c.args.no has.0 has.1).0 (c.hash.ensures has.0 has.1)

pub returns-in-Some : goal.returns-in-Some
returns-in-Some c s found = taken_counted c.args.layout.now c.args.worker s _ (sym c.in-Some.is ∙ c.counter.ensures.value s found)
