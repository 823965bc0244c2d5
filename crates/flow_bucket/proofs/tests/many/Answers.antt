use Rattle.std.proofs.Common.{◌≡◌, ℕ, ◌+◌, ◌-◌, ◌<◌, List, ◌∷◌, sym, ◌∙◌, ap, subst, arith}
use Rattle.suri_base.specs.declared.frame.Frame.{Frame}
use Rattle.suri_base.specs.declared.seen.Seen.{Seen}
use Rattle.suri_base.specs.declared.seen.Seen.TheVariants.{Bears}
use Rattle.flow_bucket.proofs.Trying.{Built, frame, one_more, packet, time_of}
use Rattle.flow_bucket.proofs.tests.many.Goals as goal

pub loop-at-preserved : goal.loop-at-preserved
loop-at-preserved c =
    let at = c.loop-at.at in
    let next = c.loop-at.next in
    let frames = c.loop-at.frames.items in
    let clocks = c.loop-at.clocks.items in
    let seen = c.loop-at.seen.items in
    let number = 300 - at in
    let time = time_of number in
    let less : at < 300 = omega (arith, c.loop-at-test.true) in
    let f : c.put_first.new.items.items ≡ frame number time ∷ frames = c.in_ok-put_first.ensures ∙ ap (λ (x : Frame). x ∷ frames) c.frame.ensures in
    let k : c.put_first-in-loop-at.new.items.items ≡ time ∷ clocks = c.in_ok-put_first-2.ensures in
    let v : c.put_first-in-loop-at-2.new.items.items ≡ Bears (packet number time next) ∷ seen = c.in_ok-put_first-3.ensures ∙ ap (λ (x : Seen). x ∷ seen) c.datagram.ensures in
    subst (λ (l : List Frame). Built (at + 1) number l c.put_first-in-loop-at.new.items.items c.put_first-in-loop-at-2.new.items.items) (sym f)
    (subst (λ (l : List ℕ). Built (at + 1) number (frame number time ∷ frames) l c.put_first-in-loop-at-2.new.items.items) (sym k)
    (subst (λ (l : List Seen). Built (at + 1) number (frame number time ∷ frames) (time ∷ clocks) l) (sym v) (one_more at next frames clocks seen less c.loop-at.invariant)))
