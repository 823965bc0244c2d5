-- The answers of a bucket that begin a run or refuse a frame are no more than the frames that it answers, and those whose stream needs a node
-- no more than the TCP segments with payload among them.
use Rattle.std.proofs.Common.{◌≡◌, ℕ, ◌+◌, ◌≤◌, List, [], ◌∷◌, Option, Some, sym, ap, subst, arith}
use Rattle.bucket_laws.specs.Counts.{one_if, times}
use Rattle.bucket_rules.proofs.Soundness.{sound}
use Rattle.bucket_rules.specs.Own.{is_needing}
use Rattle.bucket_rules.specs.Packets.{bearing}
use Rattle.bucket_rules.specs.Row.{offer_of as offer_in, row}
use Rattle.bucket_rules.specs.Rule.{IsLegal, Rule}
use Rattle.bucket_rules.specs.declared.fixed.Fixed.{Fixed}
use Rattle.quiet_limits.proofs.Measures.{needs, settles}
use Rattle.quiet_limits.proofs.Needing.{offer_few}
use Rattle.run_counts.proofs.Adding.{sum_over}
use Rattle.run_counts.proofs.Naming.{all_named, named, weight_at, weight_of}
use Rattle.suri_base.specs.Capture.{has_segment}
use Rattle.suri_base.specs.declared.entry.BucketNote.TheVariants.{AllInUse, Closed, Drained, Found, Idle, Made, Missing, Refused, Stopped, Stored, Swept, Victim}
use Rattle.suri_base.specs.declared.entry.BucketNote.{BucketNote}
use Rattle.suri_base.specs.declared.entry.Entry.{Entry}
use Rattle.suri_base.specs.declared.facts.Facts.{Facts}
use Rattle.suri_base.specs.declared.stream.Offer.{Offer}

-- a packet, and a TCP segment with payload
abbrev pub any_packet : Facts → ℕ
any_packet f = 1

abbrev pub any_payload : Facts → ℕ
any_payload f = one_if (has_segment f)

module _ (s : Fixed) where
  own_weight : (g : Facts → ℕ) (f : ℕ) (t : Facts) → bearing s.capture f ≡ Some t → weight_of g s.capture f ≡ g t
  own_weight g f t e = ap (λ (o : Option Facts). weight_at g o) e

  pub settled_few : (past : List (Entry BucketNote)) → IsLegal s past → times (λ h n. settles n) past ≤ sum_over (weight_of any_packet s.capture) (all_named past)
  settled_few [] l = omega arith
  settled_few (e ∷ past) l = by e.note l.0 (settled_few past l.1)
    where
      by : (n : BucketNote) → Rule s past e.role n → times (λ h n. settles n) past ≤ sum_over (weight_of any_packet s.capture) (all_named past)
          → settles n + times (λ h n. settles n) past ≤ sum_over (weight_of any_packet s.capture) (named n (all_named past))
      by (Found f emergency seen run said) rule h = omega (arith, h)
      by (Made f said) rule h = let own = ((sound s past l.1).waits e.role f rule.0).own in omega (arith, h, own_weight any_packet f own.packet own.bears)
      by (Refused f) rule h = let own = ((sound s past l.1).waits e.role f rule).own in omega (arith, h, own_weight any_packet f own.packet own.bears)
      by (Missing f emergency seen ended) rule h = omega (arith, h)
      by (Stored f) rule h = omega (arith, h)
      by (Stopped f) rule h = omega (arith, h)
      by (Closed f app run freed ended) rule h = omega (arith, h)
      by (Idle f app) rule h = omega (arith, h)
      by (Victim f run) rule h = omega (arith, h)
      by (AllInUse f count) rule h = omega (arith, h)
      by (Swept round emergency seen count) rule h = omega (arith, h)
      by (Drained count) rule h = omega (arith, h)

  said_few : (t : Facts) (said o : Offer) → said ≡ o → one_if (is_needing o) ≤ any_payload t → one_if (is_needing said) ≤ any_payload t
  said_few t said o e h = subst (λ (x : Offer). one_if (is_needing x) ≤ any_payload t) (sym e) h

  pub needed_few : (past : List (Entry BucketNote)) → IsLegal s past → times (λ h n. needs n) past ≤ sum_over (weight_of any_payload s.capture) (all_named past)
  needed_few [] l = omega arith
  needed_few (e ∷ past) l = by e.note l.0 (needed_few past l.1)
    where
      by : (n : BucketNote) → Rule s past e.role n → times (λ h n. needs n) past ≤ sum_over (weight_of any_payload s.capture) (all_named past)
          → needs n + times (λ h n. needs n) past ≤ sum_over (weight_of any_payload s.capture) (named n (all_named past))
      by (Found f emergency seen run said) rule h =
          let own = rule.0.own in
          let w = row s run past in
          let here = said_few own.packet said (offer_in s w own.packet) rule.2 (offer_few s.layout.depth s.capture.bytes w.stops w.members own.packet) in
          omega (arith, h, here, own_weight any_payload f own.packet own.bears)
      by (Made f said) rule h =
          let own = ((sound s past l.1).waits e.role f rule.0).own in
          let w = row s f past in
          let here = said_few own.packet said (offer_in s w own.packet) (rule.1 own.packet own.bears) (offer_few s.layout.depth s.capture.bytes w.stops w.members own.packet) in
          omega (arith, h, here, own_weight any_payload f own.packet own.bears)
      by (Refused f) rule h = omega (arith, h)
      by (Missing f emergency seen ended) rule h = omega (arith, h)
      by (Stored f) rule h = omega (arith, h)
      by (Stopped f) rule h = omega (arith, h)
      by (Closed f app run freed ended) rule h = omega (arith, h)
      by (Idle f app) rule h = omega (arith, h)
      by (Victim f run) rule h = omega (arith, h)
      by (AllInUse f count) rule h = omega (arith, h)
      by (Swept round emergency seen count) rule h = omega (arith, h)
      by (Drained count) rule h = omega (arith, h)
