-- Over all roles: no more objects are asked for than packets stand in the capture, and no more nodes than TCP segments with payload. What the
-- workers ask for they settle, in the bucket of the frame, and all buckets together answer each packet once.
use Rattle.std.proofs.Common.{◌≡◌, ℕ, ◌+◌, ◌-◌, ◌<◌, ◌≤◌, [], length, refl, arith}
use Rattle.std.specs.Prelude.{sum_by}
use Rattle.std.proofs.lemmas.List.Sums.{length-filter}
use Rattle.bucket_laws.specs.Counts.{times}
use Rattle.quiet_limits.proofs.Asking.{worker_asks}
use Rattle.quiet_limits.proofs.Measures.{asked_by, asks, needed_by, needs, settled_by, settles, wanted_by, wants}
use Rattle.quiet_limits.proofs.Answered.{any_packet, any_payload, needed_few, settled_few}
use Rattle.quiet_limits.proofs.Others.{AskNothing, ender_asks, manager_asks, queue_asks}
use Rattle.quiet_limits.specs.Payloads.{tcp_payloads}
use Rattle.run_counts.proofs.Adding.{sum_over}
use Rattle.run_counts.proofs.Naming.{all_named, weight_of}
use Rattle.run_counts.proofs.Whole.{answers_are_packets, ones}
use Rattle.run_laws.proofs.Parts.{entries_sum, met, pool_sum, segment_sum}
use Rattle.run_laws.proofs.Sums.{sum_same}
use Rattle.run_laws.proofs.Uses.{sum_le}
use Rattle.run_laws.proofs.Using.{sum_roles}
use Rattle.run_laws.specs.Counts.{sum_below, tally}
use Rattle.run_laws.specs.Measures.{total}
use Rattle.run_laws.specs.Setting.{IsSetup}
use Rattle.run_rules.specs.Acts.{Act, AreMet}
use Rattle.run_rules.specs.Histories.{Histories, bucket_at}
use Rattle.run_rules.specs.Lawful.{AreScripted, left_over, waited}
use Rattle.run_rules.specs.Setup.{Setup, ender, fixed_at, manager, recycler, roles, rounds}
use Rattle.suri_base.specs.Capture.{has_segment, packets_in}
use Rattle.suri_base.specs.declared.entry.BucketNote.{BucketNote}
use Rattle.suri_base.specs.declared.facts.Facts.{Facts}

module _ (w : Setup) (d : IsSetup w) (t : Histories) (l : AreScripted w t) where
  met_all : (role : ℕ) → role < roles w → AreMet w t role (l.acts role)
  met_all r h = met w t r (l.acts r) (l.own r h)

  -- the roles

  abbrev over_roles : (Act → ℕ) → ℕ
  over_roles m = sum_below (roles w) (λ r. total m (l.acts r))

  manager_own : AskNothing (l.acts (manager w))
  manager_own = manager_asks w (l.acts (manager w)) (l.hands (manager w)) l.manage

  recycler_own : AskNothing (l.acts (recycler w))
  recycler_own = queue_asks w (waited (manager w + 1) l.hands (rounds w - 1)) (l.acts (recycler w)) [] l.recycle

  ender_own : AskNothing (l.acts (ender w))
  ender_own = ender_asks w (record { queue = left_over w l.hands; drained = 0 }) (l.acts (ender w)) (record { queue = []; drained = w.layout.rows }) l.drain

  all_settled : over_roles asked_by ≤ over_roles settled_by
  all_settled =
      let x = sum_roles w.layout.workers (λ r. total asked_by (l.acts r)) in
      let y = sum_roles w.layout.workers (λ r. total settled_by (l.acts r)) in
      let z = sum_same w.layout.workers (λ r. total asked_by (l.acts r)) (λ r. total settled_by (l.acts r)) (λ r h. (worker_asks w r (l.acts r) (l.hands r) (l.work r h)).0) in
      omega (arith, x, y, z, manager_own.0, recycler_own.0, ender_own.0)

  all_needed : over_roles wanted_by ≤ over_roles needed_by
  all_needed =
      let x = sum_roles w.layout.workers (λ r. total wanted_by (l.acts r)) in
      let y = sum_roles w.layout.workers (λ r. total needed_by (l.acts r)) in
      let z = sum_same w.layout.workers (λ r. total wanted_by (l.acts r)) (λ r. total needed_by (l.acts r)) (λ r h. (worker_asks w r (l.acts r) (l.hands r) (l.work r h)).1) in
      omega (arith, x, y, z, manager_own.1, recycler_own.1, ender_own.1)

  -- the buckets

  module _ (m : Act → ℕ) (k : BucketNote → ℕ) (g : Facts → ℕ) where
    -- what the entries of all buckets count for, where in each of them that is no more than what its answers weigh
    few_packets : ((b : ℕ) → b < length t.buckets → times (λ h n. k n) (bucket_at b t.buckets) ≤ sum_over (weight_of g w.capture) (all_named (bucket_at b t.buckets)))
        → sum_below (length t.buckets) (λ b. times (λ h n. k n) (bucket_at b t.buckets)) ≡ over_roles m → over_roles m ≤ sum_by g (packets_in w.capture.seen)
    few_packets few is =
        let each = sum_le (length t.buckets) (λ b. times (λ h n. k n) (bucket_at b t.buckets)) (λ b. sum_over (weight_of g w.capture) (all_named (bucket_at b t.buckets))) few in
        omega (arith, is, each, answers_are_packets w d t l g)

  settled_packets : over_roles settled_by ≤ sum_by any_packet (packets_in w.capture.seen)
  settled_packets = few_packets settled_by settles any_packet (λ b h. settled_few (fixed_at w b) (bucket_at b t.buckets) (l.legal.buckets b h))
      (entries_sum w t l.acts l.legal.bucket_roles l.legal.buckets met_all l.legal.pool_roles settled_by (λ b past n. settles n) (λ n i. refl) (λ n. refl) (λ b past n h. refl))

  needed_packets : over_roles needed_by ≤ sum_by any_payload (packets_in w.capture.seen)
  needed_packets = few_packets needed_by needs any_payload (λ b h. needed_few (fixed_at w b) (bucket_at b t.buckets) (l.legal.buckets b h))
      (entries_sum w t l.acts l.legal.bucket_roles l.legal.buckets met_all l.legal.pool_roles needed_by (λ b past n. needs n) (λ n i. refl) (λ n. refl) (λ b past n h. refl))

  -- the pools

  pub asked_few : tally asks t.pool ≤ length (packets_in w.capture.seen)
  asked_few =
      let all : tally asks t.pool ≡ over_roles asked_by =
      pool_sum w t l.acts l.legal.pool_roles l.legal.bucket_roles met_all asked_by asks (λ n i. refl) (λ n. refl) (λ b n left. refl) in
      let many : sum_by any_packet (packets_in w.capture.seen) ≡ length (packets_in w.capture.seen) = ones (packets_in w.capture.seen) in
      omega (arith, all, all_settled, settled_packets, many)

  pub wanted_few : tally wants t.segments ≤ length (tcp_payloads w.capture.seen)
  wanted_few =
      let all : tally wants t.segments ≡ over_roles wanted_by =
      segment_sum w t l.acts l.legal l.own wanted_by wants (λ n. refl) (λ n i. refl) (λ b n left. refl) in
      let many : length (tcp_payloads w.capture.seen) ≡ sum_by any_payload (packets_in w.capture.seen) = length-filter has_segment (packets_in w.capture.seen) in
      omega (arith, all, all_needed, needed_packets, many)
