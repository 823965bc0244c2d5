-- After the last round the end role may begin: all workers have ended, so every packet was closed; what waits is the hands of the last
-- round, item by item, and there are few of them; and the role itself has done nothing yet.
use Rattle.std.proofs.Common.{◌≡◌, ℕ, ◌<◌, ◌≤◌, true, List, [], length, refl, sym, ◌∙◌, ap, subst, arith}
use Rattle.std.proofs.lemmas.List.{length-map}
use Rattle.bucket_rules.specs.Own.{is_closed}
use Rattle.end_laws.proofs.Closed.{all_closed}
use Rattle.end_laws.proofs.Waiting.{few_wait}
use Rattle.end_laws.proofs.Whole.{some_of}
use Rattle.end_laws.specs.Ended.{TookOver}
use Rattle.flow_bucket.specs.Bucket.{fixed_of}
use Rattle.flow_bucket.specs.Stands.{BucketMay, BucketAnswers}
use Rattle.flow_object.specs.Ending.{EndedFlow}
use Rattle.flow_pool.specs.Counting.{FlowPoolRules}
use Rattle.flow_pool.specs.Pool.{setting_of}
use Rattle.flow_pool.specs.declared.calls.PoolSetting.{PoolSetting}
use Rattle.flow_pool.proofs.PoolHistories.{rules_kept}
use Rattle.hist_lock.specs.Locks.{made_with, seen_by}
use Rattle.lock_rows.specs.Rows.{IsGood}
use Rattle.lock_rows.proofs.Placed.{pairs_length}
use Rattle.recycler.specs.Draining.{AreDone, MayDrainAll}
use Rattle.role_meets.specs.declared.roles.Role.{Role}
use Rattle.role_steps.specs.Items.{IsItem, Items}
use Rattle.role_steps.specs.Roles.{Fits, number_of, seen, setup_of}
use Rattle.role_steps.specs.declared.roles.Passes.{Passes}
use Rattle.role_steps.specs.declared.roles.Recycler.{Recycler}
use Rattle.role_steps.specs.declared.roles.Shared.{Shared}
use Rattle.round_laws.specs.Between.{Between}
use Rattle.run_laws.proofs.Rounding.{worker_over}
use Rattle.run_laws.specs.RoundEnd.{next_queue}
use Rattle.run_laws.specs.Setting.{IsSetup}
use Rattle.run_rules.specs.Acts.{AreActs}
use Rattle.run_rules.specs.Histories.{Histories, bucket_at}
use Rattle.run_rules.specs.Lawful.{setting_for}
use Rattle.run_rules.specs.Setup.{Setup, ender, recycler, rounds}

module _ (s : Shared) (rs : List Role) (e f : Recycler) (b : Between s (rounds (setup_of s)) rs e) (o : TookOver s rs e f) where
  abbrev w : Setup
  w = setup_of s

  known : seen f.passes ≡ b.t
  known = ap (λ (p : Passes). seen p) o.passes ∙ b.idle.knows

  numbered : number_of f.passes ≡ ender w
  numbered = ap (λ (p : Passes). number_of p) o.passes ∙ b.idle.number

  -- as many histories as rows
  rows : length b.t.buckets ≡ s.layout.rows
  rows =
      let k = pairs_length (λ l q. IsGood fixed_of BucketMay BucketAnswers (number_of e.passes) l q) s.buckets.items e.passes.buckets.items b.idle.fits.buckets in
      ap (λ (u : Histories). length u.buckets) (sym b.idle.knows) ∙ (length-map e.passes.buckets.items (λ q. seen_by q) ∙ (k ∙ b.laid.shared.rows))

  -- every packet was closed
  done : AreDone s f
  done k c p low bears home =
      let own : (role : ℕ) → role < s.layout.workers → AreActs w b.t role (b.at.acts role)
      = λ role l. let real : role < length rs = omega (arith, l, b.count) in (b.rests role (some_of rs role real) real).own in
      let d : IsSetup w = record { capture = b.laid.shared.capture; layout = b.laid.layout } in
      subst (λ (u : Histories). is_closed c (bucket_at k u.buckets) ≡ true) (sym known)
      (all_closed w d b.t b.at.acts b.at.hands own (λ role l. worker_over w role (b.at.acts role) (b.at.hands role) (b.at.work role l)) k c p
      (subst (λ (n : ℕ). k < n) (sym rows) low) bears home)

  -- what waits
  queue : Items w b.t (next_queue w b.at.hands) f.waiting.items
  queue =
      let real : recycler w < length rs = omega (arith, b.count) in
      let any = some_of rs (recycler w) real in
      subst (λ (l : List EndedFlow). Items w b.t (next_queue w b.at.hands) l) (sym (o.waiting any)) (b.waiting any)

  rules : FlowPoolRules (setting_for w) b.t.pool
  rules =
      subst (λ (x : PoolSetting). FlowPoolRules x b.t.pool) b.laid.shared.pool
      (subst (λ (u : Histories). FlowPoolRules (setting_of (made_with s.pool)) u.pool) b.idle.knows
      (rules_kept (setting_of (made_with s.pool)) (seen_by e.passes.pool) b.idle.fits.pool.legal))

  few : length f.waiting.items ≤ 1048576
  few = omega (
    arith,
    few_wait w b.t (rounds w) b.laid.layout refl b.at b.puts rules,
    pairs_length (λ g x. IsItem w b.t g x) (next_queue w b.at.hands) f.waiting.items queue,
  )

  pub end_may : MayDrainAll s f
  end_may = record {
    shared = b.laid.shared;
    fits = subst (λ (p : Passes). Fits s p) (sym o.passes) b.idle.fits;
    number = numbered;
    rows = b.laid.layout.rows.1;
    steps = omega (arith, few);
    step = ap (λ (p : Passes). p.step) o.passes ∙ b.idle.step;
    own =
        subst (λ (r : ℕ). AreActs w (seen f.passes) r []) (sym numbered)
        (subst (λ (u : Histories). AreActs w u (ender w) []) (sym known) b.idle.own);
    done = done;
    queue = next_queue w b.at.hands;
    items = subst (λ (u : Histories). Items w u (next_queue w b.at.hands) f.waiting.items) (sym known) queue;
  }
