-- Why frames are refused and runs evicted: the worker's acts before tell it, and each of them is an entry.
-- Before a refusal stand the answers of all buckets in turn, and before these a Full, at which the hand was empty; likewise before an eviction.
use Rattle.std.proofs.Common.{◌≡◌, ℕ, ◌<◌, List, ◌∷◌, length, refl, sym, ◌∙◌, ap, subst, arith}
use Rattle.bucket_laws.proofs.Steps.{legal_at}
use Rattle.bucket_laws.specs.Places.{At}
use Rattle.bucket_rules.proofs.Settling.{worker_within}
use Rattle.bucket_rules.proofs.Soundness.{sound}
use Rattle.flow_pool.specs.Counting.{flows_out}
use Rattle.run_laws.proofs.Acting.{at_ends, at_shorter, at_through, bucket_entry, cause_at, done, pool_entry, worker_caused}
use Rattle.run_laws.proofs.Places.{legal_pool_at}
use Rattle.run_laws.proofs.Trying.{tried_each, tried_from, turn_of}
use Rattle.run_laws.specs.Causes.{IsForcedFor, IsRefusedFor}
use Rattle.run_laws.specs.Setting.{IsSetup}
use Rattle.run_rules.specs.Acts.{Act, on_bucket, on_pool}
use Rattle.run_rules.specs.Histories.{Histories, bucket_at}
use Rattle.run_rules.specs.Lawful.{AreScripted, setting_for}
use Rattle.run_rules.specs.Setup.{Setup, bucket_by, bucket_for, fixed_at, roles}
use Rattle.suri_base.specs.History.{entry}
use Rattle.suri_base.specs.declared.entry.BucketNote.{BucketNote}
use Rattle.suri_base.specs.declared.entry.BucketNote.TheVariants.{AllInUse, Refused, Victim}
use Rattle.suri_base.specs.declared.entry.Entry.{Entry}
use Rattle.suri_base.specs.declared.entry.PoolNote.{PoolNote}
use Rattle.suri_base.specs.declared.entry.PoolNote.TheVariants.{Full}

module _ (w : Setup) (d : IsSetup w) (t : Histories) (l : AreScripted w t) where
  -- the pool was full
  pub record WasFull (role f : ℕ) (before : List Act) : Type 0 where
    pub past : List (Entry PoolNote)
    pub full : At (entry role (length before) (Full f w.layout.memcap w.layout.memcap)) past t.pool
    pub all_out : flows_out past ≡ w.layout.memcap

  was_full : (role f n limit i : ℕ) (before : List Act) → role < roles w → At (on_pool (Full f n limit) i) before (l.acts role) → WasFull role f before
  was_full role f n limit i before h a =
      let e = pool_entry w t l role i (Full f n limit) before h a in
      let r = legal_pool_at (setting_for w) (entry role (length before) (Full f n limit)) e.0 t.pool l.legal.pool e.1 in
      record {
        past = e.0;
        all_out = r.0;
        full = subst (λ (k : ℕ). At (entry role (length before) (Full f w.layout.memcap k)) e.0 t.pool) r.2 (subst (λ (k : ℕ). At (entry role (length before) (Full f k limit)) e.0 t.pool) r.1 e.1);
      }

  pub refused_for : (b : ℕ) → b < length t.buckets → (role step f : ℕ) (past : List (Entry BucketNote)) → At (entry role step (Refused f)) past (bucket_at b t.buckets)
      → IsRefusedFor w t (l.acts role) role step f
  refused_for b h role step f past a =
      let k = legal_at (fixed_at w b) (entry role step (Refused f)) past (bucket_at b t.buckets) (l.legal.buckets b h) a in
      let own = ((sound (fixed_at w b) past k.1).waits role f k.0).own in
      let home : bucket_for w f ≡ b = ap (bucket_by w.layout.rows) own.bears ∙ own.bucket in
      let real = worker_within (fixed_at w b) role f d.layout.workers.0 own in
      let r : role < roles w = omega (arith, real) in
      let z = done w t l b h role step (Refused f) past r a in
      let c = cause_at w role (on_bucket b (Refused f) z.left) z.before (l.acts role) (worker_caused w t l role real) z.act in
      let first = tried_from w f w.layout.rows z.before (on_pool (Full f c.out c.limit) c.place) c.before c.tried in
      let whole = at_through (on_pool (Full f c.out c.limit) c.place) (on_bucket b (Refused f) z.left) c.before z.before (l.acts role) first z.act in
      let full = was_full role f c.out c.limit c.place c.before r whole in
      record {
        full_step = length c.before;
        past = full.past;
        full = full.full;
        all_out = full.all_out;
        before = c.before;
        so_far = refl;
        stand = c.stand;
        stood = c.stood;
        empty = c.empty;
        began = at_ends (on_pool (Full f c.out c.limit) c.place) c.before (l.acts role) whole;
        in_use = λ e y.
            let j = turn_of w.layout.rows (bucket_for w f) e (omega (arith, home, h, l.legal.rows)) y in
            let q = tried_each w f w.layout.rows z.before (on_pool (Full f c.out c.limit) c.place ∷ c.before) c.tried j.0 j.1 in
            let same : q.bucket ≡ e = q.turn ∙ sym j.2 in
            let at = at_through (on_bucket q.bucket (AllInUse f q.count) q.left) (on_bucket b (Refused f) z.left) q.before z.before (l.acts role) q.place z.act in
            let at' = subst (λ (x : ℕ). At (on_bucket x (AllInUse f q.count) q.left) q.before (l.acts role)) same at in
            let u = bucket_entry w t l role e (AllInUse f q.count) q.left q.before r (subst (λ (x : ℕ). e < x) (sym l.legal.rows) y) at' in
            record {
              at_step = length q.before;
              count = q.count;
              past = u.0;
              place = u.1;
              later = omega (arith, q.later);
              earlier = omega (arith, z.number, at_shorter (on_bucket q.bucket (AllInUse f q.count) q.left) q.before z.before q.place);
            };
      }

  pub forced_for : (b : ℕ) → b < length t.buckets → (role step f run : ℕ) (past : List (Entry BucketNote))
      → At (entry role step (Victim f run)) past (bucket_at b t.buckets) → IsForcedFor w t role step f
  forced_for b h role step f run past a =
      let k = legal_at (fixed_at w b) (entry role step (Victim f run)) past (bucket_at b t.buckets) (l.legal.buckets b h) a in
      let real = k.0.0.worker in
      let r : role < roles w = omega (arith, real) in
      let z = done w t l b h role step (Victim f run) past r a in
      let c = cause_at w role (on_bucket b (Victim f run) z.left) z.before (l.acts role) (worker_caused w t l role real) z.act in
      let first = tried_from w f c.0 z.before (on_pool (Full f c.1.out c.1.limit) c.1.place) c.1.before c.1.tried in
      let whole = at_through (on_pool (Full f c.1.out c.1.limit) c.1.place) (on_bucket b (Victim f run) z.left) c.1.before z.before (l.acts role) first z.act in
      let full = was_full role f c.1.out c.1.limit c.1.place c.1.before r whole in
      record {
        full_step = length c.1.before;
        past = full.past;
        full = full.full;
        all_out = full.all_out;
        earlier = omega
            (arith, z.number, at_shorter (on_pool (Full f c.1.out c.1.limit) c.1.place) c.1.before z.before first);
      }
