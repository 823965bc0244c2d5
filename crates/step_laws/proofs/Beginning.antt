-- Where nothing is done yet every role stands at the start of its script, nothing came to the recycler, and the end role has not begun.
use Rattle.std.proofs.Common.{◌≡◌, ℕ, ◌<◌, List, [], inl, refl, sym, ap, subst, arith, All}
use Rattle.std.proofs.lemmas.List.Elements.{All-nil}
use Rattle.bucket_rules.specs.Rule.{IsLegal}
use Rattle.flow_pool.specs.Counting.{FlowPoolRules}
use Rattle.run_rules.specs.Acts.{AreActs, bucket_acts, pool_acts, segment_acts}
use Rattle.run_rules.specs.Histories.{Histories, bucket_at}
use Rattle.run_rules.specs.Lawful.{AreLegal, PutsAreDue, setting_for}
use Rattle.run_rules.specs.Manager.{new_manager}
use Rattle.run_rules.specs.Setup.{Setup, fixed_at, roles, work_of}
use Rattle.run_rules.specs.SoFar.{AreLawfulSoFar, hands_by, to_drain}
use Rattle.run_rules.specs.Worker.{Stand, fresh}
use Rattle.segment_pool.specs.Counting.{KeepsRules}
use Rattle.step_laws.specs.Beginning.{IsUnbegun}
use Rattle.suri_base.specs.History.{entries_of}
use Rattle.suri_base.specs.declared.entry.BucketNote.{BucketNote}
use Rattle.suri_base.specs.declared.entry.Entry.{Entry}
use Rattle.suri_base.specs.declared.entry.PoolNote.{PoolNote}
use Rattle.suri_base.specs.declared.entry.SegNote.{SegNote}

no_roles : {N : Type 0} (n : ℕ) (h : List (Entry N)) → h ≡ [] → All (λ (e : Entry N). e.role < n) h
no_roles {N} n h e = subst (λ (x : List (Entry N)). All (λ (d : Entry N). d.role < n) x) (sym e) (All-nil (λ (d : Entry N). d.role < n))

module _ (w : Setup) (t : Histories) (u : IsUnbegun w t) where
  all_legal : AreLegal w t
  all_legal = record {
    rows = u.rows;
    pool = subst (λ (x : List (Entry PoolNote)). FlowPoolRules (setting_for w) x) (sym u.pool) tt;
    segments = subst (λ (x : List (Entry SegNote)). KeepsRules w.layout.segments x) (sym u.segments) tt;
    buckets = λ b h. subst (λ (x : List (Entry BucketNote)). IsLegal (fixed_at w b) x) (sym (u.buckets b h)) tt;
    pool_roles = no_roles (roles w) t.pool u.pool;
    segment_roles = no_roles (roles w) t.segments u.segments;
    bucket_roles = λ b h. no_roles (roles w) (bucket_at b t.buckets) (u.buckets b h);
  }

  no_acts : (role : ℕ) → AreActs w t role []
  no_acts role = record {
    pool = ap (λ (x : List (Entry PoolNote)). entries_of role (pool_acts x)) u.pool;
    segments = ap (λ (x : List (Entry SegNote)). entries_of role (segment_acts x)) u.segments;
    buckets = λ b h. ap (λ (x : List (Entry BucketNote)). entries_of role (bucket_acts w b x)) (u.buckets b h);
    within = refl;
  }

  abbrev first_stands : ℕ → Stand
  first_stands role = fresh (work_of w role)

  pub first_lawful : AreLawfulSoFar w t
  first_lawful = record {
    puts = subst (λ (x : List (Entry PoolNote)). PutsAreDue x) (sym u.pool) tt;
    scripted = record {
      legal = all_legal;
      acts = λ role. [];
      own = λ role h. no_acts role;
      stands = first_stands;
      work = λ role h. refl;
      sweep = new_manager;
      manage = refl;
      served = 0;
      not_last = omega arith;
      were_ended = λ role h. omega arith;
      waiting = [];
      recycle = refl;
      ending = to_drain w (hands_by w first_stands new_manager);
      drain = refl;
      last = inl refl;
    };
  }
