-- A test of the histories of a trail: those that pass it are lawful, and lawful ones pass it.
use Rattle.std.proofs.Common.{◌≡◌, ℕ, zero, suc, ◌+◌, ◌-◌, ◌==◌, ◌<◌, ◌≤◌, nat_lt, nat_le, Bool, true, false, cond, ◌&&◌, if◌then◌else◌, List, [], ◌∷◌, length, Option, Some, None, refl, sym, ◌∙◌, ap, subst, arith, eqb-true, eq-eqb}
use Rattle.std.specs.Prelude.{All}
use Rattle.std.specs.Option.{is_some}
use Rattle.std.proofs.lemmas.Bool.Decides.{nat_tests}
use Rattle.suri_base.specs.History.{entries_of}
use Rattle.suri_base.specs.Keys.{same_truth}
use Rattle.suri_base.specs.declared.entry.BucketNote.{BucketNote}
use Rattle.suri_base.specs.declared.entry.Entry.{Entry}
use Rattle.suri_base.specs.declared.entry.PoolNote.{PoolNote}
use Rattle.suri_base.specs.declared.entry.PoolNote.TheVariants as pool
use Rattle.suri_base.specs.declared.entry.SegNote.{SegNote}
use Rattle.suri_base.specs.declared.entry.SegNote.TheVariants as seg
use Rattle.emergency_mode.specs.Mode.{ends}
use Rattle.segment_pool.specs.Counting as segments
use Rattle.flow_pool.specs.Counting.{FlowPoolRules, StandsAt, flows_out, is_on, mode_of}
use Rattle.flow_pool.specs.declared.calls.PoolSetting.{PoolSetting}
use Rattle.bucket_rules.proofs.Soundness.{sound}
use Rattle.bucket_rules.proofs.Tested.{is_kept, kept, legal}
use Rattle.bucket_laws.specs.Leaving.{Gone}
use Rattle.run_rules.specs.Acts.{Act, AreActs, are_within, bucket_acts, part, pool_acts, segment_acts}
use Rattle.run_rules.specs.Ending.{Ending, ending_after}
use Rattle.run_rules.specs.Histories.{Histories, bucket_at}
use Rattle.run_rules.specs.Lawful.{AreLegal, AreScripted, AreLawful, IsDue, PutsAreDue, left_over, setting_for, waited}
use Rattle.run_rules.specs.Manager.{new_manager, swept_after, manager_ended}
use Rattle.run_rules.specs.Serving.{queue_after}
use Rattle.run_rules.specs.Setup.{Setup, fixed_at, manager, recycler, ender, roles, rounds, work_of}
use Rattle.run_rules.specs.Steps.{acts_of}
use Rattle.run_rules.specs.Worker.{fresh, stand_after, ended}
use Rattle.run_rules.proofs.Finding.{acts_found}
use Rattle.run_rules.proofs.Same.{both, and_both, one_truth, same_entries, one_entries, entries_self}
use Rattle.run_rules.proofs.SoFar.{waited_same, left_same}

-- numbers and buckets that all pass a test

abbrev pub all_below : ℕ → (ℕ → Bool) → Bool
all_below zero test = true
all_below (suc n) test = test n && all_below n test

abbrev all_from : ℕ → (ℕ → List (Entry BucketNote) → Bool) → List (List (Entry BucketNote)) → Bool
all_from k test [] = true
all_from k test (h ∷ hs) = test k h && all_from (k + 1) test hs

pub below_all : (n : ℕ) (test : ℕ → Bool) → all_below n test ≡ true → (k : ℕ) → k < n → test k ≡ true
below_all zero test h k l = absurd (omega (arith, l))
below_all (suc n) test h k l = let p = both (test n) (all_below n test) h in by (below_all n test p.1 k) (k == n) refl p.0
  where
    by : (k < n → test k ≡ true) → (b : Bool) → (k == n) ≡ b → test n ≡ true → test k ≡ true
    by before true e q = subst (λ (i : ℕ). test i ≡ true) (sym (eqb-true k n e)) q
    by before false e q = before (let no : k ≡ n → ⊥ = λ i. (let z : true ≡ false = sym (eq-eqb k n i) ∙ e in cc) in grind (arith, no, l))

pub all_of : (n : ℕ) (test : ℕ → Bool) → ((k : ℕ) → k < n → test k ≡ true) → all_below n test ≡ true
all_of zero test h = refl
all_of (suc n) test h = and_both (test n) (all_below n test) (h n (omega arith)) (all_of n test (λ k l. h k (omega (arith, l))))

from_all : (test : ℕ → List (Entry BucketNote) → Bool) (hs : List (List (Entry BucketNote))) (k : ℕ) → all_from k test hs ≡ true → (b : ℕ) → b < length hs → test (k + b) (bucket_at b hs) ≡ true
from_all test [] k h b l = absurd (omega (arith, l))
from_all test (x ∷ hs) k h zero l = let e : k ≡ k + 0 = omega arith in subst (λ (i : ℕ). test i x ≡ true) e (both (test k x) (all_from (k + 1) test hs) h).0
from_all test (x ∷ hs) k h (suc b) l =
    let e : k + 1 + b ≡ k + suc b = omega arith in
    subst (λ (i : ℕ). test i (bucket_at b hs) ≡ true) e (from_all test hs (k + 1) (both (test k x) (all_from (k + 1) test hs) h).1 b (omega (arith, l)))

all_buckets : (test : ℕ → List (Entry BucketNote) → Bool) (hs : List (List (Entry BucketNote))) (k : ℕ) → ((b : ℕ) → b < length hs → test (k + b) (bucket_at b hs) ≡ true) → all_from k test hs ≡ true
all_buckets test [] k h = refl
all_buckets test (x ∷ hs) k h =
    and_both (test k x) (all_from (k + 1) test hs) (let e : k + 0 ≡ k = omega arith in subst (λ (i : ℕ). test i x ≡ true) e (h 0 (omega arith)))
    (all_buckets test hs (k + 1) (λ b l. let e : k + suc b ≡ k + 1 + b = omega arith in subst (λ (i : ℕ). test i (bucket_at b hs) ≡ true) e (h (suc b) (omega (arith, l)))))

each_bucket : (test : ℕ → List (Entry BucketNote) → Bool) (hs : List (List (Entry BucketNote))) → all_from 0 test hs ≡ true → (b : ℕ) → b < length hs → test b (bucket_at b hs) ≡ true
each_bucket test hs h b l = let e : 0 + b ≡ b = omega arith in subst (λ (i : ℕ). test i (bucket_at b hs) ≡ true) e (from_all test hs 0 h b l)

every_bucket : (test : ℕ → List (Entry BucketNote) → Bool) (hs : List (List (Entry BucketNote))) → ((b : ℕ) → b < length hs → test b (bucket_at b hs) ≡ true) → all_from 0 test hs ≡ true
every_bucket test hs h = all_buckets test hs 0 (λ b l. let e : b ≡ 0 + b = omega arith in subst (λ (i : ℕ). test i (bucket_at b hs) ≡ true) e (h b l))

-- orders

pub lt_is : (m n : ℕ) → nat_lt m n ≡ true → m < n
lt_is m n h = grind (arith, nat_tests)

lt_of : (m n : ℕ) → m < n → nat_lt m n ≡ true
lt_of m n h = grind (arith, nat_tests)

pub le_is : (m n : ℕ) → nat_le m n ≡ true → m ≤ n
le_is m n h = grind (arith, nat_tests)

pub le_of : (m n : ℕ) → m ≤ n → nat_le m n ≡ true
le_of m n h = grind (arith, nat_tests)

truth_of : (a b : Bool) → a ≡ b → same_truth a b ≡ true
truth_of true b h = sym h
truth_of false true h = h
truth_of false false h = refl

-- the pool of objects

abbrev stands_at : PoolSetting → ℕ → Bool → PoolNote → Bool
stands_at s out on (pool.Took f) = nat_lt out s.memcap
stands_at s out on (pool.Full f n l) = (out == s.memcap) && ((n == s.memcap) && (l == s.memcap))
stands_at s out on (pool.Put run) = true
stands_at s out on (pool.Turn run f) = true
stands_at s out on (pool.Mode told) = same_truth told on
stands_at s out on (pool.Over round done) = same_truth done (ends (mode_of s on) out)

stands_so : (s : PoolSetting) (out : ℕ) (on : Bool) (n : PoolNote) → stands_at s out on n ≡ true → StandsAt s out on n
stands_so s out on (pool.Took f) h = lt_is out s.memcap h
stands_so s out on (pool.Full f n l) h =
    let k = both (out == s.memcap) ((n == s.memcap) && (l == s.memcap)) h in
    let m = both (n == s.memcap) (l == s.memcap) k.1 in
    (eqb-true out s.memcap k.0, eqb-true n s.memcap m.0, eqb-true l s.memcap m.1)
stands_so s out on (pool.Put run) h = tt
stands_so s out on (pool.Turn run f) h = tt
stands_so s out on (pool.Mode told) h = one_truth told on h
stands_so s out on (pool.Over round done) h = one_truth done (ends (mode_of s on) out) h

so_stands : (s : PoolSetting) (out : ℕ) (on : Bool) (n : PoolNote) → StandsAt s out on n → stands_at s out on n ≡ true
so_stands s out on (pool.Took f) h = lt_of out s.memcap h
so_stands s out on (pool.Full f n l) h =
    and_both (out == s.memcap) ((n == s.memcap) && (l == s.memcap)) (eq-eqb out s.memcap h.0)
    (and_both (n == s.memcap) (l == s.memcap) (eq-eqb n s.memcap h.1) (eq-eqb l s.memcap h.2))
so_stands s out on (pool.Put run) h = refl
so_stands s out on (pool.Turn run f) h = refl
so_stands s out on (pool.Mode told) h = truth_of told on h
so_stands s out on (pool.Over round done) h = truth_of done (ends (mode_of s on) out) h

abbrev keeps_pool : PoolSetting → List (Entry PoolNote) → Bool
keeps_pool s [] = true
keeps_pool s (e ∷ past) = stands_at s (flows_out past) (is_on past) e.note && keeps_pool s past

pool_so : (s : PoolSetting) (h : List (Entry PoolNote)) → keeps_pool s h ≡ true → FlowPoolRules s h
pool_so s [] h = tt
pool_so s (e ∷ past) h =
    let k = both (stands_at s (flows_out past) (is_on past) e.note) (keeps_pool s past) h in (stands_so s (flows_out past) (is_on past) e.note k.0, pool_so s past k.1)

so_pool : (s : PoolSetting) (h : List (Entry PoolNote)) → FlowPoolRules s h → keeps_pool s h ≡ true
so_pool s [] h = refl
so_pool s (e ∷ past) h =
    and_both (stands_at s (flows_out past) (is_on past) e.note) (keeps_pool s past) (so_stands s (flows_out past) (is_on past) e.note h.0) (so_pool s past h.1)

abbrev is_due : ℕ → PoolNote → Bool
is_due out (pool.Put run) = nat_le 1 out
is_due out _ = true

abbrev pub puts_due : List (Entry PoolNote) → Bool
puts_due [] = true
puts_due (e ∷ past) = is_due (flows_out past) e.note && puts_due past

due_so : (out : ℕ) (n : PoolNote) → is_due out n ≡ true → IsDue out n
due_so out (pool.Put run) h = le_is 1 out h
due_so out _ h = tt

so_due : (out : ℕ) (n : PoolNote) → IsDue out n → is_due out n ≡ true
so_due out (pool.Put run) h = le_of 1 out h
so_due out _ h = refl

pub puts_so : (h : List (Entry PoolNote)) → puts_due h ≡ true → PutsAreDue h
puts_so [] h = tt
puts_so (e ∷ past) h = let k = both (is_due (flows_out past) e.note) (puts_due past) h in (due_so (flows_out past) e.note k.0, puts_so past k.1)

pub so_puts : (h : List (Entry PoolNote)) → PutsAreDue h → puts_due h ≡ true
so_puts [] h = refl
so_puts (e ∷ past) h = and_both (is_due (flows_out past) e.note) (puts_due past) (so_due (flows_out past) e.note h.0) (so_puts past h.1)

-- the pool of nodes

abbrev node_stands : ℕ → ℕ → SegNote → Bool
node_stands limit out (seg.Took f) = nat_lt out limit
node_stands limit out (seg.Full f n l) = (out == limit) && ((n == limit) && (l == limit))
node_stands limit out (seg.Gave count) = true

node_so : (limit out : ℕ) (n : SegNote) → node_stands limit out n ≡ true → segments.StandsAt limit out n
node_so limit out (seg.Took f) h = lt_is out limit h
node_so limit out (seg.Full f n l) h =
    let k = both (out == limit) ((n == limit) && (l == limit)) h in
    let m = both (n == limit) (l == limit) k.1 in
    (eqb-true out limit k.0, eqb-true n limit m.0, eqb-true l limit m.1)
node_so limit out (seg.Gave count) h = tt

so_node : (limit out : ℕ) (n : SegNote) → segments.StandsAt limit out n → node_stands limit out n ≡ true
so_node limit out (seg.Took f) h = lt_of out limit h
so_node limit out (seg.Full f n l) h =
    and_both (out == limit) ((n == limit) && (l == limit)) (eq-eqb out limit h.0) (and_both (n == limit) (l == limit) (eq-eqb n limit h.1) (eq-eqb l limit h.2))
so_node limit out (seg.Gave count) h = refl

abbrev keeps_nodes : ℕ → List (Entry SegNote) → Bool
keeps_nodes limit [] = true
keeps_nodes limit (e ∷ past) = node_stands limit (segments.out_of past) e.note && keeps_nodes limit past

nodes_so : (limit : ℕ) (h : List (Entry SegNote)) → keeps_nodes limit h ≡ true → segments.KeepsRules limit h
nodes_so limit [] h = tt
nodes_so limit (e ∷ past) h =
    let k = both (node_stands limit (segments.out_of past) e.note) (keeps_nodes limit past) h in (node_so limit (segments.out_of past) e.note k.0, nodes_so limit past k.1)

so_nodes : (limit : ℕ) (h : List (Entry SegNote)) → segments.KeepsRules limit h → keeps_nodes limit h ≡ true
so_nodes limit [] h = refl
so_nodes limit (e ∷ past) h =
    and_both (node_stands limit (segments.out_of past) e.note) (keeps_nodes limit past) (so_node limit (segments.out_of past) e.note h.0) (so_nodes limit past h.1)

-- real roles

abbrev are_real : {N : Type 0} → ℕ → List (Entry N) → Bool
are_real n [] = true
are_real n (e ∷ past) = nat_lt e.role n && are_real n past

real_so : {N : Type 0} (n : ℕ) (h : List (Entry N)) → are_real n h ≡ true → All (λ (e : Entry N). e.role < n) h
real_so n [] h k d l = absurd (omega (arith, l))
real_so n (e ∷ past) h zero d l = lt_is e.role n (both (nat_lt e.role n) (are_real n past) h).0
real_so n (e ∷ past) h (suc k) d l = real_so n past (both (nat_lt e.role n) (are_real n past) h).1 k d (omega (arith, l))

so_real : {N : Type 0} (n : ℕ) (h : List (Entry N)) → All (λ (e : Entry N). e.role < n) h → are_real n h ≡ true
so_real n [] h = refl
so_real n (e ∷ past) h = and_both (nat_lt e.role n) (are_real n past) (lt_of e.role n (h 0 e (omega arith))) (so_real n past (λ k d l. h (suc k) d (omega (arith, l))))

-- each history by itself

abbrev pub are_legal : Setup → Histories → Bool
are_legal w t =
    (length t.buckets == w.layout.rows)
    && (keeps_pool (setting_for w) t.pool
    && (keeps_nodes w.layout.segments t.segments
    && (are_real (roles w) t.pool
    && (are_real (roles w) t.segments
    && (all_from 0 (λ b h. is_kept (fixed_at w b) h) t.buckets && all_from 0 (λ b h. are_real (roles w) h) t.buckets)))))

pub legal_so : (w : Setup) (t : Histories) → are_legal w t ≡ true → AreLegal w t
legal_so w t h =
    let a = both (length t.buckets == w.layout.rows) (keeps_pool (setting_for w) t.pool && (keeps_nodes w.layout.segments t.segments && (are_real (roles w) t.pool
    && (are_real (roles w) t.segments && (all_from 0 (λ b h. is_kept (fixed_at w b) h) t.buckets && all_from 0 (λ b h. are_real (roles w) h) t.buckets))))) h in
    let b = both (keeps_pool (setting_for w) t.pool) (keeps_nodes w.layout.segments t.segments && (are_real (roles w) t.pool
    && (are_real (roles w) t.segments && (all_from 0 (λ b h. is_kept (fixed_at w b) h) t.buckets && all_from 0 (λ b h. are_real (roles w) h) t.buckets)))) a.1 in
    let c = both (keeps_nodes w.layout.segments t.segments) (are_real (roles w) t.pool
    && (are_real (roles w) t.segments && (all_from 0 (λ b h. is_kept (fixed_at w b) h) t.buckets && all_from 0 (λ b h. are_real (roles w) h) t.buckets))) b.1 in
    let d = both (are_real (roles w) t.pool)
    (are_real (roles w) t.segments && (all_from 0 (λ b h. is_kept (fixed_at w b) h) t.buckets && all_from 0 (λ b h. are_real (roles w) h) t.buckets)) c.1 in
    let e = both (are_real (roles w) t.segments) (all_from 0 (λ b h. is_kept (fixed_at w b) h) t.buckets && all_from 0 (λ b h. are_real (roles w) h) t.buckets) d.1 in
    let f = both (all_from 0 (λ b h. is_kept (fixed_at w b) h) t.buckets) (all_from 0 (λ b h. are_real (roles w) h) t.buckets) e.1 in
    record {
      rows = eqb-true (length t.buckets) w.layout.rows a.0;
      pool = pool_so (setting_for w) t.pool b.0;
      segments = nodes_so w.layout.segments t.segments c.0;
      buckets = λ b l. legal (fixed_at w b) (bucket_at b t.buckets) (each_bucket (λ b h. is_kept (fixed_at w b) h) t.buckets f.0 b l);
      pool_roles = real_so (roles w) t.pool d.0;
      segment_roles = real_so (roles w) t.segments e.0;
      bucket_roles = λ b l. real_so (roles w) (bucket_at b t.buckets) (each_bucket (λ b h. are_real (roles w) h) t.buckets f.1 b l);
    }

pub so_legal : (w : Setup) (t : Histories) → AreLegal w t → are_legal w t ≡ true
so_legal w t h =
    and_both (length t.buckets == w.layout.rows) (keeps_pool (setting_for w) t.pool && (keeps_nodes w.layout.segments t.segments && (are_real (roles w) t.pool
    && (are_real (roles w) t.segments && (all_from 0 (λ b h. is_kept (fixed_at w b) h) t.buckets && all_from 0 (λ b h. are_real (roles w) h) t.buckets)))))
    (eq-eqb (length t.buckets) w.layout.rows h.rows)
    (and_both (keeps_pool (setting_for w) t.pool) (keeps_nodes w.layout.segments t.segments && (are_real (roles w) t.pool
    && (are_real (roles w) t.segments && (all_from 0 (λ b h. is_kept (fixed_at w b) h) t.buckets && all_from 0 (λ b h. are_real (roles w) h) t.buckets))))
    (so_pool (setting_for w) t.pool h.pool)
    (and_both (keeps_nodes w.layout.segments t.segments) (are_real (roles w) t.pool
    && (are_real (roles w) t.segments && (all_from 0 (λ b h. is_kept (fixed_at w b) h) t.buckets && all_from 0 (λ b h. are_real (roles w) h) t.buckets)))
    (so_nodes w.layout.segments t.segments h.segments)
    (and_both (are_real (roles w) t.pool)
    (are_real (roles w) t.segments && (all_from 0 (λ b h. is_kept (fixed_at w b) h) t.buckets && all_from 0 (λ b h. are_real (roles w) h) t.buckets))
    (so_real (roles w) t.pool h.pool_roles)
    (and_both (are_real (roles w) t.segments) (all_from 0 (λ b h. is_kept (fixed_at w b) h) t.buckets && all_from 0 (λ b h. are_real (roles w) h) t.buckets)
    (so_real (roles w) t.segments h.segment_roles)
    (and_both (all_from 0 (λ b h. is_kept (fixed_at w b) h) t.buckets) (all_from 0 (λ b h. are_real (roles w) h) t.buckets)
    (every_bucket (λ b h. is_kept (fixed_at w b) h) t.buckets (λ b l. kept (fixed_at w b) (sound (fixed_at w b)) (bucket_at b t.buckets) (h.buckets b l)))
    (every_bucket (λ b h. are_real (roles w) h) t.buckets (λ b l. so_real (roles w) (bucket_at b t.buckets) (h.bucket_roles b l))))))))

-- what a role did

abbrev pub are_acts : Setup → Histories → ℕ → List Act → Bool
are_acts w t role acts =
    same_entries (entries_of role (pool_acts t.pool)) (part role 0 acts)
    && (same_entries (entries_of role (segment_acts t.segments)) (part role 1 acts)
    && (all_from 0 (λ b h. same_entries (entries_of role (bucket_acts w b h)) (part role (b + 2) acts)) t.buckets && are_within (length t.buckets + 2) acts))

pub acts_so : (w : Setup) (t : Histories) (role : ℕ) (acts : List Act) → are_acts w t role acts ≡ true → AreActs w t role acts
acts_so w t role acts h =
    let a = both (same_entries (entries_of role (pool_acts t.pool)) (part role 0 acts)) (same_entries (entries_of role (segment_acts t.segments)) (part role 1 acts)
    && (all_from 0 (λ b h. same_entries (entries_of role (bucket_acts w b h)) (part role (b + 2) acts)) t.buckets && are_within (length t.buckets + 2) acts)) h in
    let b = both (same_entries (entries_of role (segment_acts t.segments)) (part role 1 acts))
    (all_from 0 (λ b h. same_entries (entries_of role (bucket_acts w b h)) (part role (b + 2) acts)) t.buckets && are_within (length t.buckets + 2) acts) a.1 in
    let c = both (all_from 0 (λ b h. same_entries (entries_of role (bucket_acts w b h)) (part role (b + 2) acts)) t.buckets) (are_within (length t.buckets + 2) acts) b.1 in
    record {
      pool = one_entries (entries_of role (pool_acts t.pool)) (part role 0 acts) a.0;
      segments = one_entries (entries_of role (segment_acts t.segments)) (part role 1 acts) b.0;
      buckets = λ b l. one_entries (entries_of role (bucket_acts w b (bucket_at b t.buckets))) (part role (b + 2) acts)
          (each_bucket (λ b h. same_entries (entries_of role (bucket_acts w b h)) (part role (b + 2) acts)) t.buckets c.0 b l);
      within = c.1;
    }

same_as : (xs ys : List (Entry Act)) → xs ≡ ys → same_entries xs ys ≡ true
same_as xs ys h = subst (λ (zs : List (Entry Act)). same_entries xs zs ≡ true) h (entries_self xs)

pub so_acts : (w : Setup) (t : Histories) (role : ℕ) (acts : List Act) → AreActs w t role acts → are_acts w t role acts ≡ true
so_acts w t role acts h =
    and_both (same_entries (entries_of role (pool_acts t.pool)) (part role 0 acts)) (same_entries (entries_of role (segment_acts t.segments)) (part role 1 acts)
    && (all_from 0 (λ b h. same_entries (entries_of role (bucket_acts w b h)) (part role (b + 2) acts)) t.buckets && are_within (length t.buckets + 2) acts))
    (same_as (entries_of role (pool_acts t.pool)) (part role 0 acts) h.pool)
    (and_both (same_entries (entries_of role (segment_acts t.segments)) (part role 1 acts))
    (all_from 0 (λ b h. same_entries (entries_of role (bucket_acts w b h)) (part role (b + 2) acts)) t.buckets && are_within (length t.buckets + 2) acts)
    (same_as (entries_of role (segment_acts t.segments)) (part role 1 acts) h.segments)
    (and_both (all_from 0 (λ b h. same_entries (entries_of role (bucket_acts w b h)) (part role (b + 2) acts)) t.buckets) (are_within (length t.buckets + 2) acts)
    (every_bucket (λ b h. same_entries (entries_of role (bucket_acts w b h)) (part role (b + 2) acts)) t.buckets
    (λ b l. same_as (entries_of role (bucket_acts w b (bucket_at b t.buckets))) (part role (b + 2) acts) (h.buckets b l)))
    h.within))

-- the scripts, over the acts that are found by their steps

abbrev work_end : Setup → Histories → ℕ → Option (List (List Gone))
work_end w t role = ended (stand_after w (fresh (work_of w role)) (acts_of w t role))

abbrev manager_end : Setup → Histories → Option (List (List Gone))
manager_end w t = manager_ended w (swept_after w new_manager (acts_of w t (manager w)))

abbrev some_hands : Option (List (List Gone)) → List (List Gone)
some_hands None = []
some_hands (Some hands) = hands

abbrev hands_found : Setup → Histories → ℕ → List (List Gone)
hands_found w t role = if role == manager w then some_hands (manager_end w t) else some_hands (work_end w t role)

abbrev pub is_served : Option (List Gone) → Bool
is_served None = false
is_served (Some []) = true
is_served (Some (g ∷ queue)) = false

abbrev is_drained : ℕ → Option Ending → Bool
is_drained rows None = false
is_drained rows (Some s) = is_served (Some s.queue) && (s.drained == rows)

abbrev recycler_end : Setup → Histories → Option (List Gone)
recycler_end w t = queue_after (waited (manager w + 1) (hands_found w t) (rounds w - 1)) (acts_of w t (recycler w))

abbrev ender_end : Setup → Histories → Option Ending
ender_end w t = ending_after w (record { queue = left_over w (hands_found w t); drained = 0 }) (acts_of w t (ender w))

abbrev are_scripts : Setup → Histories → Bool
are_scripts w t =
    all_below (roles w) (λ role. are_acts w t role (acts_of w t role))
    && (all_below w.layout.workers (λ role. is_some (work_end w t role))
    && (is_some (manager_end w t) && (is_served (recycler_end w t) && is_drained w.layout.rows (ender_end w t))))

some_is : (o : Option (List (List Gone))) → is_some o ≡ true → o ≡ Some (some_hands o)
some_is None h = cc
some_is (Some hands) h = refl

pub served_is : (o : Option (List Gone)) → is_served o ≡ true → o ≡ Some []
served_is None h = cc
served_is (Some []) h = refl
served_is (Some (g ∷ queue)) h = cc

abbrev ending_at : List Gone → ℕ → Ending
ending_at queue drained = record { queue = queue; drained = drained }

drained_is : (rows : ℕ) (o : Option Ending) → is_drained rows o ≡ true → o ≡ Some (record { queue = []; drained = rows })
drained_is rows None h = cc
drained_is rows (Some s) h =
    let k = both (is_served (Some s.queue)) (s.drained == rows) h in
    let q : Some s.queue ≡ Some [] = served_is (Some s.queue) k.0 in
    let i : s.queue ≡ [] = cc in
    whole s.queue s.drained i (eqb-true s.drained rows k.1)
  where
    whole : (queue : List Gone) (drained : ℕ) → queue ≡ [] → drained ≡ rows → Some (ending_at queue drained) ≡ Some (ending_at [] rows)
    whole queue drained i j = cc

worker_hands : (w : Setup) (t : Histories) (role : ℕ) → role < w.layout.workers → hands_found w t role ≡ some_hands (work_end w t role)
worker_hands w t role h = by (role == manager w) refl
  where
    by : (b : Bool) → (role == manager w) ≡ b → cond b (some_hands (manager_end w t)) (some_hands (work_end w t role)) ≡ some_hands (work_end w t role)
    by true e = let k = eqb-true role (manager w) e in absurd (omega (arith, k, h))
    by false e = refl

manager_hands : (w : Setup) (t : Histories) → hands_found w t (manager w) ≡ some_hands (manager_end w t)
manager_hands w t = ap (λ (b : Bool). cond b (some_hands (manager_end w t)) (some_hands (work_end w t (manager w)))) (eq-eqb (manager w) (manager w) refl)

scripts_so : (w : Setup) (t : Histories) → AreLegal w t → are_scripts w t ≡ true → AreScripted w t
scripts_so w t l h =
    let a = both (all_below (roles w) (λ role. are_acts w t role (acts_of w t role))) (all_below w.layout.workers (λ role. is_some (work_end w t role))
    && (is_some (manager_end w t) && (is_served (recycler_end w t) && is_drained w.layout.rows (ender_end w t)))) h in
    let b = both (all_below w.layout.workers (λ role. is_some (work_end w t role)))
    (is_some (manager_end w t) && (is_served (recycler_end w t) && is_drained w.layout.rows (ender_end w t))) a.1 in
    let c = both (is_some (manager_end w t)) (is_served (recycler_end w t) && is_drained w.layout.rows (ender_end w t)) b.1 in
    let d = both (is_served (recycler_end w t)) (is_drained w.layout.rows (ender_end w t)) c.1 in
    record {
      legal = l;
      acts = acts_of w t;
      hands = hands_found w t;
      own = λ role r. acts_so w t role (acts_of w t role) (below_all (roles w) (λ role. are_acts w t role (acts_of w t role)) a.0 role r);
      work = λ role r. some_is (work_end w t role) (below_all w.layout.workers (λ role. is_some (work_end w t role)) b.0 role r) ∙ ap Some (sym (worker_hands w t role r));
      manage = some_is (manager_end w t) c.0 ∙ ap Some (sym (manager_hands w t));
      recycle = served_is (recycler_end w t) d.0;
      drain = drained_is w.layout.rows (ender_end w t) d.1;
    }

-- and the other way

some_of : (o : Option (List (List Gone))) (hands : List (List Gone)) → o ≡ Some hands → (is_some o ≡ true) × (some_hands o ≡ hands)
some_of o hands h = (ap is_some h, ap some_hands h)

module _ (w : Setup) (t : Histories) (l : AreScripted w t) where
  found : (role : ℕ) → role < roles w → acts_of w t role ≡ l.acts role
  found role r = acts_found w t role (l.acts role) (l.own role r)

  own_too : (role : ℕ) → role < roles w → are_acts w t role (acts_of w t role) ≡ true
  own_too role r = so_acts w t role (acts_of w t role) (subst (λ (acts : List Act). AreActs w t role acts) (sym (found role r)) (l.own role r))

  work_too : (role : ℕ) → role < w.layout.workers → work_end w t role ≡ Some (l.hands role)
  work_too role r = ap (λ (acts : List Act). ended (stand_after w (fresh (work_of w role)) acts)) (found role (omega (arith, r))) ∙ l.work role r

  manage_too : manager_end w t ≡ Some (l.hands (manager w))
  manage_too = ap (λ (acts : List Act). manager_ended w (swept_after w new_manager acts)) (found (manager w) (omega arith)) ∙ l.manage

  hands_too : (role : ℕ) → role < manager w + 1 → hands_found w t role ≡ l.hands role
  hands_too role r = by (role == manager w) refl
    where
      by : (b : Bool) → (role == manager w) ≡ b → hands_found w t role ≡ l.hands role
      by true e = subst (λ (i : ℕ). hands_found w t i ≡ l.hands i) (sym (eqb-true role (manager w) e)) (manager_hands w t ∙ (some_of (manager_end w t) (l.hands (manager w)) manage_too).1)
      by false e =
          let no : role ≡ manager w → ⊥ = λ i. (let z : true ≡ false = sym (eq-eqb role (manager w) i) ∙ e in cc) in
          let q : role < w.layout.workers = grind (arith, no, r) in
          worker_hands w t role q ∙ (some_of (work_end w t role) (l.hands role) (work_too role q)).1

  recycle_too : recycler_end w t ≡ Some []
  recycle_too =
      ap (λ (queue : List Gone). queue_after queue (acts_of w t (recycler w))) (waited_same (manager w + 1) (hands_found w t) l.hands (rounds w - 1) hands_too)
      ∙ (ap (λ (acts : List Act). queue_after (waited (manager w + 1) l.hands (rounds w - 1)) acts) (found (recycler w) (omega arith)) ∙ l.recycle)

  drain_too : ender_end w t ≡ Some (record { queue = []; drained = w.layout.rows })
  drain_too =
      ap (λ (queue : List Gone). ending_after w (record { queue = queue; drained = 0 }) (acts_of w t (ender w))) (left_same w (hands_found w t) l.hands hands_too)
      ∙ (ap (λ (acts : List Act). ending_after w (record { queue = left_over w l.hands; drained = 0 }) acts) (found (ender w) (omega arith)) ∙ l.drain)

  so_scripts : are_scripts w t ≡ true
  so_scripts =
      and_both (all_below (roles w) (λ role. are_acts w t role (acts_of w t role))) (all_below w.layout.workers (λ role. is_some (work_end w t role))
      && (is_some (manager_end w t) && (is_served (recycler_end w t) && is_drained w.layout.rows (ender_end w t))))
      (all_of (roles w) (λ role. are_acts w t role (acts_of w t role)) own_too)
      (and_both (all_below w.layout.workers (λ role. is_some (work_end w t role)))
      (is_some (manager_end w t) && (is_served (recycler_end w t) && is_drained w.layout.rows (ender_end w t)))
      (all_of w.layout.workers (λ role. is_some (work_end w t role)) (λ role r. (some_of (work_end w t role) (l.hands role) (work_too role r)).0))
      (and_both (is_some (manager_end w t)) (is_served (recycler_end w t) && is_drained w.layout.rows (ender_end w t))
      (some_of (manager_end w t) (l.hands (manager w)) manage_too).0
      (and_both (is_served (recycler_end w t)) (is_drained w.layout.rows (ender_end w t)) (ap is_served recycle_too)
      (ap (λ (o : Option Ending). is_drained w.layout.rows o) drain_too ∙ eq-eqb w.layout.rows w.layout.rows refl))))

-- all of it

abbrev pub is_lawful : Setup → Histories → Bool
is_lawful w t = are_legal w t && (are_scripts w t && puts_due t.pool)

pub lawful : (w : Setup) (t : Histories) → is_lawful w t ≡ true → AreLawful w t
lawful w t h =
    let a = both (are_legal w t) (are_scripts w t && puts_due t.pool) h in
    let b = both (are_scripts w t) (puts_due t.pool) a.1 in
    record { scripted = scripts_so w t (legal_so w t a.0) b.0; puts = puts_so t.pool b.1 }

pub passes : (w : Setup) (t : Histories) → AreLawful w t → is_lawful w t ≡ true
passes w t l =
    and_both (are_legal w t) (are_scripts w t && puts_due t.pool) (so_legal w t l.scripted.legal)
    (and_both (are_scripts w t) (puts_due t.pool) (so_scripts w t l.scripted) (so_puts t.pool l.puts))

-- what fails the test is not lawful
pub unlawful : (w : Setup) (t : Histories) → is_lawful w t ≡ false → AreLawful w t → ⊥
unlawful w t h l = let z : true ≡ false = sym (passes w t l) ∙ h in cc
