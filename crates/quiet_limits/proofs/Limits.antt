-- Where a pool is full, as many are out as it has, each of them was asked for before, and one more is asked for. So a pool that has as many as
-- are asked for in all is never full.
use Rattle.std.proofs.Common.{◌≡◌, ℕ, ◌+◌, ◌≤◌, false, List, [], ◌∷◌, length, ⊎_elim, refl, ap, subst, arith, All}
use Rattle.bucket_laws.specs.Places.{At}
use Rattle.flow_pool.specs.Counting as flows
use Rattle.flow_pool.specs.Counting.{flows_out, flows_out_after, is_on}
use Rattle.flow_pool.specs.declared.calls.PoolSetting.{PoolSetting}
use Rattle.quiet_laws.proofs.Calming.{all_from}
use Rattle.quiet_limits.proofs.Asked.{asked_few, wanted_few}
use Rattle.quiet_limits.proofs.Measures.{asks, wants}
use Rattle.quiet_limits.specs.Payloads.{tcp_payloads}
use Rattle.run_laws.proofs.Places.{legal_pool_at}
use Rattle.run_laws.specs.Counts.{tally}
use Rattle.run_laws.specs.Setting.{IsSetup}
use Rattle.run_rules.specs.Histories.{Histories}
use Rattle.run_rules.specs.Lawful.{AreScripted, setting_for}
use Rattle.run_rules.specs.Quiet.{IsQuiet, is_full, is_short}
use Rattle.run_rules.specs.Setup.{Setup}
use Rattle.segment_pool.specs.Counting as nodes
use Rattle.segment_pool.specs.Counting.{KeepsRules, out_after, out_of}
use Rattle.suri_base.specs.Capture.{packets_in}
use Rattle.suri_base.specs.declared.entry.Entry.{Entry}
use Rattle.suri_base.specs.declared.entry.PoolNote.{PoolNote}
use Rattle.suri_base.specs.declared.entry.PoolNote.TheVariants.{Full, Mode, Over, Put, Took, Turn}
use Rattle.suri_base.specs.declared.entry.SegNote.{SegNote}
use Rattle.suri_base.specs.declared.entry.SegNote.TheVariants as seg

-- an entry and those before it count for no more than all entries
so_far : {N : Type 0} (m : N → ℕ) (e : Entry N) (past h : List (Entry N)) → At e past h → m e.note + tally m past ≤ tally m h
so_far m e past [] a = absurd a
so_far {N} m e past (x ∷ h) a = ⊎_elim
    (λ z. let note : m x.note ≡ m e.note = ap (λ (y : Entry N). m y.note) z.0 in let rest : tally m h ≡ tally m past = ap (tally m) z.1 in omega (arith, note, rest))
    (λ z. omega (arith, so_far m e past h z)) a

-- each that is out was asked for

out_asked : (h : List (Entry PoolNote)) → flows_out h ≤ tally asks h
out_asked [] = omega arith
out_asked (e ∷ past) = by e.note (out_asked past)
  where
    by : (n : PoolNote) → flows_out past ≤ tally asks past → flows_out_after (flows_out past) n ≤ asks n + tally asks past
    by (Took f) h = omega (arith, h)
    by (Full f out limit) h = omega (arith, h)
    by (Put run) h = omega (arith, h)
    by (Turn run f) h = omega (arith, h)
    by (Mode told) h = omega (arith, h)
    by (Over round done) h = omega (arith, h)

out_wanted : (h : List (Entry SegNote)) → out_of h ≤ tally wants h
out_wanted [] = omega arith
out_wanted (e ∷ past) = by e.note (out_wanted past)
  where
    by : (n : SegNote) → out_of past ≤ tally wants past → out_after (out_of past) n ≤ wants n + tally wants past
    by (seg.Took f) h = omega (arith, h)
    by (seg.Full f out limit) h = omega (arith, h)
    by (seg.Gave count) h = omega (arith, h)

-- so a wide pool is never full

not_full : (s : PoolSetting) (past : List (Entry PoolNote)) (n : PoolNote) (all : ℕ) → flows.StandsAt s (flows_out past) (is_on past) n → asks n + tally asks past ≤ all
    → all ≤ s.memcap → is_full n ≡ false
not_full s past (Took f) all k few wide = refl
not_full s past (Full f out limit) all k few wide = absurd (omega (arith, k.0, few, wide, out_asked past))
not_full s past (Put run) all k few wide = refl
not_full s past (Turn run f) all k few wide = refl
not_full s past (Mode told) all k few wide = refl
not_full s past (Over round done) all k few wide = refl

not_short : (limit : ℕ) (past : List (Entry SegNote)) (n : SegNote) (all : ℕ) → nodes.StandsAt limit (out_of past) n → wants n + tally wants past ≤ all → all ≤ limit
    → is_short n ≡ false
not_short limit past (seg.Took f) all k few wide = refl
not_short limit past (seg.Full f out most) all k few wide = absurd (omega (arith, k.0, few, wide, out_wanted past))
not_short limit past (seg.Gave count) all k few wide = refl

legal_nodes_at : (limit : ℕ) (e : Entry SegNote) (past h : List (Entry SegNote)) → KeepsRules limit h → At e past h → nodes.StandsAt limit (out_of past) e.note
legal_nodes_at limit e past [] k a = absurd a
legal_nodes_at limit e past (x ∷ h) k a = ⊎_elim
    (λ y. subst (λ (u : Entry SegNote). nodes.StandsAt limit (out_of past) u.note) y.0 (subst (λ (u : List (Entry SegNote)). nodes.StandsAt limit (out_of u) x.note) y.1 k.0))
    (λ y. legal_nodes_at limit e past h k.1 y) a

pub never_full : (w : Setup) (t : Histories) → IsSetup w → AreScripted w t → length (packets_in w.capture.seen) ≤ w.layout.memcap → All (λ (e : Entry PoolNote). is_full e.note ≡ false) t.pool
never_full w t d l wide = all_from (λ (e : Entry PoolNote). is_full e.note ≡ false) t.pool (λ e past a.
    not_full (setting_for w) past e.note (tally asks t.pool) (legal_pool_at (setting_for w) e past t.pool l.legal.pool a) (so_far asks e past t.pool a)
    (omega (arith, wide, asked_few w d t l)))

pub never_short : (w : Setup) (t : Histories) → IsSetup w → AreScripted w t → length (tcp_payloads w.capture.seen) ≤ w.layout.segments
    → All (λ (e : Entry SegNote). is_short e.note ≡ false) t.segments
never_short w t d l wide = all_from (λ (e : Entry SegNote). is_short e.note ≡ false) t.segments (λ e past a.
    not_short w.layout.segments past e.note (tally wants t.segments) (legal_nodes_at w.layout.segments e past t.segments l.legal.segments a) (so_far wants e past t.segments a)
    (omega (arith, wide, wanted_few w d t l)))

pub quiet : (w : Setup) (t : Histories) → IsSetup w → AreScripted w t → length (packets_in w.capture.seen) ≤ w.layout.memcap → length (tcp_payloads w.capture.seen) ≤ w.layout.segments
    → IsQuiet t
quiet w t d l objects nodes = record { pool = never_full w t d l objects; segments = never_short w t d l nodes }
