-- What is counted of a quiet run: nothing of what it could have been short of, and else just what the capture and its records tell.
use Rattle.std.proofs.Common.{◌≡◌, ℕ, suc, ◌+◌, ◌<◌, ◌&&◌, not, Bool, true, false, cond, List, [], ◌∷◌, length, map, Option, Some, None, inl, inr, refl, sym, ◌∙◌, ap, subst, arith, All}
use Rattle.std.specs.Prelude.{count_by}
use Rattle.std.proofs.lemmas.List.Elements.{All-head, All-tail}
use Rattle.std.proofs.lemmas.List.Sums.{sum_by-cons}
use Rattle.bucket_laws.specs.Counts.{one_if}
use Rattle.bucket_laws.specs.Places.{In}
use Rattle.bucket_rules.specs.Packets.{bearing}
use Rattle.flow_expiry.specs.Expiry.{expired}
use Rattle.flow_object.specs.declared.outcome.FlowLine.{FlowLine}
use Rattle.flow_pool.specs.Counting.{is_on}
use Rattle.plain_runs.proofs.Growing.{capture_has}
use Rattle.flow_sum.specs.Run.{Run}
use Rattle.plain_runs.specs.Plain.{ArePlain, PlainRun, cut_reason, reason_of, record_of, records_of}
use Rattle.quiet_laws.proofs.Calming.{calm}
use Rattle.quiet_laws.proofs.Matching.{plain_records, told}
use Rattle.quiet_laws.specs.Calm.{IsCalm, is_calm}
use Rattle.quiet_laws.specs.Counts.{ArePlainCounts, CountsNoShortage}
use Rattle.quiet_laws.specs.Pieces.{ended_by, plain_of}
use Rattle.run_counts.specs.Adding.{AreRecordsOf}
use Rattle.run_counts.specs.Counting.{AreHistoryCounts, IsStatsOf, all_refusals, emergencies_begun, is_refusal, refusals}
use Rattle.run_laws.specs.Setting.{IsSetup}
use Rattle.run_rules.specs.Histories.{Histories, bucket_at, histories_of}
use Rattle.run_rules.specs.Lawful.{AreScripted}
use Rattle.run_rules.specs.Quiet.{IsQuiet, is_full, is_short}
use Rattle.run_rules.specs.Setup.{Setup}
use Rattle.run_stats.specs.Counting as stats
use Rattle.run_stats.specs.Counting.{same_reason}
use Rattle.run_stats.specs.declared.stats.Stats.{Stats}
use Rattle.suri_base.specs.Capture.{Captured, packets_in}
use Rattle.suri_base.specs.Clock.{clock_of}
use Rattle.suri_base.specs.Trail.{Trailed}
use Rattle.suri_base.specs.declared.counter.Counter.TheVariants.{Ethertype, Fragment, IcmpSmall, IpExtensions, IpHeader, IpSmall, IpVersion, LinkSmall, OtherProto, TcpHeader, TcpSmall, UdpSmall, VlanDeep, VlanSmall}
use Rattle.suri_base.specs.declared.entry.BucketNote.{BucketNote}
use Rattle.suri_base.specs.declared.entry.BucketNote.TheVariants.{AllInUse, Closed, Drained, Found, Idle, Made, Missing, Refused, Stopped, Stored, Swept, Victim}
use Rattle.suri_base.specs.declared.entry.Entry.{Entry}
use Rattle.suri_base.specs.declared.entry.PoolNote.{PoolNote}
use Rattle.suri_base.specs.declared.entry.SegNote.{SegNote}
use Rattle.suri_base.specs.declared.facts.Facts.{Facts}
use Rattle.suri_base.specs.declared.reason.Reason.TheVariants.{Forced, Shutdown, TcpReuse, Timeout}

-- what fails a test everywhere is counted nowhere
none_counted : {A : Type 0} (p : A → Bool) (xs : List A) → All (λ (x : A). p x ≡ false) xs → count_by p xs ≡ 0
none_counted p [] a = refl
none_counted {A} p (x ∷ xs) a =
    let here : one_if (p x) ≡ 0 = ap one_if (All-head (λ (y : A). p y ≡ false) x xs a) in
    omega (arith, here, sum_by-cons (λ (y : A). one_if (p y)) x xs, none_counted p xs (All-tail (λ (y : A). p y ≡ false) x xs a))

not_refused : (n : BucketNote) → is_calm n ≡ true → is_refusal n ≡ false
not_refused (Found f emergency seen run said) h = refl
not_refused (Missing f emergency seen ended) h = refl
not_refused (Made f said) h = refl
not_refused (Refused f) h = cc
not_refused (Stored f) h = refl
not_refused (Stopped f) h = refl
not_refused (Closed f app run freed ended) h = refl
not_refused (Idle f app) h = refl
not_refused (Victim f run) h = refl
not_refused (AllInUse f count) h = refl
not_refused (Swept round emergency seen count) h = refl
not_refused (Drained count) h = refl

no_refusals : (h : List (Entry BucketNote)) → IsCalm h → refusals h ≡ 0
no_refusals [] c = refl
no_refusals (e ∷ past) c =
    let here : one_if (is_refusal e.note) ≡ 0 =
    ap one_if (not_refused e.note (All-head (λ (d : Entry BucketNote). is_calm d.note ≡ true) e past c)) in
    omega (
      arith,
      here,
      sum_by-cons (λ (d : Entry BucketNote). one_if (is_refusal d.note)) e past,
      no_refusals past (All-tail (λ (d : Entry BucketNote). is_calm d.note ≡ true) e past c),
    )

none_in_all : (hs : List (List (Entry BucketNote))) → ((b : ℕ) → b < length hs → refusals (bucket_at b hs) ≡ 0) → all_refusals hs ≡ 0
none_in_all [] k = refl
none_in_all (h ∷ hs) k =
    let here : refusals h ≡ 0 = k 0 (omega arith) in
    omega (arith, here, sum_by-cons (λ (x : List (Entry BucketNote)). refusals x) h hs, none_in_all hs (λ b l. k (suc b) (omega (arith, l))))

none_begun : (h : List (Entry PoolNote)) → All (λ (e : Entry PoolNote). is_full e.note ≡ false) h → emergencies_begun h ≡ 0
none_begun [] a = refl
none_begun (e ∷ past) a =
    ap (λ (b : Bool). cond (b && not (is_on past)) (emergencies_begun past + 1) (emergencies_begun past)) (All-head (λ (d : Entry PoolNote). is_full d.note ≡ false) e past a)
    ∙ none_begun past (All-tail (λ (d : Entry PoolNote). is_full d.note ≡ false) e past a)

pub no_shortage : (w : Setup) (t : Histories) → IsSetup w → AreScripted w t → IsQuiet t → (s : Stats) → AreHistoryCounts t s → CountsNoShortage s
no_shortage w t d l q s c = record {
  no_flow = c.no_flow ∙ none_in_all t.buckets (λ b h. no_refusals (bucket_at b t.buckets) (calm w t d l q b h));
  memcap_full = c.memcap_full ∙ none_counted (λ (e : Entry PoolNote). is_full e.note) t.pool q.pool;
  segment_full = c.segment_full ∙ none_counted (λ (e : Entry SegNote). is_short e.note) t.segments q.segments;
  emergency_entered = c.emergency_entered ∙ none_begun t.pool q.pool;
}

pub plain_counts : (w : Setup) (trail : Trailed) → IsSetup w → AreScripted w (histories_of trail) → IsQuiet (histories_of trail) → (lines : List FlowLine) (s : Stats)
    → IsStatsOf w.capture lines trail s → ArePlainCounts w.capture lines s
plain_counts w trail d l q lines s c = record { counted = c.counted; short = no_shortage w (histories_of trail) d l q s c.of_histories }

-- so the records are those of the plain runs

all_some : (xs ys : List FlowLine) → map (λ x. Some x) xs ≡ map (λ x. Some x) ys → xs ≡ ys
all_some [] [] h = refl
all_some [] (y ∷ ys) h = cc
all_some (x ∷ xs) [] h = cc
all_some (x ∷ xs) (y ∷ ys) h =
    let here : x ≡ y = cc in
    let rest : map (λ z. Some z) xs ≡ map (λ z. Some z) ys = cc in
    ap (λ (z : FlowLine). z ∷ xs) here ∙ ap (λ (zs : List FlowLine). y ∷ zs) (all_some xs ys rest)

pub plain_lines : (w : Setup) (t : Histories) → IsSetup w → AreScripted w t → IsQuiet t → (plain_runs : List PlainRun) → ArePlain (packets_in w.capture.seen) plain_runs
    → (lines : List FlowLine) → AreRecordsOf w t lines → lines ≡ records_of w.layout.depth w.capture.bytes (clock_of w.capture.frames) plain_runs
plain_lines w t d l q ps are lines r = all_some lines (records_of w.layout.depth w.capture.bytes (clock_of w.capture.frames) ps) (r ∙ plain_records w t d l q ps are)

-- and the same ones whatever the layout
pub alike_lines : (w v : Setup) (t u : Histories) → IsSetup w → IsSetup v → AreScripted w t → AreScripted v u → IsQuiet t → IsQuiet u → w.capture ≡ v.capture
    → w.layout.depth ≡ v.layout.depth → (lines others : List FlowLine) → AreRecordsOf w t lines → AreRecordsOf v u others → lines ≡ others
alike_lines w v t u d e l m q r c depth lines others x y =
    let p = capture_has w.capture d.capture in
    let there : ArePlain (packets_in v.capture.seen) p.0 = subst (λ (k : Captured). ArePlain (packets_in k.seen) p.0) c p.1 in
    plain_lines w t d l q p.0 p.1 lines x
    ∙ (ap (λ (n : ℕ). records_of n w.capture.bytes (clock_of w.capture.frames) p.0) depth
    ∙ (ap (λ (k : Captured). records_of v.layout.depth k.bytes (clock_of k.frames) p.0) c ∙ sym (plain_lines v u e m r p.0 there others y)))

-- none of them is forced, or tells of an emergency

none_urgent : (depth : ℕ) (bytes : List ℕ) (clock : ℕ) (plain_runs : List PlainRun) → count_by (λ x. x.emergency) (records_of depth bytes clock plain_runs) ≡ 0
none_urgent depth bytes clock [] = refl
none_urgent depth bytes clock (p ∷ ps) =
    omega (arith, sum_by-cons (λ (x : FlowLine). one_if x.emergency) (record_of depth bytes clock p) (records_of depth bytes clock ps), none_urgent depth bytes clock ps)

cut_unforced : (r : Run) (f : Facts) → same_reason Forced (cut_reason r f) ≡ false
unfolding cut_reason
cut_unforced r f = by (expired r f.clock false)
  where
    by : (b : Bool) → same_reason Forced (cond b Timeout TcpReuse) ≡ false
    by true = refl
    by false = refl

unforced : (c : Captured) (r : Run) (clock : ℕ) → same_reason Forced (reason_of clock (plain_of c r)) ≡ false
unforced c r clock = by (bearing c r.newest.next)
  where
    last : (b : Bool) → same_reason Forced (cond b Timeout Shutdown) ≡ false
    last true = refl
    last false = refl

    by : (o : Option Facts) → same_reason Forced (reason_of clock (record { run = r; ended = ended_by r o })) ≡ false
    by None = last (expired r clock false)
    by (Some f) = cut_unforced r f

none_forced : (c : Captured) (depth : ℕ) (bytes : List ℕ) (clock : ℕ) (ps : List PlainRun) → ((p : PlainRun) → In p ps → (r : Run) × (plain_of c r ≡ p))
    → stats.ended_by Forced (records_of depth bytes clock ps) ≡ 0
none_forced c depth bytes clock [] each = refl
none_forced c depth bytes clock (p ∷ ps) each =
    let own = each p (inl refl) in
    let here : one_if (same_reason Forced (reason_of clock p)) ≡ 0 =
    ap one_if (subst (λ (x : PlainRun). same_reason Forced (reason_of clock x) ≡ false) own.1 (unforced c own.0 clock)) in
    omega (
      arith,
      here,
      sum_by-cons (λ (x : FlowLine). one_if (same_reason Forced x.reason)) (record_of depth bytes clock p) (records_of depth bytes clock ps),
      none_forced c depth bytes clock ps (λ x i. each x (inr i)),
    )

pub no_force : (w : Setup) (trail : Trailed) → IsSetup w → AreScripted w (histories_of trail) → IsQuiet (histories_of trail) → (lines : List FlowLine) (s : Stats)
    → AreRecordsOf w (histories_of trail) lines → IsStatsOf w.capture lines trail s → (s.forced ≡ 0) × (s.emergency ≡ 0)
no_force w trail d l q lines s r c =
    let t = histories_of trail in
    let p = capture_has w.capture d.capture in
    let e = plain_lines w t d l q p.0 p.1 lines r in (
      c.counted.of_records.forced ∙ (ap (λ (x : List FlowLine). stats.ended_by Forced x) e
          ∙ none_forced w.capture w.layout.depth w.capture.bytes (clock_of w.capture.frames) p.0 (λ x i. let k = told w t d l q p.0 p.1 x i in (k.of, k.form))),
      c.counted.of_records.emergency ∙ (ap (λ (x : List FlowLine). count_by (λ y. y.emergency) x) e ∙ none_urgent w.layout.depth w.capture.bytes (clock_of w.capture.frames) p.0),
    )

-- a capture and its records have one list of such counts
pub one_count : (c : Captured) (lines : List FlowLine) (s u : Stats) → ArePlainCounts c lines s → ArePlainCounts c lines u → s ≡ u
one_count c lines s u a b =
    let same_clock : s.clock ≡ u.clock = a.counted.of_frames.clock ∙ sym b.counted.of_frames.clock in
    let same_capture_bytes : s.capture_bytes ≡ u.capture_bytes = a.counted.of_frames.capture_bytes ∙ sym b.counted.of_frames.capture_bytes in
    let same_cut_bytes : s.cut_bytes ≡ u.cut_bytes = a.counted.of_frames.cut_bytes ∙ sym b.counted.of_frames.cut_bytes in
    let same_frames : s.frames ≡ u.frames = a.counted.of_frames.frames ∙ sym b.counted.of_frames.frames in
    let same_ethertype : s.ethertype ≡ u.ethertype = a.counted.of_frames.decoder Ethertype ∙ sym (b.counted.of_frames.decoder Ethertype) in
    let same_fragment : s.fragment ≡ u.fragment = a.counted.of_frames.decoder Fragment ∙ sym (b.counted.of_frames.decoder Fragment) in
    let same_icmp_small : s.icmp_small ≡ u.icmp_small = a.counted.of_frames.decoder IcmpSmall ∙ sym (b.counted.of_frames.decoder IcmpSmall) in
    let same_ip_extensions : s.ip_extensions ≡ u.ip_extensions = a.counted.of_frames.decoder IpExtensions ∙ sym (b.counted.of_frames.decoder IpExtensions) in
    let same_ip_header : s.ip_header ≡ u.ip_header = a.counted.of_frames.decoder IpHeader ∙ sym (b.counted.of_frames.decoder IpHeader) in
    let same_ip_small : s.ip_small ≡ u.ip_small = a.counted.of_frames.decoder IpSmall ∙ sym (b.counted.of_frames.decoder IpSmall) in
    let same_ip_version : s.ip_version ≡ u.ip_version = a.counted.of_frames.decoder IpVersion ∙ sym (b.counted.of_frames.decoder IpVersion) in
    let same_link_small : s.link_small ≡ u.link_small = a.counted.of_frames.decoder LinkSmall ∙ sym (b.counted.of_frames.decoder LinkSmall) in
    let same_other_proto : s.other_proto ≡ u.other_proto = a.counted.of_frames.decoder OtherProto ∙ sym (b.counted.of_frames.decoder OtherProto) in
    let same_tcp_header : s.tcp_header ≡ u.tcp_header = a.counted.of_frames.decoder TcpHeader ∙ sym (b.counted.of_frames.decoder TcpHeader) in
    let same_tcp_small : s.tcp_small ≡ u.tcp_small = a.counted.of_frames.decoder TcpSmall ∙ sym (b.counted.of_frames.decoder TcpSmall) in
    let same_udp_small : s.udp_small ≡ u.udp_small = a.counted.of_frames.decoder UdpSmall ∙ sym (b.counted.of_frames.decoder UdpSmall) in
    let same_vlan_deep : s.vlan_deep ≡ u.vlan_deep = a.counted.of_frames.decoder VlanDeep ∙ sym (b.counted.of_frames.decoder VlanDeep) in
    let same_vlan_small : s.vlan_small ≡ u.vlan_small = a.counted.of_frames.decoder VlanSmall ∙ sym (b.counted.of_frames.decoder VlanSmall) in
    let same_records : s.records ≡ u.records = a.counted.of_records.records ∙ sym b.counted.of_records.records in
    let same_packets : s.packets ≡ u.packets = a.counted.of_records.packets ∙ sym b.counted.of_records.packets in
    let same_flow_bytes : s.flow_bytes ≡ u.flow_bytes = a.counted.of_records.bytes ∙ sym b.counted.of_records.bytes in
    let same_timeout : s.timeout ≡ u.timeout = a.counted.of_records.timeout ∙ sym b.counted.of_records.timeout in
    let same_tcp_reuse : s.tcp_reuse ≡ u.tcp_reuse = a.counted.of_records.tcp_reuse ∙ sym b.counted.of_records.tcp_reuse in
    let same_forced : s.forced ≡ u.forced = a.counted.of_records.forced ∙ sym b.counted.of_records.forced in
    let same_shutdown : s.shutdown ≡ u.shutdown = a.counted.of_records.shutdown ∙ sym b.counted.of_records.shutdown in
    let same_emergency : s.emergency ≡ u.emergency = a.counted.of_records.emergency ∙ sym b.counted.of_records.emergency in
    let same_no_flow : s.no_flow ≡ u.no_flow = a.short.no_flow ∙ sym b.short.no_flow in
    let same_memcap_full : s.memcap_full ≡ u.memcap_full = a.short.memcap_full ∙ sym b.short.memcap_full in
    let same_segment_full : s.segment_full ≡ u.segment_full = a.short.segment_full ∙ sym b.short.segment_full in
    let same_emergency_entered : s.emergency_entered ≡ u.emergency_entered = a.short.emergency_entered ∙ sym b.short.emergency_entered in
    λ i. record {
      clock = same_clock i;
      capture_bytes = same_capture_bytes i;
      cut_bytes = same_cut_bytes i;
      frames = same_frames i;
      ethertype = same_ethertype i;
      fragment = same_fragment i;
      icmp_small = same_icmp_small i;
      ip_extensions = same_ip_extensions i;
      ip_header = same_ip_header i;
      ip_small = same_ip_small i;
      ip_version = same_ip_version i;
      link_small = same_link_small i;
      other_proto = same_other_proto i;
      tcp_header = same_tcp_header i;
      tcp_small = same_tcp_small i;
      udp_small = same_udp_small i;
      vlan_deep = same_vlan_deep i;
      vlan_small = same_vlan_small i;
      records = same_records i;
      packets = same_packets i;
      flow_bytes = same_flow_bytes i;
      timeout = same_timeout i;
      tcp_reuse = same_tcp_reuse i;
      forced = same_forced i;
      shutdown = same_shutdown i;
      emergency = same_emergency i;
      no_flow = same_no_flow i;
      memcap_full = same_memcap_full i;
      segment_full = same_segment_full i;
      emergency_entered = same_emergency_entered i;
    }

-- so they are the same whatever the layout
pub alike_counts : (w v : Setup) (trail other : Trailed) → IsSetup w → IsSetup v → AreScripted w (histories_of trail) → AreScripted v (histories_of other)
    → IsQuiet (histories_of trail) → IsQuiet (histories_of other) → w.capture ≡ v.capture → (lines : List FlowLine) (s u : Stats)
    → IsStatsOf w.capture lines trail s → IsStatsOf v.capture lines other u → s ≡ u
alike_counts w v trail other d e l m q r c lines s u x y =
    one_count w.capture lines s u (plain_counts w trail d l q lines s x)
    (subst (λ (k : Captured). ArePlainCounts k lines u) (sym c) (plain_counts v other e m r lines u y))
