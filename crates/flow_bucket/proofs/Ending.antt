-- What evictions, sweeps and the end of the capture are, against their entries.
use Rattle.std.proofs.Common.{◌≡◌, ℕ, ◌+◌, ◌-◌, ◌*◌, ◌<◌, ◌≤◌, ◌^◌, Bool, true, false, not, ◌&&◌, List, [], ◌++◌, length, map, filter, slice_get, remove, Some, refl, sym, ◌∙◌, ap, subst, arith}
use Rattle.std.proofs.lemmas.Option.{get_or_from_slice_get}
use Rattle.std.proofs.lemmas.List.{length-map}
use Rattle.std.specs.List.Sorted.{IsPermutation, IsNonDecreasingBy}
use Rattle.std.proofs.lemmas.List.Sorted.{IsPermutation-trans}
use Rattle.suri_base.specs.Capture.{IsCapture}
use Rattle.suri_base.specs.Clock.{clock_of}
use Rattle.suri_base.specs.declared.entry.Entry.{Entry}
use Rattle.suri_base.specs.declared.reason.Reason.TheVariants.{Forced}
use Rattle.flow_object.specs.Ending.{EndedFlow}
use Rattle.flow_uses.proofs.Sets.{few_below}
use Rattle.bucket_rules.specs.declared.fixed.Fixed.{Fixed}
use Rattle.suri_base.specs.declared.entry.BucketNote.{BucketNote}
use Rattle.suri_base.specs.declared.entry.BucketNote.TheVariants as note
use Rattle.bucket_rules.specs.Packets.{round_clock, last_clock}
use Rattle.bucket_rules.specs.Row.{Row, blank, off, row, after, has, is_here, made}
use Rattle.bucket_rules.specs.Rule.{MayEvict, MaySweep, MayDrain, Rule}
use Rattle.bucket_rules.specs.Sound.{IsSound, IsNumberSet}
use Rattle.bucket_flow.specs.Held.{Held, ended_by, ended_of, leaves}
use Rattle.bucket_flow.specs.Flows.{AreUsed, IsVictim, stays, swept_held, drained_held}
use Rattle.flow_bucket.specs.LetGo.{IsLetGo, runs}
use Rattle.flow_bucket.specs.Stands.{Stands, Did, Done}
use Rattle.flow_bucket.specs.declared.calls.BucketCall.TheVariants as call
use Rattle.flow_bucket.specs.declared.calls.BucketReply.TheVariants as reply
use Rattle.bucket_flow.proofs.Captured.{bearing_within}
use Rattle.flow_bucket.proofs.Doing.{did_same, count_gone, count_here, has_find, find_here, set_of_distinct}
use Rattle.flow_bucket.proofs.Evicting.{none_unused, first_unused, did_evict}
use Rattle.flow_bucket.proofs.Parting.{did_sweep, did_drain}
use Rattle.flow_bucket.proofs.Sorting.{set_from}
use Rattle.bucket_rules.proofs.Soundness.{sound}

-- runs are frames, so there are few

few_runs : (s : Fixed) (past : List (Entry BucketNote)) (xs : List ℕ) → IsCapture s.capture → IsSound s past
    → length s.capture.seen ≤ 4194304 → IsNumberSet xs → ((a : ℕ) → row s a past ≡ blank → has xs a ≡ false) → length xs < 2 ^ 32
few_runs s past xs is snd few set only = let k = few_below 4194305 xs set (λ a h. by a h (has (made past) a) refl) in omega (arith, k)
  where
    by : (a : ℕ) → has xs a ≡ true → (b : Bool) → has (made past) a ≡ b → a < 4194305
    by a h true e = let p = snd.borne a e in let k = bearing_within s.capture a p.0 p.1 in omega (arith, k, few)
    by a h false e = absurd (let m = only a (snd.begun a e) in clash m h)
      where
        clash : {b : Bool} → b ≡ false → b ≡ true → ⊥
        clash x y = cc

pub few_gone : (s : Fixed) (past : List (Entry BucketNote)) (n : BucketNote) (es : List EndedFlow) → IsCapture s.capture → IsSound s past
    → length s.capture.seen ≤ 4194304 → IsLetGo s past n es → length es < 2 ^ 32
few_gone s past n es is snd few gone =
    let k = few_runs s past (runs es) is snd few (set_from (runs es) gone.rise) (λ a e. gone.whole a ∙ ap (λ (w : Row). is_here w && not (is_here (after s a n (row s a past)))) e) in
    let m = length-map es (λ (e : EndedFlow). e.run) in omega (arith, k, m)

pub few_flows : (s : Fixed) (past : List (Entry BucketNote)) (flows : List Held) → IsCapture s.capture → length s.capture.seen ≤ 4194304
    → Stands s past flows → length flows < 2 ^ 32
few_flows s past flows is few st = subst (λ (m : ℕ). m < 2 ^ 32) (length-map flows (λ (f : Held). f.run))
    (few_runs s past (map (λ (f : Held). f.run) flows) is (sound s past st.legal) few (set_of_distinct flows st.distinct) (λ a e. has_find flows a ∙ find_here s past flows st a ∙ ap is_here e))

pub evict_none : (s : Fixed) (past : List (Entry BucketNote)) (role f : ℕ) (flows : List Held) (count : ℕ) → Stands s past flows
    → MayEvict s past role → AreUsed flows (length flows) → count ≡ length flows
    → Done s past role (call.Evict f) (reply.AllInUse count) (note.AllInUse f count) flows
evict_none s past role f flows count st may used same = record {
  rule = (may, none_unused s past flows st used, same ∙ count_here s past flows st);
  noted = refl;
  did = did_same s past (note.AllInUse f count) flows st (λ a. refl);
}

pub evict_some : (s : Fixed) (past : List (Entry BucketNote)) (role f : ℕ) (flows : List Held) (i : ℕ) (e : EndedFlow)
    → Stands s past flows → MayEvict s past role → (v : IsVictim flows (length flows) i)
    → e ≡ ended_by (off Forced false) v.flow → Done s past role (call.Evict f) (reply.Victim e) (note.Victim f e.run) (remove flows i)
evict_some s past role f flows i e st may v same =
    subst (λ (x : EndedFlow). Done s past role (call.Evict f) (reply.Victim x) (note.Victim f x.run) (remove flows i)) (sym same)
    (record { rule = (may, first_unused s past flows st i v); noted = refl; did = did_evict s past flows st f i v })

-- what a sweep does, and its rule
pub sweep_did : (s : Fixed) (past : List (Entry BucketNote)) (round clock : ℕ) (emergency : Bool) (seen count : ℕ) (flows next : List Held) (nobody gone es : List EndedFlow)
    → IsCapture s.capture → Stands s past flows → slice_get s.capture.clocks (round * s.layout.round + 1 - 1) ≡ Some clock → nobody ≡ []
    → next ≡ filter stays (map (swept_held s.capture (round * s.layout.round) clock emergency) flows)
    → IsPermutation (nobody ++ map ended_of (filter leaves (map (swept_held s.capture (round * s.layout.round) clock emergency) flows))) gone
    → IsPermutation gone es → IsNonDecreasingBy (λ (e : EndedFlow). e.run) es → Did s past (note.Swept round emergency seen count) next es
sweep_did s past round clock emergency seen count flows next nobody gone es is st at none k g p sorted =
    let same : round * s.layout.round + 1 - 1 ≡ round * s.layout.round = omega arith in
    let now : round_clock s round ≡ clock = get_or_from_slice_get s.capture.clocks (round * s.layout.round) clock 0 (subst (λ (m : ℕ). slice_get s.capture.clocks m ≡ Some clock) same at) in
    let next_is : next ≡ filter stays (map (swept_held s.capture (round * s.layout.round) (round_clock s round) emergency) flows)
    = k ∙ ap (λ (x : ℕ). filter stays (map (swept_held s.capture (round * s.layout.round) x emergency) flows)) (sym now) in
    let left_is : nobody ++ map ended_of (filter leaves (map (swept_held s.capture (round * s.layout.round) clock emergency) flows)) ≡ map ended_of (filter leaves (map (swept_held s.capture (round * s.layout.round) (round_clock s round) emergency) flows))
    = ap (λ (l : List EndedFlow). l ++ map ended_of (filter leaves (map (swept_held s.capture (round * s.layout.round) clock emergency) flows))) none ∙ ap (λ (x : ℕ). map ended_of (filter leaves (map (swept_held s.capture (round * s.layout.round) x emergency) flows))) (sym now) in
    subst (λ (l : List Held). Did s past (note.Swept round emergency seen count) l es) (sym next_is)
    (did_sweep s past flows round emergency seen count es is st (IsPermutation-trans _ gone es (subst (λ (l : List EndedFlow). IsPermutation l gone) left_is g) p) sorted)

pub sweep_rule : (s : Fixed) (past : List (Entry BucketNote)) (role round : ℕ) (emergency : Bool) (seen count : ℕ) (flows next : List Held) (es : List EndedFlow)
    → Stands s past flows → MaySweep s role round
    → Did s past (note.Swept round emergency seen count) next es → count ≡ length es → Rule s past role (note.Swept round emergency seen count)
sweep_rule s past role round emergency seen count flows next es st may did same = (may, same ∙ count_gone s past (note.Swept round emergency seen count) es (sound s past st.legal) did.gone)

pub drain_did : (s : Fixed) (past : List (Entry BucketNote)) (clock count : ℕ) (flows next : List Held) (nobody gone es : List EndedFlow)
    → Stands s past flows → clock ≡ clock_of s.capture.frames → nobody ≡ []
    → next ≡ filter stays (map (drained_held clock) flows) → IsPermutation (nobody ++ map ended_of (filter leaves (map (drained_held clock) flows))) gone
    → IsPermutation gone es → IsNonDecreasingBy (λ (e : EndedFlow). e.run) es → Did s past (note.Drained count) next es
drain_did s past clock count flows next nobody gone es st now none k g p sorted =
    let next_is : next ≡ filter stays (map (drained_held (last_clock s)) flows) = k ∙ ap (λ (x : ℕ). filter stays (map (drained_held x) flows)) now in
    let left_is : nobody ++ map ended_of (filter leaves (map (drained_held clock) flows)) ≡ map ended_of (filter leaves (map (drained_held (last_clock s)) flows))
    = ap (λ (l : List EndedFlow). l ++ map ended_of (filter leaves (map (drained_held clock) flows))) none ∙ ap (λ (x : ℕ). map ended_of (filter leaves (map (drained_held x) flows))) now in
    subst (λ (l : List Held). Did s past (note.Drained count) l es) (sym next_is)
    (did_drain s past flows count es st (IsPermutation-trans _ gone es (subst (λ (l : List EndedFlow). IsPermutation l gone) left_is g) p) sorted)

pub drain_rule : (s : Fixed) (past : List (Entry BucketNote)) (role count : ℕ) (flows next : List Held) (es : List EndedFlow)
    → Stands s past flows → MayDrain s past role
    → Did s past (note.Drained count) next es → count ≡ length es → Rule s past role (note.Drained count)
drain_rule s past role count flows next es st may did same = (may, same ∙ count_gone s past (note.Drained count) es (sound s past st.legal) did.gone)
