-- The counts of frames, one after another: a frame that bears no flow is one more under its own counter and under no other. So over all
-- frames each one bears a flow or falls under one counter.
use Rattle.std.proofs.Common.{◌≡◌, ℕ, ◌+◌, ◌-◌, ◌^◌, ◌<◌, ◌≤◌, List, [], ◌∷◌, ◌++◌, Bool, true, false, cond, length, take, drop, get_or, refl, sym, ap, ◌∙◌, subst, arith, length-append, Some}
use Rattle.std.specs.Prelude.{slice_get}
use Rattle.std.proofs.lemmas.List.{take-append-drop, take_more}
use Rattle.std.proofs.lemmas.Option.{slice_get-get_or}
use Rattle.std.proofs.lemmas.List.Sums.{sum_by-cons, sum_by_push}
use Rattle.suri_base.specs.Capture.{counter_in, packets_in}
use Rattle.suri_base.specs.Counters.{counted_under, is_under}
use Rattle.suri_base.specs.declared.counter.Counter.{Counter}
use Rattle.suri_base.specs.declared.counter.Counter.TheVariants.{LinkSmall, VlanSmall, VlanDeep, Ethertype, IpSmall, IpVersion, IpHeader, IpExtensions, Fragment, TcpSmall, TcpHeader, UdpSmall, IcmpSmall, OtherProto}
use Rattle.suri_base.specs.declared.seen.Seen.{Seen}
use Rattle.suri_base.specs.declared.seen.Seen.TheVariants.{Bears, Counted}
use Rattle.run_counts.specs.declared.counts.Counts.{Counts}
use Rattle.run_counts.specs.Frames.{all_counted, counts_of, with_frame, with_one_under}

-- one more, or not
abbrev pub plus : Bool → ℕ → ℕ
plus true n = n + 1
plus false n = n

pub plus-is : (b : Bool) (n : ℕ) → n + cond b 1 0 ≡ plus b n
plus-is true n = refl
plus-is false n = omega arith

-- one frame more, counted by each counter
under-push : (c : Counter) (seen : List Seen) (s : Seen) → counted_under c (seen ++ s ∷ []) ≡ plus (is_under c s) (counted_under c seen)
under-push c seen s = sum_by_push (λ (t : Seen). cond (is_under c t) 1 0) seen s ∙ plus-is (is_under c s) (counted_under c seen)

under-cons : (c : Counter) (s : Seen) (seen : List Seen) → counted_under c (s ∷ seen) ≡ plus (is_under c s) (counted_under c seen)
under-cons c s seen = by (is_under c s) (sum_by-cons (λ (t : Seen). cond (is_under c t) 1 0) s seen)
  where
    by : (b : Bool) → counted_under c (s ∷ seen) ≡ cond b 1 0 + counted_under c seen → counted_under c (s ∷ seen) ≡ plus b (counted_under c seen)
    by true h = omega (arith, h)
    by false h = omega (arith, h)

abbrev each_plus : Seen → Counts → Counts
each_plus s c = record {
  link_small = plus (is_under LinkSmall s) c.link_small;
  vlan_small = plus (is_under VlanSmall s) c.vlan_small;
  vlan_deep = plus (is_under VlanDeep s) c.vlan_deep;
  ethertype = plus (is_under Ethertype s) c.ethertype;
  ip_small = plus (is_under IpSmall s) c.ip_small;
  ip_version = plus (is_under IpVersion s) c.ip_version;
  ip_header = plus (is_under IpHeader s) c.ip_header;
  ip_extensions = plus (is_under IpExtensions s) c.ip_extensions;
  fragment = plus (is_under Fragment s) c.fragment;
  tcp_small = plus (is_under TcpSmall s) c.tcp_small;
  tcp_header = plus (is_under TcpHeader s) c.tcp_header;
  udp_small = plus (is_under UdpSmall s) c.udp_small;
  icmp_small = plus (is_under IcmpSmall s) c.icmp_small;
  other_proto = plus (is_under OtherProto s) c.other_proto;
}

-- it is counted by its own counter alone
each_plus-is : (s : Seen) (c : Counts) → each_plus s c ≡ with_frame s c
each_plus-is (Bears f) c = refl
each_plus-is (Counted d) c = own d
  where
    own : (d : Counter) → each_plus (Counted d) c ≡ with_one_under d c
    own LinkSmall = refl
    own VlanSmall = refl
    own VlanDeep = refl
    own Ethertype = refl
    own IpSmall = refl
    own IpVersion = refl
    own IpHeader = refl
    own IpExtensions = refl
    own Fragment = refl
    own TcpSmall = refl
    own TcpHeader = refl
    own UdpSmall = refl
    own IcmpSmall = refl
    own OtherProto = refl

counts-push : (seen : List Seen) (s : Seen) → counts_of (seen ++ s ∷ []) ≡ each_plus s (counts_of seen)
unfolding counts_of
counts-push seen s = λ i. record {
  link_small = under-push LinkSmall seen s i;
  vlan_small = under-push VlanSmall seen s i;
  vlan_deep = under-push VlanDeep seen s i;
  ethertype = under-push Ethertype seen s i;
  ip_small = under-push IpSmall seen s i;
  ip_version = under-push IpVersion seen s i;
  ip_header = under-push IpHeader seen s i;
  ip_extensions = under-push IpExtensions seen s i;
  fragment = under-push Fragment seen s i;
  tcp_small = under-push TcpSmall seen s i;
  tcp_header = under-push TcpHeader seen s i;
  udp_small = under-push UdpSmall seen s i;
  icmp_small = under-push IcmpSmall seen s i;
  other_proto = under-push OtherProto seen s i;
}

counts-cons : (s : Seen) (seen : List Seen) → counts_of (s ∷ seen) ≡ each_plus s (counts_of seen)
unfolding counts_of
counts-cons s seen = λ i. record {
  link_small = under-cons LinkSmall s seen i;
  vlan_small = under-cons VlanSmall s seen i;
  vlan_deep = under-cons VlanDeep s seen i;
  ethertype = under-cons Ethertype s seen i;
  ip_small = under-cons IpSmall s seen i;
  ip_version = under-cons IpVersion s seen i;
  ip_header = under-cons IpHeader s seen i;
  ip_extensions = under-cons IpExtensions s seen i;
  fragment = under-cons Fragment s seen i;
  tcp_small = under-cons TcpSmall s seen i;
  tcp_header = under-cons TcpHeader s seen i;
  udp_small = under-cons UdpSmall s seen i;
  icmp_small = under-cons IcmpSmall s seen i;
  other_proto = under-cons OtherProto s seen i;
}

-- a frame that bears no flow is one more under all counters together
one_more : (d : Counter) (c : Counts) → all_counted (with_one_under d c) ≡ all_counted c + 1
one_more LinkSmall c = omega arith
one_more VlanSmall c = omega arith
one_more VlanDeep c = omega arith
one_more Ethertype c = omega arith
one_more IpSmall c = omega arith
one_more IpVersion c = omega arith
one_more IpHeader c = omega arith
one_more IpExtensions c = omega arith
one_more Fragment c = omega arith
one_more TcpSmall c = omega arith
one_more TcpHeader c = omega arith
one_more UdpSmall c = omega arith
one_more IcmpSmall c = omega arith
one_more OtherProto c = omega arith

none_counted : all_counted (counts_of []) ≡ 0
unfolding counts_of
none_counted = refl

-- each frame bears a flow or falls under one counter
pub frames_once : (seen : List Seen) → all_counted (counts_of seen) + length (packets_in seen) ≡ length seen
frames_once [] = omega (arith, none_counted)
frames_once (s ∷ seen) = by s (frames_once seen)
  where
    by : (s : Seen) → all_counted (counts_of seen) + length (packets_in seen) ≡ length seen → all_counted (counts_of (s ∷ seen)) + length (packets_in (s ∷ seen)) ≡ length (s ∷ seen)
    by (Bears f) h = omega (arith, h, ap all_counted (counts-cons (Bears f) seen))
    by (Counted c) h =
        let counts : counts_of (Counted c ∷ seen) ≡ with_one_under c (counts_of seen) = counts-cons (Counted c) seen ∙ each_plus-is (Counted c) (counts_of seen) in
        omega (arith, h, ap all_counted counts, one_more c (counts_of seen))

-- the counts of the frames up to a place are in range
pub counts_small : (seen : List Seen) (i : ℕ) (c : Counts) → c ≡ counts_of (take i seen) → length seen ≤ 4194304 → all_counted c < 2 ^ 32
counts_small seen i c is few =
    let size : length (take i seen) ≤ length seen = omega (arith, ap (λ (l : List Seen). length l) (take-append-drop i seen), length-append (take i seen) (drop i seen)) in
    omega (arith, frames_once (take i seen), size, ap all_counted is)

-- a frame that bears no flow is counted under its own counter
pub counted_one : (seen : Seen) (old new : Counts) (c : Counter) → Some c ≡ counter_in seen → new ≡ with_one_under c old → new ≡ with_frame seen old
counted_one (Bears f) old new c under is = cc
counted_one (Counted d) old new c under is = let same : c ≡ d = cc in is ∙ ap (λ (x : Counter). with_one_under x old) same

-- the counts with the frame at a place
pub next_counts : (seen : List Seen) (i : ℕ) (old new : Counts) → i < length seen → old ≡ counts_of (take i seen) → ((s : Seen) → slice_get seen (i + 1 - 1) ≡ Some s → new ≡ with_frame s old)
    → new ≡ counts_of (take (i + 1) seen)
next_counts seen i old new lt is made =
    let s = get_or seen i (Counted LinkSmall) in
    let here : i ≡ i + 1 - 1 = omega arith in
    let one = made s (subst (λ n. slice_get seen n ≡ Some s) here (slice_get-get_or seen i (Counted LinkSmall) lt)) in
    let front : take (i + 1) seen ≡ take i seen ++ s ∷ [] = take_more seen i (Counted LinkSmall) lt in
    one ∙ (ap (λ (u : Counts). with_frame s u) is ∙ (sym (counts-push (take i seen) s ∙ each_plus-is s (counts_of (take i seen))) ∙ ap (λ (l : List Seen). counts_of l) (sym front)))
