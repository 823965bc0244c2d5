-- Two packets have the same key exactly where they are of the same flow.
use Rattle.std.proofs.Common.{◌≡◌, ℕ, ◌<◌, ◌^◌, Bool, true, false, ◌⊎◌, inl, inr, Option, Some, None, refl, sym, ap, ◌∙◌}
use Rattle.std.specs.Prelude.{◌↔◌, ◌||◌, if◌then◌else◌, is_none, unwrap_or, IsSome}
use Rattle.suri_base.specs.Keys.{is_at_most}
use Rattle.suri_base.specs.Protocols.{is_icmp}
use Rattle.suri_base.specs.Vlans.{vlan_list}
use Rattle.suri_base.specs.declared.facts.IcmpFacts.{IcmpFacts}
use Rattle.suri_base.specs.declared.key.End.{End}
use Rattle.suri_base.specs.declared.key.Key.{Key}
use Rattle.suri_base.specs.declared.key.Vlans.{Vlans}
use Rattle.packet_decode.specs.declared.whole.View.{View}
use Rattle.flow_key.specs.Ends.{destination_end, destination_port, has_no_counterpart, is_one_way, source_end, source_port}
use Rattle.flow_key.specs.Keyed.{keyed_of, source_first}
use Rattle.flow_key.specs.Pairs.{counterpart_of}
use Rattle.flow_key.specs.SameFlow.{Answers, IsKeyable, SameFlow, SameOrdered}
use Rattle.flow_key.proofs.Order.{greater, greater-swap, in_order, lesser, lesser-swap, same_two}
use Rattle.flow_key.proofs.Symmetry.{counterpart_of_symmetric}
use Rattle.flow_key.proofs.Tags.{same_tags}

abbrev first_end : View → End
first_end v = if source_first v then source_end v else destination_end v

abbrev second_end : View → End
second_end v = if source_first v then destination_end v else source_end v

-- the ends of a key that is one-way, and of one that isn't
one_way_first : (v : View) → is_one_way v ≡ true → first_end v ≡ source_end v
one_way_first v e = ap (λ t. if t || is_at_most (source_end v) (destination_end v) then source_end v else destination_end v) e

one_way_second : (v : View) → is_one_way v ≡ true → second_end v ≡ destination_end v
one_way_second v e = ap (λ t. if t || is_at_most (source_end v) (destination_end v) then destination_end v else source_end v) e

paired_first : (v : View) → is_one_way v ≡ false → first_end v ≡ lesser (source_end v) (destination_end v)
paired_first v e = ap (λ t. if t || is_at_most (source_end v) (destination_end v) then source_end v else destination_end v) e

paired_second : (v : View) → is_one_way v ≡ false → second_end v ≡ greater (source_end v) (destination_end v)
paired_second v e = ap (λ t. if t || is_at_most (source_end v) (destination_end v) then destination_end v else source_end v) e

-- from equal keys to the same flow
flow_of_keys : (v w : View) → (keyed_of v).key ≡ (keyed_of w).key → SameFlow v w
unfolding keyed_of
flow_of_keys v w e =
    let ways : is_one_way v ≡ is_one_way w = ap (λ (k : Key). k.one_way) e in
    let first : first_end v ≡ first_end w = ap (λ (k : Key). k.a) e in
    let second : second_end v ≡ second_end w = ap (λ (k : Key). k.b) e in
    record {
      vlans = ap (λ (k : Key). vlan_list k.vlans) e;
      version = ap (λ (k : Key). k.version) e;
      protocol = ap (λ (k : Key). k.proto) e;
      one_way = λ t.
          let u = sym ways ∙ t in
          (sym (one_way_first v t) ∙ first ∙ one_way_first w u, sym (one_way_second v t) ∙ second ∙ one_way_second w u);
      paired = λ t.
          let u = sym ways ∙ t in
          same_two (source_end v) (destination_end v) (source_end w) (destination_end w) (sym (paired_first v t) ∙ first ∙ paired_first w u)
          (sym (paired_second v t) ∙ second ∙ paired_second w u);
    }

-- a type that has a counterpart is the counterpart of one
has_one : (version a b : ℕ) → counterpart_of version a ≡ Some b → is_none (counterpart_of version b) ≡ false
has_one version a b e = ap is_none (counterpart_of_symmetric version a b e)

-- what a message with a counterpart asks of has a counterpart too
answered : (version dport : ℕ) (i j : IcmpFacts) → is_none (counterpart_of version i.kind) ≡ false → destination_port version dport (Some i) ≡ j.kind
    → is_none (counterpart_of version j.kind) ≡ false
answered version dport i j some is = by_answer (counterpart_of version i.kind) refl some is
  where
    by_answer : (o : Option ℕ) → counterpart_of version i.kind ≡ o → is_none o ≡ false → unwrap_or o i.code ≡ j.kind → is_none (counterpart_of version j.kind) ≡ false
    by_answer None known none same = absurd (cc)
    by_answer (Some k) known none same = has_one version i.kind j.kind (known ∙ ap Some same)

-- packets with the same ends are both one-way or both not
ways_same : (version sport dport port : ℕ) (o p : Option IcmpFacts) → (IsSome o ↔ IsSome p) → (has_no_counterpart version o ≡ true → source_port sport o ≡ source_port port p)
    → (has_no_counterpart version o ≡ false → (source_port sport o ≡ source_port port p) ⊎ (destination_port version dport o ≡ source_port port p))
    → has_no_counterpart version o ≡ has_no_counterpart version p
ways_same version sport dport port None None both ordered paired = refl
ways_same version sport dport port None (Some j) both ordered paired = absurd (none_some (both.1 refl))
  where
    none_some : false ≡ true → ⊥
    none_some e = cc
ways_same version sport dport port (Some i) None both ordered paired = absurd (none_some (both.0 refl))
  where
    none_some : false ≡ true → ⊥
    none_some e = cc
ways_same version sport dport port (Some i) (Some j) both ordered paired = by_way (is_none (counterpart_of version i.kind)) refl
  where
    same_kind : i.kind ≡ j.kind → is_none (counterpart_of version i.kind) ≡ is_none (counterpart_of version j.kind)
    same_kind same = ap (λ k. is_none (counterpart_of version k)) same

    by_end : is_none (counterpart_of version i.kind) ≡ false → (i.kind ≡ j.kind) ⊎ (destination_port version dport (Some i) ≡ j.kind)
        → is_none (counterpart_of version i.kind) ≡ is_none (counterpart_of version j.kind)
    by_end e (inl same) = same_kind same
    by_end e (inr is) = e ∙ sym (answered version dport i j e is)

    by_way : (t : Bool) → is_none (counterpart_of version i.kind) ≡ t → is_none (counterpart_of version i.kind) ≡ is_none (counterpart_of version j.kind)
    by_way true e = same_kind (ordered e)
    by_way false e = by_end e (paired e)

source_ports : (v w : View) → SameOrdered v w ⊎ Answers v w
    → (source_port v.l4.sport v.l4.icmp ≡ source_port w.l4.sport w.l4.icmp) ⊎ (destination_port v.ip.version v.l4.dport v.l4.icmp ≡ source_port w.l4.sport w.l4.icmp)
source_ports v w (inl ordered) = inl (ap (λ (e : End). e.port) ordered.0)
source_ports v w (inr answers) = inr (ap (λ (e : End). e.port) answers.1)

-- of two packets with the same version and protocol both are ICMP or both not
both_icmp : (v w : View) → IsKeyable v → IsKeyable w → SameFlow v w → IsSome v.l4.icmp ↔ IsSome w.l4.icmp
both_icmp v w kv kw s =
    let same : is_icmp v.ip.version v.ip.proto ≡ is_icmp w.ip.version w.ip.proto = ap (λ n. is_icmp n v.ip.proto) s.version ∙ ap (is_icmp w.ip.version) s.protocol in
    (λ some. kw.icmp.1 (sym same ∙ kv.icmp.0 some), λ some. kv.icmp.1 (same ∙ kw.icmp.0 some))

one_way_same : (v w : View) → IsKeyable v → IsKeyable w → SameFlow v w → is_one_way v ≡ is_one_way w
one_way_same v w kv kw s =
    ways_same v.ip.version v.l4.sport v.l4.dport w.l4.sport v.l4.icmp w.l4.icmp (both_icmp v w kv kw s) (λ t. ap (λ (e : End). e.port) (s.one_way t).0) (λ t. source_ports v w (s.paired t))
    ∙ ap (λ n. has_no_counterpart n w.l4.icmp) s.version

-- two ends in any order
any_order : (f : End → End → End) → ((a b : End) → f a b ≡ f b a) → (v w : View) → SameOrdered v w ⊎ Answers v w
    → f (source_end v) (destination_end v) ≡ f (source_end w) (destination_end w)
any_order f swap v w (inl same) = ap (λ a. f a (destination_end v)) same.0 ∙ ap (f (source_end w)) same.1
any_order f swap v w (inr same) = ap (λ a. f a (destination_end v)) same.0 ∙ ap (f (destination_end w)) same.1 ∙ swap (destination_end w) (source_end w)

first_same : (v w : View) → is_one_way v ≡ is_one_way w → SameFlow v w → first_end v ≡ first_end w
first_same v w ways s = by_way (is_one_way v) refl
  where
    by_way : (t : Bool) → is_one_way v ≡ t → first_end v ≡ first_end w
    by_way true e = one_way_first v e ∙ (s.one_way e).0 ∙ sym (one_way_first w (sym ways ∙ e))
    by_way false e = paired_first v e ∙ any_order lesser lesser-swap v w (s.paired e) ∙ sym (paired_first w (sym ways ∙ e))

second_same : (v w : View) → is_one_way v ≡ is_one_way w → SameFlow v w → second_end v ≡ second_end w
second_same v w ways s = by_way (is_one_way v) refl
  where
    by_way : (t : Bool) → is_one_way v ≡ t → second_end v ≡ second_end w
    by_way true e = one_way_second v e ∙ (s.one_way e).1 ∙ sym (one_way_second w (sym ways ∙ e))
    by_way false e = paired_second v e ∙ any_order greater greater-swap v w (s.paired e) ∙ sym (paired_second w (sym ways ∙ e))

abbrev made : Vlans → ℕ → ℕ → Bool → End → End → Key
made vlans version proto one_way a b = record { vlans = vlans; version = version; proto = proto; one_way = one_way; a = a; b = b }

key_same : (k l : Key) → k.vlans ≡ l.vlans → k.version ≡ l.version → k.proto ≡ l.proto → k.one_way ≡ l.one_way → k.a ≡ l.a → k.b ≡ l.b → k ≡ l
key_same k l vlans version proto one_way a b =
    ap (λ x. made x k.version k.proto k.one_way k.a k.b) vlans ∙ ap (λ x. made l.vlans x k.proto k.one_way k.a k.b) version
    ∙ ap (λ x. made l.vlans l.version x k.one_way k.a k.b) proto ∙ ap (λ x. made l.vlans l.version l.proto x k.a k.b) one_way
    ∙ ap (λ x. made l.vlans l.version l.proto l.one_way x k.b) a ∙ ap (made l.vlans l.version l.proto l.one_way l.a) b

-- from the same flow to equal keys
key_of_flow : (v w : View) → IsKeyable v → IsKeyable w → SameFlow v w → (keyed_of v).key ≡ (keyed_of w).key
unfolding keyed_of
key_of_flow v w kv kw s =
    let ways = one_way_same v w kv kw s in
    key_same (keyed_of v).key (keyed_of w).key (same_tags v.vlans w.vlans kv.vlans kw.vlans s.vlans) s.version s.protocol ways (first_same v w ways s) (second_same v w ways s)

pub same_keys : (v w : View) → IsKeyable v → IsKeyable w → ((keyed_of v).key ≡ (keyed_of w).key) ↔ SameFlow v w
same_keys v w kv kw = (flow_of_keys v w, key_of_flow v w kv kw)

-- in a key that isn't one-way the lesser end comes first
ends_in_order : (v : View) → is_one_way v ≡ false → is_at_most (first_end v) (second_end v) ≡ true
ends_in_order v e =
    ap (λ a. is_at_most a (second_end v)) (paired_first v e) ∙ ap (is_at_most (lesser (source_end v) (destination_end v))) (paired_second v e)
    ∙ in_order (source_end v) (destination_end v)

pub key_in_order : (v : View) → (keyed_of v).key.one_way ≡ false → is_at_most (keyed_of v).key.a (keyed_of v).key.b ≡ true
unfolding keyed_of
key_in_order v e = ends_in_order v e

-- each end of a key has an address of the packet
pub key_addresses : (v : View) → (v.ip.src < 2 ^ 32) × (v.ip.dst < 2 ^ 32) → ((keyed_of v).key.a.addr < 2 ^ 32) × ((keyed_of v).key.b.addr < 2 ^ 32)
unfolding keyed_of
key_addresses v small = by_test (source_first v)
  where
    by_test : (t : Bool) → ((if t then source_end v else destination_end v).addr < 2 ^ 32) × ((if t then destination_end v else source_end v).addr < 2 ^ 32)
    by_test true = small
    by_test false = (small.1, small.0)
