-- The facts of a frame are its own, and its key is in order and can be named.
use Rattle.std.proofs.Common.{◌≡◌, ℕ, ◌+◌, ◌^◌, ◌<◌, ◌≤◌, ◌⊎◌, ◌↔◌, List, refl, ap, sym, ◌∙◌, subst, false, arith}
use Rattle.std.specs.Prelude.{IsSome, IsTrue, Result, Ok, Err}
use Rattle.flow_key.specs.Keyed.{keyed_of}
use Rattle.flow_key.specs.SameFlow.{IsKeyable}
use Rattle.flow_key.specs.declared.keyed.Keyed.{Keyed}
use Rattle.packet_decode.specs.Layers.{view_of}
use Rattle.packet_decode.specs.declared.whole.View.{View}
use Rattle.suri_base.specs.Capture.{AreFactsOf, IsKey, IsSeenOf}
use Rattle.suri_base.specs.Keys.{is_at_most}
use Rattle.suri_base.specs.Protocols.{is_icmp}
use Rattle.suri_base.specs.Vlans.{AreVlans}
use Rattle.suri_base.specs.declared.counter.Counter.{Counter}
use Rattle.suri_base.specs.declared.facts.Facts.{Facts}
use Rattle.suri_base.specs.declared.frame.Frame.{Frame}
use Rattle.suri_base.specs.declared.key.Vlans.{Vlans}
use Rattle.suri_base.specs.declared.seen.Seen.{Seen}
use Rattle.suri_base.specs.declared.seen.Seen.TheVariants.{Bears}
use Rattle.capture_index.specs.Decode.{facts_from, seen_from, seen_of}
use Rattle.suri_base.specs.Keys.{IsNameable}

vlans_of_key : (v : View) (k : Keyed) → k ≡ keyed_of v → k.key.vlans ≡ v.vlans
unfolding keyed_of
vlans_of_key v k is = ap (λ (x : Keyed). x.key.vlans) is

version_of_key : (v : View) (k : Keyed) → k ≡ keyed_of v → k.key.version ≡ v.ip.version
unfolding keyed_of
version_of_key v k is = ap (λ (x : Keyed). x.key.version) is

-- the key of a view is in order
pub key_in_order : (v : View) (k : Keyed) → IsKeyable v → k ≡ keyed_of v → (k.key.one_way ≡ false → IsTrue (is_at_most k.key.a k.key.b)) → IsKey k.key
key_in_order v k able is order =
    let same : v.vlans ≡ k.key.vlans = sym (vlans_of_key v k is) in
    record {
      vlans = subst (λ (w : Vlans). AreVlans w) same able.vlans;
      order = order;
    }

-- the key of a view can be named
pub key_nameable : (v : View) (k : Keyed) → k ≡ keyed_of v → (v.ip.version ≡ 4) ⊎ (v.ip.version ≡ 6) → (v.ip.version ≡ 4 → (v.ip.src < 2 ^ 32) × (v.ip.dst < 2 ^ 32))
    → ((v.ip.src < 2 ^ 32) × (v.ip.dst < 2 ^ 32) → (k.key.a.addr < 2 ^ 32) × (k.key.b.addr < 2 ^ 32)) → IsNameable k.key
key_nameable v k is version small keeps =
    let same : v.ip.version ≡ k.key.version = sym (version_of_key v k is) in
    record {
      version = subst (λ (n : ℕ). (n ≡ 4) ⊎ (n ≡ 6)) same version;
      addresses = subst (λ (n : ℕ). n ≡ 4 → (k.key.a.addr < 2 ^ 32) × (k.key.b.addr < 2 ^ 32)) same (λ four. keeps (small four));
    }

-- the facts of a frame are its own
pub facts_own : (size : ℕ) (frame : Frame) (clock : ℕ) (v : View) (f : Facts) → f ≡ facts_from frame clock v → frame.at + (v.l4.pay_at + v.l4.pay_len) ≤ size
    → IsSome v.l4.tcp ↔ (v.ip.proto ≡ 6) → IsSome v.l4.icmp ↔ IsTrue (is_icmp v.ip.version v.ip.proto) → IsKey f.key → AreFactsOf size frame clock f
unfolding keyed_of
facts_own size frame clock v f is inside tcp icmp key =
    subst (λ (g : Facts). IsKey g.key → AreFactsOf size frame clock g) (sym is)
    (λ key. record { number = refl; time = refl; clock = refl; inside = omega (arith, inside); tcp = tcp; icmp = icmp; key = key }) key

-- what becomes of a frame whose headers say this is its own
pub seen_own : (size link : ℕ) (frame : Frame) (clock : ℕ) (bytes : List ℕ) (v : View) (f : Facts) → view_of link bytes ≡ Ok v → f ≡ facts_from frame clock v → AreFactsOf size frame clock f
    → IsSeenOf size frame clock (seen_of link frame clock bytes)
unfolding seen_of
seen_own size link frame clock bytes v f view is own =
    let same : Bears f ≡ seen_from frame clock (view_of link bytes) = ap Bears is ∙ ap (seen_from frame clock) (sym view) in
    subst (λ (s : Seen). IsSeenOf size frame clock s) same own

-- the facts of a frame have its length
pub facts_len : (frame : Frame) (clock : ℕ) (view : Result View Counter) (f : Facts) → seen_from frame clock view ≡ Bears f → f.len ≡ frame.len
facts_len frame clock (Ok v) f is = cc
facts_len frame clock (Err counter) f is = cc
