-- The counts of an object stay in range.
use Rattle.std.proofs.Common.{◌≡◌, ◌≢◌, ℕ, ◌+◌, ◌*◌, ◌^◌, ◌<◌, ◌≤◌, List, [], ◌∷◌, Bool, true, false, not, cond, Option, Some, None, length, arith, sym, ap, subst, ◌∙◌, ⊎_elim, refl}
use Rattle.std.specs.Option.{is_some, option_to_list}
use Rattle.std.specs.Prelude.{sum_by}
use Rattle.std.proofs.lemmas.List.Sums.{sum_by-cons}
use Rattle.suri_base.specs.Keys.{is_side, other_side}
use Rattle.suri_base.specs.declared.app.App.{App}
use Rattle.suri_base.specs.declared.facts.Facts.{Facts}
use Rattle.suri_base.specs.declared.key.Side.{Side}
use Rattle.suri_base.specs.declared.stream.Offer.{Offer}
use Rattle.suri_base.specs.declared.stream.Offer.TheVariants as offer
use Rattle.bucket_rules.specs.Own.{is_needing}
use Rattle.reassembly.specs.Kept.{KeptStream}
use Rattle.reassembly.specs.Members.{Member}
use Rattle.segment_tree.specs.declared.spot.Spot.{Spot}
use Rattle.flow_sum.specs.Run.{Run, alone, first_of, members, with_one_more}
use Rattle.flow_sum.specs.Sums.{client_of, sent_by, sums_of}
use Rattle.flow_sum.specs.declared.sums.Sums.{Sums}
use Rattle.flow_object.specs.Object.{Object, nodes_in}
use Rattle.flow_object.specs.Standing.{AsksFor, NewestAsks, StandsBeside, StandsFor}
use Rattle.flow_object.specs.Streams.{to_client, to_server}
use Rattle.flow_object.proofs.Absorbing.{is_side-other}
use Rattle.bucket_flow.specs.Held.{IsSmall, StandsIf, asking_in, one_if, packets_in}

-- sums, session and verdict are those of the run, whether its newest packet asks or not
pub beside_if : (asks : Bool) (o : Object) (bytes : List ℕ) (r : Run) (judged : List App) → StandsIf asks o bytes r judged
    → StandsBeside o bytes r judged
beside_if true o bytes r judged k = k.beside
beside_if false o bytes r judged k = k.beside

-- a packet is of one direction
both_sides : (client : Side) (f : Facts) (fs : List Facts)
    → length (sent_by client (f ∷ fs)) + length (sent_by (other_side client) (f ∷ fs)) ≡ (length (sent_by client fs) + length (sent_by (other_side client) fs)) + 1
both_sides client f fs = step (is_side f.side client) (is_side f.side (other_side client)) (is_side-other f.side client) (sent_by client fs) (sent_by (other_side client) fs)
  where
    step : (b c : Bool) → c ≡ not b → (xs ys : List Facts) → length (cond b (f ∷ xs) xs) + length (cond c (f ∷ ys) ys) ≡ (length xs + length ys) + 1
    step true true e xs ys = cc
    step true false e xs ys = omega arith
    step false true e xs ys = omega arith
    step false false e xs ys = cc

bytes_more : (side : Side) (f : Facts) (fs : List Facts) → f.len < 2 ^ 32
    → sum_by (λ (g : Facts). g.len) (sent_by side fs) ≤ length (sent_by side fs) * 2 ^ 32
    → sum_by (λ (g : Facts). g.len) (sent_by side (f ∷ fs)) ≤ length (sent_by side (f ∷ fs)) * 2 ^ 32
bytes_more side f fs short before = step (is_side f.side side) (sent_by side fs) before
  where
    step : (b : Bool) (xs : List Facts) → sum_by (λ (g : Facts). g.len) xs ≤ length xs * 2 ^ 32
        → sum_by (λ (g : Facts). g.len) (cond b (f ∷ xs) xs) ≤ length (cond b (f ∷ xs) xs) * 2 ^ 32
    step true xs h = omega (arith, sum_by-cons (λ (g : Facts). g.len) f xs, h, short)
    step false xs h = h

few_asks : (b : Bool) → one_if b ≤ 1
few_asks true = omega arith
few_asks false = omega arith

none_asks : (o : Option Spot) → o ≡ None → one_if (is_some o) ≡ 0
none_asks o e = ap (λ (x : Option Spot). one_if (is_some x)) e

newest_asks : (kept : KeptStream) (number : ℕ) (ms : List Member) → NewestAsks kept number ms → one_if (is_some kept.asked) ≡ 1
newest_asks kept number [] k = absurd k
newest_asks kept number (m ∷ older) k = ap (λ (x : Option Spot). one_if (is_some x)) k.1.asked

pub none_asking : (o : Object) (bytes : List ℕ) (r : Run) (judged : List App) → StandsFor o bytes r judged → asking_in o ≡ 0
none_asking o bytes r judged k = let a = none_asks o.ts.asked k.ts.settled in let b = none_asks o.tc.asked k.tc.settled in omega (arith, a, b)

pub one_asking : (o : Object) (bytes : List ℕ) (r : Run) (judged : List App) → AsksFor o bytes r judged → asking_in o ≡ 1
one_asking o bytes r judged k = ⊎_elim
    (λ m. let a = newest_asks o.ts r.newest.no (to_server bytes r) m.1 in let b = none_asks o.tc.asked m.2.settled in omega (arith, a, b))
    (λ m. let a = none_asks o.ts.asked m.1.settled in let b = newest_asks o.tc r.newest.no (to_client bytes r) m.2 in omega (arith, a, b))
    k.one

few_asking : (asks : Bool) (o : Object) (bytes : List ℕ) (r : Run) (judged : List App) → StandsIf asks o bytes r judged → asking_in o ≤ 1
few_asking true o bytes r judged k = let e = one_asking o bytes r judged k in omega (arith, e)
few_asking false o bytes r judged k = let e = none_asking o bytes r judged k in omega (arith, e)

-- with one packet more
pub small_more : (o p : Object) (bytes : List ℕ) (f : Facts) (r : Run) (judged : List App) (asks : Bool) → IsSmall o
    → o.sums.last_no < f.no → f.no < 2 ^ 32 → f.len < 2 ^ 32 → f.clock < 2 ^ 63
    → nodes_in p ≡ nodes_in o → StandsFor o bytes r judged → StandsIf asks p bytes (with_one_more f r) judged → IsSmall p
small_more o p bytes f r judged asks small later below short early nodes old new =
    let was : o.sums ≡ sums_of r = old.beside.sums in
    let now : p.sums ≡ sums_of (with_one_more f r) = (beside_if asks p bytes (with_one_more f r) judged new).sums in
    let client = client_of (first_of r) in
    let more = both_sides client f (members r) in
    let had : packets_in o ≡ length (sent_by client (members r)) + length (sent_by (other_side client) (members r)) = ap (λ (x : Sums). x.ts.pkts + x.tc.pkts) was in
    let has : packets_in p ≡ length (sent_by client (f ∷ members r)) + length (sent_by (other_side client) (f ∷ members r)) = ap (λ (x : Sums). x.ts.pkts + x.tc.pkts) now in
    let last : p.sums.last_no ≡ f.no = ap (λ (x : Sums). x.last_no) now in
    let clock : p.sums.last_clock ≡ f.clock = ap (λ (x : Sums). x.last_clock) now in
    let few = few_asking asks p bytes (with_one_more f r) judged new in
    record {
      packets = omega (arith, more, had, has, last, small.packets, later);
      to_server = subst (λ (x : Sums). x.ts.bytes ≤ x.ts.pkts * 2 ^ 32) (sym now) (bytes_more client f (members r) short (subst (λ (x : Sums). x.ts.bytes ≤ x.ts.pkts * 2 ^ 32) was small.to_server));
      to_client = subst (λ (x : Sums). x.tc.bytes ≤ x.tc.pkts * 2 ^ 32) (sym now) (bytes_more (other_side client) f (members r) short (subst (λ (x : Sums). x.tc.bytes ≤ x.tc.pkts * 2 ^ 32) was small.to_client));
      last = omega (arith, last, below);
      clock = omega (arith, clock, early);
      nodes = omega (arith, more, had, has, few, nodes, small.nodes);
    }

pub small_first : (p : Object) (bytes : List ℕ) (f : Facts) → 1 ≤ f.no → f.no < 2 ^ 32 → f.len < 2 ^ 32 → f.clock < 2 ^ 63 → nodes_in p ≡ 0
    → StandsFor p bytes (alone f) [] → IsSmall p
small_first p bytes f positive below short early nodes new =
    let now : p.sums ≡ sums_of (alone f) = new.beside.sums in
    let client = client_of f in
    let more = both_sides client f [] in
    let has : packets_in p ≡ length (sent_by client (f ∷ [])) + length (sent_by (other_side client) (f ∷ [])) = ap (λ (x : Sums). x.ts.pkts + x.tc.pkts) now in
    let last : p.sums.last_no ≡ f.no = ap (λ (x : Sums). x.last_no) now in
    let clock : p.sums.last_clock ≡ f.clock = ap (λ (x : Sums). x.last_clock) now in
    let none = none_asking p bytes (alone f) [] new in
    record {
      packets = omega (arith, more, has, last, positive);
      to_server = subst (λ (x : Sums). x.ts.bytes ≤ x.ts.pkts * 2 ^ 32) (sym now) (bytes_more client f [] short (omega arith));
      to_client = subst (λ (x : Sums). x.tc.bytes ≤ x.tc.pkts * 2 ^ 32) (sym now) (bytes_more (other_side client) f [] short (omega arith));
      last = omega (arith, last, below);
      clock = omega (arith, clock, early);
      nodes = omega (arith, none, nodes);
    }

-- the newest packet was settled, in a node at most
pub small_settled : (o p : Object) (bytes : List ℕ) (r : Run) (judged : List App) (more : ℕ) → IsSmall o → more ≤ 1 → nodes_in p ≡ nodes_in o + more
    → AsksFor o bytes r judged → StandsFor p bytes r judged → IsSmall p
small_settled o p bytes r judged more small one nodes old new =
    let same : p.sums ≡ o.sums = new.beside.sums ∙ sym old.beside.sums in
    let had = one_asking o bytes r judged old in
    let none = none_asking p bytes r judged new in
    let packets : packets_in p ≡ packets_in o = ap (λ (x : Sums). x.ts.pkts + x.tc.pkts) same in
    record {
      packets = subst (λ (x : Sums). x.ts.pkts + x.tc.pkts ≤ x.last_no) (sym same) small.packets;
      to_server = subst (λ (x : Sums). x.ts.bytes ≤ x.ts.pkts * 2 ^ 32) (sym same) small.to_server;
      to_client = subst (λ (x : Sums). x.tc.bytes ≤ x.tc.pkts * 2 ^ 32) (sym same) small.to_client;
      last = subst (λ (x : Sums). x.last_no < 2 ^ 32) (sym same) small.last;
      clock = subst (λ (x : Sums). x.last_clock < 2 ^ 63) (sym same) small.clock;
      nodes = omega (arith, one, nodes, had, none, packets, small.nodes);
    }

pub one_node : {X : Type 0} (o : Option X) → length (option_to_list o) ≡ one_if (is_some o)
one_node None = refl
one_node (Some x) = refl

pub one_more : {X : Type 0} (o : Option X) → length (option_to_list o) ≤ 1
one_more None = omega arith
one_more (Some x) = omega arith

-- the object after a packet joined, by the answer
pub joined_if : (said : Offer) (p : Object) (bytes : List ℕ) (r : Run) (judged : List App)
    → (said ≢ offer.NeedsSegment → StandsFor p bytes r judged) → (said ≡ offer.NeedsSegment → AsksFor p bytes r judged)
    → StandsIf (is_needing said) p bytes r judged
joined_if offer.InOrder p bytes r judged stands asks = stands (λ e. other_offer e)
  where
    other_offer : offer.InOrder ≡ offer.NeedsSegment → ⊥
    other_offer e = cc
joined_if offer.Nothing p bytes r judged stands asks = stands (λ e. other_offer e)
  where
    other_offer : offer.Nothing ≡ offer.NeedsSegment → ⊥
    other_offer e = cc
joined_if offer.Stopped p bytes r judged stands asks = stands (λ e. other_offer e)
  where
    other_offer : offer.Stopped ≡ offer.NeedsSegment → ⊥
    other_offer e = cc
joined_if offer.NeedsSegment p bytes r judged stands asks = asks refl
