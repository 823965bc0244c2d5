-- What a stream keeps stands for one member more, by the answer to it.
use Rattle.std.proofs.Common.{◌≡◌, ◌≢◌, ℕ, ◌+◌, ◌-◌, ◌<◌, ◌≤◌, ◌%◌, ◌^◌, cond, Bool, true, false, List, [], ◌∷◌, ◌++◌, length, map, Option}
use Rattle.std.proofs.Common.{Some, None, refl, sym, ap, ◌∙◌, subst, arith}
use Rattle.std.specs.Prelude.{nat_eq, nat_lt, filter}
use Rattle.std.specs.Option.{option_or, unwrap_or}
use Rattle.sha1.specs.Sha1.{Holds}
use Rattle.sha1.specs.declared.Sha1.{Sha1}
use Rattle.suri_base.specs.declared.stream.Offer.TheVariants.{InOrder, Nothing, NeedsSegment, Stopped}
use Rattle.reassembly.specs.Kept.{Asks, IsBlank, KeptStream, Rises, Stands, Tells, newest_of, spot_in, waiting_among}
use Rattle.reassembly.specs.Members.{Member, base_of, before_stop, first_of, offer_of, part_of, parts_of, sequence_of, sets_base, stream_of}
use Rattle.reassembly.specs.Parts.{answer_to, beyond, bytes_from, byte_at, frontier_of, waiting_of, Part}
use Rattle.segment_tree.specs.declared.spot.Spot.{Spot}
use Rattle.reassembly.proofs.Steps.{Far, needs_far, needs_stream, needs_waiting, nothing_old, nothing_stream, nothing_waiting}
use Rattle.reassembly.proofs.Steps.{order_frontier, order_near, order_stream, order_waiting}
use Rattle.reassembly.proofs.Turns.{empty_old, empty_part, empty_stream, no_payload, same_stream, same_waiting, seen_from}

-- what is kept of members where no stop was set
pub record Unstopped (kept : KeptStream) (members : List Member) : Type 0 where
  pub base : kept.base ≡ base_of members
  pub frontier : kept.frontier ≡ length (bytes_from (byte_at (parts_of kept.depth members)) 0 kept.depth)
  pub digest : Holds kept.hasher (bytes_from (byte_at (parts_of kept.depth members)) 0 kept.depth)
  pub waiting : kept.waiting ≡ map spot_in (waiting_of kept.depth (parts_of kept.depth members))

pub open_of : (kept : KeptStream) (members : List Member) → kept.stop ≡ 0 → Tells kept members
    → kept.waiting ≡ waiting_among kept.depth kept.stop members → Unstopped kept members
open_of kept members none tells waiting = record {
  base = subst (λ (s : ℕ). kept.base ≡ base_of (before_stop s members)) none tells.base;
  frontier = subst (λ (s : ℕ). kept.frontier ≡ length (stream_of kept.depth s members)) none tells.frontier;
  digest = subst (λ (s : ℕ). Holds kept.hasher (stream_of kept.depth s members)) none tells.digest;
  waiting = subst (λ (s : ℕ). kept.waiting ≡ waiting_among kept.depth s members) none waiting;
}

pub tells_of : (kept : KeptStream) (members : List Member) → kept.stop ≡ 0 → Unstopped kept members → Tells kept members
tells_of kept members none o = record {
  base = subst (λ (s : ℕ). kept.base ≡ base_of (before_stop s members)) (sym none) o.base;
  frontier = subst (λ (s : ℕ). kept.frontier ≡ length (stream_of kept.depth s members)) (sym none) o.frontier;
  digest = subst (λ (s : ℕ). Holds kept.hasher (stream_of kept.depth s members)) (sym none) o.digest;
}

pub waits_of : (kept : KeptStream) (members : List Member) → kept.stop ≡ 0 → Unstopped kept members → kept.waiting ≡ waiting_among kept.depth kept.stop members
waits_of kept members none o = subst (λ (s : ℕ). kept.waiting ≡ waiting_among kept.depth s members) (sym none) o.waiting

pub stands_of : (kept : KeptStream) (members : List Member) → kept.stop ≡ 0 → kept.asked ≡ None → Rises members → Unstopped kept members → Stands kept members
stands_of kept members none settled rises o = record {
  rises = rises;
  stop = omega (arith, none);
  tells = tells_of kept members none o;
  waiting = waits_of kept members none o;
  settled = settled;
}

-- a stream is blank where it keeps nothing but its setting
pub blank_of : (depth : ℕ) (kept : KeptStream) → kept.depth ≡ depth → kept.base ≡ None → kept.frontier ≡ 0 → Holds kept.hasher [] → kept.waiting ≡ []
    → kept.freed ≡ 0 → kept.stop ≡ 0 → kept.asked ≡ None → IsBlank depth kept
blank_of depth kept setting base frontier digest waiting freed stop asked =
    let none = empty_stream kept.depth [] tt in
    record {
      setting = setting;
      stands = stands_of kept [] stop asked tt (record {
        base = base;
        frontier = frontier ∙ sym (ap length none);
        digest = subst (Holds kept.hasher) (sym none) digest;
        waiting = waiting;
      });
      unstopped = stop;
      holds_none = freed;
    }

-- what begins beyond an offset is what the parts bring that do
pub spots_beyond : (f : ℕ) (spots : List Spot) (parts : List Part) → spots ≡ map spot_in parts
    → filter (λ spot. nat_lt f spot.first) spots ≡ map spot_in (beyond f parts)
spots_beyond f [] [] same = refl
spots_beyond f [] (p ∷ parts) same = cc
spots_beyond f (s ∷ spots) [] same = cc
spots_beyond f (s ∷ spots) (p ∷ parts) same =
    let head : s ≡ spot_in p = cc in
    let tail : spots ≡ map spot_in parts = cc in
    let first : s.first ≡ p.first = ap (λ (x : Spot). x.first) head in
    by (spots_beyond f spots parts tail) head (nat_lt f p.first) refl (ap (nat_lt f) first)
  where
    by : filter (λ spot. nat_lt f spot.first) spots ≡ map spot_in (beyond f parts) → s ≡ spot_in p → (t : Bool)
        → nat_lt f p.first ≡ t → nat_lt f s.first ≡ nat_lt f p.first
        → filter (λ spot. nat_lt f spot.first) (s ∷ spots) ≡ map spot_in (beyond f (p ∷ parts))
    by again head true is same = let at_s : nat_lt f s.first ≡ true = same ∙ is in rw (at_s, is) (λ i. head i ∷ again i)
    by again head false is same = let at_s : nat_lt f s.first ≡ false = same ∙ is in rw (at_s, is) again

not_zero : (n : ℕ) → 0 < n → nat_eq n 0 ≡ false
not_zero n h = grind arith

-- members before a frame
filter_all : (n : ℕ) (members : List Member) → Rises members → newest_of members < n → filter (λ m. nat_lt m.no n) members ≡ members
filter_all n [] rises h = refl
filter_all n (m ∷ members) rises h =
    let test : nat_lt m.no n ≡ true = grind arith in
    rw test (ap (λ (l : List Member). m ∷ l) (filter_all n members rises.1 (omega (arith, rises.0))))

pub before_stop_all : (n : ℕ) (members : List Member) → 0 < n → Rises members → newest_of members < n → before_stop n members ≡ members
before_stop_all n members some rises h =
    let test = not_zero n some in
    ap (λ (b : Bool). cond b members (filter (λ m. nat_lt m.no n) members)) test ∙ filter_all n members rises h

pub before_stop_past : (n : ℕ) (m : Member) (members : List Member) → 0 < n → n ≤ m.no → before_stop n (m ∷ members) ≡ before_stop n members
before_stop_past n m members some h =
    let test = not_zero n some in
    let out : nat_lt m.no n ≡ false = grind arith in
    ap (λ (b : Bool). cond b (m ∷ members) (filter (λ m. nat_lt m.no n) (m ∷ members))) test
    ∙ (ap (λ (b : Bool). cond b (m ∷ filter (λ m. nat_lt m.no n) members) (filter (λ m. nat_lt m.no n) members)) out
    ∙ sym (ap (λ (b : Bool). cond b members (filter (λ m. nat_lt m.no n) members)) test))

module _ (depth : ℕ) (m : Member) (members : List Member) where
  abbrev pub brought : Part
  brought = part_of depth (unwrap_or (base_of (m ∷ members)) 0) m

  -- a member that needs a node sets no base
  pub needs_based : answer_to depth (seen_from depth m members) brought ≡ NeedsSegment → base_of (m ∷ members) ≡ base_of members
  needs_based needs = by (base_of members) refl (sets_base m) refl
    where
      far : Far depth (seen_from depth m members) brought
      far = needs_far depth (seen_from depth m members) brought needs

      clash : true ≡ false → base_of (m ∷ members) ≡ base_of members
      clash e = cc

      own : (s : ℕ) → first_of s s ≡ 0
      own s =
          let e : s + 2 ^ 32 - s ≡ 2 ^ 32 = omega arith in
          ap (λ (k : ℕ). cond (nat_lt (k % 2 ^ 32) (2 ^ 31)) (k % 2 ^ 32) 0) e

      by : (o : Option ℕ) → base_of members ≡ o → (t : Bool) → sets_base m ≡ t → base_of (m ∷ members) ≡ base_of members
      by (Some b) is t sets = ap (λ (o : Option ℕ). option_or o (cond (sets_base m) (Some (sequence_of m.tcp)) None)) is ∙ sym is
      by None is false sets =
          clash (sym (empty_old (seen_from depth m members) brought (empty_part depth (unwrap_or (base_of (m ∷ members)) 0) m sets)) ∙ far.fresh)
      by None is true sets =
          let base : base_of (m ∷ members) ≡ Some (sequence_of m.tcp) =
          ap (λ (o : Option ℕ). option_or o (cond (sets_base m) (Some (sequence_of m.tcp)) None)) is
          ∙ ap (λ (b : Bool). cond b (Some (sequence_of m.tcp)) None) sets in
          let first : brought.first ≡ 0 = ap (λ (o : Option ℕ). first_of (unwrap_or o 0) (sequence_of m.tcp)) base ∙ own (sequence_of m.tcp) in
          let h = far.far in
          absurd (omega (arith, first, h))

-- what is kept, seen from the base that one more member may set
pub record Seen (kept : KeptStream) (m : Member) (members : List Member) : Type 0 where
  pub frontier : kept.frontier ≡ frontier_of kept.depth (seen_from kept.depth m members)
  pub digest : Holds kept.hasher (bytes_from (byte_at (seen_from kept.depth m members)) 0 kept.depth)
  pub waiting : kept.waiting ≡ map spot_in (waiting_of kept.depth (seen_from kept.depth m members))

pub seen_of : (kept : KeptStream) (m : Member) (members : List Member) → Unstopped kept members → Seen kept m members
seen_of kept m members o = record {
  frontier = o.frontier ∙ ap length (sym (same_stream kept.depth m members));
  digest = subst (Holds kept.hasher) (sym (same_stream kept.depth m members)) o.digest;
  waiting = o.waiting ∙ ap (map spot_in) (sym (same_waiting kept.depth m members));
}

module _ (kept : KeptStream) (m : Member) (members : List Member) (none : kept.stop ≡ 0) (rises : Rises (m ∷ members)) (seen : Seen kept m members) where
  before : List Part
  before = seen_from kept.depth m members

  pub stands_nothing : (b : Option ℕ) → b ≡ base_of (m ∷ members) → kept.asked ≡ None
      → answer_to kept.depth (seen_from kept.depth m members) (brought kept.depth m members) ≡ Nothing → Stands (record kept { base = b }) (m ∷ members)
  stands_nothing b is settled answer =
      let ps = seen_from kept.depth m members in
      let p = brought kept.depth m members in
      let old = nothing_old kept.depth ps p answer in
      let stream = nothing_stream kept.depth ps p old in
      stands_of (record kept { base = b }) (m ∷ members) none settled rises (record {
        base = is;
        frontier = seen.frontier ∙ ap length (sym stream);
        digest = subst (Holds kept.hasher) (sym stream) seen.digest;
        waiting = seen.waiting ∙ ap (map spot_in) (sym (nothing_waiting kept.depth ps p old));
      })

  pub stands_order : (b : Option ℕ) (frontier : ℕ) (hasher : Sha1) (waiting : List Spot) (freed : ℕ) → b ≡ base_of (m ∷ members)
      → kept.asked ≡ None
      → answer_to kept.depth (seen_from kept.depth m members) (brought kept.depth m members) ≡ InOrder
      → frontier ≡ kept.frontier + length
      (bytes_from (byte_at (brought kept.depth m members ∷ seen_from kept.depth m members)) kept.frontier (kept.depth - kept.frontier))
      → ((l : List ℕ) → Holds kept.hasher l
      → Holds hasher (l ++ bytes_from (byte_at (brought kept.depth m members ∷ seen_from kept.depth m members)) kept.frontier (kept.depth - kept.frontier)))
      → waiting ≡ filter (λ spot. nat_lt frontier spot.first) kept.waiting
      → Stands (record kept { base = b; frontier = frontier; hasher = hasher; waiting = waiting; freed = freed }) (m ∷ members)
  stands_order b frontier hasher waiting freed is settled answer moved taken are =
      let ps = seen_from kept.depth m members in
      let p = brought kept.depth m members in
      let near = order_near kept.depth ps p answer in
      let stream = order_stream kept.depth ps p in
      let front : frontier ≡ frontier_of kept.depth (p ∷ ps) =
      moved ∙ (ap (λ (f : ℕ). f + length (bytes_from (byte_at (p ∷ ps)) f (kept.depth - f))) seen.frontier ∙ sym (order_frontier kept.depth ps p)) in
      let digest = subst (λ (f : ℕ). Holds hasher (bytes_from (byte_at ps) 0 kept.depth
      ++ bytes_from (byte_at (p ∷ ps)) f (kept.depth - f))) seen.frontier (taken (bytes_from (byte_at ps) 0 kept.depth) seen.digest) in
      stands_of (record kept { base = b; frontier = frontier; hasher = hasher; waiting = waiting; freed = freed }) (m ∷ members) none settled rises (record {
        base = is;
        frontier = front;
        digest = subst (Holds hasher) (sym stream) digest;
        waiting = are ∙ (spots_beyond frontier kept.waiting (waiting_of kept.depth ps) seen.waiting
            ∙ (ap (λ (f : ℕ). map spot_in (beyond f (waiting_of kept.depth ps))) front ∙ ap (map spot_in) (sym (order_waiting kept.depth ps p near))));
      })

  pub stands_needs : (b : Option ℕ) → b ≡ base_of (m ∷ members) → (asked : Option Spot) → asked ≡ None
      → answer_to kept.depth (seen_from kept.depth m members) (brought kept.depth m members) ≡ NeedsSegment
      → Stands (record kept { base = b; asked = asked; waiting = spot_in (brought kept.depth m members) ∷ kept.waiting }) (m ∷ members)
  stands_needs b is asked settled answer =
      let ps = seen_from kept.depth m members in
      let p = brought kept.depth m members in
      let far = needs_far kept.depth ps p answer in
      let stream = needs_stream kept.depth ps p far in
      stands_of (record kept { base = b; asked = asked; waiting = spot_in p ∷ kept.waiting }) (m ∷ members) none settled rises (record {
        base = is;
        frontier = seen.frontier ∙ ap length (sym stream);
        digest = subst (Holds kept.hasher) (sym stream) seen.digest;
        waiting = ap (λ (l : List Spot). spot_in p ∷ l) seen.waiting ∙ ap (map spot_in) (sym (needs_waiting kept.depth ps p far));
      })

pub same_some : (x y : Spot) → Some x ≡ Some y → x ≡ y
same_some x y e = cc

module _ (kept : KeptStream) (m : Member) (members : List Member) where
  -- what is kept once the member that came last is stored
  pub stands_stored : (new : KeptStream) (spot : Spot) → kept.asked ≡ Some spot → new ≡ record kept { asked = None; waiting = spot ∷ kept.waiting }
      → Asks kept m members → Stands new (m ∷ members)
  stands_stored new spot is new_is asks =
      let o = open_of kept members asks.unstopped asks.tells asks.waiting in
      let p = brought kept.depth m members in
      let at : spot ≡ spot_in p = same_some spot (spot_in p) (sym is ∙ asks.asked) in
      let base : kept.base ≡ base_of (m ∷ members) = o.base ∙ sym (needs_based kept.depth m members asks.needed) in
      let stands = stands_needs kept m members asks.unstopped (asks.later, asks.rises) (seen_of kept m members o) kept.base base None refl asks.needed in
      subst (λ (v : KeptStream). Stands v (m ∷ members)) (sym (new_is ∙ ap (λ (s : Spot). record kept { asked = None; waiting = s ∷ kept.waiting }) at)) stands

  -- what is kept once the stream is stopped at the member that came last
  pub stands_stop : (new : KeptStream) (spot : Spot) (freed : ℕ) → kept.asked ≡ Some spot
      → new ≡ record kept { asked = None; stop = spot.no; waiting = []; freed = freed } → Asks kept m members → Stands new (m ∷ members)
  stands_stop new spot freed is new_is asks =
      let o = open_of kept members asks.unstopped asks.tells asks.waiting in
      let p = brought kept.depth m members in
      let at : spot.no ≡ m.no = ap (λ (s : Spot). s.no) (same_some spot (spot_in p) (sym is ∙ asks.asked)) in
      let later = asks.later in
      let some : 0 < m.no = omega arith in
      let all : before_stop m.no (m ∷ members) ≡ members = before_stop_past m.no m members some (omega arith)
      ∙ before_stop_all m.no members some asks.rises asks.later in
      let test = not_zero m.no some in
      let stands : Stands (record kept { asked = None; stop = m.no; waiting = []; freed = freed }) (m ∷ members) = record {
        rises = (asks.later, asks.rises);
        stop = omega arith;
        tells = record {
          base = o.base ∙ ap base_of (sym all);
          frontier = o.frontier ∙ ap (λ (l : List Member). length (bytes_from (byte_at (parts_of kept.depth l)) 0 kept.depth)) (sym all);
          digest = subst (λ (l : List Member). Holds kept.hasher (bytes_from (byte_at (parts_of kept.depth l)) 0 kept.depth)) (sym all) o.digest;
        };
        waiting = sym (ap (λ (b : Bool). cond b (map spot_in (waiting_of kept.depth (parts_of kept.depth (m ∷ members)))) []) test);
        settled = refl;
      } in
      subst (λ (v : KeptStream). Stands v (m ∷ members))
      (sym (new_is ∙ ap (λ (n : ℕ). record kept { asked = None; stop = n; waiting = []; freed = freed }) at)) stands

  -- after a stop nothing changes
  pub stands_stopped : Stands kept members → kept.stop ≢ 0 → newest_of members < m.no → Stands kept (m ∷ members)
  stands_stopped stands stopped later =
      let s = stands.stop in
      let some : 0 < kept.stop = omega arith in
      let same : before_stop kept.stop (m ∷ members) ≡ before_stop kept.stop members = before_stop_past kept.stop m members some (omega arith) in
      let test = not_zero kept.stop some in
      record {
        rises = (later, stands.rises);
        stop = omega arith;
        tells = record {
          base = stands.tells.base ∙ ap base_of (sym same);
          frontier = stands.tells.frontier ∙ ap (λ (l : List Member). length (bytes_from (byte_at (parts_of kept.depth l)) 0 kept.depth)) (sym same);
          digest = subst (λ (l : List Member). Holds kept.hasher (bytes_from (byte_at (parts_of kept.depth l)) 0 kept.depth)) (sym same) stands.tells.digest;
        };
        waiting = stands.waiting ∙ (ap (λ (b : Bool). cond b (map spot_in (waiting_of kept.depth (parts_of kept.depth members))) []) test
            ∙ sym (ap (λ (b : Bool). cond b (map spot_in (waiting_of kept.depth (parts_of kept.depth (m ∷ members)))) []) test));
        settled = stands.settled;
      }

  -- a member that needs a node is open
  pub asks_of : Stands kept members → kept.stop ≡ 0 → newest_of members < m.no → (b : Option ℕ) → b ≡ base_of (m ∷ members) → (spot : Spot)
      → spot ≡ spot_in (brought kept.depth m members)
      → answer_to kept.depth (seen_from kept.depth m members) (brought kept.depth m members) ≡ NeedsSegment
      → Asks (record kept { base = b; asked = Some spot }) m members
  asks_of stands none later b is spot at answer =
      let o = open_of kept members none stands.tells stands.waiting in
      let told : Unstopped (record kept { base = b; asked = Some spot }) members = record {
        base = is ∙ needs_based kept.depth m members answer;
        frontier = o.frontier;
        digest = o.digest;
        waiting = o.waiting;
      } in
      record {
        later = later;
        rises = stands.rises;
        unstopped = none;
        tells = tells_of (record kept { base = b; asked = Some spot }) members none told;
        waiting = waits_of (record kept { base = b; asked = Some spot }) members none told;
        needed = answer;
        asked = ap (λ (s : Spot). Some s) at;
      }

-- two values are one where their fields are
pub kept_is : (a b : KeptStream) → a.depth ≡ b.depth → a.base ≡ b.base → a.frontier ≡ b.frontier → a.hasher ≡ b.hasher → a.waiting ≡ b.waiting
    → a.freed ≡ b.freed → a.stop ≡ b.stop → a.asked ≡ b.asked → a ≡ b
kept_is a b d e f h w r s k = λ i. record { depth = d i; base = e i; frontier = f i; hasher = h i; waiting = w i; freed = r i; stop = s i; asked = k i }

-- the first member never needs a node: it begins at the base
pub first_never : (depth : ℕ) (m : Member) → offer_of depth 0 [] m ≡ NeedsSegment → ⊥
first_never depth m needs = by (sets_base m) refl (needs_based depth m [] needs)
  where
    far : Far depth [] (brought depth m [])
    far = needs_far depth [] (brought depth m []) needs

    clash : true ≡ false → ⊥
    clash e = cc

    set : Some (sequence_of m.tcp) ≡ None → ⊥
    set e = cc

    by : (t : Bool) → sets_base m ≡ t → base_of (m ∷ []) ≡ None → ⊥
    by true sets none = set (sym (ap (λ (b : Bool). cond b (Some (sequence_of m.tcp)) None) sets) ∙ none)
    by false sets none = clash (sym (empty_old [] (brought depth m []) (empty_part depth (unwrap_or (base_of (m ∷ [])) 0) m sets)) ∙ far.fresh)

-- a member that needs a node has payload
pub needs_payload : (depth stop : ℕ) (older : List Member) (m : Member) → offer_of depth stop older m ≡ NeedsSegment → 0 < length m.payload
needs_payload depth stop older m needs = by m.payload refl
  where
    running : (t : Bool) → cond t (answer_to depth (seen_from depth m older) (brought depth m older)) Stopped ≡ NeedsSegment
        → answer_to depth (seen_from depth m older) (brought depth m older) ≡ NeedsSegment
    running true e = e
    running false e = cc

    clash : true ≡ false → 0 < length m.payload
    clash e = cc

    by : (payload : List ℕ) → m.payload ≡ payload → 0 < length m.payload
    by [] nil =
        let far = needs_far depth (seen_from depth m older) (brought depth m older) (running (nat_eq stop 0) needs) in
        let old = empty_old (seen_from depth m older) (brought depth m older) (no_payload depth (unwrap_or (base_of (m ∷ older)) 0) m nil) in
        clash (sym old ∙ far.fresh)
    by (b ∷ bytes) is = omega (arith, ap length is)
