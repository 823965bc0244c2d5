-- The stops of an object once the packet that needs a node was settled.
use Rattle.std.proofs.Common.{◌≡◌, ℕ, cond, Bool, true, false, List, [], ◌∷◌, Option, Some, None, refl, sym, ap, ◌∙◌, subst, inl, inr, ◌⊎◌}
use Rattle.std.specs.Prelude.{IsSome}
use Rattle.reassembly.specs.Kept.{KeptStream, Stands}
use Rattle.reassembly.specs.Members.{Member}
use Rattle.segment_tree.specs.declared.spot.Spot.{Spot}
use Rattle.suri_base.specs.declared.app.App.{App}
use Rattle.flow_sum.specs.Run.{Run}
use Rattle.flow_object.specs.Object.{Object, Stops, stops_in}
use Rattle.flow_object.specs.Standing.{AsksFor, NewestAsks, is_to_server, stopped_at_newest}
use Rattle.flow_object.specs.Streams.{to_client, to_server}

-- who asks, asks for the frame of the newest member
record Asked (kept : KeptStream) (number : ℕ) : Type 0 where
  spot : Spot
  is : kept.asked ≡ Some spot
  own : spot.no ≡ number

asked_for : (kept : KeptStream) (number : ℕ) (members : List Member) → NewestAsks kept number members → Asked kept number
asked_for kept number [] asks = absurd asks
asked_for kept number (m ∷ older) asks = record { spot = _; is = asks.1.asked; own = asks.0 }

-- an object that asks for a node for a packet has a stream that does
pub asks_some : (o : Object) (bytes : List ℕ) (r : Run) (judged : List App) → AsksFor o bytes r judged → IsSome o.ts.asked ⊎ IsSome o.tc.asked
asks_some o bytes r judged asks = by asks.one
  where
    by : ((is_to_server r ≡ true) × NewestAsks o.ts r.newest.no (to_server bytes r) × Stands o.tc (to_client bytes r))
        ⊎ ((is_to_server r ≡ false) × Stands o.ts (to_server bytes r) × NewestAsks o.tc r.newest.no (to_client bytes r))
        → IsSome o.ts.asked ⊎ IsSome o.tc.asked
    by (inl server) = inl (let a = asked_for o.ts r.newest.no (to_server bytes r) server.1 in subst IsSome (sym a.is) refl)
    by (inr client) = inr (let a = asked_for o.tc r.newest.no (to_client bytes r) client.2 in subst IsSome (sym a.is) refl)

some_none : (o : Option Spot) → IsSome o → o ≡ None → ⊥
some_none None some e = cc
some_none (Some spot) some e = cc

stops_are : (a b c d : ℕ) → a ≡ c → b ≡ d → ◌≡◌ {A = Stops} (record { to_server = a; to_client = b }) (record { to_server = c; to_client = d })
stops_are a b c d e f = λ i. record { to_server = e i; to_client = f i }

module _ (o : Object) (bytes : List ℕ) (r : Run) (judged : List App) (asks : AsksFor o bytes r judged) (node : Bool) (stop : ℕ) where
  -- the stream to the server asked
  pub server_stops : IsSome o.ts.asked → ((spot : Spot) → o.ts.asked ≡ Some spot → stop ≡ cond node o.ts.stop spot.no)
      → ◌≡◌ {A = Stops} (record { to_server = stop; to_client = o.tc.stop }) (cond node (stops_in o) (stopped_at_newest r (stops_in o)))
  server_stops some settled = by asks.one
    where
      at : is_to_server r ≡ true → Asked o.ts r.newest.no → (b : Bool) → node ≡ b
          → ◌≡◌ {A = Stops} (record { to_server = stop; to_client = o.tc.stop }) (cond b (stops_in o) (stopped_at_newest r (stops_in o)))
      at is asked true e = stops_are stop o.tc.stop o.ts.stop o.tc.stop (settled asked.spot asked.is ∙ ap (λ (b : Bool). cond b o.ts.stop asked.spot.no) e) refl
      at is asked false e =
          stops_are stop o.tc.stop r.newest.no o.tc.stop (settled asked.spot asked.is ∙ (ap (λ (b : Bool). cond b o.ts.stop asked.spot.no) e ∙ asked.own)) refl
          ∙ sym (ap (λ (b : Bool). cond b (record (stops_in o) { to_server = r.newest.no }) (record (stops_in o) { to_client = r.newest.no })) is)

      by : ((is_to_server r ≡ true) × NewestAsks o.ts r.newest.no (to_server bytes r) × Stands o.tc (to_client bytes r))
          ⊎ ((is_to_server r ≡ false) × Stands o.ts (to_server bytes r) × NewestAsks o.tc r.newest.no (to_client bytes r))
          → ◌≡◌ {A = Stops} (record { to_server = stop; to_client = o.tc.stop }) (cond node (stops_in o) (stopped_at_newest r (stops_in o)))
      by (inl asking) = at asking.0 (asked_for o.ts r.newest.no _ asking.1) node refl
      by (inr other) = absurd (some_none o.ts.asked some other.1.settled)

  -- the stream to the client asked
  pub client_stops : (IsSome o.ts.asked → ⊥) → ((spot : Spot) → o.tc.asked ≡ Some spot → stop ≡ cond node o.tc.stop spot.no)
      → ◌≡◌ {A = Stops} (record { to_server = o.ts.stop; to_client = stop }) (cond node (stops_in o) (stopped_at_newest r (stops_in o)))
  client_stops none settled = by asks.one
    where
      at : is_to_server r ≡ false → Asked o.tc r.newest.no → (b : Bool) → node ≡ b
          → ◌≡◌ {A = Stops} (record { to_server = o.ts.stop; to_client = stop }) (cond b (stops_in o) (stopped_at_newest r (stops_in o)))
      at is asked true e = stops_are o.ts.stop stop o.ts.stop o.tc.stop refl (settled asked.spot asked.is ∙ ap (λ (b : Bool). cond b o.tc.stop asked.spot.no) e)
      at is asked false e =
          stops_are o.ts.stop stop o.ts.stop r.newest.no refl (settled asked.spot asked.is ∙ (ap (λ (b : Bool). cond b o.tc.stop asked.spot.no) e ∙ asked.own))
          ∙ sym (ap (λ (b : Bool). cond b (record (stops_in o) { to_server = r.newest.no }) (record (stops_in o) { to_client = r.newest.no })) is)

      by : ((is_to_server r ≡ true) × NewestAsks o.ts r.newest.no (to_server bytes r) × Stands o.tc (to_client bytes r))
          ⊎ ((is_to_server r ≡ false) × Stands o.ts (to_server bytes r) × NewestAsks o.tc r.newest.no (to_client bytes r))
          → ◌≡◌ {A = Stops} (record { to_server = o.ts.stop; to_client = stop }) (cond node (stops_in o) (stopped_at_newest r (stops_in o)))
      by (inl asking) = let a = asked_for o.ts r.newest.no _ asking.1 in absurd (none (subst IsSome (sym a.is) refl))
      by (inr asking) = at asking.0 (asked_for o.tc r.newest.no _ asking.2) node refl
