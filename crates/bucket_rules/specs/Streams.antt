-- The streams of a run, by its members and the stops: what is answered to the next packet, where a stream stops, and how many nodes wait.
use Rattle.std.specs.Prelude.{ℕ, ◌+◌, if◌then◌else◌, List, [], ◌∷◌, length, Option, Some, None}
use Rattle.suri_base.specs.App.{payload_of}
use Rattle.suri_base.specs.Keys.{is_side}
use Rattle.suri_base.specs.declared.facts.Facts.{Facts}
use Rattle.suri_base.specs.declared.facts.TcpFacts.{TcpFacts}
use Rattle.suri_base.specs.declared.stream.Offer.{Offer}
use Rattle.suri_base.specs.declared.stream.Offer.TheVariants.{Nothing}
use Rattle.reassembly.specs.Kept.{waiting_among}
use Rattle.reassembly.specs.Members.{Member, member, offer_of}
use Rattle.flow_sum.specs.Run.{Run, first_of}
use Rattle.flow_sum.specs.Sums.{client_of}
use Rattle.flow_object.specs.Object.{Stops}
use Rattle.flow_object.specs.Streams.{first_offer, to_client, to_server}

-- what a stream with these members and this stop answers to a packet; one of another protocol than TCP brings nothing
abbrev pub answer_to : Option TcpFacts → ℕ → ℕ → ℕ → ℕ → List ℕ → List Member → Offer
answer_to None depth stop number at payload older = Nothing
answer_to (Some tcp) depth stop number at payload older = offer_of depth stop older (member number tcp at payload)

-- the answer of the stream of the packet's direction, after a run
abbrev pub next_offer : ℕ → List ℕ → Stops → Run → Facts → Offer
next_offer depth bytes stops r t =
    if is_side t.side (client_of (first_of r))
    then answer_to t.tcp depth stops.to_server t.no t.pay_at (payload_of bytes t) (to_server bytes r)
    else answer_to t.tcp depth stops.to_client t.no t.pay_at (payload_of bytes t) (to_client bytes r)

-- the same after some members, the newest first; where there is none the packet begins the run
abbrev pub offer_after : ℕ → List ℕ → Stops → List Facts → Facts → Offer
offer_after depth bytes stops [] t = first_offer depth t.pay_at (payload_of bytes t) t
offer_after depth bytes stops (m ∷ ms) t = next_offer depth bytes stops (record { newest = m; older = ms }) t

-- the stream of the packet's direction stops at the packet
abbrev pub stopped_by : Facts → Run → Stops → Stops
stopped_by t r stops = if is_side t.side (client_of (first_of r)) then record stops { to_server = t.no } else record stops { to_client = t.no }

abbrev pub stops_after : Option Facts → List Facts → Stops → Stops
stops_after None ms stops = stops
stops_after (Some t) [] stops = stops
stops_after (Some t) (m ∷ ms) stops = stopped_by t (record { newest = m; older = ms }) stops

-- how many packets of a run were stored and still wait for bytes before them
abbrev pub waiting_in : ℕ → List ℕ → Stops → Run → ℕ
waiting_in depth bytes stops r =
    length (waiting_among depth stops.to_server (to_server bytes r)) + length (waiting_among depth stops.to_client (to_client bytes r))

abbrev pub waiting_after : ℕ → List ℕ → Stops → List Facts → ℕ
waiting_after depth bytes stops [] = 0
waiting_after depth bytes stops (m ∷ ms) = waiting_in depth bytes stops (record { newest = m; older = ms })
