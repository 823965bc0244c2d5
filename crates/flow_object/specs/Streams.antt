-- The streams of a run: which packets are members of which, and the answers to them.
use Rattle.std.specs.Prelude.{ℕ, if◌then◌else◌, List, [], ◌∷◌, Option, Some, None}
use Rattle.reassembly.specs.Kept.{KeptStream}
use Rattle.reassembly.specs.Members.{Member, member, offer_of}
use Rattle.suri_base.specs.App.{payload_of}
use Rattle.suri_base.specs.Keys.{is_side, other_side}
use Rattle.suri_base.specs.declared.facts.Facts.{Facts}
use Rattle.suri_base.specs.declared.facts.TcpFacts.{TcpFacts}
use Rattle.suri_base.specs.declared.key.Side.{Side}
use Rattle.suri_base.specs.declared.stream.Offer.{Offer}
use Rattle.suri_base.specs.declared.stream.Offer.TheVariants.{Nothing}
use Rattle.flow_sum.specs.Run.{Run, first_of, members}
use Rattle.flow_sum.specs.Sums.{client_of}
use Rattle.flow_object.specs.Object.{Object}

-- what a stream sees of a packet: a member for TCP, else nothing
abbrev pub with_member : Option TcpFacts → ℕ → ℕ → List ℕ → List Member → List Member
with_member None number at payload older = older
with_member (Some tcp) number at payload older = member number tcp at payload ∷ older

-- the TCP segments that a side sent, among some packets of a capture of these bytes
abbrev pub members_of : List ℕ → Side → List Facts → List Member
members_of bytes side [] = []
members_of bytes side (f ∷ older) =
    if is_side f.side side
    then with_member f.tcp f.no f.pay_at (payload_of bytes f) (members_of bytes side older)
    else members_of bytes side older

-- the members of the stream to the server: what the client sent
abbrev pub to_server : List ℕ → Run → List Member
to_server bytes r = members_of bytes (client_of (first_of r)) (members r)

-- the members of the stream to the client
abbrev pub to_client : List ℕ → Run → List Member
to_client bytes r = members_of bytes (other_side (client_of (first_of r))) (members r)

-- the answer to a packet of a stream that stands for some members; where it is none of TCP it brings nothing
abbrev pub offer_to : Option TcpFacts → ℕ → ℕ → List ℕ → KeptStream → List Member → Offer
offer_to None number at payload kept older = Nothing
offer_to (Some tcp) number at payload kept older = offer_of kept.depth kept.stop older (member number tcp at payload)

-- the answer to the first packet of a run
abbrev pub first_offer : ℕ → ℕ → List ℕ → Facts → Offer
first_offer depth at payload f = elim f.tcp as (λ _. Offer) [ None ↦ Nothing | Some tcp ↦ offer_of depth 0 [] (member f.no tcp at payload) ]

-- the answer to the next packet of a run
abbrev pub offer_in : Object → List ℕ → Run → Facts → Offer
offer_in o bytes r f =
    if is_side f.side (client_of (first_of r))
    then offer_to f.tcp f.no f.pay_at (payload_of bytes f) o.ts (to_server bytes r)
    else offer_to f.tcp f.no f.pay_at (payload_of bytes f) o.tc (to_client bytes r)
