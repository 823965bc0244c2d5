use Rattle.std.proofs.Common.{ℕ, List, [], ◌∷◌, ◌++◌, ap, ◌∙◌}
use Rattle.sha1.specs.Sha1.{sha1}
use Rattle.community_id.specs.Community.{address_bytes, community_bytes, port_bytes}
use Rattle.community_id.proofs.digest.digest.Goals as goal

pub returns : goal.returns
unfolding community_bytes
returns c =
    let k = c.args.key.now in
    let seed = c.to_be_bytes.result in
    let a = address_bytes k.version k.a.addr in
    let b = address_bytes k.version k.b.addr in
    let middle = k.proto ∷ 0 ∷ [] in
    let p = port_bytes k.a.port in
    let q = port_bytes k.b.port in
    let with_seed = c.update.ensures [] c.new-hasher.ensures in
    let with_a = c.take_address.ensures seed with_seed in
    let with_b = c.take_address-2.ensures (seed ++ a) with_a in
    let with_middle = c.update-2.ensures (seed ++ a ++ b) with_b in
    let with_p = c.take_port.ensures (seed ++ a ++ b ++ middle) with_middle in
    let with_q = c.take_port-2.ensures (seed ++ a ++ b ++ middle ++ p) with_p in
    c.finalize.ensures (seed ++ a ++ b ++ middle ++ p ++ q) with_q ∙ ap (λ (s : List ℕ). sha1 (s ++ a ++ b ++ middle ++ p ++ q)) c.to_be_bytes.ensures
