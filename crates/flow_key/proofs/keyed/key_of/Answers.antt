use Rattle.std.proofs.Common.{◌≡◌, ◌<◌, ◌^◌, false, true, sym, subst}
use Rattle.std.specs.Prelude.{◌↔◌}
use Rattle.suri_base.specs.Keys.{is_at_most}
use Rattle.flow_key.specs.declared.keyed.Keyed.{Keyed}
use Rattle.flow_key.specs.Keyed.{keyed_of}
use Rattle.flow_key.specs.SameFlow.{SameFlow}
use Rattle.flow_key.proofs.Flows.{key_addresses, key_in_order, same_keys}
use Rattle.flow_key.proofs.keyed.key_of.Goals as goal

pub returns-clause-same_flow : goal.returns-clause-same_flow
returns-clause-same_flow c other fit =
    let view = c.args.view.now in
    let Goal : Keyed → Type 0 = λ r. ((keyed_of other).key ≡ r.key) ↔ SameFlow other view in
    subst Goal (sym c.with_ends.ensures) (same_keys other view fit c.requires)

pub returns-clause-order : goal.returns-clause-order
returns-clause-order c =
    let Goal : Keyed → Type 0 = λ r. r.key.one_way ≡ false → is_at_most r.key.a r.key.b ≡ true in
    subst Goal (sym c.with_ends.ensures) (key_in_order c.args.view.now)

pub returns-clause-addresses : goal.returns-clause-addresses
returns-clause-addresses c =
    let view = c.args.view.now in
    let Goal : Keyed → Type 0 = λ r. (view.ip.src < 2 ^ 32) × (view.ip.dst < 2 ^ 32) → (r.key.a.addr < 2 ^ 32) × (r.key.b.addr < 2 ^ 32) in
    subst Goal (sym c.with_ends.ensures) (key_addresses view)
