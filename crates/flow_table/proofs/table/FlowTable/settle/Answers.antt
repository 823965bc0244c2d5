use Rattle.std.proofs.Common.{◌≡◌, ℕ, List, Option, Some, slice_set, sym, ap, subst, arith}
use Rattle.std.specs.Option.{is_some}
use Rattle.suri_base.specs.declared.app.App.{App}
use Rattle.flow_object.specs.Standing.{AsksFor}
use Rattle.flow_sum.specs.Run.{Run}
use Rattle.bucket_rules.specs.Row.{has}
use Rattle.bucket_flow.specs.Held.{Held, Settled}
use Rattle.flow_table.specs.Slots.{Table}
use Rattle.flow_table.proofs.Keeping.{settled_kin, settled_less}
use Rattle.flow_table.proofs.Ordered.{kept_orders}
use Rattle.flow_table.proofs.Slots.{slot_in, slot_not_none, slot_read, slot_within}
use Rattle.flow_table.proofs.Sound.{sound_set}
use Rattle.flow_table.proofs.table.FlowTable.settle.Goals.{In-Some}
use Rattle.flow_table.proofs.table.FlowTable.settle.Goals as goal

-- the flow that was read is the one that is known
read : (c : In-Some) → c.in-Some.flow ≡ c.requires.flow.flow
read c = slot_read c.self.inside.slots.items c.args.self.now.slots c.args.slot c.index_mut.result.now c.in-Some.flow c.requires.flow.flow (ap (λ (t : Table). t.slots) c.self.view_is) c.requires.flow.there c.index_mut.ensures.value c.in-Some.is

pub index_mut-requires : goal.index_mut-requires
index_mut-requires c = let w = slot_within c.self.inside.slots.items c.args.self.now.slots c.args.slot c.requires.flow.flow (ap (λ (t : Table). t.slots) c.self.view_is) c.requires.flow.there in omega (arith, w)

pub unreachable-requires : goal.unreachable-requires
unreachable-requires c = slot_not_none c.self.inside.slots.items c.args.self.now.slots c.args.slot c.index_mut.result.now c.requires.flow.flow (ap (λ (t : Table). t.slots) c.self.view_is) c.requires.flow.there c.index_mut.ensures.value c.in-None.is

pub settle-requires-clause-asks : goal.settle-requires-clause-asks
settle-requires-clause-asks c =
    let at = (goal.at.settle-requires-clause-asks c).In-Some in
    subst (λ (f : Held). (bytes : List ℕ) × (r : Run) × (judged : List App) × AsksFor f.obj bytes r judged) (sym (read at)) c.requires.flow.holds

pub returns : goal.returns
returns c =
    let at = (goal.at.returns c).In-Some in
    record {
      flow = c.requires.flow.flow;
      there = c.requires.flow.there;
      now = c.settle.new.self;
      did = subst (λ (f : Held). (bytes : List ℕ) → Settled bytes (is_some c.args.node) f c.settle.new.self) (read at) c.settle.ensures;
      set = ap (λ (l : List (Option Held)). slice_set l c.args.slot (Some c.settle.new.self)) (ap (λ (t : Table). t.slots) c.self.view_is);
    }

pub invariant_of-self : goal.invariant_of-self
invariant_of-self c =
    let at = (goal.at.invariant_of-self c).In-Some in
    let slots = c.self.inside.slots.items in
    let f = c.requires.flow.flow in
    let h = c.settle.new.self in
    let k = c.requires.flow.holds in
    let there = slot_in slots c.args.self.now.slots c.args.slot f (ap (λ (t : Table). t.slots) c.self.view_is) c.requires.flow.there in
    let s = subst (λ (x : Held). (bytes : List ℕ) → Settled bytes (is_some c.args.node) x h) (read at) c.settle.ensures in
    record {
      small = c.self.invariant.small;
      sound = sound_set slots c.self.invariant.sound c.args.slot f h there (settled_less k.0 (is_some c.args.node) f h k.1 k.2 (s k.0) k.3);
      orders = kept_orders slots c.self.inside.orders c.args.slot f h c.self.invariant.orders there (settled_kin k.0 (is_some c.args.node) f h k.1 k.2 (s k.0) k.3) (λ u. ap (λ (us : List ℕ). has us u) (s k.0).uses);
    }
