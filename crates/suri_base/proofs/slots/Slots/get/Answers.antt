use Rattle.std.proofs.Common.{◌≡◌, ◌<◌, ◌/◌, ◌%◌, length, List, Vec, Global, get_or, ap, sym, ◌∙◌, subst, arith}
use Rattle.std.proofs.Math.Nat.{mod-lt}
use Rattle.std.specs.Prelude.{slice_get}
use Rattle.std.proofs.lemmas.Nat.{div-add-mod'}
use Rattle.std.proofs.lemmas.Option.{slice_get_read}
use Rattle.suri_base.specs.Slot.{joined}
use Rattle.suri_base.specs.declared.slot.Slot.{Slot}
use Rattle.suri_base.proofs.Pieces.{found, holds, lists, within}
use Rattle.suri_base.proofs.slots.Slots.get.Goals as goal

pub index-requires : goal.index-requires
index-requires c =
    let size = c.self.inside.size in
    let low : c.args.place % size < size = mod-lt c.args.place (omega (arith, c.self.invariant.0)) in
    let all = ap (λ (l : List Slot). length l) c.self.view_is in
    let few = within c.self.inside.pieces.items size (c.args.place / size) (c.args.place % size) c.args.place c.self.invariant.1 low (sym (div-add-mod' c.args.place size)) (omega (arith, c.requires, all)) in
    omega (arith, few, c.self.inside.pieces.ok.0)

pub index-requires-2 : goal.index-requires-2
index-requires-2 c =
    let size = c.self.inside.size in
    let low : c.args.place % size < size = mod-lt c.args.place (omega (arith, c.self.invariant.0)) in
    let all = ap (λ (l : List Slot). length l) c.self.view_is in
    let few = holds c.self.inside.pieces.items size (c.args.place / size) (c.args.place % size) c.args.place c.index.result.now c.self.invariant.1 low (sym (div-add-mod' c.args.place size))
    (omega (arith, c.requires, all)) in
    let in_piece = subst (λ (v : Vec Slot Global). c.args.place % size < length v.items) (sym c.index.ensures) few in
    omega (arith, in_piece, c.index.result.now.ok.0)

pub returns : goal.returns
returns c =
    let size = c.self.inside.size in
    let pieces = c.self.inside.pieces.items in
    let slot = c.index-2.result.now in
    let low : c.args.place % size < size = mod-lt c.args.place (omega (arith, c.self.invariant.0)) in
    let all = ap (λ (l : List Slot). length l) c.self.view_is in
    let at = found pieces size (c.args.place / size) (c.args.place % size) c.args.place c.index.result.now slot c.self.invariant.1 low (sym (div-add-mod' c.args.place size)) (omega (arith, c.requires, all)) in
    let read : slot ≡ get_or (joined (lists pieces)) c.args.place slot = c.index-2.ensures ∙ ap (λ (v : Vec Slot Global). get_or v.items (c.args.place % size) slot) c.index.ensures ∙ sym at in
    ap (λ (l : List Slot). slice_get l c.args.place) (sym c.self.view_is) ∙ slice_get_read (joined (lists pieces)) (length c.args.self.now) c.args.place slot (sym all) c.requires read
