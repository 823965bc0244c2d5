use Rattle.std.proofs.Common.{◌≡◌, ◌∙◌, ◌≤◌, ap, sym, subst, length, List, ℕ, map, arith}
use Rattle.pcap_read.specs.File.{CaptureFile}
use Rattle.suri_base.specs.Capture.{AreLinked, Captured, packets_in}
use Rattle.suri_base.specs.Slot.{ArePieces, joined, packed}
use Rattle.suri_base.specs.declared.frame.Frame.{Frame}
use Rattle.suri_base.specs.declared.seen.Seen.{Seen}
use Rattle.suri_base.specs.declared.slot.Slot.{Slot}
use Rattle.capture_index.specs.Decode.{all_seen}
use Rattle.capture_index.specs.Index.{captured_of}
use Rattle.capture_index.specs.Links.{linked}
use Rattle.capture_index.specs.Order.{AreInOrder}
use Rattle.capture_index.specs.Pieces.{pieces_of}
use Rattle.capture_index.proofs.Indexed.{all_in_order, at_clocks, count, is_capture, kept, numbered_from}
use Rattle.capture_index.proofs.Laws.{clocks_count, linked_are}
use Rattle.capture_index.proofs.Piecing.{pieces_are, pieces_join}
use Rattle.capture_index.proofs.capture.index.Goals as goal

pub decode_pieces-requires-clause-as_many : goal.decode_pieces-requires-clause-as_many
decode_pieces-requires-clause-as_many g c _ _ =
    ap (length {A = ℕ}) (c.deref-4.ensures.value ∙ c.in_ok-clocks.ensures) ∙ clocks_count _ c.deref.result.now ∙ ap (length {A = Frame}) (c.deref.ensures.value ∙ sym c.deref-3.ensures.value)

pub link-requires-clause-kept : goal.link-requires-clause-kept
link-requires-clause-kept g c =
    let whole : List Seen = all_seen c.file.inside.link c.args.bytes.items c.file.inside.list.items c.in_ok-clocks.clocks.items in
    let few : length c.file.inside.list.items ≤ 4194304 = rw (ap (λ (f : CaptureFile). f.frames) c.file.view_is) c.requires.few in (
      whole,
      kept c.file.inside.link c.deref-2.result.now c.args.bytes.items c.deref.result.now c.deref-3.result.now c.file.inside.list.items c.deref-4.result.now c.in_ok-clocks.clocks.items c.deref-2.ensures.value c.deref.ensures.value
          c.deref-3.ensures.value c.deref-4.ensures.value c.in_ok-clocks.ensures c.in_ok-pieces.ensures.read (rw (ap (λ (f : CaptureFile). f.frames) c.file.view_is) c.requires.inside) 65536 _ c.in_ok-pieces.ensures.value,
      omega (
        arith,
        few,
        count c.file.inside.link c.deref-2.result.now c.args.bytes.items c.deref.result.now c.deref-3.result.now c.file.inside.list.items c.deref-4.result.now c.in_ok-clocks.clocks.items c.deref-2.ensures.value c.deref.ensures.value
            c.deref-3.ensures.value c.deref-4.ensures.value c.in_ok-clocks.ensures c.in_ok-pieces.ensures.read (rw (ap (λ (f : CaptureFile). f.frames) c.file.view_is) c.requires.inside),
      ),
      numbered_from c.file.inside.link c.deref-2.result.now c.args.bytes.items c.deref.result.now c.deref-3.result.now c.file.inside.list.items c.deref-4.result.now c.in_ok-clocks.clocks.items c.deref-2.ensures.value c.deref.ensures.value
          c.deref-3.ensures.value c.deref-4.ensures.value c.in_ok-clocks.ensures c.in_ok-pieces.ensures.read (rw (ap (λ (f : CaptureFile). f.frames) c.file.view_is) c.requires.inside),
    )

pub of-slots-requires-clause-full : goal.of-slots-requires-clause-full
of-slots-requires-clause-full g c =
    let whole : List Seen = all_seen c.file.inside.link c.args.bytes.items c.file.inside.list.items c.in_ok-clocks.clocks.items in
    let lists : map (λ p. p.items) c.in_ok-link.field-0.items ≡ pieces_of 65536 (linked whole) = c.in_ok-link.ensures whole (kept c.file.inside.link c.deref-2.result.now c.args.bytes.items c.deref.result.now c.deref-3.result.now c.file.inside.list.items c.deref-4.result.now c.in_ok-clocks.clocks.items c.deref-2.ensures.value c.deref.ensures.value
    c.deref-3.ensures.value c.deref-4.ensures.value c.in_ok-clocks.ensures c.in_ok-pieces.ensures.read (rw (ap (λ (f : CaptureFile). f.frames) c.file.view_is) c.requires.inside) 65536 _ c.in_ok-pieces.ensures.value) (numbered_from c.file.inside.link c.deref-2.result.now c.args.bytes.items c.deref.result.now c.deref-3.result.now c.file.inside.list.items c.deref-4.result.now c.in_ok-clocks.clocks.items c.deref-2.ensures.value c.deref.ensures.value
    c.deref-3.ensures.value c.deref-4.ensures.value c.in_ok-clocks.ensures c.in_ok-pieces.ensures.read (rw (ap (λ (f : CaptureFile). f.frames) c.file.view_is) c.requires.inside)) in
    subst (λ (l : List (List Slot)). ArePieces 65536 l) (sym lists) (pieces_are 65536 (linked whole) (omega arith))

pub make-requires : goal.make-requires
make-requires g c =
    let whole : List Seen = all_seen c.file.inside.link c.args.bytes.items c.file.inside.list.items c.in_ok-clocks.clocks.items in
    let lists : map (λ p. p.items) c.in_ok-link.field-0.items ≡ pieces_of 65536 (linked whole) = c.in_ok-link.ensures whole (kept c.file.inside.link c.deref-2.result.now c.args.bytes.items c.deref.result.now c.deref-3.result.now c.file.inside.list.items c.deref-4.result.now c.in_ok-clocks.clocks.items c.deref-2.ensures.value c.deref.ensures.value
    c.deref-3.ensures.value c.deref-4.ensures.value c.in_ok-clocks.ensures c.in_ok-pieces.ensures.read (rw (ap (λ (f : CaptureFile). f.frames) c.file.view_is) c.requires.inside) 65536 _ c.in_ok-pieces.ensures.value) (numbered_from c.file.inside.link c.deref-2.result.now c.args.bytes.items c.deref.result.now c.deref-3.result.now c.file.inside.list.items c.deref-4.result.now c.in_ok-clocks.clocks.items c.deref-2.ensures.value c.deref.ensures.value
    c.deref-3.ensures.value c.deref-4.ensures.value c.in_ok-clocks.ensures c.in_ok-pieces.ensures.read (rw (ap (λ (f : CaptureFile). f.frames) c.file.view_is) c.requires.inside)) in
    let slots : c.of-slots.result ≡ map packed (linked whole) = c.of-slots.ensures ∙ ap (λ (l : List (List Slot)). joined l) lists ∙ pieces_join 65536 (linked whole) (omega arith) in
    let fits = is_capture c.file.inside.link c.deref-2.result.now c.args.bytes.items c.deref.result.now c.deref-3.result.now c.file.inside.list.items c.deref-4.result.now c.in_ok-clocks.clocks.items c.deref-2.ensures.value c.deref.ensures.value
    c.deref-3.ensures.value c.deref-4.ensures.value c.in_ok-clocks.ensures c.in_ok-pieces.ensures.read (rw (ap (λ (f : CaptureFile). f.frames) c.file.view_is) c.requires.inside) c.file.inside.cut_bytes (rw (ap (λ (f : CaptureFile). f.frames) c.file.view_is) c.requires.few) in
    (linked whole, slots, fits)

pub returns-clause-value : goal.returns-clause-value
returns-clause-value g c =
    let whole : List Seen = all_seen c.file.inside.link c.args.bytes.items c.file.inside.list.items c.in_ok-clocks.clocks.items in
    let lists : map (λ p. p.items) c.in_ok-link.field-0.items ≡ pieces_of 65536 (linked whole) = c.in_ok-link.ensures whole (kept c.file.inside.link c.deref-2.result.now c.args.bytes.items c.deref.result.now c.deref-3.result.now c.file.inside.list.items c.deref-4.result.now c.in_ok-clocks.clocks.items c.deref-2.ensures.value c.deref.ensures.value
    c.deref-3.ensures.value c.deref-4.ensures.value c.in_ok-clocks.ensures c.in_ok-pieces.ensures.read (rw (ap (λ (f : CaptureFile). f.frames) c.file.view_is) c.requires.inside) 65536 _ c.in_ok-pieces.ensures.value) (numbered_from c.file.inside.link c.deref-2.result.now c.args.bytes.items c.deref.result.now c.deref-3.result.now c.file.inside.list.items c.deref-4.result.now c.in_ok-clocks.clocks.items c.deref-2.ensures.value c.deref.ensures.value
    c.deref-3.ensures.value c.deref-4.ensures.value c.in_ok-clocks.ensures c.in_ok-pieces.ensures.read (rw (ap (λ (f : CaptureFile). f.frames) c.file.view_is) c.requires.inside)) in
    let slots : c.of-slots.result ≡ map packed (linked whole) = c.of-slots.ensures ∙ ap (λ (l : List (List Slot)). joined l) lists ∙ pieces_join 65536 (linked whole) (omega arith) in
    let fits = is_capture c.file.inside.link c.deref-2.result.now c.args.bytes.items c.deref.result.now c.deref-3.result.now c.file.inside.list.items c.deref-4.result.now c.in_ok-clocks.clocks.items c.deref-2.ensures.value c.deref.ensures.value
    c.deref-3.ensures.value c.deref-4.ensures.value c.in_ok-clocks.ensures c.in_ok-pieces.ensures.read (rw (ap (λ (f : CaptureFile). f.frames) c.file.view_is) c.requires.inside) c.file.inside.cut_bytes (rw (ap (λ (f : CaptureFile). f.frames) c.file.view_is) c.requires.few) in
    let made = c.make.ensures (linked whole) slots fits in
    made
    ∙ ap (λ (k : List ℕ). record { bytes = c.args.bytes.items; frames = c.file.inside.list.items; clocks = k; seen = linked (all_seen c.file.inside.link c.args.bytes.items c.file.inside.list.items k); cut_bytes = c.file.inside.cut_bytes })
    (at_clocks c.file.inside.link c.deref-2.result.now c.args.bytes.items c.deref.result.now c.deref-3.result.now c.file.inside.list.items c.deref-4.result.now c.in_ok-clocks.clocks.items c.deref-2.ensures.value c.deref.ensures.value
    c.deref-3.ensures.value c.deref-4.ensures.value c.in_ok-clocks.ensures c.in_ok-pieces.ensures.read (rw (ap (λ (f : CaptureFile). f.frames) c.file.view_is) c.requires.inside)) ∙ ap (λ (f : CaptureFile). captured_of c.args.bytes.items f) c.file.view_is

pub returns-clause-linked : goal.returns-clause-linked
returns-clause-linked g c =
    let whole : List Seen = all_seen c.file.inside.link c.args.bytes.items c.file.inside.list.items c.in_ok-clocks.clocks.items in
    let lists : map (λ p. p.items) c.in_ok-link.field-0.items ≡ pieces_of 65536 (linked whole) = c.in_ok-link.ensures whole (kept c.file.inside.link c.deref-2.result.now c.args.bytes.items c.deref.result.now c.deref-3.result.now c.file.inside.list.items c.deref-4.result.now c.in_ok-clocks.clocks.items c.deref-2.ensures.value c.deref.ensures.value
    c.deref-3.ensures.value c.deref-4.ensures.value c.in_ok-clocks.ensures c.in_ok-pieces.ensures.read (rw (ap (λ (f : CaptureFile). f.frames) c.file.view_is) c.requires.inside) 65536 _ c.in_ok-pieces.ensures.value) (numbered_from c.file.inside.link c.deref-2.result.now c.args.bytes.items c.deref.result.now c.deref-3.result.now c.file.inside.list.items c.deref-4.result.now c.in_ok-clocks.clocks.items c.deref-2.ensures.value c.deref.ensures.value
    c.deref-3.ensures.value c.deref-4.ensures.value c.in_ok-clocks.ensures c.in_ok-pieces.ensures.read (rw (ap (λ (f : CaptureFile). f.frames) c.file.view_is) c.requires.inside)) in
    let slots : c.of-slots.result ≡ map packed (linked whole) = c.of-slots.ensures ∙ ap (λ (l : List (List Slot)). joined l) lists ∙ pieces_join 65536 (linked whole) (omega arith) in
    let fits = is_capture c.file.inside.link c.deref-2.result.now c.args.bytes.items c.deref.result.now c.deref-3.result.now c.file.inside.list.items c.deref-4.result.now c.in_ok-clocks.clocks.items c.deref-2.ensures.value c.deref.ensures.value
    c.deref-3.ensures.value c.deref-4.ensures.value c.in_ok-clocks.ensures c.in_ok-pieces.ensures.read (rw (ap (λ (f : CaptureFile). f.frames) c.file.view_is) c.requires.inside) c.file.inside.cut_bytes (rw (ap (λ (f : CaptureFile). f.frames) c.file.view_is) c.requires.few) in
    let made = c.make.ensures (linked whole) slots fits in
    subst (λ (x : Captured). AreLinked x.seen) (sym made) (linked_are whole)

pub returns-clause-order : goal.returns-clause-order
returns-clause-order g c =
    let whole : List Seen = all_seen c.file.inside.link c.args.bytes.items c.file.inside.list.items c.in_ok-clocks.clocks.items in
    let lists : map (λ p. p.items) c.in_ok-link.field-0.items ≡ pieces_of 65536 (linked whole) = c.in_ok-link.ensures whole (kept c.file.inside.link c.deref-2.result.now c.args.bytes.items c.deref.result.now c.deref-3.result.now c.file.inside.list.items c.deref-4.result.now c.in_ok-clocks.clocks.items c.deref-2.ensures.value c.deref.ensures.value
    c.deref-3.ensures.value c.deref-4.ensures.value c.in_ok-clocks.ensures c.in_ok-pieces.ensures.read (rw (ap (λ (f : CaptureFile). f.frames) c.file.view_is) c.requires.inside) 65536 _ c.in_ok-pieces.ensures.value) (numbered_from c.file.inside.link c.deref-2.result.now c.args.bytes.items c.deref.result.now c.deref-3.result.now c.file.inside.list.items c.deref-4.result.now c.in_ok-clocks.clocks.items c.deref-2.ensures.value c.deref.ensures.value
    c.deref-3.ensures.value c.deref-4.ensures.value c.in_ok-clocks.ensures c.in_ok-pieces.ensures.read (rw (ap (λ (f : CaptureFile). f.frames) c.file.view_is) c.requires.inside)) in
    let slots : c.of-slots.result ≡ map packed (linked whole) = c.of-slots.ensures ∙ ap (λ (l : List (List Slot)). joined l) lists ∙ pieces_join 65536 (linked whole) (omega arith) in
    let fits = is_capture c.file.inside.link c.deref-2.result.now c.args.bytes.items c.deref.result.now c.deref-3.result.now c.file.inside.list.items c.deref-4.result.now c.in_ok-clocks.clocks.items c.deref-2.ensures.value c.deref.ensures.value
    c.deref-3.ensures.value c.deref-4.ensures.value c.in_ok-clocks.ensures c.in_ok-pieces.ensures.read (rw (ap (λ (f : CaptureFile). f.frames) c.file.view_is) c.requires.inside) c.file.inside.cut_bytes (rw (ap (λ (f : CaptureFile). f.frames) c.file.view_is) c.requires.few) in
    let made = c.make.ensures (linked whole) slots fits in
    subst (λ (x : Captured). AreInOrder 0 (packets_in x.seen)) (sym made) (all_in_order c.file.inside.link c.deref-2.result.now c.args.bytes.items c.deref.result.now c.deref-3.result.now c.file.inside.list.items c.deref-4.result.now c.in_ok-clocks.clocks.items c.deref-2.ensures.value c.deref.ensures.value
    c.deref-3.ensures.value c.deref-4.ensures.value c.in_ok-clocks.ensures c.in_ok-pieces.ensures.read (rw (ap (λ (f : CaptureFile). f.frames) c.file.view_is) c.requires.inside) c.requires.small)
