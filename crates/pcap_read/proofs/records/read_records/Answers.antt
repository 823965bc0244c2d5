use Rattle.std.proofs.Common.{◌≡◌, ◌≢◌, ◌+◌, ◌<◌, ◌≤◌, arith, length, take, drop, inr, ap, ◌∙◌, length-drop}
use Rattle.std.proofs.lemmas.Grind.{common_steps}
use Rattle.std.proofs.lemmas.List.{take_rest}
use Rattle.pcap_read.specs.Records.{captured, frame_of}
use Rattle.pcap_read.proofs.SoFar.{finished, refused, one_more, nothing_left, too_many, cut_header, too_long, cut_body}
use Rattle.pcap_read.proofs.Inside.{so_far_inside, so_far_short}
use Rattle.pcap_read.proofs.records.read_records.Goals as goal

pub returns-then-left-eq0-clause-told : goal.returns-then-left-eq0-clause-told
returns-then-left-eq0-clause-told c =
    let ends = nothing_left c.args.header (length c.loop-rest.list.items) (drop c.loop-rest.at c.args.bytes.now) (simp take_rest at c.if-left-eq0.true) in
    finished c.args.header c.args.bytes.now c.loop-rest.at 0 c.loop-rest.list.items c.requires.header c.loop-rest.invariant.so_far ends.0 ends.1

pub returns-then-len-eq-MAX_FRAMES-clause-told : goal.returns-then-len-eq-MAX_FRAMES-clause-told
returns-then-len-eq-MAX_FRAMES-clause-told c =
    let full : length c.loop-rest.list.items ≡ 4194304 = grind (arith, common_steps) in
    let ends = too_many c.args.header (length c.loop-rest.list.items) (drop c.loop-rest.at c.args.bytes.now) (simp take_rest at c.if-left-eq0.false) full in
    inr (refused c.args.header c.args.bytes.now c.loop-rest.at _ c.loop-rest.list.items c.requires.header c.loop-rest.invariant.so_far ends.0 ends.1)

pub returns-then-left-lt-RECORD_HEADER_LEN-clause-told : goal.returns-then-left-lt-RECORD_HEADER_LEN-clause-told
returns-then-left-lt-RECORD_HEADER_LEN-clause-told c =
    let few : length c.loop-rest.list.items ≢ 4194304 = grind (arith, common_steps) in
    let ends = cut_header c.args.header (length c.loop-rest.list.items) (drop c.loop-rest.at c.args.bytes.now) (simp take_rest at c.if-left-eq0.false) few
    (simp take_rest at c.if-left-lt-RECORD_HEADER_LEN.true) in
    simp take_rest
    (finished c.args.header c.args.bytes.now c.loop-rest.at _ c.loop-rest.list.items c.requires.header c.loop-rest.invariant.so_far ends.0 ends.1)

pub returns-then-cap-gt-MAX_CAPTURED-clause-told : goal.returns-then-cap-gt-MAX_CAPTURED-clause-told
returns-then-cap-gt-MAX_CAPTURED-clause-told c =
    let few : length c.loop-rest.list.items ≢ 4194304 = grind (arith, common_steps) in
    let states : c.word-cap.result ≡ captured c.args.header (drop c.loop-rest.at c.args.bytes.now) = simp take_rest at c.word-cap.ensures in
    let number : c.len-then-cap-gt-MAX_CAPTURED.result ≡ length c.loop-rest.list.items = grind (arith, common_steps) in
    let ends = too_long c.args.header (length c.loop-rest.list.items) (drop c.loop-rest.at c.args.bytes.now) (simp take_rest at c.if-left-eq0.false) few
    (simp take_rest at c.if-left-lt-RECORD_HEADER_LEN.false) (rw states at c.if-cap-gt-MAX_CAPTURED.true) in
    inr (rw (states, number) (refused c.args.header c.args.bytes.now c.loop-rest.at _ c.loop-rest.list.items c.requires.header c.loop-rest.invariant.so_far ends.0 ends.1))

pub returns-then-left-size-clause-told : goal.returns-then-left-size-clause-told
returns-then-left-size-clause-told c =
    let few : length c.loop-rest.list.items ≢ 4194304 = grind (arith, common_steps) in
    let states : c.word-cap.result ≡ captured c.args.header (drop c.loop-rest.at c.args.bytes.now) = simp take_rest at c.word-cap.ensures in
    let ends = cut_body c.args.header (length c.loop-rest.list.items) (drop c.loop-rest.at c.args.bytes.now) (simp take_rest at c.if-left-eq0.false) few
    (simp take_rest at c.if-left-lt-RECORD_HEADER_LEN.false) (rw states at c.if-cap-gt-MAX_CAPTURED.false) (rw states at (simp take_rest at c.if-left-size.true)) in
    simp take_rest
    (finished c.args.header c.args.bytes.now c.loop-rest.at _ c.loop-rest.list.items c.requires.header c.loop-rest.invariant.so_far ends.0 ends.1)

pub loop-rest-preserved : goal.loop-rest-preserved
loop-rest-preserved c =
    let few : length c.loop-rest.list.items < 4194304 = grind (arith, common_steps, c.loop-rest.invariant.so_far.few, c.loop-rest.invariant.so_far.counted) in
    let states : c.word-cap.result ≡ captured c.args.header (drop c.loop-rest.at c.args.bytes.now) = simp take_rest at c.word-cap.ensures in
    let size = 16 + c.word-cap.result in
    let fits : 16 + c.word-cap.result ≤ length (drop c.loop-rest.at c.args.bytes.now) = simp take_rest at c.if-left-size.false in
    let number : c.len-in-loop-rest.result ≡ length c.loop-rest.list.items = grind (arith, common_steps) in
    let made : c.frame_at-next.result ≡ frame_of c.args.header (length c.loop-rest.list.items) c.loop-rest.at (take (16 + c.word-cap.result) (drop c.loop-rest.at c.args.bytes.now)) =
    (simp take_rest at c.frame_at-next.ensures) ∙ ap (λ n. frame_of c.args.header n c.loop-rest.at (take (16 + c.word-cap.result) (drop c.loop-rest.at c.args.bytes.now))) number in
    record {
      within = omega (arith, length-drop c.loop-rest.at c.args.bytes.now);
      so_far = rw c.in_ok-push.ensures.items (one_more c.args.header c.args.bytes.now c.loop-rest.at c.loop-rest.list.items (16 + c.word-cap.result) c.frame_at-next.result
          c.loop-rest.invariant.so_far few (omega arith) fits (rw states at c.if-cap-gt-MAX_CAPTURED.false) (ap (λ n. 16 + n) states) made);
    }

pub returns-then-left-eq0-clause-inside : goal.returns-then-left-eq0-clause-inside
returns-then-left-eq0-clause-inside c =
    so_far_inside c.args.header c.args.bytes.now c.loop-rest.at c.loop-rest.list.items c.loop-rest.invariant.so_far c.requires.read.unit_small (λ i. omega (arith, c.type_inv.bytes i)) c.loop-rest.invariant.within

pub returns-then-left-lt-RECORD_HEADER_LEN-clause-inside : goal.returns-then-left-lt-RECORD_HEADER_LEN-clause-inside
returns-then-left-lt-RECORD_HEADER_LEN-clause-inside c =
    so_far_inside c.args.header c.args.bytes.now c.loop-rest.at c.loop-rest.list.items c.loop-rest.invariant.so_far c.requires.read.unit_small (λ i. omega (arith, c.type_inv.bytes i)) c.loop-rest.invariant.within

pub returns-then-left-size-clause-inside : goal.returns-then-left-size-clause-inside
returns-then-left-size-clause-inside c =
    so_far_inside c.args.header c.args.bytes.now c.loop-rest.at c.loop-rest.list.items c.loop-rest.invariant.so_far c.requires.read.unit_small (λ i. omega (arith, c.type_inv.bytes i)) c.loop-rest.invariant.within

pub returns-then-left-eq0-clause-short : goal.returns-then-left-eq0-clause-short
returns-then-left-eq0-clause-short c = so_far_short c.args.header c.args.bytes.now c.loop-rest.at c.loop-rest.list.items c.loop-rest.invariant.so_far

pub returns-then-left-lt-RECORD_HEADER_LEN-clause-short : goal.returns-then-left-lt-RECORD_HEADER_LEN-clause-short
returns-then-left-lt-RECORD_HEADER_LEN-clause-short c = so_far_short c.args.header c.args.bytes.now c.loop-rest.at c.loop-rest.list.items c.loop-rest.invariant.so_far

pub returns-then-left-size-clause-short : goal.returns-then-left-size-clause-short
returns-then-left-size-clause-short c = so_far_short c.args.header c.args.bytes.now c.loop-rest.at c.loop-rest.list.items c.loop-rest.invariant.so_far
