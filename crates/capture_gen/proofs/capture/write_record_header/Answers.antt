use Rattle.std.proofs.Common.{ℕ, List, ◌++◌, ap, ◌∙◌}
use Rattle.std.specs.Int.{to_le_bytes, w32}
use Rattle.std.proofs.lemmas.Result.{on_ok_weaker}
use Rattle.capture_gen.specs.Capture.{time_bytes}
use Rattle.capture_gen.proofs.Appending.{append_three}
use Rattle.capture_gen.proofs.capture.write_record_header.Goals as goal

pub returns : goal.returns
returns c =
    let time = time_bytes c.args.place in
    let size = to_le_bytes w32 c.args.size in
    on_ok_weaker c.write_word-2.result
    (λ written. written ∙ ap (λ (before : List ℕ). before ++ size) c.in_ok-write_word.ensures ∙ ap (λ (before : List ℕ). before ++ size ++ size) c.in_ok-write_time.ensures
    ∙ append_three c.args.out.now.items time size size) c.write_word-2.ensures
