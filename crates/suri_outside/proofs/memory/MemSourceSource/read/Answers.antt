use Rattle.std.proofs.Common.{◌≡◌, ◌+◌, drop, arith, ◌∙◌}
use Rattle.std.proofs.lemmas.List.{drop_all}
use Rattle.std.proofs.lemmas.Grind.{common_steps}
use Rattle.suri_outside.proofs.Pieces.{given_and_left}
use Rattle.suri_outside.proofs.memory.MemSourceSource.read.Goals as goal

pub returns-clause-bytes : goal.returns-clause-bytes
returns-clause-bytes c =
    let left : c.args.self.now.left ≡ drop c.self.inside.at c.self.inside.bytes.items = grind (arith, common_steps) in (
      left ∙ given_and_left c.self.inside.bytes.items c.copy_from_slice.new.self (drop c.min-count.result c.args.into.now) c.self.inside.at c.min-count.result
          (grind (arith, common_steps)) (grind (arith, common_steps)),
      λ none room. drop_all (c.self.inside.at + c.min-count.result) c.self.inside.bytes.items (grind (arith, common_steps)),
    )
