use Rattle.std.proofs.Common.{◌*◌, ◌%◌, ◌^◌, ap, ◌∙◌}
use Rattle.std.specs.Prelude.{fold}
use Rattle.suri_base.specs.Hash.{hashed}
use Rattle.suri_base.proofs.Hashes.{after_short}
use Rattle.suri_base.proofs.fnv.after_address.Goals as goal

pub returns-then-addr-lt-SHORT : goal.returns-then-addr-lt-SHORT
returns-then-addr-lt-SHORT c =
    after_short c.args.hash _ c.args.addr c.if-addr-lt-SHORT.true (c.after_bytes.ensures ∙ ap (fold hashed (c.args.hash * 3549196337 % 2 ^ 32)) c.to_be_bytes.ensures)

pub returns-else-addr-lt-SHORT : goal.returns-else-addr-lt-SHORT
returns-else-addr-lt-SHORT c =
    c.after_bytes-else-addr-lt-SHORT.ensures ∙ ap (fold hashed c.args.hash) c.to_be_bytes-else-addr-lt-SHORT.ensures
