use Rattle.std.proofs.Common.{sym}
use Rattle.reassembly.proofs.NoBytes.{digest_of_none}
use Rattle.reassembly.proofs.digest.of_no_bytes.Goals as goal

pub returns : goal.returns
returns c = sym digest_of_none
