use Rattle.std.proofs.Common.{sym, subst}
use Rattle.std.specs.Str.{IsAscii}
use Rattle.eve_record.proofs.Hexadecimals.{digest_ascii}
use Rattle.eve_record.proofs.streams.digest_text.Goals as goal

pub returns-clause-ascii : goal.returns-clause-ascii
returns-clause-ascii c = subst IsAscii (sym c.in-Ok.ensures.written) (digest_ascii c.as_slice.result.now)
