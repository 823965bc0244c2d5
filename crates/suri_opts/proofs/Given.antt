-- What the command is.
use Rattle.std.proofs.Common.{◌≡◌, true, refl}
use Rattle.clap.specs.Words.{is_simple, is_simple_and_free}
use Rattle.suri_opts.specs.Words.{suri_app}

pub suri_is_simple : is_simple suri_app ≡ true
suri_is_simple = refl

pub suri_is_free : is_simple_and_free suri_app ≡ true
suri_is_free = refl
