-- The words of the command line, as far as they can be had.
use Rattle.std.specs.IoError.{error_kind}
use Rattle.std.specs.declared.io.Error.{Error}
use Rattle.std.specs.declared.io.ErrorKind.{ErrorKind}
use Rattle.std.specs.declared.io.ErrorKind.TheVariants.{OutOfMemory}
use Rattle.suri_run.specs.declared.cause.Cause.{Cause}
use Rattle.suri_run.specs.declared.cause.Cause.TheVariants as cause

-- why there are no words: memory ran out, or, whatever else is told, one of them is no text
abbrev pub cause_of_kind : ErrorKind → Cause
cause_of_kind OutOfMemory = cause.NoMemory
cause_of_kind _ = cause.Words

abbrev pub unheard : Error → Cause
unheard e = cause_of_kind (error_kind e)
