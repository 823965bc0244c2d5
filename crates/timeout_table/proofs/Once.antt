-- Each pair of protocol and mode has one row.
use Rattle.std.proofs.Common.{◌≡◌, Bool, true, false, length, refl}
use Rattle.timeout_table.specs.Table.{rows_for}

pub one_row : (tcp emergency : Bool) → length (rows_for tcp emergency) ≡ 1
unfolding rows_for
one_row true true = refl
one_row true false = refl
one_row false true = refl
one_row false false = refl
