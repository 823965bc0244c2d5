use Rattle.std.proofs.Common.{◌≡◌, arith, FitsSigned, w64, ◌∙◌}
use Rattle.std.proofs.lemmas.Int.{to_z-of_z, ints}
use Rattle.std.specs.Prelude.{pos, ◌+ℤ◌}
use Rattle.jiff.specs.Words.{epoch_day, IsEpochDay}
use Rattle.jiff.proofs.SpanFacts.{signed_arith, date_add-days, can_add-days}
use Rattle.eve_record.proofs.Dates.{epoch_is_zero, civil_is}
use Rattle.eve_record.proofs.time.day_after.Goals as goal

pub unreachable-requires : goal.unreachable-requires
unreachable-requires c =
    let f8 : FitsSigned w64 c.from-count.result = rw c.from-count.ensures (omega (arith, signed_arith)) in
    let only = simp to_z-of_z at c.days.ensures in
    let can = can_add-days c.date.result c.from-count.result c.days.result only in
    let start : epoch_day c.date.result ≡ pos 0 = epoch_is_zero c.date.result c.date.ensures in
    let day : IsEpochDay (epoch_day c.date.result +ℤ c.from-count.result) = (rw (start, c.from-count.ensures) (omega (arith, ints)), rw (start, c.from-count.ensures) (omega (arith, ints))) in
    let bad = c.in-Err.ensures.succeeds.1 (can.1 day) in
    cc

pub returns : goal.returns
returns c =
    let f8 : FitsSigned w64 c.from-count.result = rw c.from-count.ensures (omega (arith, signed_arith)) in
    let only = simp to_z-of_z at c.days.ensures in
    let start : epoch_day c.date.result ≡ pos 0 = epoch_is_zero c.date.result c.date.ensures in
    let value = c.in-Ok.ensures.value ∙ date_add-days c.date.result c.from-count.result c.days.result only in
    let sum : epoch_day c.in-Ok.day ≡ pos 0 +ℤ pos c.args.days = rw (start, c.from-count.ensures) at value in
    civil_is c.in-Ok.day c.args.days (c.in-Ok.day.year_in, c.in-Ok.day.month_in, c.in-Ok.day.day_in) (omega (arith, ints))
