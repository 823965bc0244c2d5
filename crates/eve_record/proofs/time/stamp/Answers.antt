use Rattle.std.proofs.Common.{◌/◌, ◌%◌, ◌++◌, sym, ◌∙◌, subst}
use Rattle.std.specs.Str.{IsAscii}
use Rattle.eve_record.specs.Address.{padded_decimal}
use Rattle.eve_record.proofs.Decimals.{ascii_stamp, four_pairs, read_pair, six_pairs, stamp_of}
use Rattle.eve_record.proofs.time.stamp.Goals as goal

pub returns-clause-value : goal.returns-clause-value
returns-clause-value c =
    let century = read_pair c.two-century.result _ c.two-century.ensures.value c.two-century.ensures.digits in
    let year = read_pair c.two-year.result _ c.two-year.ensures.value c.two-year.ensures.digits in
    let month = read_pair c.two-month.result _ c.two-month.ensures.value c.two-month.ensures.digits in
    let day = read_pair c.two-day.result _ c.two-day.ensures.value c.two-day.ensures.digits in
    let hour = read_pair c.two-hour.result _ c.two-hour.ensures.value c.two-hour.ensures.digits in
    let minute = read_pair c.two-minute.result _ c.two-minute.ensures.value c.two-minute.ensures.digits in
    let second = read_pair c.two-second.result _ c.two-second.ensures.value c.two-second.ensures.digits in
    let front = read_pair c.two-front.result _ c.two-front.ensures.value c.two-front.ensures.digits in
    let middle = read_pair c.two-middle.result _ c.two-middle.ensures.value c.two-middle.ensures.digits in
    let back = read_pair c.two-back.result _ c.two-back.ensures.value c.two-back.ensures.digits in
    let years = sym (four_pairs c.args.date.year c.requires.year) in
    let micros = sym (six_pairs c.args.micros c.requires.micros) in
    (λ i. stamp_of (century i ++ year i) (month i) (day i) (hour i) (minute i) (second i) ((front i ++ middle i) ++ back i))
    ∙ (λ i. stamp_of (years i) (padded_decimal 2 c.args.date.month) (padded_decimal 2 c.args.date.day) (padded_decimal 2 (c.args.seconds / 3600))
    (padded_decimal 2 (c.args.seconds / 60 % 60)) (padded_decimal 2 (c.args.seconds % 60)) (micros i))

pub returns-clause-ascii : goal.returns-clause-ascii
returns-clause-ascii c =
    subst IsAscii (sym (returns-clause-value c))
    (ascii_stamp c.args.date c.args.seconds c.args.micros c.requires.year c.requires.month c.requires.day c.requires.seconds c.requires.micros)
