use Rattle.std.proofs.Common.{◌/◌, ◌%◌, ◌^◌, sym, subst, arith}
use Rattle.std.specs.Str.{IsAscii}
use Rattle.eve_record.proofs.Hexadecimals.{ascii_groups, groups_of, read_group}
use Rattle.eve_record.proofs.address.groups.Goals as goal

pub returns-clause-value : goal.returns-clause-value
returns-clause-value c =
    let n = c.args.n in
    let first = read_group c.group-a.result (n / 2 ^ 48) (omega arith) c.group-a.ensures in
    let second = read_group c.group-b.result (n / 2 ^ 32 % 65536) (omega arith) c.group-b.ensures in
    let third = read_group c.group-c.result (n / 65536 % 65536) (omega arith) c.group-c.ensures in
    let fourth = read_group c.group-d.result (n % 65536) (omega arith) c.group-d.ensures in
    λ i. groups_of (first i) (second i) (third i) (fourth i)

pub returns-clause-ascii : goal.returns-clause-ascii
returns-clause-ascii c = subst IsAscii (sym (returns-clause-value c)) (ascii_groups c.args.n (omega arith))
