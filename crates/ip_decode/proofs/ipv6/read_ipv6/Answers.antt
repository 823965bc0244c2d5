use Rattle.std.proofs.Common.{◌≡◌, ◌≤◌, length, min, sym, arith}
use Rattle.std.proofs.lemmas.Result.{err_from_is_err_and}
use Rattle.ip_decode.proofs.Packet.{ipv6_of-err, ipv6_of-ok}
use Rattle.ip_decode.proofs.ipv6.read_ipv6.Goals as goal

pub returns-in_err-upper-clause-view : goal.returns-in_err-upper-clause-view
returns-in_err-upper-clause-view c =
    let stop_is : c.min-stop.result ≡ min c.total_len-total.result (length c.args.bytes.now) = omega (arith, c.min-stop.ensures) in
    let long : 40 ≤ c.min-stop.result = omega (arith, c.total_len-total.ensures.long, c.if-captured-lt-HEADER_LEN.false) in
    let p = err_from_is_err_and c.from_residual.result c.from_residual.ensures.1 in
    rw (p.1, p.2) (sym (ipv6_of-err c.args.bytes.now c.total_len-total.result c.min-stop.result _ c.if-captured-lt-HEADER_LEN.false c.if-bytes-ne6.false c.total_len-total.ensures.value long stop_is c.in_err-upper.ensures.upper))

pub returns-clause-view : goal.returns-clause-view
returns-clause-view c =
    let stop_is : c.min-stop.result ≡ min c.total_len-total.result (length c.args.bytes.now) = omega (arith, c.min-stop.ensures) in
    let long : 40 ≤ c.min-stop.result = omega (arith, c.total_len-total.ensures.long, c.if-captured-lt-HEADER_LEN.false) in
    rw (c.address_at.ensures.value, c.address_at-2.ensures.value) (sym (ipv6_of-ok c.args.bytes.now c.total_len-total.result c.min-stop.result _ c.if-captured-lt-HEADER_LEN.false c.if-bytes-ne6.false c.total_len-total.ensures.value long stop_is c.in_ok-upper.ensures.upper))
