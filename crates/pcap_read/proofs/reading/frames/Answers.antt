use Rattle.std.proofs.Common.{sym, inr}
use Rattle.std.proofs.lemmas.Result.{err_from_is_err_and}
use Rattle.pcap_read.proofs.Once.{agrees}
use Rattle.pcap_read.specs.File.{Tells, bad_header}
use Rattle.pcap_read.proofs.reading.frames.Goals as goal

pub returns-in_err-header-clause-found : goal.returns-in_err-header-clause-found
returns-in_err-header-clause-found c =
    let p = err_from_is_err_and c.from_residual.result c.from_residual.ensures.1 in
    rw (p.1, p.2) (inr (bad_header _ (sym c.in_err-header.ensures.value)))

pub returns-in_err-header-clause-only : goal.returns-in_err-header-clause-only
returns-in_err-header-clause-only c = λ answer holds.
    let p = err_from_is_err_and c.from_residual.result c.from_residual.ensures.1 in
    let told : Tells c.args.bytes.now c.from_residual.result = rw (p.1, p.2) (inr (bad_header _ (sym c.in_err-header.ensures.value))) in
    agrees c.args.bytes.now c.from_residual.result answer told holds

pub returns-clause-only : goal.returns-clause-only
returns-clause-only c = λ answer holds. agrees c.args.bytes.now c.read_records.result answer c.read_records.ensures.told holds
