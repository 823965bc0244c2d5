use Rattle.ip_decode.proofs.Spelled4.{reads_ipv4}
use Rattle.ip_decode.proofs.Spelled6.{reads_ipv6}
use Rattle.ip_decode.proofs.reading.ip.Goals as goal

pub returns-then-version-eq4-clause-ipv4 : goal.returns-then-version-eq4-clause-ipv4
returns-then-version-eq4-clause-ipv4 c = λ four. reads_ipv4 c.args.bytes.now c.read_ipv4.result c.read_ipv4.ensures.view

pub returns-else-version-eq4-clause-ipv6 : goal.returns-else-version-eq4-clause-ipv6
returns-else-version-eq4-clause-ipv6 c = λ six. reads_ipv6 c.args.bytes.now c.read_ipv6.result c.read_ipv6.ensures.view
