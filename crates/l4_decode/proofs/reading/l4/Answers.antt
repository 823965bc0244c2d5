use Rattle.l4_decode.proofs.Spelled.{reads_icmp, reads_tcp, reads_udp}
use Rattle.l4_decode.proofs.reading.l4.Goals as goal

pub returns-in_default-eq6-clause-segment : goal.returns-in_default-eq6-clause-segment
returns-in_default-eq6-clause-segment c = λ six. reads_tcp c.args.stated c.args.bytes.now c.read_tcp.result c.read_tcp.ensures.view

pub returns-in_default-eq17-clause-datagram : goal.returns-in_default-eq17-clause-datagram
returns-in_default-eq17-clause-datagram c = λ seventeen. reads_udp c.args.bytes.now c.read_udp.result c.read_udp.ensures.view

pub returns-in-4-eq1-clause-message : goal.returns-in-4-eq1-clause-message
returns-in-4-eq1-clause-message c = λ icmp. reads_icmp c.args.bytes.now c.read_icmp.result c.read_icmp.ensures.view
