use Rattle.std.proofs.Common.{sym, ◌∙◌}
use Rattle.flow_key.proofs.Symmetry.{counterpart_of_ipv4, counterpart_of_ipv6, counterpart_of_symmetric}
use Rattle.flow_key.proofs.pairs.counterpart.Goals as goal

pub returns-then-version-eq-IPV4-clause-symmetric : goal.returns-then-version-eq-IPV4-clause-symmetric
returns-then-version-eq-IPV4-clause-symmetric c other is =
    counterpart_of_symmetric c.args.version c.args.kind other (counterpart_of_ipv4 c.args.version c.args.kind c.if-version-eq-IPV4.true ∙ sym c.counterpart_over_ipv4.ensures ∙ is)

pub returns-else-version-eq-IPV4-clause-symmetric : goal.returns-else-version-eq-IPV4-clause-symmetric
returns-else-version-eq-IPV4-clause-symmetric c other is =
    counterpart_of_symmetric c.args.version c.args.kind other (counterpart_of_ipv6 c.args.version c.args.kind c.if-version-eq-IPV4.false ∙ sym c.counterpart_over_ipv6.ensures ∙ is)
