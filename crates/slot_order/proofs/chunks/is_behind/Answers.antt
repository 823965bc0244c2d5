use Rattle.std.proofs.Common.{◌≡◌, ◌∙◌, sym, refl, true, is_lt}
use Rattle.std.specs.declared.cmp.Ordering.{Ordering}
use Rattle.std.specs.declared.cmp.Ordering.TheVariants.{Less, Equal, Greater}
use Rattle.slot_order.proofs.Next.{gap_behind}
use Rattle.slot_order.proofs.chunks.is_behind.Goals as goal

less_is : (o : Ordering) → is_lt o ≡ true → o ≡ Less
less_is Less h = refl
less_is Equal h = cc
less_is Greater h = cc

pub returns : goal.returns
returns g c = λ behind. gap_behind g.met.K.Ord.total _ c.args.key _ c.requires (sym c.cmp.ensures ∙ less_is c.cmp.result (sym c.is_lt.ensures ∙ behind))
