use Rattle.std.proofs.Common.{ap, ◌∙◌}
use Rattle.flow_uses.specs.Uses.{has}
use Rattle.flow_uses.proofs.Rising.{told_by}
use Rattle.flow_uses.proofs.uses.Uses.has.Goals as goal

pub returns : goal.returns
returns c = c.is_ok.ensures.value ∙ told_by _ _ _ c.place.ensures ∙ ap (λ l. has l c.args.no) c.deref.ensures.value ∙ ap (λ v. has v.frames c.args.no) c.self.view_is
