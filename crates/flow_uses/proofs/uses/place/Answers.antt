use Rattle.std.proofs.lemmas.List.Sorted.{searched}
use Rattle.flow_uses.proofs.Rising.{found_by, rises}
use Rattle.flow_uses.proofs.uses.place.Goals as goal

pub returns : goal.returns
returns c = found_by _ _ _ (searched _ c.args.item _ c.binary_search.ensures.position (rises _ c.requires))
