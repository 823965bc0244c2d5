-- Where plain runs are cut, said of each run and the next one of its key.
use Rattle.std.specs.Prelude.{◌≡◌, true, false, List, [], ◌∷◌, Some, None}
use Rattle.suri_base.specs.declared.facts.Facts.{Facts}
use Rattle.flow_sum.specs.Run.{first_of}
use Rattle.plain_runs.specs.Plain.{PlainRun, cut_reason, is_cut}

-- neither the packet nor one of those before it, the newest first, ends the run of the packets before it
abbrev pub IsUncut : Facts → List Facts → Type 0
IsUncut f [] = Unit {0}
IsUncut f (g ∷ older) = (is_cut (record { newest = g; older = older }) f ≡ false) × IsUncut g older

-- the first packet of the next plain run ended this one, for its own reason; where there is no next one, none ended it
abbrev pub EndsBefore : PlainRun → List PlainRun → Type 0
EndsBefore p [] = p.ended ≡ None
EndsBefore p (q ∷ ps) = (is_cut p.run (first_of q.run) ≡ true) × (p.ended ≡ Some (cut_reason p.run (first_of q.run)))

-- the plain runs of a key: each was ended by the next packet of the key, and by none of its own
abbrev pub AreCutByTheNext : List PlainRun → Type 0
AreCutByTheNext [] = Unit {0}
AreCutByTheNext (p ∷ ps) = IsUncut p.run.newest p.run.older × EndsBefore p ps × AreCutByTheNext ps
