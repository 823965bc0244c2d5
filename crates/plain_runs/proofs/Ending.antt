-- Each plain run of a key was ended by the next packet of the key, and by none of its own.
use Rattle.std.proofs.Common.{◌≡◌, true, List, [], ◌∷◌, Some, refl, sym, subst, inl, inr}
use Rattle.suri_base.specs.Keys.{key_list}
use Rattle.suri_base.specs.declared.facts.Facts.{Facts}
use Rattle.suri_base.specs.declared.key.Key.{Key}
use Rattle.flow_sum.specs.Run.{Run, alone, first_of, with_one_more}
use Rattle.plain_runs.specs.Cuts.{AreCutByTheNext, EndsBefore, IsUncut}
use Rattle.plain_runs.specs.Plain.{ArePlain, PlainRun, cut_from, cut_reason, cut_run, cuts, is_cut, with_key}
use Rattle.suri_base.proofs.SameKeys.{bool_is}

-- a plain run that the first packet of a run ends, ends before the plain runs that the run is cut into
ends_before : (p : PlainRun) (r : Run) (fs : List Facts) → is_cut p.run (first_of r) ≡ true → p.ended ≡ Some (cut_reason p.run (first_of r)) → EndsBefore p (cut_from r fs)
ends_before p r [] cut ended = (cut, ended)
ends_before p r (f ∷ fs) cut ended = elim (bool_is (is_cut r f)) [
  | inl next ↦ rw next (cut, ended)
  | inr on ↦ rw on (ends_before p (with_one_more f r) fs cut ended)
]

cut_right : (r : Run) (fs : List Facts) → IsUncut r.newest r.older → AreCutByTheNext (cut_from r fs)
cut_right r [] uncut = (uncut, refl, tt)
cut_right r (f ∷ fs) uncut = elim (bool_is (is_cut r f)) [
  | inl next ↦ rw next (uncut, ends_before (cut_run r f) (alone f) fs next refl, cut_right (alone f) fs tt)
  | inr on ↦ rw on (cut_right (with_one_more f r) fs (on, uncut))
]

cuts_right : (fs : List Facts) → AreCutByTheNext (cuts fs)
cuts_right [] = tt
cuts_right (f ∷ fs) = cut_right (alone f) fs tt

pub all_cut : (packets : List Facts) (plain_runs : List PlainRun) (k : Key) → ArePlain packets plain_runs → AreCutByTheNext (with_key k plain_runs)
all_cut packets plain_runs k plain = subst AreCutByTheNext (sym (plain.each k)) (cuts_right (key_list k packets))
