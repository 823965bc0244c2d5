-- The lines of all roles, in the order of the roles, are those of all runs that were finished: put together role by role.
use Rattle.std.proofs.Common.{◌≡◌, ℕ, suc, ◌+◌, ◌<◌, List, [], ◌∷◌, ◌++◌, length, reverse, get_or, sym, subst, arith, append_assoc, append-nil}
use Rattle.end_laws.specs.Ended.{all_finished, lines_in}
use Rattle.flow_object.specs.declared.outcome.FlowLine.{FlowLine}
use Rattle.recycler.proofs.Draining.{pairs_append}
use Rattle.role_meets.specs.Parts.{lines_of}
use Rattle.role_meets.specs.declared.roles.Role.{Role}
use Rattle.role_steps.specs.Items.{IsLine, LinesOf}
use Rattle.run_rules.specs.Acts.{Act}
use Rattle.run_rules.specs.Histories.{Histories}
use Rattle.run_rules.specs.Serving.{finished}
use Rattle.run_rules.specs.Setup.{Setup}

module _ (w : Setup) (t : Histories) (acts : ℕ → List Act) where
  -- from role m on, where the roles below it told these lines
  pub lines_from : (rs : List Role) (m n : ℕ) (ls : List FlowLine) → m + length rs ≡ n → LinesOf w t (all_finished acts m) ls
      → ((k j : ℕ) (d : Role) → k < length rs → j ≡ m + k → LinesOf w t (reverse (finished (acts j))) (lines_of (get_or rs k d).part))
      → LinesOf w t (all_finished acts n) (ls ++ lines_in rs)
  lines_from [] m n ls e h each =
      let same : m ≡ n = omega (arith, e) in
      subst (λ (l : List FlowLine). LinesOf w t (all_finished acts n) l) (sym (append-nil ls)) (subst (λ (k : ℕ). LinesOf w t (all_finished acts k) ls) same h)
  lines_from (r ∷ rs) m n ls e h each =
      subst (λ (l : List FlowLine). LinesOf w t (all_finished acts n) l) (append_assoc ls (lines_of r.part) (lines_in rs))
      (lines_from rs (suc m) n (ls ++ lines_of r.part) (omega (arith, e))
      (pairs_append (λ a l. IsLine w t a l) (all_finished acts m) (reverse (finished (acts m))) ls (lines_of r.part) h (each 0 m r (omega arith) (omega arith)))
      (λ k j d low at. each (suc k) j d (omega (arith, low)) (omega (arith, at))))

  -- and with the last role's lines behind them
  pub lines_and_last : (n k : ℕ) (ls last : List FlowLine) → suc n ≡ k → LinesOf w t (all_finished acts n) ls → LinesOf w t (reverse (finished (acts n))) last
      → LinesOf w t (all_finished acts k) (ls ++ last)
  lines_and_last n k ls last e h more =
      subst (λ (m : ℕ). LinesOf w t (all_finished acts m) (ls ++ last)) e
      (pairs_append (λ a l. IsLine w t a l) (all_finished acts n) (reverse (finished (acts n))) ls last h more)
