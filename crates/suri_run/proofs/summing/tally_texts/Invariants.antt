use Rattle.std.proofs.Common.{◌≡◌, ◌++◌, List, ℕ, drop, flat_map}
use Rattle.eve_record.specs.SummaryLine.{Tallies}
use Rattle.suri_run.proofs.summing.tally_texts.Given as goal

-- what was added so far, and what is left
abbrev pub invariant-loop-text : goal.invariant-loop-text
invariant-loop-text l = (text : List ℕ) → Tallies l.fn.tally text
    → (all : List ℕ) × Tallies l.tally all × (all ++ flat_map (λ t. t.items) (drop l.text-index l.texts) ≡ text ++ flat_map (λ t. t.items) l.texts)
