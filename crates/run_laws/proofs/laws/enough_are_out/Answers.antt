use Rattle.std.proofs.Common.{◌≡◌, ℕ, suc, ◌+◌, ◌<◌, ◌≤◌, List, ◌∷◌, ◌++◌, length, subst, arith}
use Rattle.bucket_laws.specs.Leaving.{Gone}
use Rattle.flow_pool.specs.Counting.{flows_out}
use Rattle.run_laws.specs.RoundEnd.{IsRoundEnd, next_queue}
use Rattle.run_rules.specs.Histories.{Histories}
use Rattle.run_rules.specs.Lawful.{PutsAreDue}
use Rattle.run_rules.specs.Setup.{Setup, rounds, manager}
use Rattle.suri_base.specs.declared.entry.Entry.{Entry}
use Rattle.suri_base.specs.declared.entry.PoolNote.{PoolNote}
use Rattle.run_laws.proofs.Rounded.{out_at_round_end, puts_stay_due, puts_first, puts_go_on, end_puts}
use Rattle.run_laws.proofs.laws.enough_are_out.Goals as goal

abbrev Out : Setup → Histories → ℕ → Type 0
Out w t n = n ≤ rounds w → (l : IsRoundEnd w t n) → PutsAreDue t.pool → length (next_queue w l.hands) ≤ flows_out t.pool

abbrev Next : Setup → Histories → Histories → ℕ → ℕ → Type 0
Next w old new n m = m ≤ rounds w → (l : IsRoundEnd w old n) → (k : IsRoundEnd w new m) → (h : ℕ → List Gone) → ((role : ℕ) → role < manager w + 1 → k.hands role ≡ h role ∷ l.hands role)
    → (since : List (Entry PoolNote)) → new.pool ≡ since ++ old.pool → PutsAreDue old.pool → PutsAreDue new.pool

one : (r : ℕ) → suc r ≡ r + 1
one r = omega arith

two : (r : ℕ) → suc (suc r) ≡ r + 2
two r = omega arith

pub returns : goal.returns
returns c = record {
  waits = λ w t r. subst (Out w t) (one r) (λ p l d. out_at_round_end w t r p l d);
  puts = puts_stay_due;
  first = puts_first;
  next = λ w old new r. subst (λ (m : ℕ). Next w old new (r + 1) m) (two r) (subst (λ (n : ℕ). Next w old new n (suc (suc r))) (one r) (λ p l m h e since g d. puts_go_on w old new r p l m h e since g d));
  last = λ w t l since old e h p. end_puts w t l since old e h p;
}
