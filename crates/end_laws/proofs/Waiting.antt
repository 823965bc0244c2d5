-- What waits after the last round is no more than the pool has objects: each run that waits has one that is out. Where there was no round,
-- nothing waits, since no role has a hand yet.
use Rattle.std.proofs.Common.{◌≡◌, ◌≢◌, ℕ, zero, suc, ◌+◌, ◌<◌, ◌≤◌, List, [], ◌∷◌, ◌++◌, length, ⊎_elim, refl, sym, ◌∙◌, ap, subst, arith}
use Rattle.std.proofs.lemmas.Bool.Decides.{eqb_tells}
use Rattle.bucket_laws.specs.Leaving.{Gone}
use Rattle.flow_pool.specs.Counting.{FlowPoolRules}
use Rattle.flow_pool.proofs.PoolHistories.{within_memcap}
use Rattle.run_laws.proofs.Rounded.{out_at_round_end}
use Rattle.run_laws.proofs.Serving.{manager_totals}
use Rattle.run_laws.specs.RoundEnd.{IsRoundEnd, next_queue}
use Rattle.run_laws.specs.Setting.{IsLayout}
use Rattle.run_rules.specs.Histories.{Histories}
use Rattle.run_rules.specs.Lawful.{PutsAreDue, gathered, nth, setting_for}
use Rattle.run_rules.specs.Manager.{new_manager}
use Rattle.run_rules.specs.Setup.{Setup, manager, rounds}

-- of roles without a hand nothing is gathered
gathered_none : (n : ℕ) (hands : ℕ → List (List Gone)) → ((role : ℕ) → role < n → hands role ≡ []) → gathered n hands 0 ≡ []
gathered_none zero hands none = refl
gathered_none (suc n) hands none =
    ap (λ (x : List Gone). x ++ nth 0 (hands n)) (gathered_none n hands (λ role low. none role (omega (arith, low)))) ∙ ap (nth 0) (none n (omega arith))

no_length : {A : Type 0} (xs : List A) → length xs ≡ 0 → xs ≡ []
no_length [] h = refl
no_length (x ∷ xs) h = absurd (omega (arith, h))

no_hands : (w : Setup) (t : Histories) (l : IsRoundEnd w t 0) → next_queue w l.hands ≡ []
no_hands w t l =
    gathered_none (manager w + 1) l.hands
    (λ role low. ⊎_elim (λ x. subst (λ (k : ℕ). l.hands k ≡ []) (sym x.1) managed) (λ x. (l.work role (lower role low x.1)).1) (eqb_tells role (manager w)))
  where
    managed : l.hands (manager w) ≡ []
    managed =
        let k = manager_totals w 0 new_manager (refl, refl, refl) (l.acts (manager w)) l.manage.sweep l.manage.stood in
        no_length (l.hands (manager w)) (sym (ap length l.manage.held) ∙ (k.1 ∙ l.manage.round))

    lower : (role : ℕ) → role < manager w + 1 → role ≢ manager w → role < w.layout.workers
    lower role l n = omega (arith, l, n)

pub few_wait : (w : Setup) (t : Histories) (r : ℕ) → IsLayout w.layout → r ≡ rounds w → (l : IsRoundEnd w t r) → PutsAreDue t.pool → FlowPoolRules (setting_for w) t.pool
    → length (next_queue w l.hands) ≤ 1048576
few_wait w t zero lay e l due rules = omega (arith, ap length (no_hands w t l))
few_wait w t (suc r) lay e l due rules =
    let most : w.layout.memcap ≤ 1048576 = lay.memcap.1 in
    omega (arith, out_at_round_end w t r (omega (arith, e)) l due, within_memcap (setting_for w) t.pool rules, most)
