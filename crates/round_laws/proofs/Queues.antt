-- What waits for the recycler: one hand more for each role makes what waited longer by what waits next, and what waits next is what the hands of
-- the roles hold, in the order of the roles. Each run that waited took the recycler two acts at most.
use Rattle.std.proofs.Common.{◌≡◌, ℕ, zero, suc, ◌==◌, ◌+◌, ◌*◌, ◌-◌, ◌<◌, ◌≤◌, nat_le, true, ◌&&◌, List, [], ◌∷◌, ◌++◌, length, get_or, Option, Some, None, refl, sym, ◌∙◌, ap, subst, arith, append_assoc, append-nil}
use Rattle.bucket_laws.specs.Leaving.{Gone}
use Rattle.bucket_laws.proofs.Tests.{both}
use Rattle.role_meets.specs.Parts.{hand_of}
use Rattle.role_meets.specs.declared.roles.Role.{Role}
use Rattle.role_steps.specs.Items.{Items}
use Rattle.role_steps.proofs.LettingGo.{items_append}
use Rattle.round_laws.specs.Playing.{hands_in}
use Rattle.run_laws.proofs.Sums.{same_number}
use Rattle.run_laws.proofs.Working.{only_some}
use Rattle.run_rules.specs.Acts.{Act, on_bucket, on_pool, on_segments}
use Rattle.run_rules.specs.Histories.{Histories}
use Rattle.run_rules.specs.Lawful.{gathered, nth, waited}
use Rattle.run_rules.specs.Serving.{behind, emptied, front_holds, front_is, queue_after, serve, serve_pool, serve_segments, served}
use Rattle.run_rules.specs.Setup.{Setup}
use Rattle.suri_base.specs.declared.entry.PoolNote.{PoolNote}
use Rattle.suri_base.specs.declared.entry.PoolNote.TheVariants.{Full, Mode, Over, Put, Took, Turn}
use Rattle.suri_base.specs.declared.entry.SegNote.{SegNote}
use Rattle.suri_base.specs.declared.entry.SegNote.TheVariants as seg

-- one hand more

module _ (h : ℕ → List Gone) (hands more : ℕ → List (List Gone)) where
  pub gathered_next : (n : ℕ) → ((role : ℕ) → role < n → more role ≡ h role ∷ hands role) → (k : ℕ) → gathered n more (suc k) ≡ gathered n hands k
  gathered_next zero e k = refl
  gathered_next (suc n) e k =
      ap (λ (x : List Gone). x ++ nth (suc k) (more n)) (gathered_next n (λ role low. e role (omega (arith, low))) k)
      ∙ ap (λ (x : List (List Gone)). gathered n hands k ++ nth (suc k) x) (e n (omega arith))

  waited_next : (n : ℕ) → ((role : ℕ) → role < n → more role ≡ h role ∷ hands role) → (k : ℕ) → waited n more (suc k) ≡ waited n hands k ++ gathered n hands 0
  waited_next n e zero = append-nil (gathered n more 1) ∙ gathered_next n e 0
  waited_next n e (suc k) =
      ap (λ (x : List Gone). x ++ waited n more (suc k)) (gathered_next n e (suc k))
      ∙ (ap (λ (x : List Gone). gathered n hands (suc k) ++ x) (waited_next n e k) ∙ sym (append_assoc (gathered n hands (suc k)) (waited n hands k) (gathered n hands 0)))

  -- what waited up to the next round is what waited before, and what waits for it; in the first round nothing waits
  pub waits_next : (n r : ℕ) → ((role : ℕ) → role < n → more role ≡ h role ∷ hands role) → (r ≡ 0 → gathered n hands 0 ≡ [])
      → waited n more (suc r - 1) ≡ waited n hands (r - 1) ++ gathered n hands 0
  waits_next n zero e none =
      let one : suc zero - 1 ≡ 0 = omega arith in
      let start : zero - 1 ≡ 0 = omega arith in
      ap (λ (k : ℕ). waited n more k) one ∙ (sym (none refl) ∙ ap (λ (k : ℕ). waited n hands k ++ gathered n hands 0) (sym start))
  waits_next n (suc r) e none =
      let one : suc (suc r) - 1 ≡ suc r = omega arith in
      let last : suc r - 1 ≡ r = omega arith in
      ap (λ (k : ℕ). waited n more k) one ∙ (waited_next n e r ∙ ap (λ (k : ℕ). waited n hands k ++ gathered n hands 0) (sym last))

-- where no role has a hand, nothing waits
pub none_gathered : (n : ℕ) (hands : ℕ → List (List Gone)) → ((role : ℕ) → role < n → hands role ≡ []) → gathered n hands 0 ≡ []
none_gathered zero hands e = refl
none_gathered (suc n) hands e =
    ap (λ (x : List Gone). x ++ nth 0 (hands n)) (none_gathered n hands (λ role low. e role (omega (arith, low)))) ∙ ap (λ (x : List (List Gone)). nth 0 x) (e n (omega arith))

-- the order of the roles

gathered_front : (n : ℕ) (hands : ℕ → List (List Gone)) (k : ℕ) → gathered (suc n) hands k ≡ nth k (hands 0) ++ gathered n (λ r. hands (suc r)) k
gathered_front zero hands k = sym (append-nil (nth k (hands 0)))
gathered_front (suc n) hands k =
    ap (λ (x : List Gone). x ++ nth k (hands (suc n))) (gathered_front n hands k) ∙ append_assoc (nth k (hands 0)) (gathered n (λ r. hands (suc r)) k) (nth k (hands (suc n)))

pub items_in : (w : Setup) (t : Histories) (rs : List Role) (hands : ℕ → List (List Gone))
    → ((k : ℕ) (d : Role) → k < length rs → Items w t (nth 0 (hands k)) (hand_of (get_or rs k d).part)) → Items w t (gathered (length rs) hands 0) (hands_in rs)
items_in w t [] hands h = tt
items_in w t (r ∷ rs) hands h =
    subst (λ (g : List Gone). Items w t g (hands_in (r ∷ rs))) (sym (gathered_front (length rs) hands 0))
    (items_append w t (nth 0 (hands 0)) (gathered (length rs) (λ k. hands (suc k)) 0) (hand_of r.part) (hands_in rs) (h 0 r (omega arith))
    (items_in w t rs (λ k. hands (suc k)) (λ k d low. h (suc k) d (omega (arith, low)))))

-- how many acts

abbrev cost : ℕ → ℕ
cost zero = 1
cost (suc n) = 2

abbrev costs : List Gone → ℕ
costs [] = 0
costs (g ∷ q) = cost g.nodes + costs q

cost_some : (n : ℕ) → nat_le 1 n ≡ true → cost n ≡ 2
cost_some zero h = cc
cost_some (suc n) h = refl

cost_most : (n : ℕ) → cost n ≤ 2
cost_most zero = omega arith
cost_most (suc n) = omega arith

put_cost : (run : ℕ) (q : List Gone) → front_is run q ≡ true → 1 + costs (behind q) ≡ costs q
put_cost run [] h = cc
put_cost run (g ∷ q) h =
    let e = same_number g.nodes 0 (both (g.run == run) (g.nodes == 0) h).1 in
    let c : cost g.nodes ≡ 1 = ap cost e in
    omega (arith, c)

give_cost : (n : ℕ) (q : List Gone) → nat_le 1 n ≡ true → front_holds n q ≡ true → 1 + costs (emptied q) ≡ costs q
give_cost n [] some h = cc
give_cost n (g ∷ q) some h =
    let c : cost g.nodes ≡ 2 = ap cost (same_number g.nodes n h) ∙ cost_some n some in
    omega (arith, c)

pool_cost : (q t : List Gone) (n : PoolNote) → serve_pool q n ≡ Some t → 1 + costs t ≡ costs q
pool_cost q t (Put run) h = let k = only_some (front_is run q) (behind q) t h in subst (λ (x : List Gone). 1 + costs x ≡ costs q) k.1 (put_cost run q k.0)
pool_cost q t (Took g) h = cc
pool_cost q t (Full g n limit) h = cc
pool_cost q t (Turn run g) h = cc
pool_cost q t (Mode e) h = cc
pool_cost q t (Over round done) h = cc

segment_cost : (q t : List Gone) (n : SegNote) → serve_segments q n ≡ Some t → 1 + costs t ≡ costs q
segment_cost q t (seg.Gave n) h =
    let k = only_some (nat_le 1 n && front_holds n q) (emptied q) t h in
    let z = both (nat_le 1 n) (front_holds n q) k.0 in
    subst (λ (x : List Gone). 1 + costs x ≡ costs q) k.1 (give_cost n q z.0 z.1)
segment_cost q t (seg.Took g) h = cc
segment_cost q t (seg.Full g n limit) h = cc

serve_cost : (q t : List Gone) (a : Act) → serve q a ≡ Some t → 1 + costs t ≡ costs q
serve_cost q t (on_pool n i) h = pool_cost q t n h
serve_cost q t (on_segments n) h = segment_cost q t n h
serve_cost q t (on_bucket b n left) h = cc

served_cost : (came : List Gone) (o : Option (List Gone)) (t : List Gone) (a : Act) (acts : List Act) → served a o ≡ Some t
    → ((q : List Gone) → o ≡ Some q → length acts + costs q ≡ costs came) → length (a ∷ acts) + costs t ≡ costs came
served_cost came None t a acts h k = cc
served_cost came (Some q) t a acts h k = omega (arith, serve_cost q t a h, k q refl)

acts_cost : (came t : List Gone) (acts : List Act) → queue_after came acts ≡ Some t → length acts + costs t ≡ costs came
acts_cost came t [] h = let k : came ≡ t = cc in omega (arith, ap costs k)
acts_cost came t (a ∷ acts) h = served_cost came (queue_after came acts) t a acts h (λ x e. acts_cost came x acts e)

costs_most : (q : List Gone) → costs q ≤ 2 * length q
costs_most [] = omega arith
costs_most (g ∷ q) = omega (arith, costs_most q, cost_most g.nodes)

pub acts_few : (came : List Gone) (acts : List Act) → queue_after came acts ≡ Some [] → length acts ≤ 2 * length came
acts_few came acts h = omega (arith, acts_cost came [] acts h, costs_most came)
