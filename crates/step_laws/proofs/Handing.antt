-- The hands of the rounds that are over stay what they are where further rounds end, since a further hand stands in front of them. So what came to
-- the recycler stays the same.
use Rattle.std.proofs.Common.{◌≡◌, ℕ, zero, suc, ◌-◌, ◌<◌, ◌≤◌, List, [], ◌∷◌, ◌++◌, length, refl, sym, ◌∙◌, ap, subst, arith, append_assoc}
use Rattle.bucket_laws.specs.Leaving.{Gone}
use Rattle.run_rules.specs.Lawful.{nth}
use Rattle.run_rules.specs.SoFar.{first_hands, hand_of_round, passed, passed_at, round_hands}
use Rattle.run_rules.specs.Worker.{Stage, Stand, asking, between, closing, denied, evicting, freeing, granted, looking, missed, settling, turning}
use Rattle.suri_base.specs.History.{Begins}

longer : {A : Type 0} (since old : List A) → length old ≤ length (since ++ old)
longer [] old = omega arith
longer (x ∷ since) old = omega (arith, longer since old)

pub begun_longer : {A : Type 0} (old new : List A) → Begins old new → length old ≤ length new
begun_longer {A} old new b = subst (λ (x : List A). length old ≤ length x) (sym b.1) (longer b.0 old)

-- one hand more
pub hand_one : (h : List Gone) (hs : List (List Gone)) (round : ℕ) → round < length hs → hand_of_round round (h ∷ hs) ≡ hand_of_round round hs
hand_one h hs round l = let e : suc (length hs) - suc round ≡ suc (length hs - suc round) = omega (arith, l) in ap (λ (k : ℕ). nth k (h ∷ hs)) e

hand_since : (round : ℕ) (since old : List (List Gone)) → round < length old → hand_of_round round (since ++ old) ≡ hand_of_round round old
hand_since round [] old l = refl
hand_since round (h ∷ since) old l = hand_one h (since ++ old) round (omega (arith, l, longer since old)) ∙ hand_since round since old l

hand_begun : (round : ℕ) (old new : List (List Gone)) → Begins old new → round < length old → hand_of_round round new ≡ hand_of_round round old
hand_begun round old new b l = ap (λ (x : List (List Gone)). hand_of_round round x) b.1 ∙ hand_since round b.0 old l

round_begun : (n : ℕ) (old new : ℕ → List (List Gone)) (round : ℕ) → ((r : ℕ) → r < n → Begins (old r) (new r)) → ((r : ℕ) → r < n → round < length (old r))
    → round_hands n new round ≡ round_hands n old round
round_begun zero old new round b l = refl
round_begun (suc n) old new round b l =
    ap (λ (x : List Gone). x ++ hand_of_round round (new n)) (round_begun n old new round (λ r k. b r (omega (arith, k))) (λ r k. l r (omega (arith, k))))
    ∙ ap (λ (x : List Gone). round_hands n old round ++ x) (hand_begun round (old n) (new n) (b n (omega arith)) (l n (omega arith)))

-- what came to the recycler stays what it is
pub first_begun : (n : ℕ) (old new : ℕ → List (List Gone)) (k : ℕ) → ((r : ℕ) → r < n → Begins (old r) (new r)) → ((r : ℕ) → r < n → k ≤ length (old r))
    → first_hands n new k ≡ first_hands n old k
first_begun n old new zero b l = refl
first_begun n old new (suc k) b l =
    ap (λ (x : List Gone). x ++ round_hands n new k) (first_begun n old new k b (λ r m. let z = l r m in omega (arith, z)))
    ∙ ap (λ (x : List Gone). first_hands n old k ++ x) (round_begun n old new k b (λ r m. let z = l r m in omega (arith, z)))

-- where a worker stands between batches it may have ended further rounds

passed_more : (rounds : List (List (List ℕ))) (hand : List Gone) (hands : List (List Gone)) → Begins hands (passed rounds hand hands)
passed_more [] hand hands = ([], refl)
passed_more ([] ∷ later) hand hands = let k = passed_more later [] (hand ∷ hands) in (k.0 ++ (hand ∷ []), k.1 ∙ sym (append_assoc k.0 (hand ∷ []) hands))
passed_more ((b ∷ bs) ∷ later) hand hands = ([], refl)

pub stage_more : (p : Stage) (s : Stand) → Begins s.hands (passed_at p s)
stage_more between s = passed_more s.rounds s.hand s.hands
stage_more (looking todo) s = ([], refl)
stage_more (missed f todo) s = ([], refl)
stage_more (evicting f k todo) s = ([], refl)
stage_more (turning f todo) s = ([], refl)
stage_more (granted f todo) s = ([], refl)
stage_more (denied f todo) s = ([], refl)
stage_more (asking f todo) s = ([], refl)
stage_more (settling f had todo) s = ([], refl)
stage_more (closing todo) s = ([], refl)
stage_more (freeing n todo) s = ([], refl)
