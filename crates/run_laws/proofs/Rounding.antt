-- From the calls of each round to whole scripts: where no round is to come the script is over, and a queue that was served is served where it
-- is longer.
use Rattle.std.proofs.Common.{◌≡◌, ℕ, zero, suc, ◌==◌, ◌-◌, nat_le, Bool, true, false, cond, ◌&&◌, if◌then◌else◌, List, [], ◌∷◌, ◌++◌, length, Option, Some, None, refl, sym, ◌∙◌, ap, subst, arith}
use Rattle.bucket_laws.proofs.Tests.{both, same}
use Rattle.bucket_laws.specs.Leaving.{Gone}
use Rattle.run_laws.proofs.Sums.{same_number}
use Rattle.run_laws.proofs.Using.{length_rounds}
use Rattle.run_laws.proofs.Working.{only_some}
use Rattle.run_rules.specs.Rounds.{EndedRounds, SweptRounds, ended_between, ended_with, hands_of}
use Rattle.run_rules.specs.Acts.{Act, on_bucket, on_pool, on_segments}
use Rattle.run_rules.specs.Manager.{Task, idle, manager_ended, new_manager, rests, swept_after}
use Rattle.run_rules.specs.Serving.{behind, emptied, front_holds, front_is, queue_after, serve, serve_pool, serve_segments, served}
use Rattle.run_rules.specs.Setup.{Setup, rounds, work_of}
use Rattle.run_rules.specs.Worker.{Stage, Stand, asking, between, closing, denied, ended, ended_at, evicting, freeing, fresh, granted, looking, missed, over, settling, stand_after, turning}
use Rattle.suri_base.specs.declared.entry.PoolNote.{PoolNote}
use Rattle.suri_base.specs.declared.entry.PoolNote.TheVariants.{Full, Mode, Over, Put, Took, Turn}
use Rattle.suri_base.specs.declared.entry.SegNote.{SegNote}
use Rattle.suri_base.specs.declared.entry.SegNote.TheVariants as seg

no_rounds : (later : List (List (List ℕ))) → length later ≡ 0 → later ≡ []
no_rounds [] h = refl
no_rounds (r ∷ later) h = absurd (omega arith)

-- where no round is to come the script is over
all_over : (later : List (List (List ℕ))) (hand : List Gone) (hands all : List (List Gone)) → ended_with 0 later hand hands ≡ Some all → over later hand hands ≡ Some all
all_over [] hand hands all h = cc
all_over ([] ∷ later) hand hands all h = by_test (length later == 0) refl h (λ x. all_over later [] (hand ∷ hands) all x)
  where
    by_test : (t : Bool) → (length later == 0) ≡ t → cond t (Some (hand ∷ hands)) (ended_with 0 later [] (hand ∷ hands)) ≡ Some all
        → (ended_with 0 later [] (hand ∷ hands) ≡ Some all → over later [] (hand ∷ hands) ≡ Some all) → over later [] (hand ∷ hands) ≡ Some all
    by_test true e h more = let k : later ≡ [] = no_rounds later (same_number (length later) 0 e) in subst (λ (x : List (List (List ℕ))). over x [] (hand ∷ hands) ≡ Some all) (sym k) h
    by_test false e h more = more h
all_over ((b ∷ bs) ∷ later) hand hands all h = cc

over_between : (p : Stage) (s : Stand) (all : List (List Gone)) → ended_between 0 p s ≡ Some all → ended_at p s ≡ Some all
over_between between s all h = all_over s.rounds s.hand s.hands all h
over_between (looking todo) s all h = cc
over_between (missed g todo) s all h = cc
over_between (evicting g k todo) s all h = cc
over_between (turning g todo) s all h = cc
over_between (granted g todo) s all h = cc
over_between (denied g todo) s all h = cc
over_between (asking g todo) s all h = cc
over_between (settling g had todo) s all h = cc
over_between (closing todo) s all h = cc
over_between (freeing n todo) s all h = cc

hands_ended : (o : Option Stand) (all : List (List Gone)) → hands_of 0 o ≡ Some all → ended o ≡ Some all
hands_ended None all h = cc
hands_ended (Some s) all h = over_between s.stage s all h

-- after its last round a worker's script is over
pub worker_over : (w : Setup) (role : ℕ) (acts : List Act) (hands : List (List Gone)) → EndedRounds w role (rounds w) acts hands
    → ended (stand_after w (fresh (work_of w role)) acts) ≡ Some hands
worker_over w role acts hands e = by_rounds (rounds w) refl e
  where
    by_rounds : (n : ℕ) → rounds w ≡ n → EndedRounds w role n acts hands → ended (stand_after w (fresh (work_of w role)) acts) ≡ Some hands
    by_rounds zero e h =
        let none : work_of w role ≡ [] = no_rounds (work_of w role) (length_rounds w role ∙ e) in
        ap (λ (x : List Act). ended (stand_after w (fresh (work_of w role)) x)) h.0
        ∙ (ap (λ (x : List (List (List ℕ))). ended (Some (fresh x))) none ∙ ap Some (sym h.1))
    by_rounds (suc n) e h =
        let z : rounds w - suc n ≡ 0 = omega (arith, e) in
        hands_ended (stand_after w (fresh (work_of w role)) acts) hands (subst (λ (k : ℕ). hands_of k (stand_after w (fresh (work_of w role)) acts) ≡ Some hands) z h)

-- after its last round the manager's script is over
pub manager_over : (w : Setup) (acts : List Act) (hands : List (List Gone)) → SweptRounds w (rounds w) acts hands → manager_ended w (swept_after w new_manager acts) ≡ Some hands
manager_over w acts hands e =
    let s = e.sweep in
    let n : (s.round == rounds w) ≡ true = same s.round (rounds w) e.round in
    ap (manager_ended w) e.stood
    ∙ (ap (λ (k : Task). rests w k s) e.rests ∙ (ap (λ (b : Bool). if b then idle s.hand s.hands else None) n ∙ (ap (λ (x : List Gone). idle x s.hands) e.empty ∙ ap Some e.held)))

-- a queue that was emptied may be longer at its end

front_longer : (run : ℕ) (q more : List Gone) → front_is run q ≡ true → front_is run (q ++ more) ≡ true
front_longer run [] more h = cc
front_longer run (g ∷ q) more h = h

holds_longer : (n : ℕ) (q more : List Gone) → front_holds n q ≡ true → front_holds n (q ++ more) ≡ true
holds_longer n [] more h = cc
holds_longer n (g ∷ q) more h = h

behind_longer : (run : ℕ) (q more : List Gone) → front_is run q ≡ true → behind (q ++ more) ≡ behind q ++ more
behind_longer run [] more h = cc
behind_longer run (g ∷ q) more h = refl

emptied_longer : (n : ℕ) (q more : List Gone) → front_holds n q ≡ true → emptied (q ++ more) ≡ emptied q ++ more
emptied_longer n [] more h = cc
emptied_longer n (g ∷ q) more h = refl

serve_pool_longer : (q more t : List Gone) (n : PoolNote) → serve_pool q n ≡ Some t → serve_pool (q ++ more) n ≡ Some (t ++ more)
serve_pool_longer q more t (Put run) h =
    let k = only_some (front_is run q) (behind q) t h in
    rw (front_longer run q more k.0) (ap Some (behind_longer run q more k.0 ∙ ap (λ (x : List Gone). x ++ more) k.1))
serve_pool_longer q more t (Took g) h = cc
serve_pool_longer q more t (Full g n limit) h = cc
serve_pool_longer q more t (Turn run g) h = cc
serve_pool_longer q more t (Mode e) h = cc
serve_pool_longer q more t (Over round over) h = cc

serve_segments_longer : (q more t : List Gone) (n : SegNote) → serve_segments q n ≡ Some t → serve_segments (q ++ more) n ≡ Some (t ++ more)
serve_segments_longer q more t (seg.Gave n) h =
    let k = only_some (nat_le 1 n && front_holds n q) (emptied q) t h in
    let z = both (nat_le 1 n) (front_holds n q) k.0 in
    rw (z.0, holds_longer n q more z.1) (ap Some (emptied_longer n q more z.1 ∙ ap (λ (x : List Gone). x ++ more) k.1))
serve_segments_longer q more t (seg.Took g) h = cc
serve_segments_longer q more t (seg.Full g n limit) h = cc

serve_longer : (q more t : List Gone) (a : Act) → serve q a ≡ Some t → serve (q ++ more) a ≡ Some (t ++ more)
serve_longer q more t (on_pool n i) h = serve_pool_longer q more t n h
serve_longer q more t (on_segments n) h = serve_segments_longer q more t n h
serve_longer q more t (on_bucket b n left) h = cc

served_longer : (more t : List Gone) (a : Act) (o p : Option (List Gone)) → ((q : List Gone) → o ≡ Some q → p ≡ Some (q ++ more)) → served a o ≡ Some t → served a p ≡ Some (t ++ more)
served_longer more t a None p k h = cc
served_longer more t a (Some q) p k h = let z : p ≡ Some (q ++ more) = k q refl in rw z (serve_longer q more t a h)

-- what is served of a queue is served of a longer one: so the recycler's rounds follow one another
pub queue_longer : (q more t : List Gone) (acts : List Act) → queue_after q acts ≡ Some t → queue_after (q ++ more) acts ≡ Some (t ++ more)
queue_longer q more t [] h = let k : q ≡ t = cc in ap (λ (x : List Gone). Some (x ++ more)) k
queue_longer q more t (a ∷ acts) h = served_longer more t a (queue_after q acts) (queue_after (q ++ more) acts) (λ x e. queue_longer q more x acts e) h
