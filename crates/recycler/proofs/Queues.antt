-- The run in front of a queue is served by giving back its nodes, where it has any, and its object.
use Rattle.std.proofs.Common.{◌≡◌, ℕ, zero, suc, ◌==◌, nat_le, Bool, true, false, ◌&&◌, List, [], ◌∷◌, ◌++◌, Option, Some, None, refl, ◌∙◌, ap, arith}
use Rattle.std.proofs.lemmas.Bool.Decides.{nat_tests}
use Rattle.bucket_laws.specs.Leaving.{Gone}
use Rattle.role_steps.specs.Finishing.{put_back}
use Rattle.run_rules.specs.Acts.{Act, on_pool, on_segments, on_bucket}
use Rattle.run_rules.specs.Ending.{Ending, ended_on, ending_after, with_queue}
use Rattle.run_rules.specs.Serving.{behind, emptied, front_holds, front_is, only, queue_after, serve, serve_pool, serve_segments, served}
use Rattle.run_rules.specs.Setup.{Setup}
use Rattle.suri_base.specs.declared.entry.PoolNote.{PoolNote}
use Rattle.suri_base.specs.declared.entry.PoolNote.TheVariants.{Took, Full, Put, Turn, Mode, Over}
use Rattle.suri_base.specs.declared.entry.SegNote.{SegNote}
use Rattle.suri_base.specs.declared.entry.SegNote.TheVariants as seg

both : (p q : Bool) → (p && q) ≡ true → (p ≡ true) × (q ≡ true)
both true q h = (refl, h)
both false q h = cc

only_some : {A : Type 0} (b : Bool) (x y : A) → only b x ≡ Some y → (b ≡ true) × (x ≡ y)
only_some true x y h = (refl, let k : x ≡ y = cc in k)
only_some false x y h = cc

-- a queue that was emptied may be longer at its end

front_longer : (run : ℕ) (q more : List Gone) → front_is run q ≡ true → front_is run (q ++ more) ≡ true
front_longer run [] more h = cc
front_longer run (g ∷ q) more h = h

holds_longer : (n : ℕ) (q more : List Gone) → front_holds n q ≡ true → front_holds n (q ++ more) ≡ true
holds_longer n [] more h = cc
holds_longer n (g ∷ q) more h = h

behind_longer : (run : ℕ) (q more : List Gone) → front_is run q ≡ true → behind (q ++ more) ≡ behind q ++ more
behind_longer run [] more h = cc
behind_longer run (g ∷ q) more h = refl

emptied_longer : (n : ℕ) (q more : List Gone) → front_holds n q ≡ true → emptied (q ++ more) ≡ emptied q ++ more
emptied_longer n [] more h = cc
emptied_longer n (g ∷ q) more h = refl

serve_pool_longer : (q more t : List Gone) (n : PoolNote) → serve_pool q n ≡ Some t → serve_pool (q ++ more) n ≡ Some (t ++ more)
serve_pool_longer q more t (Put run) h =
    let k = only_some (front_is run q) (behind q) t h in
    rw (front_longer run q more k.0) (ap Some (behind_longer run q more k.0 ∙ ap (λ (x : List Gone). x ++ more) k.1))
serve_pool_longer q more t (Took g) h = cc
serve_pool_longer q more t (Full g n limit) h = cc
serve_pool_longer q more t (Turn run g) h = cc
serve_pool_longer q more t (Mode e) h = cc
serve_pool_longer q more t (Over round over) h = cc

serve_segments_longer : (q more t : List Gone) (n : SegNote) → serve_segments q n ≡ Some t → serve_segments (q ++ more) n ≡ Some (t ++ more)
serve_segments_longer q more t (seg.Gave n) h =
    let k = only_some (nat_le 1 n && front_holds n q) (emptied q) t h in
    let z = both (nat_le 1 n) (front_holds n q) k.0 in
    rw (z.0, holds_longer n q more z.1) (ap Some (emptied_longer n q more z.1 ∙ ap (λ (x : List Gone). x ++ more) k.1))
serve_segments_longer q more t (seg.Took g) h = cc
serve_segments_longer q more t (seg.Full g n limit) h = cc

serve_longer : (q more t : List Gone) (a : Act) → serve q a ≡ Some t → serve (q ++ more) a ≡ Some (t ++ more)
serve_longer q more t (on_pool n i) h = serve_pool_longer q more t n h
serve_longer q more t (on_segments n) h = serve_segments_longer q more t n h
serve_longer q more t (on_bucket b n left) h = cc

served_longer : (more t : List Gone) (a : Act) (o p : Option (List Gone)) → ((q : List Gone) → o ≡ Some q → p ≡ Some (q ++ more)) → served a o ≡ Some t
    → served a p ≡ Some (t ++ more)
served_longer more t a None p k h = cc
served_longer more t a (Some q) p k h = let z : p ≡ Some (q ++ more) = k q refl in rw z (serve_longer q more t a h)

-- what is served of a queue is served of a longer one: so the recycler's rounds follow one another
pub queue_longer : (q more t : List Gone) (acts : List Act) → queue_after q acts ≡ Some t → queue_after (q ++ more) acts ≡ Some (t ++ more)
queue_longer q more t [] h = let k : q ≡ t = cc in ap (λ (x : List Gone). Some (x ++ more)) k
queue_longer q more t (a ∷ acts) h = served_longer more t a (queue_after q acts) (queue_after (q ++ more) acts) (λ x e. queue_longer q more x acts e) h

-- one flow

same_yes : (r : ℕ) → (r == r) ≡ true
same_yes r = grind (arith, nat_tests)

some_yes : (n : ℕ) → nat_le 1 (suc n) ≡ true
some_yes n = grind (arith, nat_tests)

serve_put : (run : ℕ) (rest : List Gone) → serve_pool (record { run = run; nodes = 0 } ∷ rest) (Put run) ≡ Some rest
serve_put run rest = let r = same_yes run in rw r refl

serve_given : (run n : ℕ) (rest : List Gone) → serve_segments (record { run = run; nodes = suc n } ∷ rest) (seg.Gave (suc n)) ≡ Some (record { run = run; nodes = 0 } ∷ rest)
serve_given run n rest = let a = some_yes n in let b = same_yes (suc n) in rw (a, b) refl

pub serve_one : (run nodes at : ℕ) (came rest : List Gone) (before : List Act) → queue_after came before ≡ Some (record { run = run; nodes = nodes } ∷ rest)
    → queue_after came (put_back (record { run = run; nodes = nodes }) at ++ before) ≡ Some rest
serve_one run zero at came rest before h = ap (served (on_pool (Put run) at)) h ∙ serve_put run rest
serve_one run (suc n) at came rest before h =
    ap (λ (o : Option (List Gone)). served (on_pool (Put run) at) (served (on_segments (seg.Gave (suc n))) o)) h
    ∙ (ap (served (on_pool (Put run) at)) (serve_given run n rest) ∙ serve_put run rest)

pub end_one : (w : Setup) (run nodes at : ℕ) (start : Ending) (k : ℕ) (rest : List Gone) (before : List Act)
    → ending_after w start before ≡ Some (record { queue = record { run = run; nodes = nodes } ∷ rest; drained = k })
    → ending_after w start (put_back (record { run = run; nodes = nodes }) at ++ before) ≡ Some (record { queue = rest; drained = k })
end_one w run zero at start k rest before h = ap (ended_on w (on_pool (Put run) at)) h ∙ ap (with_queue k) (serve_put run rest)
end_one w run (suc n) at start k rest before h =
    ap (λ (o : Option Ending). ended_on w (on_pool (Put run) at) (ended_on w (on_segments (seg.Gave (suc n))) o)) h
    ∙ (ap (λ (o : Option (List Gone)). ended_on w (on_pool (Put run) at) (with_queue k o)) (serve_given run n rest) ∙ ap (with_queue k) (serve_put run rest))
