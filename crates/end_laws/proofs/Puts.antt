-- What the end role does on the pool of flow objects: by its script it only gives objects back. So entries that are all its own are all puts.
use Rattle.std.proofs.Common.{◌≡◌, ℕ, ◌==◌, ◌+◌, All, Bool, true, false, cond, List, [], ◌∷◌, ◌++◌, length, Option, Some, None, refl, subst}
use Rattle.std.proofs.lemmas.List.Elements.{All-head, All-tail}
use Rattle.std.specs.List.{list_all}
use Rattle.bucket_laws.proofs.Tests.{all_of, both}
use Rattle.bucket_laws.specs.Leaving.{Gone}
use Rattle.run_laws.specs.RoundEnd.{only_puts, put_in}
use Rattle.run_rules.specs.Acts.{Act, on_bucket, on_pool, on_segments, part, place_of, pool_acts}
use Rattle.run_rules.specs.Ending.{Ending, end_on, ended_on, ending_after, with_queue}
use Rattle.run_rules.specs.Serving.{serve_pool}
use Rattle.run_rules.specs.Setup.{Setup}
use Rattle.suri_base.proofs.Histories.{entries_own}
use Rattle.suri_base.specs.History.{entries_of, entry}
use Rattle.suri_base.specs.declared.entry.Entry.{Entry}
use Rattle.suri_base.specs.declared.entry.PoolNote.{PoolNote}
use Rattle.suri_base.specs.declared.entry.PoolNote.TheVariants.{Full, Mode, Over, Put, Took, Turn}

-- an act that is not on the pool, or gives an object back
abbrev pub puts_back : Act → Bool
puts_back (on_pool n i) = put_in n == 1
puts_back (on_segments n) = true
puts_back (on_bucket b n left) = true

serves_put : (queue left : List Gone) (n : PoolNote) → serve_pool queue n ≡ Some left → (put_in n == 1) ≡ true
serves_put queue left (Put run) h = refl
serves_put queue left (Took g) h = cc
serves_put queue left (Full g n limit) h = cc
serves_put queue left (Turn run g) h = cc
serves_put queue left (Mode e) h = cc
serves_put queue left (Over round done) h = cc

with_some : (k : ℕ) (o : Option (List Gone)) (t : Ending) → with_queue k o ≡ Some t → (queue : List Gone) × (o ≡ Some queue)
with_some k None t h = cc
with_some k (Some queue) t h = (queue, refl)

module _ (w : Setup) where
  end_put : (queue : List Gone) (s : Ending) (a : Act) (t : Ending) → end_on w queue s a ≡ Some t → puts_back a ≡ true
  end_put [] s (on_pool n i) t h = cc
  end_put [] s (on_segments n) t h = refl
  end_put [] s (on_bucket b n left) t h = refl
  end_put (g ∷ queue) s (on_pool n i) t h = let k = with_some s.drained (serve_pool (g ∷ queue) n) t h in serves_put (g ∷ queue) k.0 n k.1
  end_put (g ∷ queue) s (on_segments n) t h = refl
  end_put (g ∷ queue) s (on_bucket b n left) t h = refl

  one_more : (o : Option Ending) (t : Ending) (a : Act) (acts : List Act) → ended_on w a o ≡ Some t → ((s : Ending) → o ≡ Some s → list_all puts_back acts ≡ true)
      → list_all puts_back (a ∷ acts) ≡ true
  one_more None t a acts h k = cc
  one_more (Some s) t a acts h k = all_of (puts_back a) (list_all puts_back acts) (end_put s.queue s a t h) (k s refl)

  -- every act of the end role that is on the pool gives an object back
  pub end_puts_back : (start : Ending) (acts : List Act) (t : Ending) → ending_after w start acts ≡ Some t → list_all puts_back acts ≡ true
  end_puts_back start [] t h = refl
  end_puts_back start (a ∷ acts) t h = one_more (ending_after w start acts) t a acts h (λ s e. end_puts_back start acts s e)

-- so are those of them that stand in one history
pub part_puts_back : (role place : ℕ) (acts : List Act) → list_all puts_back acts ≡ true → list_all (λ (e : Entry Act). puts_back e.note) (part role place acts) ≡ true
part_puts_back role place [] h = refl
part_puts_back role place (a ∷ acts) h =
    let k = both (puts_back a) (list_all puts_back acts) h in by (place_of a == place) k.0 (part_puts_back role place acts k.1)
  where
    by : (t : Bool) → puts_back a ≡ true → list_all (λ (e : Entry Act). puts_back e.note) (part role place acts) ≡ true
        → list_all (λ (e : Entry Act). puts_back e.note) (cond t (entry role (length acts) a ∷ part role place acts) (part role place acts)) ≡ true
    by true x y = all_of (puts_back a) (list_all (λ (e : Entry Act). puts_back e.note) (part role place acts)) x y
    by false x y = y

-- entries of one role that are puts as its acts are puts
pub only_own_puts : (role : ℕ) (since old : List (Entry PoolNote)) → All (λ e. e.role ≡ role) since
    → list_all (λ (e : Entry Act). puts_back e.note) (entries_of role (pool_acts (since ++ old))) ≡ true → only_puts since ≡ true
only_own_puts role [] old o h = refl
only_own_puts role (e ∷ since) old o h =
    let d = entry e.role e.step (on_pool e.note (length (since ++ old) + 1)) in
    let own = entries_own role (pool_acts (since ++ old)) d (All-head (λ (x : Entry PoolNote). x.role ≡ role) e since o) in
    let k = both (put_in e.note == 1) (list_all (λ (e : Entry Act). puts_back e.note) (entries_of role (pool_acts (since ++ old))))
    (subst (λ (l : List (Entry Act)). list_all (λ (e : Entry Act). puts_back e.note) l ≡ true) own h) in
    all_of (put_in e.note == 1) (only_puts since) k.0 (only_own_puts role since old (All-tail (λ (x : Entry PoolNote). x.role ≡ role) e since o) k.1)
