-- The packets of a batch are looked up, one after another, and then closed.
use Rattle.std.proofs.Common.{◌≡◌, ℕ, zero, suc, ◌+◌, ◌<◌, Bool, true, false, List, [], ◌∷◌, ◌++◌, drop, length, get_or, inl, inr, refl, sym, ◌∙◌, ap, subst, arith, if◌then◌else◌}
use Rattle.std.proofs.Math.Seq.{drop-cons, drop-length}
use Rattle.bucket_laws.proofs.Listing.{bearing_has}
use Rattle.bucket_laws.specs.Places.{In}
use Rattle.flow_worker.specs.Batching.{ClosedSome, LookedSome, MayPass, GoesTo, is_begun, is_looked}
use Rattle.flow_worker.specs.Looking.{IsVerdict, LookedUp}
use Rattle.flow_worker.specs.Places.{is_closing, is_looking, to_closing, to_next}
use Rattle.flow_worker.specs.Standing.{Goes, MayGo, Moves}
use Rattle.flow_worker.specs.Telling.{AreTold, IsTold}
use Rattle.flow_worker.proofs.Allowed.{home_in, knows_at, mine_of}
use Rattle.flow_worker.proofs.Moving.{moves_none, moves_through}
use Rattle.flow_worker.proofs.Telling.{are_told_more, told_on}
use Rattle.role_steps.specs.Roles.{Acted, Fits, IsShared, number_of, seen, setup_of}
use Rattle.role_steps.specs.declared.roles.Shared.{Shared}
use Rattle.role_steps.specs.declared.roles.Worker.{Worker}
use Rattle.run_laws.proofs.Dealt.{IsMine}
use Rattle.run_laws.proofs.Scripting.{in_left}
use Rattle.run_laws.specs.Setting.{IsLayout}
use Rattle.run_rules.specs.Acts.{Act}
use Rattle.run_rules.specs.Histories.{bucket_at}
use Rattle.run_rules.specs.Setup.{bucket_for, verdict_for}
use Rattle.bucket_rules.specs.Own.{is_refused}
use Rattle.suri_base.specs.declared.app.App.{App}
use Rattle.suri_base.specs.declared.app.App.TheVariants as app
use Rattle.run_rules.specs.Worker.{Stage, Stand, between, close_on, closing, held_at, look_on, looking}
use Rattle.suri_base.specs.Capture.{HasFacts}
use Rattle.suri_base.specs.declared.facts.Facts.{Facts}

-- a place in a list

in_list : (fs : List ℕ) (i : ℕ) → i < length fs → In (get_or fs i 0) fs
in_list [] i low = absurd (omega (arith, low))
in_list (f ∷ fs) zero low = inl refl
in_list (f ∷ fs) (suc i) low = inr (in_list fs i (omega (arith, low)))

module _ (s : Shared) (sh : IsShared s) where
  -- the packets of a batch are the worker's

  abbrev AreMine : Worker → List ℕ → Type 0
  AreMine k fs = (g : ℕ) → In g fs → IsMine (setup_of s) (number_of k.passes) g

  begun_mine : (k : Worker) (fs : List ℕ) (e : Bool) (n : ℕ) → MayPass s k (is_begun fs e n) → AreMine k fs
  begun_mine k [] e n m g i = absurd i
  begun_mine k (f ∷ fs) e n m g i =
      let z = knows_at s k sh m.before m.stand m.is (looking (f ∷ fs)) m.there.stage in
      z.mine g (in_left g m.stand.batch _ (subst (λ (b : List ℕ). In g b) (sym m.there.batch) i))

  looked_mine : (k : Worker) (fs : List ℕ) → MayPass s k (is_looked fs) → AreMine k fs
  looked_mine k fs m g i = let z = knows_at s k sh m.before m.stand m.is (closing fs) m.there in z.mine g (in_left g fs _ i)

  mine_on : (a b : Worker) (fs : List ℕ) → number_of b.passes ≡ number_of a.passes → AreMine a fs → AreMine b fs
  mine_on a b fs same mine g i = mine_of s a b g same (mine g i)

  -- what was told stays so
  all_told_on : (a b : Worker) (fs : List ℕ) (ts : List Bool) → IsLayout s.layout → Fits s a.passes → AreMine a fs → (now : List Act) → Acted s a.passes b.passes now → AreTold s a fs ts
      → AreTold s b fs ts
  all_told_on a b fs [] layout fits mine now acted told = tt
  all_told_on a b [] (t ∷ ts) layout fits mine now acted told = absurd told
  all_told_on a b (f ∷ fs) (t ∷ ts) layout fits mine now acted told = (
    told_on s a b f t sh (mine f (inl refl)) (home_in s a f sh layout fits (mine f (inl refl))) now acted told.0,
    all_told_on a b fs ts layout fits (λ g i. mine g (inr i)) now acted told.1,
  )

  -- where the worker stands after a part

  may_pass : (a b : Worker) (from : Stand → Type 0) (to : Stage) (from' : Stand → Type 0) → MayPass s a from → GoesTo s a b from to
      → ((st : Stand) → from st → (hand : List _) → from' (held_at to hand st)) → MayPass s b from'
  may_pass a b from to from' m p link = let g = p m.before m.stand m.is m.there in record {
    before = g.1.now ++ m.before;
    stand = held_at to g.1.hand m.stand;
    is = g.1.is;
    there = link m.stand m.there g.1.hand;
  }

  module _ (old : Worker) (fs : List ℕ) (e : Bool) (n : ℕ) (m : MayPass s old (is_begun fs e n)) where
    pub look_start : LookedSome s old old fs e n 0 []
    look_start = record { passes = λ before st is there. ([], subst (λ (p : Stage). Moves s old old before st p []) there.stage (moves_none s old before st is)); told = tt; count = refl }

    looking_at : (i : ℕ) → i < length fs → look_on fs (drop i fs) ≡ looking (get_or fs i 0 ∷ drop (suc i) fs)
    looking_at i low = ap (look_on fs) (drop-cons fs i 0 low)

    pub look_may : (now : Worker) (i : ℕ) (ts : List Bool) → i < length fs → LookedSome s old now fs e n i ts → MayGo s now (is_looking (get_or fs i 0) e n)
    look_may now i ts low l = let g = l.passes m.before m.stand m.is m.there in record {
      before = g.1.now ++ m.before;
      stand = held_at (look_on fs (drop i fs)) g.1.hand m.stand;
      todo = drop (suc i) fs;
      is = g.1.is;
      there = record { stage = looking_at i low; mode = m.there.mode; read = m.there.read };
    }

    look_passes : (now next : Worker) (i : ℕ) (us : List ℕ) → i < length fs → GoesTo s old now (is_begun fs e n) (look_on fs (drop i fs)) → Goes s now next (is_looking (get_or fs i 0) e n) to_next us
        → GoesTo s old next (is_begun fs e n) (look_on fs (drop (suc i) fs))
    look_passes now next i us low p h = λ before st is there.
        let g = p before st is there in
        let a = h (g.1.now ++ before) (held_at (look_on fs (drop i fs)) g.1.hand st) (drop (suc i) fs) g.1.is (record { stage = looking_at i low; mode = there.mode; read = there.read }) in (
          us ++ g.0,
          moves_through s old now next before st (look_on fs (drop i fs)) (look_on fs (drop (suc i) fs)) g.0 us g.1
              (subst (λ (b : List ℕ). Moves s now next (g.1.now ++ before) (held_at (look_on fs (drop i fs)) g.1.hand st) (look_on b (drop (suc i) fs)) us) there.batch a),
        )

    -- the act of a look, from where the worker stands
    look_goes : (now next : Worker) (f : ℕ) (t : Bool) → LookedUp s now next f e n t → (us : List ℕ) × Goes s now next (is_looking f e n) to_next us × IsTold s next f t
    look_goes now next f true l = (f ∷ [], l.0, l.1)
    look_goes now next f false l = ([], l.0, l.1)

    pub look_more : (now next : Worker) (i : ℕ) (ts : List Bool) (t : Bool) → i < length fs → LookedSome s old now fs e n i ts → LookedUp s now next (get_or fs i 0) e n t
        → LookedSome s old next fs e n (i + 1) (ts ++ t ∷ [])
    look_more now next i ts t low l up =
        let g = look_goes now next (get_or fs i 0) t up in
        let may = look_may now i ts low l in
        let a = g.1 may.before may.stand may.todo may.is may.there in
        let past = l.passes m.before m.stand m.is m.there in
        let mine = mine_on old now fs past.1.acted.number (begun_mine old fs e n m) in
        let kept = all_told_on now next fs ts m.is.setup.layout past.1.acted.fits mine a.now a.acted l.told in
        let one : suc i ≡ i + 1 = omega arith in
        let count = l.count in
        record {
          passes = subst (λ (j : ℕ). GoesTo s old next (is_begun fs e n) (look_on fs (drop j fs))) one (look_passes now next i g.0 low l.passes g.1);
          told = are_told_more s next fs ts t (omega (arith, count, low)) kept (subst (λ (j : ℕ). IsTold s next (get_or fs j 0) t) (sym count) g.2);
          count = more ts t i count;
        }
      where
        more : (ts : List Bool) (t : Bool) (i : ℕ) → length ts ≡ i → length (ts ++ t ∷ []) ≡ i + 1
        more [] t i h = omega (arith, h)
        more (u ∷ ts) t i h = by i h (λ j k. more ts t j k)
          where
            by : (i : ℕ) → suc (length ts) ≡ i → ((j : ℕ) → length ts ≡ j → length (ts ++ t ∷ []) ≡ j + 1) → suc (length (ts ++ t ∷ [])) ≡ i + 1
            by zero h k = absurd (omega (arith, h))
            by (suc j) h k = let l = k j (omega (arith, h)) in omega (arith, l)

  pub look_done : (old new : Worker) (fs : List ℕ) (e : Bool) (n i : ℕ) (ts : List Bool) → i ≡ length fs → LookedSome s old new fs e n i ts → LookedSome s old new fs e n (length fs) ts
  look_done old new fs e n i ts same l = subst (λ (j : ℕ). LookedSome s old new fs e n j ts) same l

  -- all of them were looked up
  pub all_looked : (old new : Worker) (fs : List ℕ) (e : Bool) (n : ℕ) (ts : List Bool) → LookedSome s old new fs e n (length fs) ts → GoesTo s old new (is_begun fs e n) (closing fs)
  all_looked old new fs e n ts l = subst (λ (b : List ℕ). GoesTo s old new (is_begun fs e n) (look_on fs b)) (drop-length fs) l.passes

  module _ (old : Worker) (fs : List ℕ) (some : 0 < length fs) (m : MayPass s old (is_looked fs)) where
    close_first : (gs : List ℕ) → 0 < length gs → closing gs ≡ close_on gs
    close_first [] h = absurd (omega (arith, h))
    close_first (g ∷ gs) h = refl

    pub close_start : (ts : List Bool) → AreTold s old fs ts → ClosedSome s old old fs 0 ts
    close_start ts told = record {
      passes = λ before st is there. ([], subst (λ (p : Stage). Moves s old old before st p []) (there ∙ close_first fs some) (moves_none s old before st is));
      told = told;
    }

    closing_at : (i : ℕ) → i < length fs → close_on (drop i fs) ≡ closing (get_or fs i 0 ∷ drop (suc i) fs)
    closing_at i low = ap close_on (drop-cons fs i 0 low)

    pub close_may : (now : Worker) (i : ℕ) (ts : List Bool) → i < length fs → ClosedSome s old now fs i ts → MayGo s now (is_closing (get_or fs i 0))
    close_may now i ts low l = let g = l.passes m.before m.stand m.is m.there in record {
      before = g.1.now ++ m.before;
      stand = held_at (close_on (drop i fs)) g.1.hand m.stand;
      todo = drop (suc i) fs;
      is = g.1.is;
      there = closing_at i low;
    }

    close_passes : (now next : Worker) (i : ℕ) → i < length fs → GoesTo s old now (is_looked fs) (close_on (drop i fs)) → Goes s now next (is_closing (get_or fs i 0)) to_closing []
        → GoesTo s old next (is_looked fs) (close_on (drop (suc i) fs))
    close_passes now next i low p h = λ before st is there.
        let g = p before st is there in
        let a = h (g.1.now ++ before) (held_at (close_on (drop i fs)) g.1.hand st) (drop (suc i) fs) g.1.is (closing_at i low) in
        ([] ++ g.0, moves_through s old now next before st (close_on (drop i fs)) (close_on (drop (suc i) fs)) g.0 [] g.1 a)

    pub close_more : (now next : Worker) (i : ℕ) (ts : List Bool) → i < length fs → ClosedSome s old now fs i ts → Goes s now next (is_closing (get_or fs i 0)) to_closing []
        → ClosedSome s old next fs (i + 1) ts
    close_more now next i ts low l h =
        let may = close_may now i ts low l in
        let a = h may.before may.stand may.todo may.is may.there in
        let past = l.passes m.before m.stand m.is m.there in
        let mine = mine_on old now fs past.1.acted.number (looked_mine old fs m) in
        let one : suc i ≡ i + 1 = omega arith in
        record {
          passes = subst (λ (j : ℕ). GoesTo s old next (is_looked fs) (close_on (drop j fs))) one (close_passes now next i low l.passes h);
          told = all_told_on now next fs ts m.is.setup.layout past.1.acted.fits mine a.now a.acted l.told;
        }

  pub close_done : (old new : Worker) (fs : List ℕ) (i : ℕ) (ts : List Bool) → i ≡ length fs → ClosedSome s old new fs i ts → ClosedSome s old new fs (length fs) ts
  close_done old new fs i ts same l = subst (λ (j : ℕ). ClosedSome s old new fs j ts) same l

  -- all of them were closed
  pub all_closed : (old new : Worker) (fs : List ℕ) (ts : List Bool) → ClosedSome s old new fs (length fs) ts → GoesTo s old new (is_looked fs) between
  all_closed old new fs ts l = subst (λ (b : List ℕ). GoesTo s old new (is_looked fs) (close_on b)) (drop-length fs) l.passes

  -- a packet that is closed bears a flow
  pub closing_bears : (k : Worker) (f : ℕ) → MayGo s k (is_closing f) → (t : Facts) × HasFacts s.capture.now f t
  closing_bears k f m =
      let z = knows_at s k sh m.before m.stand m.is (closing (f ∷ m.todo)) m.there in
      let mine = z.mine f (inl refl) in
      (mine.packet, bearing_has s.capture.now f mine.packet mine.bears)

-- the verdict that the close of a packet is to have
pub told_verdict : (s : Shared) (k : Worker) (b f : ℕ) (a : App) (t : Bool) → b ≡ bucket_for (setup_of s) f → IsTold s k f t → a ≡ (if t then app.None else verdict_for (setup_of s) f)
    → IsVerdict s k b f a
told_verdict s k b f a t home told is =
    subst (λ (c : ℕ). IsVerdict s k c f a) (sym home) (is ∙ ap (λ (x : Bool). if x then app.None else verdict_for (setup_of s) f) (sym (refused_is t told)))
  where
    refused_is : (t : Bool) → IsTold s k f t → is_refused f (bucket_at (bucket_for (setup_of s) f) (seen k.passes).buckets) ≡ t
    refused_is true h = h
    refused_is false h = h.0
