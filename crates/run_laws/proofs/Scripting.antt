-- What a worker knows at each stage of its script, of its own notes: an induction on its acts.
-- No offer is unsettled but at the stages that settle it; a frame that was missing is awaited until it is made or refused; each frame of the
-- batch is still to be answered, or is open until it is closed; frames are looked up in rising order; and each frame of the work is still to
-- come, or was closed.
use Rattle.std.proofs.Common.{◌≡◌, ℕ, ◌==◌, ◌+◌, ◌%◌, ◌<◌, ◌≤◌, nat_le, nat_lt, Bool, true, false, cond, not, ◌&&◌, ◌||◌, if◌then◌else◌, List, [], ◌∷◌, ◌++◌, Option, Some, None, ◌⊎◌, ⊎_elim, inl, inr, refl, sym, ◌∙◌, subst, arith, append_assoc, mod-lt, ◌/◌}
use Rattle.std.proofs.lemmas.Bool.Decides.{eqb_tells, nat_tests}
use Rattle.bucket_laws.proofs.Tests.{all_of, both, or_left, or_right, other, same}
use Rattle.bucket_laws.specs.Leaving.{Gone}
use Rattle.bucket_laws.specs.Places.{In}
use Rattle.bucket_rules.specs.Fixing.{Asked, asked}
use Rattle.bucket_rules.specs.Own.{awaits_by, closes, is_needing, looked, open_by, owed}
use Rattle.run_laws.proofs.Dealt.{IsMine, Rising, flat, joined, work_mine, work_rises}
use Rattle.run_laws.proofs.Notes.{awaits_of, closed_of, fresh_of, notes_in, open_of, owes_by}
use Rattle.run_laws.proofs.Sums.{same_number}
use Rattle.run_laws.proofs.Working.{one_step, only_some, step_at}
use Rattle.run_laws.specs.Setting.{IsSetup}
use Rattle.run_rules.specs.Acts.{Act, on_bucket, on_pool, on_segments}
use Rattle.run_rules.specs.Serving.{behind, emptied, front_holds, front_is}
use Rattle.run_rules.specs.Setup.{Setup, bucket_for, verdict_for, work_of}
use Rattle.run_rules.specs.Worker.{Stage, Stand, after_act, ask, asking, at, begin, between, close, close_on, closing, denied, evict, evicting, free, free_on, freeing, fresh, give, granted, held_at, is_for, is_read, look, look_on, looking, make, missed, moved, next_batch, refuse, same_app, settle, settle_on, settling, stand_after, take, takes_on, turn, turning}
use Rattle.suri_base.specs.Hash.{fnv1a, key_bytes}
use Rattle.suri_base.specs.declared.app.App.{App}
use Rattle.suri_base.specs.declared.entry.BucketNote.{BucketNote}
use Rattle.suri_base.specs.declared.entry.BucketNote.TheVariants.{AllInUse, Closed, Drained, Found, Idle, Made, Missing, Refused, Stopped, Stored, Swept, Victim}
use Rattle.suri_base.specs.declared.entry.PoolNote.{PoolNote}
use Rattle.suri_base.specs.declared.entry.PoolNote.TheVariants.{Full, Mode, Over, Put, Took, Turn}
use Rattle.suri_base.specs.declared.entry.SegNote.{SegNote}
use Rattle.suri_base.specs.declared.stream.Offer.{Offer}
use Rattle.bucket_rules.specs.Fixing as asks
use Rattle.suri_base.specs.declared.entry.SegNote.TheVariants as seg
use Rattle.suri_base.specs.declared.app.App.TheVariants as app

-- no bucket has an unsettled offer of the role
abbrev pub Settled : List Act → Type 0
Settled acts = (b : ℕ) → owes_by (notes_in b acts) ≡ None

-- every frame looked up is at most this
abbrev pub looked_by : Act → ℕ
looked_by (on_bucket b n left) = looked n
looked_by (on_pool n i) = 0
looked_by (on_segments n) = 0

abbrev pub LooksWithin : ℕ → List Act → Type 0
LooksWithin low [] = Unit {0}
LooksWithin low (a ∷ acts) = (looked_by a ≤ low) × LooksWithin low acts

-- lists

pub in_left : (g : ℕ) (xs ys : List ℕ) → In g xs → In g (xs ++ ys)
in_left g [] ys i = absurd i
in_left g (x ∷ xs) ys i = ⊎_elim (λ e. inl e) (λ j. inr (in_left g xs ys j)) i

pub in_right : (g : ℕ) (xs ys : List ℕ) → In g ys → In g (xs ++ ys)
in_right g [] ys i = i
in_right g (x ∷ xs) ys i = inr (in_right g xs ys i)

pub rising_front : (low : ℕ) (xs ys : List ℕ) → Rising low (xs ++ ys) → Rising low xs
rising_front low [] ys r = tt
rising_front low (x ∷ xs) ys r = (r.0, rising_front x xs ys r.1)

pub rising_above : (low g : ℕ) (xs : List ℕ) → Rising low xs → In g xs → low < g
rising_above low g [] r i = absurd i
rising_above low g (x ∷ xs) r i = ⊎_elim (λ e. omega (arith, r.0, e)) (λ j. let k = rising_above x g xs r.1 j in omega (arith, r.0, k)) i

pub looks_more : (low high : ℕ) (acts : List Act) → low ≤ high → LooksWithin low acts → LooksWithin high acts
looks_more low high [] h k = tt
looks_more low high (a ∷ acts) h k = (omega (arith, h, k.0), looks_more low high acts h k.1)

module _ (w : Setup) (role : ℕ) where
  abbrev pub home : ℕ → ℕ
  home f = bucket_for w f

  abbrev pub Awaited : ℕ → List Act → Type 0
  Awaited f acts = awaits_of f (notes_in (home f) acts) ≡ true

  -- one bucket has one
  pub record IsOwed (f : ℕ) (acts : List Act) : Type 0 where
    pub here : owes_by (notes_in (home f) acts) ≡ Some f
    pub elsewhere : (b : ℕ) → (home f ≡ b → ⊥) → owes_by (notes_in b acts) ≡ None

  abbrev pub IsOpened : ℕ → List Act → Type 0
  IsOpened g acts = open_of g (notes_in (home g) acts) ≡ true

  abbrev pub IsDone : ℕ → List Act → Type 0
  IsDone g acts = closed_of g (notes_in (home g) acts) ≡ true

  -- what is unsettled or awaited
  abbrev pub SettledAt : Stage → List Act → Type 0
  SettledAt between acts = Settled acts
  SettledAt (looking todo) acts = Settled acts
  SettledAt (missed f todo) acts = Settled acts × Awaited f acts
  SettledAt (evicting f k todo) acts = Settled acts × Awaited f acts
  SettledAt (turning f todo) acts = Settled acts × Awaited f acts
  SettledAt (granted f todo) acts = Settled acts × Awaited f acts
  SettledAt (denied f todo) acts = Settled acts × Awaited f acts
  SettledAt (asking f todo) acts = IsOwed f acts
  SettledAt (settling f had todo) acts = IsOwed f acts
  SettledAt (closing todo) acts = Settled acts
  SettledAt (freeing m todo) acts = Settled acts

  -- the frames of the batch that are still to be answered
  abbrev pub to_answer : Stage → List ℕ
  to_answer between = []
  to_answer (looking todo) = todo
  to_answer (missed f todo) = f ∷ todo
  to_answer (evicting f k todo) = f ∷ todo
  to_answer (turning f todo) = f ∷ todo
  to_answer (granted f todo) = f ∷ todo
  to_answer (denied f todo) = f ∷ todo
  to_answer (asking f todo) = todo
  to_answer (settling f had todo) = todo
  to_answer (closing todo) = []
  to_answer (freeing m todo) = []

  -- which frames are open
  abbrev pub OpenAt : Stage → List ℕ → List Act → Type 0
  OpenAt between batch acts = Unit {0}
  OpenAt (looking todo) batch acts = (g : ℕ) → In g batch → In g (to_answer (looking todo)) ⊎ IsOpened g acts
  OpenAt (missed f todo) batch acts = (g : ℕ) → In g batch → In g (to_answer (missed f todo)) ⊎ IsOpened g acts
  OpenAt (evicting f k todo) batch acts = (g : ℕ) → In g batch → In g (to_answer (evicting f k todo)) ⊎ IsOpened g acts
  OpenAt (turning f todo) batch acts = (g : ℕ) → In g batch → In g (to_answer (turning f todo)) ⊎ IsOpened g acts
  OpenAt (granted f todo) batch acts = (g : ℕ) → In g batch → In g (to_answer (granted f todo)) ⊎ IsOpened g acts
  OpenAt (denied f todo) batch acts = (g : ℕ) → In g batch → In g (to_answer (denied f todo)) ⊎ IsOpened g acts
  OpenAt (asking f todo) batch acts = (g : ℕ) → In g batch → In g (to_answer (asking f todo)) ⊎ IsOpened g acts
  OpenAt (settling f had todo) batch acts = (g : ℕ) → In g batch → In g (to_answer (settling f had todo)) ⊎ IsOpened g acts
  OpenAt (closing todo) batch acts = (g : ℕ) → In g todo → IsOpened g acts
  OpenAt (freeing m todo) batch acts = (g : ℕ) → In g todo → IsOpened g acts

  -- the frames of the work that are not closed yet
  abbrev pub pending : Stage → List ℕ → List (List (List ℕ)) → List ℕ
  pending between batch rounds = flat rounds
  pending (looking todo) batch rounds = batch ++ flat rounds
  pending (missed f todo) batch rounds = batch ++ flat rounds
  pending (evicting f k todo) batch rounds = batch ++ flat rounds
  pending (turning f todo) batch rounds = batch ++ flat rounds
  pending (granted f todo) batch rounds = batch ++ flat rounds
  pending (denied f todo) batch rounds = batch ++ flat rounds
  pending (asking f todo) batch rounds = batch ++ flat rounds
  pending (settling f had todo) batch rounds = batch ++ flat rounds
  pending (closing todo) batch rounds = todo ++ flat rounds
  pending (freeing m todo) batch rounds = todo ++ flat rounds

  -- those that are still to be looked up
  abbrev pub to_look : Stage → List (List (List ℕ)) → List ℕ
  to_look between rounds = flat rounds
  to_look (looking todo) rounds = todo ++ flat rounds
  to_look (missed f todo) rounds = todo ++ flat rounds
  to_look (evicting f k todo) rounds = todo ++ flat rounds
  to_look (turning f todo) rounds = todo ++ flat rounds
  to_look (granted f todo) rounds = todo ++ flat rounds
  to_look (denied f todo) rounds = todo ++ flat rounds
  to_look (asking f todo) rounds = todo ++ flat rounds
  to_look (settling f had todo) rounds = todo ++ flat rounds
  to_look (closing todo) rounds = flat rounds
  to_look (freeing m todo) rounds = flat rounds

  -- the frames of a batch rise
  abbrev pub RisesAt : Stage → List ℕ → Type 0
  RisesAt between batch = Unit {0}
  RisesAt (looking todo) batch = (low : ℕ) × Rising low batch
  RisesAt (missed f todo) batch = (low : ℕ) × Rising low batch
  RisesAt (evicting f k todo) batch = (low : ℕ) × Rising low batch
  RisesAt (turning f todo) batch = (low : ℕ) × Rising low batch
  RisesAt (granted f todo) batch = (low : ℕ) × Rising low batch
  RisesAt (denied f todo) batch = (low : ℕ) × Rising low batch
  RisesAt (asking f todo) batch = (low : ℕ) × Rising low batch
  RisesAt (settling f had todo) batch = (low : ℕ) × Rising low batch
  RisesAt (closing todo) batch = (low : ℕ) × Rising low todo
  RisesAt (freeing m todo) batch = (low : ℕ) × Rising low todo

  -- the frames at hand are those of the batch
  abbrev pub InBatchAt : Stage → List ℕ → Type 0
  InBatchAt between batch = Unit {0}
  InBatchAt (looking todo) batch = (g : ℕ) → In g todo → In g batch
  InBatchAt (missed f todo) batch = (g : ℕ) → In g (f ∷ todo) → In g batch
  InBatchAt (evicting f k todo) batch = (g : ℕ) → In g (f ∷ todo) → In g batch
  InBatchAt (turning f todo) batch = (g : ℕ) → In g (f ∷ todo) → In g batch
  InBatchAt (granted f todo) batch = (g : ℕ) → In g (f ∷ todo) → In g batch
  InBatchAt (denied f todo) batch = (g : ℕ) → In g (f ∷ todo) → In g batch
  InBatchAt (asking f todo) batch = (g : ℕ) → In g (f ∷ todo) → In g batch
  InBatchAt (settling f had todo) batch = (g : ℕ) → In g (f ∷ todo) → In g batch
  InBatchAt (closing todo) batch = Unit {0}
  InBatchAt (freeing m todo) batch = Unit {0}

  pub record Knows (p : Stage) (batch : List ℕ) (rounds : List (List (List ℕ))) (acts : List Act) : Type 0 where
    pub settled : SettledAt p acts
    pub opened : OpenAt p batch acts
    pub done : (g : ℕ) → In g (flat (work_of w role)) → In g (pending p batch rounds) ⊎ IsDone g acts
    pub low : ℕ
    pub looks : LooksWithin low acts
    pub rises : Rising low (to_look p rounds)
    pub in_order : RisesAt p batch
    pub in_batch : InBatchAt p batch
    pub mine : (g : ℕ) → In g (pending p batch rounds) → IsMine w role g

  -- one note more

  by_bucket_of : (b c : ℕ) (n : BucketNote) (left : List Gone) (acts : List Act) (P : List BucketNote → Type 0) → (b ≡ c → P (n ∷ notes_in c acts)) → ((b ≡ c → ⊥) → P (notes_in c acts))
      → P (notes_in c (on_bucket b n left ∷ acts))
  by_bucket_of b c n left acts P here other = ⊎_elim
      (λ e. subst (λ (t : Bool). P (cond t (n ∷ notes_in c acts) (notes_in c acts))) (sym e.0) (here e.1))
      (λ e. subst (λ (t : Bool). P (cond t (n ∷ notes_in c acts) (notes_in c acts))) (sym e.0) (other e.1))
      (eqb_tells b c)

  settled_on : (b : ℕ) (n : BucketNote) (left : List Gone) (acts : List Act) → owed n ≡ None → Settled acts → Settled (on_bucket b n left ∷ acts)
  settled_on b n left acts e k c = by_bucket_of b c n left acts (λ ns. owes_by ns ≡ None) (λ x. e) (λ x. k c)

  owed_on : (f : ℕ) (n : BucketNote) (left : List Gone) (acts : List Act) → owed n ≡ Some f → Settled acts → IsOwed f (on_bucket (home f) n left ∷ acts)
  owed_on f n left acts e k = record {
    here = by_bucket_of (home f) (home f) n left acts (λ ns. owes_by ns ≡ Some f) (λ x. e) (λ x. absurd (x refl));
    elsewhere = λ c d. by_bucket_of (home f) c n left acts (λ ns. owes_by ns ≡ None) (λ x. absurd (d x)) (λ x. k c);
  }

  settles_on : (f : ℕ) (n : BucketNote) (left : List Gone) (acts : List Act) → owed n ≡ None → IsOwed f acts → Settled (on_bucket (home f) n left ∷ acts)
  settles_on f n left acts e k c = by_bucket_of (home f) c n left acts (λ ns. owes_by ns ≡ None) (λ x. e) (λ x. k.elsewhere c x)

  awaits_on : (f b : ℕ) (n : BucketNote) (left : List Gone) (acts : List Act) → ((x : Bool) → x ≡ true → awaits_by f n x ≡ true) → Awaited f acts → Awaited f (on_bucket b n left ∷ acts)
  awaits_on f b n left acts e k = by_bucket_of b (home f) n left acts (λ ns. awaits_of f ns ≡ true) (λ x. e (awaits_of f (notes_in (home f) acts)) k) (λ x. k)

  opens_on : (g b : ℕ) (n : BucketNote) (left : List Gone) (acts : List Act) → ((x : Bool) → x ≡ true → open_by g n x ≡ true) → IsOpened g acts → IsOpened g (on_bucket b n left ∷ acts)
  opens_on g b n left acts e k = by_bucket_of b (home g) n left acts (λ ns. open_of g ns ≡ true) (λ x. e (open_of g (notes_in (home g) acts)) k) (λ x. k)

  opened_on : (f : ℕ) (n : BucketNote) (left : List Gone) (acts : List Act) → ((x : Bool) → open_by f n x ≡ true) → IsOpened f (on_bucket (home f) n left ∷ acts)
  opened_on f n left acts e = by_bucket_of (home f) (home f) n left acts (λ ns. open_of f ns ≡ true) (λ x. e (open_of f (notes_in (home f) acts))) (λ x. absurd (x refl))

  done_on : (g b : ℕ) (n : BucketNote) (left : List Gone) (acts : List Act) → IsDone g acts → IsDone g (on_bucket b n left ∷ acts)
  done_on g b n left acts k = by_bucket_of b (home g) n left acts (λ ns. closed_of g ns ≡ true) (λ x. or_right (closes g n) (closed_of g (notes_in (home g) acts)) k) (λ x. k)

  closes_on : (f : ℕ) (n : BucketNote) (left : List Gone) (acts : List Act) → closes f n ≡ true → IsDone f (on_bucket (home f) n left ∷ acts)
  closes_on f n left acts e = by_bucket_of (home f) (home f) n left acts (λ ns. closed_of f ns ≡ true) (λ x. or_left (closes f n) (closed_of f (notes_in (home f) acts)) e) (λ x. absurd (x refl))

  -- what was pending and isn't stays or is done
  done_still : (b : ℕ) (n : BucketNote) (left : List Gone) (acts : List Act) (fs : List ℕ) → ((g : ℕ) → In g (flat (work_of w role)) → In g fs ⊎ IsDone g acts)
      → (g : ℕ) → In g (flat (work_of w role)) → In g fs ⊎ IsDone g (on_bucket b n left ∷ acts)
  done_still b n left acts fs k g i = ⊎_elim (λ x. inl x) (λ x. inr (done_on g b n left acts x)) (k g i)

  -- a frame was answered: the next one is looked up, or the batch is closed
  go_look : (batch todo : List ℕ) (rounds : List (List (List ℕ))) (acts : List Act) (low : ℕ) → Settled acts → ((g : ℕ) → In g batch → In g todo ⊎ IsOpened g acts)
      → ((g : ℕ) → In g (flat (work_of w role)) → In g (batch ++ flat rounds) ⊎ IsDone g acts) → LooksWithin low acts → Rising low (todo ++ flat rounds)
      → (l : ℕ) × Rising l batch → ((g : ℕ) → In g todo → In g batch) → ((g : ℕ) → In g (batch ++ flat rounds) → IsMine w role g) → Knows (look_on batch todo) batch rounds acts
  go_look batch [] rounds acts low s o d l r b i m =
      record { settled = s; opened = λ g j. ⊎_elim (λ x. absurd x) (λ x. x) (o g j); done = d; low = low; looks = l; rises = r; in_order = b; in_batch = tt; mine = m }
  go_look batch (f ∷ todo) rounds acts low s o d l r b i m = record { settled = s; opened = o; done = d; low = low; looks = l; rises = r; in_order = b; in_batch = i; mine = m }

  -- a frame was closed: the next one is closed, or the batch is over
  go_close : (batch todo : List ℕ) (rounds : List (List (List ℕ))) (acts : List Act) (low : ℕ) → Settled acts → ((g : ℕ) → In g todo → IsOpened g acts)
      → ((g : ℕ) → In g (flat (work_of w role)) → In g (todo ++ flat rounds) ⊎ IsDone g acts) → LooksWithin low acts → Rising low (flat rounds)
      → (l : ℕ) × Rising l todo → ((g : ℕ) → In g (todo ++ flat rounds) → IsMine w role g) → Knows (close_on todo) batch rounds acts
  go_close batch [] rounds acts low s o d l r b m = record { settled = s; opened = tt; done = d; low = low; looks = l; rises = r; in_order = tt; in_batch = tt; mine = m }
  go_close batch (f ∷ todo) rounds acts low s o d l r b m = record { settled = s; opened = o; done = d; low = low; looks = l; rises = r; in_order = b; in_batch = tt; mine = m }

  -- a frame was answered by a note at its bucket
  answered : (f : ℕ) (batch todo : List ℕ) (rounds : List (List (List ℕ))) (n : BucketNote) (left : List Gone) (acts : List Act) (low : ℕ)
      → ((g : ℕ) (x : Bool) → x ≡ true → open_by g n x ≡ true) → ((x : Bool) → open_by f n x ≡ true) → ((g : ℕ) → In g batch → In g (f ∷ todo) ⊎ IsOpened g acts)
      → (g : ℕ) → In g batch → In g todo ⊎ IsOpened g (on_bucket (home f) n left ∷ acts)
  answered f batch todo rounds n left acts low e now k g i = ⊎_elim
      (λ x. ⊎_elim (λ y. inr (subst (λ (v : ℕ). IsOpened v (on_bucket (home f) n left ∷ acts)) y (opened_on f n left acts now))) (λ y. inl y) x)
      (λ x. inr (opens_on g (home f) n left acts (e g) x)) (k g i)

  -- after an answer the offer is settled first where it has to be
  go_settle : (t : Bool) (f : ℕ) (batch todo : List ℕ) (rounds : List (List (List ℕ))) (n : BucketNote) (left : List Gone) (acts : List Act) (low : ℕ)
      → (t ≡ true → owed n ≡ Some f) → (t ≡ false → owed n ≡ None) → Settled acts
      → ((g : ℕ) → In g batch → In g todo ⊎ IsOpened g (on_bucket (home f) n left ∷ acts))
      → ((g : ℕ) → In g (flat (work_of w role)) → In g (batch ++ flat rounds) ⊎ IsDone g acts) → LooksWithin low (on_bucket (home f) n left ∷ acts) → Rising low (todo ++ flat rounds)
      → (l : ℕ) × Rising l batch → ((g : ℕ) → In g (f ∷ todo) → In g batch) → ((g : ℕ) → In g (batch ++ flat rounds) → IsMine w role g)
      → Knows (settle_on t f batch todo) batch rounds (on_bucket (home f) n left ∷ acts)
  go_settle true f batch todo rounds n left acts low needing never s o d l r b i m = record {
    settled =
        owed_on f n left acts (needing refl) s;
    opened = o;
    done = done_still (home f) n left acts (batch ++ flat rounds) d;
    low = low;
    looks = l;
    rises = r;
    in_order = b;
    in_batch = i;
    mine = m;
  }
  go_settle false f batch todo rounds n left acts low needing never s o d l r b i m =
      go_look batch todo rounds (on_bucket (home f) n left ∷ acts) low (settled_on (home f) n left acts (never refl) s) o
      (done_still (home f) n left acts (batch ++ flat rounds) d) l r b (λ g j. i g (inr j)) m

  -- what a call on a bucket asks for, of the role's own notes
  abbrev pub CanAsk : ℕ → Asked → List Act → Type 0
  CanAsk b (asks.look f emergency seen) acts = (b ≡ home f) × IsMine w role f × (fresh_of f (notes_in b acts) ≡ true) × (owes_by (notes_in b acts) ≡ None)
  CanAsk b (asks.make f) acts = awaits_of f (notes_in b acts) ≡ true
  CanAsk b (asks.refuse f) acts = awaits_of f (notes_in b acts) ≡ true
  CanAsk b (asks.store f) acts = owes_by (notes_in b acts) ≡ Some f
  CanAsk b (asks.stop f) acts = owes_by (notes_in b acts) ≡ Some f
  CanAsk b (asks.close f app) acts = (open_of f (notes_in b acts) ≡ true) × (owes_by (notes_in b acts) ≡ None)
  CanAsk b (asks.evict f) acts = owes_by (notes_in b acts) ≡ None
  CanAsk b (asks.sweep round emergency seen) acts = ⊥
  CanAsk b asks.drain acts = ⊥

  abbrev pub CanAct : Act → List Act → Type 0
  CanAct (on_bucket b n left) acts = (b < w.layout.rows) × CanAsk b (asked n) acts
  CanAct (on_pool n i) acts = Unit {0}
  CanAct (on_segments n) acts = Unit {0}

  -- looks below a frame
  fresh_in : (b low f : ℕ) (acts : List Act) → low < f → LooksWithin low acts → fresh_of f (notes_in b acts) ≡ true
  fresh_in b low f [] h k = refl
  fresh_in b low f (on_pool n i ∷ acts) h k = fresh_in b low f acts h k.1
  fresh_in b low f (on_segments n ∷ acts) h k = fresh_in b low f acts h k.1
  fresh_in b low f (on_bucket c n left ∷ acts) h k =
      let more = fresh_in b low f acts h k.1 in
      by_bucket_of c b n left acts (λ ns. fresh_of f ns ≡ true) (λ x. all_of (nat_lt (looked n) f) (fresh_of f (notes_in b acts)) (is_less (looked n) f (omega (arith, h, k.0))) more) (λ x. more)
    where
      is_less : (x y : ℕ) → x < y → nat_lt x y ≡ true
      is_less x y l = grind (arith, nat_tests)

  real_home : (g : ℕ) → IsMine w role g → 1 ≤ w.layout.rows → home g < w.layout.rows
  real_home g m h = subst (λ (x : ℕ). x < w.layout.rows) m.bucket (mod-lt (fnv1a (key_bytes m.packet.key) / 256) h)

  is_for_split : (f b g : ℕ) → is_for w f b g ≡ true → (g ≡ f) × (b ≡ home f)
  is_for_split f b g h = let z = both (g == f) (b == home f) h in (same_number g f z.0, same_number b (home f) z.1)

  needs_owed : (f : ℕ) (t : Bool) → t ≡ true → (if t then Some f else None) ≡ Some f
  needs_owed f true h = refl
  needs_owed f false h = cc

  needs_none : (f : ℕ) (t : Bool) → t ≡ false → (if t then Some f else None) ≡ None
  needs_none f true h = cc
  needs_none f false h = refl

  own_yes : (f : ℕ) (x : Bool) → ((f == f) || x) ≡ true
  own_yes f x = or_left (f == f) x (same f f refl)

  or_more : (p x : Bool) → x ≡ true → (p || x) ≡ true
  or_more p x h = or_right p x h

  and_more : (f g : ℕ) (x : Bool) → (f ≡ g → ⊥) → x ≡ true → (not (f == g) && x) ≡ true
  and_more f g x d h = let e : (f == g) ≡ false = other f g d in rw (e, h) refl

  same_looks : (low : ℕ) (b : ℕ) (n : BucketNote) (left : List Gone) (acts : List Act) → looked n ≡ 0 → LooksWithin low acts → LooksWithin low (on_bucket b n left ∷ acts)
  same_looks low b n left acts e k = (omega (arith, e), k)

  -- an act may be made, and what is known then
  abbrev pub Ans : Act → Stage → List ℕ → List (List (List ℕ)) → List Act → Type 0
  Ans a p batch rounds acts = CanAct a acts × Knows p batch rounds (a ∷ acts)

  move_home : (f b g : ℕ) (note : ℕ → BucketNote) (left : List Gone) (acts : List Act) (p : Stage) (batch : List ℕ) (rounds : List (List (List ℕ))) → (g ≡ f) × (b ≡ home f)
      → Ans (on_bucket (home f) (note f) left) p batch rounds acts → Ans (on_bucket b (note g) left) p batch rounds acts
  move_home f b g note left acts p batch rounds q k =
      subst (λ (u : ℕ). Ans (on_bucket u (note g) left) p batch rounds acts) (sym q.1) (subst (λ (u : ℕ). Ans (on_bucket (home f) (note u) left) p batch rounds acts) (sym q.0) k)

  kept_open : (b : ℕ) (n : BucketNote) (left : List Gone) (batch todo : List ℕ) (acts : List Act) → ((g : ℕ) (x : Bool) → x ≡ true → open_by g n x ≡ true)
      → ((g : ℕ) → In g batch → In g todo ⊎ IsOpened g acts) → (g : ℕ) → In g batch → In g todo ⊎ IsOpened g (on_bucket b n left ∷ acts)
  kept_open b n left batch todo acts e k g i = ⊎_elim (λ x. inl x) (λ x. inr (opens_on g b n left acts (e g) x)) (k g i)

  found_at : (f : ℕ) (todo batch : List ℕ) (rounds : List (List (List ℕ))) (e : Bool) (n run : ℕ) (o : Offer) (left : List Gone) (acts : List Act) → 1 ≤ w.layout.rows
      → Knows (looking (f ∷ todo)) batch rounds acts → Ans (on_bucket (home f) (Found f e n run o) left) (settle_on (is_needing o) f batch todo) batch rounds acts
  found_at f todo batch rounds e n run o left acts r k = (
    (
      real_home f (k.mine f (in_left f batch (flat rounds) (k.in_batch f (inl refl)))) r,
      (refl, k.mine f (in_left f batch (flat rounds) (k.in_batch f (inl refl))), fresh_in (home f) k.low f acts k.rises.0 k.looks, k.settled (home f)),
    ),
    go_settle (is_needing o) f batch todo rounds (Found f e n run o) left acts f (needs_owed f (is_needing o)) (needs_none f (is_needing o)) k.settled
        (answered f batch todo rounds (Found f e n run o) left acts f (λ g x y. or_more (f == g) x y) (λ x. own_yes f x) k.opened) k.done
        (omega arith, looks_more k.low f acts (let z = k.rises.0 in omega (arith, z)) k.looks) k.rises.1 k.in_order k.in_batch k.mine,
  )

  missing_at : (f : ℕ) (todo batch : List ℕ) (rounds : List (List (List ℕ))) (e : Bool) (n ended : ℕ) (left : List Gone) (acts : List Act) → 1 ≤ w.layout.rows
      → Knows (looking (f ∷ todo)) batch rounds acts → Ans (on_bucket (home f) (Missing f e n ended) left) (missed f todo) batch rounds acts
  missing_at f todo batch rounds e n ended left acts r k = (
    (
      real_home f (k.mine f (in_left f batch (flat rounds) (k.in_batch f (inl refl)))) r,
      (refl, k.mine f (in_left f batch (flat rounds) (k.in_batch f (inl refl))), fresh_in (home f) k.low f acts k.rises.0 k.looks, k.settled (home f)),
    ),
    record {
      settled = (
        settled_on (home f) (Missing f e n ended) left acts refl k.settled,
        by_bucket_of (home f) (home f) (Missing f e n ended) left acts (λ ns. awaits_of f ns ≡ true) (λ x. same f f refl) (λ x. absurd (x refl)),
      );
      opened = kept_open (home f) (Missing f e n ended) left batch (f ∷ todo) acts (λ g x y. y) k.opened;
      done = done_still (home f) (Missing f e n ended) left acts (batch ++ flat rounds) k.done;
      low = f;
      looks = (omega arith, looks_more k.low f acts (let z = k.rises.0 in omega (arith, z)) k.looks);
      rises = k.rises.1;
      in_order = k.in_order;
      in_batch = k.in_batch;
      mine = k.mine;
    },
  )

  victim_turns : (f : ℕ) (todo batch : List ℕ) (rounds : List (List (List ℕ))) (j i b run : ℕ) (left : List Gone) (acts : List Act) → b < w.layout.rows
      → Knows (evicting f j todo) batch rounds acts → Ans (on_bucket b (Victim f run) left) (turning f todo) batch rounds acts
  victim_turns f todo batch rounds j i b run left acts l k = (
    (l, k.settled.0 b),
    record {
      settled = (settled_on b (Victim f run) left acts refl k.settled.0, awaits_on f b (Victim f run) left acts (λ x y. y) k.settled.1);
      opened = kept_open b (Victim f run) left batch (f ∷ todo) acts (λ g x y. y) k.opened;
      done = done_still b (Victim f run) left acts (batch ++ flat rounds) k.done;
      low = k.low;
      looks = (omega arith, k.looks);
      rises = k.rises;
      in_order = k.in_order;
      in_batch = k.in_batch;
      mine = k.mine;
    },
  )

  in_use_denies : (f : ℕ) (todo batch : List ℕ) (rounds : List (List (List ℕ))) (j i b run : ℕ) (left : List Gone) (acts : List Act) → b < w.layout.rows
      → Knows (evicting f j todo) batch rounds acts → Ans (on_bucket b (AllInUse f run) left) (denied f todo) batch rounds acts
  in_use_denies f todo batch rounds j i b run left acts l k = (
    (l, k.settled.0 b),
    record {
      settled = (settled_on b (AllInUse f run) left acts refl k.settled.0, awaits_on f b (AllInUse f run) left acts (λ x y. y) k.settled.1);
      opened = kept_open b (AllInUse f run) left batch (f ∷ todo) acts (λ g x y. y) k.opened;
      done = done_still b (AllInUse f run) left acts (batch ++ flat rounds) k.done;
      low = k.low;
      looks = (omega arith, k.looks);
      rises = k.rises;
      in_order = k.in_order;
      in_batch = k.in_batch;
      mine = k.mine;
    },
  )

  in_use_goes_on : (f : ℕ) (todo batch : List ℕ) (rounds : List (List (List ℕ))) (j i b run : ℕ) (left : List Gone) (acts : List Act) → b < w.layout.rows
      → Knows (evicting f j todo) batch rounds acts → Ans (on_bucket b (AllInUse f run) left) (evicting f i todo) batch rounds acts
  in_use_goes_on f todo batch rounds j i b run left acts l k = (
    (l, k.settled.0 b),
    record {
      settled = (settled_on b (AllInUse f run) left acts refl k.settled.0, awaits_on f b (AllInUse f run) left acts (λ x y. y) k.settled.1);
      opened = kept_open b (AllInUse f run) left batch (f ∷ todo) acts (λ g x y. y) k.opened;
      done = done_still b (AllInUse f run) left acts (batch ++ flat rounds) k.done;
      low = k.low;
      looks = (omega arith, k.looks);
      rises = k.rises;
      in_order = k.in_order;
      in_batch = k.in_batch;
      mine = k.mine;
    },
  )

  in_use_next : (f : ℕ) (todo batch : List ℕ) (rounds : List (List (List ℕ))) (j i b count : ℕ) (left : List Gone) (acts : List Act) (t : Bool) → b < w.layout.rows
      → Knows (evicting f j todo) batch rounds acts
      → Ans (on_bucket b (AllInUse f count) left) (cond t (denied f todo) (evicting f i todo)) batch rounds acts
  in_use_next f todo batch rounds j i b count left acts true l k = in_use_denies f todo batch rounds j i b count left acts l k
  in_use_next f todo batch rounds j i b count left acts false l k = in_use_goes_on f todo batch rounds j i b count left acts l k

  made_at : (f : ℕ) (todo batch : List ℕ) (rounds : List (List (List ℕ))) (o : Offer) (left : List Gone) (acts : List Act) → 1 ≤ w.layout.rows
      → Knows (granted f todo) batch rounds acts → Ans (on_bucket (home f) (Made f o) left) (settle_on (is_needing o) f batch todo) batch rounds acts
  made_at f todo batch rounds o left acts r k = (
    (real_home f (k.mine f (in_left f batch (flat rounds) (k.in_batch f (inl refl)))) r, k.settled.1),
    go_settle (is_needing o) f batch todo rounds (Made f o) left acts k.low (needs_owed f (is_needing o)) (needs_none f (is_needing o)) k.settled.0
        (answered f batch todo rounds (Made f o) left acts k.low (λ g x y. or_more (f == g) x y) (λ x. own_yes f x) k.opened) k.done
        (omega arith, k.looks) k.rises k.in_order k.in_batch k.mine,
  )

  refused_at : (f : ℕ) (todo batch : List ℕ) (rounds : List (List (List ℕ))) (left : List Gone) (acts : List Act) → 1 ≤ w.layout.rows
      → Knows (denied f todo) batch rounds acts → Ans (on_bucket (home f) (Refused f) left) (look_on batch todo) batch rounds acts
  refused_at f todo batch rounds left acts r k = (
    (real_home f (k.mine f (in_left f batch (flat rounds) (k.in_batch f (inl refl)))) r, k.settled.1),
    go_look batch todo rounds (on_bucket (home f) (Refused f) left ∷ acts) k.low (settled_on (home f) (Refused f) left acts refl k.settled.0)
        (answered f batch todo rounds (Refused f) left acts k.low (λ g x y. or_more (f == g) x y) (λ x. own_yes f x) k.opened)
        (done_still (home f) (Refused f) left acts (batch ++ flat rounds) k.done) (omega arith, k.looks) k.rises k.in_order (λ g j. k.in_batch g (inr j)) k.mine,
  )

  stored_at : (f : ℕ) (todo batch : List ℕ) (rounds : List (List (List ℕ))) (had : Bool) (left : List Gone) (acts : List Act) → 1 ≤ w.layout.rows
      → Knows (settling f had todo) batch rounds acts → Ans (on_bucket (home f) (Stored f) left) (look_on batch todo) batch rounds acts
  stored_at f todo batch rounds had left acts r k = (
    (real_home f (k.mine f (in_left f batch (flat rounds) (k.in_batch f (inl refl)))) r, k.settled.here),
    go_look batch todo rounds (on_bucket (home f) (Stored f) left ∷ acts) k.low (settles_on f (Stored f) left acts refl k.settled)
        (kept_open (home f) (Stored f) left batch todo acts (λ g x y. y) k.opened)
        (done_still (home f) (Stored f) left acts (batch ++ flat rounds) k.done) (omega arith, k.looks) k.rises k.in_order (λ g j. k.in_batch g (inr j)) k.mine,
  )

  stopped_at : (f : ℕ) (todo batch : List ℕ) (rounds : List (List (List ℕ))) (had : Bool) (left : List Gone) (acts : List Act) → 1 ≤ w.layout.rows
      → Knows (settling f had todo) batch rounds acts → Ans (on_bucket (home f) (Stopped f) left) (look_on batch todo) batch rounds acts
  stopped_at f todo batch rounds had left acts r k = (
    (real_home f (k.mine f (in_left f batch (flat rounds) (k.in_batch f (inl refl)))) r, k.settled.here),
    go_look batch todo rounds (on_bucket (home f) (Stopped f) left ∷ acts) k.low (settles_on f (Stopped f) left acts refl k.settled)
        (kept_open (home f) (Stopped f) left batch todo acts (λ g x y. y) k.opened)
        (done_still (home f) (Stopped f) left acts (batch ++ flat rounds) k.done) (omega arith, k.looks) k.rises k.in_order (λ g j. k.in_batch g (inr j)) k.mine,
  )

  still_open : (f : ℕ) (todo batch : List ℕ) (rounds : List (List (List ℕ))) (n : BucketNote) (left : List Gone) (acts : List Act)
      → ((g : ℕ) (x : Bool) → open_by g n x ≡ (not (f == g) && x)) → Knows (closing (f ∷ todo)) batch rounds acts
      → (g : ℕ) → In g todo → IsOpened g (on_bucket (home f) n left ∷ acts)
  still_open f todo batch rounds n left acts e k g j =
      let l = rising_above f g todo k.in_order.1.1 j in
      opens_on g (home f) n left acts (λ x y. e g x ∙ and_more f g x (λ z. absurd (omega (arith, l, z))) y) (k.opened g (inr j))

  closed_now : (f : ℕ) (todo batch : List ℕ) (rounds : List (List (List ℕ))) (n : BucketNote) (left : List Gone) (acts : List Act) → closes f n ≡ true → Knows (closing (f ∷ todo)) batch rounds acts
      → (g : ℕ) → In g (flat (work_of w role)) → In g (todo ++ flat rounds) ⊎ IsDone g (on_bucket (home f) n left ∷ acts)
  closed_now f todo batch rounds n left acts e k g i = ⊎_elim
      (λ x. ⊎_elim (λ y. inr (subst (λ (v : ℕ). IsDone v (on_bucket (home f) n left ∷ acts)) y (closes_on f n left acts e))) (λ y. inl y) x)
      (λ x. inr (done_on g (home f) n left acts x)) (k.done g i)

  closed_at : (f : ℕ) (todo batch : List ℕ) (rounds : List (List (List ℕ))) (app : App) (run freed : ℕ) (ended : Bool) (left : List Gone) (acts : List Act)
      → 1 ≤ w.layout.rows → Knows (closing (f ∷ todo)) batch rounds acts → Ans (on_bucket (home f) (Closed f app run freed ended) left) (close_on todo) batch rounds acts
  closed_at f todo batch rounds app run freed ended left acts r k = (
    (real_home f (k.mine f (inl refl)) r, (k.opened f (inl refl), k.settled (home f))),
    go_close batch todo rounds (on_bucket (home f) (Closed f app run freed ended) left ∷ acts) k.low (settled_on (home f) (Closed f app run freed ended) left acts refl k.settled)
        (still_open f todo batch rounds (Closed f app run freed ended) left acts (λ g x. refl) k) (closed_now f todo batch rounds (Closed f app run freed ended) left acts (same f f refl) k)
        (omega arith, k.looks) k.rises (f, k.in_order.1.1) (λ g j. k.mine g (inr j)),
  )

  idle_at : (f : ℕ) (todo batch : List ℕ) (rounds : List (List (List ℕ))) (app : App) (left : List Gone) (acts : List Act) → 1 ≤ w.layout.rows
      → Knows (closing (f ∷ todo)) batch rounds acts → Ans (on_bucket (home f) (Idle f app) left) (close_on todo) batch rounds acts
  idle_at f todo batch rounds app left acts r k = (
    (real_home f (k.mine f (inl refl)) r, (k.opened f (inl refl), k.settled (home f))),
    go_close batch todo rounds (on_bucket (home f) (Idle f app) left ∷ acts) k.low (settled_on (home f) (Idle f app) left acts refl k.settled)
        (still_open f todo batch rounds (Idle f app) left acts (λ g x. refl) k) (closed_now f todo batch rounds (Idle f app) left acts (same f f refl) k)
        (omega arith, k.looks) k.rises (f, k.in_order.1.1) (λ g j. k.mine g (inr j)),
  )

  closed_frees : (f : ℕ) (todo batch : List ℕ) (rounds : List (List (List ℕ))) (app : App) (run freed : ℕ) (ended : Bool) (left : List Gone) (acts : List Act)
      → 1 ≤ w.layout.rows → Knows (closing (f ∷ todo)) batch rounds acts
      → Ans (on_bucket (home f) (Closed f app run freed ended) left) (freeing freed todo) batch rounds acts
  closed_frees f todo batch rounds app run freed ended left acts r k = (
    (real_home f (k.mine f (inl refl)) r, (k.opened f (inl refl), k.settled (home f))),
    record {
      settled = settled_on (home f) (Closed f app run freed ended) left acts refl k.settled;
      opened = still_open f todo batch rounds (Closed f app run freed ended) left acts (λ g x. refl) k;
      done = closed_now f todo batch rounds (Closed f app run freed ended) left acts (same f f refl) k;
      low = k.low;
      looks = (omega arith, k.looks);
      rises = k.rises;
      in_order = (f, k.in_order.1.1);
      in_batch = tt;
      mine = λ g j. k.mine g (inr j);
    },
  )

  closed_next : (f : ℕ) (todo batch : List ℕ) (rounds : List (List (List ℕ))) (app : App) (run freed : ℕ) (ended : Bool) (left : List Gone) (acts : List Act) (t : Bool)
      → 1 ≤ w.layout.rows → Knows (closing (f ∷ todo)) batch rounds acts
      → Ans (on_bucket (home f) (Closed f app run freed ended) left) (cond t (close_on todo) (freeing freed todo)) batch rounds acts
  closed_next f todo batch rounds app run freed ended left acts true r k = closed_at f todo batch rounds app run freed ended left acts r k
  closed_next f todo batch rounds app run freed ended left acts false r k = closed_frees f todo batch rounds app run freed ended left acts r k

  full_at : (hand : List Gone) (f : ℕ) (todo batch : List ℕ) (rounds : List (List (List ℕ))) (n limit i : ℕ) (acts : List Act) → Knows (missed f todo) batch rounds acts
      → Knows (takes_on hand f todo) batch rounds (on_pool (Full f n limit) i ∷ acts)
  full_at [] f todo batch rounds n limit i acts k =
      record { settled = k.settled; opened = k.opened; done = k.done; low = k.low; looks = (omega arith, k.looks); rises = k.rises; in_order = k.in_order; in_batch = k.in_batch; mine = k.mine }
  full_at (g ∷ hand) f todo batch rounds n limit i acts k =
      record { settled = k.settled; opened = k.opened; done = k.done; low = k.low; looks = (omega arith, k.looks); rises = k.rises; in_order = k.in_order; in_batch = k.in_batch; mine = k.mine }

  next_knows : (e : Bool) (n : ℕ) (rounds : List (List (List ℕ))) (hand : List Gone) (hands : List (List Gone)) (batch : List ℕ) (t : Stand) (acts : List Act)
      → next_batch e n rounds hand hands ≡ Some t
      → Knows between batch rounds acts → Knows t.stage t.batch t.rounds (on_pool (Mode e) n ∷ acts)
  next_knows e n [] hand hands batch t acts h k = cc
  next_knows e n ([] ∷ later) hand hands batch t acts h k = next_knows e n later [] (hand ∷ hands) batch t acts h
      (record { settled = k.settled; opened = tt; done = k.done; low = k.low; looks = k.looks; rises = k.rises; in_order = tt; in_batch = tt; mine = k.mine })
  next_knows e n ((b ∷ bs) ∷ later) hand hands batch t acts h k =
      let q : record { stage = look_on b b; batch = b; emergency = e; seen = n; rounds = bs ∷ later; hand = hand; hands = hands } ≡ t = cc in
      let a : (b ++ joined bs) ++ flat later ≡ b ++ (joined bs ++ flat later) = append_assoc b (joined bs) (flat later) in
      let rises = subst (Rising k.low) a k.rises in
      subst (λ (v : Stand). Knows v.stage v.batch v.rounds (on_pool (Mode e) n ∷ acts)) q
      (go_look b b (bs ∷ later) (on_pool (Mode e) n ∷ acts) k.low k.settled (λ g i. inl i)
      (λ g i. subst (λ (fs : List ℕ). In g fs ⊎ IsDone g acts) a (k.done g i)) (omega arith, k.looks) rises
      (k.low, rising_front k.low b (joined bs ++ flat later) rises) (λ g i. i) (λ g i. k.mine g (subst (λ (fs : List ℕ). In g fs) (sym a) i)))

  look_step : 1 ≤ w.layout.rows → (f : ℕ) (todo : List ℕ) (s : Stand) (b : ℕ) (x : BucketNote) (left : List Gone) (t : Stand) (acts : List Act)
      → look w f todo s b x left ≡ Some t → Knows (looking (f ∷ todo)) s.batch s.rounds acts
      → CanAct (on_bucket b x left) acts × Knows t.stage t.batch t.rounds (on_bucket b x left ∷ acts)
  look_step r f todo s b (Found g e n run o) left t acts h k =
      let z = only_some (is_for w f b g && is_read w s e n) (held_at (settle_on (is_needing o) f s.batch todo) (s.hand ++ left) s) t h in
      subst (λ (v : Stand). Ans (on_bucket b (Found g e n run o) left) v.stage v.batch v.rounds acts) z.1
      (move_home f b g (λ u. Found u e n run o) left acts (settle_on (is_needing o) f s.batch todo) s.batch s.rounds
      (is_for_split f b g (both (is_for w f b g) (is_read w s e n) z.0).0) (found_at f todo s.batch s.rounds e n run o left acts r k))
  look_step r f todo s b (Missing g e n ended) left t acts h k =
      let z = only_some (is_for w f b g && is_read w s e n) (held_at (missed f todo) (s.hand ++ left) s) t h in
      subst (λ (v : Stand). Ans (on_bucket b (Missing g e n ended) left) v.stage v.batch v.rounds acts) z.1
      (move_home f b g (λ u. Missing u e n ended) left acts (missed f todo) s.batch s.rounds (is_for_split f b g (both (is_for w f b g) (is_read w s e n) z.0).0)
      (missing_at f todo s.batch s.rounds e n ended left acts r k))
  look_step r f todo s b (Made g o) left t acts h k = cc
  look_step r f todo s b (Refused g) left t acts h k = cc
  look_step r f todo s b (Stored g) left t acts h k = cc
  look_step r f todo s b (Stopped g) left t acts h k = cc
  look_step r f todo s b (Closed g app' run freed ended) left t acts h k = cc
  look_step r f todo s b (Idle g app') left t acts h k = cc
  look_step r f todo s b (Victim g run) left t acts h k = cc
  look_step r f todo s b (AllInUse g count) left t acts h k = cc
  look_step r f todo s b (Swept round e n count) left t acts h k = cc
  look_step r f todo s b (Drained count) left t acts h k = cc

  evict_step : 1 ≤ w.layout.rows → (f j : ℕ) (todo : List ℕ) (s : Stand) (b : ℕ) (x : BucketNote) (left : List Gone) (t : Stand) (acts : List Act)
      → evict w f j todo s b x left ≡ Some t → Knows (evicting f j todo) s.batch s.rounds acts
      → CanAct (on_bucket b x left) acts × Knows t.stage t.batch t.rounds (on_bucket b x left ∷ acts)
  evict_step r f j todo s b (Found g e n run o) left t acts h k = cc
  evict_step r f j todo s b (Missing g e n ended) left t acts h k = cc
  evict_step r f j todo s b (Made g o) left t acts h k = cc
  evict_step r f j todo s b (Refused g) left t acts h k = cc
  evict_step r f j todo s b (Stored g) left t acts h k = cc
  evict_step r f j todo s b (Stopped g) left t acts h k = cc
  evict_step r f j todo s b (Closed g app' run freed ended) left t acts h k = cc
  evict_step r f j todo s b (Idle g app') left t acts h k = cc
  evict_step r f j todo s b (Victim g run) left t acts h k =
      let z = only_some ((g == f) && (b == (bucket_for w f + j) % w.layout.rows)) (held_at (turning f todo) (s.hand ++ left) s) t h in
      let q = both (g == f) (b == (bucket_for w f + j) % w.layout.rows) z.0 in
      let l : b < w.layout.rows = subst (λ (u : ℕ). u < w.layout.rows) (sym (same_number b ((bucket_for w f + j) % w.layout.rows) q.1)) (mod-lt (bucket_for w f + j) r) in
      subst (λ (v : Stand). Ans (on_bucket b (Victim g run) left) v.stage v.batch v.rounds acts) z.1
      (subst (λ (u : ℕ). Ans (on_bucket b (Victim u run) left) (turning f todo) s.batch s.rounds acts) (sym (same_number g f q.0)) (victim_turns f todo s.batch s.rounds j 0 b run left acts l k))
  evict_step r f j todo s b (AllInUse g count) left t acts h k =
      let z = only_some ((g == f) && (b == (bucket_for w f + j) % w.layout.rows)) (held_at (if j + 1 == w.layout.rows then denied f todo else evicting f (j + 1) todo) (s.hand ++ left) s) t h in
      let q = both (g == f) (b == (bucket_for w f + j) % w.layout.rows) z.0 in
      let l : b < w.layout.rows = subst (λ (u : ℕ). u < w.layout.rows) (sym (same_number b ((bucket_for w f + j) % w.layout.rows) q.1)) (mod-lt (bucket_for w f + j) r) in
      subst (λ (v : Stand). Ans (on_bucket b (AllInUse g count) left) v.stage v.batch v.rounds acts) z.1
      (subst (λ (u : ℕ). Ans (on_bucket b (AllInUse u count) left) (if j + 1 == w.layout.rows then denied f todo else evicting f (j + 1) todo) s.batch s.rounds acts)
      (sym (same_number g f q.0)) (in_use_next f todo s.batch s.rounds j (j + 1) b count left acts (j + 1 == w.layout.rows) l k))
  evict_step r f j todo s b (Swept round e n count) left t acts h k = cc
  evict_step r f j todo s b (Drained count) left t acts h k = cc

  make_step : 1 ≤ w.layout.rows → (f : ℕ) (todo : List ℕ) (s : Stand) (b : ℕ) (x : BucketNote) (left : List Gone) (t : Stand) (acts : List Act)
      → make w f todo s b x left ≡ Some t → Knows (granted f todo) s.batch s.rounds acts
      → CanAct (on_bucket b x left) acts × Knows t.stage t.batch t.rounds (on_bucket b x left ∷ acts)
  make_step r f todo s b (Found g e n run o) left t acts h k = cc
  make_step r f todo s b (Missing g e n ended) left t acts h k = cc
  make_step r f todo s b (Made g o) left t acts h k =
      let z = only_some (is_for w f b g) (held_at (settle_on (is_needing o) f s.batch todo) (s.hand ++ left) s) t h in
      subst (λ (v : Stand). Ans (on_bucket b (Made g o) left) v.stage v.batch v.rounds acts) z.1
      (move_home f b g (λ u. Made u o) left acts (settle_on (is_needing o) f s.batch todo) s.batch s.rounds (is_for_split f b g z.0) (made_at f todo s.batch s.rounds o left acts r k))
  make_step r f todo s b (Refused g) left t acts h k = cc
  make_step r f todo s b (Stored g) left t acts h k = cc
  make_step r f todo s b (Stopped g) left t acts h k = cc
  make_step r f todo s b (Closed g app' run freed ended) left t acts h k = cc
  make_step r f todo s b (Idle g app') left t acts h k = cc
  make_step r f todo s b (Victim g run) left t acts h k = cc
  make_step r f todo s b (AllInUse g count) left t acts h k = cc
  make_step r f todo s b (Swept round e n count) left t acts h k = cc
  make_step r f todo s b (Drained count) left t acts h k = cc

  refuse_step : 1 ≤ w.layout.rows → (f : ℕ) (todo : List ℕ) (s : Stand) (b : ℕ) (x : BucketNote) (left : List Gone) (t : Stand) (acts : List Act)
      → refuse w f todo s b x left ≡ Some t → Knows (denied f todo) s.batch s.rounds acts
      → CanAct (on_bucket b x left) acts × Knows t.stage t.batch t.rounds (on_bucket b x left ∷ acts)
  refuse_step r f todo s b (Found g e n run o) left t acts h k = cc
  refuse_step r f todo s b (Missing g e n ended) left t acts h k = cc
  refuse_step r f todo s b (Made g o) left t acts h k = cc
  refuse_step r f todo s b (Refused g) left t acts h k =
      let z = only_some (is_for w f b g) (held_at (look_on s.batch todo) (s.hand ++ left) s) t h in
      subst (λ (v : Stand). Ans (on_bucket b (Refused g) left) v.stage v.batch v.rounds acts) z.1
      (move_home f b g (λ u. Refused u) left acts (look_on s.batch todo) s.batch s.rounds (is_for_split f b g z.0) (refused_at f todo s.batch s.rounds left acts r k))
  refuse_step r f todo s b (Stored g) left t acts h k = cc
  refuse_step r f todo s b (Stopped g) left t acts h k = cc
  refuse_step r f todo s b (Closed g app' run freed ended) left t acts h k = cc
  refuse_step r f todo s b (Idle g app') left t acts h k = cc
  refuse_step r f todo s b (Victim g run) left t acts h k = cc
  refuse_step r f todo s b (AllInUse g count) left t acts h k = cc
  refuse_step r f todo s b (Swept round e n count) left t acts h k = cc
  refuse_step r f todo s b (Drained count) left t acts h k = cc

  settle_step : 1 ≤ w.layout.rows → (f : ℕ) (had : Bool) (todo : List ℕ) (s : Stand) (b : ℕ) (x : BucketNote) (left : List Gone) (t : Stand) (acts : List Act)
      → settle w f had todo s b x left ≡ Some t → Knows (settling f had todo) s.batch s.rounds acts
      → CanAct (on_bucket b x left) acts × Knows t.stage t.batch t.rounds (on_bucket b x left ∷ acts)
  settle_step r f true todo s b (Found g e n run o) left t acts h k = cc
  settle_step r f true todo s b (Missing g e n ended) left t acts h k = cc
  settle_step r f true todo s b (Made g o) left t acts h k = cc
  settle_step r f true todo s b (Refused g) left t acts h k = cc
  settle_step r f true todo s b (Stored g) left t acts h k =
      let z = only_some (is_for w f b g) (held_at (look_on s.batch todo) (s.hand ++ left) s) t h in
      subst (λ (v : Stand). Ans (on_bucket b (Stored g) left) v.stage v.batch v.rounds acts) z.1
      (move_home f b g (λ u. Stored u) left acts (look_on s.batch todo) s.batch s.rounds (is_for_split f b g z.0) (stored_at f todo s.batch s.rounds true left acts r k))
  settle_step r f true todo s b (Stopped g) left t acts h k = cc
  settle_step r f true todo s b (Closed g app' run freed ended) left t acts h k = cc
  settle_step r f true todo s b (Idle g app') left t acts h k = cc
  settle_step r f true todo s b (Victim g run) left t acts h k = cc
  settle_step r f true todo s b (AllInUse g count) left t acts h k = cc
  settle_step r f true todo s b (Swept round e n count) left t acts h k = cc
  settle_step r f true todo s b (Drained count) left t acts h k = cc
  settle_step r f false todo s b (Found g e n run o) left t acts h k = cc
  settle_step r f false todo s b (Missing g e n ended) left t acts h k = cc
  settle_step r f false todo s b (Made g o) left t acts h k = cc
  settle_step r f false todo s b (Refused g) left t acts h k = cc
  settle_step r f false todo s b (Stored g) left t acts h k = cc
  settle_step r f false todo s b (Stopped g) left t acts h k =
      let z = only_some (is_for w f b g) (held_at (look_on s.batch todo) (s.hand ++ left) s) t h in
      subst (λ (v : Stand). Ans (on_bucket b (Stopped g) left) v.stage v.batch v.rounds acts) z.1
      (move_home f b g (λ u. Stopped u) left acts (look_on s.batch todo) s.batch s.rounds (is_for_split f b g z.0) (stopped_at f todo s.batch s.rounds false left acts r k))
  settle_step r f false todo s b (Closed g app' run freed ended) left t acts h k = cc
  settle_step r f false todo s b (Idle g app') left t acts h k = cc
  settle_step r f false todo s b (Victim g run) left t acts h k = cc
  settle_step r f false todo s b (AllInUse g count) left t acts h k = cc
  settle_step r f false todo s b (Swept round e n count) left t acts h k = cc
  settle_step r f false todo s b (Drained count) left t acts h k = cc

  close_step : 1 ≤ w.layout.rows → (f : ℕ) (todo : List ℕ) (s : Stand) (b : ℕ) (x : BucketNote) (left : List Gone) (t : Stand) (acts : List Act)
      → close w f todo s b x left ≡ Some t → Knows (closing (f ∷ todo)) s.batch s.rounds acts
      → CanAct (on_bucket b x left) acts × Knows t.stage t.batch t.rounds (on_bucket b x left ∷ acts)
  close_step r f todo s b (Found g e n run o) left t acts h k = cc
  close_step r f todo s b (Missing g e n ended) left t acts h k = cc
  close_step r f todo s b (Made g o) left t acts h k = cc
  close_step r f todo s b (Refused g) left t acts h k = cc
  close_step r f todo s b (Stored g) left t acts h k = cc
  close_step r f todo s b (Stopped g) left t acts h k = cc
  close_step r f todo s b (Closed g app' run freed ended) left t acts h k =
      let z = only_some (is_for w f b g && same_app app' (verdict_for w f)) (held_at (free_on freed todo) (s.hand ++ left) s) t h in
      subst (λ (v : Stand). Ans (on_bucket b (Closed g app' run freed ended) left) v.stage v.batch v.rounds acts) z.1
      (move_home f b g (λ u. Closed u app' run freed ended) left acts (free_on freed todo) s.batch s.rounds
      (is_for_split f b g (both (is_for w f b g) (same_app app' (verdict_for w f)) z.0).0)
      (closed_next f todo s.batch s.rounds app' run freed ended left acts (freed == 0) r k))
  close_step r f todo s b (Idle g app') left t acts h k =
      let z = only_some (is_for w f b g && same_app app' app.None) (held_at (close_on todo) (s.hand ++ left) s) t h in
      subst (λ (v : Stand). Ans (on_bucket b (Idle g app') left) v.stage v.batch v.rounds acts) z.1
      (move_home f b g (λ u. Idle u app') left acts (close_on todo) s.batch s.rounds (is_for_split f b g (both (is_for w f b g) (same_app app' app.None) z.0).0)
      (idle_at f todo s.batch s.rounds app' left acts r k))
  close_step r f todo s b (Victim g run) left t acts h k = cc
  close_step r f todo s b (AllInUse g count) left t acts h k = cc
  close_step r f todo s b (Swept round e n count) left t acts h k = cc
  close_step r f todo s b (Drained count) left t acts h k = cc

  take_step : 1 ≤ w.layout.rows → (f : ℕ) (todo : List ℕ) (s : Stand) (x : PoolNote) (i : ℕ) (t : Stand) (acts : List Act) → take w f todo s x ≡ Some t
      → Knows (missed f todo) s.batch s.rounds acts → CanAct (on_pool x i) acts × Knows t.stage t.batch t.rounds (on_pool x i ∷ acts)
  take_step r f todo s (Took g) i t acts h k =
      let z = only_some (g == f) (at (granted f todo) s) t h in
      subst (λ (v : Stand). Ans (on_pool (Took g) i) v.stage v.batch v.rounds acts) z.1
      (tt, record { settled = k.settled; opened = k.opened; done = k.done; low = k.low; looks = (omega arith, k.looks); rises = k.rises; in_order = k.in_order; in_batch = k.in_batch; mine = k.mine })
  take_step r f todo s (Full g n limit) i t acts h k =
      let z = only_some (g == f) (at (takes_on s.hand f todo) s) t h in
      subst (λ (v : Stand). Ans (on_pool (Full g n limit) i) v.stage v.batch v.rounds acts) z.1
      (subst (λ (u : ℕ). Ans (on_pool (Full u n limit) i) (takes_on s.hand f todo) s.batch s.rounds acts) (sym (same_number g f z.0)) (tt, full_at s.hand f todo s.batch s.rounds n limit i acts k))
  take_step r f todo s (Put run) i t acts h k = cc
  take_step r f todo s (Turn run g) i t acts h k = cc
  take_step r f todo s (Mode e) i t acts h k = cc
  take_step r f todo s (Over round done) i t acts h k = cc

  turn_step : 1 ≤ w.layout.rows → (f : ℕ) (todo : List ℕ) (s : Stand) (x : PoolNote) (i : ℕ) (t : Stand) (acts : List Act) → turn w f todo s x ≡ Some t
      → Knows (turning f todo) s.batch s.rounds acts → CanAct (on_pool x i) acts × Knows t.stage t.batch t.rounds (on_pool x i ∷ acts)
  turn_step r f todo s (Took g) i t acts h k = cc
  turn_step r f todo s (Full g n limit) i t acts h k = cc
  turn_step r f todo s (Put run) i t acts h k = cc
  turn_step r f todo s (Turn run g) i t acts h k =
      let z = only_some ((g == f) && front_is run s.hand) (held_at (granted f todo) (behind s.hand) s) t h in
      subst (λ (v : Stand). Ans (on_pool (Turn run g) i) v.stage v.batch v.rounds acts) z.1
      (tt, record { settled = k.settled; opened = k.opened; done = k.done; low = k.low; looks = (omega arith, k.looks); rises = k.rises; in_order = k.in_order; in_batch = k.in_batch; mine = k.mine })
  turn_step r f todo s (Mode e) i t acts h k = cc
  turn_step r f todo s (Over round done) i t acts h k = cc

  begin_step : 1 ≤ w.layout.rows → (s : Stand) (x : PoolNote) (i : ℕ) (t : Stand) (acts : List Act) → begin w s x i ≡ Some t → Knows between s.batch s.rounds acts
      → CanAct (on_pool x i) acts × Knows t.stage t.batch t.rounds (on_pool x i ∷ acts)
  begin_step r s (Took g) i t acts h k = cc
  begin_step r s (Full g n limit) i t acts h k = cc
  begin_step r s (Put run) i t acts h k = cc
  begin_step r s (Turn run g) i t acts h k = cc
  begin_step r s (Mode e) i t acts h k = (tt, next_knows e i s.rounds s.hand s.hands s.batch t acts h k)
  begin_step r s (Over round done) i t acts h k = cc

  give_step : 1 ≤ w.layout.rows → (f : ℕ) (todo : List ℕ) (s : Stand) (x : SegNote) (t : Stand) (acts : List Act) → give w f todo s x ≡ Some t
      → Knows (turning f todo) s.batch s.rounds acts → CanAct (on_segments x) acts × Knows t.stage t.batch t.rounds (on_segments x ∷ acts)
  give_step r f todo s (seg.Took g) t acts h k = cc
  give_step r f todo s (seg.Full g n limit) t acts h k = cc
  give_step r f todo s (seg.Gave n) t acts h k =
      let z = only_some (nat_le 1 n && front_holds n s.hand) (held_at (turning f todo) (emptied s.hand) s) t h in
      subst (λ (v : Stand). Ans (on_segments (seg.Gave n)) v.stage v.batch v.rounds acts) z.1
      (tt, record { settled = k.settled; opened = k.opened; done = k.done; low = k.low; looks = (omega arith, k.looks); rises = k.rises; in_order = k.in_order; in_batch = k.in_batch; mine = k.mine })

  ask_knows : (had : Bool) (f : ℕ) (todo : List ℕ) (s : Stand) (x : SegNote) (acts : List Act) → Knows (asking f todo) s.batch s.rounds acts
      → Knows (settling f had todo) s.batch s.rounds (on_segments x ∷ acts)
  ask_knows had f todo s x acts k =
      record {
        settled = record { here = k.settled.here; elsewhere = k.settled.elsewhere };
        opened = k.opened;
        done = k.done;
        low = k.low;
        looks =
            (omega arith, k.looks);
        rises = k.rises;
        in_order = k.in_order;
        in_batch = k.in_batch;
        mine = k.mine;
      }

  ask_step : 1 ≤ w.layout.rows → (f : ℕ) (todo : List ℕ) (s : Stand) (x : SegNote) (t : Stand) (acts : List Act) → ask w f todo s x ≡ Some t
      → Knows (asking f todo) s.batch s.rounds acts → CanAct (on_segments x) acts × Knows t.stage t.batch t.rounds (on_segments x ∷ acts)
  ask_step r f todo s (seg.Took g) t acts h k =
      let z = only_some (g == f) (at (settling f true todo) s) t h in
      subst (λ (v : Stand). Ans (on_segments (seg.Took g)) v.stage v.batch v.rounds acts) z.1 (tt, ask_knows true f todo s (seg.Took g) acts k)
  ask_step r f todo s (seg.Full g n limit) t acts h k =
      let z = only_some (g == f) (at (settling f false todo) s) t h in
      subst (λ (v : Stand). Ans (on_segments (seg.Full g n limit)) v.stage v.batch v.rounds acts) z.1 (tt, ask_knows false f todo s (seg.Full g n limit) acts k)
  ask_step r f todo s (seg.Gave n) t acts h k = cc

  free_step : 1 ≤ w.layout.rows → (m : ℕ) (todo : List ℕ) (s : Stand) (x : SegNote) (t : Stand) (acts : List Act) → free w m todo s x ≡ Some t
      → Knows (freeing m todo) s.batch s.rounds acts → CanAct (on_segments x) acts × Knows t.stage t.batch t.rounds (on_segments x ∷ acts)
  free_step r m todo s (seg.Took g) t acts h k = cc
  free_step r m todo s (seg.Full g n limit) t acts h k = cc
  free_step r m todo s (seg.Gave n) t acts h k =
      let z = only_some (n == m) (at (close_on todo) s) t h in
      subst (λ (v : Stand). Ans (on_segments (seg.Gave n)) v.stage v.batch v.rounds acts) z.1
      (tt, go_close s.batch todo s.rounds (on_segments (seg.Gave n) ∷ acts) k.low k.settled k.opened k.done (omega arith, k.looks) k.rises k.in_order k.mine)

  act_step : 1 ≤ w.layout.rows → (p : Stage) (s t : Stand) (act : Act) (acts : List Act) → step_at w 0 p s act ≡ Some t → Knows p s.batch s.rounds acts → Ans act t.stage t.batch t.rounds acts
  act_step r between s t (on_pool n i) acts h k = begin_step r s n i t acts h k
  act_step r between s t (on_segments n) acts h k = cc
  act_step r between s t (on_bucket b n left) acts h k = cc
  act_step r (looking []) s t (on_pool n i) acts h k = cc
  act_step r (looking []) s t (on_segments n) acts h k = cc
  act_step r (looking []) s t (on_bucket b n left) acts h k = cc
  act_step r (looking (f ∷ todo)) s t (on_pool n i) acts h k = cc
  act_step r (looking (f ∷ todo)) s t (on_segments n) acts h k = cc
  act_step r (looking (f ∷ todo)) s t (on_bucket b n left) acts h k = look_step r f todo s b n left t acts h k
  act_step r (missed f todo) s t (on_pool n i) acts h k = take_step r f todo s n i t acts h k
  act_step r (missed f todo) s t (on_segments n) acts h k = cc
  act_step r (missed f todo) s t (on_bucket b n left) acts h k = cc
  act_step r (evicting f j todo) s t (on_pool n i) acts h k = cc
  act_step r (evicting f j todo) s t (on_segments n) acts h k = cc
  act_step r (evicting f j todo) s t (on_bucket b n left) acts h k = evict_step r f j todo s b n left t acts h k
  act_step r (turning f todo) s t (on_pool n i) acts h k = turn_step r f todo s n i t acts h k
  act_step r (turning f todo) s t (on_segments n) acts h k = give_step r f todo s n t acts h k
  act_step r (turning f todo) s t (on_bucket b n left) acts h k = cc
  act_step r (granted f todo) s t (on_pool n i) acts h k = cc
  act_step r (granted f todo) s t (on_segments n) acts h k = cc
  act_step r (granted f todo) s t (on_bucket b n left) acts h k = make_step r f todo s b n left t acts h k
  act_step r (denied f todo) s t (on_pool n i) acts h k = cc
  act_step r (denied f todo) s t (on_segments n) acts h k = cc
  act_step r (denied f todo) s t (on_bucket b n left) acts h k = refuse_step r f todo s b n left t acts h k
  act_step r (asking f todo) s t (on_pool n i) acts h k = cc
  act_step r (asking f todo) s t (on_segments n) acts h k = ask_step r f todo s n t acts h k
  act_step r (asking f todo) s t (on_bucket b n left) acts h k = cc
  act_step r (settling f had todo) s t (on_pool n i) acts h k = cc
  act_step r (settling f had todo) s t (on_segments n) acts h k = cc
  act_step r (settling f had todo) s t (on_bucket b n left) acts h k = settle_step r f had todo s b n left t acts h k
  act_step r (closing []) s t (on_pool n i) acts h k = cc
  act_step r (closing []) s t (on_segments n) acts h k = cc
  act_step r (closing []) s t (on_bucket b n left) acts h k = cc
  act_step r (closing (f ∷ todo)) s t (on_pool n i) acts h k = cc
  act_step r (closing (f ∷ todo)) s t (on_segments n) acts h k = cc
  act_step r (closing (f ∷ todo)) s t (on_bucket b n left) acts h k = close_step r f todo s b n left t acts h k
  act_step r (freeing m todo) s t (on_pool n i) acts h k = cc
  act_step r (freeing m todo) s t (on_segments n) acts h k = free_step r m todo s n t acts h k
  act_step r (freeing m todo) s t (on_bucket b n left) acts h k = cc

  more : 1 ≤ w.layout.rows → (o : Option Stand) (t : Stand) (act : Act) (acts : List Act) → moved w act o ≡ Some t → ((s : Stand) → o ≡ Some s → Knows s.stage s.batch s.rounds acts)
      → Ans act t.stage t.batch t.rounds acts
  more r None t act acts h k = cc
  more r (Some s) t act acts h k = act_step r s.stage s t act acts (one_step w 0 s t act h) (k s refl)

  -- what a worker knows wherever it stands
  pub knows : IsSetup w → (acts : List Act) (t : Stand) → stand_after w (fresh (work_of w role)) acts ≡ Some t → Knows t.stage t.batch t.rounds acts
  knows d [] t h = let e : fresh (work_of w role) ≡ t = cc in subst (λ (x : Stand). Knows x.stage x.batch x.rounds []) e
      (record { settled = λ b. refl; opened = tt; done = λ g i. inl i; low = 0; looks = tt; rises = work_rises w role d; in_order = tt; in_batch = tt; mine = work_mine w role d })
  knows d (act ∷ acts) t h = (more d.layout.rows.0 (stand_after w (fresh (work_of w role)) acts) t act acts h (λ s e. knows d acts s e)).1

  pub can_act : IsSetup w → (acts : List Act) (s t : Stand) (act : Act) → stand_after w (fresh (work_of w role)) acts ≡ Some s → after_act w s act ≡ Some t → CanAct act acts
  can_act d acts s t act e h = (act_step d.layout.rows.0 s.stage s t act acts (one_step w 0 s t act h) (knows d acts s e)).0
