-- A worker stops a stream only where the pool of nodes was full: right before, it was told so. An induction on its acts, with one table for each stage.
use Rattle.std.proofs.Common.{◌≡◌, ℕ, ◌==◌, ◌+◌, ◌<◌, Bool, true, false, cond, List, [], ◌∷◌, length, Option, Some, None, ⊎_elim, inl, inr, refl, sym, ◌∙◌, ap, subst}
use Rattle.bucket_laws.specs.Leaving.{Gone}
use Rattle.bucket_laws.specs.Places.{At}
use Rattle.bucket_rules.proofs.Words.{true_false}
use Rattle.bucket_rules.specs.Own.{is_needing}
use Rattle.run_laws.proofs.Acting.{at_through}
use Rattle.run_laws.proofs.Places.{from_entries, in_part}
use Rattle.run_laws.proofs.Using.{ended_some}
use Rattle.run_laws.proofs.Working.{one_step, only_some, step_at}
use Rattle.run_rules.specs.Acts.{Act, on_bucket, on_pool, on_segments, part, segment_acts}
use Rattle.run_rules.specs.Histories.{Histories}
use Rattle.run_rules.specs.Lawful.{AreScripted}
use Rattle.run_rules.specs.Setup.{Setup, roles, work_of}
use Rattle.run_rules.specs.Worker.{Stage, Stand, ask, asking, begin, between, close, close_on, closing, denied, evict, evicting, free, freeing, fresh, give, granted, look, look_on, looking, make, missed, moved, next_batch, refuse, settle, settle_on, settling, stand_after, take, takes_on, turn, turning}
use Rattle.suri_base.specs.History.{entry}
use Rattle.suri_base.specs.declared.entry.BucketNote.{BucketNote}
use Rattle.suri_base.specs.declared.entry.BucketNote.TheVariants.{AllInUse, Closed, Drained, Found, Idle, Made, Missing, Refused, Stopped, Stored, Swept, Victim}
use Rattle.suri_base.specs.declared.entry.Entry.{Entry}
use Rattle.suri_base.specs.declared.entry.PoolNote.{PoolNote}
use Rattle.suri_base.specs.declared.entry.PoolNote.TheVariants.{Full, Mode, Over, Put, Took, Turn}
use Rattle.suri_base.specs.declared.entry.SegNote.{SegNote}
use Rattle.suri_base.specs.declared.entry.SegNote.TheVariants as seg

-- a stream is about to be stopped
abbrev is_stopping : Stage → Bool
is_stopping (settling f false todo) = true
is_stopping _ = false

-- the act stops a stream
abbrev stops : Act → Bool
stops (on_bucket b (Stopped f) left) = true
stops _ = false

-- the act was told that no node is left
abbrev was_short : Act → Bool
was_short (on_segments (seg.Full f out limit)) = true
was_short _ = false

-- what a step tells of both
abbrev Fits : Stage → Stand → Act → Type 0
Fits p t act = (stops act ≡ true → is_stopping p ≡ true) × (is_stopping t.stage ≡ true → was_short act ≡ true)

look_calm : (batch todo : List ℕ) → is_stopping (look_on batch todo) ≡ false
look_calm batch [] = refl
look_calm batch (f ∷ todo) = refl

close_calm : (todo : List ℕ) → is_stopping (close_on todo) ≡ false
close_calm [] = refl
close_calm (f ∷ todo) = refl

settle_calm : (b : Bool) (f : ℕ) (batch todo : List ℕ) → is_stopping (settle_on b f batch todo) ≡ false
settle_calm true f batch todo = refl
settle_calm false f batch todo = look_calm batch todo

free_calm : (b : Bool) (n : ℕ) (todo : List ℕ) → is_stopping (cond b (close_on todo) (freeing n todo)) ≡ false
free_calm true n todo = close_calm todo
free_calm false n todo = refl

takes_calm : (hand : List Gone) (f : ℕ) (todo : List ℕ) → is_stopping (takes_on hand f todo) ≡ false
takes_calm [] f todo = refl
takes_calm (g ∷ hand) f todo = refl

more_calm : (b : Bool) (f k : ℕ) (todo : List ℕ) → is_stopping (cond b (denied f todo) (evicting f k todo)) ≡ false
more_calm true f k todo = refl
more_calm false f k todo = refl

batch_calm : (e : Bool) (n : ℕ) (rounds : List (List (List ℕ))) (hand : List Gone) (hands : List (List Gone)) (t : Stand) → next_batch e n rounds hand hands ≡ Some t
    → is_stopping t.stage ≡ false
batch_calm e n [] hand hands t h = cc
batch_calm e n ([] ∷ later) hand hands t h = batch_calm e n later [] (hand ∷ hands) t h
batch_calm e n ((b ∷ bs) ∷ later) hand hands t h =
    let k : record { stage = look_on b b; batch = b; emergency = e; seen = n; rounds = bs ∷ later; hand = hand; hands = hands } ≡ t = cc in
    sym (ap (λ (u : Stand). is_stopping u.stage) k) ∙ look_calm b b

-- a step that stops nothing, to a stage at which nothing is about to be stopped
quiet_step : (p : Stage) (s t : Stand) (act : Act) → stops act ≡ false → s ≡ t → is_stopping s.stage ≡ false → Fits p t act
quiet_step p s t act h e c = (λ x. absurd (true_false x h), λ x. absurd (true_false x (sym (ap (λ (u : Stand). is_stopping u.stage) e) ∙ c)))

module _ (w : Setup) where
  look_fits : (f : ℕ) (todo : List ℕ) (s : Stand) (b : ℕ) (n : BucketNote) (left : List Gone) (t : Stand) → look w f todo s b n left ≡ Some t → Fits (looking (f ∷ todo)) t (on_bucket b n left)
  look_fits f todo s b (Found g e n run o) left t h = quiet_step (looking (f ∷ todo)) _ t (on_bucket b (Found g e n run o) left) refl (only_some _ _ t h).1 (settle_calm (is_needing o) f s.batch todo)
  look_fits f todo s b (Missing g e n ended) left t h = quiet_step (looking (f ∷ todo)) _ t (on_bucket b (Missing g e n ended) left) refl (only_some _ _ t h).1 (refl)
  look_fits f todo s b (Made g o) left t h = cc
  look_fits f todo s b (Refused g) left t h = cc
  look_fits f todo s b (Stored g) left t h = cc
  look_fits f todo s b (Stopped g) left t h = cc
  look_fits f todo s b (Closed g verdict run freed ended) left t h = cc
  look_fits f todo s b (Idle g verdict) left t h = cc
  look_fits f todo s b (Victim g run) left t h = cc
  look_fits f todo s b (AllInUse g count) left t h = cc
  look_fits f todo s b (Swept round e n count) left t h = cc
  look_fits f todo s b (Drained count) left t h = cc

  evict_fits : (f i : ℕ) (todo : List ℕ) (s : Stand) (b : ℕ) (n : BucketNote) (left : List Gone) (t : Stand) → evict w f i todo s b n left ≡ Some t → Fits (evicting f i todo) t (on_bucket b n left)
  evict_fits f i todo s b (Found g e n run o) left t h = cc
  evict_fits f i todo s b (Missing g e n ended) left t h = cc
  evict_fits f i todo s b (Made g o) left t h = cc
  evict_fits f i todo s b (Refused g) left t h = cc
  evict_fits f i todo s b (Stored g) left t h = cc
  evict_fits f i todo s b (Stopped g) left t h = cc
  evict_fits f i todo s b (Closed g verdict run freed ended) left t h = cc
  evict_fits f i todo s b (Idle g verdict) left t h = cc
  evict_fits f i todo s b (Victim g run) left t h = quiet_step (evicting f i todo) _ t (on_bucket b (Victim g run) left) refl (only_some _ _ t h).1 (refl)
  evict_fits f i todo s b (AllInUse g count) left t h = quiet_step (evicting f i todo) _ t (on_bucket b (AllInUse g count) left) refl (only_some _ _ t h).1 (more_calm (i + 1 == w.layout.rows) f (i + 1) todo)
  evict_fits f i todo s b (Swept round e n count) left t h = cc
  evict_fits f i todo s b (Drained count) left t h = cc

  make_fits : (f : ℕ) (todo : List ℕ) (s : Stand) (b : ℕ) (n : BucketNote) (left : List Gone) (t : Stand) → make w f todo s b n left ≡ Some t → Fits (granted f todo) t (on_bucket b n left)
  make_fits f todo s b (Found g e n run o) left t h = cc
  make_fits f todo s b (Missing g e n ended) left t h = cc
  make_fits f todo s b (Made g o) left t h = quiet_step (granted f todo) _ t (on_bucket b (Made g o) left) refl (only_some _ _ t h).1 (settle_calm (is_needing o) f s.batch todo)
  make_fits f todo s b (Refused g) left t h = cc
  make_fits f todo s b (Stored g) left t h = cc
  make_fits f todo s b (Stopped g) left t h = cc
  make_fits f todo s b (Closed g verdict run freed ended) left t h = cc
  make_fits f todo s b (Idle g verdict) left t h = cc
  make_fits f todo s b (Victim g run) left t h = cc
  make_fits f todo s b (AllInUse g count) left t h = cc
  make_fits f todo s b (Swept round e n count) left t h = cc
  make_fits f todo s b (Drained count) left t h = cc

  refuse_fits : (f : ℕ) (todo : List ℕ) (s : Stand) (b : ℕ) (n : BucketNote) (left : List Gone) (t : Stand) → refuse w f todo s b n left ≡ Some t → Fits (denied f todo) t (on_bucket b n left)
  refuse_fits f todo s b (Found g e n run o) left t h = cc
  refuse_fits f todo s b (Missing g e n ended) left t h = cc
  refuse_fits f todo s b (Made g o) left t h = cc
  refuse_fits f todo s b (Refused g) left t h = quiet_step (denied f todo) _ t (on_bucket b (Refused g) left) refl (only_some _ _ t h).1 (look_calm s.batch todo)
  refuse_fits f todo s b (Stored g) left t h = cc
  refuse_fits f todo s b (Stopped g) left t h = cc
  refuse_fits f todo s b (Closed g verdict run freed ended) left t h = cc
  refuse_fits f todo s b (Idle g verdict) left t h = cc
  refuse_fits f todo s b (Victim g run) left t h = cc
  refuse_fits f todo s b (AllInUse g count) left t h = cc
  refuse_fits f todo s b (Swept round e n count) left t h = cc
  refuse_fits f todo s b (Drained count) left t h = cc

  settle_fits : (f : ℕ) (had : Bool) (todo : List ℕ) (s : Stand) (b : ℕ) (n : BucketNote) (left : List Gone) (t : Stand) → settle w f had todo s b n left ≡ Some t → Fits (settling f had todo) t (on_bucket b n left)
  settle_fits f true todo s b (Found g e n run o) left t h = cc
  settle_fits f true todo s b (Missing g e n ended) left t h = cc
  settle_fits f true todo s b (Made g o) left t h = cc
  settle_fits f true todo s b (Refused g) left t h = cc
  settle_fits f true todo s b (Stored g) left t h = quiet_step (settling f true todo) _ t (on_bucket b (Stored g) left) refl (only_some _ _ t h).1 (look_calm s.batch todo)
  settle_fits f true todo s b (Stopped g) left t h = cc
  settle_fits f true todo s b (Closed g verdict run freed ended) left t h = cc
  settle_fits f true todo s b (Idle g verdict) left t h = cc
  settle_fits f true todo s b (Victim g run) left t h = cc
  settle_fits f true todo s b (AllInUse g count) left t h = cc
  settle_fits f true todo s b (Swept round e n count) left t h = cc
  settle_fits f true todo s b (Drained count) left t h = cc
  settle_fits f false todo s b (Found g e n run o) left t h = cc
  settle_fits f false todo s b (Missing g e n ended) left t h = cc
  settle_fits f false todo s b (Made g o) left t h = cc
  settle_fits f false todo s b (Refused g) left t h = cc
  settle_fits f false todo s b (Stored g) left t h = cc
  settle_fits f false todo s b (Stopped g) left t h = (λ x. refl, λ x. absurd (true_false x (sym (ap (λ (u : Stand). is_stopping u.stage) (only_some _ _ t h).1) ∙ look_calm s.batch todo)))
  settle_fits f false todo s b (Closed g verdict run freed ended) left t h = cc
  settle_fits f false todo s b (Idle g verdict) left t h = cc
  settle_fits f false todo s b (Victim g run) left t h = cc
  settle_fits f false todo s b (AllInUse g count) left t h = cc
  settle_fits f false todo s b (Swept round e n count) left t h = cc
  settle_fits f false todo s b (Drained count) left t h = cc

  close_fits : (f : ℕ) (todo : List ℕ) (s : Stand) (b : ℕ) (n : BucketNote) (left : List Gone) (t : Stand) → close w f todo s b n left ≡ Some t → Fits (closing (f ∷ todo)) t (on_bucket b n left)
  close_fits f todo s b (Found g e n run o) left t h = cc
  close_fits f todo s b (Missing g e n ended) left t h = cc
  close_fits f todo s b (Made g o) left t h = cc
  close_fits f todo s b (Refused g) left t h = cc
  close_fits f todo s b (Stored g) left t h = cc
  close_fits f todo s b (Stopped g) left t h = cc
  close_fits f todo s b (Closed g verdict run freed ended) left t h = quiet_step (closing (f ∷ todo)) _ t (on_bucket b (Closed g verdict run freed ended) left) refl (only_some _ _ t h).1 (free_calm (freed == 0) freed todo)
  close_fits f todo s b (Idle g verdict) left t h = quiet_step (closing (f ∷ todo)) _ t (on_bucket b (Idle g verdict) left) refl (only_some _ _ t h).1 (close_calm todo)
  close_fits f todo s b (Victim g run) left t h = cc
  close_fits f todo s b (AllInUse g count) left t h = cc
  close_fits f todo s b (Swept round e n count) left t h = cc
  close_fits f todo s b (Drained count) left t h = cc

  take_fits : (f : ℕ) (todo : List ℕ) (s : Stand) (n : PoolNote) (i : ℕ) (t : Stand) → take w f todo s n ≡ Some t → Fits (missed f todo) t (on_pool n i)
  take_fits f todo s (Took g) i t h = quiet_step (missed f todo) _ t (on_pool (Took g) i) refl (only_some _ _ t h).1 (refl)
  take_fits f todo s (Full g n limit) i t h = quiet_step (missed f todo) _ t (on_pool (Full g n limit) i) refl (only_some _ _ t h).1 (takes_calm s.hand f todo)
  take_fits f todo s (Put run) i t h = cc
  take_fits f todo s (Turn run g) i t h = cc
  take_fits f todo s (Mode e) i t h = cc
  take_fits f todo s (Over round over) i t h = cc

  turn_fits : (f : ℕ) (todo : List ℕ) (s : Stand) (n : PoolNote) (i : ℕ) (t : Stand) → turn w f todo s n ≡ Some t → Fits (turning f todo) t (on_pool n i)
  turn_fits f todo s (Took g) i t h = cc
  turn_fits f todo s (Full g n limit) i t h = cc
  turn_fits f todo s (Put run) i t h = cc
  turn_fits f todo s (Turn run g) i t h = quiet_step (turning f todo) _ t (on_pool (Turn run g) i) refl (only_some _ _ t h).1 (refl)
  turn_fits f todo s (Mode e) i t h = cc
  turn_fits f todo s (Over round over) i t h = cc

  begin_fits : (s : Stand) (n : PoolNote) (i : ℕ) (t : Stand) → begin w s n i ≡ Some t → Fits between t (on_pool n i)
  begin_fits s (Took g) i t h = cc
  begin_fits s (Full g n limit) i t h = cc
  begin_fits s (Put run) i t h = cc
  begin_fits s (Turn run g) i t h = cc
  begin_fits s (Mode e) i t h = (λ x. cc, λ x. absurd (true_false x (batch_calm e i s.rounds s.hand s.hands t h)))
  begin_fits s (Over round over) i t h = cc

  give_fits : (f : ℕ) (todo : List ℕ) (s : Stand) (n : SegNote) (t : Stand) → give w f todo s n ≡ Some t → Fits (turning f todo) t (on_segments n)
  give_fits f todo s (seg.Took g) t h = cc
  give_fits f todo s (seg.Full g n limit) t h = cc
  give_fits f todo s (seg.Gave n) t h = quiet_step (turning f todo) _ t (on_segments (seg.Gave n)) refl (only_some _ _ t h).1 (refl)

  ask_fits : (f : ℕ) (todo : List ℕ) (s : Stand) (n : SegNote) (t : Stand) → ask w f todo s n ≡ Some t → Fits (asking f todo) t (on_segments n)
  ask_fits f todo s (seg.Took g) t h = quiet_step (asking f todo) _ t (on_segments (seg.Took g)) refl (only_some _ _ t h).1 (refl)
  ask_fits f todo s (seg.Full g n limit) t h = (λ x. cc, λ x. refl)
  ask_fits f todo s (seg.Gave n) t h = cc

  free_fits : (freed : ℕ) (todo : List ℕ) (s : Stand) (n : SegNote) (t : Stand) → free w freed todo s n ≡ Some t → Fits (freeing freed todo) t (on_segments n)
  free_fits freed todo s (seg.Took g) t h = cc
  free_fits freed todo s (seg.Full g n limit) t h = cc
  free_fits freed todo s (seg.Gave n) t h = quiet_step (freeing freed todo) _ t (on_segments (seg.Gave n)) refl (only_some _ _ t h).1 (close_calm todo)

  act_fits : (p : Stage) (s t : Stand) (act : Act) → step_at w 0 p s act ≡ Some t → Fits p t act
  act_fits (between) s t (on_pool n i) h = begin_fits s n i t h
  act_fits (between) s t (on_segments n) h = cc
  act_fits (between) s t (on_bucket b n left) h = cc
  act_fits (looking []) s t (on_pool n i) h = cc
  act_fits (looking []) s t (on_segments n) h = cc
  act_fits (looking []) s t (on_bucket b n left) h = cc
  act_fits (looking (f ∷ todo)) s t (on_pool n i) h = cc
  act_fits (looking (f ∷ todo)) s t (on_segments n) h = cc
  act_fits (looking (f ∷ todo)) s t (on_bucket b n left) h = look_fits f todo s b n left t h
  act_fits (missed f todo) s t (on_pool n i) h = take_fits f todo s n i t h
  act_fits (missed f todo) s t (on_segments n) h = cc
  act_fits (missed f todo) s t (on_bucket b n left) h = cc
  act_fits (evicting f j todo) s t (on_pool n i) h = cc
  act_fits (evicting f j todo) s t (on_segments n) h = cc
  act_fits (evicting f j todo) s t (on_bucket b n left) h = evict_fits f j todo s b n left t h
  act_fits (turning f todo) s t (on_pool n i) h = turn_fits f todo s n i t h
  act_fits (turning f todo) s t (on_segments n) h = give_fits f todo s n t h
  act_fits (turning f todo) s t (on_bucket b n left) h = cc
  act_fits (granted f todo) s t (on_pool n i) h = cc
  act_fits (granted f todo) s t (on_segments n) h = cc
  act_fits (granted f todo) s t (on_bucket b n left) h = make_fits f todo s b n left t h
  act_fits (denied f todo) s t (on_pool n i) h = cc
  act_fits (denied f todo) s t (on_segments n) h = cc
  act_fits (denied f todo) s t (on_bucket b n left) h = refuse_fits f todo s b n left t h
  act_fits (asking f todo) s t (on_pool n i) h = cc
  act_fits (asking f todo) s t (on_segments n) h = ask_fits f todo s n t h
  act_fits (asking f todo) s t (on_bucket b n left) h = cc
  act_fits (settling f had todo) s t (on_pool n i) h = cc
  act_fits (settling f had todo) s t (on_segments n) h = cc
  act_fits (settling f had todo) s t (on_bucket b n left) h = settle_fits f had todo s b n left t h
  act_fits (closing []) s t (on_pool n i) h = cc
  act_fits (closing []) s t (on_segments n) h = cc
  act_fits (closing []) s t (on_bucket b n left) h = cc
  act_fits (closing (f ∷ todo)) s t (on_pool n i) h = cc
  act_fits (closing (f ∷ todo)) s t (on_segments n) h = cc
  act_fits (closing (f ∷ todo)) s t (on_bucket b n left) h = close_fits f todo s b n left t h
  act_fits (freeing freed todo) s t (on_pool n i) h = cc
  act_fits (freeing freed todo) s t (on_segments n) h = free_fits freed todo s n t h
  act_fits (freeing freed todo) s t (on_bucket b n left) h = cc

  -- the newest act was told that no node is left
  abbrev IsShortNow : List Act → Type 0
  IsShortNow [] = ⊥
  IsShortNow (a ∷ before) = was_short a ≡ true

  abbrev AllStopped : List Act → Type 0
  AllStopped [] = Unit {0}
  AllStopped (a ∷ before) = (stops a ≡ true → IsShortNow before) × AllStopped before

  stopped_more : (o : Option Stand) (t : Stand) (act : Act) (acts : List Act) → moved w act o ≡ Some t
      → ((s : Stand) → o ≡ Some s → AllStopped acts × (is_stopping s.stage ≡ true → IsShortNow acts))
      → AllStopped (act ∷ acts) × (is_stopping t.stage ≡ true → IsShortNow (act ∷ acts))
  stopped_more None t act acts h k = cc
  stopped_more (Some s) t act acts h k =
      let one = k s refl in
      let z = act_fits s.stage s t act (one_step w 0 s t act h) in
      ((λ x. one.1 (z.0 x), one.0), z.1)

  all_stopped : (start : Stand) (acts : List Act) (t : Stand) → is_stopping start.stage ≡ false → stand_after w start acts ≡ Some t
      → AllStopped acts × (is_stopping t.stage ≡ true → IsShortNow acts)
  all_stopped start [] t c h = let e : start ≡ t = cc in (tt, λ x. absurd (true_false x (sym (ap (λ (u : Stand). is_stopping u.stage) e) ∙ c)))
  all_stopped start (act ∷ acts) t c h = stopped_more (stand_after w start acts) t act acts h (λ x e. all_stopped start acts x c e)

  stopped_at : (a : Act) (before acts : List Act) → AllStopped acts → stops a ≡ true → At a before acts → IsShortNow before
  stopped_at a before [] k s h = absurd h
  stopped_at a before (x ∷ acts) k s h = ⊎_elim
      (λ z. subst IsShortNow z.1 (k.0 (ap stops z.0 ∙ s)))
      (λ z. stopped_at a before acts k.1 s z) h

-- the newest act as an answer of the pool of nodes
record WasShort (before : List Act) : Type 0 where
  pub frame : ℕ
  pub out : ℕ
  pub limit : ℕ
  pub earlier : List Act
  pub newest : before ≡ on_segments (seg.Full frame out limit) ∷ earlier

short_is : (a : Act) (before : List Act) → was_short a ≡ true → WasShort (a ∷ before)
short_is (on_pool n i) before h = cc
short_is (on_bucket b n left) before h = cc
short_is (on_segments (seg.Took f)) before h = cc
short_is (on_segments (seg.Full f out limit)) before h = record { frame = f; out = out; limit = limit; earlier = before; newest = refl }
short_is (on_segments (seg.Gave n)) before h = cc

from_segments : (r s : ℕ) (n : SegNote) (past : List (Entry Act)) (h : List (Entry SegNote)) → At (entry r s (on_segments n)) past (segment_acts h)
    → (before : List (Entry SegNote)) × At (entry r s n) before h
from_segments r s n past [] a = absurd a
from_segments r s n past (x ∷ h) a = ⊎_elim
    (λ z. (h, inl (same_entry x z.0, refl)))
    (λ z. let y = from_segments r s n past h z in (y.0, inr y.1)) a
  where
    same_entry : (x : Entry SegNote) → entry x.role x.step (on_segments x.note) ≡ entry r s (on_segments n) → x ≡ entry r s n
    same_entry x e =
        let role : x.role ≡ r = ap (λ (y : Entry Act). y.role) e in
        let step : x.step ≡ s = ap (λ (y : Entry Act). y.step) e in
        let act : on_segments x.note ≡ on_segments n = ap (λ (y : Entry Act). y.note) e in
        let note : x.note ≡ n = cc in
        ap (λ (y : ℕ). entry y x.step x.note) role ∙ (ap (λ (y : ℕ). entry r y x.note) step ∙ ap (λ (y : SegNote). entry r s y) note)

-- an entry of the pool of nodes that told a role so
pub record HadNone (t : Histories) (role : ℕ) : Type 0 where
  pub step : ℕ
  pub frame : ℕ
  pub out : ℕ
  pub limit : ℕ
  pub past : List (Entry SegNote)
  pub place : At (entry role step (seg.Full frame out limit)) past t.segments

module _ (w : Setup) (t : Histories) (l : AreScripted w t) where
  pub had_none : (role b f : ℕ) (left : List Gone) (before : List Act) → role < roles w → role < w.layout.workers → At (on_bucket b (Stopped f) left) before (l.acts role) → HadNone t role
  had_none role b f left before r h a =
      let e = ended_some (stand_after w (fresh (work_of w role)) (l.acts role)) (l.hands role) (l.work role h) in
      let all = (all_stopped w (fresh (work_of w role)) (l.acts role) e.0 refl e.1).0 in
      by before a (stopped_at w (on_bucket b (Stopped f) left) before (l.acts role) all refl a)
    where
      by : (before : List Act) → At (on_bucket b (Stopped f) left) before (l.acts role) → IsShortNow w before → HadNone t role
      by [] a k = absurd k
      by (x ∷ m) a k =
          let s = short_is x m k in
          let first : At (on_segments (seg.Full s.frame s.out s.limit)) s.earlier (x ∷ m) = subst (λ (y : List Act). At (on_segments (seg.Full s.frame s.out s.limit)) s.earlier y) (sym s.newest) (inl (refl, refl)) in
          let whole = at_through (on_segments (seg.Full s.frame s.out s.limit)) (on_bucket b (Stopped f) left) s.earlier (x ∷ m) (l.acts role) first a in
          let p = in_part role 1 (on_segments (seg.Full s.frame s.out s.limit)) s.earlier (l.acts role) whole refl in
          let q = subst (λ (k : List (Entry Act)). At (entry role (length s.earlier) (on_segments (seg.Full s.frame s.out s.limit))) (part role 1 s.earlier) k) (sym (l.own role r).segments) p in
          let u = from_entries role (entry role (length s.earlier) (on_segments (seg.Full s.frame s.out s.limit))) (part role 1 s.earlier) (segment_acts t.segments) q in
          let v = from_segments role (length s.earlier) (seg.Full s.frame s.out s.limit) u.0 t.segments u.1 in
          record { step = length s.earlier; frame = s.frame; out = s.out; limit = s.limit; past = v.0; place = v.1 }
