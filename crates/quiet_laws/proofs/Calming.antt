-- Where neither pool was ever full, no emergency is on, and the entries of every bucket are calm.
use Rattle.std.proofs.Common.{◌≡◌, ℕ, suc, ◌<◌, Bool, true, false, not, ◌&&◌, List, [], ◌∷◌, ◌++◌, length, ⊎_elim, inl, inr, refl, sym, ◌∙◌, ap, subst, arith, All}
use Rattle.std.specs.Prelude.{map}
use Rattle.std.specs.List.{concat}
use Rattle.std.proofs.lemmas.List.Elements.{All-cons, All-head, All-nil, All-tail}
use Rattle.bucket_laws.proofs.Steps.{legal_at}
use Rattle.bucket_laws.specs.Leaving.{rising}
use Rattle.bucket_laws.specs.Places.{At}
use Rattle.bucket_rules.proofs.Settling.{worker_within}
use Rattle.bucket_rules.proofs.Words.{true_false}
use Rattle.bucket_rules.proofs.Soundness.{sound}
use Rattle.flow_pool.specs.Counting.{is_on, is_on_after}
use Rattle.quiet_laws.specs.Calm.{IsCalm, is_calm}
use Rattle.quiet_laws.proofs.Stopping.{had_none}
use Rattle.run_laws.proofs.Acting.{done}
use Rattle.run_laws.proofs.Places.{legal_pool_at}
use Rattle.run_laws.proofs.Reading.{found_read, missing_read, swept_read}
use Rattle.run_laws.proofs.Refusing.{forced_for, refused_for}
use Rattle.run_laws.specs.Causes.{IsRead}
use Rattle.run_laws.specs.Setting.{IsSetup}
use Rattle.run_rules.specs.Histories.{Histories, bucket_at}
use Rattle.run_rules.specs.Lawful.{AreLegal, AreScripted, setting_for}
use Rattle.run_rules.specs.Quiet.{IsQuiet, is_full, is_short}
use Rattle.run_rules.specs.Runs.{refusals_in, refused, refused_by}
use Rattle.run_rules.specs.Setup.{Setup, fixed_at, roles}
use Rattle.suri_base.specs.History.{Begins, entry}
use Rattle.suri_base.specs.declared.entry.BucketNote.{BucketNote}
use Rattle.suri_base.specs.declared.entry.BucketNote.TheVariants.{AllInUse, Closed, Drained, Found, Idle, Made, Missing, Refused, Stopped, Stored, Swept, Victim}
use Rattle.suri_base.specs.declared.entry.Entry.{Entry}
use Rattle.suri_base.specs.declared.entry.PoolNote.{PoolNote}
use Rattle.suri_base.specs.declared.entry.PoolNote.TheVariants as pool
use Rattle.suri_base.specs.declared.entry.SegNote.{SegNote}
use Rattle.suri_base.specs.declared.entry.SegNote.TheVariants as seg

-- what holds of all entries holds of each, and of all before it
pub holds_at : {N : Type 0} (P : Entry N → Type 0) (e : Entry N) (past h : List (Entry N)) → All P h → At e past h → P e × All P past
holds_at P e past [] l a = absurd a
holds_at {N} P e past (x ∷ h) l a = ⊎_elim
    (λ z. (subst P z.0 (All-head P x h l), subst (λ (y : List (Entry N)). All P y) z.1 (All-tail P x h l)))
    (λ z. holds_at P e past h (All-tail P x h l) z) a

-- and what holds of each at its place holds of all
pub all_from : {N : Type 0} (P : Entry N → Type 0) (h : List (Entry N)) → ((e : Entry N) (past : List (Entry N)) → At e past h → P e) → All P h
all_from P [] k = All-nil P
all_from P (x ∷ h) k = All-cons P x h (k x h (inl (refl, refl))) (all_from P h (λ e past a. k e past (inr a)))

all_behind : {N : Type 0} (P : Entry N → Type 0) (since past : List (Entry N)) → All P (since ++ past) → All P past
all_behind P [] past l = l
all_behind P (x ∷ since) past l = all_behind P since past (All-tail P x (since ++ past) l)

-- no emergency begins

abbrev NeverFull : List (Entry PoolNote) → Type 0
NeverFull h = All (λ (e : Entry PoolNote). is_full e.note ≡ false) h

stays_off : (on : Bool) (n : PoolNote) → on ≡ false → is_full n ≡ false → is_on_after on n ≡ false
stays_off on (pool.Took f) h k = h
stays_off on (pool.Full f out limit) h k = cc
stays_off on (pool.Put run) h k = h
stays_off on (pool.Turn run f) h k = h
stays_off on (pool.Mode told) h k = h
stays_off on (pool.Over round ended) h k = ap (λ (x : Bool). x && not ended) h

never_on : (h : List (Entry PoolNote)) → NeverFull h → is_on h ≡ false
never_on [] l = refl
never_on (e ∷ past) l =
    stays_off (is_on past) e.note (never_on past (All-tail (λ (d : Entry PoolNote). is_full d.note ≡ false) e past l))
    (All-head (λ (d : Entry PoolNote). is_full d.note ≡ false) e past l)

pub always_off : (t : Histories) → IsQuiet t → (past : List (Entry PoolNote)) → Begins past t.pool → is_on past ≡ false
always_off t q past b = never_on past (all_behind (λ (e : Entry PoolNote). is_full e.note ≡ false) b.0 past (subst NeverFull b.1 q.pool))

off_before : (t : Histories) → IsQuiet t → (e : Entry PoolNote) (past : List (Entry PoolNote)) → At e past t.pool → is_on past ≡ false
off_before t q e past a = never_on past (holds_at (λ (d : Entry PoolNote). is_full d.note ≡ false) e past t.pool q.pool a).1

pub told_off : (w : Setup) (t : Histories) → AreLegal w t → IsQuiet t → (role step : ℕ) (told : Bool) (past : List (Entry PoolNote))
    → At (entry role step (pool.Mode told)) past t.pool → told ≡ false
told_off w t l q role step told past a =
    legal_pool_at (setting_for w) (entry role step (pool.Mode told)) past t.pool l.pool a ∙ off_before t q (entry role step (pool.Mode told)) past a

module _ (w : Setup) (t : Histories) (d : IsSetup w) (l : AreScripted w t) (q : IsQuiet t) where
  never_full : (role step f out limit : ℕ) (past : List (Entry PoolNote)) → At (entry role step (pool.Full f out limit)) past t.pool → ⊥
  never_full role step f out limit past a = true_false refl (holds_at (λ (e : Entry PoolNote). is_full e.note ≡ false) (entry role step (pool.Full f out limit)) past t.pool q.pool a).0

  -- a reading of the mode told that there is none
  normal : (role step : ℕ) (emergency : Bool) (seen : ℕ) → IsRead t role step emergency seen → not emergency ≡ true
  normal role step emergency seen r = ap not (sym r.on ∙ off_before t q (entry role r.read_step (pool.Mode emergency)) r.past r.read)

  calm_at : (b : ℕ) → b < length t.buckets → (role step : ℕ) (n : BucketNote) (past : List (Entry BucketNote))
      → At (entry role step n) past (bucket_at b t.buckets) → is_calm n ≡ true
  calm_at b h role step (Found f emergency seen run said) past a = normal role step emergency seen (found_read w d t l b h role step f emergency seen run said past a)
  calm_at b h role step (Missing f emergency seen ended) past a = normal role step emergency seen (missing_read w d t l b h role step f emergency seen ended past a)
  calm_at b h role step (Made f said) past a = refl
  calm_at b h role step (Refused f) past a = let r = refused_for w d t l b h role step f past a in absurd (never_full role r.full_step f w.layout.memcap w.layout.memcap r.past r.full)
  calm_at b h role step (Stored f) past a = refl
  calm_at b h role step (Stopped f) past a =
      let k = legal_at (fixed_at w b) (entry role step (Stopped f)) past (bucket_at b t.buckets) (l.legal.buckets b h) a in
      let own = ((sound (fixed_at w b) past k.1).owing role f k.0).own in
      let real = worker_within (fixed_at w b) role f d.layout.workers.0 own in
      let r : role < roles w = omega (arith, real) in
      let z = done w t l b h role step (Stopped f) past r a in
      let n = had_none w t l role b f z.left z.before r real z.act in
      absurd (true_false refl (holds_at (λ (e : Entry SegNote). is_short e.note ≡ false) (entry role n.step (seg.Full n.frame n.out n.limit)) n.past t.segments q.segments n.place).0)
  calm_at b h role step (Closed f app run freed ended) past a = refl
  calm_at b h role step (Idle f app) past a = refl
  calm_at b h role step (Victim f run) past a = let r = forced_for w d t l b h role step f run past a in absurd (never_full role r.full_step f w.layout.memcap w.layout.memcap r.past r.full)
  calm_at b h role step (AllInUse f count) past a = refl
  calm_at b h role step (Swept round emergency seen count) past a = normal role step emergency seen (swept_read w d t l b h role step round emergency seen count past a)
  calm_at b h role step (Drained count) past a = refl

  pub calm : (b : ℕ) → b < length t.buckets → IsCalm (bucket_at b t.buckets)
  calm b h = all_from (λ (e : Entry BucketNote). is_calm e.note ≡ true) (bucket_at b t.buckets) (λ e past a. calm_at b h e.role e.step e.note past a)

-- no frame is refused

calm_refuses : (n : BucketNote) (frames : List ℕ) → is_calm n ≡ true → refused_by n frames ≡ frames
calm_refuses (Found f emergency seen run said) frames h = refl
calm_refuses (Missing f emergency seen ended) frames h = refl
calm_refuses (Made f said) frames h = refl
calm_refuses (Refused f) frames h = cc
calm_refuses (Stored f) frames h = refl
calm_refuses (Stopped f) frames h = refl
calm_refuses (Closed f app run freed ended) frames h = refl
calm_refuses (Idle f app) frames h = refl
calm_refuses (Victim f run) frames h = refl
calm_refuses (AllInUse f count) frames h = refl
calm_refuses (Swept round emergency seen count) frames h = refl
calm_refuses (Drained count) frames h = refl

none_refused : (h : List (Entry BucketNote)) → IsCalm h → refused h ≡ []
none_refused [] c = refl
none_refused (e ∷ past) c =
    calm_refuses e.note (refused past) (All-head (λ (d : Entry BucketNote). is_calm d.note ≡ true) e past c)
    ∙ none_refused past (All-tail (λ (d : Entry BucketNote). is_calm d.note ≡ true) e past c)

no_frames : (hs : List (List (Entry BucketNote))) → ((b : ℕ) → b < length hs → refused (bucket_at b hs) ≡ []) → concat (map (λ h. refused h) hs) ≡ []
no_frames [] k = refl
no_frames (h ∷ hs) k =
    let first : refused h ≡ [] = k 0 (omega arith) in
    ap (λ fs. fs ++ concat (map (λ h. refused h) hs)) first ∙ no_frames hs (λ b l. k (suc b) (omega (arith, l)))

pub none : (w : Setup) (t : Histories) → IsSetup w → AreScripted w t → IsQuiet t → refusals_in t ≡ []
none w t d l q = ap rising (no_frames t.buckets (λ b h. none_refused (bucket_at b t.buckets) (calm w t d l q b h)))
