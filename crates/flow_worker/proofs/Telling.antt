-- Which packets were refused, from the call that answered them on.
use Rattle.std.proofs.Common.{◌≡◌, ℕ, zero, suc, ◌==◌, ◌<◌, Bool, true, false, ◌||◌, List, [], ◌∷◌, ◌++◌, length, get_or, ⊎_elim, refl, sym, ◌∙◌, ap, subst, arith, if◌then◌else◌}
use Rattle.bucket_rules.proofs.Owning.{awaits_by_cases, awaits_split, fresh_looked, fresh_lost}
use Rattle.bucket_rules.proofs.Soundness.{sound}
use Rattle.bucket_rules.specs.Own.{awaits, is_fresh, is_refused, refuses}
use Rattle.bucket_rules.specs.Rule.{IsLegal, IsPacketOf, Rule}
use Rattle.bucket_rules.specs.declared.fixed.Fixed.{Fixed}
use Rattle.flow_bucket.specs.declared.calls.BucketCall.{BucketCall}
use Rattle.flow_bucket.specs.declared.calls.BucketReply.{BucketReply}
use Rattle.flow_worker.specs.Telling.{AreTold, IsTold, Tells}
use Rattle.flow_worker.proofs.Refusing.{one_worker, refusal, refuser}
use Rattle.flow_worker.proofs.Seen.{seen_legal}
use Rattle.flow_worker.proofs.Words.{same_yes}
use Rattle.role_steps.specs.Calls.{CalledBucket}
use Rattle.role_steps.specs.Roles.{Acted, IsShared, number_of, seen, setup_of}
use Rattle.role_steps.specs.declared.roles.Shared.{Shared}
use Rattle.role_steps.specs.declared.roles.Worker.{Worker}
use Rattle.run_laws.proofs.Dealt.{IsMine}
use Rattle.run_rules.specs.Acts.{Act}
use Rattle.run_rules.specs.Histories.{bucket_at}
use Rattle.run_rules.specs.Setup.{bucket_for, fixed_at}
use Rattle.suri_base.specs.History.{entry}
use Rattle.suri_base.specs.declared.entry.BucketNote.{BucketNote}
use Rattle.suri_base.specs.declared.entry.BucketNote.TheVariants.{Found, Made, Refused}
use Rattle.suri_base.specs.declared.entry.Entry.{Entry}
use Rattle.suri_base.specs.declared.stream.Offer.{Offer}

-- one entry more, whoever made it

not_true : (t : Bool) → (t ≡ true → ⊥) → t ≡ false
not_true true h = absurd (h refl)
not_true false h = refl

clash : (t : Bool) → t ≡ true → t ≡ false → ⊥
clash true h k = cc
clash false h k = cc

waits_no_more : (s : Fixed) (role f : ℕ) (e : Entry BucketNote) (past : List (Entry BucketNote)) → Rule s past e.role e.note → Tells role f past false → awaits role f (e ∷ past) ≡ true → ⊥
waits_no_more s role f e past rule t h = ⊎_elim
    (λ x. ⊎_elim
    (λ m.
    let r = subst (λ (n : BucketNote). Rule s past e.role n) m.3 rule in
    clash (is_fresh role f past) (subst (λ (q : ℕ). is_fresh q f past ≡ true) x.0 r.0.fresh) t.2)
    (λ m. clash (awaits role f past) m.1 t.1)
    (awaits_by_cases f e.note (awaits role f past) x.1))
    (λ x. clash (awaits role f past) x.1 t.1)
    (awaits_split role f e past h)

refuses_no_more : (s : Fixed) (role f : ℕ) (e : Entry BucketNote) (past : List (Entry BucketNote)) → IsPacketOf s role f → IsLegal s past → Rule s past e.role e.note → Tells role f past false
    → refuses f e.note ≡ true → ⊥
refuses_no_more s role f e past own legal rule t h =
    let same = one_worker s e.role role f (refuser s past e.role f e.note legal rule h) own in
    clash (awaits role f past) (subst (λ (q : ℕ). awaits q f past ≡ true) same (refusal s past e.role f e.note rule h)) t.1

tells_next : (s : Fixed) (role f : ℕ) (e : Entry BucketNote) (past : List (Entry BucketNote)) (t : Bool) → IsPacketOf s role f → IsLegal s (e ∷ past) → Tells role f past t → Tells role f (e ∷ past) t
tells_next s role f e past true own legal t = by (refuses f e.note) (is_refused f past) t
  where
    by : (a b : Bool) → b ≡ true → (a || b) ≡ true
    by true b h = refl
    by false b h = h
tells_next s role f e past false own legal t = (
  ap (λ (x : Bool). x || is_refused f past) (not_true (refuses f e.note) (refuses_no_more s role f e past own legal.1 legal.0 t)) ∙ t.0,
  not_true (awaits role f (e ∷ past)) (waits_no_more s role f e past legal.0 t),
  fresh_lost role f e past t.2,
)

tells_on : (s : Fixed) (role f : ℕ) (since old : List (Entry BucketNote)) (t : Bool) → IsPacketOf s role f → IsLegal s (since ++ old) → Tells role f old t → Tells role f (since ++ old) t
tells_on s role f [] old t own legal h = h
tells_on s role f (e ∷ since) old t own legal h = tells_next s role f e (since ++ old) t own legal (tells_on s role f since old t own legal.1 h)

-- what the worker was told stays so
pub told_on : (s : Shared) (a b : Worker) (f : ℕ) (t : Bool) → IsShared s → IsMine (setup_of s) (number_of a.passes) f → bucket_for (setup_of s) f < length (seen a.passes).buckets → (now : List Act)
    → Acted s a.passes b.passes now → IsTold s a f t → IsTold s b f t
told_on s a b f t sh own low now acted told =
    let home = bucket_for (setup_of s) f in
    let grew = acted.grown.buckets home low in
    let legal = seen_legal s b.passes sh acted.fits home (omega (arith, low, acted.grown.rows)) in
    subst (λ (q : ℕ). Tells q f (bucket_at home (seen b.passes).buckets) t) (sym acted.number)
    (subst (λ (h : List (Entry BucketNote)). Tells (number_of a.passes) f h t) (sym grew.1)
    (tells_on (fixed_at (setup_of s) home) (number_of a.passes) f grew.0 (bucket_at home (seen a.passes).buckets) t own
    (subst (λ (h : List (Entry BucketNote)). IsLegal (fixed_at (setup_of s) home) h) grew.1 legal) told))

-- the calls that answer it

no_wait : (role f step : ℕ) (n : BucketNote) (past : List (Entry BucketNote)) (t : Bool) → (if role == role then t else awaits role f past) ≡ t
no_wait role f step n past t = ap (λ (x : Bool). if x then t else awaits role f past) (same_yes role)

pub tells_found : (s : Fixed) (past : List (Entry BucketNote)) (role step f : ℕ) (e : Bool) (n run : ℕ) (o : Offer) → IsLegal s past → Rule s past role (Found f e n run o)
    → Tells role f (entry role step (Found f e n run o) ∷ past) false
tells_found s past role step f e n run o legal rule =
    let new = (sound s past legal).fresh role f rule.0.own rule.0.fresh in
    (new.unrefused, no_wait role f step (Found f e n run o) past false, fresh_looked role step f (Found f e n run o) past refl)

pub tells_made : (s : Fixed) (past : List (Entry BucketNote)) (role step f : ℕ) (o : Offer) → IsLegal s past → Rule s past role (Made f o) → Tells role f (entry role step (Made f o) ∷ past) false
tells_made s past role step f o legal rule =
    let wait = (sound s past legal).waits role f rule.0 in
    (wait.new.unrefused, no_wait role f step (Made f o) past false, fresh_lost role f (entry role step (Made f o)) past wait.old)

pub tells_refused : (s : Fixed) (past : List (Entry BucketNote)) (role step f : ℕ) → IsLegal s past → Rule s past role (Refused f) → Tells role f (entry role step (Refused f) ∷ past) true
tells_refused s past role step f legal rule = ap (λ (x : Bool). x || is_refused f past) (same_yes f)

pub told_by : (s : Shared) (old new : Worker) (b f : ℕ) (call : BucketCall) (reply : BucketReply) (t : Bool) → IsShared s → b ≡ bucket_for (setup_of s) f
    → (c : CalledBucket s old.passes new.passes b call reply) (n : BucketNote) → c.note ≡ n
    → ((past : List (Entry BucketNote)) → IsLegal (fixed_at (setup_of s) b) past → Rule (fixed_at (setup_of s) b) past (number_of old.passes) n → Tells (number_of old.passes) f (entry (number_of old.passes) old.passes.step n ∷ past) t)
    → IsTold s new f t
told_by s old new b f call reply t sh home c n noted tells =
    let whole = seen_legal s new.passes sh c.fits b (omega (arith, c.stepped.rows, c.stepped.real)) in
    let legal = subst (λ (h : List (Entry BucketNote)). IsLegal (fixed_at (setup_of s) b) h) c.stepped.bucket whole in
    let rule = subst (λ (x : BucketNote). Rule (fixed_at (setup_of s) b) c.stepped.before (number_of old.passes) x) noted c.answer.rule in
    let here : bucket_at b (seen new.passes).buckets ≡ entry (number_of old.passes) old.passes.step n ∷ c.stepped.before =
    c.stepped.bucket ∙ ap (λ (x : BucketNote). entry (number_of old.passes) old.passes.step x ∷ c.stepped.before) noted in
    subst (λ (x : ℕ). Tells (number_of new.passes) f (bucket_at x (seen new.passes).buckets) t) home
    (subst (λ (q : ℕ). Tells q f (bucket_at b (seen new.passes).buckets) t) (sym c.number)
    (subst (λ (h : List (Entry BucketNote)). Tells (number_of old.passes) f h t) (sym here) (tells c.stepped.before legal.1 rule)))

-- lists of them

pub are_told_more : (s : Shared) (k : Worker) (fs : List ℕ) (ts : List Bool) (t : Bool) → length ts < length fs → AreTold s k fs ts → IsTold s k (get_or fs (length ts) 0) t
    → AreTold s k fs (ts ++ t ∷ [])
are_told_more s k [] ts t low h i = absurd (omega (arith, low))
are_told_more s k (f ∷ fs) [] t low h i = (i, tt)
are_told_more s k (f ∷ fs) (u ∷ ts) t low h i = (h.0, are_told_more s k fs ts t (omega (arith, low)) h.1 i)

pub told_at : (s : Shared) (k : Worker) (fs : List ℕ) (ts : List Bool) (j : ℕ) → j < length ts → AreTold s k fs ts → IsTold s k (get_or fs j 0) (get_or ts j false)
told_at s k fs [] j low h = absurd (omega (arith, low))
told_at s k [] (t ∷ ts) j low h = absurd h
told_at s k (f ∷ fs) (t ∷ ts) zero low h = h.0
told_at s k (f ∷ fs) (t ∷ ts) (suc j) low h = told_at s k fs ts j (omega (arith, low)) h.1
