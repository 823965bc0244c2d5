-- An entry that answers, refuses or closes a frame is of the frame's worker.
use Rattle.std.proofs.Common.{◌≡◌, ℕ, zero, suc, ◌==◌, ◌≤◌, Bool, true, false, not, cond, ◌&&◌, List, [], ◌∷◌, ◌⊎◌, ⊎_elim, inl, inr, refl, sym, ◌∙◌, ap, subst, arith, ne_eqb}
use Rattle.std.proofs.lemmas.Bool.{or_from}
use Rattle.suri_base.specs.Dealing.{worker_of}
use Rattle.suri_base.specs.History.{entry}
use Rattle.suri_base.specs.declared.entry.BucketNote.{BucketNote}
use Rattle.suri_base.specs.declared.entry.BucketNote.TheVariants.{Found, Missing, Made, Refused, Stored, Stopped, Closed, Idle, Victim, AllInUse, Swept, Drained}
use Rattle.suri_base.specs.declared.entry.Entry.{Entry}
use Rattle.suri_base.specs.declared.facts.Facts.{Facts}
use Rattle.bucket_rules.specs.declared.fixed.Fixed.{Fixed}
use Rattle.bucket_rules.specs.Own.{looked, is_fresh, is_refused, is_closed, closes, refuses}
use Rattle.bucket_rules.specs.Row.{row, has, without, made, made_by}
use Rattle.bucket_rules.specs.Rule.{IsPacketOf, Rule}
use Rattle.bucket_rules.specs.Sound.{IsNew, IsWait, IsOpened, IsSound}
use Rattle.bucket_rules.proofs.Words.{true_false, some_is, none_some, not_zero, has-without}
use Rattle.bucket_rules.proofs.Rowing.{uses_after, after-uses}

pub packets_same : (s : Fixed) (r q f : ℕ) (p : IsPacketOf s r f) (o : IsPacketOf s q f) → p.packet ≡ o.packet
packets_same s r q f p o = some_is p.bears o.bears

pub roles_same : (s : Fixed) (r q f : ℕ) → IsPacketOf s r f → IsPacketOf s q f → r ≡ q
roles_same s r q f p o = p.worker ∙ ap (λ (t : Facts). worker_of t.key s.layout.workers) (packets_same s r q f p o) ∙ sym o.worker

pub positive : (s : Fixed) (r f : ℕ) → IsPacketOf s r f → 1 ≤ f
positive s r zero p = absurd (none_some refl p.bears)
positive s r (suc f) p = omega arith

-- the frame that an entry answers, refuses or closes

abbrev pub concerns : BucketNote → ℕ
concerns (Found f emergency seen run said) = f
concerns (Made f said) = f
concerns (Refused f) = f
concerns (Closed f app run freed ended) = f
concerns (Idle f app) = f
concerns _ = 0

uses_new : (f a : ℕ) (n : BucketNote) (us : List ℕ) → (concerns n ≡ f → ⊥) → has us f ≡ false → has (uses_after n a us) f ≡ false
uses_new f a (Found g emergency seen run said) us ne h = step (run == a)
  where
    step : (b : Bool) → has (cond b (g ∷ us) us) f ≡ false
    step true = or_from (g == f) (has us f) (ne_eqb g f ne) h
    step false = h
uses_new f a (Made g said) us ne h = step (g == a)
  where
    step : (b : Bool) → has (cond b (g ∷ []) us) f ≡ false
    step true = or_from (g == f) false (ne_eqb g f ne) refl
    step false = h
uses_new f a (Closed g app run freed ended) us ne h = step (run == a)
  where
    step : (b : Bool) → has (cond b (without g us) us) f ≡ false
    step true = has-without g f us ∙ ap (λ b. b && not (f == g)) h
    step false = h
uses_new f a (Missing g emergency seen ended) us ne h = h
uses_new f a (Refused g) us ne h = h
uses_new f a (Stored g) us ne h = h
uses_new f a (Stopped g) us ne h = h
uses_new f a (Idle g app) us ne h = h
uses_new f a (Victim g run) us ne h = h
uses_new f a (AllInUse g count) us ne h = h
uses_new f a (Swept round emergency seen count) us ne h = h
uses_new f a (Drained count) us ne h = h

made_new : (f : ℕ) (n : BucketNote) (runs : List ℕ) → (concerns n ≡ f → ⊥) → has runs f ≡ false → has (made_by n runs) f ≡ false
made_new f (Made g said) runs ne h = or_from (g == f) (has runs f) (ne_eqb g f ne) h
made_new f (Found g emergency seen run said) runs ne h = h
made_new f (Closed g app run freed ended) runs ne h = h
made_new f (Missing g emergency seen ended) runs ne h = h
made_new f (Refused g) runs ne h = h
made_new f (Stored g) runs ne h = h
made_new f (Stopped g) runs ne h = h
made_new f (Idle g app) runs ne h = h
made_new f (Victim g run) runs ne h = h
made_new f (AllInUse g count) runs ne h = h
made_new f (Swept round emergency seen count) runs ne h = h
made_new f (Drained count) runs ne h = h

closes_new : (f : ℕ) (n : BucketNote) → (concerns n ≡ f → ⊥) → (closes f n ≡ false) × (refuses f n ≡ false)
closes_new f (Made g said) ne = (refl, refl)
closes_new f (Found g emergency seen run said) ne = (refl, refl)
closes_new f (Closed g app run freed ended) ne = (ne_eqb g f ne, refl)
closes_new f (Missing g emergency seen ended) ne = (refl, refl)
closes_new f (Refused g) ne = (refl, ne_eqb g f ne)
closes_new f (Stored g) ne = (refl, refl)
closes_new f (Stopped g) ne = (refl, refl)
closes_new f (Idle g app) ne = (ne_eqb g f ne, refl)
closes_new f (Victim g run) ne = (refl, refl)
closes_new f (AllInUse g count) ne = (refl, refl)
closes_new f (Swept round emergency seen count) ne = (refl, refl)
closes_new f (Drained count) ne = (refl, refl)

pub new_kept : (s : Fixed) (past : List (Entry BucketNote)) (r step : ℕ) (n : BucketNote) (f : ℕ) → (concerns n ≡ f → ⊥) → IsNew s past f
    → IsNew s (entry r step n ∷ past) f
new_kept s past r step n f ne new = record {
  unmade = made_new f n (made past) ne new.unmade;
  unused = λ a. ap (λ us. has us f) (after-uses s a n (row s a past)) ∙ uses_new f a n (row s a past).uses ne (new.unused a);
  unclosed = or_from (closes f n) (is_closed f past) (closes_new f n ne).0 new.unclosed;
  unrefused = or_from (refuses f n) (is_refused f past) (closes_new f n ne).1 new.unrefused;
}

pub record IsTouch (past : List (Entry BucketNote)) (r q : ℕ) (n : BucketNote) (f : ℕ) : Type 0 where
  pub role : r ≡ q
  pub looks : (looked n ≡ f) ⊎ (is_fresh r f past ≡ false)

pub unopened : (s : Fixed) (past : List (Entry BucketNote)) (r f : ℕ) → IsNew s past f → IsOpened s past r f → ⊥
unopened s past r f new o = ⊎_elim (λ h. true_false h new.unrefused) (λ h. true_false h.1 (new.unused h.0)) o.answered

-- an entry that concerns a new frame is its worker's, who looks it up or has looked it up
pub touch : (s : Fixed) (past : List (Entry BucketNote)) (r q : ℕ) (n : BucketNote) (f : ℕ) → IsSound s past → Rule s past r n → IsNew s past f → IsPacketOf s q f
    → concerns n ≡ f → IsTouch past r q n f
touch s past r q (Found g emergency seen run said) f snd rule new p c = record { role = roles_same s r q f (subst (λ (x : ℕ). IsPacketOf s r x) c rule.0.own) p; looks = inl c }
touch s past r q (Made g said) f snd rule new p c =
    let w = subst (λ (x : ℕ). IsWait s past r x) c (snd.waits r g rule.0) in
    record { role = roles_same s r q f w.own p; looks = inr w.old }
touch s past r q (Refused g) f snd rule new p c =
    let w = subst (λ (x : ℕ). IsWait s past r x) c (snd.waits r g rule) in
    record { role = roles_same s r q f w.own p; looks = inr w.old }
touch s past r q (Closed g app run freed ended) f snd rule new p c = absurd (unopened s past r f new (subst (λ (x : ℕ). IsOpened s past r x) c (snd.opened r g rule.0.answered)))
touch s past r q (Idle g app) f snd rule new p c = absurd (unopened s past r f new (subst (λ (x : ℕ). IsOpened s past r x) c (snd.opened r g rule.0.answered)))
touch s past r q (Missing g emergency seen ended) f snd rule new p c = absurd (not_zero f (positive s q f p) c)
touch s past r q (Stored g) f snd rule new p c = absurd (not_zero f (positive s q f p) c)
touch s past r q (Stopped g) f snd rule new p c = absurd (not_zero f (positive s q f p) c)
touch s past r q (Victim g run) f snd rule new p c = absurd (not_zero f (positive s q f p) c)
touch s past r q (AllInUse g count) f snd rule new p c = absurd (not_zero f (positive s q f p) c)
touch s past r q (Swept round emergency seen count) f snd rule new p c = absurd (not_zero f (positive s q f p) c)
touch s past r q (Drained count) f snd rule new p c = absurd (not_zero f (positive s q f p) c)
