-- Who may close a frame.
use Rattle.std.proofs.Common.{◌≡◌, ℕ, ◌==◌, Bool, true, false, not, cond, ◌&&◌, List, [], ◌∷◌, ⊎_elim, inl, inr, ◌∙◌, ap, subst, eqb-true}
use Rattle.std.proofs.lemmas.Bool.{false_from_ne_true, or_left, or_right}
use Rattle.suri_base.specs.History.{entry}
use Rattle.suri_base.specs.declared.entry.BucketNote.{BucketNote}
use Rattle.suri_base.specs.declared.entry.BucketNote.TheVariants.{Found, Missing, Made, Refused, Stored, Stopped, Closed, Idle, Victim, AllInUse, Swept, Drained}
use Rattle.suri_base.specs.declared.entry.Entry.{Entry}
use Rattle.bucket_rules.specs.declared.fixed.Fixed.{Fixed}
use Rattle.bucket_rules.specs.Own.{is_open, is_refused, closes, refuses}
use Rattle.bucket_rules.specs.Row.{row, has, without}
use Rattle.bucket_rules.specs.Rule.{IsPacketOf, Rule}
use Rattle.bucket_rules.specs.Sound.{IsOpened, IsSound}
use Rattle.bucket_rules.proofs.Words.{other_way, has-without}
use Rattle.bucket_rules.proofs.Rowing.{found-uses, made-uses, uses_after, after-uses, begins}
use Rattle.bucket_rules.proofs.Owning.{open_split, answers_frame, open_by_cases}
use Rattle.bucket_rules.proofs.Touching.{roles_same}
use Rattle.bucket_rules.proofs.Beginning.{used_begun}

pub uses_kept : (f a : ℕ) (n : BucketNote) (us : List ℕ) → begins n a ≡ false → closes f n ≡ false → has us f ≡ true → has (uses_after n a us) f ≡ true
uses_kept f a (Found g emergency seen run said) us b c h = step (run == a)
  where
    step : (b : Bool) → has (cond b (g ∷ us) us) f ≡ true
    step true = or_right (g == f) (has us f) h
    step false = h
uses_kept f a (Made g said) us b c h = ap (λ (v : Bool). has (cond v (g ∷ []) us) f) b ∙ h
uses_kept f a (Closed g app run freed ended) us b c h = step (run == a)
  where
    step : (b : Bool) → has (cond b (without g us) us) f ≡ true
    step true = has-without g f us ∙ ap (λ v. v && not (f == g)) h ∙ ap (λ v. not v) (other_way g f c)
    step false = h
uses_kept f a (Missing g emergency seen ended) us b c h = h
uses_kept f a (Refused g) us b c h = h
uses_kept f a (Stored g) us b c h = h
uses_kept f a (Stopped g) us b c h = h
uses_kept f a (Idle g app) us b c h = h
uses_kept f a (Victim g run) us b c h = h
uses_kept f a (AllInUse g count) us b c h = h
uses_kept f a (Swept round emergency seen count) us b c h = h
uses_kept f a (Drained count) us b c h = h

opened_kept : (s : Fixed) (past : List (Entry BucketNote)) (r step : ℕ) (n : BucketNote) (q f : ℕ) → IsSound s past → Rule s past r n → closes f n ≡ false
    → IsOpened s past q f → IsOpened s (entry r step n ∷ past) q f
opened_kept s past r step n q f snd rule c o = record {
  own = o.own;
  answered = ⊎_elim
      (λ h. inl (or_right (refuses f n) (is_refused f past) h))
      (λ h. inr (h.0, ap (λ us. has us f) (after-uses s h.0 n (row s h.0 past)) ∙ uses_kept f h.0 n (row s h.0 past).uses (used_begun s past r n h.0 f snd rule h.1) c h.1))
      o.answered;
}

opened_new : (s : Fixed) (past : List (Entry BucketNote)) (r step : ℕ) (n : BucketNote) (f : ℕ) → IsSound s past → Rule s past r n → answers_frame n f ≡ true
    → IsOpened s (entry r step n ∷ past) r f
opened_new s past r step (Found g emergency seen run said) f snd rule h = record {
  own = subst (λ (x : ℕ). IsPacketOf s r x) (eqb-true g f h) rule.0.own;
  answered = inr (run, ap (λ us. has us f) (found-uses s run g emergency seen said (row s run past)) ∙ or_left (g == f) (has (row s run past).uses f) h);
}
opened_new s past r step (Made g said) f snd rule h = record {
  own = subst (λ (x : ℕ). IsPacketOf s r x) (eqb-true g f h) (snd.waits r g rule.0).own;
  answered = inr (g, ap (λ us. has us f) (made-uses s g said (row s g past)) ∙ or_left (g == f) false h);
}
opened_new s past r step (Refused g) f snd rule h = record {
  own = subst (λ (x : ℕ). IsPacketOf s r x) (eqb-true g f h) (snd.waits r g rule).own;
  answered = inl (or_left (g == f) (is_refused f past) h);
}
opened_new s past r step (Missing g emergency seen ended) f snd rule h = cc
opened_new s past r step (Stored g) f snd rule h = cc
opened_new s past r step (Stopped g) f snd rule h = cc
opened_new s past r step (Closed g app run freed ended) f snd rule h = cc
opened_new s past r step (Idle g app) f snd rule h = cc
opened_new s past r step (Victim g run) f snd rule h = cc
opened_new s past r step (AllInUse g count) f snd rule h = cc
opened_new s past r step (Swept round emergency seen count) f snd rule h = cc
opened_new s past r step (Drained count) f snd rule h = cc

-- an entry that closes a frame is its worker's
pub closer : (s : Fixed) (past : List (Entry BucketNote)) (r : ℕ) (n : BucketNote) (f : ℕ) → Rule s past r n → closes f n ≡ true → is_open r f past ≡ true
closer s past r (Closed g app run freed ended) f rule h = subst (λ (x : ℕ). is_open r x past ≡ true) (eqb-true g f h) rule.0.answered
closer s past r (Idle g app) f rule h = subst (λ (x : ℕ). is_open r x past ≡ true) (eqb-true g f h) rule.0.answered
closer s past r (Found g emergency seen run said) f rule h = cc
closer s past r (Missing g emergency seen ended) f rule h = cc
closer s past r (Made g said) f rule h = cc
closer s past r (Refused g) f rule h = cc
closer s past r (Stored g) f rule h = cc
closer s past r (Stopped g) f rule h = cc
closer s past r (Victim g run) f rule h = cc
closer s past r (AllInUse g count) f rule h = cc
closer s past r (Swept round emergency seen count) f rule h = cc
closer s past r (Drained count) f rule h = cc

-- an entry of another role closes no frame of this one
pub spared : (s : Fixed) (past : List (Entry BucketNote)) (r : ℕ) (n : BucketNote) (q f : ℕ) → IsSound s past → Rule s past r n → (r ≡ q → ⊥) → IsPacketOf s q f
    → closes f n ≡ false
spared s past r n q f snd rule ne own = false_from_ne_true (closes f n) (λ c. ne (roles_same s r q f (snd.opened r f (closer s past r n f rule c)).own own))

pub opened_after : (s : Fixed) (past : List (Entry BucketNote)) (r step : ℕ) (n : BucketNote) → IsSound s past → Rule s past r n → (q f : ℕ)
    → is_open q f (entry r step n ∷ past) ≡ true → IsOpened s (entry r step n ∷ past) q f
opened_after s past r step n snd rule q f h = ⊎_elim
    (λ x. ⊎_elim
    (λ m. subst (λ (y : ℕ). IsOpened s (entry r step n ∷ past) y f) x.0 (opened_new s past r step n f snd rule m))
    (λ m. opened_kept s past r step n q f snd rule m.1 (snd.opened q f m.0))
    (open_by_cases f n (is_open q f past) x.1))
    (λ x. opened_kept s past r step n q f snd rule (spared s past r n q f snd rule x.0 (snd.opened q f x.1).own) (snd.opened q f x.1))
    (open_split q f (entry r step n) past h)
