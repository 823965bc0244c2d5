-- A run that left stays as it was, and which run an entry lets go.
use Rattle.std.proofs.Common.{◌≡◌, ℕ, ◌≤◌, ◌==◌, Bool, true, false, not, ◌&&◌, List, [], ◌∷◌, ◌++◌, refl, sym, ◌∙◌, ap, subst, eqb-true}
use Rattle.suri_base.specs.declared.entry.BucketNote.{BucketNote}
use Rattle.suri_base.specs.declared.entry.BucketNote.TheVariants.{Found, Missing, Made, Refused, Stored, Stopped, Closed, Idle, Victim, AllInUse, Swept, Drained}
use Rattle.suri_base.specs.declared.entry.Entry.{Entry}
use Rattle.suri_base.specs.declared.reason.Reason.TheVariants.{Forced}
use Rattle.bucket_rules.specs.Row.{Row, Off, after, row, has, is_here, is_linked, is_none_of, lets_go, made, off, off_if}
use Rattle.bucket_rules.specs.Rule.{Rule, IsLegal}
use Rattle.bucket_rules.specs.Sound.{IsSound}
use Rattle.bucket_rules.specs.declared.fixed.Fixed.{Fixed}
use Rattle.bucket_rules.proofs.Rowing.{off-not, off-now, off-unlinked}
use Rattle.bucket_rules.proofs.Soundness.{sound}
use Rattle.bucket_rules.proofs.Words.{true_false, cond_other}
use Rattle.bucket_laws.specs.Naming.{is_let_go_by, lets_many_go}
use Rattle.bucket_laws.proofs.Naming.{stays_away}
use Rattle.bucket_laws.proofs.Steps.{by_both, cond_not, begins_new, joined, linked_here, user_here}
use Rattle.bucket_laws.proofs.Tests.{both, neither, no_true, or_right, same}

-- no entry changes a run that left

same_row : (s : Fixed) (past : List (Entry BucketNote)) (r : ℕ) (n : BucketNote) (a : ℕ) → IsSound s past → Rule s past r n → has (made past) a ≡ true
    → is_here (row s a past) ≡ false → after s a n (row s a past) ≡ row s a past
same_row s past r (Found g emergency seen run said) a snd rule m h =
    let here = linked_here (row s run past) (joined s g emergency (row s run past) rule.1).2 in
    cond_other run a _ (row s a past) (λ e. true_false (subst (λ (x : ℕ). is_here (row s x past) ≡ true) e here) h)
same_row s past r (Missing g emergency seen ended) a snd rule m h =
    off-unlinked _ _ (row s a past) (neither (is_linked (row s a past).place) (not (is_none_of (row s a past).uses)) h).0
same_row s past r (Made g said) a snd rule m h =
    cond_other g a _ (row s a past) (λ e. true_false m (begins_new s past r (Made g said) a snd rule (same g a e)).0)
same_row s past r (Refused g) a snd rule m h = refl
same_row s past r (Stored g) a snd rule m h =
    cond_not (λ (v : Row). v) (has (row s a past).uses g) _ (row s a past)
    (no_true (has (row s a past).uses g) (λ x. true_false (user_here (row s a past) g x) h))
same_row s past r (Stopped g) a snd rule m h =
    cond_not (λ (v : Row). v) (has (row s a past).uses g) _ (row s a past)
    (no_true (has (row s a past).uses g) (λ x. true_false (user_here (row s a past) g x) h))
same_row s past r (Closed g app run freed ended) a snd rule m h =
    cond_other run a _ (row s a past) (λ e. true_false (subst (λ (x : ℕ). is_here (row s x past) ≡ true) e (user_here (row s run past) g rule.2)) h)
same_row s past r (Idle g app) a snd rule m h = refl
same_row s past r (Victim g run) a snd rule m h =
    off-unlinked _ _ (row s a past) (neither (is_linked (row s a past).place) (not (is_none_of (row s a past).uses)) h).0
same_row s past r (AllInUse g count) a snd rule m h = refl
same_row s past r (Swept round emergency seen count) a snd rule m h =
    off-unlinked _ _ (row s a past) (neither (is_linked (row s a past).place) (not (is_none_of (row s a past).uses)) h).0
same_row s past r (Drained count) a snd rule m h =
    off-unlinked _ _ (row s a past) (neither (is_linked (row s a past).place) (not (is_none_of (row s a past).uses)) h).0

pub unchanged : (s : Fixed) (since old : List (Entry BucketNote)) (a : ℕ) → IsLegal s (since ++ old) → has (made old) a ≡ true
    → is_here (row s a old) ≡ false → row s a (since ++ old) ≡ row s a old
unchanged s [] old a l m h = refl
unchanged s (e ∷ since) old a l m h =
    let k = stays_away s since old a l.1 m h in
    same_row s (since ++ old) e.role e.note a (sound s (since ++ old) l.1) l.0 k.0 k.1 ∙ unchanged s since old a l.1 m h

-- which run leaves

stays_in : (p q : Bool) → (p ≡ true → q ≡ true) → (p && not q) ≡ false
stays_in true true h = refl
stays_in true false h = let z : false ≡ true = h refl in cc
stays_in false q h = refl

goes : (p q : Bool) → p ≡ true → q ≡ false → (p && not q) ≡ true
goes true true h k = cc
goes true false h k = refl
goes false q h k = h

-- an evicted run isn't used, so it leaves at once
evicted : (w : Row) (t : Bool) (o : Off) → t ≡ true → is_linked w.place ≡ true → is_none_of w.uses ≡ true → (is_here w && not (is_here (off_if t o w))) ≡ true
evicted w t o e l u = goes (is_here w) (is_here (off_if t o w)) (linked_here w l) (ap is_here (off-now t o w l e) ∙ ap not u)

pub leaver : (s : Fixed) (past : List (Entry BucketNote)) (r : ℕ) (n : BucketNote) (a : ℕ) → Rule s past r n → lets_many_go n ≡ false → 1 ≤ a
    → lets_go s past n a ≡ is_let_go_by n a
leaver s past r (Found g emergency seen run said) a rule m p =
    stays_in (is_here (row s a past)) (is_here (after s a (Found g emergency seen run said) (row s a past)))
    (λ h. by_both is_here (run == a) _ (row s a past) true (or_right (is_linked (row s a past).place) true refl) h)
leaver s past r (Missing g emergency seen ended) a rule m p = rule.2 a p
leaver s past r (Made g said) a rule m p =
    stays_in (is_here (row s a past)) (is_here (after s a (Made g said) (row s a past))) (λ h. by_both is_here (g == a) _ (row s a past) true refl h)
leaver s past r (Refused g) a rule m p = stays_in (is_here (row s a past)) (is_here (row s a past)) (λ h. h)
leaver s past r (Stored g) a rule m p =
    stays_in (is_here (row s a past)) (is_here (after s a (Stored g) (row s a past)))
    (λ h. by_both is_here (has (row s a past).uses g) _ (row s a past) true h h)
leaver s past r (Stopped g) a rule m p =
    stays_in (is_here (row s a past)) (is_here (after s a (Stopped g) (row s a past)))
    (λ h. by_both is_here (has (row s a past).uses g) _ (row s a past) true h h)
leaver s past r (Closed g app run freed ended) a rule m p = by (run == a) refl
  where
    by : (b : Bool) → (run == a) ≡ b → lets_go s past (Closed g app run freed ended) a ≡ (b && ended)
    by true e = sym (subst (λ (x : ℕ). ended ≡ lets_go s past (Closed g app run freed ended) x) (eqb-true run a e) rule.4)
    by false e =
        ap (λ (v : Row). is_here (row s a past) && not (is_here v)) (cond_not (λ (v : Row). v) (run == a) _ (row s a past) e)
        ∙ stays_in (is_here (row s a past)) (is_here (row s a past)) (λ h. h)
leaver s past r (Idle g app) a rule m p = stays_in (is_here (row s a past)) (is_here (row s a past)) (λ h. h)
leaver s past r (Victim g run) a rule m p = by (run == a) refl
  where
    by : (b : Bool) → (run == a) ≡ b → (is_here (row s a past) && not (is_here (off_if (run == a) (off Forced false) (row s a past)))) ≡ b
    by true e =
        let u =
        both (is_linked (row s a past).place) (is_none_of (row s a past).uses)
        (subst (λ (x : ℕ). (is_linked (row s x past).place && is_none_of (row s x past).uses) ≡ true) (eqb-true run a e) rule.1.unused) in
        evicted (row s a past) (run == a) (off Forced false) e u.0 u.1
    by false e =
        ap (λ (v : Row). is_here (row s a past) && not (is_here v)) (off-not (run == a) (off Forced false) (row s a past) e)
        ∙ stays_in (is_here (row s a past)) (is_here (row s a past)) (λ h. h)
leaver s past r (AllInUse g count) a rule m p = stays_in (is_here (row s a past)) (is_here (row s a past)) (λ h. h)
leaver s past r (Swept round emergency seen count) a rule m p = cc
leaver s past r (Drained count) a rule m p = cc

pub leavers : (s : Fixed) (e : Entry BucketNote) (past : List (Entry BucketNote)) (a : ℕ) → IsLegal s (e ∷ past) → lets_many_go e.note ≡ false → 1 ≤ a
    → lets_go s past e.note a ≡ is_let_go_by e.note a
leavers s e past a l m p = leaver s past e.role e.note a l.0 m p
