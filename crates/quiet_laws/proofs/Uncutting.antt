-- No packet of a run could have ended it before, and no stream of it stopped.
use Rattle.std.proofs.Common.{◌≡◌, ℕ, ◌==◌, Bool, true, false, cond, not, ◌&&◌, ◌||◌, List, [], ◌∷◌, Option, Some, None, refl, sym, ◌∙◌, ap, subst, eqb-true}
use Rattle.std.proofs.lemmas.List.Elements.{All-head, All-tail}
use Rattle.bucket_laws.proofs.Steps.{by_both}
use Rattle.bucket_laws.proofs.Tests.{not_true}
use Rattle.bucket_rules.proofs.Rowing.{after-members, members_after}
use Rattle.bucket_rules.specs.Packets.{bearing, has_key, is_expired, is_reused, of_packet}
use Rattle.bucket_rules.specs.Row.{Off, Row, after, detached, has, is_linked, joins, off_if, row, takes, with_packet}
use Rattle.bucket_rules.specs.Rule.{IsLegal, Rule}
use Rattle.bucket_rules.specs.declared.fixed.Fixed.{Fixed}
use Rattle.flow_expiry.specs.Expiry.{expired, reuses}
use Rattle.flow_object.specs.Object.{no_stops}
use Rattle.flow_sum.specs.Run.{Run}
use Rattle.plain_runs.specs.Plain.{is_cut}
use Rattle.quiet_laws.specs.Calm.{IsCalm, is_calm}
use Rattle.quiet_laws.specs.Plainly.{AreUncut}
use Rattle.suri_base.specs.declared.entry.BucketNote.{BucketNote}
use Rattle.suri_base.specs.declared.entry.BucketNote.TheVariants.{AllInUse, Closed, Drained, Found, Idle, Made, Missing, Refused, Stopped, Stored, Swept, Victim}
use Rattle.suri_base.specs.declared.entry.Entry.{Entry}
use Rattle.suri_base.specs.declared.facts.Facts.{Facts}

pub calm_now : (e : Entry BucketNote) (past : List (Entry BucketNote)) → IsCalm (e ∷ past) → is_calm e.note ≡ true
calm_now e past c = All-head (λ (d : Entry BucketNote). is_calm d.note ≡ true) e past c

pub calm_before : (e : Entry BucketNote) (past : List (Entry BucketNote)) → IsCalm (e ∷ past) → IsCalm past
calm_before e past c = All-tail (λ (d : Entry BucketNote). is_calm d.note ≡ true) e past c

-- neither expired nor reused, the run goes on
goes_on : (r : Run) (t : Facts) → expired r t.clock false ≡ false → reuses r t ≡ false → is_cut r t ≡ false
unfolding is_cut
goes_on r t h k = ap (λ (x : Bool). x || reuses r t) h ∙ k

last_two : (p q x y : Bool) → (p && q && not x && not y) ≡ true → (x ≡ false) × (y ≡ false)
last_two true true false false h = (refl, refl)
last_two true true false true h = cc
last_two true true true y h = cc
last_two true false x y h = cc
last_two false q x y h = cc

-- a packet that joins by the normal table
joined_uncut : (w : Row) (o : Option Facts) → of_packet o (λ t. takes false w t) ≡ true → AreUncut w.members → AreUncut (with_packet o w.members)
joined_uncut w None h u = cc
joined_uncut w (Some t) h u = by w.members refl u
  where
    by : (ms : List Facts) → w.members ≡ ms → AreUncut ms → AreUncut (t ∷ ms)
    by [] e u = tt
    by (m ∷ ms) e u =
        let z = last_two (is_linked w.place) (has_key w.members t.key) (is_expired w.members t.clock false) (is_reused w.members t) h in (
          goes_on (record { newest = m; older = ms }) t (ap (λ (us : List Facts). is_expired us t.clock false) (sym e) ∙ z.0) (ap (λ (us : List Facts). is_reused us t) (sym e) ∙ z.1),
          u,
        )

begun_uncut : (o : Option Facts) → AreUncut (with_packet o [])
begun_uncut None = tt
begun_uncut (Some t) = tt

either_uncut : (b : Bool) (xs ms : List Facts) → (b ≡ true → AreUncut xs) → AreUncut ms → AreUncut (cond b xs ms)
either_uncut true xs ms h u = h refl
either_uncut false xs ms h u = u

uncut_by : (s : Fixed) (past : List (Entry BucketNote)) (r : ℕ) (n : BucketNote) (a : ℕ) → Rule s past r n → is_calm n ≡ true
    → AreUncut (row s a past).members → AreUncut (members_after s n a (row s a past).members)
uncut_by s past r (Found f emergency seen run said) a rule c u =
    either_uncut (run == a) (with_packet (bearing s.capture f) (row s a past).members) (row s a past).members
    (λ e. joined_uncut (row s a past) (bearing s.capture f)
    (subst (λ (x : ℕ). joins s f false (row s x past) ≡ true) (eqb-true run a e) (subst (λ (x : Bool). joins s f x (row s run past) ≡ true) (not_true emergency c) rule.1)) u) u
uncut_by s past r (Missing f emergency seen ended) a rule c u = u
uncut_by s past r (Made f said) a rule c u = either_uncut (f == a) (with_packet (bearing s.capture f) []) (row s a past).members (λ e. begun_uncut (bearing s.capture f)) u
uncut_by s past r (Refused f) a rule c u = u
uncut_by s past r (Stored f) a rule c u = u
uncut_by s past r (Stopped f) a rule c u = u
uncut_by s past r (Closed f app run freed ended) a rule c u = u
uncut_by s past r (Idle f app) a rule c u = u
uncut_by s past r (Victim f run) a rule c u = u
uncut_by s past r (AllInUse f count) a rule c u = u
uncut_by s past r (Swept round emergency seen count) a rule c u = u
uncut_by s past r (Drained count) a rule c u = u

pub uncut : (s : Fixed) (history : List (Entry BucketNote)) (a : ℕ) → IsLegal s history → IsCalm history → AreUncut (row s a history).members
uncut s [] a l c = tt
uncut s (e ∷ past) a l c =
    subst AreUncut (sym (after-members s a e.note (row s a past)))
    (uncut_by s past e.role e.note a l.0 (calm_now e past c) (uncut s past a l.1 (calm_before e past c)))

-- no stream stops

off_unstopped : (t : Bool) (o : Off) (w : Row) → w.stops ≡ no_stops → (off_if t o w).stops ≡ no_stops
off_unstopped t o w h = by_both (λ (v : Row). v.stops) (is_linked w.place && t) (record w { place = detached o }) w no_stops h h

unstopped_by : (s : Fixed) (n : BucketNote) (a : ℕ) (w : Row) → is_calm n ≡ true → w.stops ≡ no_stops → (after s a n w).stops ≡ no_stops
unstopped_by s (Found f emergency seen run said) a w c h = by_both (λ (v : Row). v.stops) (run == a) _ w no_stops h h
unstopped_by s (Missing f emergency seen ended) a w c h = off_unstopped _ _ w h
unstopped_by s (Made f said) a w c h = by_both (λ (v : Row). v.stops) (f == a) _ w no_stops refl h
unstopped_by s (Refused f) a w c h = h
unstopped_by s (Stored f) a w c h = by_both (λ (v : Row). v.stops) (has w.uses f) _ w no_stops h h
unstopped_by s (Stopped f) a w c h = cc
unstopped_by s (Closed f app run freed ended) a w c h = by_both (λ (v : Row). v.stops) (run == a) _ w no_stops h h
unstopped_by s (Idle f app) a w c h = h
unstopped_by s (Victim f run) a w c h = off_unstopped _ _ w h
unstopped_by s (AllInUse f count) a w c h = h
unstopped_by s (Swept round emergency seen count) a w c h = off_unstopped _ _ w h
unstopped_by s (Drained count) a w c h = off_unstopped _ _ w h

pub unstopped : (s : Fixed) (history : List (Entry BucketNote)) (a : ℕ) → IsCalm history → (row s a history).stops ≡ no_stops
unstopped s [] a c = refl
unstopped s (e ∷ past) a c = unstopped_by s e.note a (row s a past) (calm_now e past c) (unstopped s past a (calm_before e past c))
