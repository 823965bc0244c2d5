-- Where the entries of a bucket are calm, each run ends as a plain one: a look ended it at the next packet of its key by the normal table. A sweep
-- let it go only where it had expired by the clock of a round, and the next packet came by no lesser clock. A drain came after all packets.
use Rattle.std.proofs.Common.{◌≡◌, ℕ, ◌+◌, ◌<◌, ◌≤◌, nat_lt, Bool, true, false, cond, ◌||◌, List, length, Some, ◌⊎◌, ⊎_elim, inl, inr, sym, ◌∙◌, ap, subst, arith}
use Rattle.std.proofs.lemmas.Bool.Decides.{nat_tests}
use Rattle.bucket_laws.proofs.Ending.{has_end}
use Rattle.bucket_laws.proofs.Following.{next_fits, next_looked}
use Rattle.bucket_laws.proofs.Steps.{bears_one, legal_at}
use Rattle.bucket_laws.proofs.Tests.{below, not_true}
use Rattle.bucket_laws.specs.Draining.{is_drained}
use Rattle.bucket_laws.specs.Ends.{Because, IsOverFor, detaches, next_of}
use Rattle.bucket_laws.specs.Places.{At}
use Rattle.bucket_rules.proofs.Words.{some_is}
use Rattle.bucket_rules.specs.Packets.{bearing, is_expired, is_reused, last_clock, round_clock, round_start}
use Rattle.bucket_rules.specs.Row.{Off, detached, off, row}
use Rattle.bucket_rules.specs.Rule.{IsLegal, Rule}
use Rattle.bucket_rules.specs.declared.fixed.Fixed.{Fixed}
use Rattle.flow_expiry.specs.Expiry.{expired, reuses}
use Rattle.flow_object.specs.Object.{class_of_run}
use Rattle.flow_sum.specs.Run.{Run, first_of, members}
use Rattle.plain_runs.specs.Plain.{cut_reason, is_cut}
use Rattle.quiet_laws.proofs.Calming.{holds_at}
use Rattle.quiet_laws.proofs.Clocks.{round_before, round_within}
use Rattle.quiet_laws.specs.Calm.{IsCalm, is_calm}
use Rattle.quiet_laws.specs.Plainly.{EndsPlainly}
use Rattle.suri_base.specs.Capture.{IsCapture}
use Rattle.suri_base.specs.History.{entry}
use Rattle.suri_base.specs.declared.entry.BucketNote.{BucketNote}
use Rattle.suri_base.specs.declared.entry.BucketNote.TheVariants.{AllInUse, Closed, Drained, Found, Idle, Made, Missing, Refused, Stopped, Stored, Swept, Victim}
use Rattle.suri_base.specs.declared.entry.Entry.{Entry}
use Rattle.suri_base.specs.declared.facts.Facts.{Facts}
use Rattle.suri_base.specs.declared.reason.Reason.{Reason}
use Rattle.suri_base.specs.declared.reason.Reason.TheVariants.{Shutdown, TcpReuse, Timeout}
use Rattle.timeout_table.specs.Table.{timeout_of}

-- why a packet cuts a run

cut_expired : (r : Run) (t : Facts) → expired r t.clock false ≡ true → (is_cut r t ≡ true) × (cut_reason r t ≡ Timeout)
unfolding is_cut cut_reason
cut_expired r t h = (ap (λ (x : Bool). x || reuses r t) h, ap (λ (x : Bool). cond x Timeout TcpReuse) h)

cut_reused : (r : Run) (t : Facts) → expired r t.clock false ≡ false → reuses r t ≡ true → (is_cut r t ≡ true) × (cut_reason r t ≡ TcpReuse)
unfolding is_cut cut_reason
cut_reused r t h k = (ap (λ (x : Bool). x || reuses r t) h ∙ k, ap (λ (x : Bool). cond x Timeout TcpReuse) h)

-- what has expired stays so
stays_expired : (r : Run) (c d : ℕ) → expired r c false ≡ true → c ≤ d → expired r d false ≡ true
stays_expired r c d h l =
    let past = below (r.newest.clock + timeout_of (first_of r).key.proto (class_of_run r) false) c h in
    later (r.newest.clock + timeout_of (first_of r).key.proto (class_of_run r) false) d (omega (arith, past, l))
  where
    later : (x y : ℕ) → x < y → nat_lt x y ≡ true
    later x y e = grind (arith, nat_tests)

module _ (s : Fixed) (is : IsCapture s.capture) (r : Run) (o : Off) where
  -- a look at the next packet, by the normal table
  by_look : (f : ℕ) (ms : List Facts) → ms ≡ members r → r.newest.next ≡ f → (t : Facts) → bearing s.capture f ≡ Some t
      → ((is_expired ms t.clock false ≡ true) × (o ≡ off Timeout false)) ⊎ ((is_expired ms t.clock false ≡ false) × (is_reused ms t ≡ true) × (o ≡ off TcpReuse false))
      → EndsPlainly s r o
  by_look f ms e n t b why = record {
    next = λ u c. let same : t ≡ u = some_is b (sym (ap (bearing s.capture) n) ∙ c) in subst (λ (v : Facts). (is_cut r v ≡ true) × (o ≡ off (cut_reason r v) false)) same (cut why);
    last = λ z. let k = bears_one s f t b in absurd (omega (arith, k, n, z));
  }
    where
      cut : ((is_expired ms t.clock false ≡ true) × (o ≡ off Timeout false)) ⊎ ((is_expired ms t.clock false ≡ false) × (is_reused ms t ≡ true) × (o ≡ off TcpReuse false))
          → (is_cut r t ≡ true) × (o ≡ off (cut_reason r t) false)
      cut (inl y) =
          let k = cut_expired r t (sym (ap (λ (us : List Facts). is_expired us t.clock false) e) ∙ y.0) in
          (k.0, y.1 ∙ ap (λ (x : Reason). off x false) (sym k.1))
      cut (inr y) =
          let k = cut_reused r t (sym (ap (λ (us : List Facts). is_expired us t.clock false) e) ∙ y.0) (sym (ap (λ (us : List Facts). is_reused us t) e) ∙ y.1) in
          (k.0, y.2 ∙ ap (λ (x : Reason). off x false) (sym k.1))

  -- a sweep of a round before which no packet of its key was to come
  by_sweep : (round : ℕ) → expired r (round_clock s round) false ≡ true → (r.newest.next ≡ 0) ⊎ (round_start s round < r.newest.next)
      → round_start s round < length s.capture.frames → o ≡ off Timeout false → EndsPlainly s r o
  by_sweep round x q w e = record {
    next = λ t b.
        let k = bears_one s r.newest.next t b in
        let l : round_start s round < r.newest.next = ⊎_elim (λ z. absurd (omega (arith, k, z))) (λ z. z) q in
        let c = cut_expired r t (stays_expired r (round_clock s round) t.clock x (round_before s is round r.newest.next t b l)) in
        (c.0, e ∙ ap (λ (y : Reason). off y false) (sym c.1));
    last = λ z.
        let late = stays_expired r (round_clock s round) (last_clock s) x (round_within s is round w) in
        e ∙ ap (λ (y : Bool). off (cond y Timeout Shutdown) false) (sym late);
  }

  by_drain : r.newest.next ≡ 0 → ((expired r (last_clock s) false ≡ true) × (o ≡ off Timeout false)) ⊎ ((expired r (last_clock s) false ≡ false) × (o ≡ off Shutdown false))
      → EndsPlainly s r o
  by_drain n why = record {
    next = λ t b. let k = bears_one s r.newest.next t b in absurd (omega (arith, k, n));
    last = λ z. ⊎_elim
        (λ y. y.1 ∙ ap (λ (x : Bool). off (cond x Timeout Shutdown) false) (sym y.0))
        (λ y. y.1 ∙ ap (λ (x : Bool). off (cond x Timeout Shutdown) false) (sym y.0)) why;
  }

  module _ (history : List (Entry BucketNote)) (a : ℕ) (l : IsLegal s history) (drained : is_drained history ≡ true) where
    by_note : (role step : ℕ) (n : BucketNote) (past : List (Entry BucketNote)) → At (entry role step n) past history → Rule s past role n → is_calm n ≡ true
        → detaches s past n a ≡ true → Because s a (row s a past) n o → (row s a past).members ≡ members r → EndsPlainly s r o
    by_note role step (Found f emergency seen run said) past at rule c d why e = absurd why
    by_note role step (Missing f emergency seen ended) past at rule c d why e =
        let n : r.newest.next ≡ f = sym (ap next_of e) ∙ next_looked s a role step f emergency seen ended past history is l drained at d in
        let k : IsOverFor s f false (row s a past) o = subst_normal (not_true emergency c) why in
        by_look f (row s a past).members e n k.packet k.bears k.why
      where
        subst_normal : emergency ≡ false → IsOverFor s f emergency (row s a past) o → IsOverFor s f false (row s a past) o
        subst_normal h w = subst (λ (x : Bool). IsOverFor s f x (row s a past) o) h w
    by_note role step (Made f said) past at rule c d why e = absurd why
    by_note role step (Refused f) past at rule c d why e = absurd why
    by_note role step (Stored f) past at rule c d why e = absurd why
    by_note role step (Stopped f) past at rule c d why e = absurd why
    by_note role step (Closed f app run freed ended) past at rule c d why e = absurd why
    by_note role step (Idle f app) past at rule c d why e = absurd why
    by_note role step (Victim f run) past at rule c d why e = cc
    by_note role step (AllInUse f count) past at rule c d why e = absurd why
    by_note role step (Swept round emergency seen count) past at rule c d why e =
        let h = not_true emergency c in
        by_sweep round
        (sym (ap (λ (us : List Facts). is_expired us (round_clock s round) false) e) ∙ (ap (λ (x : Bool). is_expired (row s a past).members (round_clock s round) x) (sym h) ∙ why.0))
        (subst (λ (x : ℕ). (x ≡ 0) ⊎ (round_start s round < x)) (ap next_of e) why.1) rule.0.within
        (why.2 ∙ ap (λ (x : Bool). off Timeout x) h)
    by_note role step (Drained count) past at rule c d why e =
        let n : r.newest.next ≡ 0 = sym (ap next_of e) ∙ next_fits s a history is l (entry role step (Drained count)) past at d in
        by_drain n (subst (λ (us : List Facts). ((is_expired us (last_clock s) false ≡ true) × (o ≡ off Timeout false)) ⊎ ((is_expired us (last_clock s) false ≡ false) × (o ≡ off Shutdown false))) e why)

pub ends_plainly : (s : Fixed) (history : List (Entry BucketNote)) (a : ℕ) (o : Off) (r : Run) → IsCapture s.capture → IsLegal s history → IsCalm history
    → is_drained history ≡ true → (row s a history).place ≡ detached o → (row s a history).members ≡ members r → EndsPlainly s r o
ends_plainly s history a o r is l c drained p e =
    let k = has_end s a o history l p in
    let rule = (legal_at s (entry k.role k.step k.note) k.past history l k.place).0 in
    let calm = (holds_at (λ (d : Entry BucketNote). is_calm d.note ≡ true) (entry k.role k.step k.note) k.past history c k.place).0 in
    by_note s is r o history a l drained k.role k.step k.note k.past k.place rule calm k.detaches k.because (sym k.members ∙ e)
