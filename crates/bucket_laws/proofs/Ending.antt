-- Each run that is detached was detached by one entry, and why.
use Rattle.std.proofs.Common.{◌≡◌, ℕ, ◌==◌, ◌+◌, ◌<◌, Bool, true, false, cond, not, ◌&&◌, List, [], ◌∷◌, Option, ◌⊎◌, ⊎_elim, inl, inr, refl, sym, ◌∙◌, ap, subst, eqb-true, arith}
use Rattle.std.specs.Prelude.{nat_lt}
use Rattle.suri_base.specs.declared.entry.BucketNote.{BucketNote}
use Rattle.suri_base.specs.declared.entry.BucketNote.TheVariants.{Found, Missing, Made, Refused, Stored, Stopped, Closed, Idle, Victim, AllInUse, Swept, Drained}
use Rattle.suri_base.specs.declared.entry.Entry.{Entry}
use Rattle.suri_base.specs.declared.facts.Facts.{Facts}
use Rattle.suri_base.specs.declared.reason.Reason.TheVariants.{Timeout, TcpReuse, Shutdown}
use Rattle.flow_expiry.specs.Expiry.{expired}
use Rattle.bucket_rules.specs.Packets.{has_key, of_packet, is_quiet, is_expired, is_reused, is_due, last_clock, round_clock, round_start}
use Rattle.bucket_rules.specs.Row.{Row, Off, Place, unbegun, linked, detached, blank, after, row, has, is_here, is_linked, is_begun, off_if, off, takes, joins, bears_key, had_expired, look_off, end_off, made}
use Rattle.bucket_rules.specs.Rule.{MayLook, Rule, IsLegal}
use Rattle.bucket_rules.specs.Sound.{IsSound}
use Rattle.bucket_rules.specs.declared.fixed.Fixed.{Fixed}
use Rattle.bucket_rules.proofs.Rowing.{begins, off-members, off-unlinked}
use Rattle.bucket_rules.proofs.Soundness.{sound}
use Rattle.bucket_rules.proofs.Words.{true_false, cond_other}
use Rattle.bucket_laws.specs.Counts.{one_if}
use Rattle.bucket_laws.specs.Draining.{is_drained}
use Rattle.bucket_laws.specs.Ends.{is_detached, detaches, times_detached, next_of, IsOverFor, Because, HasEnd}
use Rattle.bucket_laws.proofs.Draining.{empty}
use Rattle.bucket_laws.proofs.Steps.{by_both, cond_now, joined, linked_here, begins_blank, made_split}
use Rattle.bucket_laws.proofs.Tests.{both, all_of, either, same, below}

-- where a run stands

detached_is : (p o : Off) → detached p ≡ detached o → p ≡ o
detached_is p o h = cc

linked_not : (x : Place) (o : Off) → is_linked x ≡ true → x ≡ detached o → ⊥
linked_not x o l h = true_false l (ap is_linked h)

unbegun_not : (w : Row) (o : Off) → w ≡ blank → w.place ≡ detached o → ⊥
unbegun_not w o e h = none (sym (ap (λ (v : Row). v.place) e) ∙ h)
  where
    none : unbegun ≡ detached o → ⊥
    none k = cc

detached_unlinked : (w : Row) (o : Off) → w.place ≡ detached o → is_linked w.place ≡ false
detached_unlinked w o h = ap is_linked h

-- an entry that detaches a run

off_split : (t : Bool) (p o : Off) (w : Row) → (off_if t p w).place ≡ detached o → (w.place ≡ detached o) ⊎ ((is_linked w.place ≡ true) × (t ≡ true) × (p ≡ o))
off_split t p o w h = by (is_linked w.place) t refl h
  where
    by : (l u : Bool) → is_linked w.place ≡ l → (cond (l && u) (record w { place = detached p }) w).place ≡ detached o
        → (w.place ≡ detached o) ⊎ ((is_linked w.place ≡ true) × (u ≡ true) × (p ≡ o))
    by true true e h = inr (e, refl, detached_is p o h)
    by true false e h = inl h
    by false u e h = inl h

same_place : (b : Bool) (x w : Row) (o : Off) → x.place ≡ w.place → (cond b x w).place ≡ detached o → w.place ≡ detached o
same_place true x w o e h = sym e ∙ h
same_place false x w o e h = h

made_place : (b : Bool) (x w : Row) (o : Off) → x.place ≡ linked → (cond b x w).place ≡ detached o → w.place ≡ detached o
made_place true x w o e h = none (sym e ∙ h)
  where
    none : linked ≡ detached o → w.place ≡ detached o
    none k = cc
made_place false x w o e h = h

-- a packet that joins no linked run of its key, which has not expired, begins anew
begins_anew : (l q x y : Bool) → l ≡ true → q ≡ true → (l && q && not x && not y) ≡ false → x ≡ false → y ≡ true
begins_anew true true true true a c h e = refl
begins_anew true true false true a c h e = refl
begins_anew true true true false a c h e = cc
begins_anew true true false false a c h e = cc
begins_anew true false x y a c h e = cc
begins_anew false q x y a c h e = cc

is_over : (s : Fixed) (past : List (Entry BucketNote)) (r g : ℕ) (emergency : Bool) (w : Row) (o : Off) → MayLook s past r g
    → joins s g emergency w ≡ false → is_linked w.place ≡ true → bears_key s g w ≡ true → look_off s g emergency w ≡ o → IsOverFor s g emergency w o
is_over s past r g emergency w o may no_join l key why =
    let t = may.own.packet in
    let e = may.own.bears in
    let has : has_key w.members t.key ≡ true = sym (ap (λ (x : Option Facts). of_packet x (λ u. has_key w.members u.key)) e) ∙ key in
    let clock : had_expired s g emergency w ≡ is_expired w.members t.clock emergency =
    ap (λ (x : Option Facts). of_packet x (λ u. is_expired w.members u.clock emergency)) e in
    let passes : takes emergency w t ≡ false = sym (ap (λ (x : Option Facts). of_packet x (λ u. takes emergency w u)) e) ∙ no_join in
    record {
      packet = t;
      bears = e;
      key = has;
      why =
          by t (is_expired w.members t.clock emergency) refl
          (λ x. begins_anew (is_linked w.place) (has_key w.members t.key) (is_expired w.members t.clock emergency) (is_reused w.members t) l has passes x)
          (sym (ap (λ (c : Bool). cond c (off Timeout emergency) (off TcpReuse false)) clock) ∙ why);
    }
  where
    by : (t : Facts) (x : Bool) → is_expired w.members t.clock emergency ≡ x
        → (is_expired w.members t.clock emergency ≡ false → is_reused w.members t ≡ true) → cond x (off Timeout emergency) (off TcpReuse false) ≡ o
        → ((is_expired w.members t.clock emergency ≡ true) × (o ≡ off Timeout emergency))
        ⊎ ((is_expired w.members t.clock emergency ≡ false) × (is_reused w.members t ≡ true) × (o ≡ off TcpReuse false))
    by t true e anew h = inl (e, sym h)
    by t false e anew h = inr (e, anew e, sym h)

due_split : (s : Fixed) (round : ℕ) (emergency : Bool) (ms : List Facts) → is_due s round emergency ms ≡ true
    → (is_expired ms (round_clock s round) emergency ≡ true) × ((next_of ms ≡ 0) ⊎ (round_start s round < next_of ms))
due_split s round emergency [] h = cc
due_split s round emergency (m ∷ ms) h =
    let k = both (expired (record { newest = m; older = ms }) (round_clock s round) emergency) (is_quiet (round_start s round) m) h in (
      k.0,
      ⊎_elim (λ x. inl (eqb-true m.next 0 x)) (λ x. inr (below (round_start s round) m.next x))
          (either (m.next == 0) (nat_lt (round_start s round) m.next) k.1),
    )

end_is : (s : Fixed) (w : Row) (o : Off) → end_off s w ≡ o
    → ((is_expired w.members (last_clock s) false ≡ true) × (o ≡ off Timeout false))
    ⊎ ((is_expired w.members (last_clock s) false ≡ false) × (o ≡ off Shutdown false))
end_is s w o h = by (is_expired w.members (last_clock s) false) refl h
  where
    by : (x : Bool) → is_expired w.members (last_clock s) false ≡ x → cond x (off Timeout false) (off Shutdown false) ≡ o
        → ((is_expired w.members (last_clock s) false ≡ true) × (o ≡ off Timeout false))
        ⊎ ((is_expired w.members (last_clock s) false ≡ false) × (o ≡ off Shutdown false))
    by true e h = inl (e, sym h)
    by false e h = inr (e, sym h)

-- a run that is detached after an entry was so before, or the entry says why
pub end_split : (s : Fixed) (past : List (Entry BucketNote)) (r : ℕ) (n : BucketNote) (a : ℕ) (o : Off) → Rule s past r n
    → (after s a n (row s a past)).place ≡ detached o
    → ((row s a past).place ≡ detached o) ⊎ ((is_linked (row s a past).place ≡ true) × Because s a (row s a past) n o)
end_split s past r (Found g emergency seen run said) a o rule h = inl (same_place (run == a) _ (row s a past) o refl h)
end_split s past r (Missing g emergency seen ended) a o rule h =
    ⊎_elim (λ x. inl x) (λ x. inr (x.0, is_over s past r g emergency (row s a past) o rule.0 (rule.1 a) x.0 x.1 x.2))
    (off_split (bears_key s g (row s a past)) (look_off s g emergency (row s a past)) o (row s a past) h)
end_split s past r (Made g said) a o rule h = inl (made_place (g == a) _ (row s a past) o refl h)
end_split s past r (Refused g) a o rule h = inl h
end_split s past r (Stored g) a o rule h = inl (same_place (has (row s a past).uses g) _ (row s a past) o refl h)
end_split s past r (Stopped g) a o rule h = inl (same_place (has (row s a past).uses g) _ (row s a past) o refl h)
end_split s past r (Closed g app run freed ended) a o rule h = inl (same_place (run == a) _ (row s a past) o refl h)
end_split s past r (Idle g app) a o rule h = inl h
end_split s past r (Victim g run) a o rule h = ⊎_elim (λ x. inl x) (λ x. inr (x.0, (eqb-true run a x.1, sym x.2))) (off_split (run == a) _ o (row s a past) h)
end_split s past r (AllInUse g count) a o rule h = inl h
end_split s past r (Swept round emergency seen count) a o rule h =
    ⊎_elim (λ x. inl x) (λ x. let d = due_split s round emergency (row s a past).members x.1 in inr (x.0, (d.0, d.1, sym x.2)))
    (off_split (is_due s round emergency (row s a past).members) _ o (row s a past) h)
end_split s past r (Drained count) a o rule h =
    ⊎_elim (λ x. inl x) (λ x. inr (x.0, end_is s (row s a past) o x.2)) (off_split true (end_off s (row s a past)) o (row s a past) h)

-- a run that is detached stays as it is

whole_row : {w x : Row} {o : Off} → x ≡ w → w.place ≡ detached o → (x.place ≡ detached o) × (x.members ≡ w.members)
whole_row {w} {x} {o} e h = (ap (λ (v : Row). v.place) e ∙ h, ap (λ (v : Row). v.members) e)

two_parts : (b : Bool) (x w : Row) (o : Off) → x.place ≡ w.place → x.members ≡ w.members → w.place ≡ detached o
    → ((cond b x w).place ≡ detached o) × ((cond b x w).members ≡ w.members)
two_parts true x w o p m h = (p ∙ h, m)
two_parts false x w o p m h = (h, refl)

pub stays_detached : (s : Fixed) (past : List (Entry BucketNote)) (r : ℕ) (n : BucketNote) (a : ℕ) (o : Off) → IsSound s past → Rule s past r n
    → (row s a past).place ≡ detached o
    → ((after s a n (row s a past)).place ≡ detached o) × ((after s a n (row s a past)).members ≡ (row s a past).members)
stays_detached s past r (Found g emergency seen run said) a o snd rule h =
    let l = (joined s g emergency (row s run past) rule.1).2 in
    whole_row (cond_other run a _ (row s a past) (λ e. linked_not (row s a past).place o (subst (λ (x : ℕ). is_linked (row s x past).place ≡ true) e l) h)) h
stays_detached s past r (Missing g emergency seen ended) a o snd rule h = whole_row (off-unlinked _ _ (row s a past) (detached_unlinked (row s a past) o h)) h
stays_detached s past r (Made g said) a o snd rule h =
    whole_row (cond_other g a _ (row s a past) (λ e. unbegun_not (row s a past) o (begins_blank s past r (Made g said) a snd rule (same g a e)) h)) h
stays_detached s past r (Refused g) a o snd rule h = (h, refl)
stays_detached s past r (Stored g) a o snd rule h = two_parts (has (row s a past).uses g) _ (row s a past) o refl refl h
stays_detached s past r (Stopped g) a o snd rule h = two_parts (has (row s a past).uses g) _ (row s a past) o refl refl h
stays_detached s past r (Closed g app run freed ended) a o snd rule h = two_parts (run == a) _ (row s a past) o refl refl h
stays_detached s past r (Idle g app) a o snd rule h = (h, refl)
stays_detached s past r (Victim g run) a o snd rule h = whole_row (off-unlinked _ _ (row s a past) (detached_unlinked (row s a past) o h)) h
stays_detached s past r (AllInUse g count) a o snd rule h = (h, refl)
stays_detached s past r (Swept round emergency seen count) a o snd rule h = whole_row (off-unlinked _ _ (row s a past) (detached_unlinked (row s a past) o h)) h
stays_detached s past r (Drained count) a o snd rule h = whole_row (off-unlinked _ _ (row s a past) (detached_unlinked (row s a past) o h)) h

-- an entry that detaches a run leaves its members
because_members : (s : Fixed) (n : BucketNote) (a : ℕ) (w : Row) (o : Off) → Because s a w n o → (after s a n w).members ≡ w.members
because_members s (Found g emergency seen run said) a w o h = absurd h
because_members s (Missing g emergency seen ended) a w o h = off-members _ _ w
because_members s (Made g said) a w o h = absurd h
because_members s (Refused g) a w o h = absurd h
because_members s (Stored g) a w o h = absurd h
because_members s (Stopped g) a w o h = absurd h
because_members s (Closed g app run freed ended) a w o h = absurd h
because_members s (Idle g app) a w o h = absurd h
because_members s (Victim g run) a w o h = off-members _ _ w
because_members s (AllInUse g count) a w o h = absurd h
because_members s (Swept round emergency seen count) a w o h = off-members _ _ w
because_members s (Drained count) a w o h = off-members _ _ w

pub has_end : (s : Fixed) (a : ℕ) (o : Off) (history : List (Entry BucketNote)) → IsLegal s history → (row s a history).place ≡ detached o
    → HasEnd s a history o
has_end s a o [] l h = absurd (unbegun_not blank o refl h)
has_end s a o (e ∷ past) l h = by (end_split s past e.role e.note a o l.0 h) (λ y. has_end s a o past l.1 y)
  where
    by : ((row s a past).place ≡ detached o) ⊎ ((is_linked (row s a past).place ≡ true) × Because s a (row s a past) e.note o)
        → ((row s a past).place ≡ detached o → HasEnd s a past o) → HasEnd s a (e ∷ past) o
    by (inr x) more = record {
      role = e.role;
      step = e.step;
      note = e.note;
      past = past;
      place = inl (refl, refl);
      detaches = all_of (is_linked (row s a past).place) (is_detached (after s a e.note (row s a past)).place) x.0 (ap is_detached h);
      because = x.1;
      members = because_members s e.note a (row s a past) o x.1;
    }
    by (inl y) more =
        let u = more y in
        let k = stays_detached s past e.role e.note a o (sound s past l.1) l.0 y in
        record { role = u.role; step = u.step; note = u.note; past = u.past; place = inr u.place; detaches = u.detaches; because = u.because; members = k.1 ∙ u.members }

-- it is one entry

once_step : (s : Fixed) (past : List (Entry BucketNote)) (r : ℕ) (n : BucketNote) (a : ℕ) → IsSound s past → Rule s past r n
    → one_if (detaches s past n a) + one_if (is_detached (row s a past).place) ≡ one_if (is_detached (after s a n (row s a past)).place)
once_step s past r n a snd rule = by (row s a past).place refl
  where
    none : (x : Place) → (after s a n (row s a past)).place ≡ x → (row s a past).place ≡ unbegun → is_detached x ≡ false
    none unbegun e p = refl
    none linked e p = refl
    none (detached o) e p = absurd (⊎_elim (λ y. absurd (clash (sym p ∙ y))) (λ y. true_false y.0 (ap is_linked p)) (end_split s past r n a o rule e))
      where
        clash : unbegun ≡ detached o → ⊥
        clash k = cc

    by : (p : Place) → (row s a past).place ≡ p
        → one_if (is_linked p && is_detached (after s a n (row s a past)).place) + one_if (is_detached p) ≡ one_if
        (is_detached (after s a n (row s a past)).place)
    by unbegun e = sym (ap one_if (none (after s a n (row s a past)).place refl e))
    by linked e = omega arith
    by (detached o) e = sym (ap (λ (x : Place). one_if (is_detached x)) (stays_detached s past r n a o snd rule e).0)

pub one_end : (s : Fixed) (a : ℕ) (history : List (Entry BucketNote)) → IsLegal s history
    → times_detached s a history ≡ one_if (is_detached (row s a history).place)
one_end s a [] l = refl
one_end s a (e ∷ past) l = omega (arith, once_step s past e.role e.note a (sound s past l.1) l.0, one_end s a past l.1)

-- after a drain every run has its end

off_begun : (t : Bool) (p : Off) (w : Row) → is_begun w.place ≡ true → is_begun (off_if t p w).place ≡ true
off_begun t p w h = by_both (λ (v : Row). is_begun v.place) (is_linked w.place && t) (record w { place = detached p }) w true refl h

begun_stays : (s : Fixed) (n : BucketNote) (a : ℕ) (w : Row) → is_begun w.place ≡ true → is_begun (after s a n w).place ≡ true
begun_stays s (Found g emergency seen run said) a w h = by_both (λ (v : Row). is_begun v.place) (run == a) _ w true h h
begun_stays s (Missing g emergency seen ended) a w h = off_begun _ _ w h
begun_stays s (Made g said) a w h = by_both (λ (v : Row). is_begun v.place) (g == a) _ w true refl h
begun_stays s (Refused g) a w h = h
begun_stays s (Stored g) a w h = by_both (λ (v : Row). is_begun v.place) (has w.uses g) _ w true h h
begun_stays s (Stopped g) a w h = by_both (λ (v : Row). is_begun v.place) (has w.uses g) _ w true h h
begun_stays s (Closed g app run freed ended) a w h = by_both (λ (v : Row). is_begun v.place) (run == a) _ w true h h
begun_stays s (Idle g app) a w h = h
begun_stays s (Victim g run) a w h = off_begun _ _ w h
begun_stays s (AllInUse g count) a w h = h
begun_stays s (Swept round emergency seen count) a w h = off_begun _ _ w h
begun_stays s (Drained count) a w h = off_begun _ _ w h

begins_begun : (s : Fixed) (n : BucketNote) (a : ℕ) (w : Row) → begins n a ≡ true → is_begun (after s a n w).place ≡ true
begins_begun s (Found g emergency seen run said) a w h = cc
begins_begun s (Missing g emergency seen ended) a w h = cc
begins_begun s (Made g said) a w h = cond_now (λ (v : Row). is_begun v.place) (g == a) _ w true h refl
begins_begun s (Refused g) a w h = cc
begins_begun s (Stored g) a w h = cc
begins_begun s (Stopped g) a w h = cc
begins_begun s (Closed g app run freed ended) a w h = cc
begins_begun s (Idle g app) a w h = cc
begins_begun s (Victim g run) a w h = cc
begins_begun s (AllInUse g count) a w h = cc
begins_begun s (Swept round emergency seen count) a w h = cc
begins_begun s (Drained count) a w h = cc

pub made_begun : (s : Fixed) (a : ℕ) (history : List (Entry BucketNote)) → has (made history) a ≡ true → is_begun (row s a history).place ≡ true
made_begun s a [] h = cc
made_begun s a (e ∷ past) h = by (either (begins e.note a) (has (made past) a) (sym (made_split e.note (made past) a) ∙ h)) (λ k. made_begun s a past k)
  where
    by : (begins e.note a ≡ true) ⊎ (has (made past) a ≡ true) → (has (made past) a ≡ true → is_begun (row s a past).place ≡ true)
        → is_begun (after s a e.note (row s a past)).place ≡ true
    by (inl x) more = begins_begun s e.note a (row s a past) x
    by (inr x) more = begun_stays s e.note a (row s a past) (more x)

-- a run that began and isn't in the bucket any more has its end
pub gone_end : (s : Fixed) (a : ℕ) (history : List (Entry BucketNote)) → has (made history) a ≡ true → is_here (row s a history) ≡ false
    → (o : Off) × ((row s a history).place ≡ detached o)
gone_end s a history m x = by (row s a history).place refl
  where
    by : (p : Place) → (row s a history).place ≡ p → (o : Off) × (p ≡ detached o)
    by unbegun e = absurd (true_false (made_begun s a history m) (ap is_begun e))
    by linked e = absurd (true_false (linked_here (row s a history) (ap is_linked e)) x)
    by (detached o) e = (o, refl)

pub all_end : (s : Fixed) (a : ℕ) (history : List (Entry BucketNote)) → IsLegal s history → is_drained history ≡ true → has (made history) a ≡ true
    → (o : Off) × ((row s a history).place ≡ detached o)
all_end s a history l x m = gone_end s a history m ((empty s history l x).none a)
