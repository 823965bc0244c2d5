-- Who waits for leave to begin a run, and which frames are new.
use Rattle.std.proofs.Common.{◌≡◌, ℕ, Bool, true, false, List, ◌∷◌, Option, Some, None, ⊎_elim, refl, sym, ◌∙◌, ap, subst, arith}
use Rattle.std.proofs.lemmas.Bool.{cases_Bool}
use Rattle.std.proofs.lemmas.Bool.Decides.{eqb_tells}
use Rattle.suri_base.specs.Dealing.{worker_of}
use Rattle.suri_base.specs.History.{entry}
use Rattle.suri_base.specs.declared.entry.BucketNote.{BucketNote}
use Rattle.suri_base.specs.declared.entry.BucketNote.TheVariants.{Found, Missing, Made, Refused, Stored, Stopped, Closed, Idle, Victim, AllInUse, Swept, Drained}
use Rattle.suri_base.specs.declared.entry.Entry.{Entry}
use Rattle.suri_base.specs.declared.facts.Facts.{Facts}
use Rattle.suri_base.specs.declared.key.Key.{Key}
use Rattle.bucket_rules.specs.declared.fixed.Fixed.{Fixed}
use Rattle.bucket_rules.specs.Own.{is_fresh, awaits, owed, owes}
use Rattle.bucket_rules.specs.Packets.{bearing, has_key, of_packet}
use Rattle.bucket_rules.specs.Row.{Row, row, after, is_linked, bears_key, look_off}
use Rattle.bucket_rules.specs.Rule.{IsPacketOf, MayLook, Rule}
use Rattle.bucket_rules.specs.Sound.{IsNew, IsWait, IsSound}
use Rattle.bucket_rules.proofs.Words.{true_false, not_zero}
use Rattle.bucket_rules.proofs.Rowing.{begins, after-linked, off-members, off-test}
use Rattle.bucket_rules.proofs.Owning.{fresh_split, fresh_lost, fresh_looked, awaits_split, is_eviction, awaits_by_cases, eviction_owes}
use Rattle.bucket_rules.proofs.Touching.{positive, concerns, new_kept, touch}
use Rattle.bucket_rules.proofs.Beginning.{begun_run, linked_begun, key_kept, alone_key}

evictions_concern : (n : BucketNote) → is_eviction n ≡ true → concerns n ≡ 0
evictions_concern (Victim g run) h = refl
evictions_concern (AllInUse g count) h = refl
evictions_concern (Found g emergency seen run said) h = cc
evictions_concern (Missing g emergency seen ended) h = refl
evictions_concern (Made g said) h = cc
evictions_concern (Refused g) h = cc
evictions_concern (Stored g) h = refl
evictions_concern (Stopped g) h = refl
evictions_concern (Closed g app run freed ended) h = cc
evictions_concern (Idle g app) h = cc
evictions_concern (Swept round emergency seen count) h = refl
evictions_concern (Drained count) h = refl

owes_none : (role : ℕ) (e : Entry BucketNote) (past : List (Entry BucketNote)) → (e.role ≡ role → owed e.note ≡ None) → owes role past ≡ None
    → owes role (e ∷ past) ≡ None
owes_none role e past own h = ⊎_elim (λ m. rw (m.0) (own m.1)) (λ m. rw (m.0) h) (eqb_tells e.role role)

wait_kept : (s : Fixed) (past : List (Entry BucketNote)) (r step : ℕ) (n : BucketNote) (q f : ℕ) → IsSound s past → Rule s past r n → (r ≡ q → is_eviction n ≡ true)
    → IsWait s past q f → IsWait s (entry r step n ∷ past) q f
wait_kept s past r step n q f snd rule own w = record {
  own = w.own;
  new = new_kept s past r step n f (λ c. let t = touch s past r q n f snd rule w.new w.own c in not_zero f (positive s q f w.own) (sym (evictions_concern n (own t.role)) ∙ c)) w.new;
  old = fresh_lost q f (entry r step n) past w.old;
  settled = owes_none q (entry r step n) past (λ e. eviction_owes n (own e)) w.settled;
  none = λ a l. ⊎_elim
      (λ b. fresh_key a b)
      (λ b. key_kept s past r n a w.own.packet.key snd rule (linked_begun s past r n a snd rule b) ∙ w.none a b)
      (after-linked s a n (row s a past) l);
}
  where
    not_made : (n : BucketNote) (a : ℕ) → begins n a ≡ true → is_eviction n ≡ true → ⊥
    not_made (Made g said) a b h = cc
    not_made (Found g emergency seen run said) a b h = cc
    not_made (Missing g emergency seen ended) a b h = cc
    not_made (Refused g) a b h = cc
    not_made (Stored g) a b h = cc
    not_made (Stopped g) a b h = cc
    not_made (Closed g app run freed ended) a b h = cc
    not_made (Idle g app) a b h = cc
    not_made (Victim g run) a b h = cc
    not_made (AllInUse g count) a b h = cc
    not_made (Swept round emergency seen count) a b h = cc
    not_made (Drained count) a b h = cc

    fresh_key : (a : ℕ) → begins n a ≡ true → has_key (after s a n (row s a past)).members w.own.packet.key ≡ false
    fresh_key a b = ⊎_elim
        (λ h. let m = begun_run s past r n a snd rule b in
        absurd (not_made n a b (own (m.0.own.worker ∙ ap (λ (k : Key). worker_of k s.layout.workers) (alone_key _ m.0.own.packet w.own.packet.key m.1 h) ∙ sym w.own.worker))))
        (λ h. h)
        (cases_Bool (has_key (after s a n (row s a past)).members w.own.packet.key))

packet_key : (s : Fixed) (f : ℕ) (o : Option Facts) (t : Facts) (w : Row) → o ≡ Some t → of_packet o (λ u. has_key w.members u.key) ≡ has_key w.members t.key
packet_key s f o t w e = ap (λ (x : Option Facts). of_packet x (λ u. has_key w.members u.key)) e

-- a look that finds nothing begins a wait
wait_begins : (s : Fixed) (past : List (Entry BucketNote)) (r step f : ℕ) (emergency : Bool) (seen ended : ℕ) → IsSound s past → MayLook s past r f
    → IsWait s (entry r step (Missing f emergency seen ended) ∷ past) r f
wait_begins s past r step f emergency seen ended snd may =
    let new = snd.fresh r f may.own may.fresh in
    record {
      own = may.own;
      new = new_kept s past r step (Missing f emergency seen ended) f (not_zero f (positive s r f may.own)) new;
      old = fresh_looked r step f (Missing f emergency seen ended) past refl;
      settled = owes_none r (entry r step (Missing f emergency seen ended)) past (λ e. refl) may.settled;
      none = λ a l. off_key a l;
    }
  where
    off_key : (a : ℕ) → is_linked (after s a (Missing f emergency seen ended) (row s a past)).place ≡ true
        → has_key (after s a (Missing f emergency seen ended) (row s a past)).members may.own.packet.key ≡ false
    off_key a l =
        ap (λ (ms : List Facts). has_key ms may.own.packet.key) (off-members (bears_key s f (row s a past)) (look_off s f emergency (row s a past)) (row s a past))
        ∙ sym (packet_key s f (bearing s.capture f) may.own.packet (row s a past) may.own.bears)
        ∙ off-test (bears_key s f (row s a past)) (look_off s f emergency (row s a past)) (row s a past) l

pub waits_after : (s : Fixed) (past : List (Entry BucketNote)) (r step : ℕ) (n : BucketNote) → IsSound s past → Rule s past r n → (q f : ℕ)
    → awaits q f (entry r step n ∷ past) ≡ true → IsWait s (entry r step n ∷ past) q f
waits_after s past r step n snd rule q f h = ⊎_elim
    (λ x. ⊎_elim
    (λ m. missing n m.0 m.1 m.2 m.3 x.0 rule)
    (λ m. wait_kept s past r step n q f snd rule (λ e. m.0) (snd.waits q f m.1))
    (awaits_by_cases f n (awaits q f past) x.1))
    (λ x. wait_kept s past r step n q f snd rule (λ e. absurd (x.0 e)) (snd.waits q f x.1))
    (awaits_split q f (entry r step n) past h)
  where
    begins_now : (emergency : Bool) (seen ended : ℕ) → r ≡ q → Rule s past r (Missing f emergency seen ended)
        → IsWait s (entry r step (Missing f emergency seen ended) ∷ past) q f
    begins_now emergency seen ended e rule =
        subst (λ (x : ℕ). IsWait s (entry r step (Missing f emergency seen ended) ∷ past) x f) e (wait_begins s past r step f emergency seen ended snd rule.0)

    missing : (n : BucketNote) (emergency : Bool) (seen ended : ℕ) → n ≡ Missing f emergency seen ended → r ≡ q → Rule s past r n → IsWait s (entry r step n ∷ past) q f
    missing n emergency seen ended is e rule =
        subst (λ (m : BucketNote). Rule s past r m → IsWait s (entry r step m ∷ past) q f) (sym is) (begins_now emergency seen ended e) rule

-- a frame that no role looked up is new
pub fresh_after : (s : Fixed) (past : List (Entry BucketNote)) (r step : ℕ) (n : BucketNote) → IsSound s past → Rule s past r n → (q f : ℕ) → IsPacketOf s q f
    → is_fresh q f (entry r step n ∷ past) ≡ true → IsNew s (entry r step n ∷ past) f
fresh_after s past r step n snd rule q f p h =
    let split = fresh_split q f (entry r step n) past h in
    let new = snd.fresh q f p split.1 in
    new_kept s past r step n f
    (λ c. let t = touch s past r q n f snd rule new p c in
    ⊎_elim
    (λ l. let k = split.0 t.role in omega (arith, k, l))
    (λ o. true_false split.1 (subst (λ (x : ℕ). is_fresh x f past ≡ false) t.role o))
    t.looks)
    new
