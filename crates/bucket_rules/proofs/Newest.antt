-- The newest member of a run is one that the worker of its key looked up.
use Rattle.std.proofs.Common.{◌≡◌, ℕ, true, List, [], ◌∷◌, Option, ⊎_elim, sym, ◌∙◌, ap, subst}
use Rattle.std.proofs.lemmas.Bool.Decides.{eqb_tells}
use Rattle.suri_base.specs.Dealing.{worker_of}
use Rattle.suri_base.specs.History.{entry}
use Rattle.suri_base.specs.declared.entry.BucketNote.{BucketNote}
use Rattle.suri_base.specs.declared.entry.BucketNote.TheVariants.{Found, Missing, Made, Refused, Stored, Stopped, Closed, Idle, Victim, AllInUse, Swept, Drained}
use Rattle.suri_base.specs.declared.entry.Entry.{Entry}
use Rattle.suri_base.specs.declared.facts.Facts.{Facts}
use Rattle.suri_base.specs.declared.key.Key.{Key}
use Rattle.suri_base.proofs.SameKeys.{same_key-is}
use Rattle.flow_sum.specs.Run.{Run, oldest_of}
use Rattle.bucket_rules.specs.declared.fixed.Fixed.{Fixed}
use Rattle.bucket_rules.specs.Own.{is_fresh}
use Rattle.bucket_rules.specs.Packets.{bearing, has_key}
use Rattle.bucket_rules.specs.Row.{row, after, with_packet}
use Rattle.bucket_rules.specs.Rule.{Rule}
use Rattle.bucket_rules.specs.Sound.{IsWait, IsNewest, IfRun, IsSound}
use Rattle.bucket_rules.proofs.Rowing.{members_after, after-members, joins_key, key_joined}
use Rattle.bucket_rules.proofs.Owning.{fresh_split, fresh_below}

if_map : (P Q : Run → Type 0) → ((r : Run) → P r → Q r) → (ms : List Facts) → IfRun ms P → IfRun ms Q
if_map P Q h [] x = tt
if_map P Q h (m ∷ ms) x = h _ x

newest_longer : (s : Fixed) (past : List (Entry BucketNote)) (r step : ℕ) (n : BucketNote) (ms : List Facts) → IfRun ms (λ u. IsNewest s past u)
    → IfRun ms (λ u. IsNewest s (entry r step n ∷ past) u)
newest_longer s past r step n ms x = if_map (λ u. IsNewest s past u) (λ u. IsNewest s (entry r step n ∷ past) u)
    (λ u k. record { frame = k.frame; bears = k.bears; old = λ f h. k.old f (fresh_split _ f (entry r step n) past h).1 }) ms x

same_worker : (s : Fixed) (ms : List Facts) (t : Facts) (k : Key) → has_key (t ∷ ms) k ≡ true
    → worker_of (oldest_of t ms).key s.layout.workers ≡ worker_of k s.layout.workers
same_worker s ms t k h = ap (λ (x : Key). worker_of x s.layout.workers) (same_key-is (oldest_of t ms).key k h)

newest_by : (s : Fixed) (past : List (Entry BucketNote)) (r step : ℕ) (n : BucketNote) → IsSound s past → Rule s past r n → (a : ℕ)
    → IfRun (members_after s n a (row s a past).members) (λ u. IsNewest s (entry r step n ∷ past) u)
newest_by s past r step (Found g emergency seen run said) snd rule a = ⊎_elim
    (λ e. rw (e.0) (subst (λ (x : ℕ). IfRun (with_packet (bearing s.capture g) (row s x past).members) (λ u. IsNewest s (entry r step (Found g emergency seen run said) ∷ past) u)) e.1
    (join (row s run past).members (joins_key emergency (row s run past) (bearing s.capture g) rule.0.own.packet rule.0.own.bears rule.1))))
    (λ e. rw (e.0) (newest_longer s past r step (Found g emergency seen run said) (row s a past).members (snd.newest a)))
    (eqb_tells run a)
  where
    join : (ms : List Facts) → has_key ms rule.0.own.packet.key ≡ true
        → IfRun (with_packet (bearing s.capture g) ms) (λ u. IsNewest s (entry r step (Found g emergency seen run said) ∷ past) u)
    join ms k =
        let own = rule.0.own in
        subst (λ (o : Option Facts). IfRun (with_packet o ms) (λ u. IsNewest s (entry r step (Found g emergency seen run said) ∷ past) u)) (sym own.bears)
        (record {
          frame = g;
          bears = own.bears;
          old = λ f h. (fresh_split _ f (entry r step (Found g emergency seen run said)) past h).0
              (own.worker ∙ sym (same_worker s ms own.packet own.packet.key (key_joined own.packet ms own.packet.key own.packet.key k ∙ k)));
        })
newest_by s past r step (Made g said) snd rule a = ⊎_elim
    (λ e. rw (e.0) (subst (λ (o : Option Facts). IfRun (with_packet o []) (λ u. IsNewest s (entry r step (Made g said) ∷ past) u)) (sym w.own.bears) alone))
    (λ e. rw (e.0) (newest_longer s past r step (Made g said) (row s a past).members (snd.newest a)))
    (eqb_tells g a)
  where
    w : IsWait s past r g
    w = snd.waits r g rule.0

    alone : IsNewest s (entry r step (Made g said) ∷ past) (record { newest = w.own.packet; older = [] })
    alone = record {
      frame = g;
      bears = w.own.bears;
      old = λ f h. fresh_below r g f past w.old (subst (λ (x : ℕ). is_fresh x f past ≡ true) (sym w.own.worker) (fresh_split _ f (entry r step (Made g said)) past h).1);
    }
newest_by s past r step (Missing g emergency seen ended) snd rule a = newest_longer s past r step (Missing g emergency seen ended) (row s a past).members (snd.newest a)
newest_by s past r step (Refused g) snd rule a = newest_longer s past r step (Refused g) (row s a past).members (snd.newest a)
newest_by s past r step (Stored g) snd rule a = newest_longer s past r step (Stored g) (row s a past).members (snd.newest a)
newest_by s past r step (Stopped g) snd rule a = newest_longer s past r step (Stopped g) (row s a past).members (snd.newest a)
newest_by s past r step (Closed g app run freed ended) snd rule a = newest_longer s past r step (Closed g app run freed ended) (row s a past).members (snd.newest a)
newest_by s past r step (Idle g app) snd rule a = newest_longer s past r step (Idle g app) (row s a past).members (snd.newest a)
newest_by s past r step (Victim g run) snd rule a = newest_longer s past r step (Victim g run) (row s a past).members (snd.newest a)
newest_by s past r step (AllInUse g count) snd rule a = newest_longer s past r step (AllInUse g count) (row s a past).members (snd.newest a)
newest_by s past r step (Swept round emergency seen count) snd rule a = newest_longer s past r step (Swept round emergency seen count) (row s a past).members (snd.newest a)
newest_by s past r step (Drained count) snd rule a = newest_longer s past r step (Drained count) (row s a past).members (snd.newest a)

pub newest_after : (s : Fixed) (past : List (Entry BucketNote)) (r step : ℕ) (n : BucketNote) → IsSound s past → Rule s past r n → (a : ℕ)
    → IfRun (after s a n (row s a past)).members (λ u. IsNewest s (entry r step n ∷ past) u)
newest_after s past r step n snd rule a =
    subst (λ (ms : List Facts). IfRun ms (λ u. IsNewest s (entry r step n ∷ past) u)) (sym (after-members s a n (row s a past)))
    (newest_by s past r step n snd rule a)
