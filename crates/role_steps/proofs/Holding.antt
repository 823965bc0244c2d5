-- A run holds fewer nodes than there are numbers: at most one for each of its packets.
use Rattle.std.proofs.Common.{◌≡◌, ℕ, ◌+◌, ◌<◌, ◌≤◌, ◌==◌, ◌^◌, ◌&&◌, Bool, true, false, cond, List, [], ◌∷◌, length, Option, Some, None, refl, ap, ◌∙◌, arith}
use Rattle.bucket_laws.specs.Keys.{Falls}
use Rattle.bucket_laws.proofs.Listing.{bearing_no, bearing_within}
use Rattle.bucket_laws.proofs.Placing.{members_fall}
use Rattle.bucket_rules.specs.Own.{is_needing}
use Rattle.bucket_rules.specs.Packets.{bearing}
use Rattle.bucket_rules.specs.Row.{Off, Row, after, detached, has, is_linked, off_if, row, with_packet}
use Rattle.bucket_rules.specs.Rule.{IsLegal, Rule}
use Rattle.bucket_rules.specs.Sound.{IfRun, IsNewest, IsSound}
use Rattle.bucket_rules.specs.declared.fixed.Fixed.{Fixed}
use Rattle.bucket_rules.proofs.Soundness.{sound}
use Rattle.suri_base.specs.Capture.{Captured, IsCapture}
use Rattle.suri_base.specs.declared.entry.BucketNote.{BucketNote}
use Rattle.suri_base.specs.declared.entry.BucketNote.TheVariants.{Found, Missing, Made, Refused, Stored, Stopped, Closed, Idle, Victim, AllInUse, Swept, Drained}
use Rattle.suri_base.specs.declared.entry.Entry.{Entry}
use Rattle.suri_base.specs.declared.facts.Facts.{Facts}
use Rattle.suri_base.proofs.Captures.{as_many_seen}

-- a node for each packet at most, and none yet for one that asks
abbrev asking : Bool → ℕ
asking true = 1
asking false = 0

abbrev HasFew : Row → Type 0
HasFew w = w.held + asking w.asks ≤ length w.members

few_asks : (b : Bool) → asking b ≤ 1
few_asks true = omega arith
few_asks false = omega arith

few_off : (t : Bool) (o : Off) (w : Row) → HasFew w → HasFew (off_if t o w)
few_off t o w h = by (is_linked w.place && t)
  where
    by : (b : Bool) → HasFew (cond b (record w { place = detached o }) w)
    by true = h
    by false = h

few_if : (b : Bool) (x w : Row) → (b ≡ true → HasFew x) → HasFew w → HasFew (cond b x w)
few_if true x w h k = h refl
few_if false x w h k = k

few_more : (o : Option Facts) (t : Facts) (ms : List Facts) → o ≡ Some t → length (with_packet o ms) ≡ length ms + 1
few_more None t ms e = cc
few_more (Some u) t ms e = omega arith

few_asked : (held count : ℕ) (asks : Bool) → asks ≡ true → held + asking asks ≤ count → (held + 1) + 0 ≤ count
few_asked held count true e h = omega (arith, h)
few_asked held count false e h = cc

few_less : (held count : ℕ) (asks : Bool) → held + asking asks ≤ count → held + 0 ≤ count
few_less held count asks h = omega (arith, h)

few_step : (s : Fixed) (past : List (Entry BucketNote)) (r : ℕ) (n : BucketNote) (a : ℕ) → IsSound s past → Rule s past r n → HasFew (row s a past)
    → HasFew (after s a n (row s a past))
few_step s past r (Found f emergency seen run said) a snd rule h = few_if (run == a) _ (row s a past)
    (λ e. omega (arith, h, few_asks (is_needing said), few_more (bearing s.capture f) rule.0.own.packet (row s a past).members rule.0.own.bears)) h
few_step s past r (Missing f emergency seen ended) a snd rule h = few_off _ _ (row s a past) h
few_step s past r (Made f said) a snd rule h =
    let own = (snd.waits r f rule.0).own in
    few_if (f == a) _ (row s a past) (λ e. omega (arith, few_asks (is_needing said), few_more (bearing s.capture f) own.packet [] own.bears)) h
few_step s past r (Refused f) a snd rule h = h
few_step s past r (Stored f) a snd rule h = few_if (has (row s a past).uses f) _ (row s a past)
    (λ e.
    let owing = snd.owing r f rule in
    let is : a ≡ owing.run = (snd.uses a f e).only owing.run owing.uses in
    few_asked (row s a past).held (length (row s a past).members) (row s a past).asks (ap (λ (x : ℕ). (row s x past).asks) is ∙ owing.asks) h) h
few_step s past r (Stopped f) a snd rule h = few_if (has (row s a past).uses f) _ (row s a past)
    (λ e. few_less (row s a past).held (length (row s a past).members) (row s a past).asks h) h
few_step s past r (Closed f app run freed ended) a snd rule h = few_if (run == a) _ (row s a past) (λ e. omega (arith, h)) h
few_step s past r (Idle f app) a snd rule h = h
few_step s past r (Victim f run) a snd rule h = few_off _ _ (row s a past) h
few_step s past r (AllInUse f count) a snd rule h = h
few_step s past r (Swept round emergency seen count) a snd rule h = few_off _ _ (row s a past) h
few_step s past r (Drained count) a snd rule h = few_off _ _ (row s a past) h

few : (s : Fixed) (history : List (Entry BucketNote)) (a : ℕ) → IsLegal s history → HasFew (row s a history)
few s [] a l = omega arith
few s (e ∷ past) a l = few_step s past e.role e.note a (sound s past l.1) l.0 (few s past a l.1)

-- packets that fall are no more than the number of the newest says

falls_few : (t : Facts) (ts : List Facts) → Falls (t ∷ ts) → length ts ≤ t.no
falls_few t [] f = omega arith
falls_few t (u ∷ us) f = omega (arith, falls_few u us f.1, f.0 0 u (omega arith))

newest_few : (c : Captured) (f : ℕ) (t : Facts) (ts : List Facts) → IsCapture c → bearing c f ≡ Some t → Falls (t ∷ ts) → length ts ≤ 4194304
newest_few c f t ts is b falls = omega (arith, falls_few t ts falls, bearing_no c f t is b, (bearing_within c f t b).1, as_many_seen c is, is.few)

members_few : (s : Fixed) (past : List (Entry BucketNote)) (ms : List Facts) → IsCapture s.capture → IfRun ms (λ r. IsNewest s past r) → Falls ms
    → length ms ≤ 4194305
members_few s past [] is n f = omega arith
members_few s past (t ∷ ts) is n f = omega (arith, newest_few s.capture n.frame t ts is n.bears f)

pub few_nodes : (s : Fixed) (history : List (Entry BucketNote)) (a : ℕ) → IsCapture s.capture → IsLegal s history → (row s a history).held < 2 ^ 32
few_nodes s history a is l = omega (
  arith,
  few s history a l,
  members_few s history (row s a history).members is ((sound s history l).newest a) (members_fall s history a is l),
)
