-- Which runs a frame uses.
use Rattle.std.proofs.Common.{◌≡◌, ℕ, ◌==◌, Bool, true, false, not, cond, ◌&&◌, ◌||◌, List, [], ◌∷◌, ◌⊎◌, ⊎_elim, inl, inr, refl, sym, ◌∙◌, ap, subst, eqb-true, eq-eqb}
use Rattle.std.proofs.lemmas.Bool.{false_from_ne_true, and_parts, or_from}
use Rattle.suri_base.specs.History.{entry}
use Rattle.suri_base.specs.declared.entry.BucketNote.{BucketNote}
use Rattle.suri_base.specs.declared.entry.BucketNote.TheVariants.{Found, Missing, Made, Refused, Stored, Stopped, Closed, Idle, Victim, AllInUse, Swept, Drained}
use Rattle.suri_base.specs.declared.entry.Entry.{Entry}
use Rattle.suri_base.specs.declared.facts.Facts.{Facts}
use Rattle.suri_base.proofs.SameKeys.{same_key-refl}
use Rattle.bucket_rules.specs.declared.fixed.Fixed.{Fixed}
use Rattle.bucket_rules.specs.Own.{is_fresh, is_refused, is_closed, closes, refuses}
use Rattle.bucket_rules.specs.Packets.{bearing, has_key}
use Rattle.bucket_rules.specs.Row.{row, after, has, without}
use Rattle.bucket_rules.specs.Rule.{IsPacketOf, Rule}
use Rattle.bucket_rules.specs.Sound.{IsNew, IsWait, IsUse, IsSound}
use Rattle.bucket_rules.proofs.Words.{true_false, some_is, has-without}
use Rattle.bucket_rules.proofs.Rowing.{uses_after, after-uses, joins_key}
use Rattle.bucket_rules.proofs.Beginning.{begun_run, used_begun, key_kept}

starts : BucketNote → ℕ → ℕ → Bool
starts (Found g emergency seen run said) a f = (g == f) && (run == a)
starts (Made g said) a f = (g == f) && (g == a)
starts _ a f = false

ends : BucketNote → ℕ → ℕ → Bool
ends (Closed g app run freed ended) a f = (f == g) && (run == a)
ends _ a f = false

uses_split : (f a : ℕ) (n : BucketNote) (us : List ℕ) → has (uses_after n a us) f ≡ true → (starts n a f ≡ true) ⊎ ((has us f ≡ true) × (ends n a f ≡ false))
unfolding starts ends
uses_split f a (Found g emergency seen run said) us h = step (run == a) h
  where
    more : (p q : Bool) → (p || q) ≡ true → ((p && true) ≡ true) ⊎ ((q ≡ true) × (false ≡ false))
    more true q h = inl refl
    more false q h = inr (h, refl)

    step : (b : Bool) → has (cond b (g ∷ us) us) f ≡ true → (((g == f) && b) ≡ true) ⊎ ((has us f ≡ true) × (false ≡ false))
    step true h = more (g == f) (has us f) h
    step false h = inr (h, refl)
uses_split f a (Made g said) us h = step (g == a) h
  where
    more : (p : Bool) → (p || false) ≡ true → ((p && true) ≡ true) ⊎ ((has us f ≡ true) × (false ≡ false))
    more true h = inl refl
    more false h = cc

    step : (b : Bool) → has (cond b (g ∷ []) us) f ≡ true → (((g == f) && b) ≡ true) ⊎ ((has us f ≡ true) × (false ≡ false))
    step true h = more (g == f) h
    step false h = inr (h, refl)
uses_split f a (Closed g app run freed ended) us h = step (run == a) h
  where
    less : (p q : Bool) → (p && not q) ≡ true → (false ≡ true) ⊎ ((p ≡ true) × ((q && true) ≡ false))
    less true false h = inr (refl, refl)
    less true true h = cc
    less false q h = cc

    nothing : (p : Bool) → (p && false) ≡ false
    nothing true = refl
    nothing false = refl

    step : (b : Bool) → has (cond b (without g us) us) f ≡ true → (false ≡ true) ⊎ ((has us f ≡ true) × (((f == g) && b) ≡ false))
    step true h = less (has us f) (f == g) (sym (has-without g f us) ∙ h)
    step false h = inr (h, nothing (f == g))
uses_split f a (Missing g emergency seen ended) us h = inr (h, refl)
uses_split f a (Refused g) us h = inr (h, refl)
uses_split f a (Stored g) us h = inr (h, refl)
uses_split f a (Stopped g) us h = inr (h, refl)
uses_split f a (Idle g app) us h = inr (h, refl)
uses_split f a (Victim g run) us h = inr (h, refl)
uses_split f a (AllInUse g count) us h = inr (h, refl)
uses_split f a (Swept round emergency seen count) us h = inr (h, refl)
uses_split f a (Drained count) us h = inr (h, refl)

record IsStart (s : Fixed) (past : List (Entry BucketNote)) (r : ℕ) (n : BucketNote) (a f : ℕ) : Type 0 where
  own : IsPacketOf s r f
  new : IsNew s past f
  unclosing : closes f n ≡ false
  unrefusing : refuses f n ≡ false
  only : (b : ℕ) → starts n b f ≡ true → a ≡ b
  key : has_key (after s a n (row s a past)).members own.packet.key ≡ true

-- the run that begins with a packet has its key
lone_key : (ms : List Facts) (t u : Facts) → ms ≡ t ∷ [] → t ≡ u → has_key ms u.key ≡ true
lone_key ms t u e k = ap (λ (l : List Facts). has_key l u.key) e ∙ ap (λ (x : Facts). has_key (t ∷ []) x.key) (sym k) ∙ same_key-refl t.key

start_is : (s : Fixed) (past : List (Entry BucketNote)) (r : ℕ) (n : BucketNote) (a f : ℕ) → IsSound s past → Rule s past r n → starts n a f ≡ true
    → IsStart s past r n a f
unfolding starts
start_is s past r (Found g emergency seen run said) a f snd rule h =
    let k = and_parts (g == f) (run == a) h in
    let own = subst (λ (x : ℕ). IsPacketOf s r x) (eqb-true g f k.0) rule.0.own in
    record {
      own = own;
      new = snd.fresh r f own (subst (λ (x : ℕ). is_fresh r x past ≡ true) (eqb-true g f k.0) rule.0.fresh);
      unclosing = refl;
      unrefusing = refl;
      only = λ b m. sym (eqb-true run a k.1) ∙ eqb-true run b (and_parts (g == f) (run == b) m).1;
      key = key_kept s past r (Found g emergency seen run said) a own.packet.key snd rule refl
          ∙ subst (λ (x : ℕ). has_key (row s x past).members own.packet.key ≡ true) (eqb-true run a k.1)
          (joins_key emergency (row s run past) (bearing s.capture g) own.packet (ap (λ (x : ℕ). bearing s.capture x) (eqb-true g f k.0) ∙ own.bears) rule.1);
    }
start_is s past r (Made g said) a f snd rule h =
    let k = and_parts (g == f) (g == a) h in
    let w = subst (λ (x : ℕ). IsWait s past r x) (eqb-true g f k.0) (snd.waits r g rule.0) in
    let begun = begun_run s past r (Made g said) a snd rule k.1 in
    record {
      own = w.own;
      new = w.new;
      unclosing = refl;
      unrefusing = refl;
      only = λ b m. sym (eqb-true g a k.1) ∙ eqb-true g b (and_parts (g == f) (g == b) m).1;
      key = lone_key _ begun.0.own.packet w.own.packet begun.1
          (some_is begun.0.own.bears (ap (λ (x : ℕ). bearing s.capture x) (sym (eqb-true g a k.1) ∙ eqb-true g f k.0) ∙ w.own.bears));
    }
start_is s past r (Missing g emergency seen ended) a f snd rule h = cc
start_is s past r (Refused g) a f snd rule h = cc
start_is s past r (Stored g) a f snd rule h = cc
start_is s past r (Stopped g) a f snd rule h = cc
start_is s past r (Closed g app run freed ended) a f snd rule h = cc
start_is s past r (Idle g app) a f snd rule h = cc
start_is s past r (Victim g run) a f snd rule h = cc
start_is s past r (AllInUse g count) a f snd rule h = cc
start_is s past r (Swept round emergency seen count) a f snd rule h = cc
start_is s past r (Drained count) a f snd rule h = cc

-- a frame that still uses a run wasn't closed or refused by the entry
kept_open : (s : Fixed) (past : List (Entry BucketNote)) (r : ℕ) (n : BucketNote) (a f : ℕ) → IsSound s past → Rule s past r n → has (row s a past).uses f ≡ true
    → ends n a f ≡ false → (closes f n ≡ false) × (refuses f n ≡ false)
unfolding ends
kept_open s past r (Closed g app run freed ended) a f snd rule h e = (false_from_ne_true (g == f) still, refl)
  where
    still : (g == f) ≡ true → ⊥
    still c =
        let is = eqb-true g f c in
        let same : a ≡ run = (snd.uses a f h).only run (subst (λ (x : ℕ). has (row s run past).uses x ≡ true) is rule.2) in
        true_false (both (f == g) (run == a) (eq-eqb f g (sym is)) (eq-eqb run a (sym same))) e
      where
        both : (p q : Bool) → p ≡ true → q ≡ true → (p && q) ≡ true
        both true q h k = k
        both false q h k = h
kept_open s past r (Idle g app) a f snd rule h e = (
  false_from_ne_true (g == f) (λ c. true_false (subst (λ (x : ℕ). is_refused x past ≡ true) (eqb-true g f c) rule.1) (snd.uses a f h).unrefused),
  refl,
)
kept_open s past r (Refused g) a f snd rule h e = (
  refl,
  false_from_ne_true (g == f) (λ c. true_false h (subst (λ (x : ℕ). has (row s a past).uses x ≡ false) (eqb-true g f c) ((snd.waits r g rule).new.unused a))),
)
kept_open s past r (Found g emergency seen run said) a f snd rule h e = (refl, refl)
kept_open s past r (Missing g emergency seen ended) a f snd rule h e = (refl, refl)
kept_open s past r (Made g said) a f snd rule h e = (refl, refl)
kept_open s past r (Stored g) a f snd rule h e = (refl, refl)
kept_open s past r (Stopped g) a f snd rule h e = (refl, refl)
kept_open s past r (Victim g run) a f snd rule h e = (refl, refl)
kept_open s past r (AllInUse g count) a f snd rule h e = (refl, refl)
kept_open s past r (Swept round emergency seen count) a f snd rule h e = (refl, refl)
kept_open s past r (Drained count) a f snd rule h e = (refl, refl)

pub uses_are : (s : Fixed) (past : List (Entry BucketNote)) (r step : ℕ) (n : BucketNote) → IsSound s past → Rule s past r n → (a f : ℕ)
    → has (after s a n (row s a past)).uses f ≡ true → IsUse s (entry r step n ∷ past) a f
uses_are s past r step n snd rule a f h = ⊎_elim new old (cut a h)
  where
    cut : (b : ℕ) → has (after s b n (row s b past)).uses f ≡ true → (starts n b f ≡ true) ⊎ ((has (row s b past).uses f ≡ true) × (ends n b f ≡ false))
    cut b h = uses_split f b n (row s b past).uses (sym (ap (λ us. has us f) (after-uses s b n (row s b past))) ∙ h)

    new : starts n a f ≡ true → IsUse s (entry r step n ∷ past) a f
    new m =
        let k = start_is s past r n a f snd rule m in
        record {
          packet = k.own.packet;
          bears = k.own.bears;
          bucket = k.own.bucket;
          key = k.key;
          unclosed = or_from (closes f n) (is_closed f past) k.unclosing k.new.unclosed;
          unrefused = or_from (refuses f n) (is_refused f past) k.unrefusing k.new.unrefused;
          only = λ b l. ⊎_elim (λ x. k.only b x) (λ x. absurd (true_false x.0 (k.new.unused b))) (cut b l);
        }

    old : (has (row s a past).uses f ≡ true) × (ends n a f ≡ false) → IsUse s (entry r step n ∷ past) a f
    old m =
        let u = snd.uses a f m.0 in
        let k = kept_open s past r n a f snd rule m.0 m.1 in
        record {
          packet = u.packet;
          bears = u.bears;
          bucket = u.bucket;
          key = key_kept s past r n a u.packet.key snd rule (used_begun s past r n a f snd rule m.0) ∙ u.key;
          unclosed = or_from (closes f n) (is_closed f past) k.0 u.unclosed;
          unrefused = or_from (refuses f n) (is_refused f past) k.1 u.unrefused;
          only = λ b l. ⊎_elim (λ x. absurd (true_false m.0 ((start_is s past r n b f snd rule x).new.unused a))) (λ x. u.only b x.0) (cut b l);
        }
