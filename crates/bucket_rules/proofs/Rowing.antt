-- What one entry makes of a row, part by part.
use Rattle.std.proofs.Common.{Option, Some, subst, ◌≡◌, ℕ, ◌==◌, Bool, true, false, cond, ◌&&◌, List, [], ◌∷◌, ◌⊎◌, inl, inr, refl, sym, ◌∙◌, ap}
use Rattle.std.proofs.lemmas.Bool.{and_right}
use Rattle.suri_base.specs.declared.facts.Facts.{Facts}
use Rattle.suri_base.specs.declared.key.Key.{Key}
use Rattle.suri_base.specs.declared.stream.Offer.{Offer}
use Rattle.bucket_rules.proofs.Words.{cond_this}
use Rattle.bucket_rules.specs.declared.fixed.Fixed.{Fixed}
use Rattle.suri_base.specs.declared.entry.BucketNote.{BucketNote}
use Rattle.suri_base.specs.declared.entry.BucketNote.TheVariants.{Found, Missing, Made, Refused, Stored, Stopped, Closed, Idle, Victim, AllInUse, Swept, Drained}
use Rattle.bucket_rules.specs.Own.{is_needing}
use Rattle.bucket_rules.specs.Packets.{bearing, has_key, of_packet}
use Rattle.bucket_rules.specs.Row.{Row, Off, detached, after, has, without, is_linked, off_if, with_packet, takes}

-- the uses after an entry
abbrev pub uses_after : BucketNote → ℕ → List ℕ → List ℕ
uses_after (Found f emergency seen run said) a us = cond (run == a) (f ∷ us) us
uses_after (Made f said) a us = cond (f == a) (f ∷ []) us
uses_after (Closed f app run freed ended) a us = cond (run == a) (without f us) us
uses_after _ a us = us

-- the members after it
abbrev pub members_after : Fixed → BucketNote → ℕ → List Facts → List Facts
members_after s (Found f emergency seen run said) a ms = cond (run == a) (with_packet (bearing s.capture f) ms) ms
members_after s (Made f said) a ms = cond (f == a) (with_packet (bearing s.capture f) []) ms
members_after s _ a ms = ms

-- whether the newest member asks after it
abbrev pub asks_after : BucketNote → ℕ → List ℕ → Bool → Bool
asks_after (Found f emergency seen run said) a us asks = cond (run == a) (is_needing said) asks
asks_after (Made f said) a us asks = cond (f == a) (is_needing said) asks
asks_after (Stored f) a us asks = cond (has us f) false asks
asks_after (Stopped f) a us asks = cond (has us f) false asks
asks_after _ a us asks = asks

by_cond : {A : Type 0} (h : Row → A) (b : Bool) (x y : Row) (u v : A) → h x ≡ u → h y ≡ v → h (cond b x y) ≡ cond b u v
by_cond h true x y u v p q = p
by_cond h false x y u v p q = q

by_both : {A : Type 0} (h : Row → A) (b : Bool) (x y : Row) (u : A) → h x ≡ u → h y ≡ u → h (cond b x y) ≡ u
by_both h true x y u p q = p
by_both h false x y u p q = q

pub off-uses : (t : Bool) (o : Off) (w : Row) → (off_if t o w).uses ≡ w.uses
off-uses t o w = by_both (λ (v : Row). v.uses) (is_linked w.place && t) (record w { place = detached o }) w w.uses refl refl

pub off-members : (t : Bool) (o : Off) (w : Row) → (off_if t o w).members ≡ w.members
off-members t o w = by_both (λ (v : Row). v.members) (is_linked w.place && t) (record w { place = detached o }) w w.members refl refl

pub off-asks : (t : Bool) (o : Off) (w : Row) → (off_if t o w).asks ≡ w.asks
off-asks t o w = by_both (λ (v : Row). v.asks) (is_linked w.place && t) (record w { place = detached o }) w w.asks refl refl

pub off-linked : (t : Bool) (o : Off) (w : Row) → is_linked (off_if t o w).place ≡ true → is_linked w.place ≡ true
off-linked t o w h = step (is_linked w.place && t) h
  where
    step : (b : Bool) → is_linked (cond b (record w { place = detached o }) w).place ≡ true → is_linked w.place ≡ true
    step true h = cc
    step false h = h

-- a run that stays linked fails the test
pub off-test : (t : Bool) (o : Off) (w : Row) → is_linked (off_if t o w).place ≡ true → t ≡ false
off-test t o w h = step (is_linked w.place) t refl h
  where
    step : (l b : Bool) → is_linked w.place ≡ l → is_linked (cond (l && b) (record w { place = detached o }) w).place ≡ true → b ≡ false
    step true true e h = cc
    step true false e h = refl
    step false b e h = cc

pub off-unlinked : (t : Bool) (o : Off) (w : Row) → is_linked w.place ≡ false → off_if t o w ≡ w
off-unlinked t o w h = ap (λ (b : Bool). cond (b && t) (record w { place = detached o }) w) h

pub off-not : (t : Bool) (o : Off) (w : Row) → t ≡ false → off_if t o w ≡ w
off-not t o w h = ap (λ (b : Bool). cond b (record w { place = detached o }) w) (and_right (is_linked w.place) t h)

pub off-now : (t : Bool) (o : Off) (w : Row) → is_linked w.place ≡ true → t ≡ true → off_if t o w ≡ record w { place = detached o }
off-now t o w l h = ap (λ (b : Bool). cond b (record w { place = detached o }) w) (both (is_linked w.place) t l h)
  where
    both : (p q : Bool) → p ≡ true → q ≡ true → (p && q) ≡ true
    both true true l h = refl
    both true false l h = h
    both false q l h = l

pub after-uses : (s : Fixed) (a : ℕ) (n : BucketNote) (w : Row) → (after s a n w).uses ≡ uses_after n a w.uses
after-uses s a (Found f emergency seen run said) w = by_cond (λ (v : Row). v.uses) (run == a) _ w _ _ refl refl
after-uses s a (Missing f emergency seen ended) w = off-uses _ _ w
after-uses s a (Made f said) w = by_cond (λ (v : Row). v.uses) (f == a) _ w _ _ refl refl
after-uses s a (Refused f) w = refl
after-uses s a (Stored f) w = by_both (λ (v : Row). v.uses) (has w.uses f) _ w _ refl refl
after-uses s a (Stopped f) w = by_both (λ (v : Row). v.uses) (has w.uses f) _ w _ refl refl
after-uses s a (Closed f app run freed ended) w = by_cond (λ (v : Row). v.uses) (run == a) _ w _ _ refl refl
after-uses s a (Idle f app) w = refl
after-uses s a (Victim f run) w = off-uses _ _ w
after-uses s a (AllInUse f count) w = refl
after-uses s a (Swept round emergency seen count) w = off-uses _ _ w
after-uses s a (Drained count) w = off-uses _ _ w

-- a frame that is answered uses its run
pub found-uses : (s : Fixed) (run f : ℕ) (emergency : Bool) (seen : ℕ) (said : Offer) (w : Row) → (after s run (Found f emergency seen run said) w).uses ≡ f ∷ w.uses
found-uses s run f emergency seen said w = after-uses s run (Found f emergency seen run said) w ∙ cond_this run (f ∷ w.uses) w.uses

pub made-uses : (s : Fixed) (f : ℕ) (said : Offer) (w : Row) → (after s f (Made f said) w).uses ≡ f ∷ []
made-uses s f said w = after-uses s f (Made f said) w ∙ cond_this f (f ∷ []) w.uses

pub after-members : (s : Fixed) (a : ℕ) (n : BucketNote) (w : Row) → (after s a n w).members ≡ members_after s n a w.members
after-members s a (Found f emergency seen run said) w = by_cond (λ (v : Row). v.members) (run == a) _ w _ _ refl refl
after-members s a (Missing f emergency seen ended) w = off-members _ _ w
after-members s a (Made f said) w = by_cond (λ (v : Row). v.members) (f == a) _ w _ _ refl refl
after-members s a (Refused f) w = refl
after-members s a (Stored f) w = by_both (λ (v : Row). v.members) (has w.uses f) _ w _ refl refl
after-members s a (Stopped f) w = by_both (λ (v : Row). v.members) (has w.uses f) _ w _ refl refl
after-members s a (Closed f app run freed ended) w = by_both (λ (v : Row). v.members) (run == a) _ w _ refl refl
after-members s a (Idle f app) w = refl
after-members s a (Victim f run) w = off-members _ _ w
after-members s a (AllInUse f count) w = refl
after-members s a (Swept round emergency seen count) w = off-members _ _ w
after-members s a (Drained count) w = off-members _ _ w

pub after-asks : (s : Fixed) (a : ℕ) (n : BucketNote) (w : Row) → (after s a n w).asks ≡ asks_after n a w.uses w.asks
after-asks s a (Found f emergency seen run said) w = by_cond (λ (v : Row). v.asks) (run == a) _ w _ _ refl refl
after-asks s a (Missing f emergency seen ended) w = off-asks _ _ w
after-asks s a (Made f said) w = by_cond (λ (v : Row). v.asks) (f == a) _ w _ _ refl refl
after-asks s a (Refused f) w = refl
after-asks s a (Stored f) w = by_cond (λ (v : Row). v.asks) (has w.uses f) _ w _ _ refl refl
after-asks s a (Stopped f) w = by_cond (λ (v : Row). v.asks) (has w.uses f) _ w _ _ refl refl
after-asks s a (Closed f app run freed ended) w = by_both (λ (v : Row). v.asks) (run == a) _ w _ refl refl
after-asks s a (Idle f app) w = refl
after-asks s a (Victim f run) w = off-asks _ _ w
after-asks s a (AllInUse f count) w = refl
after-asks s a (Swept round emergency seen count) w = off-asks _ _ w
after-asks s a (Drained count) w = off-asks _ _ w

-- a run that an entry leaves linked was linked before, or begins
abbrev pub begins : BucketNote → ℕ → Bool
begins (Made f said) a = f == a
begins _ a = false

linked_by : (b : Bool) (x w : Row) → is_linked x.place ≡ is_linked w.place → is_linked (cond b x w).place ≡ true → is_linked w.place ≡ true
linked_by true x w e h = sym e ∙ h
linked_by false x w e h = h

linked_or : (b : Bool) (x w : Row) → is_linked (cond b x w).place ≡ true → (b ≡ true) ⊎ (is_linked w.place ≡ true)
linked_or true x w h = inl refl
linked_or false x w h = inr h

pub after-linked : (s : Fixed) (a : ℕ) (n : BucketNote) (w : Row) → is_linked (after s a n w).place ≡ true → (begins n a ≡ true) ⊎ (is_linked w.place ≡ true)
after-linked s a (Found f emergency seen run said) w h = inr (linked_by (run == a) _ w refl h)
after-linked s a (Missing f emergency seen ended) w h = inr (off-linked _ _ w h)
after-linked s a (Made f said) w h = linked_or (f == a) _ w h
after-linked s a (Refused f) w h = inr h
after-linked s a (Stored f) w h = inr (linked_by (has w.uses f) _ w refl h)
after-linked s a (Stopped f) w h = inr (linked_by (has w.uses f) _ w refl h)
after-linked s a (Closed f app run freed ended) w h = inr (linked_by (run == a) _ w refl h)
after-linked s a (Idle f app) w h = inr h
after-linked s a (Victim f run) w h = inr (off-linked _ _ w h)
after-linked s a (AllInUse f count) w h = inr h
after-linked s a (Swept round emergency seen count) w h = inr (off-linked _ _ w h)
after-linked s a (Drained count) w h = inr (off-linked _ _ w h)

-- the packet that a run takes is of its key, and the run is linked
pub takes_split : (emergency : Bool) (w : Row) (t : Facts) → takes emergency w t ≡ true → (is_linked w.place ≡ true) × (has_key w.members t.key ≡ true)
takes_split emergency w t h = four (is_linked w.place) (has_key w.members t.key) _ _ h
  where
    four : (p q r u : Bool) → (p && q && r && u) ≡ true → (p ≡ true) × (q ≡ true)
    four true true r u h = (refl, refl)
    four true false r u h = cc
    four false q r u h = cc

-- the run that a packet joins has its key
pub joins_key : (emergency : Bool) (w : Row) (o : Option Facts) (t : Facts) → o ≡ Some t → of_packet o (λ u. takes emergency w u) ≡ true → has_key w.members t.key ≡ true
joins_key emergency w o t e h = (takes_split emergency w t (subst (λ (x : Option Facts). of_packet x (λ u. takes emergency w u) ≡ true) e h)).1

-- one packet more leaves the key
pub key_joined : (t : Facts) (ms : List Facts) (k l : Key) → has_key ms l ≡ true → has_key (t ∷ ms) k ≡ has_key ms k
key_joined t [] k l h = cc
key_joined t (m ∷ ms) k l h = refl
