-- The packets of a key are cut into runs and refused packets.
use Rattle.std.proofs.Common.{◌≡◌, ℕ, ◌==◌, ◌≤◌, Bool, true, false, cond, List, [], ◌∷◌, reverse, Option, Some, None, ⊎_elim, inl, inr, refl, sym, ◌∙◌, ap, subst, eqb-true, arith}
use Rattle.suri_base.specs.Capture.{packets_in}
use Rattle.suri_base.specs.Dealing.{bucket_of}
use Rattle.suri_base.specs.History.{entry}
use Rattle.suri_base.specs.Keys.{key_list, same_key}
use Rattle.suri_base.specs.declared.entry.BucketNote.{BucketNote}
use Rattle.suri_base.specs.declared.entry.BucketNote.TheVariants.{Found, Missing, Made, Refused, Stored, Stopped, Closed, Idle, Victim, AllInUse, Swept, Drained}
use Rattle.suri_base.specs.declared.entry.Entry.{Entry}
use Rattle.suri_base.specs.declared.facts.Facts.{Facts}
use Rattle.suri_base.specs.declared.key.Key.{Key}
use Rattle.suri_base.specs.declared.stream.Offer.{Offer}
use Rattle.suri_base.proofs.SameKeys.{same_key-is}
use Rattle.flow_sum.specs.Run.{first_of}
use Rattle.bucket_rules.specs.Own.{is_refused, refuses}
use Rattle.bucket_rules.specs.Packets.{bearing, has_key}
use Rattle.bucket_rules.specs.Row.{Row, after, row, has, is_linked, with_packet, made}
use Rattle.bucket_rules.specs.Rule.{Rule, IsLegal}
use Rattle.bucket_rules.specs.Sound.{IsSound, IsWait}
use Rattle.bucket_rules.specs.declared.fixed.Fixed.{Fixed}
use Rattle.bucket_rules.proofs.Beginning.{key_kept}
use Rattle.bucket_rules.proofs.Rowing.{members_after, after-members, after-linked, begins, key_joined}
use Rattle.bucket_rules.proofs.Soundness.{sound}
use Rattle.bucket_rules.proofs.Words.{true_false, cond_other, some_is}
use Rattle.bucket_laws.specs.Places.{In}
use Rattle.bucket_laws.specs.Draining.{is_drained}
use Rattle.bucket_laws.specs.Keys.{if_bears, answered, Piece, piece, joined, piece_on, pieces, packets_of, has_piece, if_key, AreApart, IsCut}
use Rattle.bucket_laws.proofs.Answering.{all_answered}
use Rattle.bucket_laws.proofs.Steps as steps
use Rattle.bucket_laws.proofs.Steps.{bears_one, made_split, begins_blank}
use Rattle.bucket_laws.proofs.Tests.{either, or_left, or_right, no_true, same}

-- the newest piece is that of the linked run which has the key
pub record IsCutSoFar (s : Fixed) (k : Key) (past : List (Entry BucketNote)) (ps : List Piece) : Type 0 where
  pub cut : IsCut s k past (answered s k past) ps
  pub top : (a : ℕ) → is_linked (row s a past).place ≡ true → has_key (row s a past).members k ≡ true
      → (p : Piece) × (rest : List Piece) × (ps ≡ p ∷ rest) × (p.run ≡ a) × (1 ≤ a)

-- packets that bear the key or don't

bears_yes : {A : Type 0} (k : Key) (o : Option Facts) (t : Facts) (change : Facts → A) (x : A) → o ≡ Some t → same_key t.key k ≡ true
    → if_bears k o change x ≡ change t
bears_yes k None t change x e h = cc
bears_yes k (Some u) t change x e h =
    let q : u ≡ t = cc in ap (λ (v : Facts). cond (same_key v.key k) (change v) x) q ∙ ap (λ (b : Bool). cond b (change t) x) h

bears_no : {A : Type 0} (k : Key) (o : Option Facts) (t : Facts) (change : Facts → A) (x : A) → o ≡ Some t → same_key t.key k ≡ false
    → if_bears k o change x ≡ x
bears_no k None t change x e h = cc
bears_no k (Some u) t change x e h = let q : u ≡ t = cc in ap (λ (v : Facts). cond (same_key v.key k) (change v) x) q ∙ ap (λ (b : Bool). cond b (change t) x) h

-- one entry more leaves the refused packets refused
apart_more : (s : Fixed) (past : List (Entry BucketNote)) (e : Entry BucketNote) (ps : List Piece) → AreApart s past ps → AreApart s (e ∷ past) ps
apart_more s past e [] a = tt
apart_more s past e (p ∷ ps) a = (
  a.0,
  λ z. let r = a.1 z in
      record { frame = r.frame; packet = r.packet; alone = r.alone; bears = r.bears; refused = or_right (refuses r.frame e.note) (is_refused r.frame past) r.refused },
  apart_more s past e ps a.2,
)

begun_more : (past : List (Entry BucketNote)) (e : Entry BucketNote) (a : ℕ) → has (made past) a ≡ true → has (made (e ∷ past)) a ≡ true
begun_more past e a h = made_split e.note (made past) a ∙ or_right (begins e.note a) (has (made past) a) h

-- a run that has the key and is linked after an entry that doesn't begin it was so before
links_back : (s : Fixed) (k : Key) (past : List (Entry BucketNote)) (r : ℕ) (n : BucketNote) (a : ℕ) → IsSound s past → Rule s past r n → begins n a ≡ false
    → is_linked (after s a n (row s a past)).place ≡ true → has_key (after s a n (row s a past)).members k ≡ true
    → (is_linked (row s a past).place ≡ true) × (has_key (row s a past).members k ≡ true)
links_back s k past r n a snd rule b l h = (
  ⊎_elim (λ x. absurd (true_false x b)) (λ x. x) (after-linked s a n (row s a past) l),
  sym (key_kept s past r n a k snd rule b) ∙ h,
)

-- an entry that answers no packet of the key
keeps : (s : Fixed) (k : Key) (past : List (Entry BucketNote)) (e : Entry BucketNote) (ps : List Piece) → IsCutSoFar s k past ps
    → ((a : ℕ) → if_key k (after s a e.note (row s a past)).members ≡ if_key k (row s a past).members)
    → ((a : ℕ) → is_linked (after s a e.note (row s a past)).place ≡ true → has_key (after s a e.note (row s a past)).members k ≡ true
    → (is_linked (row s a past).place ≡ true) × (has_key (row s a past).members k ≡ true))
    → ((f : ℕ) (t : Facts) → bearing s.capture f ≡ Some t → same_key t.key k ≡ true → refuses f e.note ≡ false)
    → answered s k (e ∷ past) ≡ answered s k past → IsCutSoFar s k (e ∷ past) ps
keeps s k past e ps c members links others same = record {
  cut = record {
    whole = c.cut.whole ∙ sym same;
    runs = λ a p. c.cut.runs a p ∙ sym (members a);
    begun = λ a p h. begun_more past e a (c.cut.begun a p h);
    refused =
        λ f t b h x. c.cut.refused f t b h (⊎_elim (λ y. absurd (true_false y (others f t b h))) (λ y. y) (either (refuses f e.note) (is_refused f past) x));
    apart = apart_more s past e ps c.cut.apart;
  };
  top = λ a l h. let z = links a l h in c.top a z.0 z.1;
}

-- a packet joins

other_key : (ms : List Facts) (l k : Key) → has_key ms l ≡ true → same_key l k ≡ false → has_key ms k ≡ false
other_key [] l k h n = refl
other_key (m ∷ ms) l k h n = subst (λ (x : Key). same_key x k ≡ false) (sym (same_key-is (first_of (record { newest = m; older = ms })).key l h)) n

join_runs : (b : Bool) (t : Facts) (k : Key) (packets others ms : List Facts) → (b ≡ true → has_key ms k ≡ true) → cond b packets others ≡ if_key k ms
    → cond b (t ∷ packets) others ≡ if_key k (cond b (t ∷ ms) ms)
join_runs true t k packets others ms key h =
    let y = key refl in
    let z : packets ≡ ms = h ∙ ap (λ (c : Bool). cond c ms []) y in
    ap (λ us. t ∷ us) z ∙ sym (ap (λ (c : Bool). cond c (t ∷ ms) []) (key_joined t ms k k y ∙ y))
join_runs false t k packets others ms key h = h

join_other : (b : Bool) (t : Facts) (k : Key) (ms : List Facts) → (b ≡ true → has_key ms t.key ≡ true) → same_key t.key k ≡ false
    → if_key k (cond b (t ∷ ms) ms) ≡ if_key k ms
join_other true t k ms key n =
    let y = other_key ms t.key k (key refl) n in
    ap (λ (c : Bool). cond c (t ∷ ms) []) (key_joined t ms k t.key (key refl) ∙ y) ∙ sym (ap (λ (c : Bool). cond c ms []) y)
join_other false t k ms key n = refl

found_members : (s : Fixed) (past : List (Entry BucketNote)) (g : ℕ) (emergency : Bool) (seen run : ℕ) (said : Offer) (t : Facts) (a : ℕ)
    → bearing s.capture g ≡ Some t
    → (after s a (Found g emergency seen run said) (row s a past)).members ≡ cond (run == a) (t ∷ (row s a past).members) (row s a past).members
found_members s past g emergency seen run said t a e = after-members s a (Found g emergency seen run said) (row s a past)
    ∙ ap (λ (o : Option Facts). cond (run == a) (with_packet o (row s a past).members) (row s a past).members) e

found_yes : (s : Fixed) (k : Key) (past : List (Entry BucketNote)) (r step g : ℕ) (emergency : Bool) (seen run : ℕ) (said : Offer) (t : Facts) (p : Piece) (rest : List Piece)
    → IsSound s past
    → Rule s past r (Found g emergency seen run said) → IsCutSoFar s k past (p ∷ rest) → bearing s.capture g ≡ Some t → same_key t.key k ≡ true → p.run ≡ run
    → 1 ≤ run → has_key (row s run past).members k ≡ true
    → IsCutSoFar s k (entry r step (Found g emergency seen run said) ∷ past) (joined t (p ∷ rest))
found_yes s k past r step g emergency seen run said t p rest snd rule c e h is pos key = record {
  cut = record {
    whole = ap (λ ts. t ∷ ts) c.cut.whole ∙ sym (bears_yes k (bearing s.capture g) t (λ u. u ∷ answered s k past) (answered s k past) e h);
    runs =
        λ a q. join_runs (p.run == a) t k p.packets (packets_of a rest) (row s a past).members
        (λ x. subst (λ (y : ℕ). has_key (row s y past).members k ≡ true) (sym is ∙ eqb-true p.run a x) key) (c.cut.runs a q)
        ∙ ap (if_key k) (ap (λ (y : ℕ). cond (y == a) (t ∷ (row s a past).members) (row s a past).members) is ∙ sym (found_members s past g emergency seen run said t a e));
    begun = λ a q x. c.cut.begun a q x;
    refused = λ f u b i x. in_rest u (c.cut.refused f u b i x);
    apart = (c.cut.apart.0, λ z. absurd (omega (arith, z, is, pos)), apart_more s past (entry r step (Found g emergency seen run said)) rest c.cut.apart.2);
  };
  top = λ a l x. let b = links_back s k past r (Found g emergency seen run said) a snd rule refl l x in
      let z = c.top a b.0 b.1 in
      (piece z.0.run (t ∷ z.0.packets), z.1, ap (joined t) z.2, z.3, z.4);
}
  where
    -- a refused packet is in another piece than the run's
    in_rest : (u : Facts) → In (piece 0 (u ∷ [])) (p ∷ rest) → In (piece 0 (u ∷ [])) (joined t (p ∷ rest))
    in_rest u (inl y) = absurd (omega (arith, ap (λ (q : Piece). q.run) y, is, pos))
    in_rest u (inr y) = inr y

found_no : (s : Fixed) (k : Key) (past : List (Entry BucketNote)) (r step g : ℕ) (emergency : Bool) (seen run : ℕ) (said : Offer) (t : Facts) (ps : List Piece)
    → IsSound s past
    → Rule s past r (Found g emergency seen run said) → IsCutSoFar s k past ps → bearing s.capture g ≡ Some t → same_key t.key k ≡ false
    → has_key (row s run past).members t.key ≡ true
    → IsCutSoFar s k (entry r step (Found g emergency seen run said) ∷ past) ps
found_no s k past r step g emergency seen run said t ps snd rule c e h key = keeps s k past (entry r step (Found g emergency seen run said)) ps c
    (λ a. ap (if_key k) (found_members s past g emergency seen run said t a e)
    ∙ join_other (run == a) t k (row s a past).members (λ x. subst (λ (y : ℕ). has_key (row s y past).members t.key ≡ true) (eqb-true run a x) key) h)
    (λ a l x. links_back s k past r (Found g emergency seen run said) a snd rule refl l x)
    (λ f u b i. refl)
    (bears_no k (bearing s.capture g) t (λ u. u ∷ answered s k past) (answered s k past) e h)

-- a packet begins a run

made_members : (s : Fixed) (past : List (Entry BucketNote)) (g : ℕ) (said : Offer) (t : Facts) (a : ℕ) → bearing s.capture g ≡ Some t
    → (after s a (Made g said) (row s a past)).members ≡ cond (g == a) (t ∷ []) (row s a past).members
made_members s past g said t a e =
    after-members s a (Made g said) (row s a past) ∙ ap (λ (o : Option Facts). cond (g == a) (with_packet o []) (row s a past).members) e

made_runs : (b : Bool) (t : Facts) (k : Key) (others ms : List Facts) → same_key t.key k ≡ true → others ≡ if_key k ms
    → cond b (t ∷ []) others ≡ if_key k (cond b (t ∷ []) ms)
made_runs true t k others ms h o = sym (ap (λ (c : Bool). cond c (t ∷ []) []) h)
made_runs false t k others ms h o = o

made_other : (b : Bool) (t : Facts) (k : Key) (ms : List Facts) → same_key t.key k ≡ false → (b ≡ true → ms ≡ []) → if_key k (cond b (t ∷ []) ms) ≡ if_key k ms
made_other true t k ms h e = ap (λ (c : Bool). cond c (t ∷ []) []) h ∙ sym (ap (if_key k) (e refl))
made_other false t k ms h e = refl

none_waits : (s : Fixed) (k : Key) (past : List (Entry BucketNote)) (r g a : ℕ) (w : IsWait s past r g) → same_key w.own.packet.key k ≡ true
    → is_linked (row s a past).place ≡ true → has_key (row s a past).members k ≡ true → ⊥
none_waits s k past r g a w h l x = true_false x (subst (λ (y : Key). has_key (row s a past).members y ≡ false) (same_key-is w.own.packet.key k h) (w.none a l))

made_yes : (s : Fixed) (k : Key) (past : List (Entry BucketNote)) (r step g : ℕ) (said : Offer) (ps : List Piece) → IsSound s past
    → Rule s past r (Made g said) → IsCutSoFar s k past ps
    → (w : IsWait s past r g) → same_key w.own.packet.key k ≡ true → IsCutSoFar s k (entry r step (Made g said) ∷ past) (piece g (w.own.packet ∷ []) ∷ ps)
made_yes s k past r step g said ps snd rule c w h =
    let t = w.own.packet in
    let pos = bears_one s g t w.own.bears in
    record {
      cut = record {
        whole = ap (λ ts. t ∷ ts) c.cut.whole ∙ sym (bears_yes k (bearing s.capture g) t (λ u. u ∷ answered s k past) (answered s k past) w.own.bears h);
        runs =
            λ a q. made_runs (g == a) t k (packets_of a ps) (row s a past).members h (c.cut.runs a q)
            ∙ ap (if_key k) (sym (made_members s past g said t a w.own.bears));
        begun =
            λ a q x. ⊎_elim (λ y. or_left (g == a) (has (made past) a) y) (λ y. or_right (g == a) (has (made past) a) (c.cut.begun a q y))
            (either (g == a) (has_piece a ps) x);
        refused = λ f u b i x. inr (c.cut.refused f u b i x);
        apart = (
          λ q. no_true (has_piece g ps) (λ x. true_false (c.cut.begun g q x) w.new.unmade),
          λ z. absurd (omega (arith, z, pos)),
          apart_more s past (entry r step (Made g said)) ps c.cut.apart,
        );
      };
      top = λ a l x. by a (g == a) refl l x;
    }
  where
    by : (a : ℕ) (b : Bool) → (g == a) ≡ b → is_linked (after s a (Made g said) (row s a past)).place ≡ true
        → has_key (after s a (Made g said) (row s a past)).members k ≡ true
        → (p : Piece) × (rest : List Piece) × (piece g (w.own.packet ∷ []) ∷ ps ≡ p ∷ rest) × (p.run ≡ a) × (1 ≤ a)
    by a true e l x =
        (piece g (w.own.packet ∷ []), ps, refl, eqb-true g a e, subst (λ (y : ℕ). 1 ≤ y) (eqb-true g a e) (bears_one s g w.own.packet w.own.bears))
    by a false e l x = let z = links_back s k past r (Made g said) a snd rule e l x in absurd (none_waits s k past r g a w h z.0 z.1)

made_no : (s : Fixed) (k : Key) (past : List (Entry BucketNote)) (r step g : ℕ) (said : Offer) (ps : List Piece) → IsSound s past
    → Rule s past r (Made g said) → IsCutSoFar s k past ps
    → (w : IsWait s past r g) → same_key w.own.packet.key k ≡ false → IsCutSoFar s k (entry r step (Made g said) ∷ past) ps
made_no s k past r step g said ps snd rule c w h = keeps s k past (entry r step (Made g said)) ps c
    (λ a. ap (if_key k) (made_members s past g said w.own.packet a w.own.bears)
    ∙ made_other (g == a) w.own.packet k (row s a past).members h (λ x. ap (λ (v : Row). v.members) (begins_blank s past r (Made g said) a snd rule x)))
    (λ a l x. by a (g == a) refl l x)
    (λ f u b i. refl)
    (bears_no k (bearing s.capture g) w.own.packet (λ u. u ∷ answered s k past) (answered s k past) w.own.bears h)
  where
    by : (a : ℕ) (b : Bool) → (g == a) ≡ b → is_linked (after s a (Made g said) (row s a past)).place ≡ true
        → has_key (after s a (Made g said) (row s a past)).members k ≡ true
        → (is_linked (row s a past).place ≡ true) × (has_key (row s a past).members k ≡ true)
    by a true e l x =
        let only : (after s a (Made g said) (row s a past)).members ≡ w.own.packet ∷ [] =
        made_members s past g said w.own.packet a w.own.bears ∙ ap (λ (b : Bool). cond b (w.own.packet ∷ []) (row s a past).members) e in
        absurd (true_false (subst (λ (ms : List Facts). has_key ms k ≡ true) only x) h)
    by a false e l x = links_back s k past r (Made g said) a snd rule e l x

-- a packet is refused

refused_yes : (s : Fixed) (k : Key) (past : List (Entry BucketNote)) (r step g : ℕ) (ps : List Piece) → IsCutSoFar s k past ps
    → (w : IsWait s past r g) → same_key w.own.packet.key k ≡ true → IsCutSoFar s k (entry r step (Refused g) ∷ past) (piece 0 (w.own.packet ∷ []) ∷ ps)
refused_yes s k past r step g ps c w h = record {
  cut = record {
    whole =
        ap (λ ts. w.own.packet ∷ ts) c.cut.whole ∙ sym
        (bears_yes k (bearing s.capture g) w.own.packet (λ u. u ∷ answered s k past) (answered s k past) w.own.bears h);
    runs = λ a q. cond_other 0 a (w.own.packet ∷ []) (packets_of a ps) (λ z. absurd (omega (arith, z, q))) ∙ c.cut.runs a q;
    begun = λ a q x. ⊎_elim (λ y. absurd (omega (arith, q, eqb-true 0 a y))) (λ y. c.cut.begun a q y) (either (0 == a) (has_piece a ps) x);
    refused =
        λ f u b i x. ⊎_elim (λ y. inl (ap (λ (v : Facts). piece 0 (v ∷ [])) (some_is w.own.bears (ap (bearing s.capture) (eqb-true g f y) ∙ b))))
        (λ y. inr (c.cut.refused f u b i y)) (either (g == f) (is_refused f past) x);
    apart = (
      λ q. absurd (omega (arith, q)),
      λ z. record { frame = g; packet = w.own.packet; alone = refl; bears = w.own.bears; refused = or_left (g == g) (is_refused g past) (same g g refl) },
      apart_more s past (entry r step (Refused g)) ps c.cut.apart,
    );
  };
  top = λ a l x. absurd (none_waits s k past r g a w h l x);
}

-- an entry that answers no packet
silent : (s : Fixed) (k : Key) (past : List (Entry BucketNote)) (r step : ℕ) (n : BucketNote) (ps : List Piece) → IsSound s past → Rule s past r n
    → IsCutSoFar s k past ps → ((a : ℕ) (ms : List Facts) → members_after s n a ms ≡ ms) → ((a : ℕ) → begins n a ≡ false) → ((f : ℕ) → refuses f n ≡ false)
    → answered s k (entry r step n ∷ past) ≡ answered s k past → IsCutSoFar s k (entry r step n ∷ past) ps
silent s k past r step n ps snd rule c members none refused same = keeps s k past (entry r step n) ps c
    (λ a. ap (if_key k) (after-members s a n (row s a past) ∙ members a (row s a past).members))
    (λ a l x. links_back s k past r n a snd rule (none a) l x)
    (λ f t b h. refused f) same

cut_after : (s : Fixed) (k : Key) (past : List (Entry BucketNote)) (r step : ℕ) (n : BucketNote) (ps : List Piece) → IsSound s past → Rule s past r n
    → IsCutSoFar s k past ps
    → IsCutSoFar s k (entry r step n ∷ past) (piece_on s k n ps)
cut_after s k past r step (Found g emergency seen run said) ps snd rule c = by (same_key jo.0.key k) refl
  where
    jo : (t : Facts) × (bearing s.capture g ≡ Some t) × (is_linked (row s run past).place ≡ true) × (has_key (row s run past).members t.key ≡ true)
    jo = steps.joined s g emergency (row s run past) rule.1

    by : (b : Bool) → same_key jo.0.key k ≡ b
        → IsCutSoFar s k (entry r step (Found g emergency seen run said) ∷ past) (if_bears k (bearing s.capture g) (λ t. joined t ps) ps)
    by true h =
        let key = subst (λ (x : Key). has_key (row s run past).members x ≡ true) (same_key-is jo.0.key k h) jo.3 in
        let z = c.top run jo.2 key in
        subst (λ (qs : List Piece). IsCutSoFar s k (entry r step (Found g emergency seen run said) ∷ past) qs)
        (sym (bears_yes k (bearing s.capture g) jo.0 (λ t. joined t ps) ps jo.1 h))
        (subst (λ (qs : List Piece). IsCutSoFar s k (entry r step (Found g emergency seen run said) ∷ past) (joined jo.0 qs)) (sym z.2)
        (found_yes s k past r step g emergency seen run said jo.0 z.0 z.1 snd rule (subst (λ (qs : List Piece). IsCutSoFar s k past qs) z.2 c) jo.1 h z.3 z.4 key))
    by false h =
        subst (λ (qs : List Piece). IsCutSoFar s k (entry r step (Found g emergency seen run said) ∷ past) qs)
        (sym (bears_no k (bearing s.capture g) jo.0 (λ t. joined t ps) ps jo.1 h))
        (found_no s k past r step g emergency seen run said jo.0 ps snd rule c jo.1 h jo.3)
cut_after s k past r step (Missing g emergency seen ended) ps snd rule c =
    silent s k past r step (Missing g emergency seen ended) ps snd rule c (λ a ms. refl) (λ a. refl) (λ f. refl) refl
cut_after s k past r step (Made g said) ps snd rule c = by (same_key w.own.packet.key k) refl
  where
    w : IsWait s past r g
    w = snd.waits r g rule.0

    by : (b : Bool) → same_key w.own.packet.key k ≡ b
        → IsCutSoFar s k (entry r step (Made g said) ∷ past) (if_bears k (bearing s.capture g) (λ t. piece g (t ∷ []) ∷ ps) ps)
    by true h =
        subst (λ (qs : List Piece). IsCutSoFar s k (entry r step (Made g said) ∷ past) qs)
        (sym (bears_yes k (bearing s.capture g) w.own.packet (λ t. piece g (t ∷ []) ∷ ps) ps w.own.bears h)) (made_yes s k past r step g said ps snd rule c w h)
    by false h =
        subst (λ (qs : List Piece). IsCutSoFar s k (entry r step (Made g said) ∷ past) qs)
        (sym (bears_no k (bearing s.capture g) w.own.packet (λ t. piece g (t ∷ []) ∷ ps) ps w.own.bears h)) (made_no s k past r step g said ps snd rule c w h)
cut_after s k past r step (Refused g) ps snd rule c = by (same_key w.own.packet.key k) refl
  where
    w : IsWait s past r g
    w = snd.waits r g rule

    by : (b : Bool) → same_key w.own.packet.key k ≡ b
        → IsCutSoFar s k (entry r step (Refused g) ∷ past) (if_bears k (bearing s.capture g) (λ t. piece 0 (t ∷ []) ∷ ps) ps)
    by true h =
        subst (λ (qs : List Piece). IsCutSoFar s k (entry r step (Refused g) ∷ past) qs)
        (sym (bears_yes k (bearing s.capture g) w.own.packet (λ t. piece 0 (t ∷ []) ∷ ps) ps w.own.bears h)) (refused_yes s k past r step g ps c w h)
    by false h =
        subst (λ (qs : List Piece). IsCutSoFar s k (entry r step (Refused g) ∷ past) qs)
        (sym (bears_no k (bearing s.capture g) w.own.packet (λ t. piece 0 (t ∷ []) ∷ ps) ps w.own.bears h))
        (keeps s k past (entry r step (Refused g)) ps c (λ a. refl) (λ a l x. (l, x))
        (λ f u b i. no_true (g == f) (λ x. true_false i (subst (λ (v : Facts). same_key v.key k ≡ false) (some_is w.own.bears (ap (bearing s.capture) (eqb-true g f x) ∙ b)) h)))
        (bears_no k (bearing s.capture g) w.own.packet (λ u. u ∷ answered s k past) (answered s k past) w.own.bears h))
cut_after s k past r step (Stored g) ps snd rule c = silent s k past r step (Stored g) ps snd rule c (λ a ms. refl) (λ a. refl) (λ f. refl) refl
cut_after s k past r step (Stopped g) ps snd rule c = silent s k past r step (Stopped g) ps snd rule c (λ a ms. refl) (λ a. refl) (λ f. refl) refl
cut_after s k past r step (Closed g app run freed ended) ps snd rule c =
    silent s k past r step (Closed g app run freed ended) ps snd rule c (λ a ms. refl) (λ a. refl) (λ f. refl) refl
cut_after s k past r step (Idle g app) ps snd rule c = silent s k past r step (Idle g app) ps snd rule c (λ a ms. refl) (λ a. refl) (λ f. refl) refl
cut_after s k past r step (Victim g run) ps snd rule c = silent s k past r step (Victim g run) ps snd rule c (λ a ms. refl) (λ a. refl) (λ f. refl) refl
cut_after s k past r step (AllInUse g count) ps snd rule c = silent s k past r step (AllInUse g count) ps snd rule c (λ a ms. refl) (λ a. refl) (λ f. refl) refl
cut_after s k past r step (Swept round emergency seen count) ps snd rule c =
    silent s k past r step (Swept round emergency seen count) ps snd rule c (λ a ms. refl) (λ a. refl) (λ f. refl) refl
cut_after s k past r step (Drained count) ps snd rule c = silent s k past r step (Drained count) ps snd rule c (λ a ms. refl) (λ a. refl) (λ f. refl) refl

pub cut_so_far : (s : Fixed) (k : Key) (past : List (Entry BucketNote)) → IsLegal s past → IsCutSoFar s k past (pieces s k past)
cut_so_far s k [] l =
    record { cut = record { whole = refl; runs = λ a p. refl; begun = λ a p h. cc; refused = λ f t b i x. cc; apart = tt }; top = λ a l h. cc }
cut_so_far s k (e ∷ past) l = cut_after s k past e.role e.step e.note (pieces s k past) (sound s past l.1) l.0 (cut_so_far s k past l.1)

pub key_cut : (s : Fixed) (k : Key) (past : List (Entry BucketNote)) → IsLegal s past → IsCut s k past (answered s k past) (pieces s k past)
key_cut s k past l = (cut_so_far s k past l).cut

-- in the end it is the whole key list that is cut
pub whole_cut : (s : Fixed) (k : Key) (past : List (Entry BucketNote)) → IsLegal s past → is_drained past ≡ true
    → bucket_of k s.layout.rows ≡ s.number → IsCut s k past (reverse (key_list k (packets_in s.capture.seen))) (pieces s k past)
whole_cut s k past l x mine = subst (λ (ts : List Facts). IsCut s k past ts (pieces s k past)) (all_answered s k past l x mine) (key_cut s k past l)
