-- Looks: what is found, and what is detached.
use Rattle.std.proofs.Common.{◌≡◌, ℕ, ◌==◌, ◌≤◌, Bool, true, false, not, cond, ◌&&◌, ◌||◌, List, [], ◌∷◌, slice_get, slice_set, remove, Option, Some, None, ◌⊎◌, ⊎_elim, inl, inr, refl, sym, ◌∙◌, ap, subst, arith}
use Rattle.std.specs.Option.{option_to_list}
use Rattle.std.proofs.lemmas.Bool.Decides.{nat_tests}
use Rattle.suri_base.specs.Keys.{same_key}
use Rattle.suri_base.proofs.SameKeys.{same_key-is}
use Rattle.suri_base.specs.declared.entry.Entry.{Entry}
use Rattle.suri_base.specs.declared.facts.Facts.{Facts}
use Rattle.suri_base.specs.declared.reason.Reason.TheVariants.{Timeout, TcpReuse}
use Rattle.suri_base.specs.declared.stream.Offer.{Offer}
use Rattle.flow_sum.specs.Run.{with_one_more}
use Rattle.flow_object.specs.Standing.{StandsFor}
use Rattle.flow_expiry.specs.Expiry.{object_expired, object_reused}
use Rattle.flow_object.specs.Ending.{EndedFlow}
use Rattle.bucket_rules.specs.declared.fixed.Fixed.{Fixed}
use Rattle.suri_base.specs.declared.entry.BucketNote.{BucketNote}
use Rattle.suri_base.specs.declared.entry.BucketNote.TheVariants.{Found, Missing}
use Rattle.bucket_rules.specs.Packets.{bearing, of_packet, has_key, is_expired, is_reused}
use Rattle.bucket_rules.specs.Own.{is_needing}
use Rattle.bucket_rules.specs.Row.{Row, detached, off, look_off, bears_key, had_expired, takes, joins, row, after, has, is_here, is_linked, is_none_of, is_begun, with_packet}
use Rattle.bucket_rules.specs.Rule.{MayLook, Rule}
use Rattle.bucket_rules.proofs.Words.{cond_other, cond_this}
use Rattle.bucket_rules.proofs.Rowing.{off-not, off-now, off-unlinked}
use Rattle.bucket_flow.specs.declared.flow.Cause.{Cause}
use Rattle.bucket_flow.specs.Held.{Held, Joined, StandsIf, cut_at, ended_by, linked_with, off_by}
use Rattle.bucket_flow.specs.Flows.{NonePasses, find_in}
use Rattle.flow_bucket.specs.LetGo.{IsEnded, runs}
use Rattle.flow_bucket.specs.Stands.{IsFlow, IsHeld, Stands, Did, run_of}
use Rattle.bucket_flow.proofs.FlowMap.{place_of_run}
use Rattle.flow_bucket.proofs.Doing.{flow_at, did_same, did_set, did_remove}
use Rattle.flow_bucket.proofs.Knowing.{expired_same, key_same, moved, reused_same, unused_settled}
use Rattle.flow_bucket.proofs.Parting.{none_alike}
use Rattle.bucket_rules.proofs.Soundness.{sound}

pub and_split : (p q : Bool) → (p && q) ≡ true → (p ≡ true) × (q ≡ true)
and_split true q h = (refl, h)
and_split false q h = cc

-- a run that is linked and has the key has a flow that is found
module _ (s : Fixed) (past : List (Entry BucketNote)) (flows : List Held) (f : ℕ) (t : Facts) (st : Stands s past flows) (b : bearing s.capture f ≡ Some t) where
  flow_of_key : (a : ℕ) → is_linked (row s a past).place ≡ true → has_key (row s a past).members t.key ≡ true
      → (k : ℕ) × (g : Held) × (slice_get flows k ≡ Some g) × (g.run ≡ a) × (linked_with t.key g ≡ true)
  flow_of_key a l h = by (find_in flows a) refl (st.held a)
    where
      both : (p q : Bool) → p ≡ true → q ≡ true → (p && q) ≡ true
      both true q h k = k
      both false q h k = h

      by : (o : Option Held) → find_in flows a ≡ o → IsHeld s (row s a past) o
          → (k : ℕ) × (g : Held) × (slice_get flows k ≡ Some g) × (g.run ≡ a) × (linked_with t.key g ≡ true)
      by None e k = let m : is_here (row s a past) ≡ true = ap (λ (v : Bool). v || not (is_none_of (row s a past).uses)) l in let n : is_here (row s a past) ≡ false = k in cc
      by (Some g) e k =
          let p = place_of_run flows a g e in
          (p.0, g, p.1, p.2, both (is_linked g.place) (same_key g.obj.sums.key t.key) (ap is_linked k.place ∙ l) (sym (key_same s (row s a past) g.obj t.key k.object) ∙ h))

  -- no flow is found
  pub nobody : NonePasses (linked_with t.key) flows → (a : ℕ) → is_linked (row s a past).place ≡ true
      → has_key (row s a past).members t.key ≡ true → ⊥
  nobody none a l h =
      let u = flow_of_key a l h in
      let n = none u.0 u.1 u.2 in
      let m = u.4 in cc

  -- what the flow that is found tells of its run
  pub record Target (g : Held) : Type 0 where
    pub flow : IsFlow s (row s g.run past) g
    pub linked : is_linked (row s g.run past).place ≡ true
    pub key : has_key (row s g.run past).members t.key ≡ true
    pub same : g.obj.sums.key ≡ t.key

  pub target : (i : ℕ) (g : Held) → slice_get flows i ≡ Some g → linked_with t.key g ≡ true → Target g
  target i g e passes =
      let k = flow_at s past flows i g st e in
      let w = and_split (is_linked g.place) (same_key g.obj.sums.key t.key) passes in
      record { flow = k; linked = ap is_linked (sym k.place) ∙ w.0; key = key_same s (row s g.run past) g.obj t.key k.object ∙ w.1; same = same_key-is g.obj.sums.key t.key w.1 }

  -- the linked run of the key is the flow's
  pub only : (g : Held) → Target g → (a : ℕ) → is_linked (row s a past).place ≡ true → has_key (row s a past).members t.key ≡ true → a ≡ g.run
  only g k a l h = (sound s past st.legal).one a g.run t.key l h k.linked k.key

  takes_off : (emergency : Bool) (a : ℕ)
      → (is_linked (row s a past).place ≡ true → has_key (row s a past).members t.key ≡ true → takes emergency (row s a past) t ≡ false)
      → joins s f emergency (row s a past) ≡ false
  takes_off emergency a h = ap (λ (o : Option Facts). of_packet o (λ u. takes emergency (row s a past) u)) b ∙ by (is_linked (row s a past).place) (has_key (row s a past).members t.key) refl refl
    where
      by : (l k : Bool) → is_linked (row s a past).place ≡ l → has_key (row s a past).members t.key ≡ k → takes emergency (row s a past) t ≡ false
      by true true e m = h e m
      by true false e m = off_key (is_linked (row s a past).place) (has_key (row s a past).members t.key) (is_expired (row s a past).members t.clock emergency) (is_reused (row s a past).members t) m
        where
          off_key : (p q x r : Bool) → q ≡ false → (p && q && not x && not r) ≡ false
          off_key true true x r e = cc
          off_key true false x r e = refl
          off_key false q x r e = refl
      by false k e m = ap (λ (p : Bool). p && has_key (row s a past).members t.key && not (is_expired (row s a past).members t.clock emergency) && not (is_reused (row s a past).members t)) e

  -- another run isn't touched by a look that finds nothing
  missed : (emergency : Bool) (seen ended a : ℕ)
      → (is_linked (row s a past).place ≡ true → has_key (row s a past).members t.key ≡ true → ⊥)
      → after s a (Missing f emergency seen ended) (row s a past) ≡ row s a past
  missed emergency seen ended a n = by (is_linked (row s a past).place) (has_key (row s a past).members t.key) refl refl
    where
      bears : bears_key s f (row s a past) ≡ has_key (row s a past).members t.key
      bears = ap (λ (o : Option Facts). of_packet o (λ u. has_key (row s a past).members u.key)) b

      by : (l k : Bool) → is_linked (row s a past).place ≡ l → has_key (row s a past).members t.key ≡ k
          → after s a (Missing f emergency seen ended) (row s a past) ≡ row s a past
      by true true e m = absurd (n e m)
      by true false e m = off-not (bears_key s f (row s a past)) (look_off s f emergency (row s a past)) (row s a past) (bears ∙ m)
      by false k e m = off-unlinked (bears_key s f (row s a past)) (look_off s f emergency (row s a past)) (row s a past) e

  -- and the run that is found is detached
  hit : (emergency : Bool) (seen ended : ℕ) (g : Held) → Target g → after s g.run (Missing f emergency seen ended) (row s g.run past) ≡ record (row s g.run past) { place = detached (look_off s f emergency (row s g.run past)) }
  hit emergency seen ended g k = off-now (bears_key s f (row s g.run past)) (look_off s f emergency (row s g.run past)) (row s g.run past) k.linked (ap (λ (o : Option Facts). of_packet o (λ u. has_key (row s g.run past).members u.key)) b ∙ k.key)

  -- the rule, from what the call did
  pub rule_missing : (role : ℕ) (emergency : Bool) (seen : ℕ) (next : List Held) (ended : Option EndedFlow) → MayLook s past role f
      → ((a : ℕ) → joins s f emergency (row s a past) ≡ false)
      → Did s past (Missing f emergency seen (run_of ended)) next (option_to_list ended) → Rule s past role (Missing f emergency seen (run_of ended))
  rule_missing role emergency seen next ended may none did = (may, none, λ a p. sym (did.gone.whole a) ∙ by a p ended)
    where
      zero_not : (a : ℕ) → 1 ≤ a → false ≡ (a == 0)
      zero_not a h = grind (arith, nat_tests)

      flip : (r a : ℕ) → ((r == a) || false) ≡ (a == r)
      flip r a = grind (arith, nat_tests)

      by : (a : ℕ) → 1 ≤ a → (o : Option EndedFlow) → has (runs (option_to_list o)) a ≡ (a == run_of o)
      by a p None = zero_not a p
      by a p (Some e) = flip e.run a

  pub none_joins : (emergency : Bool) → NonePasses (linked_with t.key) flows → (a : ℕ) → joins s f emergency (row s a past) ≡ false
  none_joins emergency none a = takes_off emergency a (λ l h. absurd (nobody none a l h))

  pub did_none : (emergency : Bool) (seen ended : ℕ) → NonePasses (linked_with t.key) flows → Did s past (Missing f emergency seen ended) flows []
  did_none emergency seen ended none = did_same s past (Missing f emergency seen ended) flows st (λ a. missed emergency seen ended a (nobody none a))

  -- why a packet cuts

  cut_split : (x r : Bool) (p q : Cause) → cond x (Some p) (cond r (Some q) None) ≡ None → (x ≡ false) × (r ≡ false)
  cut_split true r p q h = cc
  cut_split false true p q h = cc
  cut_split false false p q h = (refl, refl)

  cut_why : (x r : Bool) (p q d : Cause) → cond x (Some p) (cond r (Some q) None) ≡ Some d
      → ((x ≡ true) × (p ≡ d)) ⊎ ((x ≡ false) × (r ≡ true) × (q ≡ d))
  cut_why true r p q d h = inl (refl, cc)
  cut_why false true p q d h = inr (refl, refl, cc)
  cut_why false false p q d h = cc

  all_four : (p q x r : Bool) → p ≡ true → q ≡ true → x ≡ false → r ≡ false → (p && q && not x && not r) ≡ true
  all_four true true false false a b c d = refl
  all_four true true false true a b c d = cc
  all_four true true true r a b c d = cc
  all_four true false x r a b c d = cc
  all_four false q x r a b c d = cc

  not_all : (p q x r : Bool) → (x ≡ true) ⊎ (r ≡ true) → (p && q && not x && not r) ≡ false
  not_all true true true r h = refl
  not_all true true false true h = refl
  not_all true true false false (inl h) = cc
  not_all true true false false (inr h) = cc
  not_all true false x r h = refl
  not_all false q x r h = refl

  module _ (emergency : Bool) (g : Held) (k : Target g) where
    pub found_takes : cut_at g.obj t emergency ≡ None → joins s f emergency (row s g.run past) ≡ true
    found_takes h =
        let c = cut_split (object_expired g.obj t.clock emergency) (object_reused g.obj t) _ _ h in
        ap (λ (o : Option Facts). of_packet o (λ u. takes emergency (row s g.run past) u)) b
        ∙ all_four (is_linked (row s g.run past).place) (has_key (row s g.run past).members t.key) (is_expired (row s g.run past).members t.clock emergency) (is_reused (row s g.run past).members t)
        k.linked k.key (expired_same s (row s g.run past) g.obj t.clock emergency k.flow.object ∙ c.0) (reused_same s (row s g.run past) g.obj t k.flow.object ∙ c.1)

    expired_why : had_expired s f emergency (row s g.run past) ≡ object_expired g.obj t.clock emergency
    expired_why = ap (λ (o : Option Facts). of_packet o (λ u. is_expired (row s g.run past).members u.clock emergency)) b ∙ expired_same s (row s g.run past) g.obj t.clock emergency k.flow.object

    why_off : (d : Cause) → cut_at g.obj t emergency ≡ Some d → look_off s f emergency (row s g.run past) ≡ off d.reason d.emergency
    why_off d h = ⊎_elim
        (λ c. ap (λ (v : Bool). cond v (off Timeout emergency) (off TcpReuse false)) (expired_why ∙ c.0) ∙ ap (λ (x : Cause). off x.reason x.emergency) c.1)
        (λ c. ap (λ (v : Bool). cond v (off Timeout emergency) (off TcpReuse false)) (expired_why ∙ c.0) ∙ ap (λ (x : Cause). off x.reason x.emergency) c.2)
        (cut_why (object_expired g.obj t.clock emergency) (object_reused g.obj t) _ _ d h)

    pub cut_joins : (d : Cause) → cut_at g.obj t emergency ≡ Some d → (a : ℕ) → joins s f emergency (row s a past) ≡ false
    cut_joins d h a = takes_off emergency a (λ l m. subst (λ (v : ℕ). takes emergency (row s v past) t ≡ false) (sym (only g k a l m))
        (not_all (is_linked (row s g.run past).place) (has_key (row s g.run past).members t.key) (is_expired (row s g.run past).members t.clock emergency) (is_reused (row s g.run past).members t)
        (⊎_elim (λ c. inl (expired_same s (row s g.run past) g.obj t.clock emergency k.flow.object ∙ c.0)) (λ c. inr (reused_same s (row s g.run past) g.obj t k.flow.object ∙ c.1)) (cut_why (object_expired g.obj t.clock emergency) (object_reused g.obj t) _ _ d h))))

    -- the flow stays, detached
    pub did_off : (seen ended i : ℕ) (d : Cause) → slice_get flows i ≡ Some g → cut_at g.obj t emergency ≡ Some d
        → is_none_of g.uses ≡ false → Did s past (Missing f emergency seen ended) (slice_set flows i (off_by d g)) []
    did_off seen ended i d e h u =
        let w = row s g.run past in
        did_set s past (Missing f emergency seen ended) flows i g (off_by d g) st e refl
        (subst (λ (v : Row). IsFlow s v (off_by d g)) (sym (hit emergency seen ended g k))
        (record {
          place = ap detached (sym (why_off d h));
          begun = refl;
          uses = k.flow.uses;
          object = moved s w (detached (look_off s f emergency w)) g.obj k.flow.object;
          here = ap not (sym (none_alike g.uses w.uses k.flow.uses) ∙ u);
        }))
        (λ a ne. missed emergency seen ended a (λ l m. ne (sym (only g k a l m))))

    -- the flow leaves
    pub did_left : (seen ended i : ℕ) (d : Cause) → slice_get flows i ≡ Some g → cut_at g.obj t emergency ≡ Some d → is_none_of g.uses ≡ true
        → Did s past (Missing f emergency seen ended) (remove flows i) (ended_by (off d.reason d.emergency) g ∷ [])
    did_left seen ended i d e h u =
        let w = row s g.run past in
        did_remove s past (Missing f emergency seen ended) flows i g (ended_by (off d.reason d.emergency) g) st e refl
        (ap is_here (hit emergency seen ended g k) ∙ ap not (sym (none_alike g.uses w.uses k.flow.uses) ∙ u))
        (subst (λ (v : Row). IsEnded s v (ended_by (off d.reason d.emergency) g)) (sym (hit emergency seen ended g k))
        (record { place = ap detached (why_off d h); settled = unused_settled s past st.workers st.legal g.run (sym (none_alike g.uses w.uses k.flow.uses) ∙ u); object = moved s w (detached (look_off s f emergency w)) g.obj k.flow.object }))
        (λ a ne. missed emergency seen ended a (λ l m. ne (sym (only g k a l m))))

    -- the flow takes the packet
    found_row : (seen : ℕ) (said : Offer) → after s g.run (Found f emergency seen g.run said) (row s g.run past)
        ≡ record (row s g.run past) { members = t ∷ (row s g.run past).members; uses = f ∷ (row s g.run past).uses; asks = is_needing said }
    found_row seen said = cond_this g.run (record (row s g.run past) { members = with_packet (bearing s.capture f) (row s g.run past).members; uses = f ∷ (row s g.run past).uses; asks = is_needing said }) (row s g.run past)
        ∙ ap (λ (o : Option Facts). record (row s g.run past) { members = with_packet o (row s g.run past).members; uses = f ∷ (row s g.run past).uses; asks = is_needing said }) b

    -- the object stands for the run, each packet of which was settled
    pub stood : (row s g.run past).asks ≡ false → StandsFor g.obj s.capture.bytes k.flow.object.run (row s g.run past).judged
    stood settled = subst (λ (x : Bool). StandsIf x g.obj s.capture.bytes k.flow.object.run (row s g.run past).judged) settled k.flow.object.stands

    pub did_found : (seen i : ℕ) (said : Offer) (h : Held) → slice_get flows i ≡ Some g → t.no ≡ f → (row s g.run past).asks ≡ false
        → Joined s.capture.bytes t said g h
        → Did s past (Found f emergency seen g.run said) (slice_set flows i h) []
    did_found seen i said h e n settled j =
        let w = row s g.run past in
        let o = k.flow.object in
        did_set s past (Found f emergency seen g.run said) flows i g h st e j.run
        (subst (λ (v : Row). IsFlow s v h) (sym (found_row seen said))
        (record {
          place = j.place ∙ k.flow.place;
          begun = ap is_begun j.place ∙ k.flow.begun;
          uses = λ u. j.uses u ∙ ap (λ (v : Bool). (t.no == u) || v) (k.flow.uses u) ∙ ap (λ (x : ℕ). (x == u) || has w.uses u) n;
          object = record {
            run = with_one_more t o.run;
            members = ap (λ ms. t ∷ ms) o.members;
            depth = j.depth ∙ o.depth;
            stops = j.stops ∙ o.stops;
            nodes = j.nodes ∙ o.nodes;
            stands = j.object o.run w.judged (stood settled);
          };
          here = ap (λ (v : Bool). v || true) k.linked;
        }))
        (λ a ne. cond_other g.run a _ (row s a past) ne)
