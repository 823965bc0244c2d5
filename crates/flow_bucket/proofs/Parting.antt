-- A sweep and the end of a capture, flow by flow.
use Rattle.std.proofs.Common.{◌≡◌, ℕ, ◌==◌, Bool, true, false, not, cond, ◌&&◌, ◌||◌, List, [], ◌∷◌, map, filter, Option, Some, None, refl, sym, ◌∙◌, ap, subst, arith}
use Rattle.std.proofs.lemmas.Bool.Decides.{nat_tests}
use Rattle.suri_base.specs.Capture.{IsCapture}
use Rattle.suri_base.specs.declared.entry.Entry.{Entry}
use Rattle.suri_base.specs.declared.facts.Facts.{Facts}
use Rattle.suri_base.specs.declared.reason.Reason.TheVariants.{Timeout, Shutdown}
use Rattle.flow_sum.specs.Run.{Run}
use Rattle.flow_expiry.specs.Expiry.{object_expired}
use Rattle.flow_object.specs.Ending.{EndedFlow}
use Rattle.std.specs.List.Sorted.{IsPermutation, IsNonDecreasingBy}
use Rattle.bucket_rules.specs.declared.fixed.Fixed.{Fixed}
use Rattle.suri_base.specs.declared.entry.BucketNote.{BucketNote}
use Rattle.suri_base.specs.declared.entry.BucketNote.TheVariants.{Swept, Drained}
use Rattle.bucket_rules.specs.Packets.{bearing, is_due, is_expired, is_quiet, of_packet, round_clock, round_start, last_clock}
use Rattle.bucket_rules.specs.Row.{Row, Off, Place, unbegun, linked, detached, off, off_if, end_off, row, after, has, is_here, is_linked, is_none_of}
use Rattle.bucket_rules.specs.Rule.{MayDrain}
use Rattle.bucket_rules.specs.Sound.{IsSound, IsNewest, IfRun}
use Rattle.bucket_flow.specs.Held.{Held, leaves, ended_of, is_detached}
use Rattle.bucket_flow.specs.Flows.{detached_for, stays, is_due_held, swept_held, drained_held, end_off_held}
use Rattle.flow_bucket.specs.LetGo.{IsObject}
use Rattle.flow_bucket.specs.Stands.{IsFlow, IsHeld, Stands, Did}
use Rattle.bucket_flow.proofs.Captured.{bearing_number}
use Rattle.flow_bucket.proofs.Doing.{Parted, did_all}
use Rattle.flow_bucket.proofs.Knowing.{moved, expired_same, last_same, unused_settled}
use Rattle.bucket_rules.proofs.Soundness.{sound}

-- lists with the same frames are empty together
first_there : (v : ℕ) (b : Bool) → ((v == v) || b) ≡ false → ⊥
first_there v b h = grind (arith, nat_tests)

pub none_has : (vs : List ℕ) → ((u : ℕ) → has vs u ≡ false) → is_none_of vs ≡ true
none_has [] h = refl
none_has (v ∷ vs) h = absurd (first_there v (has vs v) (h v))

pub none_alike : (us vs : List ℕ) → ((u : ℕ) → has us u ≡ has vs u) → is_none_of us ≡ is_none_of vs
none_alike [] vs h = sym (none_has vs (λ u. sym (h u)))
none_alike (u ∷ us) [] h = absurd (first_there u (has us u) (h u))
none_alike (u ∷ us) (v ∷ vs) h = refl

-- a flow that the row keeps in the bucket stays
pub kept_stays : (w : Row) (f : Held) → f.place ≡ w.place → is_none_of f.uses ≡ is_none_of w.uses → is_here w ≡ true → stays f ≡ true
kept_stays w f p u h = by f.place (is_none_of f.uses) refl refl
  where
    by : (q : Place) (b : Bool) → f.place ≡ q → is_none_of f.uses ≡ b → not (is_detached q && b) ≡ true
    by unbegun b e m = refl
    by linked b e m = refl
    by (detached o) false e m = refl
    by (detached o) true e m = absurd (gone (ap is_linked (sym p ∙ e)) (sym u ∙ m))
      where
        gone : is_linked w.place ≡ false → is_none_of w.uses ≡ true → ⊥
        gone l n = let k : is_here w ≡ false = ap (λ (b : Bool). b || not (is_none_of w.uses)) l ∙ ap not n in cc

-- a flow and its row are detached together
pub parted_by : (s : Fixed) (w : Row) (f : Held) (o q : Off) (t u : Bool) → IsFlow s w f → (is_none_of w.uses ≡ true → w.asks ≡ false)
    → o ≡ q → t ≡ u → Parted s (off_if t o w) (detached_for q u f)
parted_by s w f o q t u k settled same tests =
    subst (λ (b : Bool). Parted s (off_if t o w) (cond b (record f { place = detached q }) f)) (ap (λ (p : Place). is_linked p && t) (sym k.place) ∙ ap (λ (b : Bool). is_linked f.place && b) tests)
    (subst (λ (x : Off). Parted s (off_if t o w) (cond (is_linked w.place && t) (record f { place = detached x }) f)) same (by (is_linked w.place && t)))
  where
    nones : is_none_of f.uses ≡ is_none_of w.uses
    nones = none_alike f.uses w.uses k.uses

    off_row : IsObject s (record w { place = detached o }) f.obj
    off_row = moved s w (detached o) f.obj k.object

    by : (b : Bool) → Parted s (cond b (record w { place = detached o }) w) (cond b (record f { place = detached o }) f)
    by false = let yes = kept_stays w f k.place nones k.here in record {
      held = subst (λ (b : Bool). IsHeld s w (cond b (Some f) None)) (sym yes) k;
      ended = λ l. absurd (clash (leaves f) l yes);
      here = k.here ∙ sym yes;
    }
      where
        clash : (b : Bool) → b ≡ true → not b ≡ true → ⊥
        clash true l y = cc
        clash false l y = cc
    by true = record {
      held = split (is_none_of f.uses) refl;
      ended = λ l. record { place = refl; settled = settled (sym nones ∙ l); object = off_row };
      here = ap not (sym nones);
    }
      where
        split : (b : Bool) → is_none_of f.uses ≡ b → IsHeld s (record w { place = detached o }) (cond (not b) (Some (record f { place = detached o })) None)
        split true e = ap not (sym nones ∙ e)
        split false e = record { place = refl; begun = refl; uses = k.uses; object = off_row; here = ap not (sym nones ∙ e) }

-- a run that isn't here is none after it either
pub off_away : (t : Bool) (o : Off) (w : Row) → is_here w ≡ false → is_here (off_if t o w) ≡ false
off_away t o w h = by (is_linked w.place) refl
  where
    by : (l : Bool) → is_linked w.place ≡ l → is_here (cond (l && t) (record w { place = detached o }) w) ≡ false
    by true e = absurd (clash e)
      where
        clash : is_linked w.place ≡ true → ⊥
        clash l = let m : is_here w ≡ true = ap (λ (b : Bool). b || not (is_none_of w.uses)) l in cc
    by false e = h

-- the newest member is the capture's
pub newest_known : (s : Fixed) (past : List (Entry BucketNote)) (a : ℕ) (r : Run) → IsCapture s.capture → IsSound s past
    → (row s a past).members ≡ r.newest ∷ r.older → bearing s.capture r.newest.no ≡ Some r.newest
newest_known s past a r is snd e =
    let k : IsNewest s past r = subst (λ (ms : List Facts). IfRun ms (λ u. IsNewest s past u)) e (snd.newest a) in
    subst (λ (x : ℕ). bearing s.capture x ≡ Some r.newest) (sym (bearing_number s.capture k.frame r.newest is k.bears)) k.bears

-- and tells when the flow is due
due_same : (s : Fixed) (past : List (Entry BucketNote)) (f : Held) (round : ℕ) (emergency : Bool) → IsCapture s.capture → IsSound s past
    → IsFlow s (row s f.run past) f
    → is_due s round emergency (row s f.run past).members ≡ is_due_held s.capture (round_start s round) (round_clock s round) emergency f
due_same s past f round emergency is snd k =
    let o = k.object in
    ap (λ (ms : List Facts). is_due s round emergency ms) o.members
    ∙ ap (λ (b : Bool). b && is_quiet (round_start s round) o.run.newest) (sym (ap (λ (ms : List Facts). is_expired ms (round_clock s round) emergency) o.members) ∙ expired_same s (row s f.run past) f.obj (round_clock s round) emergency o)
    ∙ ap (λ (x : Option Facts). object_expired f.obj (round_clock s round) emergency && of_packet x (λ m. is_quiet (round_start s round) m)) (sym (newest_known s past f.run o.run is snd o.members))
    ∙ ap (λ (n : ℕ). object_expired f.obj (round_clock s round) emergency && of_packet (bearing s.capture n) (λ m. is_quiet (round_start s round) m)) (sym (last_same s (row s f.run past) f.obj o))

run_kept : (o : Off) (t : Bool) (f : Held) → (detached_for o t f).run ≡ f.run
run_kept o t f = by (is_linked f.place && t)
  where
    by : (b : Bool) → (cond b (record f { place = detached o }) f).run ≡ f.run
    by true = refl
    by false = refl

pub did_sweep : (s : Fixed) (past : List (Entry BucketNote)) (flows : List Held) (round : ℕ) (emergency : Bool) (seen count : ℕ) (es : List EndedFlow)
    → IsCapture s.capture → Stands s past flows
    → IsPermutation (map ended_of (filter leaves (map (swept_held s.capture (round_start s round) (round_clock s round) emergency) flows))) es
    → IsNonDecreasingBy (λ (e : EndedFlow). e.run) es
    → Did s past (Swept round emergency seen count) (filter stays (map (swept_held s.capture (round_start s round) (round_clock s round) emergency) flows)) es
did_sweep s past flows round emergency seen count es is st p sorted =
    did_all s past (Swept round emergency seen count) flows (swept_held s.capture (round_start s round) (round_clock s round) emergency) (λ f. run_kept _ _ f) st
    (λ f k. parted_by s (row s f.run past) f (off Timeout emergency) (off Timeout emergency) _ _ k (unused_settled s past st.workers st.legal f.run) refl (due_same s past f round emergency is (sound s past st.legal) k))
    (λ a h. off_away _ _ (row s a past) h)
    es p sorted

end_same : (s : Fixed) (w : Row) (f : Held) → IsObject s w f.obj → end_off s w ≡ end_off_held (last_clock s) f
end_same s w f k = ap (λ (b : Bool). cond b (off Timeout false) (off Shutdown false)) (expired_same s w f.obj (last_clock s) false k)

pub did_drain : (s : Fixed) (past : List (Entry BucketNote)) (flows : List Held) (count : ℕ) (es : List EndedFlow) → Stands s past flows
    → IsPermutation (map ended_of (filter leaves (map (drained_held (last_clock s)) flows))) es → IsNonDecreasingBy (λ (e : EndedFlow). e.run) es
    → Did s past (Drained count) (filter stays (map (drained_held (last_clock s)) flows)) es
did_drain s past flows count es st p sorted =
    did_all s past (Drained count) flows (drained_held (last_clock s)) (λ f. run_kept _ _ f) st
    (λ f k. parted_by s (row s f.run past) f (end_off s (row s f.run past)) (end_off_held (last_clock s) f) true true k (unused_settled s past st.workers st.legal f.run) (end_same s (row s f.run past) f k.object) refl)
    (λ a h. off_away _ _ (row s a past) h)
    es p sorted

-- where every frame of the bucket is closed, no run is used
pub drained_unused : (s : Fixed) (past : List (Entry BucketNote)) (role : ℕ) → IsSound s past → MayDrain s past role → (a : ℕ)
    → is_none_of (row s a past).uses ≡ true
drained_unused s past role snd may a = none_has (row s a past).uses (λ u. by u (has (row s a past).uses u) refl)
  where
    by : (u : ℕ) (b : Bool) → has (row s a past).uses u ≡ b → has (row s a past).uses u ≡ false
    by u false e = e
    by u true e = let k = snd.uses a u e in let m = may.done u k.packet k.bears k.bucket in let n = k.unclosed in cc

-- and no run is left after it
pub drained_empty : (s : Fixed) (past : List (Entry BucketNote)) (role count : ℕ) → IsSound s past → MayDrain s past role → (a : ℕ)
    → is_here (after s a (Drained count) (row s a past)) ≡ false
drained_empty s past role count snd may a = by (is_linked (row s a past).place) refl
  where
    none : is_none_of (row s a past).uses ≡ true
    none = drained_unused s past role snd may a

    by : (l : Bool) → is_linked (row s a past).place ≡ l → is_here (cond (l && true) (record (row s a past) { place = detached (end_off s (row s a past)) }) (row s a past)) ≡ false
    by true e = ap not none
    by false e = ap (λ (b : Bool). b || not (is_none_of (row s a past).uses)) e ∙ ap not none
