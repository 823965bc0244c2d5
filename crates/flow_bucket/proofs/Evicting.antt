-- Evictions.
use Rattle.std.proofs.Common.{◌≡◌, ℕ, ◌==◌, Bool, true, false, not, ◌&&◌, ◌||◌, List, [], ◌∷◌, length, slice_get, remove, Option, Some, None, refl, sym, ◌∙◌, ap, subst, arith, eq-eqb}
use Rattle.std.proofs.lemmas.Option.{slice_get_within}
use Rattle.suri_base.specs.declared.entry.Entry.{Entry}
use Rattle.suri_base.specs.declared.reason.Reason.TheVariants.{Forced}
use Rattle.bucket_rules.specs.declared.fixed.Fixed.{Fixed}
use Rattle.suri_base.specs.declared.entry.BucketNote.{BucketNote}
use Rattle.suri_base.specs.declared.entry.BucketNote.TheVariants.{Victim}
use Rattle.bucket_rules.specs.Row.{Row, Place, detached, off, row, after, is_here, is_unused, is_linked, is_none_of}
use Rattle.bucket_rules.specs.Rule.{IsFirstUnused, newest_clock}
use Rattle.bucket_rules.proofs.Rowing.{off-not, off-now}
use Rattle.bucket_flow.specs.Held.{Held, ended_by, is_unused_held}
use Rattle.bucket_flow.specs.Flows.{find_in, IsVictim, AreUsed, Before}
use Rattle.flow_bucket.specs.LetGo.{IsEnded}
use Rattle.flow_bucket.specs.Stands.{IsFlow, IsHeld, Stands, Did}
use Rattle.bucket_flow.proofs.FlowMap.{place_of_run}
use Rattle.flow_bucket.proofs.Doing.{flow_at, did_remove}
use Rattle.flow_bucket.proofs.Knowing.{clock_last, differs, moved, unused_settled}
use Rattle.flow_bucket.proofs.Parting.{none_alike}

unused_same : (s : Fixed) (w : Row) (f : Held) → IsFlow s w f → is_unused w ≡ is_unused_held f
unused_same s w f k = ap (λ (p : Place). is_linked p && is_none_of w.uses) (sym k.place) ∙ ap (λ (b : Bool). is_linked f.place && b) (sym (none_alike f.uses w.uses k.uses))

clock_same : (s : Fixed) (w : Row) (f : Held) → IsFlow s w f → newest_clock w.members ≡ f.obj.sums.last_clock
clock_same s w f k = ap newest_clock k.object.members ∙ sym (clock_last s w f.obj k.object)

unused_here : (w : Row) → is_unused w ≡ true → is_here w ≡ true
unused_here w h = by (is_linked w.place) (is_none_of w.uses) h
  where
    by : (l b : Bool) → (l && b) ≡ true → (l || not b) ≡ true
    by true b h = refl
    by false b h = cc

-- a run that is linked and unused has a flow
module _ (s : Fixed) (past : List (Entry BucketNote)) (flows : List Held) (st : Stands s past flows) where
  unused_flow : (a : ℕ) → is_unused (row s a past) ≡ true
      → (k : ℕ) × (f : Held) × (slice_get flows k ≡ Some f) × (f.run ≡ a) × IsFlow s (row s a past) f
  unused_flow a h = by (find_in flows a) refl (st.held a)
    where
      by : (o : Option Held) → find_in flows a ≡ o → IsHeld s (row s a past) o
          → (k : ℕ) × (f : Held) × (slice_get flows k ≡ Some f) × (f.run ≡ a) × IsFlow s (row s a past) f
      by None e k = let m = unused_here (row s a past) h in let n : is_here (row s a past) ≡ false = k in cc
      by (Some f) e k = let p = place_of_run flows a f e in (p.0, f, p.1, p.2, k)

  pub none_unused : AreUsed flows (length flows) → (a : ℕ) → is_unused (row s a past) ≡ false
  none_unused used a = by (is_unused (row s a past)) refl
    where
      by : (b : Bool) → is_unused (row s a past) ≡ b → b ≡ false
      by false e = refl
      by true e =
          let u = unused_flow a e in
          let m = used u.0 u.1 (slice_get_within flows u.0 u.1 u.2) u.2 in
          let n : is_unused (row s a past) ≡ false = unused_same s (row s a past) u.1 u.4 ∙ m in cc

  pub first_unused : (i : ℕ) → (v : IsVictim flows (length flows) i) → IsFirstUnused s past v.flow.run
  first_unused i v =
      let own = flow_at s past flows i v.flow st v.there in
      record {
        unused = unused_same s (row s v.flow.run past) v.flow own ∙ v.unused;
        first = λ a h.
            let u = unused_flow a h in
            let b : Before v.flow u.1 = v.first u.0 u.1 (slice_get_within flows u.0 u.1 u.2) u.2 (sym (unused_same s (row s a past) u.1 u.4) ∙ h) in
            let p = clock_same s (row s v.flow.run past) v.flow own in
            let q = clock_same s (row s a past) u.1 u.4 in
            (let l = b.0 in omega (arith, l, p, q), λ e. let l = b.1 (sym p ∙ e ∙ q) in let m = u.3 in omega (arith, l, m));
      }

  pub did_evict : (f i : ℕ) → (v : IsVictim flows (length flows) i)
      → Did s past (Victim f v.flow.run) (remove flows i) (ended_by (off Forced false) v.flow ∷ [])
  did_evict f i v =
      let own = flow_at s past flows i v.flow st v.there in
      let parts = split (is_linked v.flow.place) (is_none_of v.flow.uses) v.unused in
      let now : after s v.flow.run (Victim f v.flow.run) (row s v.flow.run past) ≡ record (row s v.flow.run past) { place = detached (off Forced false) }
      = off-now (v.flow.run == v.flow.run) (off Forced false) (row s v.flow.run past) (ap is_linked (sym own.place) ∙ parts.0) (eq-eqb v.flow.run v.flow.run refl) in
      did_remove s past (Victim f v.flow.run) flows i v.flow (ended_by (off Forced false) v.flow) st v.there refl
      (ap is_here now ∙ ap not (sym (none_alike v.flow.uses (row s v.flow.run past).uses own.uses) ∙ parts.1))
      (subst (λ (w : Row). IsEnded s w (ended_by (off Forced false) v.flow)) (sym now) (record { place = refl; settled = unused_settled s past st.workers st.legal v.flow.run (sym (none_alike v.flow.uses (row s v.flow.run past).uses own.uses) ∙ parts.1); object = moved s (row s v.flow.run past) (detached (off Forced false)) v.flow.obj own.object }))
      (λ a ne. off-not (v.flow.run == a) (off Forced false) (row s a past) (differs v.flow.run a ne))
    where
      split : (p q : Bool) → (p && q) ≡ true → (p ≡ true) × (q ≡ true)
      split true q h = (refl, h)
      split false q h = cc
