-- What a worker may call where it stands in its script.
use Rattle.std.proofs.Common.{◌≡◌, ℕ, zero, suc, ◌+◌, ◌≤◌, ◌<◌, ◌^◌, ◌==◌, Bool, true, ◌&&◌, List, [], ◌∷◌, ◌++◌, length, Some, None, arith, inl, refl, sym, ◌∙◌, ap, subst, mod-lt, ◌/◌}
use Rattle.std.specs.Prelude.{All}
use Rattle.std.proofs.lemmas.List.{length-map}
use Rattle.bucket_laws.proofs.Listing.{bearing_has}
use Rattle.bucket_rules.specs.Own.{awaits, is_refused, owes}
use Rattle.bucket_rules.specs.Rule.{IsLegal, IsPacketOf}
use Rattle.flow_bucket.specs.declared.calls.BucketCall.TheVariants as call
use Rattle.flow_object.specs.Ending.{EndedFlow}
use Rattle.flow_worker.specs.Standing.{IsAt}
use Rattle.flow_worker.proofs.Refusing.{refused_same}
use Rattle.flow_worker.proofs.Seen.{seen_legal}
use Rattle.flow_worker.proofs.Short.{few_acts}
use Rattle.flow_worker.proofs.Words.{and_true, only_true, same_yes, truth_yes}
use Rattle.flow_bucket.specs.Bucket.{fixed_of}
use Rattle.flow_bucket.specs.Stands.{BucketMay, BucketAnswers}
use Rattle.hist_lock.specs.Locks.{seen_by}
use Rattle.lock_rows.specs.Rows.{IsGood}
use Rattle.lock_rows.proofs.Placed.{pairs_length}
use Rattle.role_steps.specs.Finishing.{MayFinish, given}
use Rattle.role_steps.proofs.Items.{items_finish}
use Rattle.role_steps.specs.Roles.{Fits, IsShared, MayOnBucket, number_of, seen, setup_of}
use Rattle.role_steps.specs.declared.roles.Passes.{Passes}
use Rattle.role_steps.specs.declared.roles.Shared.{Shared}
use Rattle.role_steps.specs.declared.roles.Worker.{Worker}
use Rattle.run_laws.proofs.Dealt.{IsMine}
use Rattle.run_laws.proofs.Notes.{awaits_are, awaits_of, fresh_are, fresh_of, notes_in, open_are, open_of, owes_are, owes_by, own_notes, own_notes_are}
use Rattle.run_laws.proofs.Scripting.{Knows, CanAct, can_act, in_left, knows}
use Rattle.run_laws.specs.Setting.{IsLayout}
use Rattle.run_rules.specs.Acts.{Act, on_bucket}
use Rattle.run_rules.specs.Growing.{GrewFor}
use Rattle.run_rules.specs.Histories.{bucket_at}
use Rattle.run_rules.specs.Setup.{Setup, bucket_for, fixed_at}
use Rattle.run_rules.specs.Worker.{Stage, Stand, bucket_step, closing, denied, evicting, granted, held_at, is_for, is_read, look_on, looking, settling}
use Rattle.suri_base.specs.Capture.{HasFacts}
use Rattle.suri_base.specs.Hash.{fnv1a, key_bytes}
use Rattle.suri_base.specs.Keys.{same_truth}
use Rattle.suri_base.specs.declared.entry.BucketNote.{BucketNote}
use Rattle.suri_base.specs.declared.entry.BucketNote.TheVariants.{Found}
use Rattle.suri_base.specs.declared.entry.Entry.{Entry}
use Rattle.suri_base.specs.declared.facts.Facts.{Facts}
use Rattle.suri_base.specs.declared.stream.Offer.TheVariants as offer

pub few_given : (n : ℕ) → length (given n) ≤ 1
few_given zero = omega arith
few_given (suc n) = omega arith

-- as many histories are seen as there are buckets
seen_rows : (s : Shared) (p : Passes) → IsShared s → Fits s p → length (seen p).buckets ≡ s.layout.rows
seen_rows s p sh f =
    let count : length p.buckets.items ≡ length s.buckets.items = pairs_length (λ l q. IsGood fixed_of BucketMay BucketAnswers (number_of p) l q) s.buckets.items p.buckets.items f.buckets in
    omega (arith, count, sh.rows, length-map p.buckets.items (λ q. seen_by q))

-- a worker's packet has a bucket
real_home : (w : Setup) (role f : ℕ) → IsMine w role f → 1 ≤ w.layout.rows → bucket_for w f < w.layout.rows
real_home w role f m h = subst (λ (x : ℕ). x < w.layout.rows) m.bucket (mod-lt (fnv1a (key_bytes m.packet.key) / 256) h)

module _ (s : Shared) (k : Worker) (sh : IsShared s) (before : List Act) (st : Stand) (is : IsAt s k before st) where
  -- what it knows at its stage
  pub knows_at : (p : Stage) → st.stage ≡ p → Knows (setup_of s) (number_of k.passes) p st.batch st.rounds before
  knows_at p stage = subst (λ (q : Stage). Knows (setup_of s) (number_of k.passes) q st.batch st.rounds before) stage (knows (setup_of s) (number_of k.passes) is.setup before st is.stood)

  -- of a bucket, what the role noted there
  notes_at : (b : ℕ) → b < s.layout.rows → own_notes (number_of k.passes) (bucket_at b (seen k.passes).buckets) ≡ notes_in b before
  notes_at b low = own_notes_are (setup_of s) (seen k.passes) (number_of k.passes) b before is.own (omega (arith, low, seen_rows s k.passes sh is.fits))

  owes_at : (b : ℕ) (o : _) → b < s.layout.rows → owes_by (notes_in b before) ≡ o → owes (number_of k.passes) (bucket_at b (seen k.passes).buckets) ≡ o
  owes_at b o low e = owes_are (number_of k.passes) (bucket_at b (seen k.passes).buckets) ∙ (ap owes_by (notes_at b low) ∙ e)

  awaits_at : (f b : ℕ) → IsMine (setup_of s) (number_of k.passes) f → b ≡ bucket_for (setup_of s) f → awaits_of f (notes_in (bucket_for (setup_of s) f) before) ≡ true
      → awaits (number_of k.passes) f (bucket_at b (seen k.passes).buckets) ≡ true
  awaits_at f b mine home e =
      let low = real_home (setup_of s) (number_of k.passes) f mine is.setup.layout.rows.0 in
      subst (λ (c : ℕ). awaits (number_of k.passes) f (bucket_at c (seen k.passes).buckets) ≡ true) (sym home)
      (awaits_are (number_of k.passes) f (bucket_at (bucket_for (setup_of s) f) (seen k.passes).buckets) ∙ (ap (awaits_of f) (notes_at (bucket_for (setup_of s) f) low) ∙ e))

  -- a worker's script is short
  pub few_steps : k.passes.step + 8 < 2 ^ 64
  few_steps = omega (arith, is.step, few_acts (setup_of s) (number_of k.passes) is.setup before st is.stood)

  pub few_now : k.passes.step < 2 ^ 36
  few_now = omega (arith, is.step, few_acts (setup_of s) (number_of k.passes) is.setup before st is.stood)

  -- what waits in the hand can be finished
  pub may_finish : (e : EndedFlow) (rest : List EndedFlow) → k.hand.items ≡ e ∷ rest → MayFinish (setup_of s) e
  may_finish e rest popped =
      subst (λ (l : List EndedFlow). All (λ (x : EndedFlow). MayFinish (setup_of s) x) l) popped (items_finish (setup_of s) (seen k.passes) sh.capture (seen_legal s k.passes sh is.fits) st.hand k.hand.items is.hand) 0 e (omega arith)

  pub mine_at : (f : ℕ) (todo : List ℕ) → st.stage ≡ looking (f ∷ todo) → IsMine (setup_of s) (number_of k.passes) f
  mine_at f todo stage = let n = knows_at (looking (f ∷ todo)) stage in n.mine f (in_left f st.batch _ (n.in_batch f (inl refl)))

  pub bears_flow : (f : ℕ) (todo : List ℕ) → st.stage ≡ looking (f ∷ todo) → (t : Facts) × HasFacts s.capture.now f t
  bears_flow f todo stage = let m = mine_at f todo stage in (m.packet, bearing_has s.capture.now f m.packet m.bears)

  -- a note of its look, as the script would take it
  look_can : (f : ℕ) (todo : List ℕ) → st.stage ≡ looking (f ∷ todo)
      → CanAct (setup_of s) (number_of k.passes) (on_bucket (bucket_for (setup_of s) f) (Found f st.emergency st.seen 0 offer.Nothing) []) before
  look_can f todo stage =
      let w = setup_of s in
      let note = Found f st.emergency st.seen 0 offer.Nothing in
      can_act w (number_of k.passes) is.setup before st (held_at (look_on st.batch todo) (st.hand ++ []) st) (on_bucket (bucket_for w f) note []) is.stood
      (ap (λ (p : Stage). bucket_step w p st (bucket_for w f) note []) stage
      ∙ only_true (is_for w f (bucket_for w f) f && is_read w st st.emergency st.seen) (held_at (look_on st.batch todo) (st.hand ++ []) st)
      (and_true (is_for w f (bucket_for w f) f) (is_read w st st.emergency st.seen) (and_true (f == f) (bucket_for w f == bucket_for w f) (same_yes f) (same_yes (bucket_for w f)))
      (and_true (same_truth st.emergency st.emergency) (st.seen == st.seen) (truth_yes st.emergency) (same_yes st.seen))))

  pub may_look : (f b : ℕ) (e : Bool) (n : ℕ) (todo : List ℕ) → st.stage ≡ looking (f ∷ todo) → b ≡ bucket_for (setup_of s) f → MayOnBucket s k.passes b (call.Look f e n)
  may_look f b e n todo stage home =
      let can = look_can f todo stage in
      let role = number_of k.passes in
      let here = bucket_for (setup_of s) f in
      subst (λ (c : ℕ). MayOnBucket s k.passes c (call.Look f e n)) (sym home)
      (record { own = can.1.1; fresh = fresh_are role f (bucket_at here (seen k.passes).buckets) ∙ (ap (fresh_of f) (notes_at here can.0) ∙ can.1.2); settled = owes_at here None can.0 can.1.3 })

  pub waits_granted : (f b : ℕ) (todo : List ℕ) → st.stage ≡ granted f todo → b ≡ bucket_for (setup_of s) f → awaits (number_of k.passes) f (bucket_at b (seen k.passes).buckets) ≡ true
  waits_granted f b todo stage home = let n = knows_at (granted f todo) stage in awaits_at f b (n.mine f (in_left f st.batch _ (n.in_batch f (inl refl)))) home n.settled.1

  pub waits_denied : (f b : ℕ) (todo : List ℕ) → st.stage ≡ denied f todo → b ≡ bucket_for (setup_of s) f → awaits (number_of k.passes) f (bucket_at b (seen k.passes).buckets) ≡ true
  waits_denied f b todo stage home = let n = knows_at (denied f todo) stage in awaits_at f b (n.mine f (in_left f st.batch _ (n.in_batch f (inl refl)))) home n.settled.1

  pub may_evict : (f j b : ℕ) (todo : List ℕ) → b < length s.buckets.items → st.stage ≡ evicting f j todo → MayOnBucket s k.passes b (call.Evict f)
  may_evict f j b todo real stage = let n = knows_at (evicting f j todo) stage in record { worker = is.worker; settled = owes_at b None (omega (arith, real, sh.rows)) (n.settled.0 b) }

  pub owes_it : (f b : ℕ) (had : Bool) (todo : List ℕ) → st.stage ≡ settling f had todo → b ≡ bucket_for (setup_of s) f → owes (number_of k.passes) (bucket_at b (seen k.passes).buckets) ≡ Some f
  owes_it f b had todo stage home =
      let n = knows_at (settling f had todo) stage in
      let mine = n.mine f (in_left f st.batch _ (n.in_batch f (inl refl))) in
      let low = real_home (setup_of s) (number_of k.passes) f mine is.setup.layout.rows.0 in
      subst (λ (c : ℕ). owes (number_of k.passes) (bucket_at c (seen k.passes).buckets) ≡ Some f) (sym home) (owes_at (bucket_for (setup_of s) f) (Some f) low n.settled.here)

  pub may_close : (f b : ℕ) (a : _) (todo : List ℕ) → st.stage ≡ closing (f ∷ todo) → b ≡ bucket_for (setup_of s) f → MayOnBucket s k.passes b (call.Close f a)
  may_close f b a todo stage home =
      let n = knows_at (closing (f ∷ todo)) stage in
      let role = number_of k.passes in
      let here = bucket_for (setup_of s) f in
      let low = real_home (setup_of s) role f (n.mine f (inl refl)) is.setup.layout.rows.0 in
      subst (λ (c : ℕ). MayOnBucket s k.passes c (call.Close f a)) (sym home)
      (record { answered = open_are role f (bucket_at here (seen k.passes).buckets) ∙ (ap (open_of f) (notes_at here low) ∙ n.opened f (inl refl)); settled = owes_at here None low (n.settled here) })

  -- nobody else refuses the worker's packet
  pub refused_stays : (f b : ℕ) (todo : List ℕ) (longer : List (Entry BucketNote)) → st.stage ≡ closing (f ∷ todo) → b ≡ bucket_for (setup_of s) f
      → GrewFor (number_of k.passes) (bucket_at b (seen k.passes).buckets) longer
      → IsLegal (fixed_at (setup_of s) b) longer → is_refused f longer ≡ is_refused f (bucket_at b (seen k.passes).buckets)
  refused_stays f b todo longer stage home grew legal =
      let n = knows_at (closing (f ∷ todo)) stage in
      let mine = subst (λ (c : ℕ). IsPacketOf (fixed_at (setup_of s) c) (number_of k.passes) f) (sym home) (n.mine f (inl refl)) in
      ap (is_refused f) grew.1
      ∙ refused_same (fixed_at (setup_of s) b) (number_of k.passes) f grew.0 (bucket_at b (seen k.passes).buckets) mine grew.2 (subst (λ (h : List (Entry BucketNote)). IsLegal (fixed_at (setup_of s) b) h) grew.1 legal)

-- a packet stays the worker's
pub mine_of : (s : Shared) (a b : Worker) (f : ℕ) → number_of b.passes ≡ number_of a.passes → IsMine (setup_of s) (number_of a.passes) f → IsMine (setup_of s) (number_of b.passes) f
mine_of s a b f same mine = subst (λ (r : ℕ). IsMine (setup_of s) r f) (sym same) mine

-- its bucket is among those seen
pub home_in : (s : Shared) (k : Worker) (f : ℕ) → IsShared s → IsLayout s.layout → Fits s k.passes → IsMine (setup_of s) (number_of k.passes) f
    → bucket_for (setup_of s) f < length (seen k.passes).buckets
home_in s k f sh layout fits mine = omega (arith, real_home (setup_of s) (number_of k.passes) f mine layout.rows.0, seen_rows s k.passes sh fits)
