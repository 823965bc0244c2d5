-- When all workers have ended their scripts, every packet of each bucket was closed there: each is in the work of the worker that takes its
-- key, a worker knows of every frame of its work that it is still to come or was closed, and none is to come.
use Rattle.std.proofs.Common.{◌≡◌, ℕ, ◌<◌, true, List, [], ◌∷◌, length, Option, Some, None, ⊎_elim, refl, sym, ◌∙◌, ap, subst, mod-lt}
use Rattle.bucket_laws.specs.Leaving.{Gone}
use Rattle.bucket_laws.specs.Places.{In}
use Rattle.bucket_rules.specs.Own.{is_closed}
use Rattle.bucket_rules.specs.Packets.{bearing}
use Rattle.run_laws.proofs.Dealt.{IsMine, flat, work_whole}
use Rattle.run_laws.proofs.Notes.{closed_by_own, closed_of, notes_in, own_notes_are}
use Rattle.run_laws.proofs.Scripting.{knows, pending}
use Rattle.run_laws.specs.Setting.{IsSetup}
use Rattle.run_rules.specs.Acts.{Act, AreActs}
use Rattle.run_rules.specs.Histories.{Histories, bucket_at}
use Rattle.run_rules.specs.Setup.{Setup, bucket_by, bucket_for, work_of}
use Rattle.run_rules.specs.Worker.{Stage, Stand, asking, between, closing, denied, ended, ended_at, evicting, freeing, fresh, granted, looking, missed, over, settling, stand_after, turning}
use Rattle.suri_base.specs.Dealing.{bucket_of, worker_of}
use Rattle.suri_base.specs.Hash.{fnv1a, key_bytes}
use Rattle.suri_base.specs.declared.facts.Facts.{Facts}

-- a worker that ended has no frame left

over_flat : (left : List (List (List ℕ))) (hand : List Gone) (hands all : List (List Gone)) → over left hand hands ≡ Some all → (g : ℕ) → In g (flat left) → ⊥
over_flat [] hand hands all h g i = i
over_flat ([] ∷ later) hand hands all h g i = over_flat later [] (hand ∷ hands) all h g i
over_flat ((b ∷ bs) ∷ later) hand hands all h g i = cc

none_left : (p : Stage) (s : Stand) (all : List (List Gone)) (w : Setup) (role : ℕ) → ended_at p s ≡ Some all → (g : ℕ) → In g (pending w role p s.batch s.rounds) → ⊥
none_left between s all w role h g i = over_flat s.rounds s.hand s.hands all h g i
none_left (looking todo) s all w role h g i = cc
none_left (missed f todo) s all w role h g i = cc
none_left (evicting f k todo) s all w role h g i = cc
none_left (turning f todo) s all w role h g i = cc
none_left (granted f todo) s all w role h g i = cc
none_left (denied f todo) s all w role h g i = cc
none_left (asking f todo) s all w role h g i = cc
none_left (settling f had todo) s all w role h g i = cc
none_left (closing todo) s all w role h g i = cc
none_left (freeing m todo) s all w role h g i = cc

ended_some : (o : Option Stand) (all : List (List Gone)) → ended o ≡ Some all → (s : Stand) × (o ≡ Some s) × (ended_at s.stage s ≡ Some all)
ended_some None all h = cc
ended_some (Some s) all h = (s, refl, h)

module _ (w : Setup) (d : IsSetup w) (t : Histories) (acts : ℕ → List Act) (hands : ℕ → List (List Gone)) (own : (role : ℕ) → role < w.layout.workers → AreActs w t role (acts role))
    (work : (role : ℕ) → role < w.layout.workers → ended (stand_after w (fresh (work_of w role)) (acts role)) ≡ Some (hands role)) where
  pub all_closed : (b f : ℕ) (p : Facts) → b < length t.buckets → bearing w.capture f ≡ Some p → bucket_of p.key w.layout.rows ≡ b → is_closed f (bucket_at b t.buckets) ≡ true
  all_closed b f p l e q =
      let role = worker_of p.key w.layout.workers in
      let h : role < w.layout.workers = mod-lt (fnv1a (key_bytes p.key)) d.layout.workers.0 in
      let m : IsMine w role f = record { packet = p; bears = e; bucket = sym (ap (bucket_by w.layout.rows) e); worker = refl } in
      let here : bucket_for w f ≡ b = ap (bucket_by w.layout.rows) e ∙ q in
      let x = ended_some (stand_after w (fresh (work_of w role)) (acts role)) (hands role) (work role h) in
      let k = knows w role d (acts role) x.0 x.1 in
      ⊎_elim
      (λ y. absurd (none_left x.0.stage x.0 (hands role) w role x.2 f y))
      (λ y.
      let z : closed_of f (notes_in b (acts role)) ≡ true = subst (λ (c : ℕ). closed_of f (notes_in c (acts role)) ≡ true) here y in
      closed_by_own role f (bucket_at b t.buckets) (ap (closed_of f) (own_notes_are w t role b (acts role) (own role h) l) ∙ z))
      (k.done f (work_whole w role f d m))
