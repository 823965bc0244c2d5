-- An object is had for a missing frame, or none: the ways there.
use Rattle.std.specs.Prelude.{slice_get}
use Rattle.std.proofs.lemmas.Bool.Decides.{nat_tests}
use Rattle.suri_base.specs.declared.seen.Seen.TheVariants.{Bears}
use Rattle.std.proofs.Common.{◌-◌, Option, Some, None, Box, Global, map, zero, suc, ◌≡◌, ℕ, ◌==◌, ◌<◌, Bool, true, false, List, [], ◌∷◌, length, refl, sym, ◌∙◌, ap, subst, arith}
use Rattle.bucket_laws.specs.Leaving.{Gone}
use Rattle.flow_object.specs.Ending.{EndedFlow}
use Rattle.flow_worker.specs.Places.{is_evicting, is_looking, is_missed, is_taken, is_turning, to_denied, to_granted, to_missed, to_next, to_settling}
use Rattle.flow_worker.specs.Looking.{Began, Found, FreedObject}
use Rattle.flow_object.specs.Object.{Object}
use Rattle.bucket_rules.specs.Own.{is_needing}
use Rattle.bucket_rules.specs.Packets.{bearing, facts_of_seen}
use Rattle.run_rules.specs.Setup.{Setup, bucket_by, bucket_for}
use Rattle.suri_base.specs.Capture.{Captured, HasFacts}
use Rattle.suri_base.specs.Dealing.{bucket_of}
use Rattle.suri_base.specs.declared.facts.Facts.{Facts}
use Rattle.suri_base.specs.declared.stream.Offer.{Offer}
use Rattle.flow_worker.specs.Standing.{Goes, IsAt, MayGo}
use Rattle.flow_worker.proofs.Steps.{evicting_at, goes_on}
use Rattle.role_steps.specs.Items.{gone_of}
use Rattle.role_steps.specs.declared.roles.Shared.{Shared}
use Rattle.role_steps.specs.declared.roles.Worker.{Worker}
use Rattle.run_rules.specs.Acts.{Act}
use Rattle.run_rules.specs.Worker.{Stage, Stand, held_at, takes_on, turning}

empty_list : {A : Type 0} (xs : List A) → length xs ≡ 0 → xs ≡ []
empty_list [] h = refl
empty_list (x ∷ xs) h = absurd (omega (arith, h))

full_hand : (es : List EndedFlow) (f : ℕ) (todo : List ℕ) → 0 < length es → takes_on (map gone_of es) f todo ≡ turning f todo
full_hand [] f todo h = absurd (omega (arith, h))
full_hand (e ∷ es) f todo h = refl

-- with an empty hand the buckets are asked
pub to_evict : (rows f : ℕ) (es : List EndedFlow) (st : Stand) (todo : List ℕ) → 0 < rows → length es ≡ 0 → is_taken es f st todo → is_evicting rows 0 f st todo
to_evict rows f es st todo some none stage = stage ∙ (ap (λ (h : List EndedFlow). takes_on (map gone_of h) f todo) (empty_list es none) ∙ sym (evicting_at rows 0 f todo some))

-- with another hand its front is finished
pub to_turn : (f : ℕ) (es : List EndedFlow) (st : Stand) (todo : List ℕ) → 0 < length es → is_taken es f st todo → is_turning f st todo
to_turn f es st todo some stage = stage ∙ full_hand es f todo some

-- from a place that is another
pub may_as : (s : Shared) (k : Worker) (from from' : Stand → List ℕ → Type 0) → MayGo s k from → ((st : Stand) (todo : List ℕ) → from st todo → from' st todo) → MayGo s k from'
may_as s k from from' m same = record { before = m.before; stand = m.stand; todo = m.todo; is = m.is; there = same m.stand m.todo m.there }

pub goes_from : (s : Shared) (a b : Worker) (from from' : Stand → List ℕ → Type 0) (to : Stand → List ℕ → Stage) (rs : List ℕ) → Goes s a b from' to rs
    → ((st : Stand) (todo : List ℕ) → from st todo → from' st todo) → Goes s a b from to rs
goes_from s a b from from' to rs g same = λ before st todo is there. g before st todo is (same st todo there)

pub freed_from : (s : Shared) (a b : Worker) (from from' : Stand → List ℕ → Type 0) (f : ℕ) (o : Option (Box Object Global)) → FreedObject s a b from' f o
    → ((st : Stand) (todo : List ℕ) → from st todo → from' st todo) → FreedObject s a b from f o
freed_from s a b from from' f (Some o) g same = (g.0, goes_from s a b from from' (to_granted f) [] g.1 same)
freed_from s a b from from' f None g same = goes_from s a b from from' (to_denied f) [] g same

pub freed_on : (s : Shared) (a b c : Worker) (from from' : Stand → List ℕ → Type 0) (to : Stand → List ℕ → Stage) (f : ℕ) (o : Option (Box Object Global)) → Goes s a b from to []
    → FreedObject s b c from' f o
    → ((before : List Act) (st : Stand) (todo : List ℕ) (hand : List Gone) → IsAt s a before st → from st todo → from' (held_at (to st todo) hand st) todo) → FreedObject s a c from f o
freed_on s a b c from from' to f (Some o) g h link = (h.0, goes_on s a b c from from' to (to_granted f) [] [] g h.1 link (λ st todo p hand. refl))
freed_on s a b c from from' to f None g h link = goes_on s a b c from from' to (to_denied f) [] [] g h link (λ st todo p hand. refl)

pub began_on : (s : Shared) (a b c : Worker) (f : ℕ) (e : Bool) (n : ℕ) (said : Option Offer) → Goes s a b (is_looking f e n) (to_missed f) [] → Began s b c f said → Found s a c f e n said
began_on s a b c f e n (Some said) g h = (goes_on s a b c (is_looking f e n) (is_missed f) (to_missed f) (to_settling (is_needing said) f) [] [] g h.0 (λ before st todo hand is there. refl) (λ st todo p hand. refl), h.1)
began_on s a b c f e n None g h = (goes_on s a b c (is_looking f e n) (is_missed f) (to_missed f) to_next [] (f ∷ []) g h.0 (λ before st todo hand is there. refl) (λ st todo p hand. refl), h.1)

pub bearing_is : (c : Captured) (n : ℕ) (t : Facts) → HasFacts c n t → bearing c n ≡ Some t
bearing_is c zero t h = absurd (omega (arith, h.0))
bearing_is c (suc n) t h =
    let same : suc n - 1 ≡ n = omega arith in
    ap facts_of_seen (subst (λ (m : ℕ). slice_get c.seen m ≡ Some (Bears t)) same h.1)

pub none_there : (n m : ℕ) → n ≡ m → (n == 0) ≡ true → m ≡ 0
none_there n m e h = grind (arith, nat_tests, e, h)

pub some_there : (n m : ℕ) → n ≡ m → (n == 0) ≡ false → 0 < m
some_there n m e h = grind (arith, nat_tests, e, h)

pub home_is : (w : Setup) (n : ℕ) (t : Facts) → HasFacts w.capture n t → bucket_for w n ≡ bucket_of t.key w.layout.rows
home_is w n t h = ap (bucket_by w.layout.rows) (bearing_is w.capture n t h)
