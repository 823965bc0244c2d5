-- Only the worker of a packet refuses it, so no other role's entries change whether it is refused.
use Rattle.std.proofs.Common.{◌≡◌, ℕ, ◌==◌, Bool, true, false, cond, ◌||◌, List, [], ◌∷◌, ◌++◌, refl, sym, ◌∙◌, ap, subst, arith}
use Rattle.std.proofs.lemmas.Bool.Decides.{nat_tests}
use Rattle.run_laws.proofs.Sums.{same_number}
use Rattle.bucket_rules.proofs.Soundness.{sound}
use Rattle.bucket_rules.specs.Own.{awaits, is_refused, refuses}
use Rattle.bucket_rules.specs.Rule.{IsLegal, IsPacketOf, Rule}
use Rattle.bucket_rules.specs.declared.fixed.Fixed.{Fixed}
use Rattle.suri_base.specs.Dealing.{worker_of}
use Rattle.suri_base.specs.History.{entries_of}
use Rattle.suri_base.specs.declared.entry.BucketNote.{BucketNote}
use Rattle.suri_base.specs.declared.entry.BucketNote.TheVariants.{AllInUse, Closed, Drained, Found, Idle, Made, Missing, Refused, Stopped, Stored, Swept, Victim}
use Rattle.suri_base.specs.declared.entry.Entry.{Entry}
use Rattle.suri_base.specs.declared.facts.Facts.{Facts}
use Rattle.std.proofs.Common.{Some}

-- two roles of one packet are one
pub one_worker : (s : Fixed) (q r f : ℕ) → IsPacketOf s q f → IsPacketOf s r f → q ≡ r
one_worker s q r f a b =
    let e : Some a.packet ≡ Some b.packet = sym a.bears ∙ b.bears in
    let same : a.packet ≡ b.packet = cc in
    a.worker ∙ (ap (λ (t : Facts). worker_of t.key s.layout.workers) same ∙ sym b.worker)

pub refusal : (s : Fixed) (past : List (Entry BucketNote)) (q f : ℕ) (n : BucketNote) → Rule s past q n → refuses f n ≡ true → awaits q f past ≡ true
refusal s past q f (Found g emergency seen run said) rule h = cc
refusal s past q f (Missing g emergency seen ended) rule h = cc
refusal s past q f (Made g said) rule h = cc
refusal s past q f (Refused g) rule h = subst (λ (x : ℕ). awaits q x past ≡ true) (same_number g f h) rule
refusal s past q f (Stored g) rule h = cc
refusal s past q f (Stopped g) rule h = cc
refusal s past q f (Closed g app run freed ended) rule h = cc
refusal s past q f (Idle g app) rule h = cc
refusal s past q f (Victim g run) rule h = cc
refusal s past q f (AllInUse g count) rule h = cc
refusal s past q f (Swept round emergency seen count) rule h = cc
refusal s past q f (Drained count) rule h = cc

pub refuser : (s : Fixed) (past : List (Entry BucketNote)) (q f : ℕ) (n : BucketNote) → IsLegal s past → Rule s past q n → refuses f n ≡ true → IsPacketOf s q f
refuser s past q f n l rule h = ((sound s past l).waits q f (refusal s past q f n rule h)).own

-- entries that are not the role's
not_own : (role : ℕ) (e : Entry BucketNote) (since : List (Entry BucketNote)) → entries_of role (e ∷ since) ≡ [] → (e.role ≡ role → ⊥) × (entries_of role since ≡ [])
not_own role e since h = by (e.role == role) refl h
  where
    by : (t : Bool) → (e.role == role) ≡ t → cond t (e ∷ entries_of role since) (entries_of role since) ≡ [] → (e.role ≡ role → ⊥) × (entries_of role since ≡ [])
    by true i k = cc
    by false i k = (λ x. grind (arith, nat_tests, i, x), k)

pub refused_same : (s : Fixed) (role f : ℕ) (since old : List (Entry BucketNote)) → IsPacketOf s role f → entries_of role since ≡ [] → IsLegal s (since ++ old)
    → is_refused f (since ++ old) ≡ is_refused f old
refused_same s role f [] old own none legal = refl
refused_same s role f (e ∷ since) old own none legal =
    let k = not_own role e since none in
    by (refuses f e.note) refl k.0 ∙ refused_same s role f since old own k.1 legal.1
  where
    by : (t : Bool) → refuses f e.note ≡ t → (e.role ≡ role → ⊥) → (refuses f e.note || is_refused f (since ++ old)) ≡ is_refused f (since ++ old)
    by true i k = absurd (k (one_worker s e.role role f (refuser s (since ++ old) e.role f e.note legal.1 legal.0 i) own))
    by false i k = ap (λ (t : Bool). t || is_refused f (since ++ old)) i
