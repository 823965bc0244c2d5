-- What all roles know once the end role has heard each of them, and each has heard the end role. Telling leaves a role as it was, and hearing
-- makes it grow; both go on from one meeting to the next. The end role has then seen all that any role had, so who hears it has seen just the same.
use Rattle.std.proofs.Common.{◌≡◌, ◌≢◌, ℕ, ◌+◌, ◌<◌, List, [], length, get_or, set, refl, sym, ap, ◌∙◌, subst, arith, get_or-set_other, get_or-set_same}
use Rattle.lock_rows.proofs.Placed.{any_default}
use Rattle.role_meets.proofs.Telling.{grown_with}
use Rattle.role_meets.specs.Meets.{Told, Heard, Grown, SameRole, Informed}
use Rattle.role_meets.specs.Parts.{passes_of}
use Rattle.role_meets.specs.declared.roles.Role.{Role}
use Rattle.role_steps.proofs.Stepping.{grown_through}
use Rattle.role_steps.specs.Roles.{Fits, seen}
use Rattle.role_steps.specs.declared.roles.Passes.{Passes}
use Rattle.role_steps.specs.declared.roles.Shared.{Shared}
use Rattle.run_rules.specs.Growing.{HasGrown}
use Rattle.run_rules.specs.Histories.{Histories}
use Rattle.suri_base.proofs.Histories.{begins_itself}
use mathlib.Core.Logic.{dite}
use native.Mathlib.Decide.{ℕ_discrete}

grows_itself : (t : Histories) → HasGrown t t
grows_itself t = record { pool = begins_itself t.pool; segments = begins_itself t.segments; rows = refl; buckets = λ b low. begins_itself (get_or t.buckets b []) }

pub told_itself : (s : Shared) (p : Passes) → Fits s p → Told s p p
told_itself s p f = record { fits = f; number = refl; step = refl; seen_same = refl; made_same = refl }

pub told_through : (s : Shared) (p q r : Passes) → Told s p q → Told s q r → Told s p r
told_through s p q r a b = record {
  fits = b.fits;
  number = b.number ∙ a.number;
  step = b.step ∙ a.step;
  seen_same = b.seen_same ∙ a.seen_same;
  made_same = b.made_same ∙ a.made_same;
}

pub grown_itself : (s : Shared) (p : Passes) → Fits s p → Grown s p p
grown_itself s p f = record { fits = f; number = refl; step = refl; made_same = refl; grown = grows_itself (seen p); acts = λ acts a. a }

-- who grew and then heard another role has grown
pub grown_more : (s : Shared) (from p q r : Passes) → Fits s p → Grown s p q → Heard s from q r → Grown s p r
grown_more s from p q r f a b = grown_with s p r f b.fits (b.number ∙ a.number) (b.step ∙ a.step) (b.made_same ∙ a.made_same) (grown_through (seen p) (seen q) (seen r) a.grown b.grown)

-- who grew and then told another role has grown
pub grown_told : (s : Shared) (p q r : Passes) → Fits s p → Grown s p q → Told s q r → Grown s p r
grown_told s p q r f a b = grown_with s p r f b.fits (b.number ∙ a.number) (b.step ∙ a.step) (b.made_same ∙ a.made_same)
    (subst (λ (t : Histories). HasGrown (seen p) t) (sym b.seen_same) a.grown)

-- who told another role and then grew has grown
pub told_grown : (s : Shared) (p q r : Passes) → Fits s p → Told s p q → Grown s q r → Grown s p r
told_grown s p q r f a b = grown_with s p r f b.fits (b.number ∙ a.number) (b.step ∙ a.step) (b.made_same ∙ a.made_same)
    (subst (λ (t : Histories). HasGrown t (seen r)) a.seen_same b.grown)

pub same_itself : (r : Role) → SameRole r r
same_itself r = record { kind = refl; hand = refl; waiting = refl; lines = refl; failed = refl }

pub same_through : (p q r : Role) → SameRole p q → SameRole q r → SameRole p r
same_through p q r a b = record {
  kind = b.kind ∙ a.kind;
  hand = b.hand ∙ a.hand;
  waiting = b.waiting ∙ a.waiting;
  lines = b.lines ∙ a.lines;
  failed = b.failed ∙ a.failed;
}

-- a role that told the end role what it had seen, and was informed by it
pub told_informed : (s : Shared) (t u : Histories) (p q r : Role) → Fits s (passes_of p) → SameRole p q → Told s (passes_of p) (passes_of q) → u ≡ t → Informed s t q r → Informed s u p r
told_informed s t u p q r f same told is i = record {
  same = same_through p q r same i.same;
  grown = told_grown s (passes_of p) (passes_of q) (passes_of r) f told i.grown;
  knows = i.knows ∙ sym is;
}

less : (i k : ℕ) → k ≢ i → k < i + 1 → k < i
less i k not below = omega arith

module _ {X : Type 0} where
  -- a relation of each element to what it was holds on, if the new element has it at its index
  pub each_set : (Q : X → X → Type 0) (olds xs : List X) (i : ℕ) (b d : X) → length xs ≡ length olds → i < length olds
      → ((k : ℕ) (e : X) → k < length olds → Q (get_or olds k e) (get_or xs k e)) → Q (get_or olds i d) b
      → (k : ℕ) (e : X) → k < length olds → Q (get_or olds k e) (get_or (set xs i b) k e)
  each_set Q olds xs i b d count inside all here k e below = dite (ℕ_discrete k i)
      (λ is. subst (λ (z : X). Q (get_or olds k e) z) (sym (ap (λ (m : ℕ). get_or (set xs i b) m e) is ∙ get_or-set_same xs i b e (omega (arith, count, inside))))
      (subst (λ (z : X). Q z b) (any_default olds i d e inside ∙ ap (λ (m : ℕ). get_or olds m e) (sym is)) here))
      (λ not. subst (λ (z : X). Q (get_or olds k e) z) (sym (get_or-set_other xs i k b e not)) (all k e below))

  -- the same for the first ones, where the others are as they were
  pub next_set : (Q : X → X → Type 0) (olds xs : List X) (i : ℕ) (b d : X) → length xs ≡ length olds → i < length olds
      → ((k : ℕ) (e : X) → k < i → Q (get_or olds k e) (get_or xs k e)) → Q (get_or olds i d) b
      → (k : ℕ) (e : X) → k < i + 1 → Q (get_or olds k e) (get_or (set xs i b) k e)
  next_set Q olds xs i b d count inside all here k e below = dite (ℕ_discrete k i)
      (λ is. subst (λ (z : X). Q (get_or olds k e) z) (sym (ap (λ (m : ℕ). get_or (set xs i b) m e) is ∙ get_or-set_same xs i b e (omega (arith, count, inside))))
      (subst (λ (z : X). Q z b) (any_default olds i d e inside ∙ ap (λ (m : ℕ). get_or olds m e) (sym is)) here))
      (λ not. subst (λ (z : X). Q (get_or olds k e) z) (sym (get_or-set_other xs i k b e not)) (all k e (less i k not below)))

pub one_more : (R : ℕ → Type 0) (i : ℕ) → ((k : ℕ) → k < i → R k) → R i → (k : ℕ) → k < i + 1 → R k
one_more R i all here k below = dite (ℕ_discrete k i) (λ is. subst R (sym is) here) (λ not. all k (less i k not below))

pub same_seen : (rs : List Role) (i : ℕ) (d e : Role) → i < length rs → seen (passes_of (get_or rs i d)) ≡ seen (passes_of (get_or rs i e))
same_seen rs i d e below = ap (λ (r : Role). seen (passes_of r)) (any_default rs i d e below)
