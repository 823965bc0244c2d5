-- What a role's own entries say outlasts entries of other roles.
use Rattle.std.proofs.Common.{◌≡◌, ◌≢◌, ℕ, ◌==◌, Bool, true, false, cond, ◌||◌, List, ◌∷◌, Option, refl, arith}
use Rattle.std.proofs.lemmas.Bool.Decides.{nat_tests}
use Rattle.suri_base.specs.declared.entry.Entry.{Entry}
use Rattle.suri_base.specs.declared.entry.BucketNote.{BucketNote}
use Rattle.bucket_rules.specs.Own.{is_fresh, awaits, owes, is_open, is_closed, closes, owed}

module _ (role : ℕ) (e : Entry BucketNote) (past : List (Entry BucketNote)) (other : e.role ≢ role) where
  pub fresh_other : (f : ℕ) → is_fresh role f past ≡ true → is_fresh role f (e ∷ past) ≡ true
  fresh_other f h = grind (arith, nat_tests)

  pub awaits_other : (f : ℕ) → awaits role f past ≡ true → awaits role f (e ∷ past) ≡ true
  awaits_other f h = grind (arith, nat_tests)

  pub open_other : (f : ℕ) → is_open role f past ≡ true → is_open role f (e ∷ past) ≡ true
  open_other f h = grind (arith, nat_tests)

  pub owes_other_is : (o : Option ℕ) → owes role past ≡ o → owes role (e ∷ past) ≡ o
  owes_other_is o h = by (e.role == role) refl
    where
      by : (b : Bool) → (e.role == role) ≡ b → cond b (owed e.note) (owes role past) ≡ o
      by true m = absurd (clash m)
        where
          clash : (e.role == role) ≡ true → ⊥
          clash m = grind (arith, nat_tests)
      by false m = h

  pub closed_other : (f : ℕ) → is_closed f past ≡ true → is_closed f (e ∷ past) ≡ true
  closed_other f h = or_right (closes f e.note) (is_closed f past) h
    where
      or_right : (p q : Bool) → q ≡ true → (p || q) ≡ true
      or_right true q h = refl
      or_right false q h = h
