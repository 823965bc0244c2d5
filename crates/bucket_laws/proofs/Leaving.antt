-- How often a run begins and leaves.
use Rattle.std.proofs.Common.{◌≡◌, ℕ, ◌+◌, Bool, true, false, not, ◌&&◌, ◌||◌, List, [], ◌∷◌, ◌⊎◌, ⊎_elim, refl, ◌∙◌, ap, arith}
use Rattle.suri_base.specs.declared.entry.BucketNote.{BucketNote}
use Rattle.suri_base.specs.declared.entry.BucketNote.TheVariants.{Found, Missing, Made, Refused, Stored, Stopped, Closed, Idle, Victim, AllInUse, Swept, Drained}
use Rattle.suri_base.specs.declared.entry.Entry.{Entry}
use Rattle.bucket_rules.specs.Row.{after, row, has, is_here, made, made_by, lets_go}
use Rattle.bucket_rules.specs.Rule.{Rule, IsLegal}
use Rattle.bucket_rules.specs.Sound.{IsSound}
use Rattle.bucket_rules.specs.declared.fixed.Fixed.{Fixed}
use Rattle.bucket_rules.proofs.Rowing.{begins}
use Rattle.bucket_laws.specs.Counts as count
use Rattle.bucket_laws.specs.Counts.{one_if, times_begun, times_left}
use Rattle.bucket_rules.proofs.Soundness.{sound}
use Rattle.bucket_laws.proofs.Steps.{here_back, begins_new, begins_blank, begins_here, made_split}

pub begins_is : (n : BucketNote) (a : ℕ) → count.begins n a ≡ begins n a
begins_is (Found g emergency seen run said) a = refl
begins_is (Missing g emergency seen ended) a = refl
begins_is (Made g said) a = refl
begins_is (Refused g) a = refl
begins_is (Stored g) a = refl
begins_is (Stopped g) a = refl
begins_is (Closed g app run freed ended) a = refl
begins_is (Idle g app) a = refl
begins_is (Victim g run) a = refl
begins_is (AllInUse g count) a = refl
begins_is (Swept round emergency seen count) a = refl
begins_is (Drained count) a = refl

-- made, left and here: one step
step_by : (b x y : Bool) → (y ≡ true → (b ≡ true) ⊎ (x ≡ true)) → (b ≡ true → x ≡ false) → (b ≡ true → y ≡ true)
    → one_if b + one_if x ≡ one_if (x && not y) + one_if y
step_by true true y f g h = let z : true ≡ false = g refl in cc
step_by true false true f g h = refl
step_by true false false f g h = let z : false ≡ true = h refl in cc
step_by false true true f g h = refl
step_by false true false f g h = refl
step_by false false false f g h = refl
step_by false false true f g h = ⊎_elim (λ x. cc) (λ x. cc) (f refl)

left_step : (s : Fixed) (past : List (Entry BucketNote)) (r : ℕ) (n : BucketNote) (a : ℕ) → IsSound s past → Rule s past r n
    → one_if (count.begins n a) + one_if (is_here (row s a past)) ≡ one_if (lets_go s past n a) + one_if (is_here (after s a n (row s a past)))
left_step s past r n a snd rule = ap (λ (b : Bool). one_if b + one_if (is_here (row s a past))) (begins_is n a)
    ∙ step_by (begins n a) (is_here (row s a past)) (is_here (after s a n (row s a past)))
    (λ y. here_back s past r n a rule y) (λ b. ap is_here (begins_blank s past r n a snd rule b)) (λ b. begins_here s n a (row s a past) b)

-- a run left as often as it began, or it is in the bucket
pub balance : (s : Fixed) (past : List (Entry BucketNote)) (a : ℕ) → IsLegal s past → times_begun a past ≡ times_left s a past + one_if (is_here (row s a past))
balance s [] a l = refl
balance s (e ∷ past) a l = omega (arith, left_step s past e.role e.note a (sound s past l.1) l.0, balance s past a l.1)

or_step : (b m : Bool) → (b ≡ true → m ≡ false) → one_if b + one_if m ≡ one_if (b || m)
or_step true true h = let z : true ≡ false = h refl in cc
or_step true false h = refl
or_step false m h = omega arith

-- a run begins once where it began
pub once : (s : Fixed) (past : List (Entry BucketNote)) (a : ℕ) → IsLegal s past → times_begun a past ≡ one_if (has (made past) a)
once s [] a l = refl
once s (e ∷ past) a l =
    let snd = sound s past l.1 in
    let here = or_step (begins e.note a) (has (made past) a) (λ b. (begins_new s past e.role e.note a snd l.0 b).0) in
    ap (λ (b : Bool). one_if b + times_begun a past) (begins_is e.note a)
    ∙ (ap (λ m. one_if (begins e.note a) + m) (once s past a l.1) ∙ (here ∙ ap one_if (sym_made)))
  where
    sym_made : (begins e.note a || has (made past) a) ≡ has (made_by e.note (made past)) a
    sym_made = ap (λ (b : Bool). b) (turn (made_split e.note (made past) a))
      where
        turn : {p q : Bool} → p ≡ q → q ≡ p
        turn h = cc
