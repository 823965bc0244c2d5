-- The buckets that a worker asked in turn: each answered that all its flows are in use.
use Rattle.std.proofs.Common.{◌≡◌, ℕ, zero, suc, ◌+◌, ◌-◌, ◌%◌, ◌<◌, ◌≤◌, List, [], ◌∷◌, length, ◌⊎◌, ⊎_elim, inl, inr, refl, sym, ◌∙◌, ap, subst, arith}
use Rattle.std.proofs.Math.Nat.{add-mod_left, mod-eq_of_lt}
use Rattle.std.proofs.lemmas.Bool.Decides.{eqb_tells}
use Rattle.bucket_laws.specs.Leaving.{Gone}
use Rattle.bucket_laws.specs.Places.{At}
use Rattle.run_laws.proofs.Asking.{IsNone, Tried}
use Rattle.run_rules.specs.Acts.{Act, on_bucket, on_pool, on_segments}
use Rattle.run_rules.specs.Setup.{Setup, bucket_for}
use Rattle.suri_base.specs.declared.entry.BucketNote.TheVariants.{AllInUse, Closed, Drained, Found, Idle, Made, Missing, Refused, Stopped, Stored, Swept, Victim}

-- what was asked in turn stands after what came first
pub tried_from : (w : Setup) (f k : ℕ) (acts : List Act) (a : Act) (from : List Act) → Tried w f k acts (a ∷ from) → At a from acts
tried_from w f zero acts a from h = subst (λ (y : List Act). At a from y) (sym h) (inl (refl, refl))
tried_from w f (suc k) [] a from h = absurd h
tried_from w f (suc k) (x ∷ acts) a from h = inr (tried_from w f k acts a from h.1)

-- an answer of a bucket that all its flows are in use, among these acts and later than those
pub record AskedOne (w : Setup) (f j : ℕ) (acts from : List Act) : Type 0 where
  pub count : ℕ
  pub bucket : ℕ
  pub left : List Gone
  pub before : List Act
  pub place : At (on_bucket bucket (AllInUse f count) left) before acts
  pub turn : bucket ≡ (bucket_for w f + j) % w.layout.rows
  pub later : length from ≤ length before

in_use_act : (w : Setup) (f j : ℕ) (a : Act) (acts from : List Act) → IsNone w f j a → length from ≤ length acts → AskedOne w f j (a ∷ acts) from
in_use_act w f j (on_bucket b (AllInUse g count) left) acts from h l =
    record { count = count; bucket = b; left = left; before = acts; place = inl (ap (λ (x : ℕ). on_bucket b (AllInUse x count) left) h.0, refl); turn = h.1; later = l }
in_use_act w f j (on_pool n i) acts from h l = absurd h
in_use_act w f j (on_segments n) acts from h l = absurd h
in_use_act w f j (on_bucket b (Found g e n run o) left) acts from h l = absurd h
in_use_act w f j (on_bucket b (Missing g e n ended) left) acts from h l = absurd h
in_use_act w f j (on_bucket b (Made g o) left) acts from h l = absurd h
in_use_act w f j (on_bucket b (Refused g) left) acts from h l = absurd h
in_use_act w f j (on_bucket b (Stored g) left) acts from h l = absurd h
in_use_act w f j (on_bucket b (Stopped g) left) acts from h l = absurd h
in_use_act w f j (on_bucket b (Closed g app' run freed ended) left) acts from h l = absurd h
in_use_act w f j (on_bucket b (Idle g app') left) acts from h l = absurd h
in_use_act w f j (on_bucket b (Victim g run) left) acts from h l = absurd h
in_use_act w f j (on_bucket b (Swept round e n count) left) acts from h l = absurd h
in_use_act w f j (on_bucket b (Drained count) left) acts from h l = absurd h

tried_longer : (w : Setup) (f k : ℕ) (acts from : List Act) → Tried w f k acts from → length from ≤ length acts
tried_longer w f zero acts from h = omega (arith, ap length h)
tried_longer w f (suc k) [] from h = absurd h
tried_longer w f (suc k) (x ∷ acts) from h = omega (arith, tried_longer w f k acts from h.1)

pub tried_each : (w : Setup) (f k : ℕ) (acts from : List Act) → Tried w f k acts from → (j : ℕ) → j < k → AskedOne w f j acts from
tried_each w f zero acts from h j l = absurd (omega arith)
tried_each w f (suc k) [] from h j l = absurd h
tried_each w f (suc k) (x ∷ acts) from h j l = ⊎_elim
    (λ e. in_use_act w f j x acts from (subst (λ (y : ℕ). IsNone w f y x) (sym e.1) h.0) (tried_longer w f k acts from h.1))
    (λ e. let a = tried_each w f k acts from h.1 j (omega (arith, e.1)) in
    record { count = a.count; bucket = a.bucket; left = a.left; before = a.before; place = inr a.place; turn = a.turn; later = a.later })
    (eqb_tells j k)

-- going round from any bucket, each bucket has its turn
pub turn_of : (m h b : ℕ) → h < m → b < m → (j : ℕ) × (j < m) × (b ≡ (h + j) % m)
turn_of m h b k l = ⊎_elim
    (λ z. (b - h, omega arith, let e : h + (b - h) ≡ b = omega arith in rw e (sym (mod_small b m l))))
    (λ z. (b + m - h, omega arith, let e : h + (b + m - h) ≡ b + m = omega arith in rw e (sym (mod_over b m l))))
    (split h b)
  where
    split : (x y : ℕ) → (x ≤ y) ⊎ (y < x)
    split x y = grind arith

    mod_small : (x n : ℕ) → x < n → x % n ≡ x
    mod_small x n h = mod-eq_of_lt h

    mod_over : (x n : ℕ) → x < n → (x + n) % n ≡ x
    mod_over x n h = (let e : x + n ≡ n + x = omega arith in ap (λ (y : ℕ). y % n) e) ∙ (add-mod_left n x ∙ mod-eq_of_lt h)
