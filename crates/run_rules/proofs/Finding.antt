-- What a role did is found in the histories by its step numbers, so histories fix it.
use Rattle.std.proofs.Common.{◌≡◌, ℕ, zero, suc, ◌+◌, ◌==◌, ◌<◌, ◌≤◌, nat_lt, Bool, true, false, cond, ◌&&◌, List, [], ◌∷◌, ◌++◌, length, map, filter, refl, sym, ◌∙◌, ap, subst, arith, eqb-true, eq-eqb, append_assoc}
use Rattle.std.proofs.lemmas.Bool.Decides.{nat_tests}
use Rattle.std.proofs.lemmas.List.Elements.{filter-append}
use Rattle.suri_base.specs.History.{entry, entries_of}
use Rattle.suri_base.specs.declared.entry.BucketNote.{BucketNote}
use Rattle.suri_base.specs.declared.entry.Entry.{Entry}
use Rattle.run_rules.specs.Acts.{Act, AreActs, are_within, bucket_acts, part, place_of, pool_acts, segment_acts}
use Rattle.run_rules.specs.Histories.{Histories, bucket_at}
use Rattle.run_rules.specs.Setup.{Setup}
use Rattle.run_rules.specs.Steps.{acts_at, acts_below, acts_of, all_acts, all_bucket_acts}

-- entries of steps below a number

abbrev AreBelow : ℕ → List (Entry Act) → Type 0
AreBelow n [] = Unit {0}
AreBelow n (e ∷ es) = (e.step < n) × AreBelow n es

more_below : (n m : ℕ) (es : List (Entry Act)) → n ≤ m → AreBelow n es → AreBelow m es
more_below n m [] l h = tt
more_below n m (e ∷ es) l h = (omega (arith, l, h.0), more_below n m es l h.1)

below_append : (n : ℕ) (xs ys : List (Entry Act)) → AreBelow n xs → AreBelow n ys → AreBelow n (xs ++ ys)
below_append n [] ys h k = k
below_append n (e ∷ xs) ys h k = (h.0, below_append n xs ys h.1 k)

below_apart : (n : ℕ) (xs ys : List (Entry Act)) → AreBelow n (xs ++ ys) → AreBelow n xs × AreBelow n ys
below_apart n [] ys h = (tt, h)
below_apart n (e ∷ xs) ys h = let k = below_apart n xs ys h.1 in ((h.0, k.0), k.1)

same_no : (m n : ℕ) → (m ≡ n → ⊥) → (m == n) ≡ false
same_no m n h = grind (arith, nat_tests)

none_at : (n : ℕ) (es : List (Entry Act)) → AreBelow n es → acts_at n es ≡ []
none_at n [] h = refl
none_at n (e ∷ es) h = let x : (e.step == n) ≡ false = same_no e.step n (λ i. omega (arith, i, h.0)) in rw x (none_at n es h.1)

at_append : (n : ℕ) (xs ys : List (Entry Act)) → acts_at n (xs ++ ys) ≡ acts_at n xs ++ acts_at n ys
at_append n [] ys = refl
at_append n (e ∷ xs) ys = by (e.step == n) (at_append n xs ys)
  where
    by : (b : Bool) → acts_at n (xs ++ ys) ≡ acts_at n xs ++ acts_at n ys
        → map (λ (e : Entry Act). e.note) (cond b (e ∷ filter (λ (e : Entry Act). e.step == n) (xs ++ ys)) (filter (λ (e : Entry Act). e.step == n) (xs ++ ys)))
        ≡ map (λ (e : Entry Act). e.note) (cond b (e ∷ filter (λ (e : Entry Act). e.step == n) xs) (filter (λ (e : Entry Act). e.step == n) xs)) ++ acts_at n ys
    by true h = ap (λ (z : List Act). e.note ∷ z) h
    by false h = h

-- an entry of another step is passed over
at_past : (n : ℕ) (e : Entry Act) (xs ys : List (Entry Act)) → (e.step ≡ n → ⊥) → acts_at n (xs ++ e ∷ ys) ≡ acts_at n (xs ++ ys)
at_past n e xs ys h =
    let x : (e.step == n) ≡ false = same_no e.step n h in
    let one : acts_at n (e ∷ ys) ≡ acts_at n ys = rw x refl in
    at_append n xs (e ∷ ys) ∙ (ap (λ (z : List Act). acts_at n xs ++ z) one ∙ sym (at_append n xs ys))

below_past : (n : ℕ) (e : Entry Act) (xs ys : List (Entry Act)) → n ≤ e.step → acts_below n (xs ++ e ∷ ys) ≡ acts_below n (xs ++ ys)
below_past zero e xs ys h = refl
below_past (suc n) e xs ys h =
    ap (λ (z : List Act). z ++ acts_below n (xs ++ e ∷ ys)) (at_past n e xs ys (λ i. omega (arith, i, h)))
    ∙ ap (λ (z : List Act). acts_at n (xs ++ ys) ++ z) (below_past n e xs ys (omega (arith, h)))

module _ (role : ℕ) where
  -- the parts of some acts on the histories from one on
  abbrev parts_from : ℕ → ℕ → List Act → List (Entry Act)
  parts_from p zero acts = []
  parts_from p (suc n) acts = part role p acts ++ parts_from (p + 1) n acts

  part_below : (p : ℕ) (acts : List Act) → AreBelow (length acts) (part role p acts)
  part_below p [] = tt
  part_below p (a ∷ acts) = by (place_of a == p) (more_below (length acts) (suc (length acts)) (part role p acts) (omega arith) (part_below p acts))
    where
      by : (t : Bool) → AreBelow (suc (length acts)) (part role p acts) → AreBelow (suc (length acts)) (cond t (entry role (length acts) a ∷ part role p acts) (part role p acts))
      by true h = (omega arith, h)
      by false h = h

  parts_below : (p n : ℕ) (acts : List Act) → AreBelow (length acts) (parts_from p n acts)
  parts_below p zero acts = tt
  parts_below p (suc n) acts = below_append (length acts) (part role p acts) (parts_from (p + 1) n acts) (part_below p acts) (parts_below (p + 1) n acts)

  own_part : (p : ℕ) (a : Act) (acts : List Act) → (place_of a == p) ≡ true → part role p (a ∷ acts) ≡ entry role (length acts) a ∷ part role p acts
  own_part p a acts h = rw h refl

  other_part : (p : ℕ) (a : Act) (acts : List Act) → (place_of a == p) ≡ false → part role p (a ∷ acts) ≡ part role p acts
  other_part p a acts h = rw h refl

  later_parts : (p n : ℕ) (a : Act) (acts : List Act) → place_of a < p → parts_from p n (a ∷ acts) ≡ parts_from p n acts
  later_parts p zero a acts h = refl
  later_parts p (suc n) a acts h =
      ap (λ (es : List (Entry Act)). es ++ parts_from (p + 1) n (a ∷ acts)) (other_part p a acts (same_no (place_of a) p (λ i. omega (arith, i, h))))
      ∙ ap (λ (es : List (Entry Act)). part role p acts ++ es) (later_parts (p + 1) n a acts (omega (arith, h)))

  -- the parts have one entry more, in some place
  abbrev HasMore : ℕ → ℕ → Act → List Act → Type 0
  HasMore p n a acts = (xs ys : List (Entry Act)) × (parts_from p n acts ≡ xs ++ ys) × (parts_from p n (a ∷ acts) ≡ xs ++ entry role (length acts) a ∷ ys)

  at_front : (p n : ℕ) (a : Act) (acts : List Act) → (place_of a == p) ≡ true → parts_from (p + 1) n (a ∷ acts) ≡ parts_from (p + 1) n acts → HasMore p (suc n) a acts
  at_front p n a acts e h = (
    [],
    part role p acts ++ parts_from (p + 1) n acts,
    refl,
    ap (λ (es : List (Entry Act)). es ++ parts_from (p + 1) n (a ∷ acts)) (own_part p a acts e)
        ∙ ap (λ (es : List (Entry Act)). entry role (length acts) a ∷ (part role p acts ++ es)) h,
  )

  behind_part : (p n : ℕ) (a : Act) (acts : List Act) (xs ys : List (Entry Act)) → (place_of a == p) ≡ false → parts_from (p + 1) n acts ≡ xs ++ ys
      → parts_from (p + 1) n (a ∷ acts) ≡ xs ++ entry role (length acts) a ∷ ys → HasMore p (suc n) a acts
  behind_part p n a acts xs ys e h k = (
    part role p acts ++ xs,
    ys,
    ap (λ (es : List (Entry Act)). part role p acts ++ es) h ∙ sym (append_assoc (part role p acts) xs ys),
    ap (λ (es : List (Entry Act)). es ++ parts_from (p + 1) n (a ∷ acts)) (other_part p a acts e)
        ∙ (ap (λ (es : List (Entry Act)). part role p acts ++ es) k ∙ sym (append_assoc (part role p acts) xs (entry role (length acts) a ∷ ys))),
  )

  -- with one act more there is one entry more among them
  put_in : (p n : ℕ) (a : Act) (acts : List Act) → p ≤ place_of a → place_of a < p + n → HasMore p n a acts
  put_in p zero a acts h l = absurd (omega (arith, h, l))
  put_in p (suc n) a acts h l = by (λ m. put_in (p + 1) n a acts m (omega (arith, l))) (place_of a == p) refl
    where
      by : (p + 1 ≤ place_of a → HasMore (p + 1) n a acts) → (b : Bool) → (place_of a == p) ≡ b → HasMore p (suc n) a acts
      by later true e = at_front p n a acts e (later_parts (p + 1) n a acts (let k = eqb-true (place_of a) p e in omega (arith, k)))
      by later false e =
          let no : place_of a ≡ p → ⊥ = λ i. (let k : true ≡ false = sym (eq-eqb (place_of a) p i) ∙ e in cc) in
          let k = later (grind (arith, no, h)) in behind_part p n a acts k.0 k.1 e k.2 k.3

  -- the acts are found in their parts
  found_in : (n : ℕ) (acts : List Act) → are_within n acts ≡ true → (length (parts_from 0 n acts) ≡ length acts) × (acts_below (length acts) (parts_from 0 n acts) ≡ acts)
  found_in n [] h = (none 0 n, refl)
    where
      none : (p n : ℕ) → length (parts_from p n []) ≡ 0
      none p zero = refl
      none p (suc n) = none (p + 1) n
  found_in n (a ∷ acts) h =
      let k = both (nat_lt (place_of a) n) (are_within n acts) h in
      let near : place_of a < 0 + n = below (place_of a) n k.0 in
      let put = put_in 0 n a acts (omega arith) near in
      let before = found_in n acts k.1 in (
        ap length put.3 ∙ (one_more put.0 put.1 ∙ (ap (λ (es : List (Entry Act)). suc (length es)) (sym put.2) ∙ ap suc before.0)),
        ap (λ (es : List (Entry Act)). acts_below (suc (length acts)) es) put.3
            ∙ newest put.0 put.1 (below_apart (length acts) put.0 put.1 (subst (λ (es : List (Entry Act)). AreBelow (length acts) es) put.2 (parts_below 0 n acts)))
            (ap (λ (es : List (Entry Act)). acts_below (length acts) es) (sym put.2) ∙ before.1),
      )
    where
      both : (p q : Bool) → (p && q) ≡ true → (p ≡ true) × (q ≡ true)
      both true q h = (refl, h)
      both false q h = cc

      below : (p n : ℕ) → nat_lt p n ≡ true → p < 0 + n
      below p n h = grind (arith, nat_tests)

      one_more : (xs ys : List (Entry Act)) → length (xs ++ entry role (length acts) a ∷ ys) ≡ suc (length (xs ++ ys))
      one_more [] ys = refl
      one_more (x ∷ xs) ys = ap suc (one_more xs ys)

      newest : (xs ys : List (Entry Act)) → AreBelow (length acts) xs × AreBelow (length acts) ys → acts_below (length acts) (xs ++ ys) ≡ acts
          → acts_below (suc (length acts)) (xs ++ entry role (length acts) a ∷ ys) ≡ a ∷ acts
      newest xs ys h k =
          let x : (length acts == length acts) ≡ true = eq-eqb (length acts) (length acts) refl in
          let one : acts_at (length acts) (entry role (length acts) a ∷ ys) ≡ a ∷ acts_at (length acts) ys = rw x refl in
          let own : acts_at (length acts) (xs ++ entry role (length acts) a ∷ ys) ≡ a ∷ [] =
          at_append (length acts) xs (entry role (length acts) a ∷ ys)
          ∙ (ap (λ (z : List Act). z ++ acts_at (length acts) (entry role (length acts) a ∷ ys)) (none_at (length acts) xs h.0)
          ∙ (one ∙ ap (λ (z : List Act). a ∷ z) (none_at (length acts) ys h.1))) in
          ap (λ (z : List Act). z ++ acts_below (length acts) (xs ++ entry role (length acts) a ∷ ys)) own
          ∙ ap (λ (z : List Act). a ∷ z) (below_past (length acts) (entry role (length acts) a) xs ys (omega arith) ∙ k)

-- a trail's entries of a role are the parts of its acts

bucket_parts : (w : Setup) (role : ℕ) (acts : List Act) (hs : List (List (Entry BucketNote))) (k : ℕ)
    → ((b : ℕ) → b < length hs → entries_of role (bucket_acts w (k + b) (bucket_at b hs)) ≡ part role (k + b + 2) acts)
    → entries_of role (all_bucket_acts w k hs) ≡ parts_from role (k + 2) (length hs) acts
bucket_parts w role acts [] k h = refl
bucket_parts w role acts (x ∷ hs) k h =
    let e : k + 0 ≡ k = omega arith in
    let i : k + 1 + 2 ≡ k + 2 + 1 = omega arith in
    let first : entries_of role (bucket_acts w k x) ≡ part role (k + 2) acts =
    subst (λ (j : ℕ). entries_of role (bucket_acts w j x) ≡ part role (j + 2) acts) e (h 0 (omega arith)) in
    filter-append (λ (e : Entry Act). e.role == role) (bucket_acts w k x) (all_bucket_acts w (k + 1) hs)
    ∙ (ap (λ (es : List (Entry Act)). es ++ entries_of role (all_bucket_acts w (k + 1) hs)) first
    ∙ ap (λ (es : List (Entry Act)). part role (k + 2) acts ++ es)
    (bucket_parts w role acts hs (k + 1) (λ b l. let j : k + suc b ≡ k + 1 + b = omega arith in
    subst (λ (j : ℕ). entries_of role (bucket_acts w j (bucket_at b hs)) ≡ part role (j + 2) acts) j (h (suc b) (omega (arith, l))))
    ∙ ap (λ (j : ℕ). parts_from role j (length hs) acts) i))

trail_parts : (w : Setup) (t : Histories) (role : ℕ) (acts : List Act) → AreActs w t role acts → entries_of role (all_acts w t) ≡ parts_from role 0 (suc (suc (length t.buckets))) acts
trail_parts w t role acts h =
    filter-append (λ (e : Entry Act). e.role == role) (pool_acts t.pool) (segment_acts t.segments ++ all_bucket_acts w 0 t.buckets)
    ∙ (ap (λ (es : List (Entry Act)). es ++ entries_of role (segment_acts t.segments ++ all_bucket_acts w 0 t.buckets)) h.pool
    ∙ ap (λ (es : List (Entry Act)). part role 0 acts ++ es)
    (filter-append (λ (e : Entry Act). e.role == role) (segment_acts t.segments) (all_bucket_acts w 0 t.buckets)
    ∙ (ap (λ (es : List (Entry Act)). es ++ entries_of role (all_bucket_acts w 0 t.buckets)) h.segments
    ∙ ap (λ (es : List (Entry Act)). part role 1 acts ++ es)
    (bucket_parts w role acts t.buckets 0 (λ b l. let j : b ≡ 0 + b = omega arith in
    subst (λ (j : ℕ). entries_of role (bucket_acts w j (bucket_at b t.buckets)) ≡ part role (j + 2) acts) j (h.buckets b l))))))

-- the acts of a role are those that are found by its step numbers
pub acts_found : (w : Setup) (t : Histories) (role : ℕ) (acts : List Act) → AreActs w t role acts → acts_of w t role ≡ acts
acts_found w t role acts h =
    let e : length t.buckets + 2 ≡ suc (suc (length t.buckets)) = omega arith in
    let k = found_in role (suc (suc (length t.buckets))) acts (subst (λ (n : ℕ). are_within n acts ≡ true) e h.within) in
    ap (λ (es : List (Entry Act)). acts_below (length es) es) (trail_parts w t role acts h)
    ∙ (ap (λ (n : ℕ). acts_below n (parts_from role 0 (suc (suc (length t.buckets))) acts)) k.0 ∙ k.1)

-- so two lists of acts of a role in one trail are the same
pub acts_unique : (w : Setup) (t : Histories) (role : ℕ) (xs ys : List Act) → AreActs w t role xs → AreActs w t role ys → xs ≡ ys
acts_unique w t role xs ys h k = sym (acts_found w t role xs h) ∙ acts_found w t role ys k
