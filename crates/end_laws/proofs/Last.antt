-- What came to a history since some time, where no role but the last has an entry there: all of it is of the last role.
use Rattle.std.proofs.Common.{◌≡◌, ◌≢◌, ℕ, suc, ◌<◌, All, List, [], ◌∷◌, ◌++◌, length, ⊎_elim, refl, sym, ◌∙◌, subst, arith}
use Rattle.std.proofs.lemmas.Bool.Decides.{eqb_tells}
use Rattle.std.proofs.lemmas.List.Elements.{All-cons, All-nil, All-tail}
use Rattle.end_laws.proofs.Whole.{none_since}
use Rattle.round_laws.specs.Cuts.{GrewBy, HasGrownBy}
use Rattle.run_rules.specs.Growing.{Grew, GrewFor}
use Rattle.run_rules.specs.Histories.{Histories, bucket_at}
use Rattle.run_rules.specs.Lawful.{AreLegal}
use Rattle.run_rules.specs.Setup.{Setup, ender, roles}
use Rattle.suri_base.proofs.Histories.{entries_other, entries_own}
use Rattle.suri_base.specs.History.{entries_of}
use Rattle.suri_base.specs.declared.entry.Entry.{Entry}

not_nil : {A : Type 0} (x : A) (xs : List A) → x ∷ xs ≡ [] → ⊥
not_nil x xs h = cc

-- where no role below the last one has an entry, all are the last one's
all_of_last : {N : Type 0} (last : ℕ) (since old : List (Entry N)) → All (λ e. e.role < suc last) (since ++ old) → ((k : ℕ) → k < last → entries_of k since ≡ [])
    → All (λ e. e.role ≡ last) since
all_of_last {N} last [] old low none = All-nil (λ (d : Entry N). d.role ≡ last)
all_of_last {N} last (e ∷ since) old low none =
    let here : e.role < suc last = low 0 e (omega arith) in
    ⊎_elim
    (λ x. All-cons (λ (d : Entry N). d.role ≡ last) e since x.1
    (all_of_last last since old (All-tail (λ (d : Entry N). d.role < suc last) e (since ++ old) low) (λ k l. sym (entries_other k since e (apart k x.1 l)) ∙ none k l)))
    (λ x. absurd (not_nil e (entries_of e.role since) (sym (entries_own e.role since e refl) ∙ none e.role (below here x.1))))
    (eqb_tells e.role last)
  where
    apart : (k : ℕ) → e.role ≡ last → k < last → e.role ≢ k
    apart k x l y = omega (arith, x, l, y)

    below : e.role < suc last → e.role ≢ last → e.role < last
    below l n = omega (arith, l, n)

-- where every role below the last one saw the history grow by entries of others
grew_by_last : {N : Type 0} (last : ℕ) (old new : List (Entry N)) → 0 < last → ((k : ℕ) → k < last → GrewFor k old new) → All (λ e. e.role < suc last) new → GrewBy last old new
grew_by_last {N} last old new some grew low =
    let first = grew 0 some in (
      first.0,
      first.1,
      all_of_last last first.0 old (subst (λ (l : List (Entry N)). All (λ (e : Entry N). e.role < suc last) l) first.1 low) (λ k l. none_since k first.0 old new first.1 (grew k l)),
    )

-- no entry is of another role than these
pub record AreBelow (n : ℕ) (t : Histories) : Type 0 where
  pub pool : All (λ e. e.role < n) t.pool
  pub segments : All (λ e. e.role < n) t.segments
  pub buckets : (b : ℕ) → b < length t.buckets → All (λ e. e.role < n) (bucket_at b t.buckets)

-- so the last role has no other role above it
pub whole_roles : (w : Setup) (t : Histories) → AreLegal w t → AreBelow (suc (ender w)) t
whole_roles w t l =
    let e : roles w ≡ suc (ender w) = omega arith in subst (λ (n : ℕ). AreBelow n t) e (record { pool = l.pool_roles; segments = l.segment_roles; buckets = l.bucket_roles })

pub grown_by_last : (last : ℕ) (old new : Histories) → 0 < last → ((k : ℕ) → k < last → Grew k old new) → AreBelow (suc last) new → HasGrownBy last old new
grown_by_last last old new some grew low = record {
  pool = grew_by_last last old.pool new.pool some (λ k l. (grew k l).pool) low.pool;
  segments = grew_by_last last old.segments new.segments some (λ k l. (grew k l).segments) low.segments;
  rows = (grew 0 some).rows;
  buckets = λ b inside. grew_by_last last (bucket_at b old.buckets) (bucket_at b new.buckets) some (λ k l. (grew k l).buckets b inside) (low.buckets b (more b inside));
}
  where
    more : (b : ℕ) → b < length old.buckets → b < length new.buckets
    more b inside = omega (arith, inside, (grew 0 some).rows)
