-- What a role may ask of a bucket hangs on its own entries there, and these are the notes of its acts on that bucket.
use Rattle.std.proofs.Common.{◌≡◌, ℕ, ◌==◌, ◌+◌, ◌<◌, nat_lt, Bool, true, false, cond, not, ◌&&◌, ◌||◌, if◌then◌else◌, List, [], ◌∷◌, length, Option, None, ⊎_elim, refl, sym, ◌∙◌, ap, arith}
use Rattle.std.proofs.lemmas.Bool.Decides.{nat_tests}
use Rattle.bucket_laws.proofs.Tests.{either, or_left, or_right}
use Rattle.bucket_laws.specs.Leaving.{gone}
use Rattle.bucket_rules.specs.Own.{awaits, awaits_by, closes, is_closed, is_fresh, is_open, looked, open_by, owed, owes}
use Rattle.run_rules.specs.Acts.{Act, AreActs, bucket_acts, on_bucket, on_pool, on_segments, part}
use Rattle.run_rules.specs.Histories.{Histories, bucket_at}
use Rattle.run_rules.specs.Setup.{Setup, fixed_at}
use Rattle.suri_base.specs.History.{entries_of, entry}
use Rattle.suri_base.specs.declared.entry.BucketNote.{BucketNote}
use Rattle.suri_base.specs.declared.entry.Entry.{Entry}

-- the notes of a role's entries, the newest first
abbrev pub own_notes : ℕ → List (Entry BucketNote) → List BucketNote
own_notes role [] = []
own_notes role (e ∷ past) = if e.role == role then e.note ∷ own_notes role past else own_notes role past

-- the notes of acts on one bucket
abbrev pub note_on : ℕ → Act → List BucketNote → List BucketNote
note_on b (on_bucket c n left) ns = if c == b then n ∷ ns else ns
note_on b (on_pool n i) ns = ns
note_on b (on_segments n) ns = ns

abbrev pub notes_in : ℕ → List Act → List BucketNote
notes_in b [] = []
notes_in b (a ∷ acts) = note_on b a (notes_in b acts)

-- the notes of entries that are acts
abbrev note_of : Act → List BucketNote → List BucketNote
note_of (on_bucket c n left) ns = n ∷ ns
note_of (on_pool n i) ns = ns
note_of (on_segments n) ns = ns

abbrev notes_of : List (Entry Act) → List BucketNote
notes_of [] = []
notes_of (e ∷ es) = note_of e.note (notes_of es)

history_notes : (w : Setup) (b role : ℕ) (h : List (Entry BucketNote)) → notes_of (entries_of role (bucket_acts w b h)) ≡ own_notes role h
history_notes w b role [] = refl
history_notes w b role (e ∷ h) = by (e.role == role) (history_notes w b role h)
  where
    by : (t : Bool) → notes_of (entries_of role (bucket_acts w b h)) ≡ own_notes role h
        → notes_of (cond t (entry e.role e.step (on_bucket b e.note (gone (fixed_at w b) h e.note)) ∷ entries_of role (bucket_acts w b h)) (entries_of role (bucket_acts w b h)))
        ≡ cond t (e.note ∷ own_notes role h) (own_notes role h)
    by true k = ap (λ (ns : List BucketNote). e.note ∷ ns) k
    by false k = k

part_notes : (b role : ℕ) (acts : List Act) → notes_of (part role (b + 2) acts) ≡ notes_in b acts
part_notes b role [] = refl
part_notes b role (on_pool n i ∷ acts) = by (0 == b + 2) (part_notes b role acts)
  where
    by : (t : Bool) → notes_of (part role (b + 2) acts) ≡ notes_in b acts
        → notes_of (cond t (entry role (length acts) (on_pool n i) ∷ part role (b + 2) acts) (part role (b + 2) acts)) ≡ notes_in b acts
    by true k = k
    by false k = k
part_notes b role (on_segments n ∷ acts) = by (1 == b + 2) (part_notes b role acts)
  where
    by : (t : Bool) → notes_of (part role (b + 2) acts) ≡ notes_in b acts
        → notes_of (cond t (entry role (length acts) (on_segments n) ∷ part role (b + 2) acts) (part role (b + 2) acts)) ≡ notes_in b acts
    by true k = k
    by false k = k
part_notes b role (on_bucket c n left ∷ acts) = let e : (c + 2 == b + 2) ≡ (c == b) = grind (arith, nat_tests) in
    ap (λ (t : Bool). notes_of (cond t (entry role (length acts) (on_bucket c n left) ∷ part role (b + 2) acts) (part role (b + 2) acts))) e ∙ by (c == b) (part_notes b role acts)
  where
    by : (t : Bool) → notes_of (part role (b + 2) acts) ≡ notes_in b acts
        → notes_of (cond t (entry role (length acts) (on_bucket c n left) ∷ part role (b + 2) acts) (part role (b + 2) acts)) ≡ cond t (n ∷ notes_in b acts) (notes_in b acts)
    by true k = ap (λ (ns : List BucketNote). n ∷ ns) k
    by false k = k

pub own_notes_are : (w : Setup) (t : Histories) (role b : ℕ) (acts : List Act) → AreActs w t role acts → b < length t.buckets → own_notes role (bucket_at b t.buckets) ≡ notes_in b acts
own_notes_are w t role b acts a h = sym (history_notes w b role (bucket_at b t.buckets)) ∙ (ap notes_of (a.buckets b h) ∙ part_notes b role acts)

-- what is read off own notes

abbrev pub owes_by : List BucketNote → Option ℕ
owes_by [] = None
owes_by (n ∷ ns) = owed n

abbrev pub awaits_of : ℕ → List BucketNote → Bool
awaits_of f [] = false
awaits_of f (n ∷ ns) = awaits_by f n (awaits_of f ns)

abbrev pub open_of : ℕ → List BucketNote → Bool
open_of f [] = false
open_of f (n ∷ ns) = open_by f n (open_of f ns)

abbrev pub fresh_of : ℕ → List BucketNote → Bool
fresh_of f [] = true
fresh_of f (n ∷ ns) = nat_lt (looked n) f && fresh_of f ns

abbrev pub closed_of : ℕ → List BucketNote → Bool
closed_of f [] = false
closed_of f (n ∷ ns) = closes f n || closed_of f ns

pub owes_are : (role : ℕ) (h : List (Entry BucketNote)) → owes role h ≡ owes_by (own_notes role h)
owes_are role [] = refl
owes_are role (e ∷ h) = by (e.role == role) (owes_are role h)
  where
    by : (t : Bool) → owes role h ≡ owes_by (own_notes role h) → cond t (owed e.note) (owes role h) ≡ owes_by (cond t (e.note ∷ own_notes role h) (own_notes role h))
    by true k = refl
    by false k = k

pub awaits_are : (role f : ℕ) (h : List (Entry BucketNote)) → awaits role f h ≡ awaits_of f (own_notes role h)
awaits_are role f [] = refl
awaits_are role f (e ∷ h) = by (e.role == role) (awaits_are role f h)
  where
    by : (t : Bool) → awaits role f h ≡ awaits_of f (own_notes role h)
        → cond t (awaits_by f e.note (awaits role f h)) (awaits role f h) ≡ awaits_of f (cond t (e.note ∷ own_notes role h) (own_notes role h))
    by true k = ap (awaits_by f e.note) k
    by false k = k

pub open_are : (role f : ℕ) (h : List (Entry BucketNote)) → is_open role f h ≡ open_of f (own_notes role h)
open_are role f [] = refl
open_are role f (e ∷ h) = by (e.role == role) (open_are role f h)
  where
    by : (t : Bool) → is_open role f h ≡ open_of f (own_notes role h)
        → cond t (open_by f e.note (is_open role f h)) (is_open role f h) ≡ open_of f (cond t (e.note ∷ own_notes role h) (own_notes role h))
    by true k = ap (open_by f e.note) k
    by false k = k

pub fresh_are : (role f : ℕ) (h : List (Entry BucketNote)) → is_fresh role f h ≡ fresh_of f (own_notes role h)
fresh_are role f [] = refl
fresh_are role f (e ∷ h) = by (e.role == role) (fresh_are role f h)
  where
    by : (t : Bool) → is_fresh role f h ≡ fresh_of f (own_notes role h)
        → ((not t || nat_lt (looked e.note) f) && is_fresh role f h) ≡ fresh_of f (cond t (e.note ∷ own_notes role h) (own_notes role h))
    by true k = ap (λ (x : Bool). nat_lt (looked e.note) f && x) k
    by false k = k

pub closed_by_own : (role f : ℕ) (h : List (Entry BucketNote)) → closed_of f (own_notes role h) ≡ true → is_closed f h ≡ true
closed_by_own role f [] k = cc
closed_by_own role f (e ∷ h) k = by (e.role == role) k (λ x. closed_by_own role f h x)
  where
    by : (t : Bool) → closed_of f (cond t (e.note ∷ own_notes role h) (own_notes role h)) ≡ true → (closed_of f (own_notes role h) ≡ true → is_closed f h ≡ true)
        → (closes f e.note || is_closed f h) ≡ true
    by true k more = ⊎_elim (λ x. or_left (closes f e.note) (is_closed f h) x) (λ x. or_right (closes f e.note) (is_closed f h) (more x)) (either (closes f e.note) (closed_of f (own_notes role h)) k)
    by false k more = or_right (closes f e.note) (is_closed f h) (more k)
