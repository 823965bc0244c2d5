-- What holds of the notes of all acts on buckets.
use Rattle.std.proofs.Common.{ℕ, ◌==◌, Bool, true, false, cond, List, [], ◌∷◌}
use Rattle.run_laws.proofs.Notes.{notes_in}
use Rattle.run_rules.specs.Acts.{Act, on_bucket, on_pool, on_segments}
use Rattle.suri_base.specs.declared.entry.BucketNote.{BucketNote}

-- of one act
abbrev pub NoteOf : (BucketNote → Type 0) → Act → Type 0
NoteOf P (on_bucket b n left) = P n
NoteOf P (on_pool n i) = Unit {0}
NoteOf P (on_segments n) = Unit {0}

-- of all acts
abbrev pub Notes : (BucketNote → Type 0) → List Act → Type 0
Notes P [] = Unit {0}
Notes P (a ∷ acts) = NoteOf P a × Notes P acts

-- of all notes
abbrev pub Held : (BucketNote → Type 0) → List BucketNote → Type 0
Held P [] = Unit {0}
Held P (n ∷ ns) = P n × Held P ns

module _ (P Q : BucketNote → Type 0) (weaker : (n : BucketNote) → P n → Q n) where
  pub note_weaker : (a : Act) → NoteOf P a → NoteOf Q a
  note_weaker (on_bucket b n left) h = weaker n h
  note_weaker (on_pool n i) h = tt
  note_weaker (on_segments n) h = tt

  pub notes_weaker : (acts : List Act) → Notes P acts → Notes Q acts
  notes_weaker [] h = tt
  notes_weaker (a ∷ acts) h = (note_weaker a h.0, notes_weaker acts h.1)

-- what holds of the notes of acts holds of those on one bucket
pub held_in : (P : BucketNote → Type 0) (b : ℕ) (acts : List Act) → Notes P acts → Held P (notes_in b acts)
held_in P b [] h = tt
held_in P b (on_pool n i ∷ acts) h = held_in P b acts h.1
held_in P b (on_segments n ∷ acts) h = held_in P b acts h.1
held_in P b (on_bucket c n left ∷ acts) h = by (c == b) (held_in P b acts h.1)
  where
    by : (t : Bool) → Held P (notes_in b acts) → Held P (cond t (n ∷ notes_in b acts) (notes_in b acts))
    by true k = (h.0, k)
    by false k = k
