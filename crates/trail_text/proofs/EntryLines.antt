-- The words of an entry, and its line.
use Rattle.std.proofs.Common.{◌≡◌, ◌<◌, ◌^◌, ◌∷◌, List, Some, ap, arith, codes, decimal, refl, sym, ℕ, ◌∙◌}
use Rattle.suri_base.specs.declared.entry.BucketNote.{BucketNote}
use Rattle.suri_base.specs.declared.entry.BucketNote.TheVariants as bucket
use Rattle.suri_base.specs.declared.entry.Entry.{Entry}
use Rattle.suri_base.specs.declared.entry.PoolNote.{PoolNote}
use Rattle.suri_base.specs.declared.entry.PoolNote.TheVariants as pool
use Rattle.suri_base.specs.declared.entry.SegNote.{SegNote}
use Rattle.suri_base.specs.declared.entry.SegNote.TheVariants as seg
use Rattle.trail_text.specs.Bounds.{BucketFits, EntryFits, Fits, PoolFits, SegFits}
use Rattle.trail_text.specs.Lines.{entry_words}
use Rattle.trail_text.specs.Pieces.{Reads, Spells, Without, pieces}
use Rattle.trail_text.specs.Words.{bucket_words, pool_words, seg_words, spaced}
use Rattle.trail_text.proofs.Spacing.{AllWithout, app_free, number_free, offer_free, truth_free, word_free, words_back}

pub small : (n : ℕ) → Fits n → Without 32 (decimal n)
small n lt = number_free 32 n (omega arith) (omega arith)

fits_free : (at : ℕ) → at < 48 → (n : ℕ) → Fits n → Without at (decimal n)
fits_free at low n lt = number_free at n low (omega (arith, lt))

space_low : 32 < 48
space_low = omega arith

pub pool_free : (at : ℕ) → at < 48 → (n : PoolNote) → PoolFits n → AllWithout at (pool_words n)
pool_free at low (pool.Took u) fit = (word_free at low (codes "took") refl, (fits_free at low u fit, tt))
pool_free at low (pool.Full u v x) fit = (word_free at low (codes "full") refl, (fits_free at low u fit.0, (fits_free at low v fit.1, (fits_free at low x fit.2, tt))))
pool_free at low (pool.Put u) fit = (word_free at low (codes "put") refl, (fits_free at low u fit, tt))
pool_free at low (pool.Turn u v) fit = (word_free at low (codes "turn") refl, (fits_free at low u fit.0, (fits_free at low v fit.1, tt)))
pool_free at low (pool.Mode u) fit = (word_free at low (codes "mode") refl, (truth_free at low u, tt))
pool_free at low (pool.Over u v) fit = (word_free at low (codes "over") refl, (fits_free at low u fit, (truth_free at low v, tt)))

pub seg_free : (at : ℕ) → at < 48 → (n : SegNote) → SegFits n → AllWithout at (seg_words n)
seg_free at low (seg.Took u) fit = (word_free at low (codes "took") refl, (fits_free at low u fit, tt))
seg_free at low (seg.Full u v x) fit = (word_free at low (codes "full") refl, (fits_free at low u fit.0, (fits_free at low v fit.1, (fits_free at low x fit.2, tt))))
seg_free at low (seg.Gave u) fit = (word_free at low (codes "gave") refl, (fits_free at low u fit, tt))

pub bucket_free : (at : ℕ) → at < 48 → (n : BucketNote) → BucketFits n → AllWithout at (bucket_words n)
bucket_free at low (bucket.Found u v x y z) fit = (word_free at low (codes "found") refl, (fits_free at low u fit.0, (truth_free at low v, (number_free at x low fit.1, (fits_free at low y fit.2, (offer_free at low z, tt))))))
bucket_free at low (bucket.Missing u v x y) fit = (word_free at low (codes "missing") refl, (fits_free at low u fit.0, (truth_free at low v, (number_free at x low fit.1, (fits_free at low y fit.2, tt)))))
bucket_free at low (bucket.Made u v) fit = (word_free at low (codes "made") refl, (fits_free at low u fit, (offer_free at low v, tt)))
bucket_free at low (bucket.Refused u) fit = (word_free at low (codes "refused") refl, (fits_free at low u fit, tt))
bucket_free at low (bucket.Stored u) fit = (word_free at low (codes "stored") refl, (fits_free at low u fit, tt))
bucket_free at low (bucket.Stopped u) fit = (word_free at low (codes "stopped") refl, (fits_free at low u fit, tt))
bucket_free at low (bucket.Closed u v x y z) fit = (word_free at low (codes "closed") refl, (fits_free at low u fit.0, (app_free at low v, (fits_free at low x fit.1, (fits_free at low y fit.2, (truth_free at low z, tt))))))
bucket_free at low (bucket.Idle u v) fit = (word_free at low (codes "idle") refl, (fits_free at low u fit, (app_free at low v, tt)))
bucket_free at low (bucket.Victim u v) fit = (word_free at low (codes "victim") refl, (fits_free at low u fit.0, (fits_free at low v fit.1, tt)))
bucket_free at low (bucket.AllInUse u v) fit = (word_free at low (codes "inuse") refl, (fits_free at low u fit.0, (fits_free at low v fit.1, tt)))
bucket_free at low (bucket.Swept u v x y) fit = (word_free at low (codes "swept") refl, (fits_free at low u fit.0, (truth_free at low v, (number_free at x low fit.1, (fits_free at low y fit.2, tt)))))
bucket_free at low (bucket.Drained u) fit = (word_free at low (codes "drained") refl, (fits_free at low u fit, tt))

module _ {N : Type 0} (words : N → List (List ℕ)) (NoteFits : N → Type 0) where
  back : ((n : N) → NoteFits n → AllWithout 32 (words n)) → (e : Entry N) → EntryFits NoteFits e → pieces 32 (spaced (entry_words words e)) ≡ entry_words words e
  back free e fit = words_back (decimal e.role) (decimal e.step ∷ words e.note) (small e.role fit.0) (number_free 32 e.step space_low fit.1, free e.note fit.2)

  -- an entry is read where its parts are
  pub entry_reads : (old behind_role behind_step : List (List ℕ)) (role step : ℕ) (note : N) → Reads decimal Fits old behind_role (Some role)
      → Reads decimal (λ n. n < 2 ^ 64) behind_role behind_step (Some step) → Spells words NoteFits behind_step (Some note)
      → Spells (entry_words words) (EntryFits NoteFits) old (Some (record { role = role; step = step; note = note }))
  entry_reads old m k role step note r s n =
      let whole : old ≡ decimal role ∷ decimal step ∷ words note = r.some.1 ∙ ap (λ w. decimal role ∷ w) (s.some.1 ∙ ap (λ w. decimal step ∷ w) n.some.1) in
      record {
        some = ((r.some.0, s.some.0, n.some.0), whole);
        each = λ e fit is.
            let first : Some role ≡ Some e.role = r.each e.role (decimal e.step ∷ words e.note) fit.0 is in
            let all : decimal role ∷ decimal step ∷ words note ≡ decimal e.role ∷ decimal e.step ∷ words e.note = sym whole ∙ is in
            let second : Some step ≡ Some e.step = s.each e.step (words e.note) fit.1 (s.some.1 ∙ ap (λ w. decimal step ∷ w) n.some.1 ∙ (cc all)) in
            let third : Some note ≡ Some e.note = n.each e.note fit.2 (n.some.1 ∙ (cc all)) in
            let p : role ≡ e.role = cc in
            let q : step ≡ e.step = cc in
            let t : note ≡ e.note = cc in
            λ i. Some (record { role = p i; step = q i; note = t i });
      }

pub pool_back : (e : Entry PoolNote) → EntryFits PoolFits e → pieces 32 (spaced (entry_words pool_words e)) ≡ entry_words pool_words e
pool_back e fit = back pool_words PoolFits (pool_free 32 space_low) e fit

pub seg_back : (e : Entry SegNote) → EntryFits SegFits e → pieces 32 (spaced (entry_words seg_words e)) ≡ entry_words seg_words e
seg_back e fit = back seg_words SegFits (seg_free 32 space_low) e fit

pub bucket_back : (e : Entry BucketNote) → EntryFits BucketFits e → pieces 32 (spaced (entry_words bucket_words e)) ≡ entry_words bucket_words e
bucket_back e fit = back bucket_words BucketFits (bucket_free 32 space_low) e fit
