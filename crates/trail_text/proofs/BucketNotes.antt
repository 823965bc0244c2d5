-- What a bucket noted, read: where the words behind the name of the note are read, so is the note.
use Rattle.std.proofs.Common.{◌≡◌, ◌<◌, ◌^◌, ◌∷◌, [], Bool, true, false, List, Option, Some, ap, codes, decimal, ℕ}
use Rattle.std.specs.Str.{bytes_eq}
use Rattle.suri_base.specs.declared.app.App.{App}
use Rattle.suri_base.specs.declared.entry.BucketNote.{BucketNote}
use Rattle.suri_base.specs.declared.entry.BucketNote.TheVariants.{Closed, Found, Missing, Swept}
use Rattle.suri_base.specs.declared.stream.Offer.{Offer}
use Rattle.trail_text.specs.Bounds.{BucketFits, Fits}
use Rattle.trail_text.specs.Pieces.{Spells}
use Rattle.trail_text.specs.Words.{app_word, bucket_words, offer_word, truth_word}

abbrev first : List (List ℕ) → List ℕ
first [] = []
first (w ∷ ws) = w

apart : true ≡ false → ⊥
apart e = cc

found_each : (words : List (List ℕ)) (a : ℕ) (b : Bool) (d : ℕ) (e : ℕ) (o : Offer) → ((u : ℕ) (v : Bool) (x : ℕ) (y : ℕ) (z : Offer) → Fits u → (x < 2 ^ 64) → Fits y
    → words ≡ decimal u ∷ truth_word v ∷ decimal x ∷ decimal y ∷ offer_word z ∷ []
    → ◌≡◌ {A = Option (ℕ × Bool × ℕ × ℕ × Offer)} (Some (a, b, d, e, o)) (Some (u, v, x, y, z)))
    → (n : BucketNote) → BucketFits n → codes "found" ∷ words ≡ bucket_words n → Some (Found a b d e o) ≡ Some n
found_each words a b d e o each (Found u v x y z) fit is =
    let same = each u v x y z fit.0 fit.1 fit.2 (cc) in
    let p : ◌≡◌ {A = ℕ × Bool × ℕ × ℕ × Offer} (a, b, d, e, o) (u, v, x, y, z) = cc same in
    λ i. Some (Found (p i).0 (p i).1 (p i).2 (p i).3 (p i).4)
found_each words a b d e o each _ fit is = absurd (apart (ap (λ w. bytes_eq (codes "found") (first w)) is))

pub found_reads : (words : List (List ℕ)) (a : ℕ) (b : Bool) (d : ℕ) (e : ℕ) (o : Offer)
    → Fits a × (d < 2 ^ 64) × Fits e × (words ≡ decimal a ∷ truth_word b ∷ decimal d ∷ decimal e ∷ offer_word o ∷ []) → ((u : ℕ) (v : Bool) (x : ℕ) (y : ℕ) (z : Offer)
    → Fits u → (x < 2 ^ 64) → Fits y → words ≡ decimal u ∷ truth_word v ∷ decimal x ∷ decimal y ∷ offer_word z ∷ []
    → ◌≡◌ {A = Option (ℕ × Bool × ℕ × ℕ × Offer)} (Some (a, b, d, e, o)) (Some (u, v, x, y, z)))
    → Spells bucket_words BucketFits (codes "found" ∷ words) (Some (Found a b d e o))
found_reads words a b d e o some each =
    record { some = ((some.0, some.1, some.2), ap (λ w. codes "found" ∷ w) some.3); each = found_each words a b d e o each }

missing_each : (words : List (List ℕ)) (a : ℕ) (b : Bool) (d : ℕ) (e : ℕ) → ((u : ℕ) (v : Bool) (x : ℕ) (y : ℕ) → Fits u → (x < 2 ^ 64) → Fits y
    → words ≡ decimal u ∷ truth_word v ∷ decimal x ∷ decimal y ∷ [] → ◌≡◌ {A = Option (ℕ × Bool × ℕ × ℕ)} (Some (a, b, d, e)) (Some (u, v, x, y)))
    → (n : BucketNote) → BucketFits n → codes "missing" ∷ words ≡ bucket_words n → Some (Missing a b d e) ≡ Some n
missing_each words a b d e each (Missing u v x y) fit is =
    let same = each u v x y fit.0 fit.1 fit.2 (cc) in
    let p : ◌≡◌ {A = ℕ × Bool × ℕ × ℕ} (a, b, d, e) (u, v, x, y) = cc same in
    λ i. Some (Missing (p i).0 (p i).1 (p i).2 (p i).3)
missing_each words a b d e each _ fit is = absurd (apart (ap (λ w. bytes_eq (codes "missing") (first w)) is))

pub missing_reads : (words : List (List ℕ)) (a : ℕ) (b : Bool) (d : ℕ) (e : ℕ)
    → Fits a × (d < 2 ^ 64) × Fits e × (words ≡ decimal a ∷ truth_word b ∷ decimal d ∷ decimal e ∷ []) → ((u : ℕ) (v : Bool) (x : ℕ) (y : ℕ) → Fits u → (x < 2 ^ 64)
    → Fits y → words ≡ decimal u ∷ truth_word v ∷ decimal x ∷ decimal y ∷ [] → ◌≡◌ {A = Option (ℕ × Bool × ℕ × ℕ)} (Some (a, b, d, e)) (Some (u, v, x, y)))
    → Spells bucket_words BucketFits (codes "missing" ∷ words) (Some (Missing a b d e))
missing_reads words a b d e some each =
    record { some = ((some.0, some.1, some.2), ap (λ w. codes "missing" ∷ w) some.3); each = missing_each words a b d e each }

closed_each : (words : List (List ℕ)) (a : ℕ) (b : App) (d : ℕ) (e : ℕ) (o : Bool) → ((u : ℕ) (v : App) (x : ℕ) (y : ℕ) (z : Bool) → Fits u → Fits x → Fits y
    → words ≡ decimal u ∷ app_word v ∷ decimal x ∷ decimal y ∷ truth_word z ∷ []
    → ◌≡◌ {A = Option (ℕ × App × ℕ × ℕ × Bool)} (Some (a, b, d, e, o)) (Some (u, v, x, y, z)))
    → (n : BucketNote) → BucketFits n → codes "closed" ∷ words ≡ bucket_words n → Some (Closed a b d e o) ≡ Some n
closed_each words a b d e o each (Closed u v x y z) fit is =
    let same = each u v x y z fit.0 fit.1 fit.2 (cc) in
    let p : ◌≡◌ {A = ℕ × App × ℕ × ℕ × Bool} (a, b, d, e, o) (u, v, x, y, z) = cc same in
    λ i. Some (Closed (p i).0 (p i).1 (p i).2 (p i).3 (p i).4)
closed_each words a b d e o each _ fit is = absurd (apart (ap (λ w. bytes_eq (codes "closed") (first w)) is))

pub closed_reads : (words : List (List ℕ)) (a : ℕ) (b : App) (d : ℕ) (e : ℕ) (o : Bool)
    → Fits a × Fits d × Fits e × (words ≡ decimal a ∷ app_word b ∷ decimal d ∷ decimal e ∷ truth_word o ∷ []) → ((u : ℕ) (v : App) (x : ℕ) (y : ℕ) (z : Bool) → Fits u
    → Fits x → Fits y → words ≡ decimal u ∷ app_word v ∷ decimal x ∷ decimal y ∷ truth_word z ∷ []
    → ◌≡◌ {A = Option (ℕ × App × ℕ × ℕ × Bool)} (Some (a, b, d, e, o)) (Some (u, v, x, y, z)))
    → Spells bucket_words BucketFits (codes "closed" ∷ words) (Some (Closed a b d e o))
closed_reads words a b d e o some each =
    record { some = ((some.0, some.1, some.2), ap (λ w. codes "closed" ∷ w) some.3); each = closed_each words a b d e o each }

swept_each : (words : List (List ℕ)) (a : ℕ) (b : Bool) (d : ℕ) (e : ℕ) → ((u : ℕ) (v : Bool) (x : ℕ) (y : ℕ) → Fits u → (x < 2 ^ 64) → Fits y
    → words ≡ decimal u ∷ truth_word v ∷ decimal x ∷ decimal y ∷ [] → ◌≡◌ {A = Option (ℕ × Bool × ℕ × ℕ)} (Some (a, b, d, e)) (Some (u, v, x, y)))
    → (n : BucketNote) → BucketFits n → codes "swept" ∷ words ≡ bucket_words n → Some (Swept a b d e) ≡ Some n
swept_each words a b d e each (Swept u v x y) fit is =
    let same = each u v x y fit.0 fit.1 fit.2 (cc) in
    let p : ◌≡◌ {A = ℕ × Bool × ℕ × ℕ} (a, b, d, e) (u, v, x, y) = cc same in
    λ i. Some (Swept (p i).0 (p i).1 (p i).2 (p i).3)
swept_each words a b d e each _ fit is = absurd (apart (ap (λ w. bytes_eq (codes "swept") (first w)) is))

pub swept_reads : (words : List (List ℕ)) (a : ℕ) (b : Bool) (d : ℕ) (e : ℕ)
    → Fits a × (d < 2 ^ 64) × Fits e × (words ≡ decimal a ∷ truth_word b ∷ decimal d ∷ decimal e ∷ []) → ((u : ℕ) (v : Bool) (x : ℕ) (y : ℕ) → Fits u → (x < 2 ^ 64)
    → Fits y → words ≡ decimal u ∷ truth_word v ∷ decimal x ∷ decimal y ∷ [] → ◌≡◌ {A = Option (ℕ × Bool × ℕ × ℕ)} (Some (a, b, d, e)) (Some (u, v, x, y)))
    → Spells bucket_words BucketFits (codes "swept" ∷ words) (Some (Swept a b d e))
swept_reads words a b d e some each =
    record { some = ((some.0, some.1, some.2), ap (λ w. codes "swept" ∷ w) some.3); each = swept_each words a b d e each }
