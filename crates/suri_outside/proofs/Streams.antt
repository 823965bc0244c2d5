-- What is known of a source's bytes after several reads.
use Rattle.std.proofs.Common.{◌≡◌, ℕ, ◌<◌, ◌≤◌, List, [], ◌++◌, length, take, None, Some, IfSome, refl, sym, ap, ◌∙◌, append-nil, ◌+◌, arith, length-append, length-take}
use Rattle.std.proofs.KnownBytes.{Consumes-trans, Consumes-whole}
use Rattle.std.specs.declared.option.Option.{Option}
use Rattle.std.specs.Io.KnownBytes.{Consumes, IsAtEnd}
use Rattle.suri_outside.specs.Bytes.{GivesAtMost}

-- a read that gave nothing into a buffer with room shows that all has come
pub all_came : (start before after : Option (List ℕ)) (came buffer : List ℕ) (n : ℕ) → Consumes start before came
    → Consumes before after (take n buffer) × (n ≡ 0 → 0 < length buffer → IsAtEnd after) → n ≡ 0 → 0 < length buffer → IfSome start (λ bytes. came ≡ bytes)
all_came start before after came buffer n first last none room =
    let nothing : take n buffer ≡ [] = rw none refl in
    let both : Consumes start after (came ++ take n buffer) = Consumes-trans start before after came (take n buffer) first last.0 in
    let same : came ≡ came ++ take n buffer = sym (ap (λ l. came ++ l) nothing ∙ append-nil came) in
    Consumes-whole start after (came ++ take n buffer) (λ bytes. came ≡ bytes) both (last.1 none room) same

-- what has come is a front of what was left
pub more_than_came : (start after : Option (List ℕ)) (came : List ℕ) (limit : ℕ) → Consumes start after came → limit < length came → IfSome start (λ bytes. limit < length bytes)
more_than_came None after came limit h above = tt
more_than_came (Some xs) None came limit h above = absurd h
more_than_came (Some xs) (Some ys) came limit h above = omega (arith, ap length h, length-append came ys)

-- a read more, after bytes within the limit, gives no more than the buffer's length above it
pub gave_more : (start before after : Option (List ℕ)) (came buffer : List ℕ) (n limit room : ℕ) → Consumes start before came → Consumes before after (take n buffer)
    → length came ≤ limit → length buffer ≤ room → GivesAtMost start after (limit + room)
gave_more start before after came buffer n limit room first last fits small = (
  came ++ take n buffer,
  grind (arith, length-append, length-take),
  Consumes-trans start before after came (take n buffer) first last,
)
