-- One step of the walk past the extension headers.
use Rattle.std.proofs.Common.{◌≡◌, ℕ, zero, suc, ◌<◌, ◌-◌, List, length, drop, slice_index, true, false, Ok, Err, refl, arith, sub-one}
use Rattle.suri_base.specs.declared.counter.Counter.{Counter}
use Rattle.suri_base.specs.declared.counter.Counter.TheVariants.{IpExtensions}
use Rattle.ip_decode.specs.Extensions.{extension_size, is_extension, upper_of}

-- no extension header stands there
pub upper_of-end : (room next : ℕ) (bytes : List ℕ) → is_extension next ≡ false → upper_of room next bytes ≡ Ok (record { proto = next; len = length bytes })
unfolding upper_of
upper_of-end zero next bytes none = rw none refl
upper_of-end (suc room) next bytes none = rw none refl

-- there are too many
pub upper_of-full : (next : ℕ) (bytes : List ℕ) → is_extension next ≡ true → upper_of 0 next bytes ≡ Err IpExtensions
unfolding upper_of
upper_of-full next bytes one = rw one refl

-- one more is walked past
pub upper_of-step : (room next size : ℕ) (bytes : List ℕ) → is_extension next ≡ true → 0 < room → extension_size next bytes ≡ Ok size
    → upper_of room next bytes ≡ upper_of (room - 1) (slice_index bytes 0) (drop size bytes)
unfolding upper_of
upper_of-step zero next size bytes one some is = absurd (omega arith)
upper_of-step (suc room) next size bytes one some is = rw (one, is, sub-one) refl

-- the next one can't be walked past
pub upper_of-fault : (room next : ℕ) (counter : Counter) (bytes : List ℕ) → is_extension next ≡ true → 0 < room → extension_size next bytes ≡ Err counter
    → upper_of room next bytes ≡ Err counter
unfolding upper_of
upper_of-fault zero next counter bytes one some is = absurd (omega arith)
upper_of-fault (suc room) next counter bytes one some is = rw (one, is) refl
