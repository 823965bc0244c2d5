-- The digest of no byte.
use Rattle.std.proofs.Common.{◌≡◌, [], ◌∷◌, refl}
use Rattle.sha1.specs.Sha1.{first_words, schedule, rounds, compress, hash_after, digest_bytes, sha1}

-- by the rules of FIPS 180-4
pub digest_of_none : sha1 [] ≡ 0xda ∷ 0x39 ∷ 0xa3 ∷ 0xee ∷ 0x5e ∷ 0x6b ∷ 0x4b ∷ 0x0d ∷ 0x32 ∷ 0x55 ∷ 0xbf ∷ 0xef ∷ 0x95 ∷ 0x60 ∷ 0x18 ∷ 0x90 ∷
    0xaf ∷ 0xd8 ∷ 0x07 ∷ 0x09 ∷ []
unfolding first_words schedule rounds compress hash_after digest_bytes sha1
digest_of_none = refl
