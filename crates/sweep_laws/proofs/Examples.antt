-- A run that a sweep lets go, beside one that it leaves, and a history that isn't lawful, whose sweep stands too early: there a look meets a run
-- that had expired.
use Rattle.std.proofs.Common.{◌≡◌, true, false, [], ◌∷◌, drop, inl, inr, refl}
use Rattle.bucket_laws.specs.Places.{History}
use Rattle.bucket_rules.proofs.Words.{true_false}
use Rattle.bucket_rules.specs.Packets.{is_expired, round_clock}
use Rattle.bucket_rules.specs.Row.{is_linked, row}
use Rattle.bucket_rules.specs.declared.fixed.Fixed.{Fixed}
use Rattle.run_rules.proofs.ThreeRounds.{three_rounds_setup, three_rounds_trail}
use Rattle.run_rules.specs.Histories.{bucket_at}
use Rattle.run_rules.specs.Setup.{fixed_at}
use Rattle.suri_base.specs.History.{entry}
use Rattle.suri_base.specs.Keys.{same_key}
use Rattle.suri_base.specs.declared.entry.BucketNote.TheVariants.{Made, Missing, Swept}
use Rattle.suri_base.specs.declared.stream.Offer.TheVariants as offer
use Rattle.sweep_laws.specs.Sweeping.{LooksMeetNoneExpired}
use Rattle.tcp_session.specs.Moves.{next_state, outcomes}
use Rattle.timeout_table.specs.Table.{rows_for}

abbrev bucket : Fixed
bucket = fixed_at three_rounds_setup 1

-- up to the sweep of round 1, and with it
abbrev unswept : History
unswept = drop 3 (bucket_at 1 three_rounds_trail.buckets)

abbrev swept : History
swept = entry 2 6 (Swept 1 false 8 1) ∷ unswept

swept_is : drop 2 (bucket_at 1 three_rounds_trail.buckets) ≡ swept
swept_is = refl

-- run 1 had expired, and was let go
expired_then : is_expired (row bucket 1 unswept).members (round_clock bucket 1) false ≡ true
unfolding next_state outcomes rows_for same_key
expired_then = refl

linked_then : is_linked (row bucket 1 unswept).place ≡ true
unfolding next_state outcomes rows_for same_key
linked_then = refl

let_go : is_linked (row bucket 1 swept).place ≡ false
unfolding next_state outcomes rows_for same_key
let_go = refl

-- run 2 had not, and was left
left : is_linked (row bucket 2 swept).place ≡ true
unfolding next_state outcomes rows_for same_key
left = refl

unexpired : is_expired (row bucket 2 swept).members (round_clock bucket 1) false ≡ false
unfolding next_state outcomes rows_for same_key
unexpired = refl

-- the sweep of round 1 before run 1 began
abbrev too_early : History
too_early =
    entry 0 4 (Missing 5 false 2 0) ∷
    entry 0 3 (Made 1 offer.Nothing) ∷
    entry 0 1 (Missing 1 false 2 0) ∷
    entry 2 6 (Swept 1 false 1 0) ∷
    []

early_expired : is_expired (row bucket 1 (drop 1 too_early)).members (round_clock bucket 1) false ≡ true
unfolding next_state outcomes rows_for same_key
early_expired = refl

pub early_sweep : LooksMeetNoneExpired bucket too_early → ⊥
early_sweep meet =
    let none = (meet (entry 0 4 (Missing 5 false 2 0)) (drop 1 too_early) (inl (refl, refl)) 1 refl).none false
    (record { role = 2; step = 6; seen = 1; count = 0; past = []; place = inr (inr (inl (refl, refl))) }) in
    true_false early_expired (none 1 refl)
