-- The packets of a capture by the numbers of their frames, and what is asked of the members of a run.
use Rattle.std.specs.Prelude.{ℕ, zero, suc, ◌*◌, ◌==◌, nat_lt, Bool, false, ◌&&◌, ◌||◌, List, [], ◌∷◌, slice_get, Option, Some, None}
use Rattle.suri_base.specs.Capture.{Captured, facts_in}
use Rattle.suri_base.specs.Clock.{clock_of}
use Rattle.suri_base.specs.Dealing as dealt
use Rattle.suri_base.specs.Keys.{same_key}
use Rattle.suri_base.specs.declared.facts.Facts.{Facts}
use Rattle.suri_base.specs.declared.key.Key.{Key}
use Rattle.suri_base.specs.declared.seen.Seen.{Seen}
use Rattle.flow_sum.specs.Run.{Run, first_of}
use Rattle.flow_expiry.specs.Expiry.{expired, reuses}
use Rattle.bucket_rules.specs.declared.fixed.Fixed.{Fixed}

abbrev pub facts_of_seen : Option Seen → Option Facts
facts_of_seen None = None
facts_of_seen (Some s) = facts_in s

-- the facts of the frame of this number, counted from 1, where it bears a flow
abbrev pub bearing : Captured → ℕ → Option Facts
bearing c zero = None
bearing c (suc n) = facts_of_seen (slice_get c.seen n)

-- the clock of a round's first frame, and of the capture's last
abbrev pub round_clock : Fixed → ℕ → ℕ
round_clock s round = dealt.round_clock s.capture.clocks s.layout.round round

abbrev pub last_clock : Fixed → ℕ
last_clock s = clock_of s.capture.frames

-- so many frames stand before the round
abbrev pub round_start : Fixed → ℕ → ℕ
round_start s round = round * s.layout.round

-- the next packet of its key isn't among so many frames
abbrev pub is_quiet : ℕ → Facts → Bool
is_quiet start m = (m.next == 0) || nat_lt start m.next

-- a test of a run, of members with the newest first, of which there may be none
abbrev pub of_run : List Facts → (Run → Bool) → Bool
of_run [] test = false
of_run (m ∷ ms) test = test (record { newest = m; older = ms })

-- a test of a packet, where there is one
abbrev pub of_packet : Option Facts → (Facts → Bool) → Bool
of_packet None test = false
of_packet (Some t) test = test t

abbrev pub is_expired : List Facts → ℕ → Bool → Bool
is_expired ms clock emergency = of_run ms (λ r. expired r clock emergency)

abbrev pub is_reused : List Facts → Facts → Bool
is_reused ms t = of_run ms (λ r. reuses r t)

abbrev pub has_key : List Facts → Key → Bool
has_key ms k = of_run ms (λ r. same_key (first_of r).key k)

-- the members had expired at the round's clock, and no packet of their key is still to come in a round before it
abbrev pub is_due : Fixed → ℕ → Bool → List Facts → Bool
is_due s round emergency ms = of_run ms (λ r. expired r (round_clock s round) emergency && is_quiet (round_start s round) r.newest)
