-- A capture whose packets are cut into five plain runs: datagrams of one key, one exactly at its timeout and one behind it, and a
-- connection that is reset and begins anew.
use Rattle.std.proofs.Common.{◌≡◌, ℕ, ◌+◌, ◌*◌, ◌^◌, false, List, [], ◌∷◌, Option, Some, None, refl}
use Rattle.std.specs.Prelude.{map}
use Rattle.suri_base.specs.Keys.{same_key}
use Rattle.suri_base.specs.declared.facts.Facts.{Facts}
use Rattle.suri_base.specs.declared.facts.TcpFacts.{TcpFacts}
use Rattle.suri_base.specs.declared.key.Key.{Key}
use Rattle.suri_base.specs.declared.key.Side.TheVariants.{FromA}
use Rattle.suri_base.specs.declared.reason.Reason.TheVariants.{Timeout, TcpReuse, Shutdown}
use Rattle.tcp_session.specs.Moves.{next_state, outcomes}
use Rattle.timeout_table.specs.Table.{rows_for}
use Rattle.plain_runs.specs.Plain.{cut_reason, in_file_order, is_cut, plain_runs_of, reason_of}

-- nanoseconds behind a second
abbrev at_second : ℕ → ℕ → ℕ
at_second n behind = (1700000000 + n) * 10 ^ 9 + behind

abbrev key_with : ℕ → Key
key_with proto = record {
  vlans = record { count = 0; first = 0; second = 0; third = 0 };
  version = 4;
  proto = proto;
  one_way = false;
  a = record { addr = 1; port = 9 };
  b = record { addr = 2; port = 7 };
}

abbrev packet : ℕ → ℕ → ℕ → Option TcpFacts → Facts
packet number time proto tcp = record {
  no = number;
  time = time;
  clock = time;
  key = key_with proto;
  side = FromA;
  len = 58;
  ttl = 64;
  tcp = tcp;
  icmp = None;
  pay_at = 54;
  pay_len = 0;
  next = 0;
}

abbrev datagram : ℕ → ℕ → Facts
datagram number time = packet number time 17 None

abbrev segment : ℕ → ℕ → ℕ → Facts
segment number time flags = packet number time 6 (Some (record { seq = 100; ack = 0; flags = flags }))

-- 30 s behind a datagram its flow goes on, and a nanosecond later it has ended; a SYN behind an RST is a new connection, and one behind a SYN isn't
abbrev packets : List Facts
packets =
    datagram 1 (at_second 0 0) ∷
    segment 2 (at_second 1 0) 0x02 ∷
    segment 3 (at_second 2 0) 0x02 ∷
    datagram 4 (at_second 30 0) ∷
    segment 5 (at_second 31 0) 0x14 ∷
    segment 6 (at_second 32 0) 0x02 ∷
    datagram 7 (at_second 60 1) ∷
    segment 8 (at_second 93 0) 0x02 ∷
    []

-- the numbers of the packets of the plain runs of a protocol
abbrev numbers_of : ℕ → List (List ℕ)
numbers_of proto = map (λ p. map (λ f. f.no) (in_file_order p)) (plain_runs_of (key_with proto) packets)

datagrams_are_cut : numbers_of 17 ≡ (1 ∷ 4 ∷ []) ∷ (7 ∷ []) ∷ []
unfolding is_cut cut_reason same_key rows_for
datagrams_are_cut = refl

datagrams_end : map (reason_of (at_second 93 0)) (plain_runs_of (key_with 17) packets) ≡ Timeout ∷ Timeout ∷ []
unfolding is_cut cut_reason same_key rows_for
datagrams_end = refl

segments_are_cut : numbers_of 6 ≡ (2 ∷ 3 ∷ 5 ∷ []) ∷ (6 ∷ []) ∷ (8 ∷ []) ∷ []
unfolding is_cut cut_reason same_key rows_for next_state outcomes
segments_are_cut = refl

segments_end : map (reason_of (at_second 93 0)) (plain_runs_of (key_with 6) packets) ≡ TcpReuse ∷ Timeout ∷ Shutdown ∷ []
unfolding is_cut cut_reason same_key rows_for next_state outcomes
segments_end = refl
