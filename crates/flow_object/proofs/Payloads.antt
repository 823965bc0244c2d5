-- Payloads of packets in the capture's bytes.
use Rattle.std.proofs.Common.{◌≡◌, ℕ, ◌+◌, ◌-◌, ◌≤◌, List, length, take, drop, ap, arith, length-drop}
use Rattle.std.proofs.lemmas.List.{length-take}
use Rattle.reassembly.specs.Kept.{LiesIn}
use Rattle.suri_base.specs.App.{payload_of}
use Rattle.suri_base.specs.declared.facts.Facts.{Facts}

pub payload_length : (bytes : List ℕ) (f : Facts) → f.pay_at + f.pay_len ≤ length bytes → length (payload_of bytes f) ≡ f.pay_len
payload_length bytes f inside =
    let front = length-take (f.pay_at + f.pay_len - f.pay_at) (drop f.pay_at bytes) in
    let rest = length-drop f.pay_at bytes in
    omega (arith, front, rest)

pub payload_lies : (bytes : List ℕ) (f : Facts) → f.pay_at + f.pay_len ≤ length bytes → LiesIn bytes f.pay_at (payload_of bytes f)
payload_lies bytes f inside =
    let l = payload_length bytes f inside in
    record {
      within = omega (arith, l);
      same = ap (λ (n : ℕ). take (f.pay_at + n - f.pay_at) (drop f.pay_at bytes)) l;
    }
