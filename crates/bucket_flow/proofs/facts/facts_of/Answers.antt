use Rattle.std.proofs.Common.{◌<◌, ◌≤◌, ◌^◌, ℕ, sym, subst, arith}
use Rattle.suri_base.specs.Capture.{Captured, HasFacts, IsCapture}
use Rattle.suri_base.specs.declared.facts.Facts.{Facts}
use Rattle.bucket_flow.specs.Held.{IsFine}
use Rattle.bucket_flow.proofs.Captured.{bearing_from, bearing_clock, bearing_number}
use Rattle.bucket_flow.proofs.facts.facts_of.Goals as goal

fine : (c : Captured) (f : ℕ) (t : Facts) → IsCapture c → HasFacts c f t → f < 2 ^ 32 → t.len < 2 ^ 32 → IsFine c f t
fine c f t is h small len =
    let b = bearing_from c f t h in
    let n = bearing_number c f t is b in
    record {
      number = n;
      facts = subst (λ (x : ℕ). HasFacts c x t) (sym n) h;
      positive = subst (λ (x : ℕ). 1 ≤ x) (sym n) h.0;
      small = subst (λ (x : ℕ). x < 2 ^ 32) (sym n) small;
      clock = bearing_clock c f t is b;
      len = len;
    }

pub returns-in-Bears-clause-fine : goal.returns-in-Bears-clause-fine
returns-in-Bears-clause-fine c =
    let positive : 1 ≤ c.args.no = omega (arith, c.if-no-eq0.false) in
    fine c.args.capture.now c.args.no c.in-Bears.facts c.count.ensures.fits (positive, c.in-Bears.ensures.found) (omega (arith, c.if-no-count.false, c.count.ensures.few)) c.note_range.ensures
