-- What one call makes of a flow shares nothing that the flow didn't share.
use Rattle.std.proofs.Common.{◌≡◌, ℕ, ◌==◌, Bool, true, false, not, cond, ◌&&◌, List, refl, sym, ◌∙◌, ap}
use Rattle.suri_base.specs.declared.app.App.{App}
use Rattle.suri_base.specs.declared.facts.Facts.{Facts}
use Rattle.suri_base.specs.declared.stream.Offer.{Offer}
use Rattle.flow_sum.specs.Run.{Run, with_one_more}
use Rattle.flow_sum.specs.declared.sums.Sums.{Sums}
use Rattle.flow_object.specs.Standing.{AsksFor, StandsFor}
use Rattle.bucket_rules.specs.Own.{is_needing}
use Rattle.bucket_rules.specs.Row.{Off, detached, has, is_linked}
use Rattle.bucket_flow.specs.Held.{Held, Closed, IsMade, Joined, Settled, off_by}
use Rattle.bucket_flow.specs.Flows.{detached_for}
use Rattle.flow_table.specs.Slots.{AreKin, HasRoomier}
use Rattle.bucket_flow.specs.declared.flow.Cause.{Cause}
use Rattle.bucket_flow.proofs.Small.{beside_if}
use Rattle.flow_table.proofs.Sound.{IsLess, same_less}

pub made_key : (bytes : List ℕ) (t : Facts) (setting : ℕ) (said : Offer) (g : Held) → IsMade bytes t setting said g → g.obj.sums.key ≡ t.key
made_key bytes t setting said g m = ap (λ (x : Sums). x.key) m.object.beside.sums

pub joined_key : (bytes : List ℕ) (t : Facts) (said : Offer) (f g : Held) (r : Run) (judged : List App) → Joined bytes t said f g → StandsFor f.obj bytes r judged → g.obj.sums.key ≡ f.obj.sums.key
joined_key bytes t said f g r judged j known =
    ap (λ (x : Sums). x.key) (beside_if (is_needing said) g.obj bytes (with_one_more t r) judged (j.object r judged known)).sums ∙ sym (ap (λ (x : Sums). x.key) known.beside.sums)

pub settled_less : (bytes : List ℕ) (stored : Bool) (f g : Held) (r : Run) (judged : List App) → Settled bytes stored f g → AsksFor f.obj bytes r judged → IsLess f g
settled_less bytes stored f g r judged k asks = record {
  run = k.run;
  key = ap (λ (x : Sums). x.key) (k.object r judged asks).beside.sums ∙ sym (ap (λ (x : Sums). x.key) asks.beside.sums);
  linked = λ e. ap is_linked (sym k.place) ∙ e;
  uses = λ u e. ap (λ (us : List ℕ). has us u) (sym k.uses) ∙ e;
}

pub closed_less : (frame : ℕ) (app : App) (count : ℕ) (f g : Held) → Closed frame app count f g → g.obj.sums.key ≡ f.obj.sums.key → IsLess f g
closed_less frame app count f g k key = record {
  run = k.run;
  key = key;
  linked = λ e. ap is_linked (sym k.place) ∙ e;
  uses = λ u e. both (has f.uses u) (not (u == frame)) (sym (k.uses u) ∙ e);
}
  where
    both : (p q : Bool) → (p && q) ≡ true → p ≡ true
    both true q e = refl
    both false q e = cc

pub off_less : (c : Cause) (f : Held) → IsLess f (off_by c f)
off_less c f = record { run = refl; key = refl; linked = λ e. cc; uses = λ u e. e }

pub detached_less : (o : Off) (test : Bool) (f : Held) → IsLess f (detached_for o test f)
detached_less o test f = by (is_linked f.place && test)
  where
    by : (b : Bool) → IsLess f (cond b (record f { place = detached o }) f)
    by true = record { run = refl; key = refl; linked = λ e. cc; uses = λ u e. e }
    by false = same_less f

pub roomier_less : (f g : Held) → HasRoomier f g → IsLess f g
roomier_less f g k =
    let e = k.same in
    record {
      run = ap (λ (x : Held). x.run) e;
      key = ap (λ (x : Held). x.obj.sums.key) e;
      linked = λ l. ap (λ (x : Held). is_linked x.place) (sym e) ∙ l;
      uses = λ u l. ap (λ (x : Held). has x.uses u) (sym e) ∙ l;
    }

-- and what of it marks are made of
pub settled_kin : (bytes : List ℕ) (stored : Bool) (f g : Held) (r : Run) (judged : List App) → Settled bytes stored f g → AsksFor f.obj bytes r judged → AreKin f g
settled_kin bytes stored f g r judged k asks =
    let was = asks.beside in
    let is = (k.object r judged asks).beside in
    record { run = k.run; place = k.place; sums = is.sums ∙ sym was.sums; state = is.state ∙ sym was.state }

pub roomier_kin : (f g : Held) → HasRoomier f g → AreKin f g
roomier_kin f g k =
    let e = k.same in
    record { run = ap (λ (x : Held). x.run) e; place = ap (λ (x : Held). x.place) e; sums = ap (λ (x : Held). x.obj.sums) e; state = ap (λ (x : Held). x.obj.state) e }

pub closed_kin : (frame : ℕ) (app : App) (count : ℕ) (f g : Held) → Closed frame app count f g → g.obj.sums ≡ f.obj.sums → g.obj.state ≡ f.obj.state → AreKin f g
closed_kin frame app count f g k sums state = record { run = k.run; place = k.place; sums = sums; state = state }
