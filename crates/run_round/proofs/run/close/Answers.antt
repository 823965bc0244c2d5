use Rattle.std.proofs.Common.{◌≡◌, ℕ, ◌+◌, List, length, get_or, refl, sym, subst}
use Rattle.lock_rows.proofs.Goods.{whole_back}
use Rattle.role_meets.specs.Parts.{kind_of, recycles}
use Rattle.role_meets.specs.declared.roles.Role.{Role}
use Rattle.role_steps.specs.Roles.{setup_of}
use Rattle.run_round.proofs.Closing.{drains, ended, fit, last_at, locks, some}
use Rattle.run_round.specs.Closing.{AreParted}
use Rattle.run_round.specs.Handing.{IsTaken}
use Rattle.run_rules.specs.Setup.{rounds}
use Rattle.run_round.proofs.run.close.Goals as goal

pub take_waiting-requires : goal.take_waiting-requires
take_waiting-requires g c = record {
  last = subst (λ (l : List Role). (m : ℕ) × (length l ≡ m + 1) × ((d : Role) → kind_of (get_or l m d).part ≡ recycles)) (sym c.deref_mut.ensures.value)
      (last_at c.args.shared (rounds (setup_of c.args.shared)) c.args.roles.items c.args.ender c.requires);
}

pub drain_all-requires : goal.drain_all-requires
drain_all-requires g c =
    let taken = subst (λ (l : List Role). IsTaken c.take_waiting.result.items l c.take_waiting.new.roles) c.deref_mut.ensures.value c.take_waiting.ensures in
    drains c.args.shared c.args.roles.items c.take_waiting.new.roles c.args.ender _ c.args.ender c.take_waiting.result.items c.requires taken refl refl refl

pub finish_all-requires-clause-some : goal.finish_all-requires-clause-some
finish_all-requires-clause-some g c =
    let taken = subst (λ (l : List Role). IsTaken c.take_waiting.result.items l c.take_waiting.new.roles) c.deref_mut.ensures.value c.take_waiting.ensures in
    let back = whole_back c.take_waiting.new.roles c.args.roles.items c.args.roles.len taken.count c.args.roles.ok.0 in
    let parted = subst (λ (l : List Role). AreParted l c.drain_all.new.ender c.in_ok-passes.passes.items c.in_ok-passes.lines.items) back c.in_ok-passes.ensures in
    some c.args.shared c.args.roles.items c.take_waiting.new.roles c.args.ender _ c.drain_all.new.ender c.take_waiting.result.items c.requires taken refl refl refl c.in_ok-drain_all.ensures.drained
    c.in_ok-passes.passes.items c.in_ok-passes.lines.items parted

pub finish_all-requires-clause-locks : goal.finish_all-requires-clause-locks
finish_all-requires-clause-locks g c =
    let taken = subst (λ (l : List Role). IsTaken c.take_waiting.result.items l c.take_waiting.new.roles) c.deref_mut.ensures.value c.take_waiting.ensures in
    let back = whole_back c.take_waiting.new.roles c.args.roles.items c.args.roles.len taken.count c.args.roles.ok.0 in
    let parted = subst (λ (l : List Role). AreParted l c.drain_all.new.ender c.in_ok-passes.passes.items c.in_ok-passes.lines.items) back c.in_ok-passes.ensures in
    locks c.args.shared c.args.roles.items c.take_waiting.new.roles c.args.ender _ c.drain_all.new.ender c.take_waiting.result.items c.requires taken refl refl refl c.in_ok-drain_all.ensures.drained
    c.in_ok-passes.passes.items c.in_ok-passes.lines.items parted

pub finish_all-requires-clause-all : goal.finish_all-requires-clause-all
finish_all-requires-clause-all g c =
    let taken = subst (λ (l : List Role). IsTaken c.take_waiting.result.items l c.take_waiting.new.roles) c.deref_mut.ensures.value c.take_waiting.ensures in
    let back = whole_back c.take_waiting.new.roles c.args.roles.items c.args.roles.len taken.count c.args.roles.ok.0 in
    let parted = subst (λ (l : List Role). AreParted l c.drain_all.new.ender c.in_ok-passes.passes.items c.in_ok-passes.lines.items) back c.in_ok-passes.ensures in
    fit c.args.shared c.args.roles.items c.take_waiting.new.roles c.args.ender _ c.drain_all.new.ender c.take_waiting.result.items c.requires taken refl refl refl c.in_ok-drain_all.ensures.drained
    c.in_ok-passes.passes.items c.in_ok-passes.lines.items parted

pub returns : goal.returns
returns g c =
    let taken = subst (λ (l : List Role). IsTaken c.take_waiting.result.items l c.take_waiting.new.roles) c.deref_mut.ensures.value c.take_waiting.ensures in
    let back = whole_back c.take_waiting.new.roles c.args.roles.items c.args.roles.len taken.count c.args.roles.ok.0 in
    let parted = subst (λ (l : List Role). AreParted l c.drain_all.new.ender c.in_ok-passes.passes.items c.in_ok-passes.lines.items) back c.in_ok-passes.ensures in record {
      layout = c.in_ok-trail.ensures.layout;
      ended = ended c.args.shared c.args.roles.items c.take_waiting.new.roles c.args.ender _ c.drain_all.new.ender c.take_waiting.result.items c.requires taken refl refl refl c.in_ok-drain_all.ensures.drained
          c.in_ok-passes.passes.items c.in_ok-passes.lines.items parted c.in_ok-trail.trail c.in_ok-trail.ensures;
    }
