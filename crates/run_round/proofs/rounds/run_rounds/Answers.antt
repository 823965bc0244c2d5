use Rattle.std.proofs.Common.{◌≡◌, ℕ, ◌<◌, length, get_or, subst, arith}
use Rattle.role_steps.specs.Roles.{setup_of}
use Rattle.round_laws.specs.Between.{Between}
use Rattle.run_round.proofs.Handing.{played_fits}
use Rattle.run_round.proofs.Rounding.{all_played, ends_in_recycler, may_at, next_round, others_are_none}
use Rattle.run_rules.specs.Setup.{rounds}
use Rattle.run_round.proofs.rounds.run_rounds.Goals as goal

pub play_all-requires-clause-ready : goal.play_all-requires-clause-ready
play_all-requires-clause-ready g c κs within k d below =
    may_at c.args.shared.now c.loop-number.number c.loop-number.roles c.loop-number.ender c.loop-number.invariant (omega (arith, c.loop-number-test.true, c.requires.count)) k d below

pub meet_all-requires-clause-roles : goal.meet_all-requires-clause-roles
meet_all-requires-clause-roles g c k d below =
    let real : k < length c.loop-number.roles = omega (arith, c.play_all.ensures.length, below) in
    let low : c.loop-number.number < rounds (setup_of c.args.shared.now) = omega (arith, c.loop-number-test.true, c.requires.count) in
    let may = may_at c.args.shared.now c.loop-number.number c.loop-number.roles c.loop-number.ender c.loop-number.invariant low k d real in
    played_fits c.args.shared.now c.loop-number.number (get_or c.loop-number.roles k d).part (get_or c.play_all.new.roles k d).part may
    (c.play_all.ensures.played k d real (c.if-not-all_well.ensures k d below))

pub hand_on-requires-clause-last : goal.hand_on-requires-clause-last
hand_on-requires-clause-last g c =
    ends_in_recycler c.args.shared.now c.loop-number.number c.loop-number.roles c.play_all.new.roles c.meet_all.new.roles c.loop-number.ender c.meet_all.new.ender c.loop-number.invariant
    (all_played c.args.shared.now c.loop-number.number c.loop-number.roles c.play_all.new.roles c.play_all.ensures.length c.play_all.ensures.played c.if-not-all_well.ensures) c.meet_all.ensures

pub hand_on-requires-clause-others : goal.hand_on-requires-clause-others
hand_on-requires-clause-others g c =
    others_are_none c.args.shared.now c.loop-number.number c.loop-number.roles c.play_all.new.roles c.meet_all.new.roles c.loop-number.ender c.meet_all.new.ender c.loop-number.invariant
    (all_played c.args.shared.now c.loop-number.number c.loop-number.roles c.play_all.new.roles c.play_all.ensures.length c.play_all.ensures.played c.if-not-all_well.ensures) c.meet_all.ensures

pub loop-number-preserved : goal.loop-number-preserved
loop-number-preserved g c =
    let low : c.loop-number.number < rounds (setup_of c.args.shared.now) = omega (arith, c.loop-number-test.true, c.requires.count) in
    next_round c.args.shared.now c.loop-number.number c.loop-number.roles c.play_all.new.roles c.meet_all.new.roles c.loop-number.ender c.meet_all.new.ender c.loop-number.invariant
    (all_played c.args.shared.now c.loop-number.number c.loop-number.roles c.play_all.new.roles c.play_all.ensures.length c.play_all.ensures.played c.if-not-all_well.ensures) c.meet_all.ensures
    c.hand_on.new.roles low c.in_ok-hand_on.ensures

pub returns : goal.returns
returns g c =
    let same : c.loop-number.number ≡ c.args.count = omega (arith, c.loop-number-test.false, c.loop-number.auto.number-end) in record {
      between = subst (λ (n : ℕ). Between c.args.shared.now n c.loop-number.roles c.loop-number.ender) same c.loop-number.invariant;
    }
