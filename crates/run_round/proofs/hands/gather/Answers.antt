use Rattle.std.proofs.Common.{◌≡◌, ◌≢◌, ℕ, suc, ◌+◌, List, ◌++◌, le_refl, take, get_or, sym, ap, ◌∙◌, subst, arith, length-set, get_or-set_other}
use Rattle.flow_object.specs.Ending.{EndedFlow}
use Rattle.role_meets.specs.Parts.{hand_of}
use Rattle.role_meets.specs.declared.roles.Role.{Role}
use Rattle.round_laws.specs.Playing.{hands_in}
use Rattle.run_round.proofs.Handing.{hands_next, take_over}
use Rattle.run_round.proofs.Taking.{next_set}
use Rattle.run_round.specs.Handing.{IsEmptied}
use Rattle.run_round.proofs.hands.gather.Goals as goal

pub loop-role-preserved : goal.loop-role-preserved
loop-role-preserved c =
    let inv = c.loop-role.invariant in
    let i = c.loop-role.role-index in
    let d = c.role-item.result in
    let olds = c.args.roles.now in
    let rows = c.loop-role.roles in
    let is : get_or rows i d ≡ get_or olds i d = inv.1 i d (le_refl i) c.loop-role-test.true in
    let one : suc i ≡ i + 1 = omega arith in (
      length-set rows i c.take_hand.new.role ∙ inv.0,
      λ k e low high. let apart : k ≢ i = λ (z : k ≡ i). omega arith in get_or-set_other rows i k c.take_hand.new.role e apart ∙ inv.1 k e (omega (arith, low)) high,
      next_set IsEmptied olds rows i c.take_hand.new.role d inv.0 c.loop-role-test.true inv.2 (subst (λ (r : Role). IsEmptied r c.take_hand.new.role) is c.in_ok-take_hand.ensures.emptied),
      c.in_ok-take_hand.ensures.queue ∙ (ap (λ (l : List EndedFlow). l ++ hand_of (get_or rows i d).part) inv.3 ∙ (ap (λ (r : Role). hands_in (take i olds) ++ hand_of r.part) is
          ∙ (sym (hands_next olds i d c.loop-role-test.true) ∙ ap (λ (n : ℕ). hands_in (take n olds)) one))),
    )

pub returns : goal.returns
returns c =
    let inv = c.loop-role.invariant in record {
      count = inv.0;
      queue_is = inv.3 ∙ ap hands_in (take_over c.args.roles.now c.loop-role.role-index (omega (arith, c.loop-role-test.false)));
      roles = λ k d below. inv.2 k d (omega (arith, below, c.loop-role-test.false));
    }
