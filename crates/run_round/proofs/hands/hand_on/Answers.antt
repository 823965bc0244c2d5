use Rattle.std.proofs.Common.{ℕ, ◌-◌, ◌<◌, length, get_or, refl, ◌∙◌, arith, length-set}
use Rattle.round_laws.specs.Playing.{IsHandedOn, hands_in}
use Rattle.run_round.proofs.Handing.{last_handed, other_handed}
use Rattle.run_round.proofs.Taking.{each_set}
use Rattle.run_round.proofs.hands.hand_on.Goals as goal

pub returns : goal.returns
returns c =
    let e = c.in_ok-queue.ensures in
    let olds = c.args.roles.now in
    let rows = c.gather.new.roles in
    let i : ℕ = length rows - 1 in
    let d = c.index-roles-last.result in
    let inside : i < length olds = omega (arith, e.count, c.requires.last.1) in
    let queue = hands_in olds in record {
      count = length-set rows i _ ∙ e.count;
      roles = each_set (IsHandedOn queue) olds rows i _ d e.count inside
          (λ k x below apart. other_handed queue (get_or olds k x) (get_or rows k x) (c.requires.others k x (omega (arith, below, apart, e.count))) (e.roles k x below))
          (last_handed queue (get_or olds i d) (get_or rows i d) _ c.in-Recycle.recycler c.in-Recycle.is (e.roles i d inside) refl refl refl refl refl e.queue_is);
    }
