use Rattle.std.proofs.Common.{◌/◌, ◌%◌, ◌∙◌, ℕ, ap, sym}
use Rattle.flow_worker.proofs.Finding.{home_is}
use Rattle.flow_worker.proofs.look.home_of.Goals as goal
use Rattle.role_steps.specs.Roles.{setup_of}

pub returns-clause-home : goal.returns-clause-home
returns-clause-home c =
    let p = c.requires.packet in
    ap (λ (h : ℕ). h / 256 % c.args.shared.now.layout.rows) (c.hash.ensures p.0 p.1) ∙ sym (home_is (setup_of c.args.shared.now) c.args.no p.0 p.1)
