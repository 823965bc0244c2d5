use Rattle.std.proofs.Common.{ap, arith, length, sym, ◌+◌, ◌∙◌}
use Rattle.trail_text.proofs.Feeds.{next_line, no_line}
use Rattle.trail_text.proofs.lines.Lines.take.Goals as goal

pub overflow_add-self-in-Some : goal.overflow_add-self-in-Some
overflow_add-self-in-Some c =
    let t = c.self.inside.text.now in
    let h = c.in-Some.ensures in
    let n = next_line t c.in-Some.place h.0.high h.1 h.0.before in
    let l = ap (λ ls. length ls) n.0 in
    let i = c.self.invariant in
    omega (arith, l, i)

pub invariant_of-self : goal.invariant_of-self
invariant_of-self c =
    let t = c.self.inside.text.now in
    let h = c.in-Some.ensures in
    let n = next_line t c.in-Some.place h.0.high h.1 h.0.before in
    let l = ap (λ ls. length ls) n.0 in
    let i = c.self.invariant in
    omega (arith, l, i)

pub returns-in-None : goal.returns-in-None
returns-in-None c = sym (ap (λ r. r.lines) c.self.view_is) ∙ no_line c.self.inside.text.now c.in-None.ensures

pub returns-in-Some : goal.returns-in-Some
returns-in-Some c =
    let h = c.in-Some.ensures in
    let n = next_line c.self.inside.text.now c.in-Some.place h.0.high h.1 h.0.before in
    (sym (ap (λ r. r.lines) c.self.view_is) ∙ n.0, n.1 ∙ ap (λ r. r.tail) c.self.view_is, ap (λ r. r.no + 1) c.self.view_is)
