use Rattle.std.proofs.Common.{arith, ap, sym, subst, ◌∙◌, ◌≡◌, ◌<◌, ◌≤◌, ◌+◌, ℕ, length, get_or}
use Rattle.slot_order.specs.Rows.{joined, items_at, place_in}
use Rattle.slot_order.proofs.Rows.{at_read, ends_within, pair_read}
use Rattle.slot_order.proofs.Next.{few_at, place_behind, place_end}
use Rattle.slot_order.proofs.chunks.pair_from.Goals as goal

pub returns-then-at-len : goal.returns-then-at-len
returns-then-at-len g c =
    let cs = c.args.chunks.now in
    let e = at_read cs c.args.home c.index-chunks-home.result c.index-chunks-home.is c.requires.home in
    let m : c.args.at < length (items_at cs c.args.home) = omega (arith, ap length e, c.if-at-len.true, c.len.ensures, c.index-chunks-home.result.ok.0) in
    (ends_within cs c.args.home c.args.at m, pair_read cs c.args.home c.args.at c.index-chunks-home-then-at-len.result c.index.result.now c.index-chunks-home-then-at-len.is c.index.ensures c.requires.home m)

all_of : (at n : ℕ) → at ≤ n → n ≤ at → n ≡ at
all_of at n l m = omega (arith, l, m)

pub returns-then-chunks-home-lt2 : goal.returns-then-chunks-home-lt2
returns-then-chunks-home-lt2 g c =
    let cs = c.args.chunks.now in
    let e = at_read cs c.args.home c.index-chunks-home.result c.index-chunks-home.is c.requires.home in
    let z : length (items_at cs c.args.home) ≡ c.args.at = all_of c.args.at (length (items_at cs c.args.home)) c.requires.at (omega (arith, ap length e, c.if-at-len.false, c.len.ensures, c.index-chunks-home.result.ok.0)) in
    let l : c.args.home + 1 ≡ length cs = omega (arith, c.if-chunks-home-lt2.true, c.requires.home) in
    subst (λ (n : ℕ). place_in cs c.args.home n ≡ length (joined cs)) z (place_end cs c.args.home l)

pub returns : goal.returns
returns g c =
    let cs = c.args.chunks.now in
    let e = at_read cs c.args.home c.index-chunks-home.result c.index-chunks-home.is c.requires.home in
    let z : length (items_at cs c.args.home) ≡ c.args.at = all_of c.args.at (length (items_at cs c.args.home)) c.requires.at (omega (arith, ap length e, c.if-at-len.false, c.len.ensures, c.index-chunks-home.result.ok.0)) in
    let l : c.args.home + 1 < length cs = omega (arith, c.if-chunks-home-lt2.false) in
    let some = (few_at cs (c.args.home + 1) c.requires.chunks l).0 in
    let p : place_in cs (c.args.home + 1) 0 ≡ place_in cs c.args.home c.args.at = sym (place_behind cs c.args.home l) ∙ ap (λ (n : ℕ). place_in cs c.args.home n) z in (
      subst (λ (n : ℕ). n < length (joined cs)) p (ends_within cs (c.args.home + 1) 0 some),
      subst (λ (n : ℕ). c.index-2.result.now ≡ get_or (joined cs) n c.index-2.result.now) p
          (pair_read cs (c.args.home + 1) 0 c.index-chunks-home-2.result c.index-2.result.now c.index-chunks-home-2.is c.index-2.ensures l some),
    )
