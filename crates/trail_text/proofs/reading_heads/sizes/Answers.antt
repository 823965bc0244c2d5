use Rattle.std.proofs.Common.{◌≡◌, ◌∷◌, [], Some, ap, decimal, sym, ℕ, ◌∙◌}
use Rattle.trail_text.specs.Lines.{layout_numbers}
use Rattle.trail_text.proofs.reading_heads.sizes.Goals as goal

pub returns-in_default-next_table : goal.returns-in_default-next_table
returns-in_default-next_table c =
    let m = c.in-Some in
    record {
      some = tt;
      each = λ l fit is.
          let all : decimal m.workers ∷ decimal m.batch ∷ decimal m.round ∷ c.next_shares.new.words ≡ layout_numbers l = sym m.ensures.some.3 ∙ is in
          let k = c.in_default-next_table.ensures.each l.rows l.memcap (decimal l.segments ∷ decimal l.recovery ∷ decimal l.depth ∷ []) fit.table_rows fit.memcap fit.fit (cc all) in cc k;
    }

pub returns-in_default-limits : goal.returns-in_default-limits
returns-in_default-limits c =
    let m = c.in-Some in
    let t = c.in-Some-next_table in
    record {
      some = tt;
      each = λ l fit is.
          let all : decimal m.workers ∷ decimal m.batch ∷ decimal m.round ∷ c.next_shares.new.words ≡ layout_numbers l = sym m.ensures.some.3 ∙ is in
          let rest : c.next_shares.new.words ≡ decimal l.rows ∷ decimal l.memcap ∷ decimal l.segments ∷ decimal l.recovery ∷ decimal l.depth ∷ [] = cc all in
          let more : decimal t.rows ∷ decimal t.memcap ∷ c.next_table.new.words ≡ decimal l.rows ∷ decimal l.memcap ∷ decimal l.segments ∷ decimal l.recovery ∷ decimal l.depth ∷ [] =
          sym t.ensures.some.3 ∙ rest in
          let k = c.in_default-limits.ensures.each l.segments l.recovery l.depth fit.segments fit.recovery fit.depth (cc more) in cc k;
    }

pub returns : goal.returns
returns c =
    let m = c.in-Some in
    let t = c.in-Some-next_table in
    let u = c.in-Some-limits in
    record {
      some = (
        record {
          workers = m.ensures.some.0;
          batch = m.ensures.some.1;
          round = m.ensures.some.2;
          table_rows = t.ensures.some.0;
          memcap = t.ensures.some.1;
          segments = u.ensures.some.0;
          recovery = u.ensures.some.1;
          depth = u.ensures.some.2;
          fit = t.ensures.some.2;
        },
        m.ensures.some.3
            ∙ ap (λ w. decimal m.workers ∷ decimal m.batch ∷ decimal m.round ∷ w) (t.ensures.some.3 ∙ ap (λ w. decimal t.rows ∷ decimal t.memcap ∷ w) u.ensures.some.3),
      );
      each = λ l fit is.
          let all : decimal m.workers ∷ decimal m.batch ∷ decimal m.round ∷ c.next_shares.new.words ≡ layout_numbers l = sym m.ensures.some.3 ∙ is in
          let rest : c.next_shares.new.words ≡ decimal l.rows ∷ decimal l.memcap ∷ decimal l.segments ∷ decimal l.recovery ∷ decimal l.depth ∷ [] = cc all in
          let more : decimal t.rows ∷ decimal t.memcap ∷ c.next_table.new.words ≡ decimal l.rows ∷ decimal l.memcap ∷ decimal l.segments ∷ decimal l.recovery ∷ decimal l.depth ∷ [] =
          sym t.ensures.some.3 ∙ rest in
          let first = m.ensures.each l.workers l.batch l.round (decimal l.rows ∷ decimal l.memcap ∷ decimal l.segments ∷ decimal l.recovery ∷ decimal l.depth ∷ []) fit.workers fit.batch fit.round is in
          let second = t.ensures.each l.rows l.memcap (decimal l.segments ∷ decimal l.recovery ∷ decimal l.depth ∷ []) fit.table_rows fit.memcap fit.fit rest in
          let third = u.ensures.each l.segments l.recovery l.depth fit.segments fit.recovery fit.depth (cc more) in
          let p : ◌≡◌ {A = ℕ × ℕ × ℕ} (m.workers, m.batch, m.round) (l.workers, l.batch, l.round) = cc first in
          let q : ◌≡◌ {A = ℕ × ℕ} (t.rows, t.memcap) (l.rows, l.memcap) = cc second in
          let r : ◌≡◌ {A = ℕ × ℕ × ℕ} (u.segments, u.recovery, u.depth) (l.segments, l.recovery, l.depth) = cc third in
          λ i. Some (record { workers = (p i).0; batch = (p i).1; round = (p i).2; rows = (q i).0; memcap = (q i).1; segments = (r i).0; recovery = (r i).1; depth = (r i).2 });
    }
