use Rattle.std.proofs.Common.{◌≡◌, ◌∷◌, List, arith, codes, refl, ℕ}
use Rattle.suri_base.specs.declared.layout.Layout.{Layout}
use Rattle.trail_text.specs.Bounds.{IsLaidOut}
use Rattle.trail_text.specs.Lines.{layout_numbers}
use Rattle.trail_text.specs.Pieces.{pieces}
use Rattle.trail_text.specs.Words.{spaced}
use Rattle.trail_text.proofs.EntryLines.{small}
use Rattle.trail_text.proofs.Spacing.{literal_free, spells_line, words_back}
use Rattle.trail_text.proofs.reading_heads.layout_of.Goals as goal

abbrev words : Layout → List (List ℕ)
words l = codes "layout" ∷ layout_numbers l

back : (l : Layout) → IsLaidOut l → pieces 32 (spaced (words l)) ≡ words l
back l fit =
    words_back (codes "layout") (layout_numbers l) (literal_free 32 (codes "layout") refl) (
      small l.workers (omega (arith, fit.workers)),
      (
        small l.batch (omega (arith, fit.batch)),
        (
          small l.round (omega (arith, fit.round)),
          (
            small l.rows (omega (arith, fit.table_rows)),
            (
              small l.memcap (omega (arith, fit.memcap)),
              (small l.segments (omega (arith, fit.segments)), (small l.recovery (omega (arith, fit.recovery)), (small l.depth (omega (arith, fit.depth)), tt))),
            ),
          ),
        ),
      ),
    )

pub returns : goal.returns
returns c = spells_line words IsLaidOut back c.args.line.now c.layout.result (rw c.of-words.ensures at c.layout.ensures)
