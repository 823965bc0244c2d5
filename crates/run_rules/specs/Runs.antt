-- The runs and the refused frames of a trail, and the record of a run.
use Rattle.std.specs.Prelude.{ℕ, List, [], ◌∷◌, map, Option, Some, None}
use Rattle.std.specs.List.{concat}
use Rattle.suri_base.specs.App.{payload_of, verdict_of}
use Rattle.suri_base.specs.declared.app.App.{App}
use Rattle.suri_base.specs.declared.entry.BucketNote.{BucketNote}
use Rattle.suri_base.specs.declared.entry.BucketNote.TheVariants.{Refused}
use Rattle.suri_base.specs.declared.entry.Entry.{Entry}
use Rattle.suri_base.specs.declared.facts.Facts.{Facts}
use Rattle.flow_object.specs.Line.{line_of}
use Rattle.flow_object.specs.declared.outcome.FlowLine.{FlowLine}
use Rattle.bucket_rules.specs.Row.{Row, Place, unbegun, linked, detached, made, row}
use Rattle.bucket_laws.specs.Leaving.{rising}
use Rattle.run_rules.specs.Histories.{Histories, bucket_at}
use Rattle.run_rules.specs.Setup.{Setup, bucket_for, fixed_at}

-- the frames that a history refused
abbrev pub refused_by : BucketNote → List ℕ → List ℕ
refused_by (Refused f) frames = f ∷ frames
refused_by _ frames = frames

abbrev pub refused : List (Entry BucketNote) → List ℕ
refused [] = []
refused (e ∷ past) = refused_by e.note (refused past)

-- the runs that began in some bucket, and the frames that some bucket refused, by rising number
abbrev pub runs_in : Histories → List ℕ
runs_in t = rising (concat (map (λ h. made h) t.buckets))

abbrev pub refusals_in : Histories → List ℕ
refusals_in t = rising (concat (map (λ h. refused h) t.buckets))

-- what the whole history of its bucket says of a run
abbrev pub row_in : Setup → Histories → ℕ → Row
row_in w t run = row (fixed_at w (bucket_for w run)) run (bucket_at (bucket_for w run) t.buckets)

-- its packets in the bucket, the newest first
abbrev pub members_in : Setup → Histories → ℕ → List Facts
members_in w t run = (row_in w t run).members

-- the verdicts on some packets
abbrev pub verdicts_on : List ℕ → List Facts → List App
verdicts_on bytes packets = map (λ f. verdict_of f (payload_of bytes f)) packets

-- the record of a run with these members that was detached so
abbrev pub line_when : Setup → Row → List Facts → Place → Option FlowLine
line_when w r [] place = None
line_when w r (m ∷ ms) unbegun = None
line_when w r (m ∷ ms) linked = None
line_when w r (m ∷ ms) (detached o) =
    Some (line_of w.layout.depth r.stops w.capture.bytes (record { newest = m; older = ms }) (verdicts_on w.capture.bytes (m ∷ ms)) o.reason o.emergency)

-- the record of a run that was detached
abbrev pub line_in : Setup → Histories → ℕ → Option FlowLine
line_in w t run = let r : Row = row_in w t run in line_when w r r.members r.place
