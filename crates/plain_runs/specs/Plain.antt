-- Plain runs: the packets of each key, cut by expiry and by reuse of the key, and their records.
use Rattle.std.specs.Prelude.{◌≡◌, ℕ, ◌<◌, ◌||◌, Bool, false, if◌then◌else◌, List, [], ◌∷◌, filter, map, Option, Some, None, reverse, unwrap_or}
use Rattle.suri_base.specs.App.{payload_of, verdict_of}
use Rattle.suri_base.specs.Keys.{key_list, same_key}
use Rattle.suri_base.specs.declared.app.App.{App}
use Rattle.suri_base.specs.declared.facts.Facts.{Facts}
use Rattle.suri_base.specs.declared.key.Key.{Key}
use Rattle.suri_base.specs.declared.reason.Reason.{Reason}
use Rattle.suri_base.specs.declared.reason.Reason.TheVariants.{Timeout, TcpReuse, Shutdown}
use Rattle.flow_expiry.specs.Expiry.{expired, reuses}
use Rattle.flow_object.specs.Line.{line_of}
use Rattle.flow_object.specs.Object.{no_stops}
use Rattle.flow_object.specs.declared.outcome.FlowLine.{FlowLine}
use Rattle.flow_sum.specs.Run.{Run, alone, first_of, members, with_one_more}

-- the next packet of its key ends a run: the run had expired in normal times, or the packet reuses its key
unfoldable pub is_cut : Run → Facts → Bool
is_cut r f = expired r f.clock false || reuses r f

-- why it ends the run
unfoldable pub cut_reason : Run → Facts → Reason
cut_reason r f = if expired r f.clock false then Timeout else TcpReuse

-- a run of packets of one key, and why the next packet of the key ended it, where one did
pub record PlainRun : Type 0 where
  pub run : Run
  pub ended : Option Reason

-- the packets of a run in file order
abbrev pub in_file_order : PlainRun → List Facts
in_file_order p = reverse (members p.run)

-- a run that no packet ends
abbrev pub open_run : Run → PlainRun
open_run r = record { run = r; ended = None }

-- a run that a packet ends
abbrev pub cut_run : Run → Facts → PlainRun
cut_run r f = record { run = r; ended = Some (cut_reason r f) }

-- the plain runs that a run and the packets of its key behind it are cut into: a packet that ends the run begins the next
abbrev pub cut_from : Run → List Facts → List PlainRun
cut_from r [] = open_run r ∷ []
cut_from r (f ∷ fs) = if is_cut r f then cut_run r f ∷ cut_from (alone f) fs else cut_from (with_one_more f r) fs

-- the plain runs of the packets of one key, which are in file order
abbrev pub cuts : List Facts → List PlainRun
cuts [] = []
cuts (f ∷ fs) = cut_from (alone f) fs

-- the plain runs of one key among the packets of a capture
abbrev pub plain_runs_of : Key → List Facts → List PlainRun
plain_runs_of k packets = cuts (key_list k packets)

-- the first packet of a plain run bears this key
abbrev pub has_key : Key → PlainRun → Bool
has_key k p = same_key (first_of p.run).key k

-- the plain runs of a list that have a key
abbrev pub with_key : Key → List PlainRun → List PlainRun
with_key k plain_runs = filter (λ p. has_key k p) plain_runs

-- the numbers of the first packets rise, from above this one
abbrev pub FirstsRise : ℕ → List PlainRun → Type 0
FirstsRise above [] = Unit {0}
FirstsRise above (p ∷ ps) = (above < (first_of p.run).no) × FirstsRise (first_of p.run).no ps

-- these are the plain runs of the packets: for each key those of its key list, and all in the order of their first packets
pub record ArePlain (packets : List Facts) (plain_runs : List PlainRun) : Type 0 where
  pub each : (k : Key) → with_key k plain_runs ≡ plain_runs_of k packets
  pub in_order : FirstsRise 0 plain_runs

-- the verdicts on some packets of a capture with these bytes
abbrev pub verdicts_of : List ℕ → List Facts → List App
verdicts_of bytes packets = map (λ f. verdict_of f (payload_of bytes f)) packets

-- why a run ended: what the next packet of its key ended it for; else its timeout, where it had expired at the last clock; else the end of the capture
abbrev pub reason_of : ℕ → PlainRun → Reason
reason_of clock p = unwrap_or p.ended (if expired p.run clock false then Timeout else Shutdown)

-- the record of a plain run of a capture with these bytes and this last clock, where so many bytes of each stream are looked at; no stream is stopped
abbrev pub record_of : ℕ → List ℕ → ℕ → PlainRun → FlowLine
record_of depth bytes clock p = line_of depth no_stops bytes p.run (verdicts_of bytes (members p.run)) (reason_of clock p) false

-- the records of some plain runs, in their order
abbrev pub records_of : ℕ → List ℕ → ℕ → List PlainRun → List FlowLine
records_of depth bytes clock plain_runs = map (λ p. record_of depth bytes clock p) plain_runs
