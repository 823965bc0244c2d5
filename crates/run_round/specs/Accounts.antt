-- What a run says of its capture: each packet is accounted for, and why.
use Rattle.std.specs.Prelude.{◌≡◌, ℕ, ◌<◌, Bool, true, List, length, map, reverse, Some}
use Rattle.bucket_laws.specs.Keys.{IsCut, pieces}
use Rattle.bucket_laws.specs.Naming.{IsMember, NamesHere}
use Rattle.bucket_laws.specs.Places.{At, History, In}
use Rattle.bucket_rules.specs.Row.{has, made, row}
use Rattle.flow_object.specs.declared.outcome.FlowLine.{FlowLine}
use Rattle.round_laws.specs.Later.{ArePutLater}
use Rattle.round_laws.specs.Leaving.{AreNamedSoon}
use Rattle.round_laws.specs.Rising.{WentByRounds}
use Rattle.run_laws.specs.Causes.{IsRefusedFor}
use Rattle.run_laws.specs.Ends.{HasCause}
use Rattle.run_laws.specs.Placing.{IsCountedOnce}
use Rattle.run_laws.specs.Returning.{AreReturned, IsGivenBack}
use Rattle.run_laws.specs.Setting.{IsSetup}
use Rattle.run_round.specs.Leaving.{LeavesOnce}
use Rattle.run_rules.specs.Histories.{Histories, bucket_at, histories_of}
use Rattle.run_rules.specs.Lawful.{AreLawful, IsLawful}
use Rattle.run_rules.specs.Runs.{line_in, runs_in}
use Rattle.run_rules.specs.Setup.{Setup, fixed_at}
use Rattle.suri_base.specs.Capture.{Captured, packets_in}
use Rattle.suri_base.specs.Dealing.{bucket_of}
use Rattle.suri_base.specs.History.{entry}
use Rattle.suri_base.specs.Keys.{key_list}
use Rattle.suri_base.specs.Trail.{Trailed}
use Rattle.suri_base.specs.declared.app.App.{App}
use Rattle.suri_base.specs.declared.entry.BucketNote.{BucketNote}
use Rattle.suri_base.specs.declared.entry.BucketNote.TheVariants.{Closed, Refused}
use Rattle.suri_base.specs.declared.entry.Entry.{Entry}
use Rattle.suri_base.specs.declared.entry.PoolNote.{PoolNote}
use Rattle.suri_base.specs.declared.entry.PoolNote.TheVariants.{Put, Turn}
use Rattle.suri_base.specs.declared.facts.Facts.{Facts}
use Rattle.suri_base.specs.declared.key.Key.{Key}
use Rattle.suri_base.specs.declared.layout.Layout.{Layout}
use Rattle.sweep_laws.specs.Sweeping.{LooksMeetNoneExpired}

abbrev pub setup_for : Captured → Layout → Setup
setup_for c l = record { capture = c; layout = l }

-- there is one record for each run, by the runs' numbers: that which the whole trail says of it
abbrev pub AreRecords : Setup → Histories → List FlowLine → Type 0
AreRecords w t lines = map (λ l. Some l) lines ≡ map (λ a. line_in w t a) (runs_in t)

-- what the histories say of the capture
pub record AccountsOver (w : Setup) (t : Histories) : Type 0 where
  -- each packet is a member of one run or was refused, and not both
  pub once : (p : Facts) → In p (packets_in w.capture.seen) → IsCountedOnce w t p
  -- the packets of each key are cut, in file order, into the members of its runs and refused packets
  pub cut : (k : Key) → IsCut (fixed_at w (bucket_of k w.layout.rows)) k (bucket_at (bucket_of k w.layout.rows) t.buckets) (reverse (key_list k (packets_in w.capture.seen)))
      (pieces (fixed_at w (bucket_of k w.layout.rows)) k (bucket_at (bucket_of k w.layout.rows) t.buckets))
  -- each run has its end and its cause
  pub causes : (b : ℕ) → b < length t.buckets → (a : ℕ) → has (made (bucket_at b t.buckets)) a ≡ true → HasCause w t b a
  -- each refused packet has its cause: no object was left, its worker had none in hand, and every bucket had only flows in use
  pub refusals : (l : AreLawful w t) (b : ℕ) → b < length t.buckets → (role step f : ℕ) (past : History) → At (entry role step (Refused f)) past (bucket_at b t.buckets)
      → IsRefusedFor w t (l.scripted.acts role) role step f
  -- each run got its object once and gave it back once, none is out, and as many nodes were given back as taken
  pub returned : AreReturned t
  -- an object was given back by a role that had let its run go, or by one of the two that finish what others let go
  pub put : (role step run : ℕ) (past : List (Entry PoolNote)) → At (entry role step (Put run)) past t.pool → IsGivenBack w t role step run
  pub turned : (role step run f : ℕ) (past : List (Entry PoolNote)) → At (entry role step (Turn run f)) past t.pool → IsGivenBack w t role step run
  -- each run leaves its bucket once, when nothing uses it any more, and is let alone from then on
  pub leaves : (b : ℕ) → b < length t.buckets → (a : ℕ) → has (made (bucket_at b t.buckets)) a ≡ true → LeavesOnce (fixed_at w b) (bucket_at b t.buckets) a
  -- an entry names only a run that is in its bucket then
  pub named : (b : ℕ) → b < length t.buckets → (e : Entry BucketNote) (past : History) → At e past (bucket_at b t.buckets) → NamesHere (fixed_at w b) past e.note
  -- a close names the run in which its own packet is a member
  pub closed : (b : ℕ) → b < length t.buckets → (role step f : ℕ) (app : App) (run freed : ℕ) (ended : Bool) (past : History)
      → At (entry role step (Closed f app run freed ended)) past (bucket_at b t.buckets) → IsMember (fixed_at w b) f (row (fixed_at w b) run (bucket_at b t.buckets))

-- the trail and the records of a run, whatever the order in which the roles had the locks
pub record AccountsFor (w : Setup) (t : Trailed) (lines : List FlowLine) : Type 0 where
  -- the parts of the capture fit together, and the numbers of the layout are such as the options allow
  pub setup : IsSetup w
  pub lawful : IsLawful w t
  pub rounds : WentByRounds w (histories_of t) lawful.histories.scripted
  -- what the recycler and the end role give back had left in an earlier round, or the end role drained it
  pub later : ArePutLater w (histories_of t) lawful.histories.scripted rounds.in_rounds
  -- each run that left is named again in the pool's history, in the round in which it left or in the next one, or by the end role where there is none
  pub soon : AreNamedSoon w (histories_of t) lawful.histories.scripted rounds.in_rounds
  -- no run that had expired at the clock of a round stays linked: each look of the next round comes after the round's sweep, and meets none
  pub stays : (b : ℕ) → b < length (histories_of t).buckets → LooksMeetNoneExpired (fixed_at w b) (bucket_at b (histories_of t).buckets)
  pub records : AreRecords w (histories_of t) lines
  pub accounts : AccountsOver w (histories_of t)
