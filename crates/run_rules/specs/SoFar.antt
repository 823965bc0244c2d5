-- Which histories are lawful so far: those of a run that may go on.
use Rattle.std.specs.Prelude.{◌≡◌, ◌⊎◌, ℕ, zero, suc, ◌+◌, ◌-◌, ◌==◌, ◌<◌, ◌≤◌, if◌then◌else◌, List, [], ◌∷◌, ◌++◌, length, Some}
use Rattle.suri_base.specs.Trail.{Trailed}
use Rattle.bucket_laws.specs.Leaving.{Gone}
use Rattle.run_rules.specs.Acts.{Act, AreActs}
use Rattle.run_rules.specs.Ending.{Ending, ending_after}
use Rattle.run_rules.specs.Histories.{Histories, histories_of}
use Rattle.run_rules.specs.Lawful.{AreLegal, PutsAreDue, left_over, nth}
use Rattle.run_rules.specs.Manager.{Sweep, new_manager, swept_after, manager_ended}
use Rattle.run_rules.specs.Serving.{queue_after}
use Rattle.run_rules.specs.Setup.{Setup, manager, recycler, ender, roles, rounds, work_of}
use Rattle.run_rules.specs.Worker.{Stage, Stand, between, fresh, stand_after, ended}

-- a worker that is between batches has ended the rounds in front of it that have no batch left
abbrev pub passed : List (List (List ℕ)) → List Gone → List (List Gone) → List (List Gone)
passed [] hand hands = hands
passed ([] ∷ later) hand hands = passed later [] (hand ∷ hands)
passed ((b ∷ bs) ∷ later) hand hands = hands

abbrev pub passed_at : Stage → Stand → List (List Gone)
passed_at between s = passed s.rounds s.hand s.hands
passed_at _ s = s.hands

-- what a role's hand held at the end of each round that it has ended, the newest round first
abbrev pub hands_by : Setup → (ℕ → Stand) → Sweep → ℕ → List (List Gone)
hands_by w stands sweep role = if role == manager w then sweep.hands else passed_at (stands role).stage (stands role)

-- the hand at the end of this round, of a role that has ended it
abbrev pub hand_of_round : ℕ → List (List Gone) → List Gone
hand_of_round round hands = nth (length hands - suc round) hands

-- the hands of this round, of the roles below a number, in rising order
abbrev pub round_hands : ℕ → (ℕ → List (List Gone)) → ℕ → List Gone
round_hands zero hands round = []
round_hands (suc role) hands round = round_hands role hands round ++ hand_of_round round (hands role)

-- the hands of the first rounds, so many, the oldest round first
abbrev pub first_hands : ℕ → (ℕ → List (List Gone)) → ℕ → List Gone
first_hands n hands zero = []
first_hands n hands (suc round) = first_hands n hands round ++ round_hands n hands round

-- the end role's queue, before it drains the first bucket
abbrev pub to_drain : Setup → (ℕ → List (List Gone)) → Ending
to_drain w hands = record { queue = left_over w hands; drained = 0 }

-- every worker and the manager has ended every round, and the recycler has served what came to it
pub record OthersEnded (w : Setup) (stands : ℕ → Stand) (sweep : Sweep) (served : ℕ) (waiting : List Gone) : Type 0 where
  pub work : (role : ℕ) → role < w.layout.workers → ended (Some (stands role)) ≡ Some (hands_by w stands sweep role)
  pub manage : manager_ended w (Some sweep) ≡ Some sweep.hands
  pub all_served : served ≡ rounds w - 1
  pub none_waits : waiting ≡ []

-- each history is legal, and what each role did, over all histories, is the beginning of a run of its script
pub record AreScriptedSoFar (w : Setup) (t : Histories) : Type 0 where
  pub legal : AreLegal w t
  -- what each role did, the newest first
  pub acts : ℕ → List Act
  pub own : (role : ℕ) → role < roles w → AreActs w t role (acts role)
  -- where the workers and the manager stand
  pub stands : ℕ → Stand
  pub work : (role : ℕ) → role < w.layout.workers → stand_after w (fresh (work_of w role)) (acts role) ≡ Some (stands role)
  pub sweep : Sweep
  pub manage : swept_after w new_manager (acts (manager w)) ≡ Some sweep
  -- the hands of so many rounds came to the recycler: those roles have ended them, and none of them is the last. What waits of them
  pub served : ℕ
  pub not_last : served ≤ rounds w - 1
  pub were_ended : (role : ℕ) → role < manager w + 1 → served ≤ length (hands_by w stands sweep role)
  pub waiting : List Gone
  pub recycle : queue_after (first_hands (manager w + 1) (hands_by w stands sweep) served) (acts (recycler w)) ≡ Some waiting
  -- where the end role stands. It has done nothing before all others have ended
  pub ending : Ending
  pub drain : ending_after w (to_drain w (hands_by w stands sweep)) (acts (ender w)) ≡ Some ending
  pub last : (acts (ender w) ≡ []) ⊎ OthersEnded w stands sweep served waiting

-- the histories are those of a trail that is lawful so far
pub record AreLawfulSoFar (w : Setup) (t : Histories) : Type 0 where
  pub scripted : AreScriptedSoFar w t
  pub puts : PutsAreDue t.pool

-- a trail is lawful so far for a capture and a layout
pub record IsLawfulSoFar (w : Setup) (t : Trailed) : Type 0 where
  pub layout : t.layout ≡ w.layout
  pub histories : AreLawfulSoFar w (histories_of t)

-- every script has ended
pub record HaveEnded (w : Setup) (t : Histories) (s : AreScriptedSoFar w t) : Type 0 where
  pub others : OthersEnded w s.stands s.sweep s.served s.waiting
  pub drained : s.ending ≡ record { queue = []; drained = w.layout.rows }
