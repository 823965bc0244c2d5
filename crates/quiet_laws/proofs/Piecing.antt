-- The pieces of a key are its runs alone, and these are its plain runs.
use Rattle.std.proofs.Common.{◌≡◌, ℕ, ◌==◌, ◌≤◌, Bool, true, false, cond, List, [], ◌∷◌, ◌++◌, reverse, Option, Some, None, inl, inr, refl, sym, ◌∙◌, ap, subst, eqb-true, append-nil}
use Rattle.std.specs.Prelude.{map}
use Rattle.std.proofs.lemmas.List.{reverse-reverse}
use Rattle.bucket_laws.proofs.Cutting.{whole_cut}
use Rattle.bucket_laws.proofs.Ending.{all_end}
use Rattle.bucket_laws.proofs.Steps.{bears_one}
use Rattle.bucket_laws.proofs.Tests.{or_left, or_right, same}
use Rattle.bucket_laws.specs.Draining.{is_drained}
use Rattle.bucket_laws.specs.Keys.{AreApart, IsCut, Piece, all_packets, has_piece, if_bears, if_key, joined, piece, piece_on, packets_of, pieces}
use Rattle.bucket_laws.specs.Places.{In}
use Rattle.bucket_rules.proofs.Words.{true_false}
use Rattle.bucket_rules.specs.Packets.{bearing, has_key}
use Rattle.bucket_rules.specs.Row.{Off, detached, has, made, row}
use Rattle.bucket_rules.specs.Rule.{IsLegal}
use Rattle.bucket_rules.specs.declared.fixed.Fixed.{Fixed}
use Rattle.flow_sum.specs.Run.{Run, first_of, members}
use Rattle.plain_runs.specs.Cuts.{IsUncut}
use Rattle.plain_runs.specs.Plain.{cuts, plain_runs_of}
use Rattle.quiet_laws.proofs.Chaining.{AreChained, CutsAt, chained, packets_of_runs}
use Rattle.quiet_laws.proofs.Ending.{ends_plainly}
use Rattle.quiet_laws.proofs.Neighbours.{AreNeighbours, neighbours, through}
use Rattle.quiet_laws.proofs.Uncutting.{calm_before, calm_now, uncut}
use Rattle.quiet_laws.specs.Calm.{IsCalm, is_calm}
use Rattle.quiet_laws.specs.Pieces.{plain_of, run_of, runs_of}
use Rattle.quiet_laws.specs.Plainly.{AreUncut, EndsPlainly}
use Rattle.suri_base.specs.Capture.{IsCapture, packets_in}
use Rattle.suri_base.specs.Dealing.{bucket_of}
use Rattle.suri_base.specs.Keys.{key_list, same_key}
use Rattle.suri_base.specs.declared.entry.BucketNote.{BucketNote}
use Rattle.suri_base.specs.declared.entry.BucketNote.TheVariants.{AllInUse, Closed, Drained, Found, Idle, Made, Missing, Refused, Stopped, Stored, Swept, Victim}
use Rattle.suri_base.specs.declared.entry.Entry.{Entry}
use Rattle.suri_base.specs.declared.facts.Facts.{Facts}
use Rattle.suri_base.specs.declared.key.Key.{Key}

-- each piece is that of a run

abbrev pub AreRuns : List Piece → Type 0
AreRuns [] = Unit {0}
AreRuns (p ∷ ps) = (1 ≤ p.run) × AreRuns ps

joined_runs : (t : Facts) (ps : List Piece) → AreRuns ps → AreRuns (joined t ps)
joined_runs t [] h = tt
joined_runs t (p ∷ ps) h = h

found_runs : (k : Key) (o : Option Facts) (ps : List Piece) → AreRuns ps → AreRuns (if_bears k o (λ t. joined t ps) ps)
found_runs k None ps h = h
found_runs k (Some t) ps h = by (same_key t.key k)
  where
    by : (b : Bool) → AreRuns (cond b (joined t ps) ps)
    by true = joined_runs t ps h
    by false = h

made_runs : (k : Key) (o : Option Facts) (f : ℕ) (ps : List Piece) → ((t : Facts) → o ≡ Some t → 1 ≤ f) → AreRuns ps → AreRuns (if_bears k o (λ t. piece f (t ∷ []) ∷ ps) ps)
made_runs k None f ps one h = h
made_runs k (Some t) f ps one h = by (same_key t.key k)
  where
    by : (b : Bool) → AreRuns (cond b (piece f (t ∷ []) ∷ ps) ps)
    by true = (one t refl, h)
    by false = h

runs_on : (s : Fixed) (k : Key) (n : BucketNote) (ps : List Piece) → is_calm n ≡ true → AreRuns ps → AreRuns (piece_on s k n ps)
runs_on s k (Found f emergency seen run said) ps c h = found_runs k (bearing s.capture f) ps h
runs_on s k (Missing f emergency seen ended) ps c h = h
runs_on s k (Made f said) ps c h = made_runs k (bearing s.capture f) f ps (λ t e. bears_one s f t e) h
runs_on s k (Refused f) ps c h = cc
runs_on s k (Stored f) ps c h = h
runs_on s k (Stopped f) ps c h = h
runs_on s k (Closed f app run freed ended) ps c h = h
runs_on s k (Idle f app) ps c h = h
runs_on s k (Victim f run) ps c h = h
runs_on s k (AllInUse f count) ps c h = h
runs_on s k (Swept round emergency seen count) ps c h = h
runs_on s k (Drained count) ps c h = h

pub only_runs : (s : Fixed) (k : Key) (history : List (Entry BucketNote)) → IsCalm history → AreRuns (pieces s k history)
only_runs s k [] c = tt
only_runs s k (e ∷ past) c = runs_on s k e.note (pieces s k past) (calm_now e past c) (only_runs s k past (calm_before e past c))

pub run_in : (p : Piece) (ps : List Piece) → AreRuns ps → In p ps → 1 ≤ p.run
run_in p [] h i = absurd i
run_in p (q ∷ ps) h (inl e) = subst (λ (x : Piece). 1 ≤ x.run) e h.0
run_in p (q ∷ ps) h (inr i) = run_in p ps h.1 i

-- a run's piece is its only one

piece_here : (p : Piece) (ps : List Piece) → In p ps → has_piece p.run ps ≡ true
piece_here p [] i = absurd i
piece_here p (q ∷ ps) (inl e) = or_left (q.run == p.run) (has_piece p.run ps) (same q.run p.run (ap (λ (x : Piece). x.run) e))
piece_here p (q ∷ ps) (inr i) = or_right (q.run == p.run) (has_piece p.run ps) (piece_here p ps i)

own_packets : (s : Fixed) (past : List (Entry BucketNote)) (p : Piece) (ps : List Piece) → AreApart s past ps → 1 ≤ p.run → In p ps → packets_of p.run ps ≡ p.packets
own_packets s past p [] a l i = absurd i
own_packets s past p (q ∷ ps) a l (inl e) =
    ap (λ (b : Bool). cond b q.packets (packets_of p.run ps)) (same q.run p.run (ap (λ (x : Piece). x.run) e)) ∙ ap (λ (x : Piece). x.packets) e
own_packets s past p (q ∷ ps) a l (inr i) = by (q.run == p.run) refl (own_packets s past p ps a.2 l i)
  where
    by : (b : Bool) → (q.run == p.run) ≡ b → packets_of p.run ps ≡ p.packets → cond b q.packets (packets_of p.run ps) ≡ p.packets
    by true e more =
        let one : q.run ≡ p.run = eqb-true q.run p.run e in
        absurd (true_false (piece_here p ps i) (subst (λ (x : ℕ). has_piece x ps ≡ false) one (a.0 (subst (λ (x : ℕ). 1 ≤ x) (sym one) l))))
    by false e more = more

-- where something is left of the members, all are
all_members : (k : Key) (ms : List Facts) (m : Facts) (more : List Facts) → if_key k ms ≡ m ∷ more → (ms ≡ m ∷ more) × (has_key ms k ≡ true)
all_members k ms m more h = by (has_key ms k) refl h
  where
    by : (b : Bool) → has_key ms k ≡ b → cond b ms [] ≡ m ∷ more → (ms ≡ m ∷ more) × (has_key ms k ≡ true)
    by true e h = (h, e)
    by false e h = cc

-- what a piece with packets is: the run of its number
pub record IsRun (s : Fixed) (k : Key) (history : List (Entry BucketNote)) (a : ℕ) (r : Run) : Type 0 where
  pub one : 1 ≤ a
  pub began : has (made history) a ≡ true
  pub members : (row s a history).members ≡ members r
  pub key : has_key (row s a history).members k ≡ true

pub piece_run : (s : Fixed) (k : Key) (history : List (Entry BucketNote)) (packets : List Facts) (ps : List Piece) → IsCut s k history packets ps → AreRuns ps
    → (p : Piece) (r : Run) → In p ps → p.packets ≡ members r → IsRun s k history p.run r
piece_run s k history packets ps c runs p r i e =
    let l = run_in p ps runs i in
    let all = all_members k (row s p.run history).members r.newest r.older (sym (c.runs p.run l) ∙ (own_packets s history p ps c.apart l i ∙ e)) in
    record { one = l; began = c.begun p.run l (piece_here p ps i); members = all.0; key = all.1 }

module _ (s : Fixed) (k : Key) (history : List (Entry BucketNote)) (is : IsCapture s.capture) (l : IsLegal s history) (c : IsCalm history) (drained : is_drained history ≡ true) where
  -- the end of a run
  pub run_end : (a : ℕ) (r : Run) → IsRun s k history a r → (o : Off) × ((row s a history).place ≡ detached o) × EndsPlainly s r o
  run_end a r x = let z = all_end s a history l drained x.began in (z.0, z.1, ends_plainly s history a z.0 r is l c drained z.1 x.members)

  cuts_at : (next : Option Facts) (a : ℕ) (r : Run) → IsRun s k history a r → bearing s.capture r.newest.next ≡ next → CutsAt r next
  cuts_at None a r x b = tt
  cuts_at (Some f) a r x b = ((run_end a r x).2.next f b).0

  chain_on : (next : Option Facts) (ps : List Piece) → ((p : Piece) (r : Run) → In p ps → p.packets ≡ members r → IsRun s k history p.run r)
      → AreNeighbours s.capture next (all_packets ps) → AreChained s.capture next (runs_of ps)
  chain_on next [] each h = tt
  chain_on next (p ∷ ps) each h = by p.packets refl h (λ o z. chain_on o ps (λ q r i e. each q r (inr i) e) z)
    where
      by : (ms : List Facts) → p.packets ≡ ms → AreNeighbours s.capture next (ms ++ all_packets ps)
          → ((o : Option Facts) → AreNeighbours s.capture o (all_packets ps) → AreChained s.capture o (runs_of ps)) → AreChained s.capture next (run_of ms ++ runs_of ps)
      by [] e h more = more next h
      by (m ∷ ms) e h more =
          let r : Run = record { newest = m; older = ms } in
          let x = each p r (inl refl) e in
          let u : IsUncut m ms = subst AreUncut x.members (uncut s history p.run l c) in
          (u, h.0, cuts_at next p.run r x h.0, more (Some (first_of r)) (through s.capture next m ms (all_packets ps) h))

  all_of : (ps : List Piece) → packets_of_runs (runs_of ps) ≡ all_packets ps
  all_of [] = refl
  all_of (p ∷ ps) = by p.packets (all_of ps)
    where
      by : (ms : List Facts) → packets_of_runs (runs_of ps) ≡ all_packets ps → packets_of_runs (run_of ms ++ runs_of ps) ≡ ms ++ all_packets ps
      by [] h = h
      by (m ∷ ms) h = ap (λ (l : List Facts). m ∷ ms ++ l) h

  pub are_plain : bucket_of k s.layout.rows ≡ s.number
      → plain_runs_of k (packets_in s.capture.seen) ≡ reverse (map (λ r. plain_of s.capture r) (runs_of (pieces s k history)))
  are_plain own =
      let ks = key_list k (packets_in s.capture.seen) in
      let cut = whole_cut s k history l drained own in
      let near = subst (AreNeighbours s.capture None) (sym cut.whole) (neighbours s.capture is k) in
      let chain = chain_on None (pieces s k history) (λ p r i e. piece_run s k history (reverse ks) (pieces s k history) cut (only_runs s k history c) p r i e) near in
      let whole : reverse (packets_of_runs (runs_of (pieces s k history))) ≡ ks = ap reverse (all_of (pieces s k history) ∙ cut.whole) ∙ reverse-reverse ks in
      ap cuts (sym whole ∙ sym (append-nil (reverse (packets_of_runs (runs_of (pieces s k history))))))
      ∙ (chained s.capture (runs_of (pieces s k history)) [] chain ∙ append-nil (reverse (map (λ r. plain_of s.capture r) (runs_of (pieces s k history)))))
