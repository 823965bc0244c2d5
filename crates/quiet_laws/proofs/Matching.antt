-- The records of a quiet trail are those of the plain runs. Each plain run is one of a key, and that is a run of the key's bucket, which ended as
-- the plain run did; each run of a bucket is one of its key. Both come by their rising numbers, so they are the same in the same order.
use Rattle.std.proofs.Common.{◌≡◌, ℕ, ◌==◌, ◌<◌, ◌≤◌, ◌/◌, Bool, true, false, cond, List, [], ◌∷◌, ◌++◌, map, length, reverse, Option, Some, None, ⊎_elim, inl, inr, refl, sym, ◌∙◌, ap, subst, eqb-true, mod-lt}
use Rattle.std.specs.List.{concat}
use Rattle.bucket_laws.proofs.Cutting.{whole_cut}
use Rattle.bucket_laws.proofs.Firsts.{named_by_first}
use Rattle.bucket_laws.proofs.Listing.{bearing_no, of_is}
use Rattle.bucket_laws.proofs.Next.{IsNext, next_is}
use Rattle.bucket_laws.proofs.Steps.{bears_one}
use Rattle.bucket_laws.proofs.Tests.{either, or_left, or_right, same}
use Rattle.bucket_laws.specs.Draining.{is_drained}
use Rattle.bucket_laws.specs.Keys.{IsCut, Piece, packets_of, pieces}
use Rattle.bucket_laws.specs.Places.{In}
use Rattle.bucket_rules.proofs.Soundness.{sound}
use Rattle.bucket_rules.proofs.Words.{none_some, some_is, true_false}
use Rattle.bucket_rules.specs.Packets.{bearing, has_key, last_clock}
use Rattle.bucket_rules.specs.Row.{Off, Place, Row, detached, has, made, off, row}
use Rattle.bucket_rules.specs.Rule.{IsLegal}
use Rattle.bucket_rules.specs.Sound.{IfRun, IsNewest}
use Rattle.bucket_rules.specs.declared.fixed.Fixed.{Fixed}
use Rattle.flow_object.specs.Line.{line_of}
use Rattle.flow_object.specs.Object.{Stops, no_stops}
use Rattle.flow_object.specs.declared.outcome.FlowLine.{FlowLine}
use Rattle.flow_sum.specs.Run.{Run, first_of, members}
use Rattle.plain_runs.proofs.Same.{number_of}
use Rattle.plain_runs.specs.Plain.{ArePlain, FirstsRise, PlainRun, plain_runs_of, reason_of, record_of, records_of, with_key}
use Rattle.plain_runs.specs.Plain as plain
use Rattle.quiet_laws.proofs.Calming.{calm}
use Rattle.quiet_laws.proofs.Members.{begun_in, begun_of, begun_once, in_map, in_mapped, in_passed, in_passing, in_reverse, in_reversed}
use Rattle.quiet_laws.proofs.Piecing.{IsRun, are_plain, only_runs, piece_run, run_end}
use Rattle.quiet_laws.proofs.Sorting.{RiseAbove, in_order_are}
use Rattle.quiet_laws.proofs.Uncutting.{unstopped}
use Rattle.quiet_laws.specs.Pieces.{ended_by, plain_of, run_of, runs_of}
use Rattle.quiet_laws.specs.Plainly.{EndsPlainly}
use Rattle.bucket_laws.proofs.Listing.{in_right}
use Rattle.run_laws.proofs.Drained.{drained}
use Rattle.run_laws.proofs.Leavers.{made_own}
use Rattle.run_laws.specs.Setting.{IsSetup}
use Rattle.run_rules.specs.Histories.{Histories, bucket_at}
use Rattle.run_rules.specs.Lawful.{AreScripted}
use Rattle.run_rules.specs.Quiet.{IsQuiet}
use Rattle.run_rules.specs.Runs.{line_in, line_when, runs_in, verdicts_on}
use Rattle.run_rules.specs.Setup.{Setup, bucket_by, bucket_for, fixed_at}
use Rattle.suri_base.proofs.SameKeys.{same_key-refl}
use Rattle.suri_base.specs.Capture.{packets_in}
use Rattle.suri_base.specs.Clock.{clock_of}
use Rattle.suri_base.specs.Dealing.{bucket_of}
use Rattle.suri_base.specs.Hash.{fnv1a, key_bytes}
use Rattle.suri_base.specs.Keys.{key_list}
use Rattle.suri_base.specs.declared.facts.Facts.{Facts}
use Rattle.suri_base.specs.declared.key.Key.{Key}
use Rattle.suri_base.specs.declared.reason.Reason.{Reason}

-- the runs of pieces, each with its piece

in_runs : (r : Run) (ps : List Piece) → In r (runs_of ps) → (p : Piece) × In p ps × (p.packets ≡ members r)
in_runs r [] i = absurd i
in_runs r (p ∷ ps) i = by p.packets refl i (λ j. in_runs r ps j)
  where
    by : (ms : List Facts) → p.packets ≡ ms → In r (run_of ms ++ runs_of ps) → (In r (runs_of ps) → (q : Piece) × In q ps × (q.packets ≡ members r))
        → (q : Piece) × In q (p ∷ ps) × (q.packets ≡ members r)
    by [] e i more = let z = more i in (z.0, inr z.1, z.2)
    by (m ∷ ms) e (inl q) more = (p, inl refl, e ∙ ap members q)
    by (m ∷ ms) e (inr j) more = let z = more j in (z.0, inr z.1, z.2)

run_there : (r : Run) (a : ℕ) (ps : List Piece) → packets_of a ps ≡ members r → In r (runs_of ps)
run_there r a [] h = cc
run_there r a (p ∷ ps) h = by (p.run == a) h (λ k. run_there r a ps k)
  where
    own : (ms : List Facts) → ms ≡ members r → In r (run_of ms ++ runs_of ps)
    own [] e = cc
    own (m ∷ ms) e =
        let newest : m ≡ r.newest = cc in
        let older : ms ≡ r.older = cc in
        inl (λ i. record { newest = newest i; older = older i })

    by : (b : Bool) → cond b p.packets (packets_of a ps) ≡ members r → (packets_of a ps ≡ members r → In r (runs_of ps)) → In r (run_of p.packets ++ runs_of ps)
    by true e more = own p.packets e
    by false e more = in_right r (run_of p.packets) (runs_of ps) (more e)

-- the end of a run is the plain one

ended_plainly : (s : Fixed) (r : Run) (o : Off) (next : Option Facts) → bearing s.capture r.newest.next ≡ next → (next ≡ None → r.newest.next ≡ 0) → EndsPlainly s r o
    → o ≡ off (reason_of (last_clock s) (record { run = r; ended = ended_by r next })) false
ended_plainly s r o None b z e = e.last (z refl)
ended_plainly s r o (Some t) b z e = (e.next t b).1

-- the record of a run in a row
line_is : (w : Setup) (v : Row) (r : Run) (o : Off) (reason : Reason) → v.members ≡ members r → v.place ≡ detached o → v.stops ≡ no_stops → o ≡ off reason false
    → line_when w v v.members v.place ≡ Some (line_of w.layout.depth no_stops w.capture.bytes r (verdicts_on w.capture.bytes (members r)) reason false)
line_is w v r o reason m p t e =
    ap (λ (ms : List Facts). line_when w v ms v.place) m
    ∙ (ap (λ (x : Place). line_when w v (members r) x) p
    ∙ (ap (λ (x : Stops). Some (line_of w.layout.depth x w.capture.bytes r (verdicts_on w.capture.bytes (members r)) o.reason o.emergency)) t
    ∙ ap (λ (x : Off). Some (line_of w.layout.depth no_stops w.capture.bytes r (verdicts_on w.capture.bytes (members r)) x.reason x.emergency)) e))

module _ (w : Setup) (t : Histories) (d : IsSetup w) (l : AreScripted w t) (q : IsQuiet t) where
  home : (k : Key) → bucket_of k w.layout.rows < length t.buckets
  home k = subst (λ (n : ℕ). bucket_of k w.layout.rows < n) (sym l.legal.rows) (mod-lt (fnv1a (key_bytes k) / 256) d.layout.rows.0)

  legal : (b : ℕ) → b < length t.buckets → IsLegal (fixed_at w b) (bucket_at b t.buckets)
  legal b h = l.legal.buckets b h

  whole_drained : (b : ℕ) → b < length t.buckets → is_drained (bucket_at b t.buckets) ≡ true
  whole_drained b h = drained w t l b h

  -- a run of a bucket bears a key of that bucket
  own_bucket : (a b : ℕ) → b < length t.buckets → has (made (bucket_at b t.buckets)) a ≡ true → bucket_for w a ≡ b
  own_bucket a b h m =
      let own = made_own (fixed_at w b) (bucket_at b t.buckets) a (legal b h) m in
      ap (λ (o : Option Facts). bucket_by w.layout.rows o) own.bears ∙ own.bucket

  -- a run and its record
  pub record IsTold (p : PlainRun) : Type 0 where
    pub of : Run
    pub form : plain_of w.capture of ≡ p
    pub bucket : ℕ
    pub real : bucket < length t.buckets
    pub began : has (made (bucket_at bucket t.buckets)) (number_of p) ≡ true
    pub line : line_in w t (number_of p) ≡ Some (record_of w.layout.depth w.capture.bytes (clock_of w.capture.frames) p)

  -- where none is to come, the run names none
  none_next : (b a : ℕ) (r : Run) → b < length t.buckets → (row (fixed_at w b) a (bucket_at b t.buckets)).members ≡ members r
      → bearing w.capture r.newest.next ≡ None → r.newest.next ≡ 0
  none_next b a r h m e =
      let x : IsNewest (fixed_at w b) (bucket_at b t.buckets) r =
      subst (λ (ms : List Facts). IfRun ms (λ u. IsNewest (fixed_at w b) (bucket_at b t.buckets) u)) m ((sound (fixed_at w b) (bucket_at b t.buckets) (legal b h)).newest a) in
      by (next_is w.capture x.frame r.newest d.capture x.bears)
    where
      by : {f : ℕ} → IsNext w.capture f r.newest → r.newest.next ≡ 0
      by (inl y) = y.0
      by (inr y) = let z = of_is w.capture r.newest.key r.newest.next y.1 in absurd (none_some e z.1)

  number_is : (k : Key) (b a : ℕ) (r : Run) → b < length t.buckets → IsRun (fixed_at w b) k (bucket_at b t.buckets) a r → (first_of r).no ≡ a
  number_is k b a r h x =
      let first = named_by_first (fixed_at w b) (bucket_at b t.buckets) a (legal b h) x.began in
      bearing_no w.capture a (first_of r) d.capture (subst (λ (u : Run). bearing w.capture a ≡ Some (first_of u)) (same_run first.run r (sym first.members ∙ x.members)) first.first)
    where
      same_run : (u v : Run) → members u ≡ members v → u ≡ v
      same_run u v e =
          let newest : u.newest ≡ v.newest = cc in
          let older : u.older ≡ v.older = cc in
          λ i. record { newest = newest i; older = older i }

  run_told : (k : Key) (b a : ℕ) (r : Run) → b < length t.buckets → IsRun (fixed_at w b) k (bucket_at b t.buckets) a r → IsTold (plain_of w.capture r)
  run_told k b a r h x =
      let s = fixed_at w b in
      let history = bucket_at b t.buckets in
      let n = number_is k b a r h x in
      let z = run_end s k history d.capture (legal b h) (calm w t d l q b h) (whole_drained b h) a r x in
      let o = ended_plainly s r z.0 (bearing w.capture r.newest.next) refl (λ e. none_next b a r h x.members e) z.2 in
      let there : line_in w t a ≡ line_when w (row s a history) (row s a history).members (row s a history).place =
      ap (λ (c : ℕ). line_when w (row (fixed_at w c) a (bucket_at c t.buckets)) (row (fixed_at w c) a (bucket_at c t.buckets)).members (row (fixed_at w c) a (bucket_at c t.buckets)).place)
      (own_bucket a b h x.began) in
      let line = line_is w (row s a history) r z.0 (reason_of (last_clock s) (plain_of w.capture r)) x.members z.1 (unstopped s history a (calm w t d l q b h)) o in
      record {
        of = r;
        form = refl;
        bucket = b;
        real = h;
        began = subst (λ (y : ℕ). has (made history) y ≡ true) (sym n) x.began;
        line = ap (λ (y : ℕ). line_in w t y) n ∙ (there ∙ line);
      }

  cut_of : (k : Key) → IsCut (fixed_at w (bucket_of k w.layout.rows)) k (bucket_at (bucket_of k w.layout.rows) t.buckets) (reverse (key_list k (packets_in w.capture.seen)))
      (pieces (fixed_at w (bucket_of k w.layout.rows)) k (bucket_at (bucket_of k w.layout.rows) t.buckets))
  cut_of k =
      let b = bucket_of k w.layout.rows in
      whole_cut (fixed_at w b) k (bucket_at b t.buckets) (legal b (home k)) (whole_drained b (home k)) refl

  plain_at : (k : Key) → plain_runs_of k (packets_in w.capture.seen)
      ≡ reverse (map (λ r. plain_of w.capture r) (runs_of (pieces (fixed_at w (bucket_of k w.layout.rows)) k (bucket_at (bucket_of k w.layout.rows) t.buckets))))
  plain_at k =
      let b = bucket_of k w.layout.rows in
      are_plain (fixed_at w b) k (bucket_at b t.buckets) d.capture (legal b (home k)) (calm w t d l q b (home k)) (whole_drained b (home k)) refl

  module _ (ps : List PlainRun) (are : ArePlain (packets_in w.capture.seen) ps) where
    -- a plain run is a run of the bucket of its key
    pub told : (p : PlainRun) → In p ps → IsTold p
    told p i =
        let k = (first_of p.run).key in
        let b = bucket_of k w.layout.rows in
        let history = bucket_at b t.buckets in
        let own : In p (with_key k ps) = in_passing (λ x. plain.has_key k x) p ps (same_key-refl k) i in
        let listed : In p (reverse (map (λ r. plain_of w.capture r) (runs_of (pieces (fixed_at w b) k history)))) = subst (λ (x : List PlainRun). In p x) (are.each k ∙ plain_at k) own in
        let z = in_mapped (λ r. plain_of w.capture r) p (runs_of (pieces (fixed_at w b) k history)) (in_reversed p (map (λ r. plain_of w.capture r) (runs_of (pieces (fixed_at w b) k history))) listed) in
        let y = in_runs z.0 (pieces (fixed_at w b) k history) z.1 in
        let x = piece_run (fixed_at w b) k history (reverse (key_list k (packets_in w.capture.seen))) (pieces (fixed_at w b) k history) (cut_of k)
        (only_runs (fixed_at w b) k history (calm w t d l q b (home k))) y.0 z.0 y.1 y.2 in
        subst IsTold z.2 (run_told k b y.0.run z.0 (home k) x)

    has_number : (p : PlainRun) (xs : List PlainRun) → In p xs → has (map number_of xs) (number_of p) ≡ true
    has_number p [] i = absurd i
    has_number p (x ∷ xs) (inl e) = or_left (number_of x == number_of p) (has (map number_of xs) (number_of p)) (same (number_of x) (number_of p) (ap number_of e))
    has_number p (x ∷ xs) (inr i) = or_right (number_of x == number_of p) (has (map number_of xs) (number_of p)) (has_number p xs i)

    of_number : (a : ℕ) (xs : List PlainRun) → has (map number_of xs) a ≡ true → (p : PlainRun) × In p xs × (number_of p ≡ a)
    of_number a [] h = absurd (true_false h refl)
    of_number a (x ∷ xs) h = ⊎_elim
        (λ e. (x, inl refl, eqb-true (number_of x) a e))
        (λ k. let z = of_number a xs k in (z.0, inr z.1, z.2))
        (either (number_of x == a) (has (map number_of xs) a) h)

    -- a run of a bucket is a plain run
    listed_run : (a b : ℕ) → b < length t.buckets → has (made (bucket_at b t.buckets)) a ≡ true → has (map number_of ps) a ≡ true
    listed_run a b h m =
        let first = named_by_first (fixed_at w b) (bucket_at b t.buckets) a (legal b h) m in
        let k = (first_of first.run).key in
        let own = made_own (fixed_at w b) (bucket_at b t.buckets) a (legal b h) m in
        let there : bucket_of k w.layout.rows ≡ b = ap (λ (f : Facts). bucket_of f.key w.layout.rows) (some_is first.first own.bears) ∙ own.bucket in
        let c = subst (λ (x : ℕ). IsCut (fixed_at w x) k (bucket_at x t.buckets) (reverse (key_list k (packets_in w.capture.seen))) (pieces (fixed_at w x) k (bucket_at x t.buckets))) there (cut_of k) in
        let one : 1 ≤ a = positive a first.first in
        let key : has_key (row (fixed_at w b) a (bucket_at b t.buckets)).members k ≡ true =
        subst (λ (ms : List Facts). has_key ms k ≡ true) (sym first.members) (same_key-refl k) in
        let packets : packets_of a (pieces (fixed_at w b) k (bucket_at b t.buckets)) ≡ members first.run =
        c.runs a one ∙ (ap (λ (x : Bool). cond x (row (fixed_at w b) a (bucket_at b t.buckets)).members []) key ∙ first.members) in
        let i = run_there first.run a (pieces (fixed_at w b) k (bucket_at b t.buckets)) packets in
        let j = in_reverse (plain_of w.capture first.run) (map (λ r. plain_of w.capture r) (runs_of (pieces (fixed_at w b) k (bucket_at b t.buckets))))
        (in_map (λ r. plain_of w.capture r) first.run (runs_of (pieces (fixed_at w b) k (bucket_at b t.buckets))) i) in
        let at = subst (λ (x : ℕ). plain_runs_of k (packets_in w.capture.seen) ≡ reverse (map (λ r. plain_of w.capture r) (runs_of (pieces (fixed_at w x) k (bucket_at x t.buckets))))) there (plain_at k) in
        let u = in_passed (λ x. plain.has_key k x) (plain_of w.capture first.run) ps (subst (λ (x : List PlainRun). In (plain_of w.capture first.run) x) (sym (are.each k ∙ at)) j) in
        subst (λ (x : ℕ). has (map number_of ps) x ≡ true) (bearing_no w.capture a (first_of first.run) d.capture first.first) (has_number (plain_of w.capture first.run) ps u)
      where
        positive : (a : ℕ) {f : Facts} → bearing w.capture a ≡ Some f → 1 ≤ a
        positive a {f} e = bears_one (fixed_at w 0) a f e

    rise_of : (above : ℕ) (xs : List PlainRun) → FirstsRise above xs → RiseAbove above (map number_of xs)
    rise_of above [] r = tt
    rise_of above (x ∷ xs) r = (r.0, rise_of (number_of x) xs r.1)

    same_numbers : (a : ℕ) → has (concat (map (λ h. made h) t.buckets)) a ≡ has (map number_of ps) a
    same_numbers a = by (has (concat (map (λ h. made h) t.buckets)) a) (has (map number_of ps) a) refl refl
      where
        by : (x y : Bool) → has (concat (map (λ h. made h) t.buckets)) a ≡ x → has (map number_of ps) a ≡ y → x ≡ y
        by true y e f = let z = begun_in a t.buckets e in sym (listed_run a z.0 z.1 z.2) ∙ f
        by false true e f =
            let z = of_number a ps f in
            let x = told z.0 z.1 in
            absurd (true_false (begun_of a x.bucket t.buckets x.real (subst (λ (y : ℕ). has (made (bucket_at x.bucket t.buckets)) y ≡ true) z.2 x.began)) e)
        by false false e f = refl

    runs_are : runs_in t ≡ map number_of ps
    runs_are = in_order_are (concat (map (λ h. made h) t.buckets)) (map number_of ps) 0
        (begun_once t.buckets
        (λ b h. (sound (fixed_at w b) (bucket_at b t.buckets) (legal b h)).once)
        (λ b c a h g m n. sym (own_bucket a b h m) ∙ own_bucket a c g n))
        (rise_of 0 ps are.in_order) same_numbers

    lines_are : (xs : List PlainRun) → ((p : PlainRun) → In p xs → IsTold p)
        → map (λ a. line_in w t a) (map number_of xs) ≡ map (λ x. Some x) (records_of w.layout.depth w.capture.bytes (clock_of w.capture.frames) xs)
    lines_are [] each = refl
    lines_are (p ∷ xs) each =
        ap (λ (x : Option FlowLine). x ∷ map (λ a. line_in w t a) (map number_of xs)) (each p (inl refl)).line
        ∙ ap (λ (ls : List (Option FlowLine)). Some (record_of w.layout.depth w.capture.bytes (clock_of w.capture.frames) p) ∷ ls) (lines_are xs (λ x i. each x (inr i)))

    pub plain_records : map (λ a. line_in w t a) (runs_in t) ≡ map (λ x. Some x) (records_of w.layout.depth w.capture.bytes (clock_of w.capture.frames) ps)
    plain_records = ap (λ (xs : List ℕ). map (λ a. line_in w t a) xs) runs_are ∙ lines_are ps (λ p i. told p i)
