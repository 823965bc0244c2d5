-- The end of a run: the end role takes over what waited for the recycler, and all roles are taken apart. What they were made of is as it was
-- after the last round, so the locks end with their passes, and there are just their lines.
use Rattle.std.proofs.Common.{◌≡◌, ◌≢◌, ℕ, suc, ◌+◌, ◌<◌, List, [], ◌∷◌, ◌++◌, length, map, get_or, refl, sym, ap, ◌∙◌, subst, arith, length-append}
use Rattle.std.proofs.Math.ListN.{get_or-append}
use Rattle.std.proofs.Math.Seq.{get_or-append_seam}
use Rattle.std.proofs.lemmas.List.{length-map}
use mathlib.Core.Logic.{dite}
use native.Mathlib.Decide.{ℕ_discrete}
use Rattle.end_laws.proofs.Beginning.{end_may}
use Rattle.end_laws.proofs.Lawful.{run_ended}
use Rattle.end_laws.specs.Ended.{AreOwned, HaveAllEnded, IsRunEnd, TookOver, lines_in}
use Rattle.flow_object.specs.Ending.{EndedFlow}
use Rattle.flow_object.specs.declared.outcome.FlowLine.{FlowLine}
use Rattle.lock_rows.proofs.Placed.{any_default, get_or_map}
use Rattle.recycler.specs.Draining.{DrainedAll, MayDrainAll}
use Rattle.role_meets.specs.Parts.{kind_of, lines_of, passes_of, recycles}
use Rattle.role_meets.specs.declared.roles.Role.{Role}
use Rattle.role_steps.specs.Roles.{Fits, number_of, setup_of}
use Rattle.role_steps.specs.declared.roles.Passes.{Passes}
use Rattle.role_steps.specs.declared.roles.Recycler.{Recycler}
use Rattle.role_steps.specs.declared.roles.Shared.{Shared}
use Rattle.round_laws.specs.Between.{Between}
use Rattle.run_round.proofs.Rounding.{last_recycles}
use Rattle.run_round.proofs.Taking.{some_of}
use Rattle.run_round.specs.Closing.{AreAll, AreParted, HaveFinished, IsClosed}
use Rattle.run_round.specs.Handing.{IsTaken}
use Rattle.run_rules.specs.Histories.{histories_of}
use Rattle.run_rules.specs.Setup.{recycler, rounds}
use Rattle.run_start.specs.Starting.{HaveRoles}
use Rattle.suri_base.specs.Trail.{Trailed}

pub last_at : (s : Shared) (n : ℕ) (all : List Role) (e : Recycler) → Between s n all e → (m : ℕ) × (length all ≡ m + 1) × ((d : Role) → kind_of (get_or all m d).part ≡ recycles)
last_at s n all e b = last_recycles s.layout.workers all b.count (λ k d below. (b.rests k d below).kind)

-- the passes of roles, and those of the end role behind them
pub part_at : (passes : List Passes) (all : List Role) (p : Passes) → passes ≡ map (λ r. passes_of r) all ++ p ∷ [] → (k : ℕ) (d : Passes) (r : Role) → k < length all → get_or passes k d ≡ passes_of (get_or all k r)
part_at passes all p is k d r below =
    let list = map (λ (x : Role). passes_of x) all in
    let inside : k < length list = omega (arith, below, length-map all (λ (x : Role). passes_of x)) in
    ap (λ (l : List Passes). get_or l k d) is ∙ (get_or-append list (p ∷ []) d k inside ∙ (any_default list k d (passes_of r) inside ∙ get_or_map (λ (x : Role). passes_of x) all k r))

pub part_last : (passes : List Passes) (all : List Role) (p : Passes) → passes ≡ map (λ r. passes_of r) all ++ p ∷ [] → (d : Passes) → get_or passes (length all) d ≡ p
part_last passes all p is d =
    let list = map (λ (x : Role). passes_of x) all in
    let count : length list ≡ length all = length-map all (λ (x : Role). passes_of x) in
    let inside : length all < length (list ++ p ∷ []) = omega (arith, count, length-append list (p ∷ [])) in
    ap (λ (l : List Passes). get_or l (length all) d) is ∙ (any_default (list ++ p ∷ []) (length all) d p inside
    ∙ (ap (λ (n : ℕ). get_or (list ++ p ∷ []) n p) (sym count) ∙ get_or-append_seam list p [] p))

part_count : (passes : List Passes) (all : List Role) (p : Passes) → passes ≡ map (λ r. passes_of r) all ++ p ∷ [] → length passes ≡ length all + 1
part_count passes all p is =
    let list = map (λ (x : Role). passes_of x) all in omega (arith, ap length is, length-append list (p ∷ []), length-map all (λ (x : Role). passes_of x))

-- the same lines, role by role
same_lines : (olds news : List Role) → length news ≡ length olds → ((k : ℕ) (d : Role) → k < length olds → lines_of (get_or news k d).part ≡ lines_of (get_or olds k d).part) → lines_in news ≡ lines_in olds
same_lines [] [] count h = refl
same_lines [] (y ∷ ys) count h = absurd (omega (arith, count))
same_lines (x ∷ xs) [] count h = absurd (omega (arith, count))
same_lines (x ∷ xs) (y ∷ ys) count h =
    ap (λ (l : List FlowLine). l ++ lines_in ys) (h 0 x (omega arith)) ∙ ap (λ (l : List FlowLine). lines_of x.part ++ l) (same_lines xs ys (omega (arith, count)) (λ k d below. h (suc k) d (omega (arith, below))))

module _ (s : Shared) (olds news : List Role) (e f g : Recycler) (queue : List EndedFlow) (b : Between s (rounds (setup_of s)) olds e) (taken : IsTaken queue olds news)
    (passes : f.passes ≡ e.passes) (waits : f.waiting.items ≡ queue) (lines : f.lines.items ≡ e.lines.items) where
  pub took_over : TookOver s olds e f
  took_over = record {
    passes = passes;
    waiting = λ d. waits ∙ taken.queue_is (recycler (setup_of s)) d (omega (arith, b.count));
    lines = lines;
  }

  pub drains : MayDrainAll s f
  drains = end_may s olds e f b took_over

  module _ (drained : DrainedAll s f g) (list : List Passes) (told : List FlowLine) (parted : AreParted news g list told) where
    same_count : length list ≡ length olds + 1
    same_count = part_count list news g.passes parted.passes_are ∙ ap (λ (n : ℕ). n + 1) taken.count

    same_at : (k : ℕ) (d : Passes) (r : Role) → k < length olds → get_or list k d ≡ passes_of (get_or olds k r)
    same_at k d r below = part_at list news g.passes parted.passes_are k d r (omega (arith, below, taken.count)) ∙ taken.passes k r below

    last_is : (d : Passes) → get_or list (length olds) d ≡ g.passes
    last_is d = ap (λ (n : ℕ). get_or list n d) (sym taken.count) ∙ part_last list news g.passes parted.passes_are d

    pub some : 0 < length list
    some = omega (arith, same_count)

    pub locks : HaveRoles s (length list)
    locks =
        let all : s.layout.workers + 3 ≡ length list = omega (arith, same_count, b.count) in
        subst (λ (n : ℕ). HaveRoles s n) all b.laid.locks

    fits_at : (k : ℕ) (d : Passes) → k < length olds → Fits s (get_or list k d) × (number_of (get_or list k d) ≡ k)
    fits_at k d below =
        let r : Role = some_of olds k below in
        let rests = b.rests k r below in
        subst (λ (p : Passes). Fits s p × (number_of p ≡ k)) (sym (same_at k d r below)) (rests.fits, rests.number)

    fits_last : (d : Passes) → Fits s (get_or list (length olds) d) × (number_of (get_or list (length olds) d) ≡ length olds)
    fits_last d =
        subst (λ (p : Passes). Fits s p × (number_of p ≡ length olds)) (sym (last_is d)) (drained.fits, drained.number ∙ (ap number_of passes ∙ (b.idle.number ∙ sym b.count)))

    before : (k : ℕ) → k ≢ length olds → k < length list → k < length olds
    before k apart below = omega (arith, below, same_count, apart)

    pub fit : AreAll s list
    fit k d below = dite (ℕ_discrete k (length olds)) (λ is. subst (λ (n : ℕ). Fits s (get_or list n d) × (number_of (get_or list n d) ≡ n)) (sym is) (fits_last d)) (λ apart. fits_at k d (before k apart below))

    module _ (t : Trailed) (finished : HaveFinished s list t) where
      all_ended : HaveAllEnded s olds g (histories_of t)
      all_ended = record {
        whole = finished.whole;
        roles = λ k r below. let p : Passes = passes_of (get_or olds k r) in
            subst (λ (q : Passes). AreOwned k q (histories_of t)) (same_at k p r below) (finished.owned k p (omega (arith, below, same_count)));
        ender = subst (λ (q : Passes). AreOwned (length olds) q (histories_of t)) (last_is g.passes) (finished.owned (length olds) g.passes (omega (arith, same_count)));
      }

      pub ended : IsClosed (setup_of s) t told
      ended = record {
        told = lines_in news ++ g.lines.items;
        same = parted.lines_are;
        ended = subst (λ (l : List FlowLine). IsRunEnd (setup_of s) (histories_of t) l) (sym (ap (λ (l : List FlowLine). l ++ g.lines.items) (same_lines olds news taken.count taken.lines)))
            (run_ended s olds e f g (histories_of t) b took_over drained all_ended);
      }
