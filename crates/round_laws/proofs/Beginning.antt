-- Before the first round no role has done or seen anything, so all that holds between two rounds holds of empty lists.
use Rattle.std.proofs.Common.{◌≡◌, ℕ, zero, suc, ◌+◌, ◌*◌, ◌-◌, ◌^◌, ◌<◌, ◌≤◌, List, [], ◌∷◌, get_or, map, reverse, Some, refl, sym, ap, subst, arith, All}
use Rattle.std.proofs.lemmas.List.Elements.{All-nil}
use Rattle.bucket_laws.specs.Leaving.{Gone}
use Rattle.bucket_rules.specs.Rule.{IsLegal}
use Rattle.flow_object.specs.Ending.{EndedFlow}
use Rattle.flow_object.specs.declared.outcome.FlowLine.{FlowLine}
use Rattle.role_meets.specs.Parts.{waiting_of}
use Rattle.role_meets.specs.declared.roles.Role.{Role}
use Rattle.role_steps.specs.Items.{Items, LinesOf}
use Rattle.role_steps.specs.Roles.{setup_of}
use Rattle.role_steps.specs.declared.roles.Recycler.{Recycler}
use Rattle.role_steps.specs.declared.roles.Shared.{Shared}
use Rattle.round_laws.proofs.Cutting.{first_cut}
use Rattle.round_laws.proofs.Queues.{none_gathered}
use Rattle.round_laws.specs.Between.{Between, Rests}
use Rattle.run_laws.proofs.Parts.{met}
use Rattle.run_laws.specs.RoundEnd.{IsRoundEnd, next_queue}
use Rattle.run_laws.specs.Setting.{IsLayout}
use Rattle.run_rules.specs.Acts.{AreActs, bucket_acts}
use Rattle.run_rules.specs.Histories.{Histories, bucket_at}
use Rattle.run_rules.specs.Lawful.{waited}
use Rattle.run_rules.specs.Manager.{new_manager}
use Rattle.run_rules.specs.Setup.{Setup, fixed_at, manager, recycler, roles, rounds}
use Rattle.run_start.specs.Starting.{IsNewRole, IsStarted, blank}
use Rattle.suri_base.specs.History.{entries_of}
use Rattle.suri_base.specs.declared.entry.BucketNote.{BucketNote}
use Rattle.suri_base.specs.declared.entry.Entry.{Entry}

no_entries : {A : Type 0} (xs : List A) (b : ℕ) → bucket_at b (map (λ l. []) xs) ≡ []
no_entries [] b = refl
no_entries (x ∷ xs) zero = refl
no_entries (x ∷ xs) (suc b) = no_entries xs b

module _ (s : Shared) where
  abbrev w : Setup
  w = setup_of s

  blank_bucket : (b : ℕ) → bucket_at b (blank s).buckets ≡ []
  blank_bucket b = no_entries s.buckets.items b

  -- of no role there is any entry
  blank_acts : (role : ℕ) → AreActs w (blank s) role []
  blank_acts role = record {
    pool = refl;
    segments = refl;
    buckets = λ b low. ap (λ (h : List (Entry BucketNote)). entries_of role (bucket_acts w b h)) (blank_bucket b);
    within = refl;
  }

  none_waits : waited (manager w + 1) (λ role. []) (0 - 1) ≡ []
  none_waits = let start : 0 - 1 ≡ 0 = omega arith in ap (λ (k : ℕ). waited (manager w + 1) (λ role. []) k) start

  abbrev blank_end : IsRoundEnd w (blank s) 0
  blank_end = record {
    pool_roles = All-nil (λ e. e.role < roles w);
    bucket_roles = λ b low. subst (λ (h : List (Entry BucketNote)). All (λ (e : Entry BucketNote). e.role < roles w) h) (sym (blank_bucket b)) (All-nil (λ (e : Entry BucketNote). e.role < roles w));
    buckets = λ b low. subst (λ (h : List (Entry BucketNote)). IsLegal (fixed_at w b) h) (sym (blank_bucket b)) tt;
    acts = λ role. [];
    hands = λ role. [];
    own = λ role low. met w (blank s) role [] (blank_acts role);
    work = λ role low. (refl, refl);
    manage = record { sweep = new_manager; stood = refl; rests = refl; round = refl; empty = refl; held = refl };
    recycle = ap Some none_waits;
    drain = refl;
  }

  rests_new : (k : ℕ) (r : Role) → IsNewRole s k r → Rests s (blank s) k [] r
  rests_new k r n = record {
    fits = n.passes.fits;
    number = n.passes.number;
    kind = n.kind;
    knows = n.passes.nothing;
    own = subst (λ (h : Histories). AreActs w h k []) n.passes.nothing n.passes.own;
    step = sym n.passes.step;
    hand = n.hand;
    lines = subst (λ (l : List FlowLine). LinesOf w (blank s) (reverse []) l) (sym n.lines) tt;
    well = n.well;
  }

  none_items : (es : List EndedFlow) → es ≡ [] → Items w (blank s) (next_queue w (λ role. [])) es
  none_items es none =
      subst (λ (g : List Gone). Items w (blank s) g es) (sym (none_gathered (manager w + 1) (λ role. []) (λ role low. refl)))
      (subst (λ (l : List EndedFlow). Items w (blank s) [] l) (sym none) tt)

  started : (all : List Role) (e : Recycler) → IsStarted w s all e → IsLayout s.layout → rounds w * s.layout.rows ≤ 2 ^ 24 → Between s 0 all e
  started all e st layout few = record {
    laid = record { shared = st.shared; layout = layout; locks = st.locks; few = few };
    within = omega arith;
    count = st.count;
    t = blank s;
    at = blank_end;
    cuts = first_cut w (blank s) (λ role. []) (record { at = blank_end; acts_are = λ role. refl; own = λ role low. blank_acts role });
    rests = λ k d low. rests_new k (get_or all k d) (st.roles k d low);
    idle = record {
      fits = st.ender.fits;
      number = st.ender.number;
      knows = st.ender.nothing;
      own = subst (λ (h : Histories). AreActs w h (s.layout.workers + 2) []) st.ender.nothing st.ender.own;
      step = st.ender.step;
      waiting = st.waiting;
      lines = st.lines;
    };
    puts = tt;
    waiting = λ d. none_items (waiting_of (get_or all (recycler w) d).part) (st.roles (recycler w) d (omega (arith, st.count))).waiting;
  }

pub begins : (w : Setup) (s : Shared) (all : List Role) (e : Recycler) → IsStarted w s all e → IsLayout w.layout → rounds w * w.layout.rows ≤ 2 ^ 24 → Between s 0 all e
begins w s all e st layout few =
    started s all e (subst (λ (x : Setup). IsStarted x s all e) (sym st.setup) st) (subst (λ (x : Setup). IsLayout x.layout) (sym st.setup) layout)
    (subst (λ (x : Setup). rounds x * x.layout.rows ≤ 2 ^ 24) (sym st.setup) few)
