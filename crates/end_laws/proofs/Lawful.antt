-- The whole histories are a lawful trail. Up to the last meeting the acts of the rounds' roles are what stands between two rounds after the last
-- round, and each of these roles had then ended its script; since then only the end role acted, by its own script. What a role did as it saw
-- the histories is what it did in the whole ones, since what came later is not its own.
use Rattle.std.proofs.Common.{◌≡◌, ◌≢◌, ℕ, ◌==◌, ◌+◌, ◌-◌, ◌<◌, Bool, true, cond, List, [], ◌++◌, length, reverse, get_or, Some, ⊎_elim, refl, sym, ◌∙◌, ap, subst, arith}
use Rattle.std.proofs.lemmas.Bool.Decides.{eqb_tells}
use Rattle.std.specs.List.{list_all}
use Rattle.bucket_laws.proofs.Tests.{other, same}
use Rattle.end_laws.proofs.Last.{grown_by_last, whole_roles}
use Rattle.end_laws.proofs.Puts.{end_puts_back, only_own_puts, part_puts_back, puts_back}
use Rattle.end_laws.proofs.Telling.{lines_and_last, lines_from}
use Rattle.end_laws.proofs.Whole.{has_grown, some_of, whole_grew, whole_legal}
use Rattle.end_laws.specs.Ended.{AreOwned, HaveAllEnded, IsRunEnd, TookOver, all_finished, lines_in}
use Rattle.flow_object.specs.Ending.{EndedFlow}
use Rattle.flow_object.specs.declared.outcome.FlowLine.{FlowLine}
use Rattle.recycler.specs.Draining.{DrainedAll}
use Rattle.recycler.proofs.Draining.{lines_grow}
use Rattle.role_meets.specs.Parts.{lines_of, passes_of}
use Rattle.role_meets.specs.declared.roles.Role.{Role}
use Rattle.role_steps.specs.Items.{Items, LinesOf}
use Rattle.role_steps.specs.Roles.{number_of, seen, setup_of}
use Rattle.role_steps.specs.declared.roles.Passes.{Passes}
use Rattle.role_steps.specs.declared.roles.Recycler.{Recycler}
use Rattle.role_steps.specs.declared.roles.Shared.{Shared}
use Rattle.round_laws.specs.Between.{Between}
use Rattle.round_laws.specs.Cuts.{HasGrownBy, IsInRounds}
use Rattle.run_laws.proofs.Rounded.{end_puts}
use Rattle.run_laws.proofs.Rounding.{manager_over, worker_over}
use Rattle.run_laws.specs.RoundEnd.{next_queue, only_puts}
use Rattle.run_rules.proofs.Carrying.{carried}
use Rattle.run_rules.specs.Acts.{Act, AreActs, pool_acts}
use Rattle.run_rules.specs.Ending.{ending_after}
use Rattle.run_rules.specs.Growing.{Grew}
use Rattle.run_rules.specs.Histories.{Histories}
use Rattle.run_rules.specs.Lawful.{AreScripted, PutsAreDue, left_over, waited}
use Rattle.run_rules.specs.Manager.{manager_ended, new_manager, swept_after}
use Rattle.run_rules.specs.Serving.{finished, queue_after}
use Rattle.run_rules.specs.Setup.{Setup, ender, manager, recycler, roles as count_roles, rounds, work_of}
use Rattle.run_rules.specs.Worker.{ended, fresh, stand_after}
use Rattle.suri_base.specs.History.{entries_of}
use Rattle.suri_base.specs.declared.entry.Entry.{Entry}
use Rattle.suri_base.specs.declared.entry.PoolNote.{PoolNote}

-- what each role did: the last one these acts, and the others as before
abbrev pub with_last : ℕ → List Act → (ℕ → List Act) → ℕ → List Act
with_last last now acts role = cond (role == last) now (acts role)

at_last : (last : ℕ) (now : List Act) (acts : ℕ → List Act) → with_last last now acts last ≡ now
at_last last now acts = ap (λ (t : Bool). cond t now (acts last)) (same last last refl)

before_last : (last : ℕ) (now : List Act) (acts : ℕ → List Act) (role : ℕ) → role < last → with_last last now acts role ≡ acts role
before_last last now acts role low = ap (λ (t : Bool). cond t now (acts role)) (other role last (λ e. omega (arith, e, low)))

module _ (s : Shared) (rs : List Role) (e f g : Recycler) (t : Histories) (b : Between s (rounds (setup_of s)) rs e) (o : TookOver s rs e f) (d : DrainedAll s f g)
    (h : HaveAllEnded s rs g t) where
  abbrev w : Setup
  w = setup_of s

  abbrev acts : ℕ → List Act
  acts = with_last (ender w) d.now b.at.acts

  -- the acts of the rounds' roles are those from before
  acts_are : (role : ℕ) → role < ender w → acts role ≡ b.at.acts role
  acts_are role low = before_last (ender w) d.now b.at.acts role low

  acts_end : acts (ender w) ≡ d.now
  acts_end = at_last (ender w) d.now b.at.acts

  number_end : number_of f.passes ≡ ender w
  number_end = ap (λ (p : Passes). number_of p) o.passes ∙ b.idle.number

  known_end : seen f.passes ≡ b.t
  known_end = ap (λ (p : Passes). seen p) o.passes ∙ b.idle.knows

  -- what came since the last meeting is none of theirs
  role_grew : (role : ℕ) → role < ender w → Grew role b.t t
  role_grew role low =
      let real : role < length rs = omega (arith, low, b.count) in
      let any = some_of rs role real in
      let rest = b.rests role any real in
      subst (λ (u : Histories). Grew role u t) rest.knows (whole_grew s (passes_of (get_or rs role any)) t role rest.fits rest.number (h.roles role any real))

  end_grew : Grew (ender w) (seen g.passes) t
  end_grew = whole_grew s g.passes t (ender w) d.fits (d.number ∙ number_end) (subst (λ (k : ℕ). AreOwned k g.passes t) b.count h.ender)

  role_own : (role : ℕ) → role < ender w → AreActs w t role (acts role)
  role_own role low =
      let real : role < length rs = omega (arith, low, b.count) in
      subst (λ (a : List Act). AreActs w t role a) (sym (acts_are role low))
      (carried w role b.t t (b.at.acts role) (role_grew role low) (b.rests role (some_of rs role real) real).own)

  end_own : AreActs w t (ender w) d.now
  end_own = carried w (ender w) (seen g.passes) t d.now end_grew (subst (λ (k : ℕ). AreActs w (seen g.passes) k d.now) number_end d.own)

  own : (role : ℕ) → role < count_roles w → AreActs w t role (acts role)
  own role low =
      ⊎_elim (λ x. subst (λ (k : ℕ). AreActs w t k (acts k)) (sym x.1) (subst (λ (a : List Act). AreActs w t (ender w) a) (sym acts_end) end_own))
      (λ x. role_own role (lower low x.1))
      (eqb_tells role (ender w))
    where
      lower : role < count_roles w → role ≢ ender w → role < ender w
      lower l n = omega (arith, l, n)

  -- by its script the end role finished what waited, and drained all buckets
  drained : ending_after w (record { queue = left_over w b.at.hands; drained = 0 }) d.now ≡ Some (record { queue = []; drained = w.layout.rows })
  drained =
      let real : recycler w < length rs = omega (arith, b.count) in
      let any = some_of rs (recycler w) real in
      d.emptied (next_queue w b.at.hands)
      (subst (λ (u : Histories). Items w u (next_queue w b.at.hands) f.waiting.items) (sym known_end)
      (subst (λ (l : List EndedFlow). Items w b.t (next_queue w b.at.hands) l) (sym (o.waiting any)) (b.waiting any)))

  scripted : AreScripted w t
  scripted = record {
    legal = whole_legal s t b.laid h.whole;
    acts = acts;
    hands = b.at.hands;
    own = own;
    work = λ role low.
        let l : role < ender w = omega (arith, low) in
        subst (λ (a : List Act). ended (stand_after w (fresh (work_of w role)) a) ≡ Some (b.at.hands role)) (sym (acts_are role l))
        (worker_over w role (b.at.acts role) (b.at.hands role) (b.at.work role low));
    manage =
        let l : manager w < ender w = omega arith in
        subst (λ (a : List Act). manager_ended w (swept_after w new_manager a) ≡ Some (b.at.hands (manager w))) (sym (acts_are (manager w) l))
        (manager_over w (b.at.acts (manager w)) (b.at.hands (manager w)) b.at.manage);
    recycle =
        let l : recycler w < ender w = omega arith in
        subst (λ (a : List Act). queue_after (waited (manager w + 1) b.at.hands (rounds w - 1)) a ≡ Some []) (sym (acts_are (recycler w) l)) b.at.recycle;
    drain = subst (λ (a : List Act). ending_after w (record { queue = left_over w b.at.hands; drained = 0 }) a ≡ Some (record { queue = []; drained = w.layout.rows })) (sym acts_end) drained;
  }

  -- what came since the last meeting is the end role's

  grew_by : HasGrownBy (ender w) b.t t
  grew_by = grown_by_last (ender w) b.t t (omega arith) role_grew (whole_roles w t (whole_legal s t b.laid h.whole))

  abbrev since : List (Entry PoolNote)
  since = grew_by.pool.0

  grew_pool : t.pool ≡ since ++ b.t.pool
  grew_pool = grew_by.pool.1

  only_end_puts : only_puts since ≡ true
  only_end_puts =
      let puts = part_puts_back (ender w) 0 d.now
      (end_puts_back w (record { queue = left_over w b.at.hands; drained = 0 }) d.now (record { queue = []; drained = w.layout.rows }) drained) in
      only_own_puts (ender w) since b.t.pool grew_by.pool.2
      (subst (λ (l : List (Entry PoolNote)). list_all (λ (x : Entry Act). puts_back x.note) (entries_of (ender w) (pool_acts l)) ≡ true) grew_pool
      (subst (λ (l : List (Entry Act)). list_all (λ (x : Entry Act). puts_back x.note) l ≡ true) (sym end_own.pool) puts))

  due : PutsAreDue t.pool
  due = end_puts w t scripted since b.t.pool grew_pool only_end_puts b.puts

  -- each role's lines
  role_told : (role : ℕ) (k : Role) → role < length rs → LinesOf w t (reverse (finished (acts role))) (lines_of (get_or rs role k).part)
  role_told role k real =
      let low : role < ender w = omega (arith, real, b.count) in
      subst (λ (a : List Act). LinesOf w t (reverse (finished a)) (lines_of (get_or rs role k).part)) (sym (acts_are role low))
      (lines_grow w b.t t (has_grown role b.t t (role_grew role low)) (reverse (finished (b.at.acts role))) (lines_of (get_or rs role k).part) (b.rests role k real).lines)

  end_lines : g.lines.items ≡ d.lines
  end_lines = d.grew ∙ ap (λ (l : List FlowLine). l ++ d.lines) (o.lines ∙ b.idle.lines)

  end_told : LinesOf w t (reverse (finished (acts (ender w)))) g.lines.items
  end_told =
      subst (λ (a : List Act). LinesOf w t (reverse (finished a)) g.lines.items) (sym acts_end)
      (subst (λ (l : List FlowLine). LinesOf w t (reverse (finished d.now)) l) (sym end_lines)
      (lines_grow w (seen g.passes) t (has_grown (ender w) (seen g.passes) t end_grew) (reverse (finished d.now)) d.lines d.told))

  all_told : LinesOf w t (all_finished acts (count_roles w)) (lines_in rs ++ g.lines.items)
  all_told =
      lines_and_last w t acts (ender w) (count_roles w) (lines_in rs) g.lines.items (omega arith)
      (lines_from w t acts rs 0 (ender w) [] (omega (arith, b.count)) tt
      (λ k j r low at. let same : k ≡ j = omega (arith, at) in subst (λ (i : ℕ). LinesOf w t (reverse (finished (acts i))) (lines_of (get_or rs k r).part)) same (role_told k r low)))
      end_told

  -- the rounds of the run are those that stood after the last one
  in_rounds : IsInRounds w t acts
  in_rounds = record { last = b.t; done = b.at.acts; cuts = b.cuts; all_done = λ role low. sym (acts_are role low); rest = grew_by }

  pub run_ended : IsRunEnd (setup_of s) t (lines_in rs ++ g.lines.items)
  unfolding scripted
  run_ended = record { lawful = record { scripted = scripted; puts = due }; rounds = in_rounds; told = all_told }
