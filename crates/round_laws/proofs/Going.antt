-- From one round to the next. What each role did in the round is chosen for its number, and so is what its script left in its hand; these are put
-- in front of what was known before. Then every part of what holds between two rounds is had of the longer histories: the roles' own acts by their
-- scripts, the rules of the locks by what the end role has seen, and what waits by the hands that were handed on.
use Rattle.std.proofs.Common.{◌≡◌, ℕ, zero, suc, ◌+◌, ◌-◌, ◌<◌, ◌≤◌, List, [], ◌∷◌, ◌++◌, length, get_or, Some, ⊎_elim, refl, sym, ◌∙◌, ap, subst, arith, append-nil, All}
use Rattle.std.proofs.lemmas.Bool.Decides.{eqb_tells}
use Rattle.bucket_laws.specs.Leaving.{Gone}
use Rattle.flow_bucket.specs.Fixing.{legal_is}
use Rattle.flow_object.specs.Ending.{EndedFlow}
use Rattle.lock_rows.proofs.Placed.{any_default}
use Rattle.role_meets.specs.Meets.{Informed, MetAll}
use Rattle.role_meets.specs.Parts.{Kind, hand_of, kind_at, kind_of, waiting_of}
use Rattle.role_meets.specs.declared.roles.Role.{Role}
use Rattle.role_steps.specs.Items.{Items}
use Rattle.role_steps.specs.Roles.{seen, setup_of}
use Rattle.role_steps.specs.declared.roles.Recycler.{Recycler}
use Rattle.role_steps.specs.declared.roles.Shared.{Shared}
use Rattle.round_laws.proofs.Choosing.{Chosen, chosen}
use Rattle.round_laws.proofs.Cutting.{next_cut}
use Rattle.round_laws.proofs.Few.{first_queue}
use Rattle.round_laws.proofs.Parts.{recycler_kind}
use Rattle.round_laws.proofs.Queues.{items_in, waits_next}
use Rattle.round_laws.proofs.Resting.{rests_part}
use Rattle.round_laws.proofs.Seen.{seen_answers, seen_roles, some_of}
use Rattle.round_laws.proofs.Stepping.{Steps, came, items_on, rests_on, stepped}
use Rattle.round_laws.specs.Between.{Between, IsIdle, Rests}
use Rattle.round_laws.specs.Playing.{AllPlayed, AreHandedOn, hands_in, waits_for}
use Rattle.run_laws.proofs.Parts.{met}
use Rattle.run_laws.proofs.Rounded.{puts_first, puts_go_on}
use Rattle.run_laws.specs.RoundEnd.{IsRoundEnd, next_queue}
use Rattle.run_rules.specs.Acts.{Act, AreActs}
use Rattle.run_rules.specs.Growing.{HasGrown}
use Rattle.run_rules.specs.Histories.{Histories, bucket_at}
use Rattle.run_rules.specs.Lawful.{PutsAreDue, gathered, nth, waited}
use Rattle.run_rules.specs.Rounds.{SweptRounds}
use Rattle.run_rules.specs.Serving.{queue_after}
use Rattle.run_rules.specs.Setup.{Setup, ender, fixed_at, manager, recycler, roles, rounds}
use Rattle.suri_base.specs.declared.entry.Entry.{Entry}
use Rattle.suri_base.specs.declared.entry.PoolNote.{PoolNote}

-- the rule on puts, from the end of one round to the end of the next
puts_on : (w : Setup) (old new : Histories) (r : ℕ) → suc r ≤ rounds w → (l : IsRoundEnd w old r) → (m : IsRoundEnd w new (suc r)) → (h : ℕ → List Gone)
    → ((role : ℕ) → role < manager w + 1 → m.hands role ≡ h role ∷ l.hands role) → (since : List (Entry PoolNote)) → new.pool ≡ since ++ old.pool → PutsAreDue old.pool → PutsAreDue new.pool
puts_on w old new zero p l m h e since g due = puts_first w new m
puts_on w old new (suc r) p l m h e since g due = puts_go_on w old new r p l m h e since g due

first_none : (w : Setup) (t : Histories) (r : ℕ) (l : IsRoundEnd w t r) → r ≡ 0 → next_queue w l.hands ≡ []
first_none w t zero l e = first_queue w t l
first_none w t (suc r) l e = absurd (omega (arith, e))

module _
    (s : Shared)
    (round : ℕ)
    (begun played met_all handed : List Role)
    (e f : Recycler)
    (b : Between s round begun e)
    (low : round < rounds (setup_of s))
    (all : AllPlayed s round begun played)
    (m : MetAll s played met_all e f)
    (h : AreHandedOn met_all handed)
  where
    abbrev w : Setup
    w = setup_of s

    abbrev old : Histories
    old = b.t

    abbrev new : Histories
    new = seen f.passes

    abbrev count : ℕ
    count = s.layout.workers + 2

    -- any role, where one has to be named
    any : Role
    any = some_of begun 0 (omega (arith, b.count))

    long_played : length played ≡ count
    long_played = all.count ∙ b.count

    long_met : length met_all ≡ count
    long_met = m.count ∙ long_played

    long_handed : length handed ≡ count
    long_handed = h.count ∙ long_met

    -- what role k did, and what it left in its hand
    abbrev Did : ℕ → List Act × List Gone → Type 0
    Did k x = Steps s b.laid old round b.at k (get_or played k any).part x.0 x.1

    did : (k : ℕ) → k < count → (x : List Act × List Gone) × Did k x
    did k real =
        let here : k < length begun = omega (arith, real, b.count) in
        stepped s b.laid old round b.at k (get_or begun k any).part (get_or played k any).part real
        (rests_part s old k (b.at.acts k) (get_or begun k any) (b.rests k any here))
        (λ is. subst (λ (n : ℕ). Items w old (next_queue w b.at.hands) (waiting_of (get_or begun n any).part)) (sym is) (b.waiting any))
        (all.played k any here)

    abbrev DidAll : Type 0
    DidAll = Chosen Did ([], []) count

    all_did : DidAll
    all_did = chosen Did ([], []) count did

    module _ (c : DidAll) where
      abbrev acts : ℕ → List Act
      acts k = (c.choice k).0 ++ b.at.acts k

      abbrev left : ℕ → List Gone
      left k = (c.choice k).1

      abbrev hands : ℕ → List (List Gone)
      hands k = left k ∷ b.at.hands k

      told : (k : ℕ) → k < count → Informed s new (get_or played k any) (get_or met_all k any)
      told k real = m.roles k any (omega (arith, real, long_played))

      rests_at : (k : ℕ) → k < count → Rests s new k (acts k) (get_or handed k any)
      rests_at k real =
          rests_on s old new round k (b.at.acts k) (b.at.hands k) (came s b.laid old round b.at) (get_or played k any) (get_or met_all k any) (c.choice k).0 (left k) (c.holds k real) (told k real)
          (hands_in met_all) (get_or handed k any) (h.roles k any (omega (arith, real, long_met))) (all.well k any (omega (arith, real, b.count)))

      -- the end role has done nothing

      ender_none : acts (ender w) ≡ []
      ender_none = ap (λ (x : List Act × List Gone). x.0 ++ b.at.acts (ender w)) (c.beyond (ender w) (omega arith)) ∙ b.at.drain

      ender_own : AreActs w new (ender w) []
      ender_own =
          let before = subst (λ (n : ℕ). AreActs w (seen e.passes) n []) (sym b.idle.number) (subst (λ (x : Histories). AreActs w x (ender w) []) (sym b.idle.knows) b.idle.own) in
          subst (λ (n : ℕ). AreActs w new n []) b.idle.number (m.ender.acts [] before)

      idle : IsIdle s new f
      idle = record {
        fits = m.ender.fits;
        number = m.ender.number ∙ b.idle.number;
        knows = refl;
        own = ender_own;
        step = m.ender.step ∙ b.idle.step;
        waiting = m.waiting ∙ b.idle.waiting;
        lines = m.lines ∙ b.idle.lines;
      }

      own : (role : ℕ) → role < roles w → AreActs w new role (acts role)
      own role real = ⊎_elim
          (λ is. subst (λ (n : ℕ). AreActs w new n (acts n)) (sym is.1) (subst (λ (l : List Act). AreActs w new (ender w) l) (sym ender_none) ender_own))
          (λ not. (rests_at role (omega (arith, real, not.1))).own)
          (eqb_tells role (ender w))

      manage : SweptRounds w (suc round) (acts (manager w)) (hands (manager w))
      manage = (c.holds (manager w) (omega arith)).manage refl

      recycle : queue_after (waited (manager w + 1) hands (suc round - 1)) (acts (recycler w)) ≡ Some []
      recycle =
          subst (λ (l : List Gone). queue_after l (acts (recycler w)) ≡ Some []) (sym (waits_next left b.at.hands hands (manager w + 1) round (λ role real. refl) (first_none w old round b.at)))
          ((c.holds (recycler w) (omega arith)).recycle refl).0

      abbrev ended : IsRoundEnd w new (suc round)
      ended = record {
        pool_roles = subst (λ (n : ℕ). All (λ (x : Entry PoolNote). x.role < n) new.pool) b.laid.locks.pool m.ender.fits.pool.pass_of.known;
        bucket_roles = λ k real. seen_roles s f.passes m.ender.fits k real (s.layout.workers + 3) b.laid.locks;
        buckets = λ k real. legal_is (fixed_at w k) (bucket_at k new.buckets) (seen_answers s f.passes m.ender.fits k real b.laid.shared);
        acts = acts;
        hands = hands;
        own = λ role real. met w new role (acts role) (own role real);
        work = λ role real. (c.holds role (omega (arith, real))).work real;
        manage = manage;
        recycle = recycle;
        drain = ender_none;
      }

      -- what waits now

      last_none : left (recycler w) ≡ []
      last_none = ((c.holds (recycler w) (omega arith)).recycle refl).1

      queue_same : gathered (length met_all) hands 0 ≡ next_queue w hands
      queue_same =
          let long : length met_all ≡ suc (manager w + 1) = omega (arith, long_met) in
          let at : manager w + 1 ≡ recycler w = omega arith in
          ap (λ (n : ℕ). gathered n hands 0) long
          ∙ (ap (λ (n : ℕ). gathered (manager w + 1) hands 0 ++ left n) at
          ∙ (ap (λ (l : List Gone). gathered (manager w + 1) hands 0 ++ l) last_none ∙ append-nil (gathered (manager w + 1) hands 0)))

      gathered_items : Items w new (next_queue w hands) (hands_in met_all)
      gathered_items = subst (λ (g : List Gone). Items w new g (hands_in met_all)) queue_same (items_in w new met_all hands one)
        where
          one : (k : ℕ) (d : Role) → k < length met_all → Items w new (nth 0 (hands k)) (hand_of (get_or met_all k d).part)
          one k d real =
              let here : k < count = omega (arith, real, long_met) in
              subst (λ (r : Role). Items w new (left k) (hand_of r.part)) (any_default met_all k any d real)
              (items_on s old new round k (b.at.acts k) (b.at.hands k) (came s b.laid old round b.at) (get_or played k any) (get_or met_all k any) (c.choice k).0 (left k)
              (c.holds k here) (told k here))

      waiting : (d : Role) → Items w new (next_queue w hands) (waiting_of (get_or handed (recycler w) d).part)
      waiting d =
          let real : recycler w < count = omega arith in
          let o = h.roles (recycler w) any (omega (arith, real, long_met)) in
          let kind : kind_of (get_or met_all (recycler w) any).part ≡ kind_at s.layout.workers (recycler w) = (told (recycler w) real).same.kind ∙ (c.holds (recycler w) real).kind in
          let whole : waiting_of (get_or handed (recycler w) any).part ≡ hands_in met_all =
          o.waiting ∙ ap (λ (x : Kind). waits_for x (hands_in met_all)) (kind ∙ recycler_kind s.layout.workers) in
          subst (λ (r : Role). Items w new (next_queue w hands) (waiting_of r.part)) (any_default handed (recycler w) any d (omega (arith, real, long_handed)))
          (subst (λ (l : List EndedFlow). Items w new (next_queue w hands) l) (sym whole) gathered_items)

      grown : HasGrown old new
      grown = subst (λ (x : Histories). HasGrown x new) b.idle.knows m.ender.grown

      between : Between s (suc round) handed f
      between = record {
        laid = b.laid;
        within = omega (arith, low);
        count = long_handed;
        t = new;
        at = ended;
        cuts = next_cut w old new round b.at.acts acts b.cuts (record { at = ended; acts_are = λ role. refl; own = own }) grown (λ role. ((c.choice role).0, refl));
        rests = λ k d real. let here : k < count = omega (arith, real, long_handed) in subst (λ (r : Role). Rests s new k (acts k) r) (any_default handed k any d real) (rests_at k here);
        idle = idle;
        puts = puts_on w old new round (omega (arith, low)) b.at ended left (λ role real. refl) grown.pool.0 grown.pool.1 b.puts;
        waiting = waiting;
      }

    pub goes_on : Between s (suc round) handed f
    goes_on = between all_did
