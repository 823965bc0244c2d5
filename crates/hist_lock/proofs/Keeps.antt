-- Each step of a lock keeps its rule.
use Rattle.std.proofs.Common.{◌≡◌, ◌≢◌, ℕ, zero, suc, ◌+◌, ◌%◌, ◌^◌, ◌<◌, ⊎_elim, true, add-one, eqb, List, [], ◌∷◌, map, length, get_or, set, Option, Some, None, refl, sym, ap, ◌∙◌, subst, arith, eq-eqb, ne_eqb, length-set, get_or-set_other, get_or-set_same}
use Rattle.std.specs.Option.{is_none}
use Rattle.std.specs.List.{All}
use Rattle.std.proofs.lemmas.List.Elements.{All-cons}
use mathlib.Core.Logic.{dite}
use mathlib.Core.Option.{some, none, some-injective, some-ne-none}
use native.Mathlib.Decide.{ℕ_discrete}
use lib.ListN.{get_elem?}
use lib.Seq.{set-get_or}
use prog.Atomic.{either}
use Rattle.atomic_table.specs.Table.{step, keeps, takes, gives, Act, Valid, carried_after, stepped, Allows}
use Rattle.atomic_table.proofs.Lists.{at_set, set_again, set_else, set_here, at_map}
use Rattle.suri_base.specs.declared.entry.Entry.{Entry}
use Rattle.suri_base.specs.History.{entries_of, Begins, Legal, Follows}
use Rattle.suri_base.proofs.Histories.{begins_itself, begins_more, entries_other, may_since, entries_since}
use Rattle.hist_lock.specs.declared.view.View.{View}
use Rattle.hist_lock.specs.declared.view.Home.{Home}
use Rattle.hist_lock.specs.Passes.{IsPlain}
use Rattle.hist_lock.specs.Rule.{role_in, made_in, past_of, Sat, St, others, HasRole, HasAll, recount, turned, idle, entered, Counts, Gives, LegalIn, Rests, Fits, Kept, IsTurn, Takes}

module _ {V : Type 0} where
  pub each_set : (K : ℕ → V → Type 0) (vs : List V) (me : ℕ) (w : V) → K me w → ((j : ℕ) (d : V) → j ≢ me → get_elem? vs j ≡ some d → K j d)
      → (j : ℕ) (d : V) → get_elem? (set vs me w) j ≡ some d → K j d
  each_set K vs me w mine others j d e = ⊎_elim (λ (t : (j ≡ me) × (w ≡ d)). subst (λ (x : ℕ × V). K x.0 x.1) (λ i. (sym t.0 i, t.1 i)) mine)
      (λ (t : (j ≢ me) × (get_elem? vs j ≡ some d)). others j d t.0 t.1) (at_set vs me j w d e)

  pub set_there : (vs : List V) (i : ℕ) (a b : V) → get_elem? vs i ≡ some a → get_elem? (set vs i b) i ≡ some b
  set_there [] i a b e = absurd (some-ne-none a (sym e))
  set_there (x ∷ xs) zero a b e = refl
  set_there (x ∷ xs) (suc i) a b e = set_there xs i a b e

  pub one_value : (vs : List V) (i : ℕ) (a b : V) → get_elem? vs i ≡ some a → get_elem? vs i ≡ some b → a ≡ b
  one_value vs i a b e g = some-injective a b (sym e ∙ g)

module _ {X : Type 0} where
  pub some_is : (x y : X) → ◌≡◌ {A = Option X} (Some x) (Some y) → x ≡ y
  some_is x y e = cc

  pub not_none : (x : X) → ◌≡◌ {A = Option X} (Some x) None → ⊥
  not_none x e = cc

count_right : (found old new : ℕ) → found ≡ old → new ≡ old + 1 → old + 1 < 2 ^ 64 → (found + 1) % 2 ^ 64 ≡ new
count_right found old new is up fits = omega arith

module _ {A N C R F : Type 0} (fixed : A → F) (stands : A → List (Entry N) → Type 0) (may : F → ℕ → List (Entry N) → C → Type 0) (answers : F → List (Entry N) → ℕ → C → R → N → Type 0) (f : F) (roles : ℕ) where
  abbrev S : Type 0
  S = St A N F

  abbrev M : Type 0
  M = Sat A N F

  abbrev V : Type 0
  V = View N F

  abbrev L : Type 0
  L = List (Entry N)

  abbrev Rule : S → Type 0
  Rule = Kept fixed stands may answers f roles

  abbrev Says : L → ℕ → ℕ → (ℕ → ℕ) → ℕ → V → Type 0
  Says = Fits fixed stands may answers f roles

  abbrev held : S → ℕ
  held s = get_or s.words 0 0

  Placed : List V → (ℕ → ℕ) → Type 0
  Placed vs owner = (role : ℕ) → role < roles → (u : V) × (made : L) × (get_elem? vs (owner role) ≡ some u) × HasRole u role made

  placed_set : (vs : List V) (id : ℕ) (v w : V) (owner : ℕ → ℕ) → get_elem? vs id ≡ some v → ((role : ℕ) (made : L) → HasRole v role made → (made' : L) × HasRole w role made')
      → Placed vs owner → Placed (set vs id w) owner
  unfolding Placed
  placed_set vs id v w owner at still placed role lt = let p = placed role lt in dite (ℕ_discrete (owner role) id)
      (λ is. let same : p.0 ≡ v = one_value vs id p.0 v (ap (get_elem? vs) (sym is) ∙ p.2) at in
      let k = still role p.1 (subst (λ (u : V). HasRole u role p.1) same p.3) in
      (w, k.0, subst (λ j. get_elem? (set vs id w) j ≡ some w) (sym is) (set_there vs id v w at), k.1))
      (λ not. (p.0, p.1, set_else vs id (owner role) w not ∙ p.2, p.3))

  pub unmoved : (s : S) (r : Rule s) (i id : ℕ) (me : M) → get_elem? s.views id ≡ some me.0 → Rule (stepped s i (get_or s.words i 0) id me.1 me.0 keeps)
  unmoved s r i id me at = subst Rule (λ k. record { words = sym (set-get_or s.words i 0) k; homes = s.homes; views = sym (set_again s.views id me.0 at) k }) r

  -- a seat takes the turn
  taken : (s : S) (r : Rule s) (id : ℕ) (me : M) (h : Home A N) (role : ℕ) (made : L) → held s ≡ 0 → get_elem? s.views id ≡ some me.0 → get_elem? s.homes 0 ≡ some (some (Some h)) → (past_of h) ≡ r.log → HasRole me.0 role made
      → Rule (stepped s 0 1 id me.1 (turned me.0 (past_of h)) (takes 0 (Some h)))
  unfolding Placed
  taken s r id me h role made free at home is has =
      let w : V = turned me.0 (past_of h) in
      let wide = r.wide in
      let now : get_or (set s.words 0 1) 0 0 ≡ 1 = get_or-set_same s.words 0 1 0 (omega arith) in
      let count : get_or (set s.words 0 1) 1 0 ≡ get_or s.words 1 0 = get_or-set_other s.words 0 1 1 0 (λ e. omega arith) in
      let knew = r.each id me.0 at in record {
        log = r.log;
        turn = id;
        owner = r.owner;
        wide = length-set s.words 0 1 ∙ wide;
        binary = omega arith;
        counts = count ∙ r.counts;
        legal = r.legal;
        known = r.known;
        at_home = λ e. absurd (omega arith);
        out = λ _. set_there s.homes 0 (some (Some h)) none home;
        away = λ _. (w, set_there s.views id me.0 w at, ap (λ (l : L). Some l) is);
        placed = placed_set s.views id me.0 w r.owner at (λ role made h. (made, h)) r.placed;
        each = subst (λ (n : ℕ). (j : ℕ) (d : V) → get_elem? (set s.views id w) j ≡ some d → Says r.log n id r.owner j d) (sym now)
            (each_set (Says r.log 1 id r.owner) s.views id w
            record { same = knew.same; seen = knew.seen; noted = knew.noted; mine = knew.mine; turn_is = λ whole e. (refl, sym (some_is _ _ e) ∙ is, refl, (role, made, has)) }
            (λ j d other e. let k = r.each j d e in record { same = k.same; seen = k.seen; noted = k.noted; mine = k.mine; turn_is = λ whole g. let t = (k.turn_is whole g).0 in absurd (omega arith) }));
      }

  turn_facts : (s : S) (r : Rule s) (id : ℕ) (v : V) (h : Home A N) → get_elem? s.views id ≡ some v → Rests fixed stands may answers f r.log h → IsTurn fixed stands may answers (f, roles) v h
  turn_facts s r id v h at rests =
      let k = r.each id v at in
      let toward : (P : L → Type 0) → P r.log → P (past_of h) = λ P p. subst P (sym rests.2) p in record {
        rests = (rests.0, toward (stands h.machine.value) rests.1, refl);
        legal = toward (LegalIn fixed stands may answers f) r.legal;
        known = toward (All (λ (e : Entry N). e.role < roles)) r.known;
        seen = toward (Begins v.seen) k.seen;
        noted = λ n l e. toward (Begins l) (k.noted n l e);
        mine = λ role made has. let m = k.mine role made has in (m.0, toward (λ l. entries_of role l ≡ made) m.2, m.3);
      }

  -- a seat with every role has the turn, if any has it
  none_other : (s : S) (r : Rule s) (id : ℕ) (v : V) → get_elem? s.views id ≡ some v → v.whole ≡ None → held s ≡ 1 → HasAll v roles → ⊥
  none_other s r id v at free busy all =
      let a = r.away busy in
      let k = r.each r.turn a.0 a.1 in
      let t = (k.turn_is r.log a.2).3 in
      let m = k.mine t.0 t.1 t.2 in
      let mine = all t.0 m.0 in
      let here = ((r.each id v at).mine t.0 mine.0 mine.1).1 in
      let one : r.turn ≡ id = sym m.1 ∙ here in
      let same : a.0 ≡ v = one_value s.views id a.0 v (ap (get_elem? s.views) (sym one) ∙ a.1) at in
      not_none r.log (sym a.2 ∙ (ap (λ (u : V). u.whole) same ∙ free))

  pub takes_turn : (slots id : ℕ) (me : M) (role : ℕ) (made : L) → HasRole me.0 role made → me.0.whole ≡ None
      → Allows Rule slots id me 0 (λ x. either (eqb x 0) 1 x) (Takes fixed stands may answers (step slots 0 0 1 none) me)
  takes_turn slots id me role made has free s r _ at _ = let same = (r.each id me.0 at).same in let small = r.binary in dite (ℕ_discrete (held s) 0)
      (λ hit. let home = r.at_home hit in let h : Home A N = home.0 in let rests = home.2 in let w : V = turned me.0 (past_of h) in (
        w,
        takes 0 (Some h),
        home.1,
        subst (λ b. Rule (stepped s 0 (either b 1 (held s)) id me.1 w (takes 0 (Some h)))) (sym (eq-eqb (held s) 0 hit)) (taken s r id me h role made hit at home.1 rests.2 has),
        λ a is. ((λ _. (h, refl, subst (λ (z : F × ℕ). IsTurn fixed stands may answers z me.0 h) (sym (same a is)) (turn_facts s r id me.0 h at rests))), λ no. absurd (no hit)),
      ))
      (λ miss. (
        me.0,
        keeps,
        tt,
        subst (λ b. Rule (stepped s 0 (either b 1 (held s)) id me.1 me.0 keeps)) (sym (ne_eqb (held s) 0 miss)) (unmoved s r 0 id me at),
        λ a is. ((λ hit. absurd (miss hit)), λ _. (refl, λ all. none_other s r id me.0 at free (omega arith) (subst (λ (z : F × ℕ). HasAll me.0 z.1) (same a is) all))),
      ))

  map_role : (log : L) (rs : List (ℕ × L)) (k role : ℕ) (made : L) → get_elem? (map (recount log) rs) k ≡ some (role, made)
      → (old : L) × (get_elem? rs k ≡ some (role, old)) × (made ≡ entries_of role log)
  map_role log [] k role made e = absurd (some-ne-none (role, made) (sym e))
  map_role log (x ∷ xs) zero role made e = let same = some-injective (recount log x) (role, made) e in
      (x.1, (λ i. let pair : ℕ × L = ((same i).0, x.1) in some pair), sym (λ i. (same i).1) ∙ ap (λ (n : ℕ). entries_of n log) (λ i. (same i).0))
  map_role log (x ∷ xs) (suc k) role made e = map_role log xs k role made e

  -- an entry is counted
  pub counts_entry : (slots id : ℕ) (v : V) (h : Home A N) (log : L) (e : Entry N) (made : L) → v.whole ≡ Some log → (past_of h) ≡ e ∷ log → HasRole v e.role made
      → Follows (may f) (answers f) log e → length log + 1 < 2 ^ 64
      → Allows Rule slots id (v, (0, Some h) ∷ []) 1 (λ x. (x + 1) % 2 ^ 64) (Counts (step slots 1 1 0 none) (v, (0, Some h) ∷ []))
  unfolding Placed
  counts_entry slots id v h log e made has_turn is has follows fits s r _ at _ =
      let knew = r.each id v at in
      let t = knew.turn_is log has_turn in
      let busy : held s ≡ 1 = t.0 in
      let same : log ≡ r.log = t.1 in
      let mine = knew.mine e.role made has in
      let new : L = (past_of h) in
      let w : V = entered v new in
      let wide = r.wide in
      let before = r.counts in
      let grown : new ≡ e ∷ r.log = is ∙ ap (λ (l : L). e ∷ l) same in
      let longer : length new ≡ length r.log + 1 = ap length grown ∙ sym (add-one (length r.log)) in
      let n : ℕ = (get_or s.words 1 0 + 1) % 2 ^ 64 in
      let right : n ≡ length new = count_right (get_or s.words 1 0) (length r.log) (length new) r.counts longer (subst (λ (l : L). length l + 1 < 2 ^ 64) same fits) in
      let still : get_or (set s.words 1 n) 0 0 ≡ held s = get_or-set_other s.words 1 0 n 0 (λ e. omega arith) in
      let there : get_or (set s.words 1 n) 1 0 ≡ n = get_or-set_same s.words 1 n 0 (omega arith) in
      let toward : (P : L → Type 0) → P (e ∷ r.log) → P new = λ P p. subst P (sym grown) p in
      let further : (xs : L) → Begins xs r.log → Begins xs new = λ xs b. toward (Begins xs) (begins_more xs r.log e b) in
      let all_known : All (λ (x : Entry N). x.role < roles) new = toward (All (λ (x : Entry N). x.role < roles)) (All-cons (λ (x : Entry N). x.role < roles) e r.log mine.0 r.known) in (
        w,
        keeps,
        tt,
        record {
          log = new;
          turn = r.turn;
          owner = r.owner;
          wide = length-set s.words 1 n ∙ wide;
          binary = omega arith;
          counts = there ∙ right;
          legal = toward (LegalIn fixed stands may answers f) (subst (λ (l : L). Follows (may f) (answers f) l e) same follows, r.legal);
          known = all_known;
          at_home = λ z. absurd (omega arith);
          out = λ _. r.out busy;
          away = λ _. (w, subst (λ (j : ℕ). get_elem? (set s.views id w) j ≡ some w) t.2 (set_there s.views id v w at), refl);
          placed = placed_set s.views id v w r.owner at (λ role old g. (entries_of role new, (g.0, at_map (recount new) v.roles g.0 (role, old) g.1))) r.placed;
          each = subst (λ (x : ℕ). (j : ℕ) (d : V) → get_elem? (set s.views id w) j ≡ some d → Says new x r.turn r.owner j d) (sym still)
              (each_set (Says new (held s) r.turn r.owner) s.views id w
              record {
                same = knew.same;
                seen = begins_itself new;
                noted = λ k l g. further l (knew.noted k l g);
                mine = λ role made' g. let m = map_role new v.roles g.0 role made' g.1 in let o = knew.mine role m.0 (g.0, m.1) in (o.0, o.1, sym m.2, sym m.2);
                turn_is = λ whole g. (busy, sym (some_is _ _ g), t.2, (e.role, entries_of e.role new, (has.0, at_map (recount new) v.roles has.0 (e.role, made) has.1)));
              }
              (λ j d other g. let k = r.each j d g in record {
                same = k.same;
                seen = further d.seen k.seen;
                noted = λ i l x. further l (k.noted i l x);
                mine = λ role made' x. let o = k.mine role made' x in let apart : e.role ≢ role = λ p. other (sym o.1 ∙ (ap r.owner (sym p) ∙ mine.1)) in
                    (o.0, o.1, toward (λ l. entries_of role l ≡ made') (entries_other role r.log e apart ∙ o.2), o.3);
                turn_is = λ whole x. let p = k.turn_is whole x in absurd (other (p.2 ∙ sym t.2));
              }));
        },
        refl,
      )

  -- the turn is given back
  pub gives_turn : (id : ℕ) (v : V) (h : Home A N) → v.whole ≡ Some (past_of h) → fixed h.machine.value ≡ f → stands h.machine.value (past_of h)
      → Allows Rule 1 id (v, (0, Some h) ∷ []) 0 (λ _. 0) (Gives (step 1 0 0 0 none) (v, (0, Some h) ∷ []))
  unfolding Placed
  gives_turn id v h has_turn right stood s r one at _ =
      let knew = r.each id v at in
      let t = knew.turn_is (past_of h) has_turn in
      let same : (past_of h) ≡ r.log = t.1 in
      let w : V = idle v in
      let wide = r.wide in
      let now : get_or (set s.words 0 0) 0 0 ≡ 0 = get_or-set_same s.words 0 0 0 (omega arith) in
      let count : get_or (set s.words 0 0) 1 0 ≡ get_or s.words 1 0 = get_or-set_other s.words 0 1 0 0 (λ e. omega arith) in (
        w,
        gives,
        tt,
        record {
          log = r.log;
          turn = r.turn;
          owner = r.owner;
          wide = length-set s.words 0 0 ∙ wide;
          binary = omega arith;
          counts = count ∙ r.counts;
          legal = r.legal;
          known = r.known;
          at_home = λ _. (h, set_here s.homes 0 (some (Some h)) (omega arith), (right, subst (stands h.machine.value) same stood, same));
          out = λ e. absurd (omega arith);
          away = λ e. absurd (omega arith);
          placed = placed_set s.views id v w r.owner at (λ role made g. (made, g)) r.placed;
          each = subst (λ (x : ℕ). (j : ℕ) (d : V) → get_elem? (set s.views id w) j ≡ some d → Says r.log x r.turn r.owner j d) (sym now)
              (each_set (Says r.log 0 r.turn r.owner) s.views id w
              record { same = knew.same; seen = knew.seen; noted = knew.noted; mine = knew.mine; turn_is = λ whole g. absurd (not_none whole (sym g)) }
              (λ j d other g. let k = r.each j d g in record { same = k.same; seen = k.seen; noted = k.noted; mine = k.mine; turn_is = λ whole x. absurd (other ((k.turn_is whole x).2 ∙ sym t.2)) }));
        },
        refl,
      )

  pub counts_carried : (slots id : ℕ) (me : M) (h : Home A N) (log : L) (e : Entry N) (made : L) → me.1 ≡ (0, Some h) ∷ [] → me.0.whole ≡ Some log → (past_of h) ≡ e ∷ log → HasRole me.0 e.role made
      → Follows (may f) (answers f) log e → length log + 1 < 2 ^ 64
      → Allows Rule slots id me 1 (λ x. (x + 1) % 2 ^ 64) (Counts (step slots 1 1 0 none) me)
  counts_carried slots id me h log e made carried has_turn is has follows fits =
      subst (λ (c : List (ℕ × Option (Home A N))). Allows Rule slots id (me.0, c) 1 (λ x. (x + 1) % 2 ^ 64) (Counts (step slots 1 1 0 none) (me.0, c))) (sym carried)
      (counts_entry slots id me.0 h log e made has_turn is has follows fits)

  pub gives_carried : (slots id : ℕ) (me : M) (h : Home A N) → slots ≡ 1 → me.1 ≡ (0, Some h) ∷ [] → me.0.whole ≡ Some (past_of h) → fixed h.machine.value ≡ f → stands h.machine.value (past_of h)
      → Allows Rule slots id me 0 (λ _. 0) (λ _. Gives (step slots 0 0 0 none) me 0)
  gives_carried slots id me h one carried has_turn right stood s r many at small =
      let t = gives_turn id me.0 h has_turn right stood s r (many ∙ one) at small in
      let P : List (ℕ × Option (Home A N)) → Type 0 = λ c. (w : V) × (a : Act (Option (Home A N))) × Valid s.homes c a × Rule (stepped s 0 0 id c w a) × Gives (step slots 0 0 0 none) (me.0, c) (held s) (w, carried_after c a) in
      subst P (sym carried) (t.0, t.1, t.2, t.3, t.4)

  -- a role that has the turn may make the call that it might make at what it had seen
  pub may_now : ((role : ℕ) (list : L) (e : Entry N) (call : C) → e.role ≢ role → Legal (may f) (answers f) (e ∷ list) → may f role list call → may f role (e ∷ list) call)
      → (v : V) (h : Home A N) (role : ℕ) (made : L) (call : C) → IsTurn fixed stands may answers (f, roles) v h → HasRole v role made → may f role v.seen call → may f role (past_of h) call
  may_now stays v h role made call turn has ok =
      let b = turn.seen in
      let m = turn.mine role made has in
      let none = entries_since role b.0 v.seen (sym (ap (entries_of role) b.1) ∙ (m.1 ∙ sym m.2)) in
      subst (λ (l : L). may f role l call) (sym b.1) (may_since (may f) (answers f) stays role call b.0 v.seen (subst (Legal (may f) (answers f)) b.1 turn.legal) none ok)

-- one entry more, of a role of the lock
pub known_more : {N : Type 0} (roles : ℕ) (e : Entry N) (past new : List (Entry N)) → new ≡ e ∷ past → e.role < roles → All (λ d. d.role < roles) past → All (λ d. d.role < roles) new
known_more {N} roles e past new is low all = subst (All (λ (d : Entry N). d.role < roles)) (sym is) (All-cons (λ (d : Entry N). d.role < roles) e past low all)

module _ {X : Type 0} where
  pub none_long : (xs : List X) → length xs ≡ 0 → xs ≡ []
  none_long [] e = refl
  none_long (x ∷ xs) e = absurd (omega arith)

  pub none_there : (o : Option X) → is_none o ≡ true → o ≡ None
  none_there None e = refl
  none_there (Some x) e = cc

one_role : {N : Type 0} (rs : List (ℕ × List (Entry N))) → length rs ≡ 1 → get_elem? rs 0 ≡ some (role_in rs, made_in rs)
one_role [] e = absurd (omega arith)
one_role (x ∷ xs) e = refl

recounted : {N : Type 0} (rs : List (ℕ × List (Entry N))) (log : List (Entry N)) → length rs ≡ 1 → map (recount log) rs ≡ (role_in rs, entries_of (role_in rs) log) ∷ []
recounted [] log e = absurd (omega arith)
recounted (x ∷ []) log e = refl
recounted (x ∷ y ∷ ys) log e = absurd (omega arith)

module _ {A N F : Type 0} where
  -- a pass has its role
  pub plain_role : (me : Sat A N F) (role seen : ℕ) → IsPlain me role seen → HasRole me.0 role (made_in me.0.roles)
  plain_role me role seen plain = (0, one_role me.0.roles plain.1 ∙ (λ i. let pair : ℕ × List (Entry N) = (plain.2 i, made_in me.0.roles) in some pair))

  -- it is a pass again when its entry is counted
  pub plain_again : (me : Sat A N F) (role seen n : ℕ) (log : List (Entry N)) → IsPlain me role seen → n ≡ length log → IsPlain {A = A} (idle (entered me.0 log), []) role n
  plain_again me role seen n log plain is = let all = recounted me.0.roles log plain.1 in
      (refl, ap length all, ap role_in all ∙ plain.2, refl, sym is)

  pub made_again : (me : Sat A N F) (role seen : ℕ) (log : List (Entry N)) → IsPlain me role seen → made_in (entered me.0 log).roles ≡ entries_of role log
  made_again me role seen log plain = ap made_in (recounted me.0.roles log plain.1) ∙ ap (λ (r : ℕ). entries_of r log) plain.2

  -- a turn that was given back with nothing counted has left the view
  pub idle_again : (me : Sat A N F) (role seen : ℕ) (log : List (Entry N)) → IsPlain me role seen → (idle (turned me.0 log), []) ≡ me
  idle_again me role seen log plain = λ i. (record me.0 { whole = sym (none_there me.0.whole plain.3) i }, sym (none_long me.1 plain.0) i)
