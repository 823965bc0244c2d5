-- The steps that make seats and join them keep the rule, and so does the look at the length.
use Rattle.std.proofs.Common.{◌≡◌, ◌≢◌, ℕ, zero, suc, ◌+◌, ◌-◌, ◌≤◌, ◌<◌, ◌⊎◌, inl, inr, ⊎_elim, Bool, true, false, cond, eqb, ltb, List, [], ◌∷◌, ◌++◌, map, reverse, length, get_or, set, Option, Some, None, refl, sym, ap, ◌∙◌, subst, arith, eq-eqb, ne_eqb, length-append, add-one, add-zero, zero-add}
use mathlib.Core.List.{map-append, append-nil}
use Rattle.std.specs.List.{All}
use Rattle.std.proofs.lemmas.List.Elements.{All-push, All-same, All-nil, All-head, All-tail}
use Rattle.std.proofs.lemmas.Bool.Decides.{nat_tests}
use mathlib.Core.Logic.{dite}
use mathlib.Core.Option.{some, none, some-injective, some-ne-none}
use native.Mathlib.Decide.{ℕ_discrete}
use lib.ListN.{get_elem?}
use Rattle.atomic_table.specs.Table.{step, keeps, Allows, Splits, Joins, opening}
use Rattle.atomic_table.proofs.Lists.{at_set, set_else, at_longer, at_last}
use Rattle.suri_base.specs.declared.entry.Entry.{Entry}
use Rattle.suri_base.specs.History.{Begins}
use Rattle.suri_base.proofs.Histories.{begins_both, begins_whole, entries_between, legal_beginning}
use Rattle.hist_lock.specs.declared.view.View.{View}
use Rattle.hist_lock.specs.declared.view.Home.{Home}
use Rattle.hist_lock.specs.Passes.{IsPlain}
use Rattle.hist_lock.specs.Locks.{numbers}
use Rattle.hist_lock.specs.Rule.{past_of, Heard, Sat, St, blanks, longer, firsts, others, newcomer, undealt, Has, HasRole, part, joined, spent, witness, first_role, other_roles, LegalIn, Fits, Kept, IsTurn, Checks}
use Rattle.hist_lock.proofs.Keeps.{set_there, one_value, some_is, not_none, unmoved}

module _ {V : Type 0} where
  at_end : (l : List V) (a b : V) (j : ℕ) → get_elem? (l ++ a ∷ []) j ≡ some b → (get_elem? l j ≡ some b) ⊎ ((j ≡ length l) × (a ≡ b))
  at_end [] a b zero e = inr (refl, some-injective a b e)
  at_end [] a b (suc j) e = absurd (some-ne-none b (sym e))
  at_end (x ∷ xs) a b zero e = inl e
  at_end (x ∷ xs) a b (suc j) e = ⊎_elim inl (λ (t : (j ≡ length xs) × (a ≡ b)). inr (ap suc t.0, t.1)) (at_end xs a b j e)

  at_below : (l : List V) (j : ℕ) (b : V) → get_elem? l j ≡ some b → j < length l
  at_below [] j b e = absurd (some-ne-none b (sym e))
  at_below (x ∷ xs) zero b e = omega arith
  at_below (x ∷ xs) (suc j) b e = let h = at_below xs j b e in omega arith

  set_length : (l : List V) (i : ℕ) (a : V) → length (set l i a) ≡ length l
  set_length [] i a = refl
  set_length (x ∷ xs) zero a = refl
  set_length (x ∷ xs) (suc i) a = ap suc (set_length xs i a)

module _ {N : Type 0} where
  has_left : (xs ys : List (ℕ × List (Entry N))) (role : ℕ) (made : List (Entry N)) → Has xs role made → Has (xs ++ ys) role made
  has_left xs ys role made h = (h.0, at_longer xs ys h.0 (role, made) h.1)

  has_right : (xs ys : List (ℕ × List (Entry N))) (role : ℕ) (made : List (Entry N)) → Has ys role made → Has (xs ++ ys) role made
  has_right [] ys role made h = h
  has_right (x ∷ xs) ys role made h = let t = has_right xs ys role made h in (suc t.0, t.1)

  has_either : (xs ys : List (ℕ × List (Entry N))) (role : ℕ) (made : List (Entry N)) → Has (xs ++ ys) role made → Has xs role made ⊎ Has ys role made
  has_either [] ys role made h = inr h
  has_either (x ∷ xs) ys role made (zero, e) = inl (0, e)
  has_either (x ∷ xs) ys role made (suc k, e) = ⊎_elim (λ (t : Has xs role made). inl (suc t.0, t.1)) inr (has_either xs ys role made (k, e))

  pub longer_is : (P : List (Entry N) → Type 0) (xs ys : List (Entry N)) → P xs → P ys → P (longer xs ys)
  longer_is P xs ys p q = elim (ltb (length xs) (length ys)) as (λ b. P (cond b ys xs)) [ true ↦ q | false ↦ p ]

  pub longer_first : (xs ys : List (Entry N)) → length xs ≤ length (longer xs ys)
  longer_first xs ys = grind (arith, nat_tests)

  pub longer_second : (xs ys : List (Entry N)) → length ys ≤ length (longer xs ys)
  longer_second xs ys = grind (arith, nat_tests)

  -- of two histories of which the first begins the second, the second is the longer one
  pub longer_begun : (xs ys : List (Entry N)) → Begins xs ys → longer xs ys ≡ ys
  longer_begun xs ys b = either (ltb (length xs) (length ys)) (λ same. begins_whole xs ys b (grind (arith, nat_tests, same)))
    where
      either : (t : Bool) → (t ≡ false → xs ≡ ys) → cond t ys xs ≡ ys
      either true whole = refl
      either false whole = whole refl

  blank_at : (from n k role : ℕ) (made : List (Entry N)) → get_elem? (blanks from n) k ≡ some (role, made) → (made ≡ []) × (role ≡ from + k) × (k < n)
  blank_at from zero k role made e = absurd (some-ne-none (role, made) (sym e))
  blank_at from (suc n) zero role made e = let same : ◌≡◌ {A = ℕ × List (Entry N)} (from, []) (role, made) = some-injective (from, []) (role, made) e in
      let r : from ≡ role = λ i. (same i).0 in (sym (λ i. (same i).1), omega arith, omega arith)
  blank_at from (suc n) (suc k) role made e = let t = blank_at (suc from) n k role made e in let r = t.1 in let l = t.2 in (t.0, omega arith, omega arith)

  blank_there : (from n k : ℕ) → k < n → get_elem? (blanks {N = N} from n) k ≡ some (from + k, [])
  blank_there from zero k h = absurd (omega arith)
  blank_there from (suc n) zero h = λ i. let pair : ℕ × List (Entry N) = (first_sum from i, []) in some pair
    where
      first_sum : (n : ℕ) → n ≡ n + 0
      first_sum n = omega arith
  blank_there from (suc n) (suc k) h = blank_there (suc from) n k (omega arith) ∙ (λ i. let pair : ℕ × List (Entry N) = (next_sum from k i, []) in some pair)
    where
      next_sum : (n k : ℕ) → suc n + k ≡ n + suc k
      next_sum n k = omega arith

gap : (n k : ℕ) → k < n → n - k ≡ suc (n - suc k)
gap n k h = omega arith

module _ {A N C R F : Type 0} (fixed : A → F) (stands : A → List (Entry N) → Type 0) (may : F → ℕ → List (Entry N) → C → Type 0) (answers : F → List (Entry N) → ℕ → C → R → N → Type 0) (f : F) (roles : ℕ) where
  abbrev S : Type 0
  S = St A N F

  abbrev M : Type 0
  M = Sat A N F

  abbrev V : Type 0
  V = View N F

  abbrev L : Type 0
  L = List (Entry N)

  abbrev Rule : S → Type 0
  Rule = Kept fixed stands may answers f roles

  abbrev Says : L → ℕ → ℕ → (ℕ → ℕ) → ℕ → V → Type 0
  Says = Fits fixed stands may answers f roles

  abbrev held : S → ℕ
  held s = get_or s.words 0 0

  -- the first seat of a new table has every role
  pub opens : (h : Home A N) → fixed h.machine.value ≡ f → stands h.machine.value [] → h.entries.items ≡ [] → Rule (opening (0 ∷ 0 ∷ []) (Some h ∷ []) (newcomer f roles))
  opens h right stood empty = record {
    log = [];
    turn = 0;
    owner = λ _. 0;
    wide = refl;
    binary = omega arith;
    counts = refl;
    legal = tt;
    known = All-nil (λ (e : Entry N). e.role < roles);
    at_home = λ _. (h, refl, (right, stood, ap reverse empty));
    out = λ e. absurd (omega arith);
    away = λ e. absurd (omega arith);
    placed = λ role lt. (newcomer f roles, [], refl, (role, blank_there 0 roles role lt ∙ (λ i. let pair : ℕ × L = (zero_sum role i, []) in some pair)));
    each = first_says;
  }
    where
      zero_sum : (n : ℕ) → 0 + n ≡ n
      zero_sum n = omega arith

      first_says : (j : ℕ) (d : V) → get_elem? (newcomer {N = N} f roles ∷ []) j ≡ some d → Says [] 0 0 (λ _. 0) j d
      first_says zero d e = subst (Says [] 0 0 (λ _. 0) 0) (some-injective (newcomer f roles) d e) record {
        same = λ a is. sym (some_is _ _ is);
        seen = ([], refl);
        noted = λ k l g. absurd (some-ne-none l (sym g));
        mine = λ role made g. let t = blank_at 0 roles g.0 role made g.1 in let r = t.1 in let lt = t.2 in (omega arith, refl, sym t.0, sym t.0);
        turn_is = λ whole g. absurd (not_none whole (sym g));
      }
      first_says (suc j) d e = absurd (some-ne-none d (sym e))

  -- a view is parted, and a new seat has the second part
  parts : (s : S) (r : Rule s) (id : ℕ) (v : V) (left right : List (ℕ × L)) (owner : ℕ → ℕ) → get_elem? s.views id ≡ some v → v.whole ≡ None
      → ((role : ℕ) (made : L) → Has left role made → Has v.roles role made × (owner role ≡ id))
      → ((role : ℕ) (made : L) → Has right role made → Has v.roles role made × (owner role ≡ length s.views))
      → ((role : ℕ) (made : L) → Has v.roles role made → (Has left role made × (owner role ≡ id)) ⊎ (Has right role made × (owner role ≡ length s.views)))
      → ((role : ℕ) → r.owner role ≢ id → owner role ≡ r.owner role)
      → Rule record { words = s.words; homes = s.homes; views = set s.views id (record v { roles = left }) ++ part v right ∷ [] }
  parts s r id v left right owner at free in_left in_right in_both same =
      let w : V = record v { roles = left } in
      let knew = r.each id v at in
      let vs : List V = set s.views id w in
      let long : length vs ≡ length s.views = set_length s.views id w in
      let last : get_elem? (vs ++ part v right ∷ []) (length s.views) ≡ some (part v right) = at_last vs (part v right) (length s.views) long in
      let here : get_elem? (vs ++ part v right ∷ []) id ≡ some w = at_longer vs (part v right ∷ []) id w (set_there s.views id v w at) in
      let away : (j : ℕ) (d : V) → j ≢ id → get_elem? s.views j ≡ some d → get_elem? (vs ++ part v right ∷ []) j ≡ some d = λ j d not g. at_longer vs (part v right ∷ []) j d (set_else s.views id j w not ∙ g) in record {
        log = r.log;
        turn = r.turn;
        owner = owner;
        wide = r.wide;
        binary = r.binary;
        counts = r.counts;
        legal = r.legal;
        known = r.known;
        at_home = r.at_home;
        out = r.out;
        away = λ busy. let a = r.away busy in (
          a.0,
          away r.turn a.0 (λ is. not_none r.log (sym a.2 ∙ (ap (λ (u : V). u.whole) (one_value s.views id a.0 v (ap (get_elem? s.views) (sym is) ∙ a.1) at) ∙ free))) a.1,
          a.2,
        );
        placed = λ role lt. let p = r.placed role lt in dite (ℕ_discrete (r.owner role) id)
            (λ is. let u : p.0 ≡ v = one_value s.views id p.0 v (ap (get_elem? s.views) (sym is) ∙ p.2) at in
            ⊎_elim (λ (t : Has left role p.1 × (owner role ≡ id)). (w, p.1, ap (get_elem? (vs ++ part v right ∷ [])) t.1 ∙ here, t.0))
            (λ (t : Has right role p.1 × (owner role ≡ length s.views)). (part v right, p.1, ap (get_elem? (vs ++ part v right ∷ [])) t.1 ∙ last, t.0))
            (in_both role p.1 (subst (λ (x : V). Has x.roles role p.1) u p.3)))
            (λ not. (p.0, p.1, ap (get_elem? (vs ++ part v right ∷ [])) (same role not) ∙ away (r.owner role) p.0 not p.2, p.3));
        each = λ j d g. ⊎_elim
            (λ (t : get_elem? vs j ≡ some d). ⊎_elim
            (λ (u : (j ≡ id) × (w ≡ d)). subst (λ (x : ℕ × V). Says r.log (held s) r.turn owner x.0 x.1) (λ i. (sym u.0 i, u.1 i)) record {
              same = knew.same;
              seen = knew.seen;
              noted = knew.noted;
              mine = λ role made x. let l = in_left role made x in let m = knew.mine role made l.0 in (m.0, l.1, m.2, m.3);
              turn_is = λ whole x. absurd (not_none whole (sym x ∙ free));
            })
            (λ (u : (j ≢ id) × (get_elem? s.views j ≡ some d)). let k = r.each j d u.1 in record {
              same = k.same;
              seen = k.seen;
              noted = k.noted;
              mine = λ role made x. let m = k.mine role made x in (m.0, same role (λ is. u.0 (sym m.1 ∙ is)) ∙ m.1, m.2, m.3);
              turn_is = k.turn_is;
            })
            (at_set s.views id j w d t))
            (λ (t : (j ≡ length vs) × (part v right ≡ d)). subst (λ (x : ℕ × V). Says r.log (held s) r.turn owner x.0 x.1) (λ i. (sym (t.0 ∙ long) i, t.1 i)) record {
              same = knew.same;
              seen = knew.seen;
              noted = λ k l x. absurd (some-ne-none l (sym x));
              mine = λ role made x. let l = in_right role made x in let m = knew.mine role made l.0 in (m.0, l.1, m.2, m.3);
              turn_is = λ whole x. absurd (not_none whole (sym x));
            })
            (at_end vs (part v right) d j g);
      }

  -- a copy without a role
  pub splits_copy : (id : ℕ) (v : V) → v.whole ≡ None → Splits Rule id v v (witness v)
  splits_copy id v free s r at = parts s r id v v.roles [] r.owner at free
      (λ role made h. (h, ((r.each id v at).mine role made h).1))
      (λ role made h. absurd (some-ne-none (role, made) (sym h.1)))
      (λ role made h. inl (h, ((r.each id v at).mine role made h).1))
      (λ role _. refl)

  -- the first role goes to the new seat
  pub splits_first : (id : ℕ) (v : V) (role : ℕ) (made : L) (more : List (ℕ × L)) → v.whole ≡ None → v.roles ≡ (role, made) ∷ more → ((made' : L) → Has more role made' → ⊥)
      → Splits Rule id v (other_roles v) (first_role v)
  splits_first id v role made more free is alone s r at =
      let knew = r.each id v at in
      let n : ℕ = length s.views in
      let owner : ℕ → ℕ = λ q. cond (eqb q role) n (r.owner q) in
      let own : owner role ≡ n = ap (λ b. cond b n (r.owner role)) (eq-eqb role role refl) in
      let not_own : (q : ℕ) → q ≢ role → owner q ≡ r.owner q = λ q not. ap (λ b. cond b n (r.owner q)) (ne_eqb q role not) in
      let others_are : others v.roles ≡ more = ap others is in
      let first_is : firsts v.roles ≡ (role, made) ∷ [] = ap firsts is in
      let in_more : (q : ℕ) (m : L) → Has more q m → Has v.roles q m = λ q m h. subst (λ (rs : List (ℕ × L)). Has rs q m) (sym is) (suc h.0, h.1) in
      let mine : Has v.roles role made = subst (λ (rs : List (ℕ × L)). Has rs role made) (sym is) (0, refl) in
      let apart : (q : ℕ) (m : L) → Has more q m → q ≢ role = λ q m h e. alone m (subst (λ (x : ℕ). Has more x m) e h) in
      parts s r id v (others v.roles) (firsts v.roles) owner at free
      (λ q m h. let h' = subst (λ (rs : List (ℕ × L)). Has rs q m) others_are h in let back = in_more q m h' in (back, not_own q (apart q m h') ∙ (knew.mine q m back).1))
      (λ q m h. let h' = subst (λ (rs : List (ℕ × L)). Has rs q m) first_is h in let e = only q m h'.0 h'.1 in
      (subst (λ (x : ℕ × L). Has v.roles x.0 x.1) e mine, ap owner (λ i. (sym e i).0) ∙ own))
      (λ q m h. ⊎_elim
      (λ (e : ◌≡◌ {A = ℕ × L} (role, made) (q, m)). inr (subst (λ (rs : List (ℕ × L)). Has rs q m) (sym first_is) (0, ap some e), ap owner (λ i. (sym e i).0) ∙ own))
      (λ (t : Has more q m). inl (subst (λ (rs : List (ℕ × L)). Has rs q m) (sym others_are) t, not_own q (apart q m t) ∙ (knew.mine q m h).1))
      (front q m (subst (λ (rs : List (ℕ × L)). Has rs q m) is h)))
      (λ q not. not_own q (λ e. not (ap r.owner e ∙ (knew.mine role made mine).1)))
    where
      only : (q : ℕ) (m : L) (k : ℕ) → get_elem? {A = ℕ × L} ((role, made) ∷ []) k ≡ some (q, m) → ◌≡◌ {A = ℕ × L} (role, made) (q, m)
      only q m zero e = some-injective (role, made) (q, m) e
      only q m (suc k) e = absurd (some-ne-none (q, m) (sym e))

      front : (q : ℕ) (m : L) → Has ((role, made) ∷ more) q m → (◌≡◌ {A = ℕ × L} (role, made) (q, m)) ⊎ Has more q m
      front q m (zero, e) = inl (some-injective (role, made) (q, m) e)
      front q m (suc k, e) = inr (k, e)

  -- a seat takes in another one
  pub joins : (id : ℕ) (v : V) (other : ℕ) (w : V) → w.whole ≡ None → Joins Rule id v other w (joined v w) spent
  joins id v other w free s r at apart there' =
      let b : V = joined v w in
      let vs : List V = set s.views id b in
      let there : get_elem? s.views other ≡ some w = sym (set_else s.views id other b apart) ∙ there' in
      let knew = r.each id v at in
      let heard = r.each other w there in
      let owner : ℕ → ℕ = λ q. cond (eqb (r.owner q) other) id (r.owner q) in
      let moved : (q : ℕ) → r.owner q ≡ other → owner q ≡ id = λ q is. ap (λ x. cond x id (r.owner q)) (eq-eqb (r.owner q) other is) in
      let stays : (q : ℕ) → r.owner q ≢ other → owner q ≡ r.owner q = λ q not. ap (λ x. cond x id (r.owner q)) (ne_eqb (r.owner q) other not) in
      let apart' : id ≢ other = λ e. apart (sym e) in
      let here : get_elem? (set vs other spent) id ≡ some b = set_else vs other id spent apart' ∙ set_there s.views id v b at in
      let away : (j : ℕ) (d : V) → j ≢ id → j ≢ other → get_elem? s.views j ≡ some d → get_elem? (set vs other spent) j ≡ some d = λ j d n m g. set_else vs other j spent m ∙ (set_else s.views id j b n ∙ g) in
      let seen : Begins b.seen r.log = longer_is (λ l. Begins l r.log) v.seen w.seen knew.seen heard.seen in record {
        log = r.log;
        turn = r.turn;
        owner = owner;
        wide = r.wide;
        binary = r.binary;
        counts = r.counts;
        legal = r.legal;
        known = r.known;
        at_home = r.at_home;
        out = r.out;
        away = λ busy. let a = r.away busy in dite (ℕ_discrete r.turn id)
            (λ is. (b, ap (get_elem? (set vs other spent)) is ∙ here, sym (ap (λ (u : V). u.whole) (one_value s.views id a.0 v (ap (get_elem? s.views) (sym is) ∙ a.1) at)) ∙ a.2))
            (λ not. (
              a.0,
              away r.turn a.0 not (λ is. not_none r.log (sym a.2 ∙ (ap (λ (u : V). u.whole) (one_value s.views other a.0 w (ap (get_elem? s.views) (sym is) ∙ a.1) there) ∙ free))) a.1,
              a.2,
            ));
        placed = λ role lt. let p = r.placed role lt in dite (ℕ_discrete (r.owner role) other)
            (λ is. let u : p.0 ≡ w = one_value s.views other p.0 w (ap (get_elem? s.views) (sym is) ∙ p.2) there in
            (b, p.1, ap (get_elem? (set vs other spent)) (moved role is) ∙ here, has_right v.roles w.roles role p.1 (subst (λ (x : V). Has x.roles role p.1) u p.3)))
            (λ not. dite (ℕ_discrete (r.owner role) id)
            (λ is. let u : p.0 ≡ v = one_value s.views id p.0 v (ap (get_elem? s.views) (sym is) ∙ p.2) at in
            (b, p.1, ap (get_elem? (set vs other spent)) (stays role not ∙ is) ∙ here, has_left v.roles w.roles role p.1 (subst (λ (x : V). Has x.roles role p.1) u p.3)))
            (λ far. (p.0, p.1, ap (get_elem? (set vs other spent)) (stays role not) ∙ away (r.owner role) p.0 far not p.2, p.3)));
        each = λ j d g. ⊎_elim
            (λ (t : (j ≡ other) × (spent ≡ d)). subst (λ (x : ℕ × V). Says r.log (held s) r.turn owner x.0 x.1) (λ i. (sym t.0 i, t.1 i)) record {
              same = λ a is. absurd (not_none a (sym is));
              seen = (r.log, sym (append-nil r.log));
              noted = λ k l x. absurd (some-ne-none l (sym x));
              mine = λ role made x. absurd (some-ne-none (role, made) (sym x.1));
              turn_is = λ whole x. absurd (not_none whole (sym x));
            })
            (λ (t : (j ≢ other) × (get_elem? vs j ≡ some d)). ⊎_elim
            (λ (u : (j ≡ id) × (b ≡ d)). subst (λ (x : ℕ × V). Says r.log (held s) r.turn owner x.0 x.1) (λ i. (sym u.0 i, u.1 i)) record {
              same = knew.same;
              seen = seen;
              noted = noted_all s r v w knew.seen heard.seen knew.noted;
              mine = λ role made x. ⊎_elim
                  (λ (h : Has v.roles role made). let m = knew.mine role made h in
                  (m.0, stays role (λ is. apart' (sym m.1 ∙ is)) ∙ m.1, m.2, entries_between role v.seen b.seen r.log made (begins_both v.seen b.seen r.log knew.seen seen (longer_first v.seen w.seen)) seen m.3 m.2))
                  (λ (h : Has w.roles role made). let m = heard.mine role made h in
                  (m.0, moved role m.1, m.2, entries_between role w.seen b.seen r.log made (begins_both w.seen b.seen r.log heard.seen seen (longer_second v.seen w.seen)) seen m.3 m.2))
                  (has_either v.roles w.roles role made x);
              turn_is = λ whole x. let m = knew.turn_is whole x in (m.0, m.1, m.2, (m.3.0, m.3.1, has_left v.roles w.roles m.3.0 m.3.1 m.3.2));
            })
            (λ (u : (j ≢ id) × (get_elem? s.views j ≡ some d)). let k = r.each j d u.1 in record {
              same = k.same;
              seen = k.seen;
              noted = k.noted;
              mine = λ role made x. let m = k.mine role made x in (m.0, stays role (λ is. t.0 (sym m.1 ∙ is)) ∙ m.1, m.2, m.3);
              turn_is = k.turn_is;
            })
            (at_set s.views id j b d t.1))
            (at_set vs other j spent d g);
      }
    where
      noted_all : (s : S) (r : Rule s) (v w : V) → Begins v.seen r.log → Begins w.seen r.log → ((k : ℕ) (list : L) → get_elem? v.noted k ≡ some list → Begins list r.log)
          → (k : ℕ) (list : L) → get_elem? (v.seen ∷ w.seen ∷ v.noted) k ≡ some list → Begins list r.log
      noted_all s r v w a b c zero list e = subst (λ (l : L). Begins l r.log) (some-injective v.seen list e) a
      noted_all s r v w a b c (suc zero) list e = subst (λ (l : L). Begins l r.log) (some-injective w.seen list e) b
      noted_all s r v w a b c (suc (suc k)) list e = c k list e

  -- the count is read
  pub checks : (slots id : ℕ) (me : M) → Allows Rule slots id me 1 (λ x. x) (Checks fixed stands may answers (step slots 1 0 0 none) me)
  checks slots id me s r _ at _ = let k = r.each id me.0 at in (
    me.0,
    keeps,
    tt,
    unmoved fixed stands may answers f roles s r 1 id me at,
    (
      refl,
      (λ a is. subst (λ (x : F × ℕ). LegalIn fixed stands may answers x.0 me.0.seen) (sym (k.same a is)) (legal_beginning (may f) (answers f) me.0.seen r.log k.seen r.legal)),
      (λ n list g l. begins_both list me.0.seen r.log (k.noted n list g) k.seen l),
      (λ role made g. (k.mine role made g).3),
    ),
  )

  pub splits_undealt : (id : ℕ) (me : M) (k : ℕ) → k < roles → me ≡ (undealt f roles k, []) → Splits Rule id me.0 (other_roles me.0) (first_role me.0)
  splits_undealt id me k below is = subst (λ (m : M). Splits Rule id m.0 (other_roles m.0) (first_role m.0)) (sym is)
      (splits_first id (undealt f roles k) k [] (blanks (suc k) (roles - suc k)) refl (ap (blanks k) (gap roles k below)) (λ made h. let t = blank_at (suc k) (roles - suc k) h.0 k made h.1 in let e = t.1 in omega arith))

module _ {N F : Type 0} where
  pub undealt_next : (f : F) (roles k : ℕ) → k < roles → other_roles (undealt {N = N} f roles k) ≡ undealt f roles (k + 1)
  undealt_next f roles k below = λ i. record { about = Some (f, roles); roles = (ap (λ (n : ℕ). others (blanks k n)) (gap roles k below) ∙ ap (λ (j : ℕ). blanks j (roles - j)) (sym (add-one k))) i; seen = []; noted = []; whole = None }

  pub undealt_first : (f : F) (roles k : ℕ) → k < roles → first_role (undealt {N = N} f roles k) ≡ part (undealt f roles k) ((k, []) ∷ [])
  undealt_first f roles k below = ap (λ (n : ℕ). part (undealt {N = N} f roles k) (firsts (blanks k n))) (gap roles k below)

  pub undealt_last : (f : F) (roles k : ℕ) → k + 1 ≡ roles → (undealt {N = N} f roles k).roles ≡ (k, []) ∷ []
  undealt_last f roles k is = ap (blanks k) (rest_is roles k is)
    where
      rest_is : (n k : ℕ) → k + 1 ≡ n → n - k ≡ 1
      rest_is n k e = omega arith

module _ {A N F : Type 0} where
  pub fresh_plain : (me : Sat A N F) (f : F) (roles k : ℕ) → me ≡ (part (undealt f roles k) ((k, []) ∷ []), []) → IsPlain me k 0
  fresh_plain me f roles k is = subst (λ (m : Sat A N F). IsPlain m k 0) (sym is) (refl, refl, refl, refl, refl)

module _ {N F : Type 0} where
  -- a role and a history that were taken in stay so when another view is taken in
  pub taken_more : (v w : View N F) (role : ℕ) (made list : List (Entry N)) → HasRole v role made × Heard v list → HasRole (joined v w) role made × Heard (joined v w) list
  taken_more v w role made list t = (
    has_left v.roles w.roles role made t.0,
    ⊎_elim (λ (e : v.seen ≡ list). inr (0, ap some e)) (λ (h : (k : ℕ) × (get_elem? v.noted k ≡ some list)). inr (suc (suc h.0), h.1)) t.1,
  )

  pub taken_new : (v w : View N F) (role : ℕ) (made : List (Entry N)) → HasRole w role made → HasRole (joined v w) role made × Heard (joined v w) w.seen
  taken_new v w role made h = (has_right v.roles w.roles role made h, inr (1, refl))

numbers_suc : (from n : ℕ) → numbers from n ++ (from + n) ∷ [] ≡ numbers from (suc n)
numbers_suc from zero = ap (λ (k : ℕ). k ∷ []) (add-zero from)
numbers_suc from (suc n) = ap (λ (l : List ℕ). from ∷ l) (ap (λ (k : ℕ). numbers (suc from) n ++ k ∷ []) (shifted from n) ∙ numbers_suc (suc from) n)
  where
    shifted : (a b : ℕ) → a + suc b ≡ suc a + b
    shifted a b = omega arith

pub numbers_more : (from n : ℕ) → numbers from n ++ (from + n) ∷ [] ≡ numbers from (n + 1)
numbers_more from n = numbers_suc from n ∙ ap (numbers from) (sym (add-one n))

module _ {X : Type 0} where
  pub pushed_length : (ps qs : List X) (p : X) (k : ℕ) → qs ≡ ps ++ p ∷ [] → length ps ≡ k → length qs ≡ k + 1
  pushed_length ps qs p k e l = ap length e ∙ (length-append ps (p ∷ []) ∙ ap (λ (n : ℕ). n + 1) l)

  pub pushed_roles : (role : X → ℕ) (ps qs : List X) (p : X) (k : ℕ) → qs ≡ ps ++ p ∷ [] → map role ps ≡ numbers 0 k → role p ≡ k → map role qs ≡ numbers 0 (k + 1)
  pushed_roles role ps qs p k e l is = ap (map role) e ∙ (map-append role ps (p ∷ []) ∙ ((λ i. l i ++ is i ∷ []) ∙ (ap (λ (n : ℕ). numbers 0 k ++ n ∷ []) (sym (zero-add k)) ∙ numbers_more 0 k)))

  pub pushed_all : (P : X → Type 0) (ps qs : List X) (p : X) → qs ≡ ps ++ p ∷ [] → All P ps → P p → All P qs
  pushed_all P ps qs p e all one = All-same P qs (ps ++ p ∷ []) e (All-push P ps p all one)

module _ {X : Type 0} (role : X → ℕ) where
  -- passes in order of role are as many as there are roles, and each role has its pass
  pub as_many : (k n : ℕ) (ps : List X) → map role ps ≡ numbers k n → length ps ≡ n
  as_many k zero [] e = refl
  as_many k zero (x ∷ xs) e = cc
  as_many k (suc n) [] e = cc
  as_many k (suc n) (x ∷ xs) e = let t : map role xs ≡ numbers (suc k) n = cc in ap suc (as_many (suc k) n xs t)

  pub covers : (P : X → Type 0) (k n : ℕ) (ps : List X) → map role ps ≡ numbers k n → All P ps → (q : ℕ) → k ≤ q → q < k + n → (p : X) × (role p ≡ q) × P p
  covers P k zero ps e all q low high = absurd (omega arith)
  covers P k (suc n) [] e all q low high = cc
  covers P k (suc n) (x ∷ xs) e all q low high =
      let h : role x ≡ k = cc in let t : map role xs ≡ numbers (suc k) n = cc in dite (ℕ_discrete q k)
      (λ is. (x, h ∙ sym is, All-head P x xs all))
      (λ not. covers P (suc k) n xs t (All-tail P x xs all) q (omega arith) (omega arith))

module _ {A N F : Type 0} where
  -- who has the turn has what it has heard of at the beginning
  pub heard_begins : {C R : Type 0} (fixed : A → F) (stands : A → List (Entry N) → Type 0) (may : F → ℕ → List (Entry N) → C → Type 0) (answers : F → List (Entry N) → ℕ → C → R → N → Type 0)
      → (a : F × ℕ) (v : View N F) (h : Home A N) (list : List (Entry N)) → IsTurn fixed stands may answers a v h → Heard v list → Begins list (past_of h)
  heard_begins fixed stands may answers a v h list turn heard = ⊎_elim (λ (e : v.seen ≡ list). subst (λ (l : List (Entry N)). Begins l (past_of h)) e turn.seen)
      (λ (t : (k : ℕ) × (get_elem? v.noted k ≡ some list)). turn.noted t.0 list t.1) heard

module _ {A N : Type 0} where
  pub same_home : (c ds es : List (ℕ × Option (Home A N))) (h k : Home A N) → c ≡ (0, Some h) ∷ ds → c ≡ (0, Some k) ∷ es → h ≡ k
  same_home c ds es h k e g = let t : (0, Some h) ∷ ds ≡ (0, Some k) ∷ es = sym e ∙ g in
      let u : ◌≡◌ {A = ℕ × Option (Home A N)} (0, Some h) (0, Some k) = cc in some_is h k (λ i. (u i).1)
