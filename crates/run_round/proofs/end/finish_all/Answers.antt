use Rattle.std.proofs.Common.{◌≡◌, ℕ, ◌<◌, List, [], ◌∷◌, ◌++◌, length, map, reverse, Vec, Global, get_or, refl, sym, ap, ◌∙◌, subst, arith, length-append}
use Rattle.std.proofs.lemmas.List.{map-append, length-map, reverse-reverse}
use Rattle.flow_bucket.specs.Bucket.{fixed_of}
use Rattle.flow_bucket.specs.Stands.{BucketMay, BucketAnswers}
use Rattle.flow_pool.specs.Pool.{setting_of}
use Rattle.hist_lock.specs.Locks.{numbers, role_of, IsPassOf, seen_by, made_of}
use Rattle.lock_rows.proofs.Placed.{any_default}
use Rattle.lock_rows.specs.Rows.{Pairs, IsGood, IsOwned, IsWhole}
use Rattle.role_steps.specs.declared.roles.Passes.{Passes}
use Rattle.run_round.proofs.Taking.{done_all, done_next, mapped_next, numbered, pairs_right, some_of, word_at, words_at}
use Rattle.segment_pool.specs.Pool.{limit_of}
use Rattle.suri_base.specs.History.{entries_of, Begins}
use Rattle.suri_base.specs.declared.entry.BucketNote.{BucketNote}
use Rattle.suri_base.specs.declared.entry.Entry.{Entry}
use Rattle.run_round.proofs.end.finish_all.Goals as goal

pub loop-own-init : goal.loop-own-init
loop-own-init c =
    let all : c.args.passes.items ≡ reverse c.reverse.new.self.items = sym (ap reverse c.reverse.ensures.items ∙ reverse-reverse c.args.passes.items) in (
      omega (arith, ap length c.in_ok-pools.ensures.items, c.in_ok-pools.ensures.capacity, c.len.ensures, c.reverse.ensures.len, c.reverse.new.self.ok.0),
      omega (arith, ap length c.in_ok-nodes.ensures.items, c.in_ok-nodes.ensures.capacity, c.len-2.ensures, c.reverse.ensures.len, c.reverse.new.self.ok.0),
      omega (arith, ap length c.in_ok-rows.ensures.items, c.in_ok-rows.ensures.capacity, c.len-3.ensures, c.reverse.ensures.len, c.reverse.new.self.ok.0),
      ([], all, c.in_ok-pools.ensures.items, c.in_ok-nodes.ensures.items, ap (λ l. map (λ r. r.items) l) c.in_ok-rows.ensures.items),
    )

pub loop-own-preserved : goal.loop-own-preserved
loop-own-preserved c =
    let inv = c.loop-own.invariant in
    let t = inv.3 in
    let is = c.in-Some.ensures.items in
    let p : Passes = c.in-Some.own in
    let pools = c.push_reserved.ensures in
    let nodes = c.push_reserved-in-Some.ensures in
    let rows = c.push_reserved-in-Some-2.ensures in (
      omega (arith, inv.0, ap length is, length-append c.pop.new.self.items (p ∷ []), ap length pools.items, length-append c.loop-own.pools.items (p.pool ∷ []), pools.capacity),
      omega (arith, inv.1, ap length is, length-append c.pop.new.self.items (p ∷ []), ap length nodes.items, length-append c.loop-own.nodes.items (p.segments ∷ []), nodes.capacity),
      omega (arith, inv.2, ap length is, length-append c.pop.new.self.items (p ∷ []), ap length rows.items, length-append c.loop-own.rows.items (p.buckets ∷ []), rows.capacity),
      (
        t.0 ++ p ∷ [],
        done_next c.args.passes.items t.0 c.loop-own.passes.items c.pop.new.self.items p t.1 is,
        mapped_next (λ (q : Passes). q.pool) t.0 c.loop-own.pools.items c.push_reserved.new.self.items p t.2 pools.items,
        mapped_next (λ (q : Passes). q.segments) t.0 c.loop-own.nodes.items c.push_reserved-in-Some.new.self.items p t.3 nodes.items,
        mapped_next (λ (q : Passes). q.buckets.items) t.0 (map (λ r. r.items) c.loop-own.rows.items) (map (λ r. r.items) c.push_reserved-in-Some-2.new.self.items) p t.4
            (ap (λ l. map (λ r. r.items) l) rows.items ∙ map-append (λ r. r.items) c.loop-own.rows.items (p.buckets ∷ [])),
      ),
    )

pub finish_rows-requires-clause-roles : goal.finish_rows-requires-clause-roles
finish_rows-requires-clause-roles c k d below =
    let t = c.loop-own.invariant.3 in
    let short : length c.loop-own.passes.items ≡ 0 = omega (arith, c.loop-own.passes.ok.0, c.in_default.ensures.cases.0) in
    let olds = c.args.passes.items in
    let all : olds ≡ t.0 = done_all olds t.0 c.loop-own.passes.items short t.1 in
    let rows = c.loop-own.rows.items in
    let lie : map (λ r. r.items) rows ≡ map (λ (p : Passes). p.buckets.items) olds = t.4 ∙ ap (map (λ (p : Passes). p.buckets.items)) (sym all) in
    let many : length rows ≡ length olds = sym (length-map rows (λ r. r.items)) ∙ (ap length lie ∙ length-map olds (λ (p : Passes). p.buckets.items)) in
    c.requires.locks.buckets k d below ∙ (sym many ∙ sym (ap length c.deref_mut.ensures.value))

pub finish_rows-requires-clause-rows : goal.finish_rows-requires-clause-rows
finish_rows-requires-clause-rows c k d below =
    let t = c.loop-own.invariant.3 in
    let short : length c.loop-own.passes.items ≡ 0 = omega (arith, c.loop-own.passes.ok.0, c.in_default.ensures.cases.0) in
    let olds = c.args.passes.items in
    let all : olds ≡ t.0 = done_all olds t.0 c.loop-own.passes.items short t.1 in
    let rows = c.loop-own.rows.items in
    let lie : map (λ r. r.items) rows ≡ map (λ (p : Passes). p.buckets.items) olds = t.4 ∙ ap (map (λ (p : Passes). p.buckets.items)) (sym all) in
    let many : length rows ≡ length olds = sym (length-map rows (λ r. r.items)) ∙ (ap length lie ∙ length-map olds (λ (p : Passes). p.buckets.items)) in
    let inside : k < length olds = omega (arith, many, ap length c.deref_mut.ensures.value, below) in
    let p = some_of olds k inside in
    let good = c.requires.all k p inside in
    let same = words_at (λ (q : Passes). q.buckets.items) (λ r. r.items) olds rows k p p.buckets refl lie in
    let here = any_default rows k p.buckets d (omega (arith, many, inside)) in
    subst (λ l. Pairs (λ l q. IsGood fixed_of BucketMay BucketAnswers k l q) c.args.shared.buckets.items (get_or l k d).items) (sym c.deref_mut.ensures.value)
    (subst (λ r. Pairs (λ l q. IsGood fixed_of BucketMay BucketAnswers k l q) c.args.shared.buckets.items r.items) here
    (subst (λ z. Pairs (λ l q. IsGood fixed_of BucketMay BucketAnswers k l q) c.args.shared.buckets.items z) (sym same)
    (subst (λ (n : ℕ). Pairs (λ l q. IsGood fixed_of BucketMay BucketAnswers n l q) c.args.shared.buckets.items (get_or olds k p).buckets.items) good.1 good.0.buckets)))

pub finish-pool-requires-clause-roles : goal.finish-pool-requires-clause-roles
finish-pool-requires-clause-roles c =
    let t = c.loop-own.invariant.3 in
    let short : length c.loop-own.passes.items ≡ 0 = omega (arith, c.loop-own.passes.ok.0, c.in_default.ensures.cases.0) in
    let olds = c.args.passes.items in
    let all : olds ≡ t.0 = done_all olds t.0 c.loop-own.passes.items short t.1 in
    let list = c.loop-own.pools.items in
    let are : list ≡ map (λ (p : Passes). p.pool) olds = t.2 ∙ ap (map (λ (p : Passes). p.pool)) (sym all) in
    let many : length list ≡ length olds = ap length are ∙ length-map olds (λ (p : Passes). p.pool) in
    let numbers_are = numbered (λ q. role_of q) 0 list (λ k d below.
    let inside : k < length olds = omega (arith, many, below) in
    let p = some_of olds k inside in
    ap (λ q. role_of q) (any_default list k d p.pool below ∙ word_at (λ (q : Passes). q.pool) olds list k p are) ∙ ((c.requires.all k p inside).1 ∙ omega arith)) in
    numbers_are ∙ ap (numbers 0) (many ∙ sym c.requires.locks.pool)

pub finish-pool-requires-clause-passes : goal.finish-pool-requires-clause-passes
finish-pool-requires-clause-passes c k d below =
    let t = c.loop-own.invariant.3 in
    let short : length c.loop-own.passes.items ≡ 0 = omega (arith, c.loop-own.passes.ok.0, c.in_default.ensures.cases.0) in
    let olds = c.args.passes.items in
    let all : olds ≡ t.0 = done_all olds t.0 c.loop-own.passes.items short t.1 in
    let list = c.loop-own.pools.items in
    let are : list ≡ map (λ (p : Passes). p.pool) olds = t.2 ∙ ap (map (λ (p : Passes). p.pool)) (sym all) in
    let many : length list ≡ length olds = ap length are ∙ length-map olds (λ (p : Passes). p.pool) in
    let inside : k < length olds = omega (arith, many, below) in
    let p = some_of olds k inside in
    let same = word_at (λ (q : Passes). q.pool) olds list k p are in
    subst (λ q. IsPassOf setting_of c.args.shared.pool q) (sym (any_default list k d p.pool below ∙ same)) (c.requires.all k p inside).0.pool.pass_of

pub finish-segments-requires-clause-roles : goal.finish-segments-requires-clause-roles
finish-segments-requires-clause-roles c =
    let t = c.loop-own.invariant.3 in
    let short : length c.loop-own.passes.items ≡ 0 = omega (arith, c.loop-own.passes.ok.0, c.in_default.ensures.cases.0) in
    let olds = c.args.passes.items in
    let all : olds ≡ t.0 = done_all olds t.0 c.loop-own.passes.items short t.1 in
    let list = c.loop-own.nodes.items in
    let are : list ≡ map (λ (p : Passes). p.segments) olds = t.3 ∙ ap (map (λ (p : Passes). p.segments)) (sym all) in
    let many : length list ≡ length olds = ap length are ∙ length-map olds (λ (p : Passes). p.segments) in
    let numbers_are = numbered (λ q. role_of q) 0 list (λ k d below.
    let inside : k < length olds = omega (arith, many, below) in
    let p = some_of olds k inside in
    ap (λ q. role_of q) (any_default list k d p.segments below ∙ word_at (λ (q : Passes). q.segments) olds list k p are) ∙ (((c.requires.all k p inside).0.segments.role_is ∙ (c.requires.all k p inside).1) ∙ omega arith)) in
    numbers_are ∙ ap (numbers 0) (many ∙ sym c.requires.locks.segments)

pub finish-segments-requires-clause-passes : goal.finish-segments-requires-clause-passes
finish-segments-requires-clause-passes c k d below =
    let t = c.loop-own.invariant.3 in
    let short : length c.loop-own.passes.items ≡ 0 = omega (arith, c.loop-own.passes.ok.0, c.in_default.ensures.cases.0) in
    let olds = c.args.passes.items in
    let all : olds ≡ t.0 = done_all olds t.0 c.loop-own.passes.items short t.1 in
    let list = c.loop-own.nodes.items in
    let are : list ≡ map (λ (p : Passes). p.segments) olds = t.3 ∙ ap (map (λ (p : Passes). p.segments)) (sym all) in
    let many : length list ≡ length olds = ap length are ∙ length-map olds (λ (p : Passes). p.segments) in
    let inside : k < length olds = omega (arith, many, below) in
    let p = some_of olds k inside in
    let same = word_at (λ (q : Passes). q.segments) olds list k p are in
    subst (λ q. IsPassOf limit_of c.args.shared.segments q) (sym (any_default list k d p.segments below ∙ same)) (c.requires.all k p inside).0.segments.pass_of

pub returns : goal.returns
returns c =
    let t = c.loop-own.invariant.3 in
    let short : length c.loop-own.passes.items ≡ 0 = omega (arith, c.loop-own.passes.ok.0, c.in_default.ensures.cases.0) in
    let olds = c.args.passes.items in
    let all : olds ≡ t.0 = done_all olds t.0 c.loop-own.passes.items short t.1 in
    let pools = c.loop-own.pools.items in
    let nodes = c.loop-own.nodes.items in
    let are : pools ≡ map (λ (p : Passes). p.pool) olds = t.2 ∙ ap (map (λ (p : Passes). p.pool)) (sym all) in
    let held : nodes ≡ map (λ (p : Passes). p.segments) olds = t.3 ∙ ap (map (λ (p : Passes). p.segments)) (sym all) in
    let rows = c.loop-own.rows.items in
    let lie : map (λ r. r.items) rows ≡ map (λ (p : Passes). p.buckets.items) olds = t.4 ∙ ap (map (λ (p : Passes). p.buckets.items)) (sym all) in
    let many : length pools ≡ length olds = ap length are ∙ length-map olds (λ (p : Passes). p.pool) in
    let as_many : length nodes ≡ length olds = ap length held ∙ length-map olds (λ (p : Passes). p.segments) in
    let ended = c.finish-pool.ensures in
    let freed = c.finish-segments.ensures in
    let hs = c.in_ok-buckets.buckets.items in
    let back = ap (λ l. map (λ r. r.items) l) c.deref_mut.ensures.value ∙ lie in
    let lines : length rows ≡ length olds = sym (length-map rows (λ r. r.items)) ∙ (ap length lie ∙ length-map olds (λ (p : Passes). p.buckets.items)) in
    let mine : (k : ℕ) (d : Passes) → k < length olds → Pairs (λ p (h : Vec (Entry BucketNote) Global). IsOwned k p (reverse h.items)) (get_or olds k d).buckets.items hs =
    λ k d below. subst (λ z. Pairs (λ p (h : Vec (Entry BucketNote) Global). IsOwned k p (reverse h.items)) z hs)
    (words_at (λ (q : Passes). q.buckets.items) (λ r. r.items) olds c.deref_mut.result.now k d d.buckets refl back) (c.in_ok-buckets.ensures.owned k d.buckets (omega (arith, ap length c.deref_mut.ensures.value, lines, below))) in record {
      layout = refl;
      whole = record {
        pool = (ended.legal, ended.known);
        segments = (freed.legal, freed.known);
        buckets = pairs_right (λ l (h : List (Entry BucketNote)). IsWhole fixed_of BucketMay BucketAnswers l h) (λ (h : List (Entry BucketNote)). reverse h) c.args.shared.buckets.items
            (map (λ (h : Vec (Entry BucketNote) Global). h.items) hs)
            (pairs_right (λ l (h : List (Entry BucketNote)). IsWhole fixed_of BucketMay BucketAnswers l (reverse h)) (λ (h : Vec (Entry BucketNote) Global). h.items) c.args.shared.buckets.items hs c.in_ok-buckets.ensures.whole);
      };
      owned = λ k d below. record {
        pool = (
          subst (λ q. Begins (seen_by q) (reverse c.finish-pool.result.1.items)) (word_at (λ (q : Passes). q.pool) olds pools k d are) (ended.begins k d.pool (omega (arith, many, below))),
          subst (λ (n : ℕ). entries_of n (reverse c.finish-pool.result.1.items) ≡ made_of (get_or olds k d).pool) (c.requires.all k d below).1
              (subst (λ q. entries_of (role_of q) (reverse c.finish-pool.result.1.items) ≡ made_of q) (word_at (λ (q : Passes). q.pool) olds pools k d are) (ended.own k d.pool (omega (arith, many, below)))),
        );
        segments = (
          subst (λ q. Begins (seen_by q) (reverse c.finish-segments.result.1.items)) (word_at (λ (q : Passes). q.segments) olds nodes k d held) (freed.begins k d.segments (omega (arith, as_many, below))),
          subst (λ (n : ℕ). entries_of n (reverse c.finish-segments.result.1.items) ≡ made_of (get_or olds k d).segments) ((c.requires.all k d below).0.segments.role_is ∙ (c.requires.all k d below).1)
              (subst (λ q. entries_of (role_of q) (reverse c.finish-segments.result.1.items) ≡ made_of q) (word_at (λ (q : Passes). q.segments) olds nodes k d held) (freed.own k d.segments (omega (arith, as_many, below)))),
        );
        buckets = pairs_right (λ p (h : List (Entry BucketNote)). IsOwned k p h) (λ (h : List (Entry BucketNote)). reverse h) (get_or olds k d).buckets.items (map (λ (h : Vec (Entry BucketNote) Global). h.items) hs)
            (pairs_right (λ p (h : List (Entry BucketNote)). IsOwned k p (reverse h)) (λ (h : Vec (Entry BucketNote) Global). h.items) (get_or olds k d).buckets.items hs (mine k d below));
      };
    }
