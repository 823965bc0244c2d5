use Rattle.std.proofs.Common.{◌≡◌, ℕ, length, map, ap, sym, ◌∙◌, subst, refl}
use Rattle.flow_bucket.specs.Bucket.{fixed_of}
use Rattle.flow_bucket.specs.Stands.{BucketMay, BucketAnswers}
use Rattle.hist_lock.specs.Locks.{seen_by, made_of}
use Rattle.lock_rows.proofs.Goods.{whole_back}
use Rattle.lock_rows.proofs.Placed.{pairs_length}
use Rattle.lock_rows.specs.Rows.{Pairs, IsGood, Mets}
use Rattle.role_meets.proofs.Telling.{told_by, heard_by, grown_heard}
use Rattle.role_meets.proofs.meets.tell.Goals as goal

pub tell_rows-requires-clause-from : goal.tell_rows-requires-clause-from
tell_rows-requires-clause-from c =
    subst (λ (n : ℕ). Pairs (λ l q. IsGood fixed_of BucketMay BucketAnswers n l q) c.deref.result.now c.deref_mut.result.now) (sym c.role-first.ensures)
    (subst (λ z. Pairs (λ l q. IsGood fixed_of BucketMay BucketAnswers c.args.from.now.pool.role l q) z c.deref_mut.result.now) (sym c.deref.ensures.value)
    (subst (λ z. Pairs (λ l q. IsGood fixed_of BucketMay BucketAnswers c.args.from.now.pool.role l q) c.args.shared.now.buckets.items z) (sym c.deref_mut.ensures.value) c.requires.from.buckets))

pub tell_rows-requires-clause-to : goal.tell_rows-requires-clause-to
tell_rows-requires-clause-to c =
    subst (λ (n : ℕ). Pairs (λ l q. IsGood fixed_of BucketMay BucketAnswers n l q) c.deref.result.now c.deref_mut-2.result.now) (sym c.role-second.ensures)
    (subst (λ z. Pairs (λ l q. IsGood fixed_of BucketMay BucketAnswers c.args.to.now.pool.role l q) z c.deref_mut-2.result.now) (sym c.deref.ensures.value)
    (subst (λ z. Pairs (λ l q. IsGood fixed_of BucketMay BucketAnswers c.args.to.now.pool.role l q) c.args.shared.now.buckets.items z) (sym c.deref_mut-2.ensures.value) c.requires.to.buckets))

pub returns-clause-from : goal.returns-clause-from
returns-clause-from c =
    let s = c.args.shared.now in
    let value = c.deref_mut.ensures.value in
    let old = c.args.from.now.buckets in
    let new = c.tell_rows.new.from in
    let good = subst (λ z. Pairs (λ l q. IsGood fixed_of BucketMay BucketAnswers c.role-first.result l q) z new) c.deref.ensures.value c.tell_rows.ensures.from in
    let count : length new ≡ length old.items = pairs_length (λ l q. IsGood fixed_of BucketMay BucketAnswers c.role-first.result l q) s.buckets.items new good
    ∙ sym (pairs_length (λ l q. IsGood fixed_of BucketMay BucketAnswers c.args.from.now.pool.role l q) s.buckets.items old.items c.requires.from.buckets) in
    let back = whole_back new old.items old.len count old.ok.0 in
    told_by s c.args.from.now _ c.role-first.result new c.requires.from c.meet.ensures.a_lock c.meet.ensures.a_same c.meet-2.ensures.a_lock c.meet-2.ensures.a_same refl c.role-first.ensures back good
    (c.tell_rows.ensures.same.0 ∙ ap (λ z. map (λ q. seen_by q) z) value) (c.tell_rows.ensures.same.1 ∙ ap (λ z. map (λ q. made_of q) z) value)

pub returns-clause-to : goal.returns-clause-to
returns-clause-to c =
    let s = c.args.shared.now in
    let value = c.deref_mut-2.ensures.value in
    let from = c.args.from.now.buckets.items in
    let old = c.args.to.now.buckets in
    let new = c.tell_rows.new.to in
    let good = subst (λ z. Pairs (λ l q. IsGood fixed_of BucketMay BucketAnswers c.role-second.result l q) z new) c.deref.ensures.value c.tell_rows.ensures.to in
    let count : length new ≡ length old.items = pairs_length (λ l q. IsGood fixed_of BucketMay BucketAnswers c.role-second.result l q) s.buckets.items new good
    ∙ sym (pairs_length (λ l q. IsGood fixed_of BucketMay BucketAnswers c.args.to.now.pool.role l q) s.buckets.items old.items c.requires.to.buckets) in
    let back = whole_back new old.items old.len count old.ok.0 in
    let mets = subst (λ z. Mets (length z) (map (λ q. seen_by q) c.deref_mut.result.now) (map (λ q. seen_by q) c.deref_mut-2.result.now) (map (λ q. seen_by q) new))
    c.deref.ensures.value c.tell_rows.ensures.met in
    let mets' = subst (λ z. Mets (length s.buckets.items) (map (λ q. seen_by q) z) (map (λ q. seen_by q) c.deref_mut-2.result.now) (map (λ q. seen_by q) new)) c.deref_mut.ensures.value mets in
    let mets'' = subst (λ z. Mets (length s.buckets.items) (map (λ q. seen_by q) from) (map (λ q. seen_by q) z) (map (λ q. seen_by q) new)) value mets' in
    let pool = c.meet.ensures in
    let segments = c.meet-2.ensures in
    heard_by s c.args.from.now c.args.to.now _ c.role-second.result new c.requires.from c.requires.to
    (record { pass_of = pool.b_lock; same = pool.b_role; met = (pool.longer, pool.begins_a, pool.begins_b); legal = pool.legal; own = pool.own })
    (record { pass_of = segments.b_lock; same = segments.b_role; met = (segments.longer, segments.begins_a, segments.begins_b); legal = segments.legal; own = segments.own })
    refl c.role-second.ensures back good (c.tell_rows.ensures.made ∙ ap (λ z. map (λ q. made_of q) z) value) mets''

pub returns-clause-grown : goal.returns-clause-grown
returns-clause-grown c = grown_heard c.args.shared.now c.args.from.now c.args.to.now _ c.requires.to (returns-clause-to c)
