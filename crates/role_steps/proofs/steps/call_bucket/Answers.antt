use Rattle.std.proofs.Common.{◌≡◌, ◌<◌, List, refl, sym, ap, ◌∙◌, subst, arith}
use Rattle.std.specs.List.{All}
use Rattle.std.proofs.lemmas.List.{length-map, get_or-map}
use Rattle.suri_base.specs.declared.entry.Entry.{Entry}
use Rattle.suri_base.specs.declared.entry.BucketNote.{BucketNote}
use Rattle.flow_bucket.specs.Bucket.{fixed_of}
use Rattle.flow_bucket.specs.Stands.{BucketMay, BucketAnswers}
use Rattle.hist_lock.specs.Passes.{IsCall}
use Rattle.hist_lock.specs.Locks.{made_with, roles_of, role_of, IsPassOf, seen_by, made_of}
use Rattle.lock_rows.specs.Rows.{IsGood}
use Rattle.lock_rows.proofs.Placed.{pairs_length}
use Rattle.lock_rows.proofs.Goods.{good_at}
use Rattle.role_steps.specs.Roles.{number_of}
use Rattle.role_steps.proofs.Stepping.{on_bucket_done, may_here}
use Rattle.role_steps.proofs.steps.call_bucket.Goals as goal

pub index_mut-pass-requires : goal.index_mut-pass-requires
index_mut-pass-requires g c =
    let count = pairs_length (λ l q. IsGood fixed_of BucketMay BucketAnswers (number_of c.args.passes.now) l q) c.args.shared.now.buckets.items c.args.passes.now.buckets.items c.requires.fits.buckets in
    omega (arith, count, c.requires.at, c.args.passes.now.buckets.ok.0)

pub apply-requires-clause-lock : goal.apply-requires-clause-lock
apply-requires-clause-lock g c =
    subst (λ q. IsPassOf fixed_of c.index.result.now q) (sym c.index_mut-pass.ensures.value)
    (good_at fixed_of BucketMay BucketAnswers (number_of c.args.passes.now) c.args.shared.now.buckets.items c.args.passes.now.buckets.items c.args.at c.index.result.now c.index_mut-pass.result.now c.requires.at c.requires.fits.buckets c.index.ensures).pass_of

pub apply-requires-clause-may : goal.apply-requires-clause-may
apply-requires-clause-may g c =
    may_here c.args.shared.now c.args.passes.now c.args.at c.args.call c.index.result.now c.index_mut-pass.result.now c.index_mut-pass.result.now c.requires.shared c.requires.fits c.requires.at c.index.ensures c.index_mut-pass.ensures.value c.requires.may

pub apply-requires-clause-step : goal.apply-requires-clause-step
apply-requires-clause-step g c =
    let p = c.args.passes.now in
    let count = pairs_length (λ l q. IsGood fixed_of BucketMay BucketAnswers (number_of p) l q) c.args.shared.now.buckets.items p.buckets.items c.requires.fits.buckets in
    let b = c.requires.fits.below.buckets c.args.at (made_of c.index_mut-pass.result.now) (omega (arith, length-map p.buckets.items (λ q. made_of q), count, c.requires.at)) in
    let is = get_or-map (λ q. made_of q) p.buckets.items c.args.at c.index_mut-pass.result.now (made_of c.index_mut-pass.result.now) (omega (arith, count, c.requires.at)) in
    subst (λ (h : List (Entry BucketNote)). All (λ e. e.step < p.step) h) (is ∙ ap (λ q. made_of q) (sym c.index_mut-pass.ensures.value)) b

pub returns-in-Ok : goal.returns-in-Ok
returns-in-Ok g c =
    let e = c.in-Ok.ensures in
    let p = c.args.passes.now in
    let value = c.index_mut-pass.ensures.value in
    let call = subst (λ q. IsCall BucketMay BucketAnswers (fixed_of (made_with c.index.result.now)) (roles_of c.index.result.now) (role_of q) p.step c.args.call c.in-Ok.reply (seen_by q) (made_of q) (seen_by c.apply.new.pass) (made_of c.apply.new.pass)) value e.ok in
    let same = subst (λ q. role_of c.apply.new.pass ≡ role_of q) value e.same in
    on_bucket_done c.args.shared.now p _ c.args.at c.args.call c.in-Ok.reply c.index.result.now c.index_mut-pass.result.now c.apply.new.pass c.requires.shared c.requires.fits c.requires.at refl refl refl refl c.index.ensures e.lock same call
