-- Tests of two acts, and of two lists of entries, for being the same.
use Rattle.std.proofs.Common.{◌≡◌, ℕ, ◌==◌, Bool, true, false, ◌&&◌, List, [], ◌∷◌, refl, sym, eqb-true, eq-eqb}
use Rattle.suri_base.specs.Keys.{same_truth}
use Rattle.suri_base.specs.declared.app.App.{App}
use Rattle.suri_base.specs.declared.app.App.TheVariants as app
use Rattle.suri_base.specs.declared.entry.BucketNote.{BucketNote}
use Rattle.suri_base.specs.declared.entry.BucketNote.TheVariants.{Found, Missing, Made, Refused, Stored, Stopped, Closed, Idle, Victim, AllInUse, Swept, Drained}
use Rattle.suri_base.specs.declared.entry.Entry.{Entry}
use Rattle.suri_base.specs.declared.entry.PoolNote.{PoolNote}
use Rattle.suri_base.specs.declared.entry.PoolNote.TheVariants.{Took, Full, Put, Turn, Mode, Over}
use Rattle.suri_base.specs.declared.entry.SegNote.{SegNote}
use Rattle.suri_base.specs.declared.entry.SegNote.TheVariants as seg
use Rattle.suri_base.specs.declared.stream.Offer.{Offer}
use Rattle.suri_base.specs.declared.stream.Offer.TheVariants as offer
use Rattle.bucket_laws.specs.Leaving.{Gone}
use Rattle.run_rules.specs.Acts.{Act, on_pool, on_segments, on_bucket}
use Rattle.run_rules.specs.Worker.{same_app}

pub both : (p q : Bool) → (p && q) ≡ true → (p ≡ true) × (q ≡ true)
both true q h = (refl, h)
both false q h = cc

pub and_both : (p q : Bool) → p ≡ true → q ≡ true → (p && q) ≡ true
and_both true q h k = k
and_both false q h k = h

pub one_truth : (a b : Bool) → same_truth a b ≡ true → a ≡ b
one_truth true b h = sym h
one_truth false true h = cc
one_truth false false h = refl

same_self : (a : Bool) → same_truth a a ≡ true
same_self true = refl
same_self false = refl

one_app : (a b : App) → same_app a b ≡ true → a ≡ b
one_app app.None app.None h = refl
one_app app.Http app.Http h = refl
one_app app.Tls app.Tls h = refl
one_app app.Ssh app.Ssh h = refl
one_app app.Dns app.Dns h = refl
one_app _ _ h = cc

app_self : (a : App) → same_app a a ≡ true
app_self app.None = refl
app_self app.Http = refl
app_self app.Tls = refl
app_self app.Ssh = refl
app_self app.Dns = refl

abbrev same_offer : Offer → Offer → Bool
same_offer offer.InOrder offer.InOrder = true
same_offer offer.Nothing offer.Nothing = true
same_offer offer.NeedsSegment offer.NeedsSegment = true
same_offer offer.Stopped offer.Stopped = true
same_offer _ _ = false

one_offer : (a b : Offer) → same_offer a b ≡ true → a ≡ b
one_offer offer.InOrder offer.InOrder h = refl
one_offer offer.Nothing offer.Nothing h = refl
one_offer offer.NeedsSegment offer.NeedsSegment h = refl
one_offer offer.Stopped offer.Stopped h = refl
one_offer _ _ h = cc

offer_self : (a : Offer) → same_offer a a ≡ true
offer_self offer.InOrder = refl
offer_self offer.Nothing = refl
offer_self offer.NeedsSegment = refl
offer_self offer.Stopped = refl

-- notes of the pool of objects

abbrev same_pool_note : PoolNote → PoolNote → Bool
same_pool_note (Took f) (Took f2) = f == f2
same_pool_note (Full f out limit) (Full f2 out2 limit2) = (f == f2) && ((out == out2) && ((limit == limit2)))
same_pool_note (Put run) (Put run2) = run == run2
same_pool_note (Turn run f) (Turn run2 f2) = (run == run2) && ((f == f2))
same_pool_note (Mode e) (Mode e2) = same_truth e e2
same_pool_note (Over round done) (Over round2 done2) = (round == round2) && ((same_truth done done2))
same_pool_note _ _ = false

one_pool_note : (a b : PoolNote) → same_pool_note a b ≡ true → a ≡ b
one_pool_note (Took f) (Took f2) h =
    let e0 : f ≡ f2 = eqb-true f f2 h in
    cc
one_pool_note (Full f out limit) (Full f2 out2 limit2) h =
    let k0 = both (f == f2) ((out == out2) && (limit == limit2)) h in
    let k1 = both (out == out2) (limit == limit2) k0.1 in
    let e0 : f ≡ f2 = eqb-true f f2 k0.0 in
    let e1 : out ≡ out2 = eqb-true out out2 k1.0 in
    let e2 : limit ≡ limit2 = eqb-true limit limit2 k1.1 in
    cc
one_pool_note (Put run) (Put run2) h =
    let e0 : run ≡ run2 = eqb-true run run2 h in
    cc
one_pool_note (Turn run f) (Turn run2 f2) h =
    let k0 = both (run == run2) (f == f2) h in
    let e0 : run ≡ run2 = eqb-true run run2 k0.0 in
    let e1 : f ≡ f2 = eqb-true f f2 k0.1 in
    cc
one_pool_note (Mode e) (Mode e2) h =
    let e0 : e ≡ e2 = one_truth e e2 h in
    cc
one_pool_note (Over round done) (Over round2 done2) h =
    let k0 = both (round == round2) (same_truth done done2) h in
    let e0 : round ≡ round2 = eqb-true round round2 k0.0 in
    let e1 : done ≡ done2 = one_truth done done2 k0.1 in
    cc
one_pool_note _ _ h = cc

pool_note_self : (a : PoolNote) → same_pool_note a a ≡ true
pool_note_self (Took f) = eq-eqb f f refl
pool_note_self (Full f out limit) = and_both (f == f) ((out == out) && (limit == limit)) (eq-eqb f f refl) (and_both (out == out) (limit == limit) (eq-eqb out out refl) (eq-eqb limit limit refl))
pool_note_self (Put run) = eq-eqb run run refl
pool_note_self (Turn run f) = and_both (run == run) (f == f) (eq-eqb run run refl) (eq-eqb f f refl)
pool_note_self (Mode e) = same_self e
pool_note_self (Over round done) = and_both (round == round) (same_truth done done) (eq-eqb round round refl) (same_self done)

-- notes of the pool of nodes

abbrev same_seg_note : SegNote → SegNote → Bool
same_seg_note (seg.Took f) (seg.Took f2) = f == f2
same_seg_note (seg.Full f out limit) (seg.Full f2 out2 limit2) = (f == f2) && ((out == out2) && ((limit == limit2)))
same_seg_note (seg.Gave count) (seg.Gave count2) = count == count2
same_seg_note _ _ = false

one_seg_note : (a b : SegNote) → same_seg_note a b ≡ true → a ≡ b
one_seg_note (seg.Took f) (seg.Took f2) h =
    let e0 : f ≡ f2 = eqb-true f f2 h in
    cc
one_seg_note (seg.Full f out limit) (seg.Full f2 out2 limit2) h =
    let k0 = both (f == f2) ((out == out2) && (limit == limit2)) h in
    let k1 = both (out == out2) (limit == limit2) k0.1 in
    let e0 : f ≡ f2 = eqb-true f f2 k0.0 in
    let e1 : out ≡ out2 = eqb-true out out2 k1.0 in
    let e2 : limit ≡ limit2 = eqb-true limit limit2 k1.1 in
    cc
one_seg_note (seg.Gave count) (seg.Gave count2) h =
    let e0 : count ≡ count2 = eqb-true count count2 h in
    cc
one_seg_note _ _ h = cc

seg_note_self : (a : SegNote) → same_seg_note a a ≡ true
seg_note_self (seg.Took f) = eq-eqb f f refl
seg_note_self (seg.Full f out limit) = and_both (f == f) ((out == out) && (limit == limit)) (eq-eqb f f refl) (and_both (out == out) (limit == limit) (eq-eqb out out refl) (eq-eqb limit limit refl))
seg_note_self (seg.Gave count) = eq-eqb count count refl

-- notes of a bucket

abbrev same_bucket_note : BucketNote → BucketNote → Bool
same_bucket_note (Found f e seen run said) (Found f2 e2 seen2 run2 said2) = (f == f2) && ((same_truth e e2) && ((seen == seen2) && ((run == run2) && ((same_offer said said2)))))
same_bucket_note (Missing f e seen ended) (Missing f2 e2 seen2 ended2) = (f == f2) && ((same_truth e e2) && ((seen == seen2) && ((ended == ended2))))
same_bucket_note (Made f said) (Made f2 said2) = (f == f2) && ((same_offer said said2))
same_bucket_note (Refused f) (Refused f2) = f == f2
same_bucket_note (Stored f) (Stored f2) = f == f2
same_bucket_note (Stopped f) (Stopped f2) = f == f2
same_bucket_note (Closed f verdict run freed ended) (Closed f2 verdict2 run2 freed2 ended2) = (f == f2) && ((same_app verdict verdict2) && ((run == run2) && ((freed == freed2) && ((same_truth ended ended2)))))
same_bucket_note (Idle f verdict) (Idle f2 verdict2) = (f == f2) && ((same_app verdict verdict2))
same_bucket_note (Victim f run) (Victim f2 run2) = (f == f2) && ((run == run2))
same_bucket_note (AllInUse f count) (AllInUse f2 count2) = (f == f2) && ((count == count2))
same_bucket_note (Swept round e seen count) (Swept round2 e2 seen2 count2) = (round == round2) && ((same_truth e e2) && ((seen == seen2) && ((count == count2))))
same_bucket_note (Drained count) (Drained count2) = count == count2
same_bucket_note _ _ = false

one_bucket_note : (a b : BucketNote) → same_bucket_note a b ≡ true → a ≡ b
one_bucket_note (Found f e seen run said) (Found f2 e2 seen2 run2 said2) h =
    let k0 = both (f == f2) ((same_truth e e2) && ((seen == seen2) && ((run == run2) && (same_offer said said2)))) h in
    let k1 = both (same_truth e e2) ((seen == seen2) && ((run == run2) && (same_offer said said2))) k0.1 in
    let k2 = both (seen == seen2) ((run == run2) && (same_offer said said2)) k1.1 in
    let k3 = both (run == run2) (same_offer said said2) k2.1 in
    let e0 : f ≡ f2 = eqb-true f f2 k0.0 in
    let e1 : e ≡ e2 = one_truth e e2 k1.0 in
    let e2 : seen ≡ seen2 = eqb-true seen seen2 k2.0 in
    let e3 : run ≡ run2 = eqb-true run run2 k3.0 in
    let e4 : said ≡ said2 = one_offer said said2 k3.1 in
    cc
one_bucket_note (Missing f e seen ended) (Missing f2 e2 seen2 ended2) h =
    let k0 = both (f == f2) ((same_truth e e2) && ((seen == seen2) && (ended == ended2))) h in
    let k1 = both (same_truth e e2) ((seen == seen2) && (ended == ended2)) k0.1 in
    let k2 = both (seen == seen2) (ended == ended2) k1.1 in
    let e0 : f ≡ f2 = eqb-true f f2 k0.0 in
    let e1 : e ≡ e2 = one_truth e e2 k1.0 in
    let e2 : seen ≡ seen2 = eqb-true seen seen2 k2.0 in
    let e3 : ended ≡ ended2 = eqb-true ended ended2 k2.1 in
    cc
one_bucket_note (Made f said) (Made f2 said2) h =
    let k0 = both (f == f2) (same_offer said said2) h in
    let e0 : f ≡ f2 = eqb-true f f2 k0.0 in
    let e1 : said ≡ said2 = one_offer said said2 k0.1 in
    cc
one_bucket_note (Refused f) (Refused f2) h =
    let e0 : f ≡ f2 = eqb-true f f2 h in
    cc
one_bucket_note (Stored f) (Stored f2) h =
    let e0 : f ≡ f2 = eqb-true f f2 h in
    cc
one_bucket_note (Stopped f) (Stopped f2) h =
    let e0 : f ≡ f2 = eqb-true f f2 h in
    cc
one_bucket_note (Closed f verdict run freed ended) (Closed f2 verdict2 run2 freed2 ended2) h =
    let k0 = both (f == f2) ((same_app verdict verdict2) && ((run == run2) && ((freed == freed2) && (same_truth ended ended2)))) h in
    let k1 = both (same_app verdict verdict2) ((run == run2) && ((freed == freed2) && (same_truth ended ended2))) k0.1 in
    let k2 = both (run == run2) ((freed == freed2) && (same_truth ended ended2)) k1.1 in
    let k3 = both (freed == freed2) (same_truth ended ended2) k2.1 in
    let e0 : f ≡ f2 = eqb-true f f2 k0.0 in
    let e1 : verdict ≡ verdict2 = one_app verdict verdict2 k1.0 in
    let e2 : run ≡ run2 = eqb-true run run2 k2.0 in
    let e3 : freed ≡ freed2 = eqb-true freed freed2 k3.0 in
    let e4 : ended ≡ ended2 = one_truth ended ended2 k3.1 in
    cc
one_bucket_note (Idle f verdict) (Idle f2 verdict2) h =
    let k0 = both (f == f2) (same_app verdict verdict2) h in
    let e0 : f ≡ f2 = eqb-true f f2 k0.0 in
    let e1 : verdict ≡ verdict2 = one_app verdict verdict2 k0.1 in
    cc
one_bucket_note (Victim f run) (Victim f2 run2) h =
    let k0 = both (f == f2) (run == run2) h in
    let e0 : f ≡ f2 = eqb-true f f2 k0.0 in
    let e1 : run ≡ run2 = eqb-true run run2 k0.1 in
    cc
one_bucket_note (AllInUse f count) (AllInUse f2 count2) h =
    let k0 = both (f == f2) (count == count2) h in
    let e0 : f ≡ f2 = eqb-true f f2 k0.0 in
    let e1 : count ≡ count2 = eqb-true count count2 k0.1 in
    cc
one_bucket_note (Swept round e seen count) (Swept round2 e2 seen2 count2) h =
    let k0 = both (round == round2) ((same_truth e e2) && ((seen == seen2) && (count == count2))) h in
    let k1 = both (same_truth e e2) ((seen == seen2) && (count == count2)) k0.1 in
    let k2 = both (seen == seen2) (count == count2) k1.1 in
    let e0 : round ≡ round2 = eqb-true round round2 k0.0 in
    let e1 : e ≡ e2 = one_truth e e2 k1.0 in
    let e2 : seen ≡ seen2 = eqb-true seen seen2 k2.0 in
    let e3 : count ≡ count2 = eqb-true count count2 k2.1 in
    cc
one_bucket_note (Drained count) (Drained count2) h =
    let e0 : count ≡ count2 = eqb-true count count2 h in
    cc
one_bucket_note _ _ h = cc

bucket_note_self : (a : BucketNote) → same_bucket_note a a ≡ true
bucket_note_self (Found f e seen run said) =
    and_both (f == f) ((same_truth e e) && ((seen == seen) && ((run == run) && (same_offer said said)))) (eq-eqb f f refl)
    (and_both (same_truth e e) ((seen == seen) && ((run == run) && (same_offer said said))) (same_self e)
    (and_both (seen == seen) ((run == run) && (same_offer said said)) (eq-eqb seen seen refl)
    (and_both (run == run) (same_offer said said) (eq-eqb run run refl) (offer_self said))))
bucket_note_self (Missing f e seen ended) =
    and_both (f == f) ((same_truth e e) && ((seen == seen) && (ended == ended))) (eq-eqb f f refl)
    (and_both (same_truth e e) ((seen == seen) && (ended == ended)) (same_self e)
    (and_both (seen == seen) (ended == ended) (eq-eqb seen seen refl) (eq-eqb ended ended refl)))
bucket_note_self (Made f said) = and_both (f == f) (same_offer said said) (eq-eqb f f refl) (offer_self said)
bucket_note_self (Refused f) = eq-eqb f f refl
bucket_note_self (Stored f) = eq-eqb f f refl
bucket_note_self (Stopped f) = eq-eqb f f refl
bucket_note_self (Closed f verdict run freed ended) =
    and_both (f == f) ((same_app verdict verdict) && ((run == run) && ((freed == freed) && (same_truth ended ended)))) (eq-eqb f f refl)
    (and_both (same_app verdict verdict) ((run == run) && ((freed == freed) && (same_truth ended ended))) (app_self verdict)
    (and_both (run == run) ((freed == freed) && (same_truth ended ended)) (eq-eqb run run refl)
    (and_both (freed == freed) (same_truth ended ended) (eq-eqb freed freed refl) (same_self ended))))
bucket_note_self (Idle f verdict) = and_both (f == f) (same_app verdict verdict) (eq-eqb f f refl) (app_self verdict)
bucket_note_self (Victim f run) = and_both (f == f) (run == run) (eq-eqb f f refl) (eq-eqb run run refl)
bucket_note_self (AllInUse f count) = and_both (f == f) (count == count) (eq-eqb f f refl) (eq-eqb count count refl)
bucket_note_self (Swept round e seen count) =
    and_both (round == round) ((same_truth e e) && ((seen == seen) && (count == count))) (eq-eqb round round refl)
    (and_both (same_truth e e) ((seen == seen) && (count == count)) (same_self e)
    (and_both (seen == seen) (count == count) (eq-eqb seen seen refl) (eq-eqb count count refl)))
bucket_note_self (Drained count) = eq-eqb count count refl

-- runs that left

abbrev same_gone : List Gone → List Gone → Bool
same_gone [] [] = true
same_gone (g ∷ gs) (h ∷ hs) = (g.run == h.run) && ((g.nodes == h.nodes) && same_gone gs hs)
same_gone _ _ = false

one_gone : (a b : List Gone) → same_gone a b ≡ true → a ≡ b
one_gone [] [] h = refl
one_gone (x ∷ xs) (y ∷ ys) h =
    let k0 = both (x.run == y.run) ((x.nodes == y.nodes) && same_gone xs ys) h in
    let k1 = both (x.nodes == y.nodes) (same_gone xs ys) k0.1 in
    let e0 : x.run ≡ y.run = eqb-true x.run y.run k0.0 in
    let e1 : x.nodes ≡ y.nodes = eqb-true x.nodes y.nodes k1.0 in
    let e2 : xs ≡ ys = one_gone xs ys k1.1 in
    head x.run y.run x.nodes y.nodes xs ys e0 e1 e2
  where
    head : (a b c d : ℕ) (xs ys : List Gone) → a ≡ b → c ≡ d → xs ≡ ys → record { run = a; nodes = c } ∷ xs ≡ record { run = b; nodes = d } ∷ ys
    head a b c d xs ys e i j = cc
one_gone _ _ h = cc

gone_self : (a : List Gone) → same_gone a a ≡ true
gone_self [] = refl
gone_self (x ∷ xs) =
    and_both (x.run == x.run) ((x.nodes == x.nodes) && same_gone xs xs) (eq-eqb x.run x.run refl)
    (and_both (x.nodes == x.nodes) (same_gone xs xs) (eq-eqb x.nodes x.nodes refl) (gone_self xs))

-- acts

abbrev pub same_act : Act → Act → Bool
same_act (on_pool n place) (on_pool n2 place2) = (same_pool_note n n2) && ((place == place2))
same_act (on_segments n) (on_segments n2) = same_seg_note n n2
same_act (on_bucket b n left) (on_bucket b2 n2 left2) = (b == b2) && ((same_bucket_note n n2) && ((same_gone left left2)))
same_act _ _ = false

one_act : (a b : Act) → same_act a b ≡ true → a ≡ b
one_act (on_pool n place) (on_pool n2 place2) h =
    let k0 = both (same_pool_note n n2) (place == place2) h in
    let e0 : n ≡ n2 = one_pool_note n n2 k0.0 in
    let e1 : place ≡ place2 = eqb-true place place2 k0.1 in
    cc
one_act (on_segments n) (on_segments n2) h =
    let e0 : n ≡ n2 = one_seg_note n n2 h in
    cc
one_act (on_bucket b n left) (on_bucket b2 n2 left2) h =
    let k0 = both (b == b2) ((same_bucket_note n n2) && (same_gone left left2)) h in
    let k1 = both (same_bucket_note n n2) (same_gone left left2) k0.1 in
    let e0 : b ≡ b2 = eqb-true b b2 k0.0 in
    let e1 : n ≡ n2 = one_bucket_note n n2 k1.0 in
    let e2 : left ≡ left2 = one_gone left left2 k1.1 in
    cc
one_act _ _ h = cc

act_self : (a : Act) → same_act a a ≡ true
act_self (on_pool n place) = and_both (same_pool_note n n) (place == place) (pool_note_self n) (eq-eqb place place refl)
act_self (on_segments n) = seg_note_self n
act_self (on_bucket b n left) =
    and_both (b == b) ((same_bucket_note n n) && (same_gone left left)) (eq-eqb b b refl)
    (and_both (same_bucket_note n n) (same_gone left left) (bucket_note_self n) (gone_self left))

-- entries

abbrev pub same_entries : List (Entry Act) → List (Entry Act) → Bool
same_entries [] [] = true
same_entries (x ∷ xs) (y ∷ ys) = (x.role == y.role) && ((x.step == y.step) && (same_act x.note y.note && same_entries xs ys))
same_entries _ _ = false

pub one_entries : (a b : List (Entry Act)) → same_entries a b ≡ true → a ≡ b
one_entries [] [] h = refl
one_entries (x ∷ xs) (y ∷ ys) h =
    let k0 = both (x.role == y.role) ((x.step == y.step) && (same_act x.note y.note && same_entries xs ys)) h in
    let k1 = both (x.step == y.step) (same_act x.note y.note && same_entries xs ys) k0.1 in
    let k2 = both (same_act x.note y.note) (same_entries xs ys) k1.1 in
    head x.role y.role x.step y.step x.note y.note xs ys (eqb-true x.role y.role k0.0) (eqb-true x.step y.step k1.0) (one_act x.note y.note k2.0) (one_entries xs ys k2.1)
  where
    head : (a b c d : ℕ) (m n : Act) (xs ys : List (Entry Act)) → a ≡ b → c ≡ d → m ≡ n → xs ≡ ys
        → record { role = a; step = c; note = m } ∷ xs ≡ record { role = b; step = d; note = n } ∷ ys
    head a b c d m n xs ys e i j k = cc
one_entries _ _ h = cc

pub entries_self : (a : List (Entry Act)) → same_entries a a ≡ true
entries_self [] = refl
entries_self (x ∷ xs) =
    and_both (x.role == x.role) ((x.step == x.step) && (same_act x.note x.note && same_entries xs xs)) (eq-eqb x.role x.role refl)
    (and_both (x.step == x.step) (same_act x.note x.note && same_entries xs xs) (eq-eqb x.step x.step refl)
    (and_both (same_act x.note x.note) (same_entries xs xs) (act_self x.note) (entries_self xs)))
