-- Each packet that was answered is a member of one run, or was refused.
use Rattle.std.proofs.Common.{◌≡◌, ℕ, ◌==◌, ◌<◌, ◌≤◌, Bool, true, false, cond, ◌||◌, List, [], ◌∷◌, ◌++◌, reverse, Option, Some, None, ◌⊎◌, ⊎_elim, inl, inr, refl, sym, ◌∙◌, ap, subst, eqb-true, arith}
use Rattle.std.specs.Prelude.{All}
use Rattle.std.proofs.lemmas.List.{reverse-append}
use Rattle.std.proofs.lemmas.List.Elements.{All-cons, All-head, All-nil, All-tail}
use Rattle.suri_base.specs.Capture.{IsCapture, packets_in}
use Rattle.suri_base.specs.Dealing.{bucket_of}
use Rattle.suri_base.specs.Keys.{key_list, same_key}
use Rattle.suri_base.specs.declared.entry.BucketNote.{BucketNote}
use Rattle.suri_base.specs.declared.entry.Entry.{Entry}
use Rattle.suri_base.specs.declared.facts.Facts.{Facts}
use Rattle.suri_base.specs.declared.key.Key.{Key}
use Rattle.suri_base.proofs.SameKeys.{same_key-is, same_key-refl}
use Rattle.flow_sum.specs.Run.{first_of}
use Rattle.bucket_rules.specs.Own.{is_refused}
use Rattle.bucket_rules.specs.Packets.{bearing, has_key}
use Rattle.bucket_rules.specs.Row.{Row, row, has, made}
use Rattle.bucket_rules.specs.Rule.{IsLegal}
use Rattle.bucket_rules.specs.declared.fixed.Fixed.{Fixed}
use Rattle.bucket_rules.proofs.Soundness.{sound}
use Rattle.bucket_rules.proofs.Words.{true_false}
use Rattle.bucket_laws.specs.Draining.{is_drained}
use Rattle.bucket_laws.specs.Keys.{answers, answered, if_bears, Falls, Piece, piece, pieces, all_packets, packets_of, has_piece, if_key, AreApart, IsPlaced, in_run, is_refused_at}
use Rattle.bucket_laws.specs.Places.{In}
use Rattle.bucket_laws.proofs.Answering.{all_answered, answered_falls}
use Rattle.bucket_laws.proofs.Cutting.{key_cut}
use Rattle.bucket_laws.proofs.Listing.{in_filter, in_right}
use Rattle.bucket_laws.proofs.Steps.{bears_one}
use Rattle.bucket_laws.proofs.Tests.{no_false, no_true, same}

-- lists that fall

in_both : (t : Facts) (xs ys : List Facts) → In t (xs ++ ys) → In t xs ⊎ In t ys
in_both t [] ys i = inr i
in_both t (x ∷ xs) ys (inl e) = inl (inl e)
in_both t (x ∷ xs) ys (inr j) = ⊎_elim (λ k. inl (inr k)) (λ k. inr k) (in_both t xs ys j)

in_left : (t : Facts) (xs ys : List Facts) → In t xs → In t (xs ++ ys)
in_left t [] ys i = absurd i
in_left t (x ∷ xs) ys (inl e) = inl e
in_left t (x ∷ xs) ys (inr j) = inr (in_left t xs ys j)

all_in : (n : ℕ) (t : Facts) (ts : List Facts) → All (λ (u : Facts). u.no < n) ts → In t ts → t.no < n
all_in n t [] a i = absurd i
all_in n t (u ∷ ts) a (inl e) = subst (λ (v : Facts). v.no < n) e (All-head (λ (v : Facts). v.no < n) u ts a)
all_in n t (u ∷ ts) a (inr j) = all_in n t ts (All-tail (λ (v : Facts). v.no < n) u ts a) j

-- a packet stands once in lists that fall, one behind the other
apart_lists : (t : Facts) (xs ys : List Facts) → Falls (xs ++ ys) → In t xs → In t ys → ⊥
apart_lists t [] ys f i j = absurd i
apart_lists t (x ∷ xs) ys f (inl e) j = let k = all_in x.no t (xs ++ ys) f.0 (in_right t xs ys j) in omega (arith, k, ap (λ (u : Facts). u.no) e)
apart_lists t (x ∷ xs) ys f (inr i) j = apart_lists t xs ys f.1 i j

all_left : (n : ℕ) (xs ys : List Facts) → All (λ (u : Facts). u.no < n) (xs ++ ys) → All (λ (u : Facts). u.no < n) xs
all_left n [] ys a = All-nil (λ (u : Facts). u.no < n)
all_left n (x ∷ xs) ys a =
    All-cons (λ (u : Facts). u.no < n) x xs (All-head (λ (u : Facts). u.no < n) x (xs ++ ys) a)
    (all_left n xs ys (All-tail (λ (u : Facts). u.no < n) x (xs ++ ys) a))

falls_left : (xs ys : List Facts) → Falls (xs ++ ys) → Falls xs
falls_left [] ys f = tt
falls_left (x ∷ xs) ys f = (all_left x.no xs ys f.0, falls_left xs ys f.1)

falls_right : (xs ys : List Facts) → Falls (xs ++ ys) → Falls ys
falls_right [] ys f = f
falls_right (x ∷ xs) ys f = falls_right xs ys f.1

-- pieces

in_piece : (t : Facts) (a : ℕ) (ps : List Piece) → In t (packets_of a ps) → In t (all_packets ps)
in_piece t a [] i = absurd i
in_piece t a (p ∷ ps) i = by (p.run == a) i (λ j. in_piece t a ps j)
  where
    by : (b : Bool) → In t (cond b p.packets (packets_of a ps)) → (In t (packets_of a ps) → In t (all_packets ps)) → In t (p.packets ++ all_packets ps)
    by true i more = in_left t p.packets (all_packets ps) i
    by false i more = in_right t p.packets (all_packets ps) (more i)

piece_falls : (a : ℕ) (ps : List Piece) → Falls (all_packets ps) → Falls (packets_of a ps)
piece_falls a [] f = tt
piece_falls a (p ∷ ps) f = by (p.run == a) (piece_falls a ps (falls_right p.packets (all_packets ps) f))
  where
    by : (b : Bool) → Falls (packets_of a ps) → Falls (cond b p.packets (packets_of a ps))
    by true g = falls_left p.packets (all_packets ps) f
    by false g = g

-- a packet is in one piece
one_piece : (t : Facts) (a b : ℕ) (ps : List Piece) → Falls (all_packets ps) → In t (packets_of a ps) → In t (packets_of b ps) → a ≡ b
one_piece t a b [] f i j = absurd i
one_piece t a b (p ∷ ps) f i j = by (p.run == a) (p.run == b) refl refl i j (λ k l. one_piece t a b ps (falls_right p.packets (all_packets ps) f) k l)
  where
    by : (c d : Bool) → (p.run == a) ≡ c → (p.run == b) ≡ d → In t (cond c p.packets (packets_of a ps)) → In t (cond d p.packets (packets_of b ps))
        → (In t (packets_of a ps) → In t (packets_of b ps) → a ≡ b) → a ≡ b
    by true true e g i j more = sym (eqb-true p.run a e) ∙ eqb-true p.run b g
    by true false e g i j more = absurd (apart_lists t p.packets (all_packets ps) f i (in_piece t b ps j))
    by false true e g i j more = absurd (apart_lists t p.packets (all_packets ps) f j (in_piece t a ps i))
    by false false e g i j more = more i j

-- and a refused one in no run's
not_both : (t : Facts) (a : ℕ) (ps : List Piece) → 1 ≤ a → Falls (all_packets ps) → In t (packets_of a ps) → In (piece 0 (t ∷ [])) ps → ⊥
not_both t a [] q f i j = absurd i
not_both t a (p ∷ ps) q f i (inl e) = by (p.run == a) refl i
  where
    own : In t p.packets
    own = subst (λ (x : Piece). In t x.packets) (sym e) (inl refl)

    by : (c : Bool) → (p.run == a) ≡ c → In t (cond c p.packets (packets_of a ps)) → ⊥
    by true g i = omega (arith, q, eqb-true p.run a g, ap (λ (x : Piece). x.run) e)
    by false g i = apart_lists t p.packets (all_packets ps) f own (in_piece t a ps i)
not_both t a (p ∷ ps) q f i (inr j) = by (p.run == a) i (λ k. not_both t a ps q (falls_right p.packets (all_packets ps) f) k j)
  where
    in_pieces : (qs : List Piece) → In (piece 0 (t ∷ [])) qs → In t (all_packets qs)
    in_pieces [] j = absurd j
    in_pieces (x ∷ qs) (inl e) = in_left t x.packets (all_packets qs) (subst (λ (y : Piece). In t y.packets) (sym e) (inl refl))
    in_pieces (x ∷ qs) (inr j) = in_right t x.packets (all_packets qs) (in_pieces qs j)

    by : (c : Bool) → In t (cond c p.packets (packets_of a ps)) → (In t (packets_of a ps) → ⊥) → ⊥
    by true i more = apart_lists t p.packets (all_packets ps) f i (in_pieces ps j)
    by false i more = more i

has_some : (t : Facts) (a : ℕ) (ps : List Piece) → In t (packets_of a ps) → has_piece a ps ≡ true
has_some t a [] i = absurd i
has_some t a (p ∷ ps) i = by (p.run == a) i (λ k. has_some t a ps k)
  where
    by : (c : Bool) → In t (cond c p.packets (packets_of a ps)) → (In t (packets_of a ps) → has_piece a ps ≡ true) → (c || has_piece a ps) ≡ true
    by true i more = refl
    by false i more = more i

-- where a packet of some pieces is
abbrev Found : Fixed → List (Entry BucketNote) → List Piece → Facts → Type 0
Found s past ps t = ((a : ℕ) × (1 ≤ a) × In t (packets_of a ps)) ⊎ ((f : ℕ) × (bearing s.capture f ≡ Some t) × (is_refused f past ≡ true))

found : (s : Fixed) (past : List (Entry BucketNote)) (t : Facts) (ps : List Piece) → AreApart s past ps → In t (all_packets ps) → Found s past ps t
found s past t [] a i = absurd i
found s past t (p ∷ ps) a i = ⊎_elim (λ j. here j (number p.run)) (λ j. there (found s past t ps a.2 j)) (in_both t p.packets (all_packets ps) i)
  where
    number : (n : ℕ) → (n ≡ 0) ⊎ (1 ≤ n)
    number n = grind arith

    here : In t p.packets → (p.run ≡ 0) ⊎ (1 ≤ p.run) → Found s past (p ∷ ps) t
    here j (inl z) =
        let r = a.1 z in
        inr (r.frame, r.bears ∙ ap (λ (u : Facts). Some u) (only r.packet (subst (λ (ts : List Facts). In t ts) r.alone j)), r.refused)
      where
        only : (u : Facts) → In t (u ∷ []) → u ≡ t
        only u (inl e) = e
        only u (inr k) = absurd k
    here j (inr q) = inl (p.run, q, subst (λ (c : Bool). In t (cond c p.packets (packets_of p.run ps))) (sym (same p.run p.run refl)) j)

    there : Found s past ps t → Found s past (p ∷ ps) t
    there (inr z) = inr z
    there (inl z) = inl (z.0, z.1, by (p.run == z.0) refl)
      where
        by : (c : Bool) → (p.run == z.0) ≡ c → In t (cond c p.packets (packets_of z.0 ps))
        by true e =
            let q : p.run ≡ z.0 = eqb-true p.run z.0 e in
            absurd (true_false (has_some t z.0 ps z.2) (subst (λ (x : ℕ). has_piece x ps ≡ false) q (a.0 (subst (λ (x : ℕ). 1 ≤ x) (sym q) z.1))))
        by false e = z.2

in_key : (k : Key) (t : Facts) (ms : List Facts) → In t (if_key k ms) → In t ms
in_key k t ms i = by (has_key ms k) i
  where
    by : (c : Bool) → In t (cond c ms []) → In t ms
    by true i = i
    by false i = absurd i

-- each answered packet is a member of a run, or was refused
pub placed : (s : Fixed) (k : Key) (history : List (Entry BucketNote)) (t : Facts) → IsLegal s history → In t (answered s k history) → IsPlaced s history t
placed s k history t l i =
    let c = key_cut s k history l in
    ⊎_elim
    (λ z. in_run z.0 (in_key k t (row s z.0 history).members (subst (λ (ts : List Facts). In t ts) (c.runs z.0 z.1) z.2)))
    (λ z. is_refused_at z.0 z.1 z.2)
    (found s history t (pieces s k history) c.apart (subst (λ (ts : List Facts). In t ts) (sym c.whole) i))

in_reverse : (t : Facts) (ts : List Facts) → In t ts → In t (reverse ts)
in_reverse t [] i = i
in_reverse t (u ∷ ts) i = subst (λ (us : List Facts). In t us) (sym (reverse-append (u ∷ []) ts)) (by i (λ j. in_reverse t ts j))
  where
    by : In t (u ∷ ts) → (In t ts → In t (reverse ts)) → In t (reverse ts ++ u ∷ [])
    by (inl e) more = in_right t (reverse ts) (u ∷ []) (inl e)
    by (inr j) more = in_left t (reverse ts) (u ∷ []) (more j)

pub all_placed : (s : Fixed) (history : List (Entry BucketNote)) (t : Facts) → IsLegal s history → is_drained history ≡ true
    → In t (packets_in s.capture.seen) → bucket_of t.key s.layout.rows ≡ s.number → IsPlaced s history t
all_placed s history t l x i mine = placed s t.key history t l
    (subst (λ (ts : List Facts). In t ts) (sym (all_answered s t.key history l x mine))
    (in_reverse t (key_list t.key (packets_in s.capture.seen)) (in_filter (λ (p : Facts). same_key p.key t.key) t (packets_in s.capture.seen) (same_key-refl t.key) i)))

-- the members of a run are one of the pieces of its key

answered_keyed : (s : Fixed) (k : Key) (past : List (Entry BucketNote)) (t : Facts) → In t (answered s k past) → t.key ≡ k
answered_keyed s k [] t i = absurd i
answered_keyed s k (e ∷ past) t i = one (bearing s.capture (answers e.note)) i (λ j. answered_keyed s k past t j)
  where
    one : (o : Option Facts) → In t (if_bears k o (λ u. u ∷ answered s k past) (answered s k past)) → (In t (answered s k past) → t.key ≡ k) → t.key ≡ k
    one None i more = more i
    one (Some u) i more = by (same_key u.key k) refl i
      where
        by : (c : Bool) → same_key u.key k ≡ c → In t (cond c (u ∷ answered s k past) (answered s k past)) → t.key ≡ k
        by true h (inl q) = subst (λ (v : Facts). v.key ≡ k) q (same_key-is u.key k h)
        by true h (inr j) = more j
        by false h j = more j

record IsOneOf (s : Fixed) (history : List (Entry BucketNote)) (a : ℕ) : Type 0 where
  key : Key
  real : 1 ≤ a
  has : has_key (row s a history).members key ≡ true
  packets : packets_of a (pieces s key history) ≡ (row s a history).members

run_piece : (s : Fixed) (history : List (Entry BucketNote)) (a : ℕ) (t : Facts) → IsLegal s history → In t (row s a history).members → IsOneOf s history a
run_piece s history a t l i = by (row s a history).members refl i
  where
    began : has (made history) a ≡ true
    began = no_false (has (made history) a) (λ x. subst (λ (w : Row). In t w.members) ((sound s history l).begun a x) i)

    pos : 1 ≤ a
    pos = let b = (sound s history l).borne a began in bears_one s a b.0 b.1

    by : (ms : List Facts) → (row s a history).members ≡ ms → In t ms → IsOneOf s history a
    by [] e j = absurd j
    by (m ∷ ms) e j =
        let k = (first_of (record { newest = m; older = ms })).key in
        let h : has_key (row s a history).members k ≡ true = subst (λ (us : List Facts). has_key us k ≡ true) (sym e) (same_key-refl k) in
        record { key = k; real = pos; has = h; packets = (key_cut s k history l).runs a pos ∙ ap (λ (c : Bool). cond c (row s a history).members []) h }

member_key : (s : Fixed) (history : List (Entry BucketNote)) (a : ℕ) (t : Facts) → IsLegal s history → (z : IsOneOf s history a)
    → In t (row s a history).members → t.key ≡ z.key
member_key s history a t l z i = answered_keyed s z.key history t
    (subst (λ (ts : List Facts). In t ts) (key_cut s z.key history l).whole (in_piece t a (pieces s z.key history) (subst (λ (ts : List Facts). In t ts) (sym z.packets) i)))

-- a run's members bear its key
pub keyed : (s : Fixed) (history : List (Entry BucketNote)) (a : ℕ) (t : Facts) → IsLegal s history → In t (row s a history).members
    → has_key (row s a history).members t.key ≡ true
keyed s history a t l i =
    let z = run_piece s history a t l i in
    subst (λ (k : Key). has_key (row s a history).members k ≡ true) (sym (member_key s history a t l z i)) z.has

pieces_fall : (s : Fixed) (k : Key) (history : List (Entry BucketNote)) → IsCapture s.capture → IsLegal s history → Falls (all_packets (pieces s k history))
pieces_fall s k history is l = subst Falls (sym (key_cut s k history l).whole) (answered_falls s k history is l)

-- and come in file order
pub members_fall : (s : Fixed) (history : List (Entry BucketNote)) (a : ℕ) → IsCapture s.capture → IsLegal s history → Falls (row s a history).members
members_fall s history a is l = by (row s a history).members refl
  where
    by : (ms : List Facts) → (row s a history).members ≡ ms → Falls ms
    by [] e = tt
    by (m ∷ ms) e =
        let z = run_piece s history a m l (subst (λ (us : List Facts). In m us) (sym e) (inl refl)) in
        subst Falls (z.packets ∙ e) (piece_falls a (pieces s z.key history) (pieces_fall s z.key history is l))

-- a packet is a member of one run
pub one_run : (s : Fixed) (history : List (Entry BucketNote)) (a b : ℕ) (t : Facts) → IsCapture s.capture → IsLegal s history
    → In t (row s a history).members → In t (row s b history).members → a ≡ b
one_run s history a b t is l i j =
    let y = run_piece s history a t l i in
    let z = run_piece s history b t l j in
    let e : z.key ≡ y.key = sym (member_key s history b t l z j) ∙ member_key s history a t l y i in
    one_piece t a b (pieces s y.key history) (pieces_fall s y.key history is l)
    (subst (λ (ts : List Facts). In t ts) (sym y.packets) i)
    (subst (λ (k : Key). In t (packets_of b (pieces s k history))) e (subst (λ (ts : List Facts). In t ts) (sym z.packets) j))

-- and then it wasn't refused
pub unrefused : (s : Fixed) (history : List (Entry BucketNote)) (a f : ℕ) (t : Facts) → IsCapture s.capture → IsLegal s history
    → In t (row s a history).members → bearing s.capture f ≡ Some t → is_refused f history ≡ false
unrefused s history a f t is l i b =
    let z = run_piece s history a t l i in
    no_true (is_refused f history) (λ x. not_both t a (pieces s z.key history) z.real (pieces_fall s z.key history is l)
    (subst (λ (ts : List Facts). In t ts) (sym z.packets) i)
    ((key_cut s z.key history l).refused f t b (subst (λ (k : Key). same_key t.key k ≡ true) (member_key s history a t l z i) (same_key-refl t.key)) x))
