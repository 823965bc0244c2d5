-- The tags that were walked past so far.
use Rattle.std.proofs.Common.{◌≡◌, ◌≢◌, nat_lt, ℕ, zero, suc, ◌-◌, ◌%◌, ◌<◌, ◌≤◌, List, [], ◌∷◌, ◌++◌, length, drop, true, false, Result, Ok, Err, refl, sym, ap, ◌∙◌, arith, append_assoc, append-nil, length-append, sub-one}
use Rattle.std.proofs.lemmas.Bool.Decides.{nat_tests}
use Rattle.suri_base.specs.declared.counter.Counter.{Counter}
use Rattle.suri_base.specs.declared.counter.Counter.TheVariants.{VlanDeep, VlanSmall, Ethertype}
use Rattle.suri_base.specs.declared.key.Vlans.{Vlans}
use Rattle.header_fields.specs.Fields.{number_at}
use Rattle.packet_decode.specs.Tags.{Carried, behind_type, inside, is_tag, network_of, packet_of, vlans_of, with_id}

-- these tags were walked past, and what stands behind them leads to the answer for all
pub record SoFar (first : ℕ) (bytes : List ℕ) (vlans : Vlans) (ethertype : ℕ) (rest : List ℕ) : Type 0 where
  pub ids : List ℕ
  pub few : length ids ≤ 3
  pub listed : vlans ≡ vlans_of ids
  pub same : inside ids (behind_type (3 - length ids) ethertype rest) ≡ behind_type 3 first bytes

-- a packet inside no tags
inside-nil : (carried : Result Carried Counter) → inside [] carried ≡ carried
inside-nil (Ok c) = refl
inside-nil (Err counter) = refl

-- a packet inside tags that stand inside tags
inside-append : (xs ys : List ℕ) (carried : Result Carried Counter) → inside xs (inside ys carried) ≡ inside (xs ++ ys) carried
inside-append xs ys (Ok c) = ap (λ ids. Ok (record { ids = ids; version = c.version; packet = c.packet })) (sym (append_assoc xs ys c.ids))
inside-append xs ys (Err counter) = refl

-- before the first tag
pub at_start : (first : ℕ) (bytes : List ℕ) → SoFar first bytes (record { count = 0; first = 0; second = 0; third = 0 }) first bytes
at_start first bytes = record { ids = []; few = omega arith; listed = refl; same = inside-nil (behind_type 3 first bytes) }

-- one id more at the end of the list
with_id-vlans_of : (ids : List ℕ) (id : ℕ) → length ids < 3 → with_id (vlans_of ids) id ≡ vlans_of (ids ++ id ∷ [])
with_id-vlans_of [] id few = refl
with_id-vlans_of (a ∷ []) id few = refl
with_id-vlans_of (a ∷ b ∷ []) id few = refl
with_id-vlans_of (a ∷ b ∷ c ∷ rest) id few = absurd (omega arith)

-- a tag, where one may come
pub behind_type-tag : (room ethertype : ℕ) (rest : List ℕ) → 0 < room → is_tag ethertype ≡ true → 4 ≤ length rest
    → behind_type room ethertype rest ≡ inside (number_at 2 0 rest % 4096 ∷ []) (behind_type (room - 1) (number_at 2 2 rest) (drop 4 rest))
unfolding behind_type
behind_type-tag zero ethertype rest some tag long = absurd (omega arith)
behind_type-tag (suc room) ethertype rest some tag long =
    let whole : nat_lt (length rest) 4 ≡ false = grind (arith, nat_tests) in
    rw (tag, whole, sub-one) refl

-- a tag that is cut off
pub behind_type-cut : (room ethertype : ℕ) (rest : List ℕ) → 0 < room → is_tag ethertype ≡ true → length rest < 4 → behind_type room ethertype rest ≡ Err VlanSmall
unfolding behind_type
behind_type-cut zero ethertype rest some tag short = absurd (omega arith)
behind_type-cut (suc room) ethertype rest some tag short =
    let cut : nat_lt (length rest) 4 ≡ true = grind (arith, nat_tests) in
    rw (tag, cut) refl

-- a tag too many
pub behind_type-deep : (ethertype : ℕ) (rest : List ℕ) → is_tag ethertype ≡ true → behind_type 0 ethertype rest ≡ Err VlanDeep
unfolding behind_type
behind_type-deep ethertype rest tag = rw tag refl

-- no tag
pub behind_type-packet : (room ethertype : ℕ) (rest : List ℕ) → is_tag ethertype ≡ false → behind_type room ethertype rest ≡ packet_of ethertype rest
unfolding behind_type
behind_type-packet zero ethertype rest none = rw none refl
behind_type-packet (suc room) ethertype rest none = rw none refl

pub one_more : (first : ℕ) (bytes : List ℕ) (vlans next : Vlans) (ethertype : ℕ) (rest : List ℕ) → SoFar first bytes vlans ethertype rest → is_tag ethertype ≡ true
    → vlans.count ≢ 3 → 4 ≤ length rest → next ≡ with_id vlans (number_at 2 0 rest % 4096) → SoFar first bytes next (number_at 2 2 rest) (drop 4 rest)
one_more first bytes vlans next ethertype rest s tag room long is =
    let counted : vlans.count ≡ length s.ids = ap (λ (v : Vlans). v.count) s.listed in
    let few : length s.ids < 3 = omega (arith, s.few) in
    let step = behind_type-tag (3 - length s.ids) ethertype rest (omega arith) tag long in
    let left : 3 - length (s.ids ++ number_at 2 0 rest % 4096 ∷ []) ≡ 3 - length s.ids - 1 = omega (arith, length-append s.ids (number_at 2 0 rest % 4096 ∷ [])) in
    record {
      ids = s.ids ++ number_at 2 0 rest % 4096 ∷ [];
      few = omega (arith, length-append s.ids (number_at 2 0 rest % 4096 ∷ []));
      listed = is ∙ ap (λ (v : Vlans). with_id v (number_at 2 0 rest % 4096)) s.listed ∙ with_id-vlans_of s.ids (number_at 2 0 rest % 4096) few;
      same = ap (λ n. inside (s.ids ++ number_at 2 0 rest % 4096 ∷ []) (behind_type n (number_at 2 2 rest) (drop 4 rest))) left
          ∙ sym (inside-append s.ids (number_at 2 0 rest % 4096 ∷ []) (behind_type (3 - length s.ids - 1) (number_at 2 2 rest) (drop 4 rest)))
          ∙ ap (inside s.ids) (sym step) ∙ s.same;
    }

pub deep : (first : ℕ) (bytes : List ℕ) (vlans : Vlans) (ethertype : ℕ) (rest : List ℕ) → SoFar first bytes vlans ethertype rest → is_tag ethertype ≡ true
    → vlans.count ≡ 3 → Err VlanDeep ≡ network_of (behind_type 3 first bytes)
deep first bytes vlans ethertype rest s tag full =
    let none : 3 - length s.ids ≡ 0 = omega (arith, ap (λ (v : Vlans). v.count) s.listed) in
    let here : behind_type 3 first bytes ≡ Err VlanDeep =
    sym s.same ∙ ap (λ n. inside s.ids (behind_type n ethertype rest)) none ∙ ap (inside s.ids) (behind_type-deep ethertype rest tag) in
    ap network_of (sym here)

pub cut : (first : ℕ) (bytes : List ℕ) (vlans : Vlans) (ethertype : ℕ) (rest : List ℕ) → SoFar first bytes vlans ethertype rest → is_tag ethertype ≡ true
    → vlans.count ≢ 3 → length rest < 4 → Err VlanSmall ≡ network_of (behind_type 3 first bytes)
cut first bytes vlans ethertype rest s tag room short =
    let counted : vlans.count ≡ length s.ids = ap (λ (v : Vlans). v.count) s.listed in
    let few : length s.ids < 3 = omega (arith, s.few) in
    let here : behind_type 3 first bytes ≡ Err VlanSmall =
    sym s.same ∙ ap (inside s.ids) (behind_type-cut (3 - length s.ids) ethertype rest (omega arith) tag short) in
    ap network_of (sym here)

-- the packet of this version stands there
pub found : (first : ℕ) (bytes : List ℕ) (vlans : Vlans) (ethertype version : ℕ) (rest : List ℕ) → SoFar first bytes vlans ethertype rest → is_tag ethertype ≡ false
    → packet_of ethertype rest ≡ Ok (record { ids = []; version = version; packet = rest })
    → Ok (record { vlans = vlans; version = version; len = length rest }) ≡ network_of (behind_type 3 first bytes)
found first bytes vlans ethertype version rest s none is =
    let here : behind_type 3 first bytes ≡ Ok (record { ids = s.ids ++ []; version = version; packet = rest }) =
    sym s.same ∙ ap (inside s.ids) (behind_type-packet (3 - length s.ids) ethertype rest none ∙ is) in
    let all : vlans ≡ vlans_of (s.ids ++ []) = s.listed ∙ ap vlans_of (sym (append-nil s.ids)) in
    ap (λ (v : Vlans). Ok (record { vlans = v; version = version; len = length rest })) all ∙ ap network_of (sym here)

-- no packet of the two versions stands there
pub unknown : (first : ℕ) (bytes : List ℕ) (vlans : Vlans) (ethertype : ℕ) (rest : List ℕ) → SoFar first bytes vlans ethertype rest → is_tag ethertype ≡ false
    → packet_of ethertype rest ≡ Err Ethertype → Err Ethertype ≡ network_of (behind_type 3 first bytes)
unknown first bytes vlans ethertype rest s none is =
    let here : behind_type 3 first bytes ≡ Err Ethertype =
    sym s.same ∙ ap (inside s.ids) (behind_type-packet (3 - length s.ids) ethertype rest none ∙ is) in
    ap network_of (sym here)
