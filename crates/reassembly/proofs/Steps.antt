-- One part more: the stream and what waits, by the answer to it.
use Rattle.std.proofs.Common.{◌≡◌, ℕ, ◌+◌, ◌-◌, ◌<◌, ◌≤◌, cond, Bool, true, false, List, [], ◌∷◌, ◌++◌, length, get_or, Option, Some, None}
use Rattle.std.proofs.Common.{refl, sym, ap, ◌∙◌, inl, inr, ◌⊎◌, arith, length-append}
use Rattle.std.specs.Prelude.{nat_le, nat_lt, slice_get}
use Rattle.std.specs.Option.{option_or}
use Rattle.std.proofs.lemmas.Option.{slice_get-get_or}
use Rattle.suri_base.specs.declared.stream.Offer.{Offer}
use Rattle.suri_base.specs.declared.stream.Offer.TheVariants.{InOrder, Nothing, NeedsSegment, Stopped}
use Rattle.reassembly.specs.Parts.{answer_to, beyond, bytes_from, byte_at, byte_in, frontier_of, is_old, stored_of, waiting_of, Part}
use Rattle.reassembly.proofs.Bytes.{from_few, from_has, from_stretch, from_same}
use Rattle.reassembly.proofs.Waiting.{in_before, old_same, skips}

-- what an answer says
pub record Far (depth : ℕ) (parts : List Part) (p : Part) : Type 0 where
  pub fresh : is_old parts p ≡ false
  pub far : frontier_of depth parts < p.first

pub record Near (depth : ℕ) (parts : List Part) (p : Part) : Type 0 where
  pub fresh : is_old parts p ≡ false
  pub near : p.first ≤ frontier_of depth parts

module _ (depth : ℕ) (parts : List Part) (p : Part) where
  pub nothing_old : answer_to depth parts p ≡ Nothing → is_old parts p ≡ true
  nothing_old = by (is_old parts p) (nat_le p.first (frontier_of depth parts))
    where
      by : (old near : Bool) → cond old Nothing (cond near InOrder NeedsSegment) ≡ Nothing → old ≡ true
      by true near e = refl
      by false true e = cc
      by false false e = cc

  pub needs_far : answer_to depth parts p ≡ NeedsSegment → Far depth parts p
  needs_far e = record {
    fresh = (by (is_old parts p) (nat_le p.first (frontier_of depth parts)) e).0;
    far = test
        (by (is_old parts p) (nat_le p.first (frontier_of depth parts)) e).1;
  }
    where
      by : (old near : Bool) → cond old Nothing (cond near InOrder NeedsSegment) ≡ NeedsSegment → (old ≡ false) × (near ≡ false)
      by true near e = cc
      by false true e = cc
      by false false e = (refl, refl)

      test : nat_le p.first (frontier_of depth parts) ≡ false → frontier_of depth parts < p.first
      test t = grind arith

  pub order_near : answer_to depth parts p ≡ InOrder → Near depth parts p
  order_near e = record {
    fresh = (by (is_old parts p) (nat_le p.first (frontier_of depth parts)) e).0;
    near = test
        (by (is_old parts p) (nat_le p.first (frontier_of depth parts)) e).1;
  }
    where
      by : (old near : Bool) → cond old Nothing (cond near InOrder NeedsSegment) ≡ InOrder → (old ≡ false) × (near ≡ true)
      by true near e = cc
      by false true e = (refl, refl)
      by false false e = cc

      test : nat_le p.first (frontier_of depth parts) ≡ true → p.first ≤ frontier_of depth parts
      test t = grind arith

  -- no answer to a part is that the stream was stopped
  pub answer_nothing : (offer : Offer) → offer ≡ answer_to depth parts p → (offer ≡ Nothing) ⊎ (offer ≡ Stopped) → answer_to depth parts p ≡ Nothing
  answer_nothing offer is (inl nothing) = sym is ∙ nothing
  answer_nothing offer is (inr stopped) = absurd (by (is_old parts p) (nat_le p.first (frontier_of depth parts)) (sym is ∙ stopped))
    where
      by : (old near : Bool) → cond old Nothing (cond near InOrder NeedsSegment) ≡ Stopped → ⊥
      by true near e = cc
      by false true e = cc
      by false false e = cc

  -- nothing new
  pub nothing_stream : is_old parts p ≡ true → bytes_from (byte_at (p ∷ parts)) 0 depth ≡ bytes_from (byte_at parts) 0 depth
  nothing_stream old = from_same (byte_at (p ∷ parts)) (byte_at parts) 0 depth (λ i h. old_same parts p old (0 + i))

  pub nothing_waiting : is_old parts p ≡ true → waiting_of depth (p ∷ parts) ≡ waiting_of depth parts
  nothing_waiting old = rw (nothing_stream old, old) refl

  -- it waits
  pub needs_stream : Far depth parts p → bytes_from (byte_at (p ∷ parts)) 0 depth ≡ bytes_from (byte_at parts) 0 depth
  needs_stream far = from_same (byte_at (p ∷ parts)) (byte_at parts) 0 depth (λ i h. skips parts p (0 + i) (in_before p (0 + i) (omega (arith, h, far.far))))

  pub needs_waiting : Far depth parts p → waiting_of depth (p ∷ parts) ≡ p ∷ waiting_of depth parts
  needs_waiting far =
      let test : nat_lt (frontier_of depth parts) p.first ≡ true = let h = far.far in grind arith in
      let stored : stored_of depth (p ∷ parts) ≡ p ∷ stored_of depth parts = rw (far.fresh, test) refl in
      let front : frontier_of depth (p ∷ parts) ≡ frontier_of depth parts = ap length (needs_stream far) in
      let first : beyond (frontier_of depth parts) (p ∷ stored_of depth parts) ≡ p ∷ waiting_of depth parts =
      ap (λ (b : Bool). cond b (p ∷ waiting_of depth parts) (waiting_of depth parts)) test in
      ap (λ (f : ℕ). beyond f (stored_of depth (p ∷ parts))) front ∙ (ap (beyond (frontier_of depth parts)) stored ∙ first)

  -- it comes in order
  pub order_stream : bytes_from (byte_at (p ∷ parts)) 0 depth ≡ bytes_from (byte_at parts) 0 depth
      ++ bytes_from (byte_at (p ∷ parts)) (frontier_of depth parts) (depth - frontier_of depth parts)
  order_stream =
      let e : 0 + frontier_of depth parts ≡ frontier_of depth parts = omega arith in
      from_stretch (byte_at (p ∷ parts)) 0 depth (bytes_from (byte_at parts) 0 depth) (from_few (byte_at parts) 0 depth) (λ i h. still i h)
      ∙ ap (λ (k : ℕ). bytes_from (byte_at parts) 0 depth ++ bytes_from (byte_at (p ∷ parts)) k (depth - frontier_of depth parts)) e
    where
      first_some : (o q : Option ℕ) (b : ℕ) → o ≡ Some b → option_or o q ≡ o
      first_some None q b e = cc
      first_some (Some x) q b e = refl

      still : (i : ℕ) → i < length (bytes_from (byte_at parts) 0 depth) → byte_at (p ∷ parts) (0 + i) ≡ slice_get (bytes_from (byte_at parts) 0 depth) i
      still i h =
          let has = from_has (byte_at parts) 0 depth i h in
          first_some (byte_at parts (0 + i)) (byte_in p (0 + i)) (get_or (bytes_from (byte_at parts) 0 depth) i 0) (has
          ∙ slice_get-get_or (bytes_from (byte_at parts) 0 depth) i 0 h) ∙ has

  pub order_frontier : frontier_of depth (p ∷ parts)
      ≡ frontier_of depth parts + length (bytes_from (byte_at (p ∷ parts)) (frontier_of depth parts) (depth - frontier_of depth parts))
  order_frontier = ap length order_stream
      ∙ length-append (bytes_from (byte_at parts) 0 depth) (bytes_from (byte_at (p ∷ parts)) (frontier_of depth parts) (depth - frontier_of depth parts))

-- beyond one offset, and then beyond a greater one
pub beyond_beyond : (f g : ℕ) (parts : List Part) → f ≤ g → beyond g (beyond f parts) ≡ beyond g parts
beyond_beyond f g [] h = refl
beyond_beyond f g (p ∷ parts) h = by (beyond_beyond f g parts h) (nat_lt f p.first) refl (nat_lt g p.first) refl
  where
    by : beyond g (beyond f parts) ≡ beyond g parts → (a : Bool) → nat_lt f p.first ≡ a → (b : Bool) → nat_lt g p.first ≡ b
        → beyond g (beyond f (p ∷ parts)) ≡ beyond g (p ∷ parts)
    by again true is_a true is_b = rw (is_a, is_b) (ap (λ (l : List Part). p ∷ l) again)
    by again true is_a false is_b = rw (is_a, is_b) again
    by again false is_a false is_b = rw (is_a, is_b) again
    by again false is_a true is_b = absurd (clash (grind arith) (grind arith))
      where
        clash : p.first ≤ f → g < p.first → ⊥
        clash a b = omega arith

pub order_waiting : (depth : ℕ) (parts : List Part) (p : Part) → Near depth parts p
    → waiting_of depth (p ∷ parts) ≡ beyond (frontier_of depth (p ∷ parts)) (waiting_of depth parts)
order_waiting depth parts p near =
    let test : nat_lt (frontier_of depth parts) p.first ≡ false = let h = near.near in grind arith in
    let grown : frontier_of depth parts ≤ frontier_of depth (p ∷ parts) = omega (arith, order_frontier depth parts p) in
    let stored : stored_of depth (p ∷ parts) ≡ stored_of depth parts = rw (near.fresh, test) refl in
    ap (beyond (frontier_of depth (p ∷ parts))) stored
    ∙ sym (beyond_beyond (frontier_of depth parts) (frontier_of depth (p ∷ parts)) (stored_of depth parts) grown)

-- the bytes that come next are those that the part and what waits have
pub next_same : (depth : ℕ) (parts waits : List Part) (p : Part) → ((k : ℕ) → frontier_of depth parts ≤ k → byte_at waits k ≡ byte_at parts k)
    → bytes_from (byte_at (p ∷ waits)) (frontier_of depth parts) (depth - frontier_of depth parts)
    ≡ bytes_from (byte_at (p ∷ parts)) (frontier_of depth parts) (depth - frontier_of depth parts)
next_same depth parts waits p same =
    from_same (byte_at (p ∷ waits)) (byte_at (p ∷ parts)) (frontier_of depth parts) (depth - frontier_of depth parts)
    (λ i h. ap (λ (o : Option ℕ). option_or o (byte_in p (frontier_of depth parts + i))) (same (frontier_of depth parts + i) (omega arith)))
