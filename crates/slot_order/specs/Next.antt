-- The least pair above a key.
use Rattle.std.specs.Prelude.{◌≡◌, ℕ, true, false, ◌<◌, ◌≤◌, List, length, slice_index_or, Some}
use Rattle.std.specs.Ordering.{is_gt}
use Rattle.std.specs.declared.cmp.Ordering.{Ordering}
use Rattle.std.specs.declared.cmp.Ordering.TheVariants.{Greater}
use Rattle.slot_order.specs.Order.{slot_of}

-- no key before the place is above this one, and each from it on is
pub record IsCut {K : Type 0} (cmp : K → K → Ordering) (es : List (K × ℕ)) (k : K) (p : ℕ) : Type 0 where
  pub within : p ≤ length es
  pub before : (j : ℕ) (d : K × ℕ) → j < p → is_gt (cmp (slice_index_or es j d).0 k) ≡ false
  pub after : (j : ℕ) (d : K × ℕ) → p ≤ j → j < length es → cmp (slice_index_or es j d).0 k ≡ Greater

-- the pair is that of the least key above this one
pub record IsNext {K : Type 0} (cmp : K → K → Ordering) (es : List (K × ℕ)) (k : K) (e : K × ℕ) : Type 0 where
  pub there : slot_of cmp es e.0 ≡ Some e.1
  pub above : is_gt (cmp e.0 k) ≡ true
  pub least : (q : K) (s : ℕ) → slot_of cmp es q ≡ Some s → is_gt (cmp q k) ≡ true → is_gt (cmp e.0 q) ≡ false
