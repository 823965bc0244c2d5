-- What the maps tell, when one frame more stands before the others.
use Rattle.std.proofs.Common.{◌≡◌, ℕ, Bool, true, false, not, cond, if◌then◌else◌, List, ◌∷◌, Option, refl, ap, sym, ◌∙◌, inl, inr, ◌⊎◌}
use Rattle.std.specs.HashMap.{get}
use Rattle.std.specs.Prelude.{Some, None, unwrap_or}
use Rattle.suri_base.proofs.SameKeys.{bool_is, same_key-is}
use Rattle.suri_base.specs.Capture.{next_in}
use Rattle.suri_base.specs.Keys.{same_key}
use Rattle.suri_base.specs.declared.facts.Facts.{Facts}
use Rattle.suri_base.specs.declared.key.Key.{Key}
use Rattle.suri_base.specs.declared.seen.Seen.{Seen}
use Rattle.suri_base.specs.declared.seen.Seen.TheVariants.{Bears}
use Rattle.capture_index.specs.Links.{Tells}
use Rattle.capture_index.specs.Short.{is_short, same_by_key, same_short, shortened}
use Rattle.capture_index.specs.declared.by_key.ByKey.{ByKey}
use Rattle.capture_index.specs.declared.by_key.ShortKey.{ShortKey}
use Rattle.capture_index.specs.declared.firsts.Firsts.{Firsts}
use Rattle.capture_index.proofs.Nexts.{next_push}

-- what a choice tells
chosen : {X : Type 0} (b : Bool) (x y : X) → Some y ≡ (if b then Some x else None) → (b ≡ true) × (y ≡ x)
chosen true x y is = let same : y ≡ x = cc in (refl, same)
chosen false x y is = cc

not_chosen : {X : Type 0} (b : Bool) (x : X) → None ≡ (if b then Some x else None) → b ≡ false
not_chosen true x is = cc
not_chosen false x is = refl

-- what one of the two maps has at a key
abbrev number_in : Bool → Firsts → Key → Option ℕ
number_in s m k = if s then get same_short m.short (shortened k) else get same_by_key m.long (record { key = k })

cond_number : (b : Bool) (n : ℕ) (o : Option ℕ) → unwrap_or (cond b (Some n) o) 0 ≡ cond b n (unwrap_or o 0)
cond_number true n o = refl
cond_number false n o = refl

-- a key of the other map is another key
apart : (s b : Bool) (key q : Key) → is_short key ≡ s → is_short q ≡ b → (s ≡ b) ⊎ (same_key key q ≡ false)
apart s b key q short other = by (bool_is (same_key key q))
  where
    by : (same_key key q ≡ true) ⊎ (same_key key q ≡ false) → (s ≡ b) ⊎ (same_key key q ≡ false)
    by (inr differ) = inr differ
    by (inl same) = inl (sym short ∙ ap is_short (same_key-is key q same) ∙ other)

-- one map has the frame's number at its key, and the other map is as it was
number_put : (s b : Bool) (m n : Firsts) (key q : Key) (number : ℕ) → number_in s n q ≡ cond (same_key key q) (Some number) (number_in s m q) → number_in (not s) n q ≡ number_in (not s) m q
    → (s ≡ b) ⊎ (same_key key q ≡ false) → unwrap_or (number_in b n q) 0 ≡ cond (same_key key q) number (unwrap_or (number_in b m q) 0)
number_put true true m n key q number put kept so = ap (λ (o : Option ℕ). unwrap_or o 0) put ∙ cond_number (same_key key q) number (number_in true m q)
number_put false false m n key q number put kept so = ap (λ (o : Option ℕ). unwrap_or o 0) put ∙ cond_number (same_key key q) number (number_in false m q)
number_put true false m n key q number put kept (inl so) = cc
number_put false true m n key q number put kept (inl so) = cc
number_put true false m n key q number put kept (inr other) = ap (λ (o : Option ℕ). unwrap_or o 0) kept ∙ ap (λ (b : Bool). cond b number (unwrap_or (number_in false m q) 0)) (sym other)
number_put false true m n key q number put kept (inr other) = ap (λ (o : Option ℕ). unwrap_or o 0) kept ∙ ap (λ (b : Bool). cond b number (unwrap_or (number_in true m q) 0)) (sym other)

all_put : (s : Bool) (m n : Firsts) (key : Key) (number : ℕ) (f : Facts) (behind : List Seen) → is_short key ≡ s
    → ((q : Key) → number_in s n q ≡ cond (same_key key q) (Some number) (number_in s m q)) → ((q : Key) → number_in (not s) n q ≡ number_in (not s) m q)
    → f.key ≡ key → f.no ≡ number → Tells m behind → Tells n (Bears f ∷ behind)
all_put s m n key number f behind short put kept key_is number_is tells q =
    number_put s (is_short q) m n key q number (put q) (kept q) (apart s (is_short q) key q short refl) ∙ ap (λ (k : ℕ). cond (same_key key q) number k) (tells q)
    ∙ ap (λ (k : Key). cond (same_key k q) number (next_in q behind)) (sym key_is) ∙ ap (λ (k : ℕ). cond (same_key f.key q) k (next_in q behind)) (sym number_is) ∙ sym (next_push q f behind)

pub short_put : (m n : Firsts) (key : Key) (s : ShortKey) (number : ℕ) (f : Facts) (behind : List Seen) → Some s ≡ (if is_short key then Some (shortened key) else None)
    → ((q : ShortKey) → get same_short n.short q ≡ cond (same_short s q) (Some number) (get same_short m.short q)) → n.long ≡ m.long
    → f.key ≡ key → f.no ≡ number → Tells m behind → Tells n (Bears f ∷ behind)
short_put m n key s number f behind is put kept =
    let so = chosen (is_short key) (shortened key) s is in
    all_put true m n key number f behind so.0 (λ q. put (shortened q) ∙ ap (λ (t : ShortKey). cond (same_short t (shortened q)) (Some number) (get same_short m.short (shortened q))) so.1)
    (λ q. ap (λ l. get same_by_key l (record { key = q })) kept)

pub long_put : (m n : Firsts) (key : Key) (number : ℕ) (f : Facts) (behind : List Seen) → None ≡ (if is_short key then Some (shortened key) else None)
    → ((q : ByKey) → get same_by_key n.long q ≡ cond (same_by_key (record { key = key }) q) (Some number) (get same_by_key m.long q)) → n.short ≡ m.short
    → f.key ≡ key → f.no ≡ number → Tells m behind → Tells n (Bears f ∷ behind)
long_put m n key number f behind is put kept =
    all_put false m n key number f behind (not_chosen (is_short key) (shortened key) is) (λ q. put (record { key = q })) (λ q. ap (λ l. get same_short l (shortened q)) kept)
