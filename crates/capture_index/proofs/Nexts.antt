-- The next frame of a key, when one frame more stands before the others.
use Rattle.std.proofs.Common.{◌≡◌, ℕ, zero, suc, ◌+◌, ◌<◌, Bool, true, false, cond, List, [], ◌∷◌, ◌++◌, refl, ap, sym, ◌∙◌, subst, take, drop, length, map, get_or, append_assoc, append-nil, length-take, arith}
use Rattle.std.proofs.Math.ListN.{set}
use Rattle.std.proofs.lemmas.List.{drop_all, length-map, take_all}
use Rattle.std.specs.Prelude.{Some, None}
use Rattle.suri_base.specs.Capture.{key_in, linked_to, next_in, packets_in}
use Rattle.suri_base.specs.Keys.{first_no, key_list, same_key}
use Rattle.suri_base.specs.Slot.{packed}
use Rattle.suri_base.specs.declared.facts.Facts.{Facts}
use Rattle.suri_base.specs.declared.key.Key.{Key}
use Rattle.suri_base.specs.declared.seen.Seen.{Seen}
use Rattle.suri_base.specs.declared.seen.Seen.TheVariants.{Bears, Counted}
use Rattle.suri_base.specs.declared.slot.Slot.{Slot}
use Rattle.capture_index.specs.Links.{AreAt, IsAt, Tells, linked_before, linked_one}
use Rattle.capture_index.specs.declared.firsts.Firsts.{Firsts}

first_push : (b : Bool) (f : Facts) (l : List Facts) → first_no (cond b (f ∷ l) l) ≡ cond b f.no (first_no l)
first_push true f l = refl
first_push false f l = refl

-- a packet is the first one of its own key, and changes nothing for the others
pub next_push : (k : Key) (f : Facts) (seen : List Seen) → next_in k (Bears f ∷ seen) ≡ cond (same_key f.key k) f.no (next_in k seen)
next_push k f seen = first_push (same_key f.key k) f (key_list k (packets_in seen))

-- a frame with a key bears a flow
pub is_linked : (seen : Seen) (behind : List Seen) (key : Key) (next : ℕ) (slot : Slot) → Some key ≡ key_in seen → next ≡ next_in key behind → slot ≡ packed (linked_to next seen)
    → slot ≡ packed (linked_one seen behind)
is_linked (Bears f) behind key next slot bears is made =
    let same : key ≡ f.key = cc in
    made ∙ ap (λ (n : ℕ). packed (linked_to n (Bears f))) (is ∙ ap (λ (k : Key). next_in k behind) same)
is_linked (Counted c) behind key next slot bears is made = made

pub is_told : (seen : Seen) (behind : List Seen) (key : Key) (number : ℕ) (m : Firsts) → Some key ≡ key_in seen → IsAt number seen
    → ((f : Facts) → f.key ≡ key → f.no ≡ number → Tells m (Bears f ∷ behind)) → Tells m (seen ∷ behind)
is_told (Bears f) behind key number m bears at tells =
    let same : f.key ≡ key = cc in
    tells f same at
is_told (Counted c) behind key number m bears at tells = cc

-- a frame without a key bears none
pub not_linked : (seen : Seen) (behind : List Seen) (slot : Slot) → None ≡ key_in seen → slot ≡ packed seen → slot ≡ packed (linked_one seen behind)
not_linked (Bears f) behind slot none is = cc
not_linked (Counted c) behind slot none is = is

pub not_told : (seen : Seen) (behind : List Seen) (m : Firsts) → None ≡ key_in seen → Tells m behind → Tells m (seen ∷ behind)
not_told (Bears f) behind m none tells = cc
not_told (Counted c) behind m none tells = tells

-- what is known of a loop from the last frame of some to the first, when it has come to this place
pub record Linking (behind seen : List Seen) (i : ℕ) (slots : List Slot) (m : Firsts) : Type 0 where
  pub told : Tells m (drop i seen ++ behind)
  pub done : slots ≡ map packed (take i seen ++ linked_before behind (drop i seen))

-- before the last frame
pub linking_none : (behind seen : List Seen) (i : ℕ) (slots : List Slot) (m : Firsts) → i ≡ length slots → slots ≡ map packed seen → Tells m behind → Linking behind seen i slots m
linking_none behind seen i slots m all same tells =
    let many : i ≡ length seen = all ∙ ap length same ∙ length-map seen packed in
    let none : drop i seen ≡ [] = drop_all i seen (omega (arith, many)) in
    record {
      told = rw none tells;
      done = rw (none, take_all i seen (omega (arith, many)), append-nil) same;
    }

-- the frame at a place, between those before it and those behind it
record Stands (seen : List Seen) (i : ℕ) : Type 0 where
  pub one : Seen
  pub from : drop i seen ≡ one ∷ drop (suc i) seen
  pub upto : take (suc i) seen ≡ take i seen ++ one ∷ []

stands : (seen : List Seen) (i : ℕ) → i < length seen → Stands seen i
stands [] i low = absurd (omega (arith, low))
stands (s ∷ seen) zero low = record { one = s; from = refl; upto = refl }
stands (s ∷ seen) (suc i) low = let rest = stands seen i (omega (arith, low)) in record { one = rest.one; from = rest.from; upto = ap (λ (l : List Seen). s ∷ l) rest.upto }

numbered_at : (seen : List Seen) (i first : ℕ) (s : Seen) (rest : List Seen) → AreAt first seen → drop i seen ≡ s ∷ rest → IsAt (first + i) s
numbered_at [] zero first s rest at is = cc
numbered_at [] (suc i) first s rest at is = cc
numbered_at (x ∷ seen) zero first s rest at is =
    let same : x ≡ s = cc in
    let here : first ≡ first + 0 = omega arith in
    subst (λ (n : ℕ). IsAt n s) here (subst (λ (y : Seen). IsAt first y) same at.0)
numbered_at (x ∷ seen) (suc i) first s rest at is =
    let place : first + 1 + i ≡ first + suc i = omega arith in
    subst (λ (n : ℕ). IsAt n s) place (numbered_at seen i (first + 1) s rest at.1 is)

-- reading and writing between two lists
pub read_between : {X : Type 0} (a b : List X) (s d : X) (i : ℕ) → i ≡ length a → get_or (a ++ s ∷ b) i d ≡ s
read_between [] b s d zero e = refl
read_between [] b s d (suc i) e = absurd (omega (arith, e))
read_between (x ∷ a) b s d zero e = absurd (omega (arith, e))
read_between (x ∷ a) b s d (suc i) e = read_between a b s d i (omega (arith, e))

pub write_between : {X : Type 0} (a b : List X) (s t : X) (i : ℕ) → i ≡ length a → set (a ++ s ∷ b) i t ≡ a ++ t ∷ b
write_between [] b s t zero e = refl
write_between [] b s t (suc i) e = absurd (omega (arith, e))
write_between (x ∷ a) b s t zero e = absurd (omega (arith, e))
write_between (x ∷ a) b s t (suc i) e = ap (λ l. x ∷ l) (write_between a b s t i (omega (arith, e)))

map_both : (a b : List Seen) → map packed (a ++ b) ≡ map packed a ++ map packed b
map_both [] b = refl
map_both (s ∷ a) b = ap (λ (l : List Slot). packed s ∷ l) (map_both a b)

-- one frame more
pub linking_more : (behind seen : List Seen) (first i j number : ℕ) (slots now : List Slot) (m n : Firsts) (d old new : Slot) → j ≡ i + 1 → i < length seen → number ≡ first + i
    → AreAt first seen → Linking behind seen j slots m → old ≡ get_or slots i d
    → ((s : Seen) (after : List Seen) → old ≡ packed s → Tells m after → new ≡ packed (linked_one s after))
    → ((s : Seen) (after : List Seen) → old ≡ packed s → IsAt number s → Tells m after → Tells n (s ∷ after))
    → now ≡ set slots i new → Linking behind seen i now n
linking_more behind seen first i j number slots now m n d old new j_is low number_is at so old_is value tells now_is =
    let next : j ≡ suc i = omega (arith, j_is) in
    let st = stands seen i low in
    let rest : List Seen = linked_before behind (drop (suc i) seen) in
    let told : Tells m (drop (suc i) seen ++ behind) = subst (λ (k : ℕ). Tells m (drop k seen ++ behind)) next so.told in
    let done : slots ≡ map packed (take (suc i) seen ++ linked_before behind (drop (suc i) seen)) = subst (λ (k : ℕ). slots ≡ map packed (take k seen ++ linked_before behind (drop k seen))) next so.done in
    let apart : slots ≡ map packed (take i seen) ++ packed st.one ∷ map packed rest =
    done ∙ ap (λ (l : List Seen). map packed (l ++ rest)) st.upto ∙ ap (λ (l : List Seen). map packed l) (append_assoc (take i seen) (st.one ∷ []) rest) ∙ map_both (take i seen) (st.one ∷ rest) in
    let place : i ≡ length (map packed (take i seen)) = simp (length-map, length-take) (omega (arith, low)) in
    let read : old ≡ packed st.one = old_is ∙ ap (λ (l : List Slot). get_or l i d) apart ∙ read_between (map packed (take i seen)) (map packed rest) (packed st.one) d i place in
    let is_at : IsAt number st.one = subst (λ (k : ℕ). IsAt k st.one) (sym number_is) (numbered_at seen i first st.one (drop (suc i) seen) at st.from) in
    record {
      told = subst (λ (l : List Seen). Tells n (l ++ behind)) (sym st.from) (tells st.one (drop (suc i) seen ++ behind) read is_at told);
      done = now_is ∙ ap (λ (l : List Slot). set l i new) apart ∙ write_between (map packed (take i seen)) (map packed rest) (packed st.one) new i place
          ∙ ap (λ (x : Slot). map packed (take i seen) ++ x ∷ map packed rest) (value st.one (drop (suc i) seen ++ behind) read told)
          ∙ sym (map_both (take i seen) (linked_one st.one (drop (suc i) seen ++ behind) ∷ rest)) ∙ ap (λ (l : List Seen). map packed (take i seen ++ linked_before behind l)) (sym st.from);
    }
