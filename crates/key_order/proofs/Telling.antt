-- Two keys stand in one place just where they are one.
use Rattle.std.proofs.Common.{◌≡◌, ℕ, ◌==◌, ◌/◌, ◌%◌, ◌^◌, Bool, true, false, ◌&&◌, refl, sym, ap, ◌∙◌, arith}
use Rattle.std.specs.Ordering.{is_eq, nat_cmp, bool_cmp, ordering_then}
use Rattle.std.specs.declared.cmp.Ordering.{Ordering}
use Rattle.std.specs.declared.cmp.Ordering.TheVariants.{Less, Equal, Greater}
use Rattle.std.specs.Cmp.{IsTotalOrder, bool_cmp_total}
use Rattle.std.proofs.lemmas.Bool.Decides.{nat_tests}
use Rattle.std.proofs.lemmas.Cmp.{then_total, on_total, nat_cmp_total}
use Rattle.key_order.specs.declared.places.Address.{Address}
use Rattle.key_order.specs.declared.places.KeyPlace.{KeyPlace}
use Rattle.suri_base.specs.declared.key.Key.{Key}
use Rattle.suri_base.specs.Keys.{same_key, same_truth}
use Rattle.key_order.specs.KeyPlaces.{address_of, address_cmp, place_cmp, place_of}

addresses : IsTotalOrder address_cmp
addresses = then_total (on_total (λ (a : Address). a.low) nat_cmp_total) (then_total (on_total (λ (a : Address). a.lower) nat_cmp_total)
    (then_total (on_total (λ (a : Address). a.upper) nat_cmp_total) (on_total (λ (a : Address). a.high) nat_cmp_total)))

pub places : IsTotalOrder place_cmp
places = then_total (on_total (λ (p : KeyPlace). p.b_port) nat_cmp_total) (then_total (on_total (λ (p : KeyPlace). p.a_port) nat_cmp_total)
    (then_total (on_total (λ (p : KeyPlace). p.a) addresses) (then_total (on_total (λ (p : KeyPlace). p.b) addresses)
    (then_total (on_total (λ (p : KeyPlace). p.first) nat_cmp_total) (then_total (on_total (λ (p : KeyPlace). p.second) nat_cmp_total)
    (then_total (on_total (λ (p : KeyPlace). p.third) nat_cmp_total) (then_total (on_total (λ (p : KeyPlace). p.count) nat_cmp_total)
    (then_total (on_total (λ (p : KeyPlace). p.proto) nat_cmp_total) (then_total (on_total (λ (p : KeyPlace). p.version) nat_cmp_total)
    (on_total (λ (p : KeyPlace). p.one_way) bool_cmp_total))))))))))

both : (x y : Ordering) → is_eq (ordering_then x y) ≡ (is_eq x && is_eq y)
both Less y = refl
both Equal y = refl
both Greater y = refl

num : (x y : ℕ) → is_eq (nat_cmp x y) ≡ (x == y)
num x y = grind (arith, nat_tests)

truth : (x y : Bool) → is_eq (bool_cmp x y) ≡ same_truth x y
truth true true = refl
truth true false = refl
truth false true = refl
truth false false = refl

pair : (x y : Ordering) (b c : Bool) → is_eq x ≡ b → is_eq y ≡ c → is_eq (ordering_then x y) ≡ (b && c)
pair x y b c h k = both x y ∙ (rw (h, k) refl)

-- the parts tell the whole
parts : (m n : ℕ) → m % 2 ^ 32 ≡ n % 2 ^ 32 → m / 2 ^ 32 % 2 ^ 32 ≡ n / 2 ^ 32 % 2 ^ 32 → m / 2 ^ 64 % 2 ^ 32 ≡ n / 2 ^ 64 % 2 ^ 32 → m / 2 ^ 96 ≡ n / 2 ^ 96 → m ≡ n
parts m n a b c d = omega (arith, a, b, c, d)

equal : (m n : ℕ) → (m == n) ≡ true → m ≡ n
equal m n h = grind (arith, nat_tests)

self : (m : ℕ) → (m == m) ≡ true
self m = grind (arith, nat_tests)

ends : (m n : ℕ) → ((m % 2 ^ 32 == n % 2 ^ 32) && ((m / 2 ^ 32 % 2 ^ 32 == n / 2 ^ 32 % 2 ^ 32) && ((m / 2 ^ 64 % 2 ^ 32 == n / 2 ^ 64 % 2 ^ 32) && (m / 2 ^ 96 == n / 2 ^ 96)))) ≡ (m == n)
ends m n = by (m % 2 ^ 32 == n % 2 ^ 32) (m / 2 ^ 32 % 2 ^ 32 == n / 2 ^ 32 % 2 ^ 32) (m / 2 ^ 64 % 2 ^ 32 == n / 2 ^ 64 % 2 ^ 32) (m / 2 ^ 96 == n / 2 ^ 96) (m == n)
    (λ a b c d. ap (λ (k : ℕ). m == k) (sym (parts m n (equal _ _ a) (equal _ _ b) (equal _ _ c) (equal _ _ d))) ∙ self m)
    (λ e. let s = equal m n e in (same (λ (k : ℕ). k % 2 ^ 32) s, same (λ (k : ℕ). k / 2 ^ 32 % 2 ^ 32) s, same (λ (k : ℕ). k / 2 ^ 64 % 2 ^ 32) s, same (λ (k : ℕ). k / 2 ^ 96) s))
  where
    same : (f : ℕ → ℕ) → m ≡ n → (f m == f n) ≡ true
    same f e = ap (λ (k : ℕ). f m == f k) (sym e) ∙ self (f m)

    by : (a b c d e : Bool) → (a ≡ true → b ≡ true → c ≡ true → d ≡ true → e ≡ true) → (e ≡ true → (a ≡ true) × (b ≡ true) × (c ≡ true) × (d ≡ true)) → (a && (b && (c && d))) ≡ e
    by true true true true e f g = sym (f refl refl refl refl)
    by false b c d false f g = refl
    by false b c d true f g = (g refl).0
    by true false c d false f g = refl
    by true false c d true f g = (g refl).1
    by true true false d false f g = refl
    by true true false d true f g = (g refl).2
    by true true true false false f g = refl
    by true true true false true f g = (g refl).3

address : (m n : ℕ) → is_eq (address_cmp (address_of m) (address_of n)) ≡ (m == n)
address m n = pair _ _ _ _ (num (m % 2 ^ 32) (n % 2 ^ 32)) (pair _ _ _ _ (num (m / 2 ^ 32 % 2 ^ 32) (n / 2 ^ 32 % 2 ^ 32)) (pair _ _ _ _ (num (m / 2 ^ 64 % 2 ^ 32) (n / 2 ^ 64 % 2 ^ 32)) (num (m / 2 ^ 96) (n / 2 ^ 96)))) ∙ ends m n

-- the fields of a place, in the order in which a key has them
order : (q p a b f s t c r v o : Bool) → (q && (p && (a && (b && (f && (s && (t && (c && (r && (v && o)))))))))) ≡ ((a && p) && (b && q) && (c && f && s && t) && r && v && o)
order false p false b f s t c r v o = refl
order false false true b f s t c r v o = refl
order false true true false f s t c r v o = refl
order false true true true f s t c r v o = refl
order true false false b f s t c r v o = refl
order true false true b f s t c r v o = refl
order true true false b f s t c r v o = refl
order true true true false f s t c r v o = refl
order true true true true false s t true r v o = refl
order true true true true false s t false r v o = refl
order true true true true true false t true r v o = refl
order true true true true true false t false r v o = refl
order true true true true true true false true r v o = refl
order true true true true true true false false r v o = refl
order true true true true true true true false r v o = refl
order true true true true true true true true false v o = refl
order true true true true true true true true true false o = refl
order true true true true true true true true true true false = refl
order true true true true true true true true true true true = refl

pub tells : (k l : Key) → is_eq (place_cmp (place_of k) (place_of l)) ≡ same_key k l
unfolding same_key
tells k l =
    pair _ _ _ _ (num k.b.port l.b.port)
    (pair _ _ _ _ (num k.a.port l.a.port)
    (pair _ _ _ _ (address k.a.addr l.a.addr)
    (pair _ _ _ _ (address k.b.addr l.b.addr)
    (pair _ _ _ _ (num k.vlans.first l.vlans.first)
    (pair _ _ _ _ (num k.vlans.second l.vlans.second)
    (pair _ _ _ _ (num k.vlans.third l.vlans.third)
    (pair _ _ _ _ (num k.vlans.count l.vlans.count)
    (pair _ _ _ _ (num k.proto l.proto)
    (pair _ _ _ _ (num k.version l.version) (truth k.one_way l.one_way))))))))))
    ∙ order (k.b.port == l.b.port) (k.a.port == l.a.port) (k.a.addr == l.a.addr) (k.b.addr == l.b.addr) (k.vlans.first == l.vlans.first) (k.vlans.second == l.vlans.second) (k.vlans.third == l.vlans.third)
    (k.vlans.count == l.vlans.count) (k.proto == l.proto) (k.version == l.version) (same_truth k.one_way l.one_way)
