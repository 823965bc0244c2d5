-- Tags are known by the list of their ids.
use Rattle.std.proofs.Common.{◌≡◌, ℕ, zero, suc, ◌<◌, ◌≤◌, [], ◌∷◌, take, length, ap, ◌∙◌, sym, arith, length-take}
use Rattle.suri_base.specs.declared.key.Vlans.{Vlans}
use Rattle.suri_base.specs.Vlans.{AreVlans, vlan_list}

abbrev tags : ℕ → ℕ → ℕ → ℕ → Vlans
tags n a b c = record { count = n; first = a; second = b; third = c }

same_ids : (n a b c a' b' c' : ℕ) → n ≤ 3 → (n < 1 → a ≡ 0) → (n < 2 → b ≡ 0) → (n < 3 → c ≡ 0) → (n < 1 → a' ≡ 0) → (n < 2 → b' ≡ 0) → (n < 3 → c' ≡ 0)
    → take n (a ∷ b ∷ c ∷ []) ≡ take n (a' ∷ b' ∷ c' ∷ []) → (a ≡ a') × (b ≡ b') × (c ≡ c')
same_ids zero a b c a' b' c' few x y z x' y' z' e =
    (x (omega arith) ∙ sym (x' (omega arith)), y (omega arith) ∙ sym (y' (omega arith)), z (omega arith) ∙ sym (z' (omega arith)))
same_ids (suc zero) a b c a' b' c' few x y z x' y' z' e = (cc, y (omega arith) ∙ sym (y' (omega arith)), z (omega arith) ∙ sym (z' (omega arith)))
same_ids (suc (suc zero)) a b c a' b' c' few x y z x' y' z' e = (cc, cc, z (omega arith) ∙ sym (z' (omega arith)))
same_ids (suc (suc (suc zero))) a b c a' b' c' few x y z x' y' z' e = (cc, cc, cc)
same_ids (suc (suc (suc (suc n)))) a b c a' b' c' few x y z x' y' z' e = absurd (omega arith)

as_many : (v : Vlans) → v.count ≤ 3 → length (vlan_list v) ≡ v.count
as_many v few = omega (arith, few, length-take v.count (v.first ∷ v.second ∷ v.third ∷ []))

pub same_tags : (v w : Vlans) → AreVlans v → AreVlans w → vlan_list v ≡ vlan_list w → v ≡ w
same_tags v w uv uw e =
    let count : v.count ≡ w.count = sym (as_many v uv.few) ∙ ap length e ∙ as_many w uw.few in
    let listed : take v.count (v.first ∷ v.second ∷ v.third ∷ []) ≡ take v.count (w.first ∷ w.second ∷ w.third ∷ []) =
    e ∙ ap (λ n. take n (w.first ∷ w.second ∷ w.third ∷ [])) (sym count) in
    let ids = same_ids v.count v.first v.second v.third w.first w.second w.third uv.few uv.first_unused uv.second_unused uv.third_unused (λ less. uw.first_unused (omega (arith, less, count)))
    (λ less. uw.second_unused (omega (arith, less, count))) (λ less. uw.third_unused (omega (arith, less, count))) listed in
    ap (λ n. tags n v.first v.second v.third) count ∙ ap (λ n. tags w.count n v.second v.third) ids.0 ∙ ap (λ n. tags w.count w.first n v.third) ids.1
    ∙ ap (tags w.count w.first w.second) ids.2
