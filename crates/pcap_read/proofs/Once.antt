-- A file holds one thing.
use Rattle.std.proofs.Common.{◌≡◌, ℕ, suc, ◌+◌, ◌<◌, ◌≤◌, List, [], ◌∷◌, ◌++◌, length, take, drop, refl, sym, ap, ◌∙◌, subst, arith, Result, Ok, Err, append_assoc, length-append, inl, inr}
use Rattle.std.proofs.lemmas.List.{take_at, drop_at}
use Rattle.std.specs.List.{concat}
use Rattle.pcap_read.specs.declared.header.Header.{Header}
use Rattle.pcap_read.specs.declared.fault.PcapFault.{PcapFault}
use Rattle.pcap_read.specs.Records.{IsWhole, AreWhole, captured, ends_in, IsTail}
use Rattle.pcap_read.specs.File.{IsSpelled, CaptureFile, Concludes, Reads, bad_header, whole, Tells, Agrees}
use Rattle.pcap_read.proofs.Words.{captured-append}

pub record SameSplit (rs qs : List (List ℕ)) (t u : List ℕ) : Type 0 where
  pub records : rs ≡ qs
  pub tail : t ≡ u

-- a tail does not begin with a whole record
no_record : (h : Header) (k : ℕ) (t q rest : List ℕ) → IsTail h k t → k < 4194304 → IsWhole h q → t ≡ q ++ rest → ⊥
no_record h k t q rest tail few w e =
    let size : length t ≡ length q + length rest = ap length e ∙ length-append q rest in
    let same : captured h t ≡ captured h q = ap (captured h) e ∙ captured-append h q rest w.header in
    let long : 16 ≤ length t = omega (arith, w.header) in
    let small : captured h t ≤ 262144 = omega (arith, w.small) in
    let short : length t < 16 + captured h t = tail long few small in
    omega (arith, w.body)

-- the same bytes in whole records and a tail are split in one way
pub split_once : (h : Header) (k : ℕ) (rs qs : List (List ℕ)) (t u : List ℕ) → AreWhole h rs → AreWhole h qs → k + length rs ≤ 4194304 → k + length qs ≤ 4194304
    → IsTail h (k + length rs) t → IsTail h (k + length qs) u → concat rs ++ t ≡ concat qs ++ u → SameSplit rs qs t u
split_once h k [] [] t u wr wq fr fq tr tq e = record { records = refl; tail = e }
split_once h k [] (q ∷ qs) t u wr wq fr fq tr tq e =
    let few : k + 0 < 4194304 = omega arith in
    absurd (no_record h (k + 0) t q (concat qs ++ u) tr few wq.0 (e ∙ append_assoc q (concat qs) u))
split_once h k (r ∷ rs) [] t u wr wq fr fq tr tq e =
    let few : k + 0 < 4194304 = omega arith in
    absurd (no_record h (k + 0) u r (concat rs ++ t) tq few wr.0 (sym e ∙ append_assoc r (concat rs) t))
split_once h k (r ∷ rs) (q ∷ qs) t u wr wq fr fq tr tq e =
    let apart : r ++ (concat rs ++ t) ≡ q ++ (concat qs ++ u) = sym (append_assoc r (concat rs) t) ∙ e ∙ append_assoc q (concat qs) u in
    let same : captured h r ≡ captured h q =
    sym (captured-append h r (concat rs ++ t) wr.0.header) ∙ ap (captured h) apart ∙ captured-append h q (concat qs ++ u) wq.0.header in
    let size : length r ≡ length q = omega (arith, wr.0.body, wq.0.body) in
    let one : r ≡ q = sym (take_at r (concat rs ++ t) (length q) size) ∙ ap (take (length q)) apart ∙ take_at q (concat qs ++ u) (length q) refl in
    let others : concat rs ++ t ≡ concat qs ++ u = sym (drop_at r (concat rs ++ t) (length q) size) ∙ ap (drop (length q)) apart ∙ drop_at q (concat qs ++ u) (length q) refl in
    let kr : k + length (r ∷ rs) ≡ suc k + length rs = omega arith in
    let kq : k + length (q ∷ qs) ≡ suc k + length qs = omega arith in
    let next = split_once h (suc k) rs qs t u wr.1 wq.1 (omega arith) (omega arith) (subst (λ n. IsTail h n t) kr tr) (subst (λ n. IsTail h n u) kq tq) others in
    record { records = ap (λ x. x ∷ rs) one ∙ ap (λ xs. q ∷ xs) next.records; tail = next.tail }

-- the tail and the records decide the answer
concluded : (h : Header) (rs : List (List ℕ)) (v : Result ℕ PcapFault) (a b : Result CaptureFile PcapFault) → Concludes h rs v a → Concludes h rs v b → a ≡ b
concluded h rs (Ok cut) a b p q = p ∙ sym q
concluded h rs (Err fault) a b p q = p ∙ sym q

both_whole : (bytes : List ℕ) (h i : Header) (rs qs : List (List ℕ)) (t u : List ℕ) (a b : Result CaptureFile PcapFault) → h ≡ i → IsSpelled h rs t bytes → IsSpelled i qs u bytes
    → Concludes h rs (ends_in h (length rs) t) a → Concludes i qs (ends_in i (length qs) u) b → a ≡ b
both_whole bytes h i rs qs t u a b same s z c d =
    let z' : IsSpelled h qs u bytes = subst (λ (l : Header). IsSpelled l qs u bytes) (sym same) z in
    let d' : Concludes h qs (ends_in h (length qs) u) b = subst (λ (l : Header). Concludes l qs (ends_in l (length qs) u) b) (sym same) d in
    let split = split_once h 0 rs qs t u s.records_whole z'.records_whole (omega (arith, s.few)) (omega (arith, z'.few))
    (subst (λ n. IsTail h n t) (omega arith) s.tail_cut) (subst (λ n. IsTail h n u) (omega arith) z'.tail_cut) (sym s.joined ∙ z'.joined) in
    let d'' : Concludes h rs (ends_in h (length rs) t) b =
    subst (λ (l : List (List ℕ)). Concludes h l (ends_in h (length l) t) b) (sym split.records)
    (subst (λ l. Concludes h qs (ends_in h (length qs) l) b) (sym split.tail) d') in
    concluded h rs (ends_in h (length rs) t) a b c d''

pub reads_once : (bytes : List ℕ) (a b : Result CaptureFile PcapFault) → Reads bytes a → Reads bytes b → a ≡ b
reads_once bytes _ _ (bad_header f e) (bad_header g d) = let same : f ≡ g = cc in ap Err same
reads_once bytes _ _ (bad_header f e) (whole h rs t b s c) = absurd (let header = s.header in cc)
reads_once bytes _ _ (whole h rs t a s c) (bad_header f e) = absurd (let header = s.header in cc)
reads_once bytes _ _ (whole h rs t a s c) (whole i qs u b z d) =
    let same : h ≡ i = (let one = s.header in let other = z.header in cc) in
    both_whole bytes h i rs qs t u a b same s z c d

-- a call that tells what the file holds agrees with whatever the file holds
pub agrees : (bytes : List ℕ) (r : Result CaptureFile PcapFault) (answer : Result CaptureFile PcapFault) → Tells bytes r → Reads bytes answer → Agrees r answer
agrees bytes (Ok f) answer told holds = reads_once bytes answer (Ok f) holds told
agrees bytes (Err e) answer told holds = elim told [ inl memory ↦ inl memory | inr fault ↦ inr (reads_once bytes answer (Err e) holds fault) ]
