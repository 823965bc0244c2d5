-- Runs of which each was ended by the first packet of the next, and by none of its own, are the plain runs of all their packets. Lists have
-- the newest packet first.
use Rattle.std.proofs.Common.{◌≡◌, Bool, true, cond, List, [], ◌∷◌, ◌++◌, reverse, Option, Some, None, refl, sym, ◌∙◌, ap, subst, append_assoc}
use Rattle.std.specs.Prelude.{map}
use Rattle.std.proofs.lemmas.Grind.{reverse_onto}
use Rattle.std.proofs.lemmas.List.{reverse-append}
use Rattle.bucket_rules.specs.Packets.{bearing}
use Rattle.flow_sum.specs.Run.{Run, alone, first_of, members, oldest_of, with_one_more}
use Rattle.plain_runs.specs.Cuts.{IsUncut}
use Rattle.plain_runs.specs.Plain.{PlainRun, cut_from, cut_run, cuts, is_cut}
use Rattle.quiet_laws.specs.Pieces.{ended_by, plain_of}
use Rattle.suri_base.specs.Capture.{Captured}
use Rattle.suri_base.specs.declared.facts.Facts.{Facts}

-- the first of some packets
abbrev pub head_of : List Facts → Option Facts
head_of [] = None
head_of (f ∷ fs) = Some f

-- the packet ends the run
abbrev pub CutsAt : Run → Option Facts → Type 0
CutsAt r None = Unit {0}
CutsAt r (Some f) = is_cut r f ≡ true

-- each run was ended by what came next of its key, and by none of its own packets
abbrev pub AreChained : Captured → Option Facts → List Run → Type 0
AreChained c next [] = Unit {0}
AreChained c next (r ∷ older) = IsUncut r.newest r.older × (bearing c r.newest.next ≡ next) × CutsAt r next × AreChained c (Some (first_of r)) older

-- the packets of some runs
abbrev pub packets_of_runs : List Run → List Facts
packets_of_runs [] = []
packets_of_runs (r ∷ older) = members r ++ packets_of_runs older

-- one packet of a run behind the others, in file order
in_order : (m : Facts) (ms ys : List Facts) → reverse (m ∷ ms) ++ ys ≡ reverse ms ++ m ∷ ys
in_order m ms ys = ap (λ (l : List Facts). l ++ ys) (reverse_onto ms m []) ∙ append_assoc (reverse ms) (m ∷ []) ys

-- the packets of a run are not cut
eaten : (m : Facts) (ms ys : List Facts) → IsUncut m ms → cuts (reverse (m ∷ ms) ++ ys) ≡ cut_from (record { newest = m; older = ms }) ys
eaten m [] ys u = refl
eaten m (g ∷ older) ys u =
    ap cuts (in_order m (g ∷ older) ys) ∙ (eaten g older (m ∷ ys) u.1
    ∙ ap (λ (b : Bool). cond b (cut_run (record { newest = g; older = older }) m ∷ cut_from (alone m) ys) (cut_from (with_one_more m (record { newest = g; older = older })) ys)) u.0)

-- what comes next begins the next plain run
ended : (c : Captured) (r : Run) (ys : List Facts) → bearing c r.newest.next ≡ head_of ys → CutsAt r (head_of ys) → cut_from r ys ≡ plain_of c r ∷ cuts ys
ended c r [] b k = ap (λ (o : Option Facts). record { run = r; ended = ended_by r o } ∷ []) (sym b)
ended c r (f ∷ fs) b k =
    ap (λ (x : Bool). cond x (cut_run r f ∷ cut_from (alone f) fs) (cut_from (with_one_more f r) fs)) k
    ∙ ap (λ (o : Option Facts). record { run = r; ended = ended_by r o } ∷ cut_from (alone f) fs) (sym b)

head_append : (f : Facts) (xs ys : List Facts) → head_of xs ≡ Some f → head_of (xs ++ ys) ≡ Some f
head_append f [] ys h = cc
head_append f (x ∷ xs) ys h = h

first_in_order : (m : Facts) (ms : List Facts) → head_of (reverse (m ∷ ms)) ≡ Some (oldest_of m ms)
first_in_order m [] = refl
first_in_order m (g ∷ older) = ap head_of (reverse_onto (g ∷ older) m []) ∙ head_append (oldest_of g older) (reverse (g ∷ older)) (m ∷ []) (first_in_order g older)

onto : {A : Type 0} (x : A) (xs ys : List A) → reverse (x ∷ xs) ++ ys ≡ reverse xs ++ x ∷ ys
onto {A} x xs ys = ap (λ (l : List A). l ++ ys) (reverse_onto xs x []) ∙ append_assoc (reverse xs) (x ∷ []) ys

pub chained : (c : Captured) (rs : List Run) (ys : List Facts) → AreChained c (head_of ys) rs
    → cuts (reverse (packets_of_runs rs) ++ ys) ≡ reverse (map (λ r. plain_of c r) rs) ++ cuts ys
chained c [] ys h = refl
chained c (r ∷ older) ys h =
    let zs = reverse (members r) ++ ys in
    let apart : reverse (members r ++ packets_of_runs older) ++ ys ≡ reverse (packets_of_runs older) ++ zs =
    ap (λ (l : List Facts). l ++ ys) (reverse-append (members r) (packets_of_runs older)) ∙ append_assoc (reverse (packets_of_runs older)) (reverse (members r)) ys in
    let first : head_of zs ≡ Some (first_of r) = head_append (first_of r) (reverse (members r)) ys (first_in_order r.newest r.older) in
    let rest = chained c older zs (subst (λ (o : Option Facts). AreChained c o older) (sym first) h.3) in
    let own : cuts zs ≡ plain_of c r ∷ cuts ys = eaten r.newest r.older ys h.0 ∙ ended c r ys h.1 h.2 in
    ap cuts apart ∙ (rest ∙ (ap (λ (l : List PlainRun). reverse (map (λ (x : Run). plain_of c x) older) ++ l) own
    ∙ sym (onto (plain_of c r) (map (λ (x : Run). plain_of c x) older) (cuts ys))))
