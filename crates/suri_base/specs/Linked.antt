-- A node with what stands behind its links.
use Rattle.std.specs.Prelude.{◌≡◌, ℕ, ◌+◌, List, [], ◌∷◌, Option, Some, None, Box, refl}
use Rattle.std.proofs.Common.{ap, ◌∙◌}
use Rattle.std.specs.Coded.{Coded, code_by, coded×, coded_list, coded_option, coded_ℕ}
use Rattle.std.specs.declared.alloc.Global.{Global}
use Rattle.suri_base.specs.Node.{Node}

-- the nodes at a link and below it
pub data Below : Type 0 where
  Nothing : Below
  Fork : (node : Node) (less more : Below) → Below

-- a node: what it says, and what stands behind its links
pub record Linked : Type 0 where
  pub node : Node
  pub less : Below
  pub more : Below

-- what stands behind a link
abbrev pub behind : Option (Box Linked Global) → Below
behind None = Nothing
behind (Some b) = Fork b.value.node b.value.less b.value.more

-- how many nodes there are
abbrev pub count : Below → ℕ
count Nothing = 0
count (Fork node less more) = count less + count more + 1

abbrev pub node_code : Coded Node
node_code =
    code_by (ℕ × (ℕ × (ℕ × (ℕ × (ℕ × ℕ))))) (coded× coded_ℕ (coded× coded_ℕ (coded× coded_ℕ (coded× coded_ℕ (coded× coded_ℕ coded_ℕ)))))
    (λ n. (n.no, (n.first, (n.at, (n.len, (n.reach, n.height))))))
    (λ p. record { no = p.0; first = p.1.0; at = p.1.1.0; len = p.1.1.1.0; reach = p.1.1.1.1.0; height = p.1.1.1.1.1 }) (λ _. refl)

-- as a list: a node stands before those behind its links, and a mark where a link has none
abbrev pub listed : Below → List (Option Node) → List (Option Node)
listed Nothing rest = None ∷ rest
listed (Fork node less more) rest = Some node ∷ listed less (listed more rest)

abbrev pub joined : Option Node → List Below → List Below
joined None read = Nothing ∷ read
joined (Some node) [] = []
joined (Some node) (less ∷ []) = []
joined (Some node) (less ∷ more ∷ read) = Fork node less more ∷ read

abbrev pub read_back : List (Option Node) → List Below
read_back [] = []
read_back (mark ∷ marks) = joined mark (read_back marks)

abbrev pub first_read : List Below → Below
first_read [] = Nothing
first_read (b ∷ read) = b

pub listed_is : (b : Below) (rest : List (Option Node)) → read_back (listed b rest) ≡ b ∷ read_back rest
listed_is Nothing rest = refl
listed_is (Fork node less more) rest =
    ap (joined (Some node)) (listed_is less (listed more rest)) ∙ ap (λ (read : List Below). joined (Some node) (less ∷ read)) (listed_is more rest)

abbrev pub below_code : Coded Below
below_code =
    code_by (List (Option Node)) (coded_list (coded_option node_code)) (λ b. listed b []) (λ marks. first_read (read_back marks))
    (λ b. ap first_read (listed_is b []))

abbrev pub linked_code : Coded Linked
linked_code =
    code_by (Node × (Below × Below)) (coded× node_code (coded× below_code below_code)) (λ a. (a.node, (a.less, a.more)))
    (λ p. record { node = p.0; less = p.1.0; more = p.1.1 }) (λ _. refl)
