-- A chain of nodes as a list.
use Rattle.std.specs.Prelude.{◌≡◌, List, [], ◌∷◌, Option, Some, None}
use Rattle.suri_base.specs.Linked.{Below, Fork, Linked, Nothing}
use Rattle.suri_base.specs.Node.{Node}

abbrev pub node_of : Linked → Node
node_of a = a.node

-- the node has no links
abbrev pub IsAlone : Linked → Type 0
IsAlone a = (a.less ≡ Nothing) × (a.more ≡ Nothing)

-- the nodes of a chain that stands behind a link
abbrev pub nodes : Below → List Node
nodes Nothing = []
nodes (Fork node less more) = node ∷ nodes more

-- no node of it has a link beside the chain
abbrev pub IsChain : Below → Type 0
IsChain Nothing = Unit {0}
IsChain (Fork node less more) = (less ≡ Nothing) × IsChain more

-- the chain that begins at this node
abbrev pub nodes_from : Linked → List Node
nodes_from a = a.node ∷ nodes a.more

-- the nodes from one on, in the order of the chain; none where there is no node
abbrev pub nodes_at : Option Linked → List Node
nodes_at None = []
nodes_at (Some a) = nodes_from a
