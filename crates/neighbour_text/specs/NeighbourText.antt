-- What is told of the neighbours of an AS: a line for each, those who sell transit to it first, then its peers and its customers, and how
-- many there are of each kind. The form is this project's own (docs/FORMATS.md).
use Rattle.std.specs.Prelude.{ℕ, List, [], ◌∷◌, ◌++◌, length, codes, decimal}
use Rattle.std.specs.List.{flat_map}
use Rattle.text_fields.specs.Fields.{fields}
use Rattle.result_text.specs.declared.file.EdgeLine.{EdgeLine}
use Rattle.result_text.specs.Text.{mark_name}
use Rattle.drawing.specs.declared.group.Group.{Group}
use Rattle.drawing.specs.declared.group.Neighbour.{Neighbour}
use Rattle.drawing.specs.Neighbours.{SortedNeighbours}
use Rattle.neighbour_text.specs.declared.neighbourhood.Neighbourhood.{Neighbourhood}

-- the neighbours of AS a as the edges say, of each kind by falling support, and at equal support by rising number
pub record IsNeighbourhood (a : ℕ) (edges : List EdgeLine) (n : Neighbourhood) : Type 0 where
  pub providers_are : SortedNeighbours a Group.Providers edges n.providers
  pub peers_are : SortedNeighbours a Group.Peers edges n.peers
  pub customers_are : SortedNeighbours a Group.Customers edges n.customers

-- the line of a neighbour of this kind: its number, the mark of the edge and its support
abbrev pub neighbour_line : List ℕ → Neighbour → List ℕ
neighbour_line kind n = fields (kind ∷ decimal n.number ∷ mark_name n.mark ∷ decimal n.support ∷ []) ++ 10 ∷ []

-- how many there are of each kind
abbrev pub neighbour_total : Neighbourhood → List ℕ
neighbour_total n =
    fields (codes "neighbours" ∷ decimal (length n.providers) ∷ decimal (length n.peers) ∷ decimal (length n.customers) ∷ []) ++ 10 ∷ []

abbrev pub neighbourhood_text : Neighbourhood → List ℕ
neighbourhood_text n =
    flat_map (neighbour_line (codes "provider")) n.providers
    ++ (flat_map (neighbour_line (codes "peer")) n.peers
    ++ (flat_map (neighbour_line (codes "customer")) n.customers ++ neighbour_total n))
