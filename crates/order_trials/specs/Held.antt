-- Orders that the labels have, one of each edge.
use Rattle.std.specs.Prelude.{ℕ, ◌/◌, Bool, true, false, List, slice_index_or}
use Rattle.relationships.specs.declared.label.End.{End}
use Rattle.relationships.specs.declared.label.Label.{Label}
use Rattle.tor_clauses.specs.Literals.{lit_of}

-- the end that is over the other by the label. A peering is read as if its lower number were the provider
abbrev pub end_of_label : Label → End
end_of_label Label.Low = End.Low
end_of_label Label.High = End.High
end_of_label Label.Peer = End.Low

abbrev pub is_end : End → End → Bool
is_end End.Low End.Low = true
is_end End.Low End.High = false
is_end End.High End.Low = false
is_end End.High End.High = true

-- whether the order of the node is that of the label of its edge
abbrev pub held : List Label → ℕ → Bool
held labels n = is_end (end_of_label (slice_index_or labels (n / 2) Label.Low)) (lit_of n).over
