-- What marks say of edges, and probes as orders of two neighbours.
use Rattle.std.specs.Prelude.{ℕ, Bool, true, false, List, [], ◌∷◌, map}
use Rattle.relationships.specs.declared.label.Label.{Label}
use Rattle.relationships.specs.declared.mark.Mark.{Mark}
use Rattle.relationships.specs.declared.mark.Probe.{Probe}
use Rattle.relationships.specs.Graph.{Edge}
use Rattle.relationships.specs.Checking.{Claim}

abbrev pub is_forced : Mark → Bool
is_forced Mark.Forced = true
is_forced Mark.Open = false

-- what is said of an edge with this label and this mark
abbrev pub claim_of : Edge → Label → Mark → Claim
claim_of e label mark = record { low = e.0; high = e.1; label = label; forced = is_forced mark }

-- what is said of the edges, in order, as far as there are labels and marks
abbrev pub claims_of : List Edge → List Label → List Mark → List Claim
claims_of (e ∷ es) (label ∷ labels) (mark ∷ marks) = claim_of e label mark ∷ claims_of es labels marks
claims_of _ _ _ = []

-- the order of each probe, the provider first
abbrev pub orders_of : List Probe → List (ℕ × ℕ)
orders_of probes = map (λ p. (p.over, p.under)) probes
