-- Edges that are the same.
use Rattle.std.proofs.Common.{◌≡◌, true, refl, eq-eqb}
use Rattle.relationships.specs.Graph.{Edge, is_same}

pub is_same-self : (e : Edge) → is_same e e ≡ true
is_same-self e = rw (eq-eqb e.0 e.0 refl, eq-eqb e.1 e.1 refl)
