-- The edges of kept paths are edges of the paths.
use Rattle.std.proofs.Common.{ℕ, zero, suc, ◌+◌, Bool, true, false, List, [], ◌∷◌, arith, Contains}
use Rattle.relationships.specs.Graph.{Edge, edges}
use Rattle.relationships.specs.Evidence.{paths_of, kept_from}
use Rattle.relationships.proofs.Neighbours.{edge_law}

kept_is_one : (n : ℕ) (paths : List (List ℕ)) (keeps : List Bool) (p : List ℕ) → Contains (paths_of (kept_from n paths keeps)) p → Contains paths p
kept_is_one n [] keeps p c = absurd (omega (arith, c.1))
kept_is_one n (x ∷ xs) [] p c = absurd (omega (arith, c.1))
kept_is_one n (x ∷ xs) (true ∷ keeps) p (zero, lt, is) = (zero, omega arith, is)
kept_is_one n (x ∷ xs) (true ∷ keeps) p (suc k, lt, is) = let r = kept_is_one (n + 1) xs keeps p (k, omega (arith, lt), is) in (suc r.0, omega (arith, r.1), r.2)
kept_is_one n (x ∷ xs) (false ∷ keeps) p c = let r = kept_is_one (n + 1) xs keeps p c in (suc r.0, omega (arith, r.1), r.2)

pub kept_edge : (n : ℕ) (paths : List (List ℕ)) (keeps : List Bool) (e : Edge) → Contains (edges (paths_of (kept_from n paths keeps))) e → Contains (edges paths) e
kept_edge n paths keeps e c =
    let (a, b, neighbours, is) = ((edge_law (paths_of (kept_from n paths keeps))).1 e).0 c in
    ((edge_law paths).1 e).1 (a, b, (neighbours.0, kept_is_one n paths keeps neighbours.0 neighbours.1, neighbours.2), is)
