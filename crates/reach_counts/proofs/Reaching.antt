-- What a node reaches in a digraph.
use Rattle.std.proofs.Common.{ℕ, ◌<◌, List}
use Rattle.tor_digraph.specs.Walks.{Net, Reaches, IsInside, here, along}

pub joined : (arcs : List (ℕ × ℕ)) (a b c : ℕ) → Reaches arcs a b → Reaches arcs b c → Reaches arcs a c
joined arcs a b c r here = r
joined arcs a b c r (along {b = d} {c = e} s arc) = along (joined arcs a b d r s) arc

-- what is reached is there
pub reached-inside : (net : Net ℕ) (a b : ℕ) → IsInside (λ n. n) net → a < net.nodes → Reaches net.arcs a b → b < net.nodes
reached-inside net a b inside lt here = lt
reached-inside net a b inside lt (along {b = d} {c = e} r arc) = inside.heads arc.0 d e arc.1
