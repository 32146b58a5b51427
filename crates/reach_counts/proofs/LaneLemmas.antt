-- Which nodes 64 nodes reach, by the bits of their classes.
use Rattle.std.proofs.Common.{◌≡◌, ℕ, ◌+◌, ◌<◌, List, sym, subst}
use Rattle.tor_digraph.specs.Walks.{Net, Reaches, IsInside}
use Rattle.tor_solve.specs.Classes.{Classes, IsComponents}
use Rattle.reach_counts.specs.Condensing.{IsCondensed}
use Rattle.reach_counts.specs.Masks.{AreReachBits, AreNodeBits}
use Rattle.reach_counts.proofs.Condensations.{class-of, class-below, down, up}
use Rattle.reach_counts.proofs.MaskLemmas.{class-or, class-or-is}

pub node-bits : (net : Net ℕ) (c : Classes) (other : Net ℕ) (base : ℕ) (masks : List ℕ) → IsComponents (λ n. n) net c → IsCondensed net c other → IsInside (λ n. n) net →
    AreReachBits other (class-or c.of c.count base) masks → AreNodeBits net c.of base masks
node-bits net c other base masks parts cond inside bits x k j lane there h =
    let s = class-of net c other parts cond (base + j) there in
    let e : class-or c.of c.count base j ≡ s.0 = class-or-is c.of c.count base j s.0 s.1 in
    let below = class-below net c other parts cond x k h in
    let source = class-below net c other parts cond (base + j) s.0 s.1 in
    let r = bits k j below lane (subst (λ z. z < other.nodes) (sym e) source) in (
      λ b. up net c other parts cond s.0 k (subst (λ z. Reaches other.arcs z k) e (r.0 b)) (base + j) x s.1 h,
      λ w. r.1 (subst (λ z. Reaches other.arcs z k) (sym e) (down net c other parts cond inside (base + j) x s.0 k there w s.1 h)),
    )
