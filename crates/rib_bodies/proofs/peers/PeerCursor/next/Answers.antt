use Rattle.std.proofs.Common.{◌≡◌, ◌<◌, [], sym, ◌∙◌, arith}
use Rattle.rib_bodies.proofs.PeerLoops.{first_named, none_named, no_peer_fault}
use Rattle.rib_bodies.proofs.peers.PeerCursor.next.Goals as goal

pub returns-then-self-eq0 : goal.returns-then-self-eq0
returns-then-self-eq0 c =
    let end : c.args.self.now ≡ [] = sym c.self.view_is ∙ none_named c.self.inside.count c.self.inside.rest.now c.if-self-eq0.true in
    (end, end)

pub unreachable-requires : goal.unreachable-requires
unreachable-requires c =
    let some : 0 < c.self.inside.count = omega (arith, c.if-self-eq0.false) in
    no_peer_fault c.self.inside.count c.self.inside.rest.now c.in_default.field-0 some c.in_default.ensures c.self.invariant

pub invariant_of-self : goal.invariant_of-self
invariant_of-self c =
    let some : 0 < c.self.inside.count = omega (arith, c.if-self-eq0.false) in
    (first_named c.self.inside.count c.self.inside.rest.now c.in-Ok.peer c.in-Ok.rest.now some c.in-Ok.ensures c.self.invariant).rest

pub returns : goal.returns
returns c =
    let some : 0 < c.self.inside.count = omega (arith, c.if-self-eq0.false) in
    sym c.self.view_is ∙ (first_named c.self.inside.count c.self.inside.rest.now c.in-Ok.peer c.in-Ok.rest.now some c.in-Ok.ensures c.self.invariant).all
