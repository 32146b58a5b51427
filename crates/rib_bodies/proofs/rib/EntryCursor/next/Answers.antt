use Rattle.std.proofs.Common.{◌≡◌, ◌<◌, [], sym, ◌∙◌, arith}
use Rattle.rib_bodies.specs.Rib.{Fields}
use Rattle.rib_bodies.proofs.Loops.{first_in, none_in, no_fault}
use Rattle.rib_bodies.proofs.rib.EntryCursor.next.Goals as goal

pub returns-then-self-eq0 : goal.returns-then-self-eq0
returns-then-self-eq0 c =
    let end : c.args.self.now ≡ [] = sym c.self.view_is ∙ none_in c.self.inside.form c.self.inside.peers.count c.self.inside.count c.self.inside.rest.now c.if-self-eq0.true in
    (end, end)

pub unreachable-requires : goal.unreachable-requires
unreachable-requires c =
    let some : 0 < c.self.inside.count = omega (arith, c.if-self-eq0.false) in
    no_fault c.self.inside.form c.self.inside.peers.count c.self.inside.count c.self.inside.rest.now c.in_default.field-0 some c.in_default.ensures c.self.invariant

pub whole_attributes-requires : goal.whole_attributes-requires
whole_attributes-requires c =
    let f : Fields = record { peer = c.in-Ok.peer; block = c.in-Ok.block.now; rest = c.in-Ok.rest.now } in
    let some : 0 < c.self.inside.count = omega (arith, c.if-self-eq0.false) in
    (first_in c.self.inside.form c.self.inside.peers.count c.self.inside.count c.self.inside.rest.now f some c.in-Ok.ensures c.self.invariant).block

pub invariant_of-self : goal.invariant_of-self
invariant_of-self c =
    let f : Fields = record { peer = c.in-Ok.peer; block = c.in-Ok.block.now; rest = c.in-Ok.rest.now } in
    let some : 0 < c.self.inside.count = omega (arith, c.if-self-eq0.false) in
    (first_in c.self.inside.form c.self.inside.peers.count c.self.inside.count c.self.inside.rest.now f some c.in-Ok.ensures c.self.invariant).rest

pub returns : goal.returns
returns c =
    let f : Fields = record { peer = c.in-Ok.peer; block = c.in-Ok.block.now; rest = c.in-Ok.rest.now } in
    let some : 0 < c.self.inside.count = omega (arith, c.if-self-eq0.false) in
    let first = first_in c.self.inside.form c.self.inside.peers.count c.self.inside.count c.self.inside.rest.now f some c.in-Ok.ensures c.self.invariant in
    rw c.whole_attributes.ensures (sym c.self.view_is ∙ first.all)
