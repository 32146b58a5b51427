use Rattle.std.proofs.Common.{◌≡◌, ◌*◌, ◌/◌, ◌<◌, Some, flat_map, length, sym, ap, ◌∙◌, subst, arith}
use Rattle.std.specs.Prelude.{slice_get}
use Rattle.tor_clauses.specs.Triples.{arcs_of}
use Rattle.tor_clauses.specs.Formulas.{Formula}
use Rattle.tor_clauses.proofs.Arcs.{length-arcs, triple_named}
use Rattle.tor_clauses.proofs.clauses.Clauses.triple_of.Goals as goal

pub get-requires : goal.get-requires
get-requires c =
    let l : length c.self.inside.table.net.arcs ≡ length c.self.inside.table.triples * 2 = ap length c.self.invariant ∙ length-arcs c.self.inside.table.triples in
    let below : c.args.arc < length c.self.inside.table.net.arcs = subst (λ (f : Formula). c.args.arc < length f.net.arcs) (sym c.self.view_is) c.requires in
    omega (arith, l, below, c.place.ensures.place)

pub returns-clause-arc : goal.returns-clause-arc
returns-clause-arc c =
    let arcs : c.args.self.now.net.arcs ≡ flat_map arcs_of c.args.self.now.triples = subst (λ (f : Formula). f.net.arcs ≡ flat_map arcs_of f.triples) c.self.view_is c.self.invariant in
    let there : slice_get c.args.self.now.triples (c.args.arc / 2) ≡ Some c.get.result =
    subst (λ k. slice_get c.args.self.now.triples (k / 2) ≡ Some c.get.result) c.place.ensures.place
    (subst (λ (f : Formula). slice_get f.triples (c.place.result / 2) ≡ Some c.get.result) c.self.view_is c.get.ensures) in
    triple_named c.args.self.now.triples c.args.self.now.net.arcs c.args.arc c.get.result arcs c.requires there
