use Rattle.std.proofs.Common.{rules, ◌≡◌, ◌<◌, length, Some, sym, subst}
use Rattle.std.specs.Prelude.{slice_get}
use Rattle.tor_clauses.specs.Tables.{Implications}
use Rattle.tor_clauses.proofs.PlacedTriples.{place_within, place_read}
use Rattle.tor_clauses.proofs.triple_table.TripleTable.place_of.Goals as goal

pub get-requires : goal.get-requires
get-requires c =
    let same : c.unwrap-id.result ≡ c.args.place = search rules in
    subst (λ k. k < length c.self.inside.places.items) (sym same)
    (place_within c.self.invariant.known c.self.inside.places.items c.self.inside.digraph.arcs c.self.invariant.standing c.args.place
    (subst (λ (i : Implications). c.args.place < length i.triples) (sym c.self.view_is) c.requires))

pub returns : goal.returns
returns c = λ t there.
    let same : c.unwrap-id.result ≡ c.args.place = search rules in
    place_read c.self.invariant.known c.self.inside.places.items c.self.inside.digraph.arcs c.self.invariant.standing c.args.place t
    (subst (λ (i : Implications). slice_get i.triples c.args.place ≡ Some t) (sym c.self.view_is) there) c.get.result.now
    (subst (λ k. slice_get c.self.inside.places.items k ≡ Some c.get.result.now) same c.get.ensures)
