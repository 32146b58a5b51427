use Rattle.std.proofs.Common.{◌≡◌, ◌<◌, ◌^◌, ◌∷◌, ◌++◌, [], List, ℕ, length, take, refl, sym, ap, ap₂, ◌∙◌, subst, arith}
use Rattle.std.proofs.Math.Seq.{take-append_seam}
use Rattle.std.proofs.lemmas.List.{length-map}
use Rattle.relationships.specs.Graph.{Edge}
use Rattle.tor_digraph.specs.Walks.{Net}
use Rattle.tor_clauses.specs.declared.triple.TriplePlace.{TriplePlace}
use Rattle.tor_clauses.specs.Tables.{Implications, AreStanding, IsNoted, implying, with_triple, standing, triples_at}
use Rattle.tor_clauses.proofs.Cuts.{arcs_few}
use Rattle.tor_clauses.proofs.Knowns.{new-triple, old-triple, key_number}
use Rattle.tor_clauses.proofs.PlacedTriples.{triples_at-length, standing-more, seen, placed_none, placed_one}
use Rattle.tor_clauses.proofs.triple_table.TripleTable.add.Goals as goal

abbrev pair : ℕ → ℕ → Edge
pair m n = (m, n)

pub add_arcs-requires-clause-few : goal.add_arcs-requires-clause-few
add_arcs-requires-clause-few c =
    arcs_few (triples_at c.self.inside.places.items c.self.inside.digraph.arcs) c.self.inside.digraph.arcs c.self.invariant.standing.of_triples
    (subst (λ (i : Implications). length i.triples < 2 ^ 27) (sym c.self.view_is) c.requires.room)

pub push_reserved-requires-clause-below : goal.push_reserved-requires-clause-below
push_reserved-requires-clause-below c =
    let room : length (triples_at c.self.inside.places.items c.self.inside.digraph.arcs) < 2 ^ 27 =
    subst (λ (i : Implications). length i.triples < 2 ^ 27) (sym c.self.view_is) c.requires.room in
    let long = triples_at-length c.self.inside.places.items c.self.inside.digraph.arcs c.self.invariant.standing.many in
    let same : length c.reserve.new.self.items ≡ length c.self.inside.places.items = ap length c.reserve.ensures.items in
    omega (arith, room, long, same)

-- the numbers before the last one
cut_back : (n : ℕ) (known more : List ℕ) (number : ℕ) → n ≡ length known → more ≡ known ++ number ∷ [] → take n more ≡ known
cut_back n known more number e f = ap₂ take e f ∙ take-append_seam known (number ∷ [])

pub returns-then-not-branch-clause-ok : goal.returns-then-not-branch-clause-ok
returns-then-not-branch-clause-ok c =
    let t = c.args.triple in
    let known = c.self.invariant.known in
    let ps = c.self.inside.places.items in
    let net = c.self.inside.digraph in
    let noted = (subst (IsNoted net.arcs (pair c.node-first.result c.node-second.result) c.self.inside.known c.insert.new.known) c.if-not-branch.true c.in_ok-insert.ensures.ok)
    known ps t c.self.invariant.standing c.self.invariant.has c.requires.nodes (ap₂ pair c.node-first.ensures.node c.node-second.ensures.node) in
    let there = old-triple t (key_number t) known noted.0 (triples_at ps net.arcs) c.requires.nodes c.self.invariant.standing.keys refl noted.1 in
    subst (λ (i : Implications). seen c.reserve.new.self.items net ≡ implying i (with_triple i.triples t)) c.self.view_is
    (ap (λ (qs : List TriplePlace). seen qs net) c.reserve.ensures.items ∙ placed_none known ps net t c.self.invariant.standing there)

placed : (c : goal.After-push_reserved) → c.push_reserved.new.self.items ≡ c.self.inside.places.items ++ standing c.args.triple ∷ []
placed c = c.push_reserved.ensures.added ∙ ap (λ (qs : List TriplePlace). qs ++ standing c.args.triple ∷ []) c.reserve.ensures.items

pub invariant_of-self-in-Ok : goal.invariant_of-self-in-Ok
invariant_of-self-in-Ok c =
    let t = c.args.triple in
    let known = c.self.invariant.known in
    let ps = c.self.inside.places.items in
    let arcs = c.self.inside.digraph.arcs in
    let noted = (subst (IsNoted arcs (pair c.node-first.result c.node-second.result) c.self.inside.known c.insert.new.known) c.if-not-branch.false c.in_ok-insert.ensures.ok)
    known ps t c.self.invariant.standing c.self.invariant.has c.requires.nodes (ap₂ pair c.node-first.ensures.node c.node-second.ensures.node) in
    record {
      known = noted.0;
      standing = standing-more known noted.0 ps c.push_reserved.new.self.items arcs c.add_arcs.new.digraph.arcs t c.self.invariant.standing c.requires.nodes
          (subst (λ (i : Implications). length i.triples < 2 ^ 27) (sym c.self.view_is) c.requires.room) noted.1.1 (placed c) (ap (λ (n : Net ℕ). n.arcs) c.in-Ok.ensures.ok);
      has = noted.2;
    }

pub invariant_of-self-in-Err : goal.invariant_of-self-in-Err
invariant_of-self-in-Err c =
    let t = c.args.triple in
    let known = c.self.invariant.known in
    let ps = c.self.inside.places.items in
    let arcs = c.self.inside.digraph.arcs in
    let noted = (subst (IsNoted arcs (pair c.node-first.result c.node-second.result) c.self.inside.known c.insert.new.known) c.if-not-branch.false c.in_ok-insert.ensures.ok)
    known ps t c.self.invariant.standing c.self.invariant.has c.requires.nodes (ap₂ pair c.node-first.ensures.node c.node-second.ensures.node) in
    let long : c.len-count.result ≡ length known = c.len-count.ensures.len ∙ ap (λ (i : Implications). length i.triples) (sym c.self.view_is) ∙
    sym (ap length c.self.invariant.standing.keys.keys ∙ length-map (triples_at ps arcs) key_number) in
    let same : take c.len-count.result noted.0 ≡ known = cut_back c.len-count.result known noted.0 (key_number t) long noted.1.1 in
    record {
      known = take c.len-count.result noted.0;
      standing = subst (λ (l : List ℕ). AreStanding l c.reserve.new.self.items c.add_arcs.new.digraph.arcs) (sym same)
          (subst (λ (qs : List TriplePlace). AreStanding known qs c.add_arcs.new.digraph.arcs) (sym c.reserve.ensures.items)
          (subst (λ (n : Net ℕ). AreStanding known ps n.arcs) (sym c.in-Err.ensures.err) c.self.invariant.standing));
      has = c.cut_numbers.ensures noted.0 noted.2;
    }

pub returns-in-Ok-clause-ok : goal.returns-in-Ok-clause-ok
returns-in-Ok-clause-ok c =
    let t = c.args.triple in
    let known = c.self.invariant.known in
    let ps = c.self.inside.places.items in
    let net = c.self.inside.digraph in
    let noted = (subst (IsNoted net.arcs (pair c.node-first.result c.node-second.result) c.self.inside.known c.insert.new.known) c.if-not-branch.false c.in_ok-insert.ensures.ok)
    known ps t c.self.invariant.standing c.self.invariant.has c.requires.nodes (ap₂ pair c.node-first.ensures.node c.node-second.ensures.node) in
    let new = new-triple t (key_number t) known noted.0 (triples_at ps net.arcs) c.self.invariant.standing.keys refl noted.1 in
    subst (λ (i : Implications). seen c.push_reserved.new.self.items c.add_arcs.new.digraph ≡ implying i (with_triple i.triples t)) c.self.view_is
    (placed_one known ps c.push_reserved.new.self.items net c.add_arcs.new.digraph t c.self.invariant.standing new (placed c) c.in-Ok.ensures.ok)
