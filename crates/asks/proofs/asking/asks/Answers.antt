use Rattle.std.proofs.Common.{◌∙◌, ℕ, ◌*◌, ◌<◌, length, sym, ap, subst, arith, All}
use Rattle.relationships.specs.Graph.{edges}
use Rattle.as_graph.specs.Paths.{paths_at}
use Rattle.tor_digraph.specs.Walks.{Net}
use Rattle.ties.specs.Tied.{open_from}
use Rattle.ties.proofs.Exactness.{as_many}
use Rattle.asks.specs.declared.ask.Ask.{Ask}
use Rattle.asks.specs.Asks.{AreAsks}
use Rattle.asks.specs.Narrowing.{AreOpenAsks}
use Rattle.asks.proofs.Askings.{all_asks, all_inside, in_order, inside_in_order}
use Rattle.asks.proofs.asking.asks.Goals as goal

pub open_places-requires : goal.open_places-requires
open_places-requires c =
    let many = as_many (paths_at c.args.fitted.now.graph c.args.fitted.now.formula.paths) (edges c.args.fitted.now.graph) c.args.marks.now c.requires.marks in
    let few = c.facts.ensures.few in
    omega (arith, many, few)

pub open_asks-requires-clause-inside : goal.open_asks-requires-clause-inside
open_asks-requires-clause-inside c =
    let many = as_many (paths_at c.args.fitted.now.graph c.args.fitted.now.formula.paths) (edges c.args.fitted.now.graph) c.args.marks.now c.requires.marks in
    ap (λ (n : Net ℕ). n.nodes) c.digraph.ensures ∙ c.facts.ensures.fits.nodes ∙ ap (λ n. n * 2) (sym many)

pub open_asks-requires-clause-few : goal.open_asks-requires-clause-few
open_asks-requires-clause-few c =
    let many = as_many (paths_at c.args.fitted.now.graph c.args.fitted.now.formula.paths) (edges c.args.fitted.now.graph) c.args.marks.now c.requires.marks in
    let few = c.facts.ensures.few in
    omega (arith, many, few)

-- the edges have their numbers by the digraph of their orders
open_are : (c : goal.After-drop-places-inside-2) →
    AreOpenAsks c.args.marks.now (open_from 0 c.args.marks.now) c.args.fitted.now.formula.net c.in_ok-asks.asks.items
open_are c =
    subst (λ (n : Net ℕ). AreOpenAsks c.args.marks.now (open_from 0 c.args.marks.now) n c.in_ok-asks.asks.items) c.digraph.ensures
    (subst (λ places. AreOpenAsks c.args.marks.now places c.digraph.result.now c.in_ok-asks.asks.items) (c.as_slice.ensures ∙ c.in_ok-places.ensures)
    c.in_ok-asks.ensures.numbers)

pub returns-clause-asks : goal.returns-clause-asks
returns-clause-asks c =
    let graph = c.args.fitted.now.graph in
    let f = c.args.fitted.now.formula in
    let all = all_asks c.decided_law.ensures c.implication_law.ensures c.closure_reach_law.ensures graph f c.facts.ensures.apart c.facts.ensures.fits c.facts.ensures.inside
    c.facts.ensures.partners c.requires.served c.args.marks.now c.requires.marks c.in_ok-asks.asks.items (open_are c) in
    subst (AreAsks (paths_at graph f.paths) (edges graph) (open_from 0 c.args.marks.now)) (sym c.from_vec.ensures)
    (in_order (paths_at graph f.paths) (edges graph) (open_from 0 c.args.marks.now) c.in_ok-asks.asks.items c.sort_asks.new.asks.items
    (c.in_ok-asks.ensures.edges ∙ c.as_slice.ensures ∙ c.in_ok-places.ensures) all c.sort_asks.ensures.same c.sort_asks.ensures.sorted)

pub returns-clause-inside : goal.returns-clause-inside
returns-clause-inside c =
    let graph = c.args.fitted.now.graph in
    let f = c.args.fitted.now.formula in
    let all = all_inside c.decided_law.ensures c.implication_law.ensures c.closure_reach_law.ensures graph f c.facts.ensures.apart c.facts.ensures.fits
    c.facts.ensures.inside c.facts.ensures.partners c.requires.served c.args.marks.now c.requires.marks c.in_ok-asks.asks.items (open_are c) in
    subst (All (λ (a : Ask). a.edge < length (edges graph))) (sym c.from_vec.ensures)
    (inside_in_order (length (edges graph)) c.in_ok-asks.asks.items c.sort_asks.new.asks.items c.sort_asks.ensures.same all)
