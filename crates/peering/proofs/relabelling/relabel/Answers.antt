use Rattle.std.proofs.Common.{rules, ◌≡◌, ◌<◌, ◌∙◌, Bool, false, List, [], length, get_or, map, sym, ap, subst, arith}
use Rattle.std.specs.List.{flat_map}
use Rattle.std.proofs.lemmas.Option.{slice_get-get_or}
use Rattle.std.proofs.lemmas.List.{length-map, get_or_default}
use Rattle.relationships.specs.declared.label.End.{End}
use Rattle.relationships.specs.Relationship.{label_of}
use Rattle.relationships.specs.Graph.{Edge, edges, edges_on, degree, orientation, labelling}
use Rattle.relationships.proofs.Edges.{peering_law}
use Rattle.relationships.proofs.Preferring.{maximal_law}
use Rattle.as_graph.specs.Paths.{paths_at}
use Rattle.as_graph.proofs.Labelled.{NoneTwice-distinct}
use Rattle.peering.specs.Exclusions.{IsExcluded, AllExcluded}
use Rattle.peering.specs.Peerings.{IsPeeredIfAllowed}
use Rattle.peering.proofs.Reading.{edge_among, no_peers_at_first}
use Rattle.peering.proofs.Flipping.{begins, relabelled}
use Rattle.peering.proofs.Steps.{AreFound, AreSettled, settled_next}
use Rattle.peering.proofs.relabelling.relabel.Goals as goal

pub loop-place-init : goal.loop-place-init
loop-place-init c =
    let paths = c.args.graph.now in
    let kept = c.args.kept.now in
    let ends = c.args.orientation.now in
    let es = edges paths in
    let first : c.in_ok-labels.labels ≡ map label_of ends = c.in_ok-labels.ensures ∙ ap (map label_of) c.as_slice-ends.ensures in
    subst (AreSettled paths kept c.args.ratio ends c.in_ok-opened.opened.items 0) (sym first) (record {
      count = length-map ends label_of ∙ c.requires.ends;
      so_far =
          begins (degree paths) c.args.ratio (paths_at paths kept) es ends (NoneTwice-distinct (flat_map edges_on paths)) (λ f at. edge_among paths kept f c.requires.there at) c.requires.ends
          c.requires.served;
      only = λ k p. absurd (no_peers_at_first ends k p);
    })

pub loop-place-preserved : goal.loop-place-preserved
loop-place-preserved c =
    let paths = c.args.graph.now in
    let kept = c.args.kept.now in
    let ends = c.args.orientation.now in
    let ratio = c.args.ratio in
    let es = edges paths in
    let place = c.loop-place.place in
    let excluded = c.as_slice.result.now in
    let opened = c.in_ok-opened.opened.items in
    let partners = c.openings.new.partners in
    let same : c.unwrap-edge.result ≡ place = search rules in
    let test = c.loop-place-test.true in
    let many = c.edge_count-place-end.ensures.count in
    let lt : place < length es = omega (arith, test, many) in
    let e : Edge = get_or es place (0, 0) in
    let is_open = c.index.result.now in
    let long = c.in_ok-opened.ensures.long in
    let read : is_open ≡ get_or opened place false = c.index.ensures ∙ get_or_default opened place is_open false (omega (arith, lt, long)) in
    let value = c.as_slice.ensures.value in
    let found : AreFound paths kept ends excluded opened partners = record {
      excluded_so = λ k t. subst (λ (l : List End). IsExcluded paths kept l k) c.as_slice-ends.ensures (c.in_ok-excluded.ensures.excluded k (ap (λ l. get_or l k false) (sym value) ∙ t));
      all_excluded =
          subst (λ (l : List Bool). AllExcluded paths kept ends l) (sym value)
          (subst (λ (l : List End). AllExcluded paths kept l c.in_ok-excluded.excluded.items) c.as_slice-ends.ensures c.in_ok-excluded.ensures.all);
      opened_so = c.in_ok-opened.ensures.opened;
      all_opened = c.in_ok-opened.ensures.all_opened;
      beside = c.in_ok-opened.ensures.beside;
      all_beside = c.in_ok-opened.ensures.all_beside;
    } in
    let settled : IsPeeredIfAllowed paths ratio is_open (get_or partners c.unwrap-edge.result []) c.unwrap-edge.result c.loop-place.labels c.settle.new.labels = c.settle.ensures in
    settled_next paths kept ratio ends opened c.requires.there c.facts.ensures.apart c.requires.ends excluded partners found place e c.loop-place.labels
    (slice_get-get_or es place (0, 0) lt) c.loop-place.invariant c.settle.new.labels
    (subst (λ b. IsPeeredIfAllowed paths ratio b (get_or partners place []) place c.loop-place.labels c.settle.new.labels) read
    (subst (λ k. IsPeeredIfAllowed paths ratio is_open (get_or partners k []) k c.loop-place.labels c.settle.new.labels) same settled))

pub returns-clause-relabelled : goal.returns-clause-relabelled
returns-clause-relabelled c =
    let paths = c.args.graph.now in
    let test = c.loop-place-test.false in
    let many = c.edge_count-place-end.ensures.count in
    let end = c.loop-place.auto.place-end in
    let all : c.loop-place.place ≡ length (edges paths) = omega (arith, test, many, end) in
    relabelled (degree paths) c.args.ratio (paths_at paths c.args.kept.now) (edges paths) (orientation (edges paths) c.args.orientation.now) (NoneTwice-distinct (flat_map edges_on paths))
    (λ f at. edge_among paths c.args.kept.now f c.requires.there at) c.loop-place.place (labelling (edges paths) c.loop-place.labels) all c.loop-place.invariant.so_far

pub returns-clause-either_way : goal.returns-clause-either_way
returns-clause-either_way c =
    peering_law (labelling (edges c.args.graph.now) c.loop-place.labels) (paths_at c.args.graph.now c.args.kept.now) c.loop-place.invariant.so_far.free

pub returns-clause-none_left_out : goal.returns-clause-none_left_out
returns-clause-none_left_out c =
    let paths = c.args.graph.now in
    maximal_law (degree paths) c.args.ratio (paths_at paths c.args.kept.now) (edges paths) (orientation (edges paths) c.args.orientation.now) (labelling (edges paths) c.loop-place.labels)
    (returns-clause-relabelled c) (λ f at. edge_among paths c.args.kept.now f c.requires.there at)
