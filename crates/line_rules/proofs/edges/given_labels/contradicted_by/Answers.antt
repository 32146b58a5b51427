use Rattle.std.proofs.Common.{◌∙◌, sym}
use Rattle.std.proofs.lemmas.Bool.{both_ways}
use Rattle.relationships.specs.Graph.{edge_of}
use Rattle.line_rules.specs.EdgeLines.{edges_of}
use Rattle.tor_arena.proofs.Gets.{Contains-from_has}
use Rattle.line_rules.proofs.ListedEdges.{within_lines}
use Rattle.line_rules.proofs.GivenPlaces.{label_absent, label_right, label_wrong}
use Rattle.line_rules.proofs.edges.given_labels.contradicted_by.Goals as goal

pub returns-in_default : goal.returns-in_default
returns-in_default c =
    let g = c.args.given.now in
    let lines = c.args.labels.now in
    let none = rw c.requires.table at c.in_default.ensures.found in
    label_absent lines c.requires.apart g (λ k at. none (Contains-from_has (edges_of lines) (edge_of g.over g.under) (k, at)))

pub of-requires : goal.of-requires
of-requires c = within_lines c.args.labels.now c.in-Some.place (edge_of c.args.given.now.over c.args.given.now.under) (rw c.requires.table at c.in-Some.ensures.found)

pub returns-then-has_provider : goal.returns-then-has_provider
returns-then-has_provider c =
    let found = rw c.requires.table at c.in-Some.ensures.found in
    label_right c.args.labels.now c.requires.apart c.args.given.now c.in-Some.place found (sym c.of.ensures ∙ c.has_provider.ensures.0 c.if-has_provider.true)

pub returns-else-has_provider : goal.returns-else-has_provider
returns-else-has_provider c =
    let found = rw c.requires.table at c.in-Some.ensures.found in
    label_wrong c.args.labels.now c.requires.apart c.args.given.now c.in-Some.place found
    (λ right. both_ways c.has_provider.result c.if-has_provider.false (c.has_provider.ensures.1 (c.of.ensures ∙ right)))
