use Rattle.std.proofs.Common.{◌+◌, Some, None, length, subst, sym, ap}
use Rattle.line_rules.specs.EdgeLines.{AreApart}
use Rattle.line_rules.specs.GivenLabels.{HasLabelsAt}
use Rattle.line_rules.specs.Breaches.{First}
use Rattle.line_rules.proofs.ListedEdges.{edges_apart}
use Rattle.line_rules.proofs.GivenPlaces.{all_serve, label_fails}
use Rattle.line_rules.proofs.edges.edge_rules.find_valley.Goals as goal

pub find_contradicted-requires-clause-apart : goal.find_contradicted-requires-clause-apart
find_contradicted-requires-clause-apart c = subst AreApart (sym c.requires.labels) (edges_apart c.args.file.now c.requires.clean c.requires.listed)

pub returns-in-Some-find_contradicted : goal.returns-in-Some-find_contradicted
returns-in-Some-find_contradicted c =
    let file = c.args.file.now in
    let j = c.in-Some-find_contradicted.place in
    label_fails file (c.len.result + j) j (ap (λ n. n + j) c.len.ensures.length) c.in_default.ensures
    (subst (λ gs. First (HasLabelsAt file.edges gs) (length file.edges) (Some j)) c.givens_of.ensures (rw c.requires.labels at c.in-Some-find_contradicted.ensures))

pub returns-in-None : goal.returns-in-None
returns-in-None c =
    let file = c.args.file.now in
    all_serve file c.in_default.ensures
    (subst (λ gs. First (HasLabelsAt file.edges gs) (length file.edges) None) c.givens_of.ensures (rw c.requires.labels at c.in-None.ensures))
