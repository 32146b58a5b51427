use Rattle.std.proofs.Common.{◌∙◌, ap, sym}
use Rattle.relationships.specs.Givens.{returns}
use Rattle.rel_infer.proofs.Acceptance.{same_givens}
use Rattle.rel_infer.proofs.Continuing.{first_served}
use Rattle.rel_infer.proofs.taking_up.kept_over.Goals as goal

pub returns-clause-served : goal.returns-clause-served
returns-clause-served c =
    let e = c.requires.begins in
    let graph = c.args.graph.now in
    let behind = c.requires.behind ∙ ap (returns graph) (same_givens e.file c.args.earlier.now.givens (sym e.left.givens)) in
    first_served e.file graph e.begins c.args.count c.requires.count c.in_ok-places.places c.in_ok-ends.ends behind
    (c.in_ok-places.ensures.kept e.file e.left e.begins) (c.in_ok-ends.ensures e.file e.left e.accepted e.begins)
