use Rattle.std.proofs.Common.{◌≡◌, ◌≤◌, ◌∙◌, List, length, sym, ap, ap₂, subst, arith}
use Rattle.relationships.specs.declared.given.Given.{Given}
use Rattle.relationships.specs.declared.label.End.{End}
use Rattle.relationships.specs.Graph.{edges}
use Rattle.rel_infer.specs.FirstEnds.{first_ends, AreTurned}
use Rattle.result_rules.specs.File.{its_givens}
use Rattle.rel_infer.proofs.Orienting.{few_lines, kept_law, givens_by}
use Rattle.rel_infer.proofs.earlier_ends.kept_orientation.Goals as goal

pub returns : goal.returns
returns c = λ file left accepted begins.
    let graph = c.args.graph.now in
    let few = few_lines file accepted graph begins in
    let lines : c.as_slice.result.now ≡ file.edges = c.as_slice.ensures ∙ left.edges in
    let count : c.edge_count.result ≡ length (edges graph) = c.edge_count.ensures.count in
    let within : length c.as_slice.result.now ≤ c.edge_count.result = let same = ap length lines in omega (arith, same, count, few) in
    let first : c.in_ok-ends.ends ≡ first_ends file.edges (length (edges graph)) = c.in_ok-ends.ensures.ends within ∙ ap₂ first_ends lines count in
    let many : length (first_ends file.edges (length (edges graph))) ≡ length (edges graph) = ap length (sym first) ∙ c.in_ok-ends.ensures.many ∙ count in
    let givens : c.givens_of.result.now ≡ its_givens file = c.givens_of.ensures ∙ givens_by file c.args.rest.now.givens (sym left.givens) in
    let turned = subst (λ (old : List End). AreTurned graph c.givens_of.result.now old c.turn_all.new.ends) first c.turn_all.ensures in
    kept_law file accepted graph begins c.turn_all.new.ends
    (subst (λ (gs : List Given). AreTurned graph gs (first_ends file.edges (length (edges graph))) c.turn_all.new.ends) givens turned) many
