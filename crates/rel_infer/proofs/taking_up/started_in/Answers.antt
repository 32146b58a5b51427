use Rattle.std.proofs.Common.{◌≡◌, ◌≤◌, ◌++◌, ◌∙◌, List, length, sym, ap, subst, arith}
use Rattle.relationships.specs.declared.given.Given.{Given}
use Rattle.relationships.specs.Givens.{returns, NameTwo, NameOnce}
use Rattle.tor_clauses.specs.Formulas.{numbered}
use Rattle.result_text.specs.Text.{its_givens}
use Rattle.rel_infer.specs.GivenInference.{max_givens}
use Rattle.rel_infer.specs.Resumed.{kept_first}
use Rattle.rel_infer.specs.Returns.{numbers_from}
use Rattle.rel_infer.proofs.Acceptance.{same_givens}
use Rattle.rel_infer.proofs.Continuing.{its_two, its_once, graph_begins, returns_behind}
use Rattle.rel_infer.proofs.Linking.{long, edges_same, numbers_same}
use Rattle.rel_infer.proofs.taking_up.started_in.Goals as goal

pub build_with-requires-clause-two : goal.build_with-requires-clause-two
build_with-requires-clause-two c =
    let earlier = c.requires.begins.file in
    let paths = c.args.paths.now in
    let givens : c.given_slice-givens.result.now ≡ its_givens earlier = c.given_slice-givens.ensures ∙ same_givens earlier c.args.earlier.now.givens (sym c.requires.begins.left.givens) in
    subst NameTwo (sym givens) (its_two earlier c.requires.begins.accepted)

pub build_with-requires-clause-once : goal.build_with-requires-clause-once
build_with-requires-clause-once c =
    let earlier = c.requires.begins.file in
    let paths = c.args.paths.now in
    let givens : c.given_slice-givens.result.now ≡ its_givens earlier = c.given_slice-givens.ensures ∙ same_givens earlier c.args.earlier.now.givens (sym c.requires.begins.left.givens) in
    subst NameOnce (sym givens) (its_once earlier c.requires.begins.accepted)

pub numbers_of-requires-clause-few : goal.numbers_of-requires-clause-few
numbers_of-requires-clause-few c =
    subst (λ (gs : List Given). length gs ≤ max_givens) (sym c.given_slice-givens.ensures) c.requires.few_givens

pub kept_over-requires-clause-begins : goal.kept_over-requires-clause-begins
kept_over-requires-clause-begins c =
    let earlier = c.requires.begins.file in
    let paths = c.args.paths.now in
    let givens : c.given_slice-givens.result.now ≡ its_givens earlier = c.given_slice-givens.ensures ∙ same_givens earlier c.args.earlier.now.givens (sym c.requires.begins.left.givens) in
    let same = c.in_ok-graph.ensures ∙ ap (λ (gs : List Given). paths ++ returns paths gs) givens in
    record { file = earlier; left = c.requires.begins.left; accepted = c.requires.begins.accepted; begins = graph_begins earlier paths c.in_ok-graph.graph c.requires.begins.begins same }

pub kept_over-requires-clause-count : goal.kept_over-requires-clause-count
kept_over-requires-clause-count c =
    let earlier = c.requires.begins.file in
    let paths = c.args.paths.now in
    let givens : c.given_slice-givens.result.now ≡ its_givens earlier = c.given_slice-givens.ensures ∙ same_givens earlier c.args.earlier.now.givens (sym c.requires.begins.left.givens) in
    let same = c.in_ok-graph.ensures ∙ ap (λ (gs : List Given). paths ++ returns paths gs) givens in
    let sum = long (its_givens earlier) paths c.in_ok-graph.graph same in
    let n = c.len.ensures.length in
    omega (arith, sum, n)

pub kept_over-requires-clause-behind : goal.kept_over-requires-clause-behind
kept_over-requires-clause-behind c =
    let earlier = c.requires.begins.file in
    let paths = c.args.paths.now in
    let givens : c.given_slice-givens.result.now ≡ its_givens earlier = c.given_slice-givens.ensures ∙ same_givens earlier c.args.earlier.now.givens (sym c.requires.begins.left.givens) in
    let same = c.in_ok-graph.ensures ∙ ap (λ (gs : List Given). paths ++ returns paths gs) givens in
    returns_behind earlier paths c.in_ok-graph.graph c.requires.begins.begins same c.len.result c.len.ensures.length ∙
    ap (returns c.in_ok-graph.graph) (sym (same_givens earlier c.args.earlier.now.givens (sym c.requires.begins.left.givens)))

pub returns-in-Ok-kept_over-clause-graph : goal.returns-in-Ok-kept_over-clause-graph
returns-in-Ok-kept_over-clause-graph c = c.in_ok-graph.ensures ∙ ap (λ (gs : List Given). c.args.paths.now ++ returns c.args.paths.now gs) c.given_slice-givens.ensures

pub returns-in-Ok-kept_over-clause-kept : goal.returns-in-Ok-kept_over-clause-kept
returns-in-Ok-kept_over-clause-kept c = λ file left begins.
    let paths = c.args.paths.now in
    let givens : c.given_slice-givens.result.now ≡ its_givens file = c.given_slice-givens.ensures ∙ same_givens file c.args.earlier.now.givens (sym left.givens) in
    let same = c.in_ok-graph.ensures ∙ ap (λ (gs : List Given). paths ++ returns paths gs) givens in
    subst (λ n. numbered c.in_ok-graph.graph c.in-Ok-kept_over.first.places ≡ kept_first c.in_ok-graph.graph n file) c.len.ensures.length
    (c.in-Ok-kept_over.ensures.kept file left (graph_begins file paths c.in_ok-graph.graph begins same))

pub returns-in-Ok-kept_over-clause-numbers : goal.returns-in-Ok-kept_over-clause-numbers
returns-in-Ok-kept_over-clause-numbers c =
    let earlier = c.requires.begins.file in
    let paths = c.args.paths.now in
    let givens : c.given_slice-givens.result.now ≡ its_givens earlier = c.given_slice-givens.ensures ∙ same_givens earlier c.args.earlier.now.givens (sym c.requires.begins.left.givens) in
    let same = c.in_ok-graph.ensures ∙ ap (λ (gs : List Given). paths ++ returns paths gs) givens in
    c.in-Ok.ensures ∙ ap (numbers_from c.in_ok-graph.graph 1) givens ∙
    numbers_same c.in_ok-graph.graph paths (edges_same (its_givens earlier) paths c.in_ok-graph.graph same) 1 (its_givens earlier) ∙
    ap (numbers_from paths 1) (sym (same_givens earlier c.args.earlier.now.givens (sym c.requires.begins.left.givens)))
