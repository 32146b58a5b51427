use Rattle.std.proofs.Common.{rules, ◌≡◌, ◌∙◌, ◌*◌, ◌<◌, ◌≤◌, ◌++◌, ◌∷◌, ℕ, List, [], length, get_or, ap, subst, arith}
use Rattle.std.proofs.lemmas.List.Elements.{All-get_or}
use Rattle.relationships.specs.Graph.{edges}
use Rattle.as_graph.specs.Inside.{path_along, ArePathsBetween}
use Rattle.as_graph.specs.Steps.{AreSteps}
use Rattle.as_graph.proofs.AlongLemmas.{length-reached, along_edges}
use Rattle.as_graph.proofs.RowLemmas.{paths_begin, paths_more}
use Rattle.as_graph.proofs.StepLemmas.{path_by-steps}
use Rattle.as_graph.proofs.graph.AsGraph.put_paths_along.Goals as goal

pub loop-place-init : goal.loop-place-init
loop-place-init c =
    paths_begin c.args.self.now c.args.ases.now.items c.push_bound.new.bounds.items c.requires.none
    (c.in_ok-push_bound.ensures.ok ∙ ap (λ (l : List ℕ). l ++ 0 ∷ []) c.requires.first)

pub put_ases-requires-clause-inside : goal.put_ases-requires-clause-inside
put_ases-requires-clause-inside c k d lt =
    let n : length c.args.reached.now ≡ length (edges c.args.self.now) * 2 = ap length c.requires.reached ∙ length-reached (edges c.args.self.now) in
    let below = c.steps.ensures.inside k d lt in
    omega (arith, n, below)

pub loop-place-preserved : goal.loop-place-preserved
loop-place-preserved c =
    let paths = c.args.self.now in
    let place = c.loop-place.place in
    let path = get_or paths place [] in
    let es = edges paths in
    let steps = c.steps.result.now in
    let placed : c.unwrap-path.result ≡ place = search rules in
    let there = c.requires.there in
    let within : place < length paths = omega (arith, there, c.loop-place-test.true) in
    let two : 2 ≤ length path = All-get_or (λ p. 2 ≤ length p) paths place [] within c.facts.ensures.several in
    let stepped : AreSteps es path steps = subst (λ k. AreSteps es (get_or paths k []) steps) placed c.steps.ensures.steps in
    let back : path_along c.args.reached.now steps ≡ path =
    ap (λ (r : List ℕ). path_along r steps) c.requires.reached ∙ along_edges es steps c.steps.ensures.inside ∙ path_by-steps es path steps two stepped in
    let whole : c.put_ases.new.ases.items ≡ c.loop-place.ases.items ++ path =
    c.in_ok-put_ases.ensures ∙ ap (λ (p : List ℕ). c.loop-place.ases.items ++ p) back in
    let ends : c.push_bound-in-loop-place.new.bounds.items ≡ c.loop-place.bounds.items ++ length c.put_ases.new.ases.items ∷ [] = search rules in
    paths_more paths place c.loop-place.ases.items c.loop-place.bounds.items c.put_ases.new.ases.items c.push_bound-in-loop-place.new.bounds.items
    c.loop-place.invariant within whole ends

pub returns : goal.returns
returns c =
    let there = c.requires.there in
    let end : c.loop-place.place ≡ c.args.count = omega (arith, c.loop-place-test.false, c.loop-place.auto.place-end) in
    subst (λ n. ArePathsBetween c.args.self.now n c.loop-place.ases.items c.loop-place.bounds.items) end c.loop-place.invariant
