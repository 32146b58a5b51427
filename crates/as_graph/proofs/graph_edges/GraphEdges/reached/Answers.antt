use Rattle.std.proofs.Common.{rules, ◌≡◌, ◌∙◌, ◌++◌, ◌∷◌, [], ℕ, List, Some, slice_get, sym, ap, subst}
use Rattle.as_graph.proofs.AlongLemmas.{reached_more}
use Rattle.as_graph.proofs.graph_edges.GraphEdges.reached.Goals as goal

pub loop-place-init : goal.loop-place-init
loop-place-init c = (c.in_ok-reserve.ensures.items ∙ c.new-ases.ensures.items, search rules)

pub loop-place-preserved : goal.loop-place-preserved
loop-place-preserved c =
    let e = c.edge-low.result in
    let is : slice_get c.args.self.now c.loop-place.place ≡ Some e = subst (λ es. slice_get es c.loop-place.place ≡ Some e) c.self.view_is c.edge-low.ensures in (
      c.push_reserved-in-loop-place.ensures.items ∙
          ap (λ (l : List ℕ). l ++ e.0 ∷ []) (c.push_reserved.ensures.items ∙ ap (λ (l : List ℕ). l ++ e.1 ∷ []) c.loop-place.invariant.0) ∙
          sym (reached_more c.args.self.now c.loop-place.place e is),
      search rules,
    )
