use Rattle.std.proofs.Common.{◌≡◌, ◌∙◌, ◌+◌, ◌++◌, ◌∷◌, [], ℕ, List, ap, arith, length, length-append, append_assoc}
use Rattle.as_graph.specs.declared.step.Step.{Step}
use Rattle.as_graph.proofs.RowLemmas.{parted_more}
use Rattle.as_graph.proofs.step_rows.StepRows.push_two.Goals as goal

pub invariant_of-self-2 : goal.invariant_of-self-2
invariant_of-self-2 c =
    let items = c.self.inside.steps.items in
    let bounds = c.self.inside.bounds.items in
    let added : List Step = c.args.first ∷ c.args.second ∷ [] in
    let new_items : c.push_reserved-2.new.self.items ≡ items ++ added =
    c.push_reserved-2.ensures.items ∙ ap (λ (l : List Step). l ++ c.args.second ∷ [])
    (c.push_reserved.ensures.items ∙ ap (λ (l : List Step). l ++ c.args.first ∷ []) c.in_ok-reserve.ensures.items)
    ∙ append_assoc items (c.args.first ∷ []) (c.args.second ∷ []) in
    let n = ap length new_items in
    let two : length (items ++ added) ≡ length items + 2 = length-append items added in
    let same = ap length c.in_ok-reserve.ensures.items in
    let many = c.len.ensures in
    let count : c.len.result + 2 ≡ length c.push_reserved-2.new.self.items = omega (arith, n, two, same, many) in
    let new_bounds : c.push_bound.new.bounds.items ≡ bounds ++ length c.push_reserved-2.new.self.items ∷ [] =
    c.in_ok-push_bound.ensures.ok ∙ ap (λ (k : ℕ). bounds ++ k ∷ []) count in
    (parted_more bounds c.push_bound.new.bounds.items items c.push_reserved-2.new.self.items added c.self.invariant.0 c.self.invariant.1 new_items new_bounds).0

pub returns : goal.returns
returns c =
    let items = c.self.inside.steps.items in
    let bounds = c.self.inside.bounds.items in
    let added : List Step = c.args.first ∷ c.args.second ∷ [] in
    let new_items : c.push_reserved-2.new.self.items ≡ items ++ added =
    c.push_reserved-2.ensures.items ∙ ap (λ (l : List Step). l ++ c.args.second ∷ [])
    (c.push_reserved.ensures.items ∙ ap (λ (l : List Step). l ++ c.args.first ∷ []) c.in_ok-reserve.ensures.items)
    ∙ append_assoc items (c.args.first ∷ []) (c.args.second ∷ []) in
    let n = ap length new_items in
    let two : length (items ++ added) ≡ length items + 2 = length-append items added in
    let same = ap length c.in_ok-reserve.ensures.items in
    let many = c.len.ensures in
    let count : c.len.result + 2 ≡ length c.push_reserved-2.new.self.items = omega (arith, n, two, same, many) in
    let new_bounds : c.push_bound.new.bounds.items ≡ bounds ++ length c.push_reserved-2.new.self.items ∷ [] =
    c.in_ok-push_bound.ensures.ok ∙ ap (λ (k : ℕ). bounds ++ k ∷ []) count in
    (parted_more bounds c.push_bound.new.bounds.items items c.push_reserved-2.new.self.items added c.self.invariant.0 c.self.invariant.1 new_items new_bounds).1
    ∙ ap (λ (rs : List (List Step)). rs ++ added ∷ []) c.self.view_is
