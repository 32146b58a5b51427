use Rattle.std.proofs.Common.{rules, ◌≡◌, ◌∙◌, ap, ap₂, ℕ, get_or, arith}
use Rattle.std.proofs.lemmas.Option.{slice_get-get_or}
use Rattle.relationships.specs.declared.label.End.{End}
use Rattle.relationships.specs.declared.label.Label.{Label}
use Rattle.tor_clauses.specs.Literals.{node_of}
use Rattle.order_trials.proofs.Helds.{label_held, held_more}
use Rattle.order_trials.proofs.held.held_nodes.Goals as goal

pub loop-place-preserved : goal.loop-place-preserved
loop-place-preserved c =
    let labels = c.args.labels.now in
    let place = c.loop-place.place in
    let same : c.unwrap-edge.result ≡ place = search rules in
    let test = c.loop-place-test.true in
    let end = c.loop-place.auto.place-end in
    let label = get_or labels place Label.Low in
    let at = slice_get-get_or labels place Label.Low (omega (arith, test, end)) in
    let is = c.node.ensures.node ∙ ap node_of c.new-in-loop-place.ensures ∙ ap₂ (λ (k : ℕ) (e : End). node_of (record { edge = k; over = e })) same c.end_by-over.ensures in
    record {
      count = c.add.ensures.count ∙ c.loop-place.invariant.count;
      held = held_more labels c.node.result c.in-Ok.field-0 c.loop-place.nodes.items c.add.new.self.items c.loop-place.invariant.held
          (label_held labels place label c.node.result at is) c.in-Ok.ensures.added;
    }
