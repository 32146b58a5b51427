use Rattle.std.proofs.Common.{ℕ, inr, sym, ◌∙◌, subst, Contains}
use Rattle.std.proofs.lemmas.Bool.{false≢true}
use Rattle.std.proofs.lemmas.Result.{on_ok_weaker}
use Rattle.tor_digraph.specs.Walks.{Net}
use Rattle.tor_digraph.specs.Reached.{IsGrown}
use Rattle.tor_digraph.specs.Spreading.{IsClosed}
use Rattle.order_trials.proofs.probing.probe_order.Goals as goal

pub spread-requires-clause-closed : goal.spread-requires-clause-closed
spread-requires-clause-closed c =
    let old = c.args.covered.now.items in
    subst (λ (n : Net ℕ). IsClosed n.arcs c.held.result.now.items old) (sym c.rows.ensures)
    (subst (λ l. IsClosed c.args.problem.now.formula.net.arcs l old) (sym c.held.ensures.nodes) c.requires.covers)

pub returns-clause-probes : goal.returns-clause-probes
returns-clause-probes c =
    let old = c.args.covered.now.items in
    let new = c.spread.new.found.items in
    on_ok_weaker c.push.result
    (λ e. inr (
      record { over = c.order-over.result.0; under = c.order-over.result.1 },
      e,
      record {
        apart = λ h. false≢true (sym c.if-has-2.false ∙ c.has-2.ensures.1 h);
        unshown = λ h. false≢true (sym c.if-has.false ∙ c.has.ensures.1 (subst (Contains c.args.shown.now.items) (sym c.negation_node.ensures) h));
        says = c.order-over.ensures;
        covers = subst (λ (n : Net ℕ). IsClosed n.arcs c.args.problem.now.held new) c.rows.ensures
            (subst (λ l. IsClosed c.rows.result.now.arcs l new) c.held.ensures.nodes c.in_ok-spread.ensures.closed);
        grown = subst (λ (n : Net ℕ). IsGrown n.arcs c.args.node old new) c.rows.ensures c.in_ok-spread.ensures.grown;
      },
    ))
    c.push.ensures.ok
