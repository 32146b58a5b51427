use Rattle.std.proofs.Common.{◌≡◌, ◌<◌, ◌∙◌, ℕ, Some, length, sym, subst, arith}
use Rattle.std.proofs.lemmas.Option.{some_pair_parts}
use Rattle.std.proofs.lemmas.Result.{IfOk-from_err}
use Rattle.std.specs.Prelude.{slice_get, IfNone, IfSome}
use Rattle.tor_digraph.specs.Walks.{IsArc}
use Rattle.tor_clauses.specs.Literals.{lit_of, opposite_node, Holds}
use Rattle.tor_clauses.proofs.LiteralLemmas.{opposite_node_twice}
use Rattle.tor_clauses.proofs.Sides.{holds_one, opposite_below}
use Rattle.tor_mend.specs.Mends.{IsMended}
use Rattle.tor_clauses.specs.Rounds.{IsLed}
use Rattle.path_offer.proofs.Settlings.{settled_head, settled_tail}
use Rattle.path_offer.proofs.repairing.meet.Goals as goal

pub ends-tail-requires : goal.ends-tail-requires
ends-tail-requires c = subst (λ net. c.args.arc < length net.arcs) (sym c.digraph.ensures) c.requires.there

pub mend-requires : goal.mend-requires
mend-requires c =
    let arcs = c.args.fitted.now.formula.net.arcs in
    let old = c.args.state.now.ends in
    let tail : ℕ = c.ends-tail.result.0 in
    let head : ℕ = c.ends-tail.result.1 in
    let arc : IsArc arcs c.args.arc tail head = subst (λ net. slice_get net.arcs c.args.arc ≡ Some c.ends-tail.result) c.digraph.ensures c.ends-tail.ensures.arc in
    record {
      state = c.requires.state;
      known = c.requires.known;
      there = subst (λ net. head < net.nodes) c.digraph.ensures c.ends-tail.ensures.head;
      unheld = (c.requires.unmet tail head arc).1;
    }

pub returns-in_err-mend : goal.returns-in_err-mend
returns-in_err-mend c =
    let e = c.mend.ensures in
    let r = c.from_residual.result in
    let is = c.from_residual.ensures.0 in
    record {
      state = e.state;
      known = e.known;
      back = e.back;
      settled = IfOk-from_err r _ is;
      conflict = IfOk-from_err r _ is;
    }

pub returns-in-None : goal.returns-in-None
returns-in-None c =
    let arcs = c.args.fitted.now.formula.net.arcs in
    let old = c.args.state.now.ends in
    let tail : ℕ = c.ends-tail.result.0 in
    let head : ℕ = c.ends-tail.result.1 in
    let arc : IsArc arcs c.args.arc tail head = subst (λ net. slice_get net.arcs c.args.arc ≡ Some c.ends-tail.result) c.digraph.ensures c.ends-tail.ensures.arc in
    let unmet = c.requires.unmet tail head arc in
    let e = c.mend.ensures in
    let mended = subst (λ o. IfNone o (IsMended arcs old c.mend.new.state.ends head)) c.in-None.is c.in_ok-mend.ensures.mended in
    record {
      state = e.state;
      known = e.known;
      back = e.back;
      settled = settled_head arcs old c.mend.new.state.ends c.args.arc tail head arc unmet.0 unmet.1 mended;
      conflict = tt;
    }

pub mend-requires-2 : goal.mend-requires-2
mend-requires-2 c =
    let arcs = c.args.fitted.now.formula.net.arcs in
    let old = c.args.state.now.ends in
    let tail : ℕ = c.ends-tail.result.0 in
    let head : ℕ = c.ends-tail.result.1 in
    let arc : IsArc arcs c.args.arc tail head = subst (λ net. slice_get net.arcs c.args.arc ≡ Some c.ends-tail.result) c.digraph.ensures c.ends-tail.ensures.arc in
    let below = subst (λ net. tail < net.nodes) c.digraph.ensures c.ends-tail.ensures.tail in
    let nodes = c.args.fitted.now.formula.net.nodes in
    let low = subst (λ net. head < net.nodes) c.digraph.ensures c.ends-tail.ensures.head in
    let other_tail = opposite_below tail (length old) nodes c.requires.state.ends below in
    let other_head = opposite_below head (length old) nodes c.requires.state.ends low in
    record {
      state = c.mend.ensures.state;
      known = c.mend.ensures.known;
      there = omega (arith, c.negation_node.ensures, other_tail, other_head);
      unheld = λ holds.
          let same = subst (λ o. IfSome o (λ _. c.mend.new.state.ends ≡ old)) c.in-Some.is c.in_ok-mend.ensures.same in
          let there = subst (λ n. Holds old (lit_of n)) c.negation_node.ensures (subst (λ ends. Holds ends (lit_of c.negation_node.result)) same holds) in
          holds_one old tail (c.requires.unmet tail head arc).0 there;
    }

pub returns-in_err-mend-2 : goal.returns-in_err-mend-2
returns-in_err-mend-2 c =
    let e = c.mend-2.ensures in
    let r = c.from_residual-in_err-mend-2.result in
    let is = c.from_residual-in_err-mend-2.ensures.0 in
    record {
      state = e.state;
      known = e.known;
      back = e.back ∙ c.mend.ensures.back;
      settled = IfOk-from_err r _ is;
      conflict = IfOk-from_err r _ is;
    }

pub returns-in-None-2 : goal.returns-in-None-2
returns-in-None-2 c =
    let arcs = c.args.fitted.now.formula.net.arcs in
    let old = c.args.state.now.ends in
    let tail : ℕ = c.ends-tail.result.0 in
    let head : ℕ = c.ends-tail.result.1 in
    let arc : IsArc arcs c.args.arc tail head = subst (λ net. slice_get net.arcs c.args.arc ≡ Some c.ends-tail.result) c.digraph.ensures c.ends-tail.ensures.arc in
    let unmet = c.requires.unmet tail head arc in
    let e = c.mend-2.ensures in
    let same = subst (λ o. IfSome o (λ _. c.mend.new.state.ends ≡ old)) c.in-Some.is c.in_ok-mend.ensures.same in
    let mended = subst (λ o. IfNone o (IsMended arcs c.mend.new.state.ends c.mend-2.new.state.ends c.negation_node.result)) c.in-None-2.is c.in_ok-mend-2.ensures.mended in
    record {
      state = e.state;
      known = e.known;
      back = e.back ∙ c.mend.ensures.back;
      settled = settled_tail arcs old c.mend-2.new.state.ends c.args.arc tail head arc c.mend.new.state.ends c.negation_node.result same c.negation_node.ensures unmet.0 unmet.1 mended;
      conflict = tt;
    }

pub returns : goal.returns
returns c =
    let e = c.mend-2.ensures in
    record {
      state = e.state;
      known = e.known;
      back = e.back ∙ c.mend.ensures.back;
      settled = tt;
      conflict = record {
        there = λ l m is.
            let arcs = c.args.fitted.now.formula.net.arcs in
            let arc = subst (λ net. slice_get net.arcs c.args.arc ≡ Some c.ends-tail.result) c.digraph.ensures c.ends-tail.ensures.arc in
            let parts = some_pair_parts l c.ends-tail.result.0 m c.ends-tail.result.1 (sym is ∙ arc) in
            let led = subst (λ o. IfSome o (λ found. IsLed arcs found c.ends-tail.result.1 (opposite_node c.ends-tail.result.1))) c.in-Some.is c.in_ok-mend.ensures.way in
            subst (λ n. IsLed arcs c.in-Some.way n (opposite_node n)) (sym parts.1) led;
        rest = λ l m is.
            let arcs = c.args.fitted.now.formula.net.arcs in
            let tail : ℕ = c.ends-tail.result.0 in
            let arc = subst (λ net. slice_get net.arcs c.args.arc ≡ Some c.ends-tail.result) c.digraph.ensures c.ends-tail.ensures.arc in
            let parts = some_pair_parts l tail m c.ends-tail.result.1 (sym is ∙ arc) in
            let led = subst (λ o. IfSome o (λ found. IsLed arcs found c.negation_node.result (opposite_node c.negation_node.result))) c.in-Some-2.is c.in_ok-mend-2.ensures.way in
            let from = subst (λ n. IsLed arcs c.in-Some-2.way n (opposite_node n)) c.negation_node.ensures led in
            let twice = opposite_node_twice tail in
            subst (λ n. IsLed arcs c.in-Some-2.way (opposite_node n) n) (sym parts.0) (subst (λ n. IsLed arcs c.in-Some-2.way (opposite_node tail) n) twice from);
      };
    }
