use Rattle.std.proofs.Common.{rules, ◌≡◌, ◌<◌, ℕ, Some, length, refl, sym, ap, subst, ◌∙◌, arith}
use Rattle.std.proofs.lemmas.Option.{some_pair_parts}
use Rattle.std.specs.Prelude.{slice_get}
use Rattle.tor_digraph.specs.Walks.{IsArc}
use Rattle.tor_clauses.specs.Literals.{lit_of, Holds}
use Rattle.path_offer.proofs.Settlings.{settled_still}
use Rattle.path_offer.proofs.repairing.settle.Goals as goal

pub ends-tail-requires : goal.ends-tail-requires
ends-tail-requires c = subst (λ net. c.args.arc < length net.arcs) (sym c.digraph.ensures) c.requires.there

pub holds-requires : goal.holds-requires
holds-requires c =
    let tail = subst (λ net. c.ends-tail.result.0 < net.nodes) c.digraph.ensures c.ends-tail.ensures.tail in
    let head = subst (λ net. c.ends-tail.result.1 < net.nodes) c.digraph.ensures c.ends-tail.ensures.head in
    let many = ap length c.as_slice.ensures in
    omega (arith, tail, head, many, c.requires.state.ends)

pub meet_or_refute-requires : goal.meet_or_refute-requires
meet_or_refute-requires c =
    let old = c.args.state.now.ends in
    let tail : ℕ = c.ends-tail.result.0 in
    let head : ℕ = c.ends-tail.result.1 in
    let arc = subst (λ net. slice_get net.arcs c.args.arc ≡ Some c.ends-tail.result) c.digraph.ensures c.ends-tail.ensures.arc in
    let held : Holds old (lit_of tail) = search rules in
    let unheld : Holds old (lit_of head) → ⊥ = search rules in
    record {
      there = c.requires.there;
      unmet = λ l m is.
          let parts = some_pair_parts l tail m head (sym is ∙ arc) in
          (subst (λ n. Holds old (lit_of n)) (sym parts.0) held, subst (λ n. Holds old (lit_of n) → ⊥) (sym parts.1) unheld);
      state = c.requires.state;
      known = c.requires.known;
    }

pub returns : goal.returns
returns c =
    let e = c.meet_or_refute.ensures in
    record {
      state = e.state;
      known = e.known;
      back = e.back;
      settled = e.settled;
      walk = e.walk;
    }

pub returns-then-not-holds : goal.returns-then-not-holds
returns-then-not-holds c =
    let arcs = c.args.fitted.now.formula.net.arcs in
    let old = c.args.state.now.ends in
    let tail : ℕ = c.ends-tail.result.0 in
    let head : ℕ = c.ends-tail.result.1 in
    let arc : IsArc arcs c.args.arc tail head = subst (λ net. slice_get net.arcs c.args.arc ≡ Some c.ends-tail.result) c.digraph.ensures c.ends-tail.ensures.arc in
    let met : Holds old (lit_of tail) → Holds old (lit_of head) = search rules in
    record {
      state = c.requires.state;
      known = c.requires.known;
      back = refl;
      settled = settled_still arcs old c.args.arc tail head arc met;
      walk = tt;
    }
