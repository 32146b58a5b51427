use Rattle.std.proofs.Common.{◌≡◌, ℕ, ◌*◌, ◌/◌, ◌<◌, ◌∙◌, length, refl, sym, ap, subst, arith}
use Rattle.std.proofs.lemmas.Result.{IfOk-from_err}
use Rattle.std.specs.Prelude.{IfNone, IfSome}
use Rattle.relationships.specs.Evidence.{Refutes}
use Rattle.tor_clauses.specs.Formulas.{numbered_of}
use Rattle.tor_digraph.specs.Walks.{IsArc}
use Rattle.tor_clauses.proofs.Arcs.{length-arcs}
use Rattle.tor_mend.specs.Ways.{AreKnown}
use Rattle.path_offer.specs.Repairs.{IsArcMended, IsRepaired}
use Rattle.path_offer.proofs.Settlings.{repaired_next}
use Rattle.path_offer.proofs.repairing.repair.Goals as goal

pub loop-triple-init : goal.loop-triple-init
loop-triple-init c =
    let arcs = c.args.fitted.now.formula.net.arcs in
    let first = c.args.settled * 2 in
    let old = c.args.state.now.ends in
    let none : IsRepaired arcs first first old old = record { met = c.requires.met; changed = λ x holds not. absurd (not holds); same = λ met. refl } in
    record {
      state = c.requires.state;
      known = c.requires.known;
      back = refl;
      repaired = none;
    }

pub loop-triple-preserved : goal.loop-triple-preserved
loop-triple-preserved c =
    let arcs = c.args.fitted.now.formula.net.arcs in
    let settled = subst (λ o. IfNone o (IsArcMended arcs c.loop-triple.state.ends c.settle.new.state.ends c.arc_of-arc.result)) c.in_default.is c.in_ok-walk.ensures.settled in
    let inside : (j l m : ℕ) → IsArc arcs j l m → m / 2 < length c.settle.new.state.ends = (λ j l m there.
    let lt = c.facts.ensures.inside.heads j l m there in
    omega (arith, lt, c.settle.ensures.state.ends)) in
    record {
      state = c.settle.ensures.state;
      known = subst (λ n. AreKnown c.args.fitted.now.formula.net.arcs n c.settle.new.state.known) c.arcs_before-first.ensures c.settle.ensures.known;
      back = c.settle.ensures.back ∙ c.loop-triple.invariant.back;
      repaired = repaired_next c.args.fitted.now.formula.triples arcs c.facts.ensures.arcs (c.args.settled * 2) c.args.state.now.ends c.loop-triple.state.ends
          c.settle.new.state.ends c.loop-triple.triple c.arc_of-arc.result c.arc_of-arc.ensures.place (omega arith) inside
          c.loop-triple.invariant.repaired settled;
    }

pub overflow_mul-as_slice : goal.overflow_mul-as_slice
overflow_mul-as_slice c = record { fits = omega (arith, c.as_slice.type_inv.1) }

pub arc_of-arc-requires : goal.arc_of-arc-requires
arc_of-arc-requires c = omega (arith, c.loop-triple-test.true, c.triple_count-triple-end.ensures)

pub settle-requires : goal.settle-requires
settle-requires c = record {
  there = c.arc_of-arc.ensures.there;
  state = c.loop-triple.invariant.state;
  known = subst (λ n. AreKnown c.args.fitted.now.formula.net.arcs n c.loop-triple.state.known) (sym c.arcs_before-first.ensures) c.loop-triple.invariant.known;
}

pub returns-in_err-walk : goal.returns-in_err-walk
returns-in_err-walk c =
    let e = c.settle.ensures in
    let r = c.from_residual.result in
    let is = c.from_residual.ensures.0 in
    record {
      state = e.state;
      known = subst (λ n. AreKnown c.args.fitted.now.formula.net.arcs n c.settle.new.state.known) c.arcs_before-first.ensures e.known;
      back = e.back ∙ c.loop-triple.invariant.back;
      repaired = IfOk-from_err r _ is;
      walk = IfOk-from_err r _ is;
    }

pub returns-in-Some : goal.returns-in-Some
returns-in-Some c =
    let e = c.settle.ensures in
    let posed = c.args.fitted.now in
    record {
      state = e.state;
      known = subst (λ n. AreKnown c.args.fitted.now.formula.net.arcs n c.settle.new.state.known) c.arcs_before-first.ensures e.known;
      back = e.back ∙ c.loop-triple.invariant.back;
      repaired = tt;
      walk = subst (λ o. IfSome o (Refutes (numbered_of posed.graph posed.formula))) c.in-Some.is c.in_ok-walk.ensures.walk;
    }

pub returns : goal.returns
returns c =
    let arcs = c.args.fitted.now.formula.net.arcs in
    let pairs = ap length c.facts.ensures.arcs ∙ length-arcs c.args.fitted.now.formula.triples in
    let there = c.requires.there in
    let all : c.loop-triple.triple * 2 ≡ length arcs = omega (arith, pairs, c.triple_count-triple-end.ensures, there, c.loop-triple-test.false) in
    let l = c.loop-triple.invariant in
    record {
      state = l.state;
      known = l.known;
      back = l.back;
      repaired = subst (λ n. IsRepaired arcs (c.args.settled * 2) n c.args.state.now.ends c.loop-triple.state.ends) all l.repaired;
      walk = tt;
    }
