use Rattle.std.proofs.Common.{List, ◌≡◌, ℕ, suc, ◌+◌, ◌-◌, ◌≤◌, Some, get_or, take, sym, ap, ap₂, ◌∙◌, subst, arith}
use Rattle.std.specs.Prelude.{slice_get}
use Rattle.tor_clauses.specs.Literals.{Literal}
use Rattle.tor_clauses.specs.declared.triple.Triple.{Triple}
use Rattle.tor_clauses.specs.Triples.{triples_on}
use Rattle.tor_clauses.specs.Formulas.{Formula}
use Rattle.tor_clauses.specs.Tables.{IsFirst, having, triple_by, with_triples}
use Rattle.tor_clauses.proofs.Adding.{on_err, get_from_or, added_none, added_one, added_first, added_all, skipped}
use Rattle.tor_clauses.proofs.FirstNews.{with_known, known_first}
use Rattle.tor_clauses.proofs.StepTriples.{triple_by_steps, triples_by_steps}
use Rattle.tor_clauses.proofs.clauses.Clauses.add_triples.Goals as goal

abbrev triple_with : ℕ → ℕ → Literal → Literal → Triple
triple_with path at l m = record { path = path; at = at; first = l; second = m }

pub loop-next-init : goal.loop-next-init
loop-next-init c = record {
  from = from;
  added = added_none c.args.self.now c.facts.ensures.arcs ∙ ap (having c.args.self.now) (sym (with_known c.args.self.now.triples (take (c.saturating_add-next.result - 1) all)
      (known_first c.args.self.now.triples all (c.saturating_add-next.result - 1) c.args.known few c.requires.known)));
}
  where
    all : List Triple
    all = triples_on c.args.graph.now c.args.path

    from : 1 ≤ c.saturating_add-next.result
    from = let e = c.saturating_add-next.ensures in omega (arith, e)

    few : c.saturating_add-next.result - 1 ≤ c.args.known
    few = let e = c.saturating_add-next.ensures in omega (arith, e)

pub loop-next-preserved : goal.loop-next-preserved
loop-next-preserved c =
    let steps = c.steps-steps.result.now in
    let some = c.loop-next.invariant.from in
    let lt = c.loop-next-test.true in
    let k = c.loop-next.next - 1 in
    let next : suc k ≡ c.loop-next.next = omega (arith, some) in
    let s : slice_get steps k ≡ Some c.index-steps-next.result = get_from_or steps k c.index-steps-next.result (omega (arith, some, lt)) c.index-steps-next.is in
    let t : slice_get steps (suc k) ≡ Some c.index-steps-next-in-loop-next.result =
    get_from_or steps (suc k) c.index-steps-next-in-loop-next.result (omega (arith, next, lt))
    (subst (λ n. c.index-steps-next-in-loop-next.result ≡ get_or steps n c.index-steps-next-in-loop-next.result) (sym next) c.index-steps-next-in-loop-next.is) in
    let there = triple_by_steps c.args.graph.now c.args.path steps c.steps-steps.ensures.steps k c.index-steps-next.result c.index-steps-next-in-loop-next.result s t in
    let at : 2 + k ≡ c.loop-next.next + 1 = omega (arith, some) in
    let is : triple_by c.args.path (2 + k) c.index-steps-next.result c.index-steps-next-in-loop-next.result ≡ triple_with c.args.path
    (c.loop-next.next + 1) c.of_step.result c.of_step-in-loop-next.result =
    ap (λ n. triple_by c.args.path n c.index-steps-next.result c.index-steps-next-in-loop-next.result) at ∙
    ap₂ (triple_with c.args.path (c.loop-next.next + 1)) (sym c.of_step.ensures) (sym c.of_step-in-loop-next.ensures) in
    let one = added_one c.args.self.now c.loop-next.self c.add_triple.new.self (triples_on c.args.graph.now c.args.path) k
    (triple_with c.args.path (c.loop-next.next + 1) c.of_step.result c.of_step-in-loop-next.result) c.loop-next.invariant.added (there ∙ ap Some is) c.in_ok-add_triple.ensures.ok in
    let more : k + 1 ≡ c.loop-next.next + 1 - 1 = omega (arith, some) in
    let added : c.add_triple.new.self ≡ having c.args.self.now (with_triples c.args.self.now.triples (take (c.loop-next.next + 1 - 1) (triples_on c.args.graph.now c.args.path))) =
    subst (λ n. c.add_triple.new.self ≡ having c.args.self.now (with_triples c.args.self.now.triples (take n (triples_on c.args.graph.now c.args.path)))) more one in
    let e = c.first_new-next.ensures in
    let on = e.from in
    record {
      from = omega (arith, on);
      added = skipped c.args.graph.now c.args.self.now c.add_triple.new.self c.args.path steps c.steps-steps.ensures.steps (c.loop-next.next + 1) c.first_new-next.result
          (omega arith) on e.inside c.self.inside.table.triples (ap (λ (f : Formula). f.triples) c.self.view_is) e.known added;
    }

pub returns-in_err-add_triple-clause-err : goal.returns-in_err-add_triple-clause-err
returns-in_err-add_triple-clause-err c =
    on_err c.from_residual.result (subst (IsFirst c.args.self.now) (sym c.in_err-add_triple.ensures.err)
    (added_first c.args.self.now c.loop-next.self (take (c.loop-next.next - 1) (triples_on c.args.graph.now c.args.path)) c.loop-next.invariant.added))

pub returns-clause-ok : goal.returns-clause-ok
returns-clause-ok c =
    let short = triples_by_steps c.args.graph.now c.args.path c.steps-steps.result.now c.steps-steps.ensures.steps in
    added_all c.args.self.now c.loop-next.self (triples_on c.args.graph.now c.args.path) (c.loop-next.next - 1) (omega (arith, short, c.loop-next-test.false)) c.loop-next.invariant.added
