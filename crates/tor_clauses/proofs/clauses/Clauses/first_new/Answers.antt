use Rattle.std.proofs.Common.{◌-◌, subst, take_all, arith}
use Rattle.tor_clauses.specs.Triples.{AreAmong, triples_on}
use Rattle.tor_clauses.specs.Tables.{IsFirstNew}
use Rattle.tor_clauses.specs.Formulas.{Formula}
use Rattle.tor_clauses.proofs.StepTriples.{triples_by_steps}
use Rattle.tor_clauses.proofs.FirstNews.{among_on, first_new_on}
use Rattle.tor_clauses.proofs.clauses.Clauses.first_new.Goals as goal

pub returns-then-place-steps-clause-some : goal.returns-then-place-steps-clause-some
returns-then-place-steps-clause-some c =
    let e = c.first_new-place.ensures in
    subst (λ (f : Formula). IsFirstNew c.args.graph.now c.args.path f.triples (c.first_new-place.result - 1)) c.self.view_is
    (first_new_on c.args.graph.now c.args.path c.steps-steps.result.now c.steps-steps.ensures.steps c.self.inside.table.triples c.first_new-place.result
    e.from c.if-place-steps.true e.known (e.new c.if-place-steps.true))

pub returns-else-place-steps-clause-none : goal.returns-else-place-steps-clause-none
returns-else-place-steps-clause-none c =
    let graph = c.args.graph.now in
    let steps = c.steps-steps.result.now in
    let place = c.first_new-place.result in
    let e = c.first_new-place.ensures in
    let known = among_on graph c.args.path steps c.steps-steps.ensures.steps c.self.inside.table.triples place e.inside e.known in
    let short = triples_by_steps graph c.args.path steps c.steps-steps.ensures.steps in
    let past = c.if-place-steps.false in
    let all = subst (AreAmong c.self.inside.table.triples) (take_all (place - 1) (triples_on graph c.args.path) (omega (arith, short, past))) known in
    subst (λ (f : Formula). AreAmong f.triples (triples_on graph c.args.path)) c.self.view_is all
