use Rattle.std.proofs.Common.{◌-◌, ◌∙◌, [], All, length, refl, sym, subst, arith}
use Rattle.std.proofs.lemmas.Result.{IfOk-weaker, on_ok_weaker}
use Rattle.tor_arena.specs.Distinct.{AllDistinct}
use Rattle.path_select.specs.Behind.{places_from}
use Rattle.rel_infer.specs.declared.inferring.Inferred.{Inferred}
use Rattle.rel_infer.proofs.Linking.{long, front_is, servable_at, unlinked}
use Rattle.rel_infer.proofs.inferring.inferred_behind.Goals as goal

pub inferred_alone-inferred-requires-clause-count : goal.inferred_alone-inferred-requires-clause-count
inferred_alone-inferred-requires-clause-count c =
    let sum = long c.args.givens.now c.args.paths.now c.in_ok-graph.graph c.in_ok-graph.ensures in
    let n = c.len-count.ensures.length in
    omega (arith, sum, n)

pub inferred_alone-inferred-requires-clause-servable : goal.inferred_alone-inferred-requires-clause-servable
inferred_alone-inferred-requires-clause-servable c =
    servable_at c.args.givens.now c.args.paths.now c.in_ok-graph.graph c.in_ok-graph.ensures c.len-count.result
    (places_from c.len-count.result (length c.in_ok-graph.graph - c.len-count.result)) c.len-count.ensures.length refl c.requires.two c.requires.once

pub inferred_alone-inferred-requires-clause-distinct : goal.inferred_alone-inferred-requires-clause-distinct
inferred_alone-inferred-requires-clause-distinct c =
    subst (All AllDistinct) (sym (front_is c.args.givens.now c.args.paths.now c.in_ok-graph.graph c.in_ok-graph.ensures c.len-count.result c.len-count.ensures.length)) c.requires.apart

pub returns-clause-paths : goal.returns-clause-paths
returns-clause-paths c =
    on_ok_weaker c.inferred_alone-inferred.result
    (λ same. same ∙ front_is c.args.givens.now c.args.paths.now c.in_ok-graph.graph c.in_ok-graph.ensures c.len-count.result c.len-count.ensures.length)
    c.inferred_alone-inferred.ensures.paths

pub returns-clause-inferred : goal.returns-clause-inferred
returns-clause-inferred c =
    IfOk-weaker c.inferred_alone-inferred.result _ _ (λ (i : Inferred) are.
    unlinked c.args.givens.now c.args.paths.now c.in_ok-graph.graph c.in_ok-graph.ensures c.args.ratio c.len-count.result
    (places_from c.len-count.result (length c.in_ok-graph.graph - c.len-count.result)) [] c.numbers_of.new.numbers i c.len-count.ensures.length refl c.in-Ok.ensures are)
    c.inferred_alone-inferred.ensures.inferred
