use Rattle.std.proofs.Common.{◌+◌, ◌-◌, ◌<◌, length, get_or, sym, subst, arith}
use Rattle.std.proofs.lemmas.Option.{IfSome_then}
use Rattle.tor_arena.specs.Limits.{max_numbers}
use Rattle.as_graph.specs.EdgeSteps.{EdgeStep}
use Rattle.tor_mend.specs.Refusals.{HasRefusedTriple}
use Rattle.tor_mend.proofs.Relinking.{triple_before, hit_triple, one_of_two}
use Rattle.tor_mend.proofs.refusals.Refusals.find.Goals as goal

pub loop-next-preserved : goal.loop-next-preserved
loop-next-preserved c =
    let graph = c.args.graph.now in
    let path = c.args.path in
    let items = c.args.self.now.items.items in
    let next = c.loop-next.next in
    let s = c.index-steps-next.result in
    let t = c.index-steps-next-in-loop-next.result in
    let has = triple_before graph path c.steps-steps.result.now next s t c.facts.ensures.apart c.requires.there c.steps-steps.ensures.steps (omega arith) c.loop-next-test.true
    c.index-steps-next.is c.index-steps-next-in-loop-next.is in
    one_of_two (HasRefusedTriple graph path items) c.loop-next.met c.met_unless_satisfied-here.result c.shorter-met.result c.shorter-met.ensures c.loop-next.invariant
    (IfSome_then c.met_unless_satisfied-here.result c.met_unless_satisfied-here.ensures (λ met. hit_triple graph path items (next + 1) s t met has))

pub returns-then-is_short : goal.returns-then-is_short
returns-then-is_short c =
    let graph = c.args.graph.now in
    let path = c.args.path in
    let items = c.args.self.now.items.items in
    let next = c.loop-next.next in
    let s = c.index-steps-next.result in
    let t = c.index-steps-next-in-loop-next.result in
    let has = triple_before graph path c.steps-steps.result.now next s t c.facts.ensures.apart c.requires.there c.steps-steps.ensures.steps (omega arith) c.loop-next-test.true
    c.index-steps-next.is c.index-steps-next-in-loop-next.is in
    one_of_two (HasRefusedTriple graph path items) c.loop-next.met c.met_unless_satisfied-here.result c.shorter-met.result c.shorter-met.ensures c.loop-next.invariant
    (IfSome_then c.met_unless_satisfied-here.result c.met_unless_satisfied-here.ensures (λ met. hit_triple graph path items (next + 1) s t met has))

pub are_satisfied-requires : goal.are_satisfied-requires
are_satisfied-requires c = λ i d lt. subst (λ n. (get_or c.steps-steps.result.now i d).edge < n) (sym c.requires.ends) (c.steps-steps.ensures.inside i d lt)

pub met_unless_satisfied-here-requires-clause-first : goal.met_unless_satisfied-here-requires-clause-first
met_unless_satisfied-here-requires-clause-first c =
    let steps = c.steps-steps.result.now in
    let k = c.loop-next.next - 1 in
    let s = c.index-steps-next.result in
    let test = c.loop-next-test.true in
    let there = c.steps-steps.ensures.inside k s (omega (arith, test)) in
    subst (λ (t : EdgeStep). t.edge < length c.args.ends.now) (sym c.index-steps-next.is) (subst (λ n. (get_or steps k s).edge < n) (sym c.requires.ends) there)

pub met_unless_satisfied-here-requires-clause-second : goal.met_unless_satisfied-here-requires-clause-second
met_unless_satisfied-here-requires-clause-second c =
    let steps = c.steps-steps.result.now in
    let next = c.loop-next.next in
    let t = c.index-steps-next-in-loop-next.result in
    let there = c.steps-steps.ensures.inside next t c.loop-next-test.true in
    subst (λ (s : EdgeStep). s.edge < length c.args.ends.now) (sym c.index-steps-next-in-loop-next.is)
    (subst (λ n. (get_or steps next t).edge < n) (sym c.requires.ends) there)

pub met_unless_satisfied-here-requires-clause-few : goal.met_unless_satisfied-here-requires-clause-few
met_unless_satisfied-here-requires-clause-few c = subst (λ n. n < max_numbers) (sym c.requires.ends) c.facts.ensures.edges

pub bounds-steps-next : goal.bounds-steps-next
bounds-steps-next c = let test = c.loop-next-test.true in omega (arith, test)

pub bounds-steps-next-in-loop-next : goal.bounds-steps-next-in-loop-next
bounds-steps-next-in-loop-next c = let test = c.loop-next-test.true in omega (arith, test)

pub overflow_sub-first : goal.overflow_sub-first
overflow_sub-first c = omega (arith, c.loop-next.auto.next)

pub loop-next-init : goal.loop-next-init
loop-next-init c = tt

pub returns-then-is_empty : goal.returns-then-is_empty
returns-then-is_empty c = tt

pub returns : goal.returns
returns c = c.loop-next.invariant
