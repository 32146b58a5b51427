use Rattle.std.proofs.Common.{◌≢◌, ◌∙◌, ◌≤◌, ◌<◌, List, ℕ, All, IfOk, drop, length, sym, ap, subst}
use Rattle.std.specs.List.{AllPairs}
use Rattle.tor_arena.specs.Distinct.{AllDistinct}
use Rattle.as_graph.specs.Paths.{paths_at}
use Rattle.rel_infer.specs.Finding.{AreFound}
use Rattle.rel_infer.proofs.inferring.found_behind.Goals as goal

pub behind-counted-requires : goal.behind-counted-requires
behind-counted-requires c = subst (λ (l : List ℕ). c.args.first ≤ length l) (sym c.kept.ensures.paths) c.requires.first

pub found_in-requires-clause-there : goal.found_in-requires-clause-there
found_in-requires-clause-there c =
    subst (All (λ path. path < length c.args.graph.now)) (sym (c.behind-counted.ensures ∙ ap (drop c.args.first) c.kept.ensures.paths)) c.requires.there

pub found_in-requires-clause-once : goal.found_in-requires-clause-once
found_in-requires-clause-once c = subst (AllPairs ◌≢◌) (sym (c.behind-counted.ensures ∙ ap (drop c.args.first) c.kept.ensures.paths)) c.requires.once

pub found_in-requires-clause-distinct : goal.found_in-requires-clause-distinct
found_in-requires-clause-distinct c =
    subst (λ places. All AllDistinct (paths_at c.args.graph.now places)) (sym (c.behind-counted.ensures ∙ ap (drop c.args.first) c.kept.ensures.paths)) c.requires.distinct

pub returns : goal.returns
returns c =
    subst (λ places. IfOk c.found_in.result (AreFound c.args.ratio c.args.graph.now c.args.selector.now.formula places))
    (c.behind-counted.ensures ∙ ap (drop c.args.first) c.kept.ensures.paths) c.found_in.ensures
