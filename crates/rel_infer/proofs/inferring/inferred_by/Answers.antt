use Rattle.std.proofs.Common.{◌≡◌, ◌≢◌, ◌-◌, ◌≤◌, ◌<◌, ℕ, All, drop, take, map, is_none, length, ap, sym, subst, arith, length-take}
use Rattle.std.specs.List.{AllPairs}
use Rattle.std.proofs.lemmas.List.Elements.{All-drop}
use Rattle.relationships.specs.Fates.{walk_of}
use Rattle.tor_arena.specs.Distinct.{AllDistinct}
use Rattle.as_graph.specs.Paths.{paths_at}
use Rattle.path_select.specs.Behind.{places_from}
use Rattle.path_offer.specs.Choices.{Choice}
use Rattle.rel_infer.specs.Finding.{AreFound}
use Rattle.rel_infer.proofs.KeptPlaces.{first_fits, counted_once, all_once, counted_distinct, places_many}
use Rattle.rel_infer.proofs.inferring.inferred_by.Goals as goal

pub found_behind-requires-clause-apart : goal.found_behind-requires-clause-apart
found_behind-requires-clause-apart c =
    let graph = c.args.graph.now in
    let count = c.args.count in
    let walks = map walk_of c.args.selection.fates in
    let short = length-take count graph in
    subst (λ (choice : Choice). AllPairs ◌≢◌ choice.formula.paths) (sym c.rest.ensures)
    (all_once graph (take count graph) c.args.selection.selector.formula.paths count (length graph - count) (map is_none walks) c.requires.kept (omega (arith, short)))

pub found_behind-requires-clause-first : goal.found_behind-requires-clause-first
found_behind-requires-clause-first c =
    let graph = c.args.graph.now in
    let count = c.args.count in
    let rows = length graph - count in
    let all = c.args.selection.selector.formula.paths in
    let many = places_many count rows in
    let sum = c.path_count.ensures in
    let fits = first_fits graph (take count graph) all count rows (map is_none (map walk_of c.args.selection.fates)) c.requires.kept in
    let le : length (places_from count rows) ≤ length all = fits in
    let first : c.path_count.result - count ≤ length all = omega (arith, many, sum, le) in
    subst (λ (choice : Choice). c.path_count.result - count ≤ length choice.formula.paths) (sym c.rest.ensures) first

pub found_behind-requires-clause-there : goal.found_behind-requires-clause-there
found_behind-requires-clause-there c =
    subst (λ (choice : Choice). All (λ path. path < length c.args.graph.now) (drop (c.path_count.result - c.args.count) choice.formula.paths)) (sym c.rest.ensures)
    (All-drop (λ path. path < length c.args.graph.now) (c.path_count.result - c.args.count) c.args.selection.selector.formula.paths c.requires.fits.there)

pub found_behind-requires-clause-once : goal.found_behind-requires-clause-once
found_behind-requires-clause-once c =
    let graph = c.args.graph.now in
    let count = c.args.count in
    let rows = length graph - count in
    let all = c.args.selection.selector.formula.paths in
    let many = places_many count rows in
    let sum = c.path_count.ensures in
    let same : length (places_from count rows) ≡ c.path_count.result - count = omega (arith, many, sum) in
    subst (λ (choice : Choice). AllPairs ◌≢◌ (drop (c.path_count.result - count) choice.formula.paths)) (sym c.rest.ensures)
    (subst (λ (n : ℕ). AllPairs ◌≢◌ (drop n all)) same
    (counted_once graph (take count graph) all count rows (map is_none (map walk_of c.args.selection.fates)) c.requires.kept))

pub found_behind-requires-clause-distinct : goal.found_behind-requires-clause-distinct
found_behind-requires-clause-distinct c =
    let graph = c.args.graph.now in
    let count = c.args.count in
    let rows = length graph - count in
    let all = c.args.selection.selector.formula.paths in
    let many = places_many count rows in
    let sum = c.path_count.ensures in
    let same : length (places_from count rows) ≡ c.path_count.result - count = omega (arith, many, sum) in
    subst (λ (choice : Choice). All AllDistinct (paths_at graph (drop (c.path_count.result - count) choice.formula.paths))) (sym c.rest.ensures)
    (subst (λ (n : ℕ). All AllDistinct (paths_at graph (drop n all))) same
    (counted_distinct graph (take count graph) all count rows (map is_none (map walk_of c.args.selection.fates)) c.requires.kept AllDistinct c.requires.distinct))

pub returns-in-Ok : goal.returns-in-Ok
returns-in-Ok c =
    let graph = c.args.graph.now in
    let f = c.args.selection.selector.formula in
    let first : c.path_count.result - c.args.count ≡ length graph - c.args.count = ap (λ n. n - c.args.count) c.path_count.ensures in
    let found = subst (λ (choice : Choice). AreFound c.args.ratio graph choice.formula (drop (c.path_count.result - c.args.count) choice.formula.paths) c.in-Ok.found)
    c.rest.ensures c.in-Ok.ensures in
    (c.into_fates.ensures, subst (λ n. AreFound c.args.ratio graph f (drop n f.paths) c.in-Ok.found) first found)
