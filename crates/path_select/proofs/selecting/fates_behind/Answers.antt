use Rattle.std.proofs.Common.{◌+◌, List, length, take, drop, map, is_none, subst}
use Rattle.relationships.specs.Selection.{KeepsFrom}
use Rattle.relationships.specs.Checking.{LostFrom}
use Rattle.relationships.specs.declared.fate.Fate.{Fate}
use Rattle.relationships.specs.Fates.{walk_of}
use Rattle.as_graph.specs.Paths.{paths_at}
use Rattle.tor_clauses.specs.Formulas.{numbered}
use Rattle.path_select.specs.Kept.{HasKeptRest, HasKeptBehind}
use Rattle.path_select.proofs.selecting.fates_behind.Goals as goal

pub returns-in-Ok-clause-fits : goal.returns-in-Ok-clause-fits
returns-in-Ok-clause-fits c = c.in-Ok.ensures.fits

pub returns-in-Ok-clause-keeps : goal.returns-in-Ok-clause-keeps
returns-in-Ok-clause-keeps c =
    let graph = c.args.graph.now in
    let fates = c.select_rest.new.fates in
    subst (λ first. KeepsFrom (paths_at graph first) (take c.args.count graph) (map is_none (map walk_of fates))) c.in_ok-keep_all.ensures.kept
    (subst (λ (l : List Fate). KeepsFrom (paths_at graph c.keep_all.new.selector.formula.paths) (drop (length l) (take c.args.count graph))
    (map is_none (map walk_of (drop (length l) fates)))) c.new-fates.ensures c.in-Ok.ensures.keeps)

pub returns-in-Ok-clause-lost : goal.returns-in-Ok-clause-lost
returns-in-Ok-clause-lost c =
    let graph = c.args.graph.now in
    let fates = c.select_rest.new.fates in
    subst (λ first. LostFrom 1 (numbered graph first) (take c.args.count graph) (map walk_of fates)) c.in_ok-keep_all.ensures.kept
    (subst (λ (l : List Fate). LostFrom (length l + 1) (numbered graph c.keep_all.new.selector.formula.paths) (drop (length l) (take c.args.count graph))
    (map walk_of (drop (length l) fates))) c.new-fates.ensures c.in-Ok.ensures.lost)

pub returns-in-Ok-clause-kept : goal.returns-in-Ok-clause-kept
returns-in-Ok-clause-kept c =
    let graph = c.args.graph.now in
    let fates = c.select_rest.new.fates in
    subst (λ first. HasKeptBehind graph first c.args.count c.select_rest.new.selector fates) c.in_ok-keep_all.ensures.kept
    (subst (λ (l : List Fate). HasKeptRest graph (length l) c.keep_all.new.selector.formula.paths c.args.count c.select_rest.new.selector fates) c.new-fates.ensures c.in-Ok.ensures.kept)
