use Rattle.std.proofs.Common.{◌≡◌, ◌-◌, List, drop, take, map, is_none, length, sym, subst}
use Rattle.std.proofs.lemmas.Result.{IfOk-weaker}
use Rattle.relationships.specs.declared.fate.Fate.{Fate}
use Rattle.relationships.specs.Fates.{walk_of}
use Rattle.relationships.specs.Evidence.{paths_of}
use Rattle.relationships.specs.Checking.{kept_of}
use Rattle.as_graph.specs.Paths.{paths_at}
use Rattle.path_select.specs.Behind.{places_from}
use Rattle.rel_infer.specs.declared.inferring.Inferred.{Inferred}
use Rattle.rel_infer.specs.Finding.{AreInferredIn}
use Rattle.rel_infer.proofs.KeptPlaces.{counted_paths, places_many}
use Rattle.rel_infer.proofs.resuming.inferred_past.Goals as goal

pub returns-clause-inferred : goal.returns-clause-inferred
returns-clause-inferred c =
    let graph = c.args.graph.now in
    let count = c.args.count in
    let some = take count graph in
    let new = c.select_past.new.selection in
    let walks = map walk_of new.fates in
    let all = new.selector.formula.paths in
    let same = c.in-Ok.ensures.kept in
    let rows = length graph - count in
    let first = places_from count rows in
    let real = drop rows all in
    let h = c.in-Ok.ensures in
    let i = c.in_ok-inferred.inferred in
    let is = c.in_ok-inferred.ensures in
    let are =
    subst (λ (fs : List Fate). AreInferredIn c.args.ratio graph first count c.args.selection.fates (record { fates = fs; found = i.found })) (sym is.0)
    (record {
      formula = new.selector.formula;
      real = real;
      kept = h.keeps;
      same = h.same;
      lost = h.lost;
      all_kept = h.kept;
      counted = subst (λ n. paths_at graph (drop n all) ≡ paths_of (kept_of some walks)) (places_many count rows) (counted_paths graph some all count rows (map is_none walks) same);
      found = is.1;
    }) in
    IfOk-weaker c.with_paths.result _ _ (λ (j : Inferred) alike. subst (λ (k : Inferred). AreInferredIn c.args.ratio graph first count c.args.selection.fates k) (sym alike) are)
    c.with_paths.ensures.inferred
