use Rattle.std.proofs.Common.{◌≡◌, ◌-◌, ◌<◌, ◌++◌, List, [], All, drop, take, map, is_none, length, refl, sym, subst, arith, append-nil}
use Rattle.std.proofs.lemmas.Result.{IfOk-weaker}
use Rattle.std.proofs.lemmas.List.Elements.{All-from_recursion}
use Rattle.relationships.specs.declared.fate.Fate.{Fate}
use Rattle.relationships.specs.Fates.{walk_of}
use Rattle.relationships.specs.Evidence.{Numbered, paths_of}
use Rattle.relationships.specs.Checking.{LostFrom, kept_of}
use Rattle.as_graph.specs.Paths.{paths_at}
use Rattle.tor_clauses.specs.Formulas.{numbered}
use Rattle.path_select.specs.Behind.{places_from}
use Rattle.path_select.proofs.BehindLemmas.{places_all}
use Rattle.rel_infer.specs.declared.inferring.Inferred.{Inferred}
use Rattle.rel_infer.specs.Finding.{AreInferredIn}
use Rattle.rel_infer.proofs.KeptPlaces.{counted_paths, places_many}
use Rattle.rel_infer.proofs.inferring.inferred_in.Goals as goal

pub select_behind-requires-clause-there : goal.select_behind-requires-clause-there
select_behind-requires-clause-there c =
    let graph = c.args.graph.now in
    let count = c.args.count in
    let le = c.requires.count in
    subst (All (λ path. path < length graph)) (sym c.requires.behind)
    (All-from_recursion (λ path. path < length graph) (places_from count (length graph - count))
    (places_all (λ path. path < length graph) count (length graph - count) (λ i low high. omega (arith, high, le))))

pub inferred_by-requires-clause-kept : goal.inferred_by-requires-clause-kept
inferred_by-requires-clause-kept c =
    let graph = c.args.graph.now in
    let fates = c.in_ok-selection.selection.fates in
    subst (λ first. numbered graph c.in_ok-selection.selection.selector.formula.paths ≡ numbered graph first ++ kept_of (take c.args.count graph) (map walk_of fates)) c.requires.behind
    c.in_ok-selection.ensures.kept

pub returns : goal.returns
returns c =
    let graph = c.args.graph.now in
    let count = c.args.count in
    let some = take count graph in
    let fates = c.in_ok-selection.selection.fates in
    let walks = map walk_of fates in
    let all = c.in_ok-selection.selection.selector.formula.paths in
    let e = c.in_ok-selection.ensures in
    let same = subst (λ first. numbered graph all ≡ numbered graph first ++ kept_of some walks) c.requires.behind e.kept in
    let rows = length graph - count in
    let first = c.args.first.now in
    let real = drop rows all in
    IfOk-weaker c.inferred_by.result _ _
    (λ (i : Inferred) is.
    subst (λ (fs : List Fate). AreInferredIn c.args.ratio graph first count [] (record { fates = fs; found = i.found })) (sym is.0)
    (record {
      formula = c.in_ok-selection.selection.selector.formula;
      real = real;
      kept = e.keeps;
      same = refl;
      lost = subst (λ (A : Numbered). LostFrom 1 A some walks) (sym (append-nil (numbered graph first))) e.lost;
      all_kept = e.kept;
      counted = subst (λ n. paths_at graph (drop n all) ≡ paths_of (kept_of some walks)) (places_many count rows) (counted_paths graph some all count rows (map is_none walks) same);
      found = is.1;
    }))
    c.inferred_by.ensures
