use Rattle.std.proofs.Common.{◌≡◌, ◌∙◌, ℕ, List, [], length, take, map, unwrap_or, Option, sym, ap, subst, arith}
use Rattle.relationships.specs.declared.given.Given.{Given}
use Rattle.relationships.specs.declared.fate.Fate.{Fate}
use Rattle.relationships.specs.Fates.{walk_of}
use Rattle.relationships.specs.GivenEvidence.{LostFromWith}
use Rattle.result_text.specs.Text.{its_givens}
use Rattle.rel_infer.specs.Returns.{IsLinked}
use Rattle.rel_infer.proofs.Acceptance.{same_givens}
use Rattle.rel_infer.proofs.Continuing as continuing
use Rattle.rel_infer.proofs.Linking.{linked, many_fates}
use Rattle.rel_infer.proofs.resuming.resumed_from.Goals as goal

pub relinked_if_given-requires-clause-few : goal.relinked_if_given-requires-clause-few
relinked_if_given-requires-clause-few c =
    let many = many_fates (unwrap_or c.args.earlier.givens []) c.args.ratio c.args.paths.now c.args.earlier.fates c.resumed_behind.new.numbers c.in_ok-resumed.resumed.inferred
    c.in_ok-resumed.ensures.inferred in
    let few = c.requires.few in
    omega (arith, many, few)

pub relinked_if_given-requires-clause-paths : goal.relinked_if_given-requires-clause-paths
relinked_if_given-requires-clause-paths c =
    let few = c.requires.few in
    let n = c.len.ensures.length ∙ ap length c.in_ok-resumed.ensures.paths in
    omega (arith, n, few)

pub returns-clause-inferred : goal.returns-clause-inferred
returns-clause-inferred c =
    let e = c.requires.begins in
    let known = unwrap_or c.args.earlier.givens [] in
    let fates = c.args.earlier.fates in
    let paths = c.args.paths.now in
    let old = c.in_ok-resumed.resumed.inferred in
    let i = c.in_ok-inferred.inferred in
    let h = c.in_ok-resumed.ensures in
    let givens : c.given_slice-slice.result.now ≡ known = c.given_slice-slice.ensures ∙ ap (λ (o : Option (List Given)). unwrap_or o []) h.givens in
    let lost =
    subst (λ (gs : List Given). LostFromWith gs 1 [] (take (length fates) paths) (map walk_of fates)) (sym (same_givens e.file c.args.earlier.givens (sym e.left.givens)))
    (subst (λ (fs : List Fate). LostFromWith (its_givens e.file) 1 [] (take (length fs) paths) (map walk_of fs)) (sym e.left.fates) (continuing.first_lost e.file paths e.begins e.accepted)) in
    let all =
    linked known c.args.ratio paths fates c.resumed_behind.new.numbers old i h.inferred lost
    (subst (λ (gs : List Given). IsLinked (length paths) gs c.resumed_behind.new.numbers old i) givens
    (subst (λ (ns : List ℕ). IsLinked (length paths) c.given_slice-slice.result.now ns old i) c.as_slice.ensures
    (subst (λ n. IsLinked n c.given_slice-slice.result.now c.as_slice.result.now old i) (c.len.ensures.length ∙ ap length h.paths) c.in_ok-inferred.ensures))) in
    record {
      sets = h.sets;
      givens = h.givens;
      inferred = all.0;
      same = all.1;
    }
