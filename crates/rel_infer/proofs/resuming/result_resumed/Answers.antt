use Rattle.std.proofs.Common.{◌≡◌, ◌∙◌, ℕ, List, [], Option, length, take, unwrap_or, sym, ap, subst}
use Rattle.std.proofs.lemmas.List.{length-map}
use Rattle.relationships.specs.declared.given.Given.{Given}
use Rattle.path_clean.specs.declared.cleaned.Sets.{Sets}
use Rattle.result_text.specs.declared.file.PathLine.{PathLine}
use Rattle.result_rules.specs.File.{its_paths, its_walks}
use Rattle.rel_infer.specs.Earlier.{BeginsWithEarlier}
use Rattle.rel_infer.specs.GivenResults.{IsResultWith}
use Rattle.rel_infer.specs.GivenInference.{PeerEitherWayWith, LeaveNoneOutWith}
use Rattle.rel_infer.specs.Inference.{AreInferredWith}
use Rattle.rel_infer.proofs.Continuing.{continued}
use Rattle.rel_infer.proofs.resuming.result_resumed.Goals as goal

pub resumed_from-requires-clause-begins : goal.resumed_from-requires-clause-begins
resumed_from-requires-clause-begins c = subst (λ ps. BeginsWithEarlier ps c.args.earlier) (sym c.into_rows-rows.ensures.paths) c.requires.begins

pub result_by-requires-clause-inferred : goal.result_by-requires-clause-inferred
result_by-requires-clause-inferred c =
    let is = c.in_ok-resumed.ensures.inferred in
    subst (λ (known : Option (List Given)). AreInferredWith (unwrap_or known []) c.args.ratio c.resumed_from.new.paths c.in_ok-resumed.resumed.inferred) (sym is.givens)
    (subst (λ (paths : List (List ℕ)). AreInferredWith (unwrap_or c.args.earlier.givens []) c.args.ratio paths c.in_ok-resumed.resumed.inferred)
    (sym c.in_ok-resumed.ensures.paths) is.inferred)

pub returns-clause-result : goal.returns-clause-result
returns-clause-result c =
    let r = c.in_ok-resumed.resumed in
    let is = c.in_ok-resumed.ensures.inferred in
    let rows = c.args.paths in
    subst (λ (sets : Sets). IsResultWith c.args.earlier.givens sets c.args.ratio rows c.args.asides c.result_by.result) is.sets
    (subst (λ (known : Option (List Given)). IsResultWith known r.sets c.args.ratio rows c.args.asides c.result_by.result) is.givens
    (c.result_by.ensures.result rows (c.in_ok-resumed.ensures.paths ∙ c.into_rows-rows.ensures.paths) c.into_rows-rows.ensures.times))

pub returns-clause-continues : goal.returns-clause-continues
returns-clause-continues c = λ old left begins.
    let fates = c.in_ok-resumed.resumed.inferred.fates in
    let many : length c.args.earlier.fates ≡ length old.paths = ap length left.fates ∙ length-map old.paths (λ (p : PathLine). p.fate) in
    let same = ap (λ n. take n fates) (sym many) ∙ c.in_ok-resumed.ensures.inferred.same ∙ left.fates in
    continued old c.result_by.result c.args.paths fates begins (c.result_by.ensures.paths ∙ c.in_ok-resumed.ensures.paths ∙ c.into_rows-rows.ensures.paths) c.result_by.ensures.fates same

pub returns-clause-either_way : goal.returns-clause-either_way
returns-clause-either_way c =
    let file = c.result_by.result in
    subst (λ (known : Option (List Given)). PeerEitherWayWith (unwrap_or known []) (its_paths file) (its_walks file) file.edges) c.in_ok-resumed.ensures.inferred.givens
    c.result_by.ensures.either_way

pub returns-clause-none_left_out : goal.returns-clause-none_left_out
returns-clause-none_left_out c =
    let file = c.result_by.result in
    subst (λ (known : Option (List Given)). LeaveNoneOutWith (unwrap_or known []) c.args.ratio (its_paths file) (its_walks file) file.edges) c.in_ok-resumed.ensures.inferred.givens
    c.result_by.ensures.none_left_out
