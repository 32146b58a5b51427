use Rattle.std.proofs.Common.{◌≡◌, ◌+◌, ◌≤◌, ℕ, List, Some, length, slice_get, sym, ap, ◌∙◌, subst, arith, Contains}
use Rattle.std.proofs.lemmas.Bool.{false≢true}
use Rattle.std.proofs.lemmas.Option.{same_Some}
use Rattle.std.proofs.lemmas.Result.{on_ok_weaker}
use Rattle.tor_arena.specs.Limits.{max_numbers}
use Rattle.relationships.specs.Fates.{is_kept}
use Rattle.result_text.specs.declared.file.PathLine.{PathLine}
use Rattle.result_rules.specs.File.{its_kept, its_labels}
use Rattle.telling.specs.Downs.{HasDowns}
use Rattle.telling.proofs.PathLemmas.{kept_fate}
use Rattle.telling.proofs.DownLemmas.{kept_own, few_numbers}
use Rattle.telling.proofs.downs.add_line.Goals as goal

pub returns-then-not-is_kept-clause-all : goal.returns-then-not-is_kept-clause-all
returns-then-not-is_kept-clause-all c line at is =
    let here : slice_get c.args.file.now.paths c.args.place ≡ Some c.get-line.result =
    subst (λ n. slice_get c.args.file.now.paths n ≡ Some c.get-line.result) c.in-Some.ensures.some c.get-line.ensures in
    let same = same_Some line c.get-line.result (sym at ∙ here) in
    absurd (false≢true (sym (sym c.is_kept.ensures ∙ c.if-not-is_kept.true) ∙ ap (λ (p : PathLine). is_kept p.fate) (sym same) ∙ ap is_kept is))

pub add_path-requires-clause-kept : goal.add_path-requires-clause-kept
add_path-requires-clause-kept c =
    let file = c.args.file.now in
    let line = c.get-line.result in
    let here : slice_get file.paths c.args.place ≡ Some line = subst (λ n. slice_get file.paths n ≡ Some line) c.in-Some.ensures.some c.get-line.ensures in
    let own = kept_own file c.args.place line here (kept_fate line.fate (sym c.is_kept.ensures ∙ c.if-not-is_kept.false)) in
    let e : 1 + c.args.place ≡ c.args.place + 1 = omega arith in
    subst (λ (l : List ℕ). Contains (its_kept file) (c.args.place + 1, l)) (sym c.path.ensures) (subst (λ n. Contains (its_kept file) (n, line.path)) e own)

pub add_path-requires-clause-few : goal.add_path-requires-clause-few
add_path-requires-clause-few c =
    let file = c.args.file.now in
    let line = c.get-line.result in
    let here : slice_get file.paths c.args.place ≡ Some line = subst (λ n. slice_get file.paths n ≡ Some line) c.in-Some.ensures.some c.get-line.ensures in
    subst (λ (l : List ℕ). length l ≤ max_numbers) (sym c.path.ensures) (few_numbers file c.requires.accepted c.args.place line here)

pub returns-clause-all : goal.returns-clause-all
returns-clause-all c =
    let file = c.args.file.now in
    let es = c.args.all.now.edges in
    let here : slice_get file.paths c.args.place ≡ Some c.get-line.result =
    subst (λ n. slice_get file.paths n ≡ Some c.get-line.result) c.in-Some.ensures.some c.get-line.ensures in
    on_ok_weaker c.add_path.result
    (λ downs line at is.
    let same = same_Some c.get-line.result line (sym here ∙ at) in
    subst (HasDowns (its_labels file) es c.add_path.new.downs.graph.arcs) (c.path.ensures ∙ ap (λ (p : PathLine). p.path) same) downs)
    c.add_path.ensures.all
