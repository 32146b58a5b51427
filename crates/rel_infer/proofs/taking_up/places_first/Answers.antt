use Rattle.std.proofs.Common.{◌≡◌, ◌<◌, ◌++◌, ◌∙◌, ℕ, List, All, length, sym, ap, ap₂, subst}
use Rattle.std.proofs.lemmas.List.{length-map}
use Rattle.result_text.specs.declared.file.PathLine.{PathLine}
use Rattle.tor_clauses.specs.Formulas.{numbered}
use Rattle.rel_infer.specs.Resumed.{kept_first}
use Rattle.rel_infer.proofs.Continuing.{places_there, places_kept}
use Rattle.rel_infer.proofs.taking_up.places_first.Goals as goal

pub returns-clause-there : goal.returns-clause-there
returns-clause-there c =
    let e = c.requires.begins in
    let is = c.in_ok-extend_from_slice.ensures.ok ∙ ap₂ (λ (ps qs : List ℕ). ps ++ qs) c.in_ok-places.ensures c.as_slice.ensures in
    let many : length c.args.earlier.now.fates ≡ length e.file.paths = ap length e.left.fates ∙ length-map e.file.paths (λ (p : PathLine). p.fate) in
    let there = subst (λ n. All (λ path. path < n) c.in_ok-kept.kept) many c.in_ok-kept.ensures.there in
    subst (All (λ path. path < length c.args.graph.now)) (sym is)
    (places_there e.file c.args.graph.now e.begins c.args.count c.requires.count c.in_ok-kept.kept there)

pub returns-clause-kept : goal.returns-clause-kept
returns-clause-kept c = λ file left begins.
    let is = c.in_ok-extend_from_slice.ensures.ok ∙ ap₂ (λ (ps qs : List ℕ). ps ++ qs) c.in_ok-places.ensures c.as_slice.ensures in
    subst (λ (ps : List ℕ). numbered c.args.graph.now ps ≡ kept_first c.args.graph.now c.args.count file) (sym is)
    (places_kept file c.args.graph.now begins c.args.count c.requires.count c.in_ok-kept.kept (c.in_ok-kept.ensures.kept c.args.graph.now file left begins))

pub kept_places-requires : goal.kept_places-requires
kept_places-requires c = record { few = c.requires.begins.left.few }
