use Rattle.std.proofs.Common.{◌≡◌, ◌++◌, ◌+◌, List, ℕ, length, sym, ap, ◌∙◌}
use Rattle.std.proofs.lemmas.Result.{IfOk-weaker}
use Rattle.std.proofs.lemmas.List.{length-map}
use Rattle.relationships.specs.declared.given.Given.{Given}
use Rattle.relationships.specs.Givens.{returns as returns_of}
use Rattle.result_text.specs.declared.file.PathLine.{PathLine}
use Rattle.rel_infer.specs.Returns.{numbers_from}
use Rattle.rel_infer.proofs.Acceptance.{same_givens}
use Rattle.route_leaks.specs.declared.naming.Naming.{Naming}
use Rattle.route_leaks.proofs.Behind.{all_behind}
use Rattle.route_leaks.proofs.leaks.fates_behind.Goals as goal

pub returns : goal.returns
returns c = IfOk-weaker c.fates_in.result _ _ (λ fates tried file accepts left begins.
    let rows = c.args.rows.now in
    let graph = c.in_ok-graph.field-0.graph in
    let same = same_givens file c.args.rest.now.givens (sym left.givens) in
    let naming : Naming = record { rows = c.len.result; numbers = c.started_in.new.numbers; own = c.args.own } in
    let own : c.args.own ≡ length file.paths + 1 = c.requires.own ∙ ap (λ (n : ℕ). n + 1) (ap length left.fates ∙ length-map file.paths (λ (p : PathLine). p.fate)) in
    all_behind file accepts rows graph begins (c.in_ok-graph.ensures.graph ∙ ap (λ (gs : List Given). rows ++ returns_of rows gs) same)
    c.in_ok-graph.field-0.first.places (c.in_ok-graph.ensures.kept file left begins) naming c.len.ensures.length
    (c.in_ok-graph.ensures.numbers ∙ ap (numbers_from rows 1) same) own c.args.met.now fates c.requires.there tried) c.fates_in.ensures
