-- A result with more givens than it was made under.
-- Each law is proved as the contract of a function in src/laws.rt.
use Rattle.std.specs.Prelude.{List, ◌++◌, Some, Contains}
use Rattle.relationships.specs.declared.given.Given.{Given}
use Rattle.relationships.specs.Graph.{edge_of, edges}
use Rattle.relationships.specs.Givens.{NameTwo, NameOnce}
use Rattle.result_text.specs.declared.file.ResultFile.{ResultFile}
use Rattle.result_rules.specs.File.{its_givens, its_paths}
use Rattle.result_rules.specs.Rules.{Accepts}
use Rattle.top_givens.specs.TopGivens.{top_givens_behind}
use Rattle.std.specs.Prelude.{ℕ}

-- the result with these givens behind its own; so it is of version 2
abbrev pub with_more_givens : ResultFile → List Given → ResultFile
with_more_givens file more = record file { givens = Some (its_givens file ++ more) }

-- none of the givens names an edge of the paths
abbrev pub NameNoEdge : List Given → List (List ℕ) → Type 0
NameNoEdge givens paths = (g : Given) → Contains givens g → Contains (edges paths) (edge_of g.over g.under) → ⊥

-- a result that meets all rules meets them with more givens that name no edge of its paths, where each names two ASes and no two the same two
abbrev pub MoreGivensLaw : Type 0
MoreGivensLaw =
    (file : ResultFile) (more : List Given) → Accepts file → NameTwo (its_givens file ++ more) → NameOnce (its_givens file ++ more) →
    NameNoEdge more (its_paths file) → Accepts (with_more_givens file more)

-- so it does with what is known of the top on top of it: this contradicts nothing that is kept
abbrev pub TopMoreLaw : Type 0
TopMoreLaw =
    (file : ResultFile) (top : List ℕ) (paths : List (List ℕ)) → Accepts file →
    Accepts (with_more_givens file (top_givens_behind top (its_givens file) (its_paths file) paths))
