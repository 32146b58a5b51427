-- The laws of leaks.
use Rattle.std.specs.Prelude.{◌≡◌, ◌↔◌, ℕ, List, [], ◌∷◌, ◌++◌, Contains}
use Rattle.relationships.specs.declared.fate.Fate.TheVariants.{Lost}
use Rattle.relationships.specs.declared.given.Given.{Given}
use Rattle.relationships.specs.declared.walk.Walk.{Walk}
use Rattle.relationships.specs.Relationship.{Orientation}
use Rattle.relationships.specs.Evidence.{paths_of}
use Rattle.relationships.specs.Givens.{ServesWith}
use Rattle.result_text.specs.declared.file.PathLine.{PathLine}
use Rattle.result_text.specs.declared.file.ResultFile.{ResultFile}
use Rattle.result_rules.specs.File.{its_paths, its_kept, its_givens}
use Rattle.result_rules.specs.Rules.{Accepts}
use Rattle.rel_infer.specs.Resumed.{Continues}
use Rattle.route_leaks.specs.Leaks.{IsExplained, IsLeak, RefutesBehind}

-- whatever other paths stand beside those of the result and this one: some orientation that agrees with the givens of all their edges
-- serves exactly if one explains. For edges that are on no kept path and not on this one bind nothing
abbrev pub ElsewhereLaw : Type 0
ElsewhereLaw =
    (file : ResultFile) (path : List ℕ) (others : List (List ℕ)) → Accepts file → Contains (its_paths file ++ others) path →
    ((O : Orientation) × ServesWith (its_givens file) (its_paths file ++ others) O (paths_of (its_kept file) ++ path ∷ [])) ↔
    IsExplained file path

-- a path with a walk that refutes is a leak
abbrev pub RefutedLeakLaw : Type 0
RefutedLeakLaw = (file : ResultFile) (path : List ℕ) (walk : Walk) → Accepts file → RefutesBehind file path walk → IsLeak file path

-- a lost path of a result that meets all rules is a leak
abbrev pub LostLeakLaw : Type 0
LostLeakLaw =
    (file : ResultFile) (line : PathLine) (walk : Walk) → Accepts file → Contains file.paths line → line.fate ≡ Lost walk →
    IsLeak file line.path

-- a leak stays one in each result that goes on from this one, with its givens and maybe more
abbrev pub StaysLeakLaw : Type 0
StaysLeakLaw =
    (file more : ResultFile) (path : List ℕ) → Continues file more →
    ((g : Given) → Contains (its_givens file) g → Contains (its_givens more) g) → IsLeak file path → IsLeak more path
