-- The order of dumps.
use Rattle.std.specs.Prelude.{◌≡◌, ◌↔◌, ℕ, List, Contains}
use Rattle.result_text.specs.declared.file.ResultFile.{ResultFile}
use Rattle.result_rules.specs.File.{its_givens}
use Rattle.result_rules.specs.Rules.{Accepts}
use Rattle.result_laws.specs.Orders.{LosesNone, HaveSameMarks}
use Rattle.tor_output.specs.Resuming.{IsOfDumps}

-- where no path of a result of dumps is lost, none is lost of the same dumps in another order, with the same sets and givens, and the
-- edges have the same marks, and the forced ones the same labels
abbrev pub AnyDumpOrderLaw : Type 0
AnyDumpOrderLaw =
    (dumps dumps' : List (List ℕ)) (file other : ResultFile) → Accepts file → Accepts other → IsOfDumps file dumps →
    IsOfDumps other dumps' → ((octets : List ℕ) → Contains dumps octets ↔ Contains dumps' octets) → other.sets ≡ file.sets →
    its_givens other ≡ its_givens file → LosesNone file → LosesNone other × HaveSameMarks file other
