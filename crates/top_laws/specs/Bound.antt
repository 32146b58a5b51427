-- What is bound beside the lines of a file, and on top of an earlier result, as runs ask for it.
-- The law is proved as the contract of a function in src/laws.rt.
use Rattle.std.specs.Prelude.{◌≡◌, ℕ, List, [], ◌++◌, take}
use Rattle.relationships.specs.declared.given.Given.{Given}
use Rattle.relationships.specs.Graph.{edges}
use Rattle.as_rel.specs.Givens.{SaysKnown, givens_in, pairs_in}
use Rattle.as_rel.specs.declared.givens.KnownLines.{KnownLines}
use Rattle.top_givens.specs.TopGivens.{top_givens, given_pairs, top_givens_behind}
use Rattle.top_laws.specs.TopResults.{NameGivens}

-- beside a file: the transits of its lines, and then what is known of the top but for the pairs that any line names
abbrev pub TopOfFileLaw : Type 0
TopOfFileLaw =
    (bytes : List ℕ) (known : KnownLines) (top : List ℕ) (paths : List (List ℕ)) (says : SaysKnown bytes known) →
    (known.givens ++ top_givens top ((given_pairs known.givens ++ known.peers) ++ edges (take 0 paths)) paths ≡
    givens_in says.rel ++ top_givens top (pairs_in says.rel) paths) × NameGivens (pairs_in says.rel) (givens_in says.rel)

-- on top of an earlier result: its givens, and then what is known of the top but for the pairs that these name and the edges of its paths
abbrev pub TopBehindLaw : Type 0
TopBehindLaw =
    (givens : List Given) (top : List ℕ) (earlier paths : List (List ℕ)) (count : ℕ) → take count paths ≡ earlier →
    givens ++ top_givens top ((given_pairs givens ++ []) ++ edges (take count paths)) paths ≡ givens ++ top_givens_behind top givens earlier paths
