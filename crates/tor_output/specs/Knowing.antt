-- What is known in a run: what a file of known relationships says, if one is named, or the givens of an earlier result; and behind these what
-- follows for the edges of the run's paths where networks are named that buy transit from nobody.
use Rattle.std.specs.Prelude.{ℕ, List, [], ◌++◌, Option, None, Some, option_map}
use Rattle.relationships.specs.declared.given.Given.{Given}
use Rattle.as_rel.specs.declared.givens.KnownLines.{KnownLines}
use Rattle.result_text.specs.declared.file.ResultFile.{ResultFile}
use Rattle.result_text.specs.Text.{its_givens}
use Rattle.result_rules.specs.File.{its_paths}
use Rattle.top_givens.specs.TopGivens.{given_pairs, top_givens, top_givens_behind}

-- the relationships that a file says, and none where no file is named
abbrev pub said_givens : Option KnownLines → List Given
said_givens None = []
said_givens (Some said) = said.givens

-- the two of each of its peerings
abbrev pub said_peers : Option KnownLines → List (ℕ × ℕ)
said_peers None = []
said_peers (Some said) = said.peers

-- of dumps that gave these paths: an edge that any line of the file names is bound by that line alone
abbrev pub known_of : (top : Option (List ℕ)) → (said : Option KnownLines) → (paths : List (List ℕ)) → Option (List Given)
known_of None said paths = option_map (λ s. s.givens) said
known_of (Some top) said paths =
    Some (said_givens said ++ top_givens top (given_pairs (said_givens said) ++ said_peers said) paths)

-- on top of an earlier result: an edge that stands on one of its paths, or that one of its givens names, is bound by nothing more
abbrev pub known_on : (top : Option (List ℕ)) → (earlier : ResultFile) → (paths : List (List ℕ)) → Option (List Given)
known_on None earlier paths = earlier.givens
known_on (Some top) earlier paths =
    Some (its_givens earlier ++ top_givens_behind top (its_givens earlier) (its_paths earlier) paths)
