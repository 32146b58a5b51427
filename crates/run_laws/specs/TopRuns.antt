-- What runs with `--top` show of networks that buy transit from nobody.
use Rattle.std.specs.Prelude.{◌≡◌, ℕ, List, ◌++◌, Option, None, Some, IsTrue, IsFalse, ⊤}
use Rattle.tor_io.specs.Contents.{Files}
use Rattle.relationships.specs.declared.given.Given.{Given}
use Rattle.relationships.specs.Graph.{Edge, edges}
use Rattle.as_rel.specs.declared.givens.KnownLines.{KnownLines}
use Rattle.dump_read.specs.declared.taking.Taken.{Taken}
use Rattle.result_text.specs.declared.file.ResultFile.{ResultFile}
use Rattle.result_rules.specs.File.{its_givens, its_paths}
use Rattle.top_givens.specs.TopGivens.{given_pairs, has_one_top, is_paired, top_givens}
use Rattle.top_laws.specs.TopResults.{BuysFromNobody, NameGivens}
use Rattle.tor_words.specs.declared.settings.Settings.{Settings}
use Rattle.tor_words.specs.Given.{settings_given}
use Rattle.tor_output.specs.Knowing.{known_of, known_on, said_givens, said_peers}
use Rattle.tor_output.specs.Output.{Faithful, IsResumed}
use Rattle.tor_output.specs.Seen.{ComesTo, Joins, Reads}

-- in a result of dumps each edge with exactly one end in the top that no line of the file names is forced, and has that end as its provider.
-- Where no such edge is named, no AS of the top has another as its provider, and a path with another AS between two of them is lost
abbrev pub TopLaw : Type 0
TopLaw =
    (words : List (List ℕ)) (settings : Settings) (files : Files) (said : Option KnownLines) (taken : Taken) (file : ResultFile)
    (top : List ℕ) → settings_given words ≡ Some settings → settings.top ≡ Some top → ComesTo settings files (Reads said taken) →
    Faithful settings said taken file → BuysFromNobody top (given_pairs (said_givens said) ++ said_peers said) file

-- on top of an earlier result so it is for the edges that its givens don't name and that are on none of its paths; and for all edges that no
-- pair names, where the earlier result was made with the same top beside givens that these pairs name
pub record ShowsOnTop (top : List ℕ) (earlier file : ResultFile) : Type 0 where
  pub further : BuysFromNobody top (given_pairs (its_givens earlier) ++ edges (its_paths earlier)) file
  pub all : (named : List (ℕ × ℕ)) (givens : List Given) → NameGivens named givens →
      its_givens earlier ≡ givens ++ top_givens top named (its_paths earlier) → BuysFromNobody top named file

abbrev pub TopOnEarlierLaw : Type 0
TopOnEarlierLaw =
    (words : List (List ℕ)) (settings : Settings) (files : Files) (earlier : ResultFile) (taken : Taken) (file : ResultFile)
    (top : List ℕ) → settings_given words ≡ Some settings → settings.top ≡ Some top → ComesTo settings files (Joins earlier taken) →
    IsResumed settings earlier taken file → ShowsOnTop top earlier file

-- no peering that the file says names an edge with exactly one end in the top
abbrev pub PeersNameNoTop : Option (List ℕ) → Option KnownLines → Type 0
PeersNameNoTop None said = ⊤
PeersNameNoTop (Some top) said = (e : Edge) → IsTrue (has_one_top top e) → IsFalse (is_paired (said_peers said) e)

-- then as much is known on top of the result of a run as in one run over all paths, with the same file and the same top in all
abbrev pub OneKnowledgeLaw : Type 0
OneKnowledgeLaw =
    (top : Option (List ℕ)) (said : Option KnownLines) (earlier : ResultFile) (later : List (List ℕ)) → PeersNameNoTop top said →
    earlier.givens ≡ known_of top said (its_paths earlier) →
    known_on top earlier (its_paths earlier ++ later) ≡ known_of top said (its_paths earlier ++ later)
