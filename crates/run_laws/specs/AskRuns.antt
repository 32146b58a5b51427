-- What a run with `--ask` says of an edge comes true, once it is known which of its two ASes is the provider.
use Rattle.std.specs.Prelude.{◌≡◌, ◌⊎◌, ℕ, ◌+◌, List, [], ◌∷◌, ◌++◌, map, Contains, Option, Some, unwrap_or}
use Rattle.tor_io.specs.Contents.{Files}
use Rattle.relationships.specs.declared.given.Given.{Given}
use Rattle.relationships.specs.Evidence.{paths_of}
use Rattle.relationships.specs.Checking.{kept_of}
use Rattle.relationships.specs.Givens.{end_by, returns}
use Rattle.relationships.specs.Graph.{edge_of, edges}
use Rattle.dump_read.specs.declared.taking.Taken.{Taken}
use Rattle.as_rel.specs.declared.givens.KnownLines.{KnownLines}
use Rattle.as_rel.specs.declared.line.RelKind.TheVariants.{Transit, Peering}
use Rattle.as_rel.specs.declared.line.RelLine.{RelLine}
use Rattle.as_rel.specs.Good.{Spells}
use Rattle.as_rel.specs.Serial.{lines, pair_of, rel_line}
use Rattle.result_text.specs.declared.file.ResultFile.{ResultFile}
use Rattle.result_rules.specs.File.{its_givens, its_paths, its_walks}
use Rattle.result_laws.specs.Asked.{ForcesAsSaid, number_if}
use Rattle.asks.specs.declared.table.AskLine.{AskLine}
use Rattle.asks.specs.AsksText.{asks_text}
use Rattle.tor_words.specs.declared.settings.Settings.{Settings}
use Rattle.tor_words.specs.declared.task.Made.TheVariants as made
use Rattle.tor_words.specs.Given.{dumps_in, settings_given}
use Rattle.tor_output.specs.First.{First, Nothing, Givens, Result, Earlier, first_in}
use Rattle.tor_output.specs.Output.{Faithful, IsOutput, made_by}
use Rattle.tor_output.specs.Seen.{ComesTo, Reads}
use Rattle.tor_output.specs.Written.{Written}

-- ---- one thing more is known

-- of these lines this one stands in the place of one by which the two of the given are peers
pub record StandsForPeers (given : Given) (line : List ℕ) (old new : List (List ℕ)) : Type 0 where
  pub before : List (List ℕ)
  pub other : List ℕ
  pub after : List (List ℕ)
  pub peers : RelLine
  pub says : Spells other peers
  pub kind : peers.kind ≡ Peering
  pub two : pair_of peers ≡ edge_of given.over given.under
  pub was : old ≡ before ++ (other ∷ after)
  pub is : new ≡ before ++ (line ∷ after)

-- a line says that the one is the provider of the other, and stands behind those of the first octets, or in the place of such a one
pub record TellMore (given : Given) (bytes more : List ℕ) : Type 0 where
  pub line : List ℕ
  pub says : Spells line (rel_line given.over given.under Transit)
  pub stands : (lines more ≡ lines bytes ++ line ∷ []) ⊎ StandsForPeers given line (lines bytes) (lines more)

-- what the file of known relationships holds, and nothing where none is named
abbrev pub known_octets : First → Files → List ℕ
known_octets Nothing files = []
known_octets (Givens name) files = unwrap_or (files name) []
known_octets (Result name) files = []
known_octets (Earlier name) files = []

-- another run has the same options, dumps of the same octets, wherever it finds them, and a file of known relationships that says this more
pub record KnowsMore (given : Given) (settings other : Settings) (files later : Files) : Type 0 where
  pub options : other ≡ record settings { job = other.job }
  pub dumps : map later (dumps_in other) ≡ map files (dumps_in settings)
  pub tells : TellMore given (known_octets (first_in settings) files) (known_octets (first_in other) later)

-- ---- what comes of it

-- the first result and the second keep the same paths, what is forced stays so, and of the open edges exactly those are forced in the second which the
-- provider of the given forces: as many as the line says. So many more are forced in the totals, too
pub record SettlesAsSaid (line : AskLine) (given : Given) (file next : ResultFile) : Type 0 where
  pub forces : ForcesAsSaid (returns (its_paths file) (its_givens file) ++ paths_of (kept_of (its_paths file) (its_walks file)))
      (edges (its_paths file)) (line.low, line.high) (end_by given.over given.under) (number_if line (end_by given.over given.under))
      (its_walks file) (its_walks next) file.edges next.edges
  pub totals : next.totals.forced ≡ file.totals.forced + number_if line (end_by given.over given.under)

-- so it is of each result of what these settings and files give, and each that another run makes which knows of this edge's provider
abbrev pub ComesTrue : Settings → Files → Option KnownLines → Taken → AskLine → Type 0
ComesTrue settings files said taken line =
    (given : Given) (other : Settings) (later : Files) (said' : Option KnownLines) (taken' : Taken) (file next : ResultFile) →
    edge_of given.over given.under ≡ (line.low, line.high) → KnowsMore given settings other files later →
    made_by other.job ≡ Some made.Result → ComesTo other later (Reads said' taken') → Faithful settings said taken file →
    Faithful other said' taken' next → SettlesAsSaid line given file next

-- what a run with `--ask` has written are lines each of which comes true
abbrev pub AskRunLaw : Type 0
AskRunLaw =
    (words : List (List ℕ)) (settings : Settings) (files : Files) (said : Option KnownLines) (taken : Taken) (output : Written) →
    settings_given words ≡ Some settings → made_by settings.job ≡ Some made.Asks → ComesTo settings files (Reads said taken) →
    IsOutput settings (Reads said taken) output →
    (asked : List AskLine) × (output.text ≡ asks_text asked) ×
    ((line : AskLine) → Contains asked line → ComesTrue settings files said taken line)
