-- An edge, a path or an AS is there or isn't.
use Rattle.std.proofs.Common.{◌<◌, ℕ, List, length, Some, None, subst}
use Rattle.std.proofs.lemmas.Option.{slice_get_within}
use Rattle.std.specs.Prelude.{Contains}
use Rattle.tor_arena.proofs.Gets.{Contains-map}
use Rattle.relationships.specs.Graph.{edge_of}
use Rattle.result_text.specs.declared.file.EdgeLine.{EdgeLine}
use Rattle.result_text.specs.declared.file.ResultFile.{ResultFile}
use Rattle.result_rules.specs.File.{its_edges}
use Rattle.telling.specs.declared.told.Told.{Told}
use Rattle.telling.specs.declared.told.Told.TheVariants as told
use Rattle.telling.specs.Told.{AnswersEdge, AnswersPath, IsLineOf, IsToldOfPath, edge_on}
use Rattle.tor_words.specs.declared.why_settings.Asked.{Asked}
use Rattle.tor_words.specs.declared.why_settings.Asked.TheVariants as asked
use Rattle.showing_run.proofs.Comings.{NotBoth}
use Rattle.showing_run.specs.Whys.{IsToldAsked, telling}

on_line : (file : ResultFile) (one other : ℕ) (line : EdgeLine) → IsLineOf file one other line → Contains (its_edges file) (edge_of one other)
on_line file one other line is = subst (Contains (its_edges file)) is.1 (Contains-map edge_on file.edges line is.0)

edge_both : (file : ResultFile) (one other : ℕ) (tale : Told) → AnswersEdge file one other None → AnswersEdge file one other (Some tale) → ⊥
edge_both file one other (told.Forced line whys) none some = none (on_line file one other line some.0)
edge_both file one other (told.Open line probe walk) none some = none (on_line file one other line some.0)
edge_both file one other (told.Peering line) none some = none (on_line file one other line some.0)
edge_both file one other (told.Lost path) none some = some
edge_both file one other (told.Kept path goings) none some = some

path_there : (file : ResultFile) (k : ℕ) (tale : Told) → IsToldOfPath file k tale → k < length file.paths
path_there file k (told.Forced line whys) is = absurd is
path_there file k (told.Open line probe walk) is = absurd is
path_there file k (told.Peering line) is = absurd is
path_there file k (told.Lost path) is = slice_get_within file.paths k is.1.0 is.1.1
path_there file k (told.Kept path goings) is = slice_get_within file.paths k is.1.0 is.1.1

path_both : (file : ResultFile) (number : ℕ) (tale : Told) → AnswersPath file number None → AnswersPath file number (Some tale) → ⊥
path_both file number tale none some = none some.0 some.1 (path_there file some.0 tale some.2)

both : (asked : Asked) (file : ResultFile) (text : List ℕ) → IsToldAsked asked file None → IsToldAsked asked file (Some text) → ⊥
both (asked.Edge one other) file text none some = edge_both file one other some.0 none some.1
both (asked.Path number) file text none some = path_both file number some.0 none some.1
both (asked.Neighbours a) file text none some = none some.0

pub not_both : NotBoth telling
not_both settings file text none some = both settings.asked file text none some
