-- What preferences wish for.
use Rattle.std.specs.Prelude.{◌≡◌, List, [], ◌∷◌, All, if◌then◌else◌}
use Rattle.relationships.specs.declared.label.End.{End}
use Rattle.relationships.specs.Graph.{Edge, is_same}
use Rattle.gao_prefs.specs.declared.preferring.Pref.{Pref}
use Rattle.gao_prefs.specs.Preferences.{edge_preferred}

-- the end that the first preference of the edge wants, where these are all edges
abbrev pub wish : List Edge → List Pref → Edge → End
wish es [] e = End.Low
wish es (pref ∷ prefs) e = if is_same e (edge_preferred es pref) then pref.wanted else wish es prefs e

-- the preferences want these ends
abbrev pub AreWishes : List Edge → List Pref → (Edge → End) → Type 0
AreWishes es prefs wanted = All (λ pref. pref.wanted ≡ wanted (edge_preferred es pref)) prefs
