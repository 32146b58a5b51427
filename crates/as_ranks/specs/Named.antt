-- The ASes that relationships name, and a digraph of them.
use Rattle.std.specs.Prelude.{◌≡◌, ◌⊎◌, ◌↔◌, ℕ, ◌≤◌, List, Contains, length}
use Rattle.std.specs.List.Sorted.{IsStrictlyIncreasing}
use Rattle.tor_arena.specs.Limits.{most_places}
use Rattle.tor_digraph.specs.Walks.{Net}
use Rattle.tor_digraph.specs.Closing.{Has}
use Rattle.as_rel.specs.declared.line.RelLine.{RelLine}
use Rattle.as_rel.specs.Providers.{IsProviderNet}

-- a line names the AS
abbrev pub IsNamed : List RelLine → ℕ → Type 0
IsNamed rel a = (l : RelLine) × Has rel l × ((a ≡ l.first) ⊎ (a ≡ l.second))

-- these are the ASes that lines name, in rising order
pub record AreNamed (rel : List RelLine) (ases : List ℕ) : Type 0 where
  pub rising : IsStrictlyIncreasing ases
  pub named : (a : ℕ) → Contains ases a ↔ IsNamed rel a

-- these, and a node for each of them in that order, with an arc from each provider to its customer
pub record IsNetOf (rel : List RelLine) (ases : List ℕ) (net : Net ℕ) : Type 0 where
  pub names : AreNamed rel ases
  pub arcs : IsProviderNet rel ases net
  pub few : length rel ≤ most_places
  pub few_ases : length ases ≤ most_places
