-- How the digraph of ASes is made. These words are the body's own: no reader of a public clause needs them.
use Rattle.std.specs.Prelude.{◌≡◌, ℕ, ◌++◌, List, [], ◌∷◌}
use Rattle.tor_digraph.specs.Walks.{Net}
use Rattle.as_rel.specs.declared.line.RelLine.{RelLine}
use Rattle.as_rel.specs.Providers.{IsProviderNet}

-- the two ASes of a line
abbrev pub both_ases : RelLine → List ℕ
both_ases l = l.first ∷ l.second ∷ []

-- what a line makes of the digraph: whatever lines came before, it is one more
pub record IsLinePut (l : RelLine) (ases : List ℕ) (old new : Net ℕ) : Type 0 where
  pub nodes : new.nodes ≡ old.nodes
  pub more : (done : List RelLine) → IsProviderNet done ases old → IsProviderNet (done ++ l ∷ []) ases new
