-- How edges are bound one after the other. These words are those of the code alone.
use Rattle.std.specs.Prelude.{◌≡◌, ◌<◌, ◌≤◌, ◌%◌, ℕ, true, List, ◌++◌, ◌||◌, length, map, filter, slice_index}
use Rattle.std.specs.List.{list_any}
use Rattle.relationships.specs.declared.given.Given.{Given}
use Rattle.relationships.specs.Graph.{Edge, is_same, distinct}
use Rattle.top_givens.specs.TopGivens.{is_top, has_one_top, top_given, is_paired, is_bound}

-- the two lists have the same ASes
pub record HaveSameTop (top other : List ℕ) : Type 0 where
  pub same : (a : ℕ) → is_top top a ≡ is_top other a

-- no AS of the top leaves a remainder that has no mark
pub record AreTopMarks (top marks : List ℕ) : Type 0 where
  pub marked : (k : ℕ) → k < length top → 1 ≤ slice_index marks (slice_index top k % 1024)

-- of the edges with exactly one end in the top, those of the pairs stand in the table, and no other
pub record StandSettled (top : List ℕ) (pairs : List (ℕ × ℕ)) (settled : List Edge) : Type 0 where
  pub same : (e : Edge) → has_one_top top e ≡ true → list_any (is_same e) settled ≡ is_paired pairs e

-- of these edges all are bound that are to be, and in the table are those that the pairs name, and these
pub record AreBound (top : List ℕ) (named : List (ℕ × ℕ)) (start : List Given) (es table : List Edge) (givens : List Given) : Type 0 where
  pub settled : (e : Edge) → has_one_top top e ≡ true → list_any (is_same e) table ≡ (is_paired named e || list_any (is_same e) es)
  pub bound : givens ≡ start ++ map (top_given top) (filter (is_bound top named) (distinct es))

-- with these pairs more
abbrev pub SettlesMore : List ℕ → List (ℕ × ℕ) → (old new : List Edge) → Type 0
SettlesMore top more old new = (pairs : List (ℕ × ℕ)) → StandSettled top pairs old → StandSettled top (pairs ++ more) new

-- with these edges more
abbrev pub BindsMore : List ℕ → (more settled : List Edge) → List Given → List Edge → List Given → Type 0
BindsMore top more settled givens settled' givens' =
    (named : List (ℕ × ℕ)) (start : List Given) (es : List Edge) → AreBound top named start es settled givens →
    AreBound top named start (es ++ more) settled' givens'
