-- Which lines lie inside which cycle, by links from line to line.
use Rattle.std.specs.Prelude.{◌≡◌, ◌↔◌, ℕ, ◌+◌, ◌<◌, ◌≤◌, List, Some, true, false, length, slice_get}
use Rattle.tor_solve.specs.Classes.{Classes}
use Rattle.reach_counts.specs.Condensing.{IsOfClass}
use Rattle.reach_counts.specs.Cycles.{AreClassLinks}
use Rattle.as_rel.specs.declared.line.RelLine.{RelLine}
use Rattle.as_rel.specs.Givens.{is_transit}
use Rattle.as_ranks.specs.Cycles.{is_inside}

-- the first line from this one on that lies inside a cycle, or where there is none the number of the lines
pub record IsNextInside (rel : List RelLine) (ases : List ℕ) (low next : ℕ) : Type 0 where
  pub later : low ≤ next
  pub most : next ≤ length rel
  pub none_before : (k : ℕ) (l : RelLine) → low ≤ k → k < next → slice_get rel k ≡ Some l → is_inside ases l ≡ false
  pub inside : (l : RelLine) → slice_get rel next ≡ Some l → is_inside ases l ≡ true

-- the first line inside a cycle is this one, and each of them knows the next one
pub record AreLinesLinked (rel : List RelLine) (ases : List ℕ) (start : ℕ) (next : List ℕ) : Type 0 where
  pub first : IsNextInside rel ases 0 start
  pub nexts : (k r : ℕ) (l : RelLine) → slice_get rel k ≡ Some l → is_inside ases l ≡ true → slice_get next k ≡ Some r →
      IsNextInside rel ases (k + 1) r

-- ---- the class of a line. These words are the body's own: no reader of a public clause needs them.

-- the node of the AS has this class
abbrev pub HasClassOf : Classes → List ℕ → ℕ → ℕ → Type 0
HasClassOf parts ases a c = (x : ℕ) × (slice_get ases x ≡ Some a) × IsOfClass parts.of x c

-- both ends of a transit have this class; no class else
abbrev pub IsLineClass : Classes → List ℕ → RelLine → ℕ → Type 0
IsLineClass parts ases l k = (c : ℕ) → c < parts.count →
    (k ≡ c) ↔ ((is_transit l.kind ≡ true) × HasClassOf parts ases l.first c × HasClassOf parts ases l.second c)

-- the class of each line, and where it has none the number of the classes
pub record AreLineClasses (parts : Classes) (ases : List ℕ) (rel : List RelLine) (of : List ℕ) : Type 0 where
  pub many : length of ≡ length rel
  pub below : (y k : ℕ) → slice_get of y ≡ Some k → k < parts.count + 1
  pub each : (y k : ℕ) (l : RelLine) → slice_get rel y ≡ Some l → slice_get of y ≡ Some k → IsLineClass parts ases l k

-- each class, and what is none, knows its first line, and each line the next one of its class
pub record AreLineLinks (parts : Classes) (ases : List ℕ) (rel : List RelLine) (first next : List ℕ) : Type 0 where
  pub of : List ℕ
  pub classes : AreLineClasses parts ases rel of
  pub linked : AreClassLinks of (parts.count + 1) 0 first next
