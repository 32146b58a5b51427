-- The text of ties: a line for each open edge, in order, and a last line that counts.
use Rattle.std.specs.Prelude.{◌≡◌, ◌↔◌, ◌≤◌, Contains, ℕ, List, [], ◌∷◌, ◌++◌, length, max, fold, flat_map, codes}
use Rattle.std.specs.Fmt.{decimal}
use Rattle.relationships.specs.declared.given.Given.{Given}
use Rattle.text_fields.specs.Fields.{fields}
use Rattle.ties.specs.declared.tie.Side.{Side}
use Rattle.ties.specs.declared.table.TieLine.{TieLine}
use Rattle.ties.specs.Ties.{AreTieLinesOf}

abbrev pub side_text : Side → List ℕ
side_text Side.With = codes "with"
side_text Side.Against = codes "against"

-- fields, joined by a bar, and a line feed
abbrev pub ties_line : List (List ℕ) → List ℕ
ties_line parts = fields parts ++ 10 ∷ []

-- an open edge by its two ASes, its class, and how it goes with the first edge of that
abbrev pub tie_text : TieLine → List ℕ
tie_text l = ties_line (codes "tie" ∷ decimal l.low ∷ decimal l.high ∷ decimal l.class ∷ side_text l.side ∷ [])

abbrev pub tie_texts : List TieLine → List ℕ
tie_texts lines = flat_map tie_text lines

-- how many classes there are: they are numbered from 1 on, so it is the greatest number
abbrev pub class_count : List TieLine → ℕ
class_count lines = fold (λ n l. max n l.class) 0 lines

-- how many open edges there are, and how many classes of them
abbrev pub counts_text : List TieLine → List ℕ
counts_text lines = ties_line (codes "ties" ∷ decimal (length lines) ∷ decimal (class_count lines) ∷ [])

abbrev pub ties_text : List TieLine → List ℕ
ties_text lines = tie_texts lines ++ counts_text lines

-- the numbers from 1 to that count are those of classes, and no others are
abbrev pub ClassCountLaw : Type 0
ClassCountLaw =
    (givens : List Given) (paths : List (List ℕ)) (lines : List TieLine) (number : ℕ) → AreTieLinesOf givens paths lines →
    ((1 ≤ number) × (number ≤ class_count lines)) ↔ ((line : TieLine) × Contains lines line × (line.class ≡ number))
