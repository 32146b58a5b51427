-- Lines of serial-1 that are known beforehand.
use Rattle.std.specs.Prelude.{◌≡◌, ℕ, ◌+◌, ◌*◌, ◌≤◌, Bool, true, false, not, List, ◌++◌, length, map, filter, Ok}
use Rattle.std.specs.List.{list_any}
use Rattle.relationships.specs.declared.given.Given.{Given}
use Rattle.as_rel.specs.Serial.{rel_in}
use Rattle.as_rel.specs.declared.givens.KnownLines.{KnownLines}
use Rattle.as_rel.specs.declared.line.RelKind.{RelKind}
use Rattle.as_rel.specs.declared.line.RelKind.TheVariants.{Transit, Peering}
use Rattle.as_rel.specs.declared.line.RelLine.{RelLine}

-- whether the first AS of a line is the provider of the second
abbrev pub is_transit : RelKind → Bool
is_transit Transit = true
is_transit Peering = false

-- what a transit gives: the first of its two ASes is the provider
abbrev pub given_by : RelLine → Given
given_by l = record { over = l.first; under = l.second }

-- the transits in order, as givens. Peerings bind nothing
abbrev pub givens_in : List RelLine → List Given
givens_in rel = map given_by (filter (λ l. is_transit l.kind) rel)

-- the two ASes of a line, as they stand there
abbrev pub both_of : RelLine → ℕ × ℕ
both_of l = (l.first, l.second)

-- the two of each line, in order
abbrev pub pairs_in : List RelLine → List (ℕ × ℕ)
pairs_in rel = map both_of rel

-- the two of each peering, in order
abbrev pub peer_pairs : List RelLine → List (ℕ × ℕ)
peer_pairs rel = map both_of (filter (λ l. not (is_transit l.kind)) rel)

-- the octets say this: their transits as givens, and the two of each of their peerings
pub record SaysKnown (bytes : List ℕ) (known : KnownLines) : Type 0 where
  pub rel : List RelLine
  pub said : rel_in bytes ≡ Ok rel
  pub givens : known.givens ≡ givens_in rel
  pub peers : known.peers ≡ peer_pairs rel

-- a pair that any line names is that of a given or of a peering, and the other way round
abbrev pub NamedPairsLaw : Type 0
NamedPairsLaw =
    (p : ℕ × ℕ → Bool) (rel : List RelLine) →
    list_any p (map (λ g. (g.over, g.under)) (givens_in rel) ++ peer_pairs rel) ≡ list_any p (pairs_in rel)

-- what octets say is said by lines of six octets at least, but for the last, which may lack its line feed
abbrev pub FewLinesLaw : Type 0
FewLinesLaw = (bytes : List ℕ) (rel : List RelLine) → rel_in bytes ≡ Ok rel → 6 * length rel ≤ length bytes + 1
