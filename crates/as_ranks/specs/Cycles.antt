-- Cycles of relationships: greatest sets of at least two ASes each of which is a direct or indirect provider of each other one.
use Rattle.std.specs.Prelude.{◌≡◌, ◌≢◌, ◌↔◌, ◌&&◌, ℕ, ◌<◌, ◌≤◌, Bool, List, Some, filter, length, slice_get, nat_eq}
use Rattle.std.specs.List.{list_any}
use Rattle.tor_digraph.specs.Closing.{Has}
use Rattle.reach_counts.specs.Cycles.{IsRisingList}
use Rattle.as_rel.specs.declared.line.RelLine.{RelLine}
use Rattle.as_rel.specs.Cone.{InCone}
use Rattle.as_rel.specs.Givens.{is_transit}

-- each is in the other's cone
abbrev pub InConesOfEachOther : List RelLine → ℕ → ℕ → Type 0
InConesOfEachOther rel a b = InCone rel a b × InCone rel b a

-- at least two ASes, rising; such an AS and another are in each other's cones exactly if the other is one of them
pub record IsProviderCycle (rel : List RelLine) (ases : List ℕ) : Type 0 where
  pub many : 2 ≤ length ases
  pub rising : IsRisingList ases
  pub whole : (a b : ℕ) → Has ases a → Has ases b ↔ InConesOfEachOther rel a b

-- all cycles, by their least ASes
pub record AreProviderCycles (rel : List RelLine) (cycles : List (List ℕ)) : Type 0 where
  pub each : (i : ℕ) (ases : List ℕ) → slice_get cycles i ≡ Some ases → IsProviderCycle rel ases
  pub all : (a b : ℕ) → a ≢ b → InConesOfEachOther rel a b → (i : ℕ) × (ases : List ℕ) × (slice_get cycles i ≡ Some ases) × Has ases a
  pub order : (i j : ℕ) (xs ys : List ℕ) (a b : ℕ) → i < j → slice_get cycles i ≡ Some xs → slice_get cycles j ≡ Some ys →
      slice_get xs 0 ≡ Some a → slice_get ys 0 ≡ Some b → a < b

-- ---- the transits inside a cycle

abbrev pub is_member : List ℕ → ℕ → Bool
is_member ases a = list_any (λ b. nat_eq b a) ases

-- both ASes of a transit are among these
abbrev pub is_inside : List ℕ → RelLine → Bool
is_inside ases l = is_transit l.kind && (is_member ases l.first && is_member ases l.second)

-- in the order of the lines
abbrev pub inside_of : List RelLine → List ℕ → List RelLine
inside_of rel ases = filter (is_inside ases) rel
