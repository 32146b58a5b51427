-- How an arc is looked for along those that leave its tail.
use Rattle.std.proofs.Common.{◌≡◌, ℕ, ◌+◌, ◌<◌, ◌≤◌, List, Option, Some, None, length, sym, subst, arith}
use Rattle.std.proofs.lemmas.Option.{slice_get_within}
use Rattle.relationships.specs.Graph.{Edge}
use Rattle.tor_digraph.specs.Walks.{IsArc}
use Rattle.tor_digraph.specs.Links.{IsLatest}
use Rattle.tor_digraph.specs.Search.{steps_of}

-- what is left is this arc and those before it, and it isn't among the others
pub record IsSeek (arcs : List Edge) (tail head : ℕ) (next : Option ℕ) : Type 0 where
  pub high : ℕ
  pub latest : IsLatest (λ a. a) arcs tail high next
  pub none : (k : ℕ) → high ≤ k → IsArc arcs k tail head → ⊥

module _ (arcs : List Edge) (tail head : ℕ) where
  pub seek_begun : (next : Option ℕ) → IsLatest (λ a. a) arcs tail (length arcs) next → IsSeek arcs tail head next
  seek_begun next latest = record {
    high = length arcs;
    latest = latest;
    none = λ k le at. (let lt = slice_get_within arcs k (tail, head) at in absurd (omega (arith, le, lt)));
  }

  module _ (a : ℕ) (next : Option ℕ) (is : next ≡ Some a) (s : IsSeek arcs tail head next) where
    latest : IsLatest (λ b. b) arcs tail s.high (Some a)
    latest = subst (IsLatest (λ b. b) arcs tail s.high) is s.latest

    pub seek_there : a < length arcs
    seek_there = slice_get_within arcs a (tail, latest.1.0) latest.1.1

    pub seek_smaller : (more : Option ℕ) → ((u v : ℕ) → IsArc arcs a u v → IsLatest (λ b. b) arcs u a more) →
        steps_of (λ b. b) more < steps_of (λ b. b) next
    seek_smaller more later = subst (λ o. steps_of (λ b. b) more < steps_of (λ b. b) o) (sym is) (less more (later tail latest.1.0 latest.1.1))
      where
        less : (more : Option ℕ) → IsLatest (λ b. b) arcs tail a more → steps_of (λ b. b) more < a + 2
        less None h = omega arith
        less (Some b) h = let lt = h.0 in omega (arith, lt)
