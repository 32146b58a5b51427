-- Chains of links: what is kept for each edge, in one list for all.
use Rattle.std.specs.Prelude.{ℕ, ◌+◌, ◌<◌, ◌≤◌, ◌==◌, List, [], ◌∷◌, All, length, reverse, slice_index_or, if◌then◌else◌}
use Rattle.peering.specs.declared.partners.Link.{Link}

-- the edges on the chain that begins with the link before this place, where the links stand last first
abbrev pub chain_in : List Link → ℕ → List ℕ
chain_in [] at = []
chain_in (link ∷ links) at = if at == length links + 1 then link.partner ∷ chain_in links link.next else chain_in links at

-- and where they stand in order
abbrev pub chain : List Link → ℕ → List ℕ
chain links at = chain_in (reverse links) at

-- the chains begin with links that are there, each link leads to an earlier one, and has an edge that is there
pub record AreChains (heads : List ℕ) (links : List Link) : Type 0 where
  pub begin : All (λ at. at ≤ length links) heads
  pub back : (k : ℕ) (d : Link) → k < length links → (slice_index_or links k d).next ≤ k
  pub there : All (λ (link : Link). link.partner < length heads) links
