-- Consistency by batches: what a search adds to a batch, and what it says of a closure whether the batch still agrees.
use Rattle.std.proofs.Common.{◌≡◌, ◌↔◌, inl, inr, ℕ, ◌<◌, ◌≤◌, Bool, false, not, IsTrue, List, get_or, sym, ap, ◌∙◌, arith, All, Any}
use Rattle.std.proofs.lemmas.Bool.{false≢true, cases_Bool}
use Rattle.std.proofs.lemmas.Option.{slice_get-get_or}
use Rattle.relationships.specs.Evidence.{IsTriple, IsConsistent}
use Rattle.relationships.proofs.Closures.{reversed_triple}
use Rattle.line_rules.specs.Batches.{IsAgreeing, AgreesAlone, CanFlipTogether}
use Rattle.line_rules.specs.Neighbours.{HasNext, IsMutual}
use Rattle.line_rules.specs.Searching.{RoundCameTo, HasSearchedFrom}
use Rattle.line_rules.specs.Flipping.{IsFlipped, FlipsTo, IsBuilt, IsProper, FlipsLeaveNoValley}
use Rattle.tor_arena.proofs.Gets.{All-get}
use Rattle.line_rules.proofs.Rounds.{closed-reach}
use Rattle.line_rules.proofs.Servings.{Any-from}
use Rattle.line_rules.proofs.Flippings.{consistent_exactly}

pub unvisited_below : (rounds : List ℕ) (round : ℕ) → All (λ m. m < round) rounds → (k : ℕ) → RoundCameTo rounds round k → ⊥
unvisited_below rounds round below k h = let lt = All-get (λ m. m < round) rounds k round below h in omega arith

-- a round that is still to begin is a batch of no edges
pub batch-none : (implied conflicting : List (List ℕ)) (rounds : List ℕ) (round : ℕ) → All (λ m. m < round) rounds → CanFlipTogether implied conflicting rounds round
batch-none implied conflicting rounds round below = record {
  closed = λ i j h n. absurd (unvisited_below rounds round below i h);
  agreeing = λ i j h g n. absurd (unvisited_below rounds round below i h);
  latest = λ i d lt. (let less = below i d lt in omega arith);
}

pub latest-reach : (rows : List (List ℕ)) (start round : ℕ) (old new found : List ℕ) → All (λ m. m ≤ round) old → HasSearchedFrom rows start round old new found → All (λ m. m ≤ round) new
latest-reach rows start round old new found latest s i d lt =
    elim (s.others i (get_or new i d) (slice_get-get_or new i d lt)) [
      | inl o ↦ All-get (λ m. m ≤ round) old i (get_or new i d) latest o
      | inr e ↦ omega arith
    ]

-- what follows from an edge joins a batch if the batch still agrees
pub batch-more : (implied conflicting : List (List ℕ)) (start round : ℕ) (old new found : List ℕ) → CanFlipTogether implied conflicting old round → HasSearchedFrom implied start round old new found →
    IsAgreeing conflicting new round → CanFlipTogether implied conflicting new round
batch-more implied conflicting start round old new found batch reach agreeing = record {
  closed = closed-reach implied start round old new found batch.closed reach;
  agreeing = agreeing;
  latest = latest-reach implied start round old new found batch.latest reach;
}

-- where no edge that is new to a batch conflicts with one of it, none of it does
pub agreeing_exactly : (implied conflicting : List (List ℕ)) (start round : ℕ) (old new found : List ℕ) (clash : Bool) → IsMutual conflicting → IsAgreeing conflicting old round →
    HasSearchedFrom implied start round old new found → IsTrue clash ↔ Any (λ i. (j : ℕ) × HasNext conflicting i j × RoundCameTo new round j) found →
    IsTrue (not clash) ↔ IsAgreeing conflicting new round
agreeing_exactly implied conflicting start round old new found clash both agreeing reach exact = (
  λ t i j vi vj n. was t i j vi vj n (λ oi. was t j i vj vi (both i j n) (λ oj. agreeing i j oi oj n)),
  λ agrees. elim (cases_Bool clash) [
    | inl t ↦ (let w = exact.0 t in absurd (agrees w.1 w.4.0 ((reach.noted w.1).0 (w.0, w.2, w.3)).0 w.4.2 w.4.1))
    | inr f ↦ ap not f
  ],
)
  where
    no_clash : IsTrue (not clash) → clash ≡ false
    no_clash t = elim (cases_Bool clash) [ inl h ↦ absurd (false≢true (sym (ap not h) ∙ t)) | inr h ↦ h ]

    was : IsTrue (not clash) → (i j : ℕ) → RoundCameTo new round i → RoundCameTo new round j → HasNext conflicting i j → (RoundCameTo old round i → ⊥) → ⊥
    was t i j vi vj n fresh = false≢true (sym (no_clash t)
        ∙ exact.1 (Any-from (λ i. (j : ℕ) × HasNext conflicting i j × RoundCameTo new round j) found i ((reach.noted i).1 (vi, fresh)) (j, n, vj)))

module _ (orders : List (ℕ × ℕ)) (paths implied conflicting : List (List ℕ)) (built : IsBuilt orders (IsTriple paths) implied conflicting) where
  pub mutual_conflicts : IsMutual conflicting
  mutual_conflicts i j n =
      let w = (built.conflicts i j).0 n in
      (built.conflicts j i).1 (w.2, w.1, w.0, w.4, w.3, reversed_triple paths w.0 w.1 w.2 w.5)

  module _ (proper : IsProper orders) (settled : FlipsLeaveNoValley orders paths) where
    -- an order against a label is consistent if what follows from it agrees
    pub flips_if_agrees : (s a b : ℕ) → FlipsTo orders s a b → AgreesAlone implied conflicting s → IsFlipped orders a b × IsConsistent paths a b
    flips_if_agrees s a b ts agrees = ((s, ts), (consistent_exactly orders paths implied conflicting built proper settled s a b ts).1 agrees)

    pub agrees_if_flips : (s a b : ℕ) → FlipsTo orders s a b → IsConsistent paths a b → AgreesAlone implied conflicting s
    agrees_if_flips s a b ts consistent = (consistent_exactly orders paths implied conflicting built proper settled s a b ts).0 consistent
