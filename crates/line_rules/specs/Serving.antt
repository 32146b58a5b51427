-- What open lines serve for.
use Rattle.std.specs.Prelude.{◌≡◌, ◌⊎◌, ◌↔◌, ℕ, ◌≤◌, Bool, true, false, IsTrue, IsFalse, List, length, take, Option, Some, None, All}
use Rattle.std.specs.Prelude.{Any, Contains, slice_get}
use Rattle.relationships.specs.declared.label.Label.{Label}
use Rattle.relationships.specs.declared.label.Label.TheVariants as label
use Rattle.relationships.specs.Graph.{Edge, edges}
use Rattle.tor_arena.specs.Limits.{most_places}
use Rattle.relationships.specs.Evidence.{Closure, IsConsistent}
use Rattle.relationships.specs.Checking.{Claim, OtherOrder}
use Rattle.relationships.specs.declared.mark.Mark.{Mark}
use Rattle.relationships.specs.declared.mark.Mark.TheVariants.{Forced, Open}
use Rattle.result_text.specs.declared.file.EdgeLine.{EdgeLine}
use Rattle.result_text.specs.declared.file.ResultFile.{ResultFile}
use Rattle.result_rules.specs.File.{claim_on, its_claims, its_edges, its_paths, its_probes}
use Rattle.line_rules.specs.Searching.{RoundCameTo}
use Rattle.result_rules.specs.Rules.{ForSome, ServesNewEdge, IsMarkedRightly}
use Rattle.line_rules.specs.Flipping.{FlipsTo, IsFlipped, flipped_orders, served_lines, IsBuiltFor, IsProper, FlipsLeaveNoValley}
use Rattle.line_rules.specs.EdgeLines.{edges_of, AreApart}

-- the edge is open, and no peering
abbrev pub is_wanted : Mark → Label → Bool
is_wanted Forced l = false
is_wanted Open label.Low = true
is_wanted Open label.High = true
is_wanted Open label.Peer = false

-- edge k is such an edge
abbrev pub IsWantedAt : List EdgeLine → ℕ → Type 0
IsWantedAt lines k = (line : EdgeLine) × (slice_get lines k ≡ Some line) × IsTrue (is_wanted line.mark line.label)

-- the closure of the order has the other order of an open edge that is no peering, and no earlier one has it
pub record Gains (paths : List (List ℕ)) (claims : List Claim) (earlier : List (ℕ × ℕ)) (p : ℕ × ℕ) : Type 0 where
  pub claim : Claim
  pub claimed : Contains claims claim
  pub is_open : IsFalse claim.forced
  pub over : ℕ
  pub under : ℕ
  pub other : OtherOrder claim over under
  pub reached : Closure paths p.0 p.1 over under
  pub new : All (λ q. Closure paths q.0 q.1 over under → ⊥) earlier

-- the round came to exactly the edges whose flipped orders are in the closure of one of the open lines
abbrev pub IsCovered : List (List ℕ) → List (ℕ × ℕ) → List (ℕ × ℕ) → List ℕ → ℕ → Type 0
IsCovered paths orders probes rounds round =
    (k x y : ℕ) → FlipsTo orders k x y → RoundCameTo rounds round k ↔ Any (λ p. Closure paths p.0 p.1 x y) probes

-- the same in round 1, for what is served of a file and its edges
abbrev pub Covers : ResultFile → List (ℕ × ℕ) → List ℕ → Type 0
Covers file probes rounds = IsCovered (served_lines file) (flipped_orders file.edges) probes rounds 1

-- it is one against a label, and its closure is consistent
abbrev pub CanFlip : ResultFile → ℕ × ℕ → Type 0
CanFlip file p = IsFlipped (flipped_orders file.edges) p.0 p.1 × IsConsistent (served_lines file) p.0 p.1

-- open line k gains
abbrev pub GainsAt : ResultFile → ℕ → Type 0
GainsAt file k = ForSome (its_probes file) k (Gains (served_lines file) (its_claims file) (take k (its_probes file)))

-- open line k serves
abbrev pub ServesAt : ResultFile → ℕ → Type 0
ServesAt file k = ForSome (its_probes file) k (ServesNewEdge file k)

-- the mark of edge line k is borne out
abbrev pub MarkedAt : ResultFile → ℕ → Type 0
MarkedAt file k = ForSome file.edges k (λ line. IsMarkedRightly file (claim_on line))

-- the first of two places is kept
abbrev pub first_failing : Option ℕ → ℕ → Bool → Option ℕ
first_failing (Some j) k holds = Some j
first_failing None k true = None
first_failing None k false = Some k

-- one of the orders of the edge is shown
abbrev pub IsShownOf : List (ℕ × ℕ) → EdgeLine → Type 0
IsShownOf orders line = Contains orders (line.low, line.high) ⊎ Contains orders (line.high, line.low)

-- the edges that are shown are those one of whose orders is shown
abbrev pub IsShownBy : List EdgeLine → List (ℕ × ℕ) → List Bool → Type 0
IsShownBy lines orders shown = (k : ℕ) → ForSome lines k (λ line. (slice_get shown k ≡ Some true) ↔ IsShownOf orders line)

-- whether the mark of an edge is borne out, by whether an order of it is shown, and whether it is covered
abbrev pub is_borne : Mark → Label → Bool → Bool → Bool
is_borne Forced l shown covered = shown
is_borne Open label.Peer shown covered = true
is_borne Open label.Low shown covered = covered
is_borne Open label.High shown covered = covered

-- what is known of the file, of the table of its edges, and of the rows: which edges each edge implies, and with which it conflicts
pub record IsLaidOut (file : ResultFile) (table : List Edge) (implied conflicting : List (List ℕ)) : Type 0 where
  pub listed : table ≡ edges_of file.edges
  pub whole : its_edges file ≡ edges (its_paths file)
  pub few : length file.edges ≤ most_places
  pub apart : AreApart file.edges
  pub proper : IsProper (flipped_orders file.edges)
  pub settled : FlipsLeaveNoValley (flipped_orders file.edges) (served_lines file)
  pub built : IsBuiltFor file.edges (served_lines file) implied conflicting
