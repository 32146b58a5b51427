-- Evidence where relationships are given.
-- Each law is proved as the contract of a function in src/laws/given_evidence.rt.
use Rattle.std.specs.Prelude.{◌≡◌, ◌≢◌, ◌↔◌, ℕ, ◌≤◌, List, [], ◌++◌, map, length, Option, is_none, All, Contains, IsTrue, option_map}
use Rattle.relationships.specs.declared.label.Label.{Label}
use Rattle.relationships.specs.Relationship.{Orientation, labels_of, is_over, Serves}
use Rattle.relationships.specs.declared.walk.Walk.{Walk}
use Rattle.relationships.specs.Graph.{Edge, edge_of, edges}
use Rattle.relationships.specs.declared.given.Given.{Given}
use Rattle.relationships.specs.Givens.{return_of, returns, NameTwo}
use Rattle.relationships.specs.Evidence.{NeighboursDiffer, Numbered, paths_of, Refutes, Show, Closure, IsConsistent}
use Rattle.relationships.specs.Selection.{KeepsFrom, IsForced}
use Rattle.relationships.specs.Checking.{kept_of, Claim, MarksHold, LostFrom}
use Rattle.relationships.specs.GivenEvidence.{AreReturnRows, AreUpTo, with_given_links, RefutesWith, ShowFromWith, LostFromWith}
use Rattle.relationships.specs.GivenEvidence.{served_with, MarksHoldWith, MeetsRulesWith, MeetsAgreeingRules}

-- where nothing is given, evidence with givens is evidence
abbrev pub NoGivensLaw : Type 0
NoGivensLaw =
    ((A : Numbered) (w : Walk) → RefutesWith [] A w ↔ Refutes A w) ×
    ((A : Numbered) (walks : List Walk) (orders : List (ℕ × ℕ)) → ShowFromWith [] A [] walks orders ↔ Show A walks orders) ×
    ((n : ℕ) (A : Numbered) (paths : List (List ℕ)) (walks : List (Option Walk)) →
    LostFromWith [] n A paths walks ↔ LostFrom n A paths walks) ×
    ((kept : Numbered) (claims : List Claim) (whys : List Walk) (probes : List (ℕ × ℕ)) →
    MarksHoldWith [] kept claims whys probes ↔ MarksHold kept claims whys probes)

-- a walk that refutes by the givens leaves no orientation that serves the returns of all givens and then the paths; an order of two
-- ASes that is shown holds in every one that does
abbrev pub GivenWalksLaw : Type 0
GivenWalksLaw =
    (givens : List Given) (A : Numbered) →
    ((w : Walk) → RefutesWith givens A w → (O : Orientation) → Serves O (served_with givens (paths_of A)) → ⊥) ×
    ((walks : List Walk) (orders : List (ℕ × ℕ)) → NameTwo givens → All NeighboursDiffer (paths_of A) →
    ShowFromWith givens A [] walks orders → (O : Orientation) → Serves O (served_with givens (paths_of A)) →
    (a b : ℕ) → a ≢ b → Contains orders (a, b) → IsTrue (is_over (labels_of O) a b))

-- what meets the rules with givens is valid: behind the givens the right paths are kept, exactly the forced edges are marked so, and
-- none of these is a peering
abbrev pub GivenRulesLaw : Type 0
GivenRulesLaw =
    (givens : List Given) (paths : List (List ℕ)) (walks : List (Option Walk)) →
    (claims : List Claim) (whys : List Walk) (probes : List (ℕ × ℕ)) →
    MeetsRulesWith givens paths walks claims whys probes →
    KeepsFrom (map return_of givens) paths (map is_none walks) ×
    ((c : Claim) → Contains claims c → IsTrue c.forced ↔ IsForced (served_with givens (paths_of (kept_of paths walks))) c.low c.high) ×
    ((c : Claim) → Contains claims c → IsTrue c.forced → c.label ≢ Label.Peer)

-- what meets them, with labels that agree with the givens whose two are neighbours, is valid by the returns of these alone
abbrev pub AgreeingRulesLaw : Type 0
AgreeingRulesLaw =
    (givens : List Given) (paths : List (List ℕ)) (walks : List (Option Walk)) (claims : List Claim) (whys : List Walk)
    (probes : List (ℕ × ℕ)) →
    MeetsAgreeingRules givens paths walks claims whys probes →
    KeepsFrom (returns paths givens) paths (map is_none walks) ×
    ((c : Claim) → Contains claims c → IsTrue c.forced ↔ IsForced (returns paths givens ++ paths_of (kept_of paths walks)) c.low c.high) ×
    ((c : Claim) → Contains claims c → IsTrue c.forced → c.label ≢ Label.Peer)

-- closures that begin with an edge of the paths are the same, and so as consistent, by the returns of those givens alone whose two are
-- neighbours
abbrev pub SameClosureLaw : Type 0
SameClosureLaw =
    (givens : List Given) (paths some : List (List ℕ)) (a b : ℕ) → ((e : Edge) → Contains (edges some) e → Contains (edges paths) e) →
    Contains (edges paths) (edge_of a b) →
    ((y z : ℕ) → Closure (returns paths givens ++ some) a b y z ↔ Closure (served_with givens some) a b y z) ×
    (IsConsistent (returns paths givens ++ some) a b ↔ IsConsistent (served_with givens some) a b)

-- evidence over rows of returns and paths is, with its links so changed, evidence with givens over the paths
abbrev pub GivenLinksLaw : Type 0
GivenLinksLaw =
    (givens : List Given) (n : ℕ) (numbers : List ℕ) (rows : Numbered) → AreReturnRows givens n numbers rows →
    ((A : Numbered) (walks : List Walk) (orders : List (ℕ × ℕ)) → AreUpTo n A → Show (rows ++ A) walks orders →
    ShowFromWith givens A [] (map (with_given_links n numbers) walks) orders) ×
    ((paths : List (List ℕ)) (walks : List (Option Walk)) → length paths ≤ n → LostFrom 1 rows paths walks →
    LostFromWith givens 1 [] paths (map (option_map (with_given_links n numbers)) walks))

-- so marks that hold over rows of returns and paths hold with givens over the paths
abbrev pub GivenMarksLaw : Type 0
GivenMarksLaw =
    (givens : List Given) (paths : List (List ℕ)) (n : ℕ) (numbers : List ℕ) (rows A : Numbered) → AreReturnRows givens n numbers rows →
    paths_of rows ≡ returns paths givens → AreUpTo n A → ((e : Edge) → Contains (edges (paths_of A)) e → Contains (edges paths) e) →
    (claims : List Claim) (whys : List Walk) (probes : List (ℕ × ℕ)) →
    ((c : Claim) → Contains claims c → Contains (edges paths) (edge_of c.low c.high)) →
    MarksHold (rows ++ A) claims whys probes → MarksHoldWith givens A claims (map (with_given_links n numbers) whys) probes
