-- What follows of the relationships that are known of the top.
-- Each law is proved as the contract of a function in src/laws.rt.
use Rattle.std.specs.Prelude.{◌≡◌, ◌↔◌, ℕ, ◌≤◌, List, ◌++◌, length, sum_by, Contains, IsTrue, IsFalse}
use Rattle.relationships.specs.declared.given.Given.{Given}
use Rattle.relationships.specs.Graph.{Edge, edge_of, edges}
use Rattle.relationships.specs.Givens.{NameTwo, NameOnce}
use Rattle.top_givens.specs.TopGivens.{is_top, has_one_top, is_paired, top_givens, given_pairs, top_givens_behind}

-- the given is that of an edge of the paths that no pair names: its provider is one of the top, and its customer isn't
pub record IsOfTop (top : List ℕ) (named : List (ℕ × ℕ)) (paths : List (List ℕ)) (g : Given) : Type 0 where
  pub over : IsTrue (is_top top g.over)
  pub under : IsFalse (is_top top g.under)
  pub edge : Contains (edges paths) (edge_of g.over g.under)
  pub new : IsFalse (is_paired named (edge_of g.over g.under))

-- these are the givens, and no other
abbrev pub TopMembersLaw : Type 0
TopMembersLaw =
    (top : List ℕ) (named : List (ℕ × ℕ)) (paths : List (List ℕ)) (g : Given) →
    Contains (top_givens top named paths) g ↔ IsOfTop top named paths g

-- behind givens whose pairs are among those that aren't bound they name two ASes each, and no two the same two
abbrev pub TopSoundLaw : Type 0
TopSoundLaw =
    (top : List ℕ) (named : List (ℕ × ℕ)) (paths : List (List ℕ)) (givens : List Given) →
    ((g : Given) → Contains givens g → IsTrue (is_paired named (edge_of g.over g.under))) →
    (NameTwo givens → NameTwo (givens ++ top_givens top named paths)) × (NameOnce givens → NameOnce (givens ++ top_givens top named paths))

-- there are no more of them than numbers on the paths
abbrev pub FewTopLaw : Type 0
FewTopLaw = (top : List ℕ) (named : List (ℕ × ℕ)) (paths : List (List ℕ)) → length (top_givens top named paths) ≤ sum_by length paths

-- they depend on which ASes are of the top, and on which edges are named, alone
abbrev pub SameTopLaw : Type 0
SameTopLaw =
    (top top' : List ℕ) (named named' : List (ℕ × ℕ)) (paths : List (List ℕ)) → ((a : ℕ) → is_top top a ≡ is_top top' a) →
    ((e : Edge) → IsTrue (has_one_top top e) → is_paired named e ≡ is_paired named' e) → top_givens top named paths ≡ top_givens top' named' paths

-- no edge of the earlier paths has a given on top of them: so nothing that they have shown is contradicted
abbrev pub NoneEarlierLaw : Type 0
NoneEarlierLaw =
    (top : List ℕ) (givens : List Given) (earlier paths : List (List ℕ)) (g : Given) →
    Contains (top_givens_behind top givens earlier paths) g → Contains (edges earlier) (edge_of g.over g.under) → ⊥

-- Givens of a file, with all pairs that its lines name, and of the earlier paths, and on top of these those of the later paths, are the givens
-- of the file and of all paths at once, where each pair with exactly one end in the top that a line names has a given
abbrev pub ResumedTopLaw : Type 0
ResumedTopLaw =
    (top : List ℕ) (givens : List Given) (named : List (ℕ × ℕ)) (earlier later : List (List ℕ)) →
    ((e : Edge) → IsTrue (has_one_top top e) → is_paired named e ≡ is_paired (given_pairs givens) e) →
    (let known = givens ++ top_givens top named earlier in
    known ++ top_givens_behind top known earlier (earlier ++ later) ≡ givens ++ top_givens top named (earlier ++ later))
