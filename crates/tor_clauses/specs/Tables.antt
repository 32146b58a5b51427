-- What the fields of clauses hold, and what one more triple makes of them.
use Rattle.std.specs.Prelude.{◌≡◌, ℕ, ◌<◌, ◌≤◌, ◌+◌, ◌*◌, ◌^◌, Bool, true, false, nat_lt, List, [], ◌∷◌, ◌++◌, All, Some, length, map, take}
use Rattle.std.specs.Prelude.{flat_map, slice_get, IfSome, if◌then◌else◌}
use Rattle.std.specs.declared.option.Option.{Option}
use Rattle.relationships.specs.declared.label.End.{End}
use Rattle.tor_digraph.specs.Walks.{Net}
use Rattle.as_graph.specs.Limits.{most_triples}
use Rattle.as_graph.specs.EdgeSteps.{EdgeStep}
use Rattle.tor_numbers.specs.Slots.{IsInserted}
use Rattle.tor_clauses.specs.declared.triple.Triple.{Triple}
use Rattle.tor_clauses.specs.declared.triple.TriplePlace.{TriplePlace}
use Rattle.tor_clauses.specs.Literals.{Literal, most_edges, negated, node_of, lit_of, opposite_node, Holds}
use Rattle.tor_clauses.specs.Triples.{arc_of, partner_of, arcs_of, is_among, AreAmong, triples_on}
use Rattle.tor_clauses.specs.Formulas.{Formula}

-- the literals of a triple have nodes
abbrev pub HasNodes : Triple → Type 0
HasNodes t = (t.first.edge < most_edges) × (t.second.edge < most_edges)

-- the pair of nodes of the triple or that of its reverse, whichever begins with the lesser node: the same for both
abbrev pub triple_key : Triple → ℕ × ℕ
triple_key t = if nat_lt (node_of (negated t.second)) (node_of t.first) then partner_of t else arc_of t

-- the same of a triple whose literals have these nodes
abbrev pub key_of_arc : ℕ × ℕ → ℕ × ℕ
key_of_arc e = if nat_lt (opposite_node e.1) e.0 then (opposite_node e.1, opposite_node e.0) else e

-- the number of a pair, from 2 on
abbrev pub number_of_pair : ℕ × ℕ → ℕ
number_of_pair pair = pair.0 * 2 ^ 32 + pair.1 + 2

-- each triple is known by the number of the pair that it shares with its reverse
pub record AreTripleKeys (known : List ℕ) (triples : List Triple) : Type 0 where
  pub keys : known ≡ map (λ t. number_of_pair (triple_key t)) triples
  pub nodes : All HasNodes triples
  pub few : length triples ≤ most_triples

-- ---- triples and their arcs

-- distinct triples, and a digraph with the arcs of these
pub record Implications : Type 0 where
  pub triples : List Triple
  pub net : Net ℕ

-- where a triple stands
abbrev pub standing : Triple → TriplePlace
standing t = record { path = t.path; at = t.at }

-- the triple that stands here and has this arc
abbrev pub triple_with : TriplePlace → ℕ × ℕ → Triple
triple_with place arc = record { path = place.path; at = place.at; first = lit_of arc.0; second = lit_of arc.1 }

-- the triples that stand at these places, of whose two arcs each the first leads from the first literal to the second
abbrev pub triples_at : List TriplePlace → List (ℕ × ℕ) → List Triple
triples_at [] arcs = []
triples_at (place ∷ places) [] = []
triples_at (place ∷ places) (arc ∷ []) = []
triples_at (place ∷ places) (arc ∷ partner ∷ arcs) = triple_with place arc ∷ triples_at places arcs

-- the arcs are those of the triples, which are known by their numbers
pub record AreStanding (known : List ℕ) (places : List TriplePlace) (arcs : List (ℕ × ℕ)) : Type 0 where
  pub many : length arcs ≡ length places * 2
  pub of_triples : arcs ≡ flat_map arcs_of (triples_at places arcs)
  pub keys : AreTripleKeys known (triples_at places arcs)

-- so for some numbers, which a set has if there is one
pub record AreListed (set : Option (List ℕ)) (places : List TriplePlace) (arcs : List (ℕ × ℕ)) : Type 0 where
  pub known : List ℕ
  pub standing : AreStanding known places arcs
  pub has : IfSome set (λ numbers. numbers ≡ known)

-- the arc is one of these
abbrev pub HasArc : List (ℕ × ℕ) → ℕ × ℕ → Type 0
HasArc arcs arc = (k : ℕ) × (slice_get arcs k ≡ Some arc)

-- the number of a triple with this arc is added to the numbers that are known, which a set has if there is one; or the triple or its
-- reverse is there, and nothing changes
abbrev pub IsNoted : List (ℕ × ℕ) → ℕ × ℕ → Option (List ℕ) → Option (List ℕ) → Bool → Type 0
IsNoted arcs arc old new is_new = (known : List ℕ) (places : List TriplePlace) (t : Triple) → AreStanding known places arcs →
    IfSome old (λ numbers. numbers ≡ known) → HasNodes t → arc ≡ arc_of t →
    (more : List ℕ) × IsInserted (number_of_pair (triple_key t)) known more is_new × IfSome new (λ numbers. numbers ≡ more)

-- these triples and their arcs, over the nodes that are there
abbrev pub implying : Implications → List Triple → Implications
implying old ts = record { triples = ts; net = record old.net { arcs = flat_map arcs_of ts } }

-- ---- one more triple

-- the triples with one more, which goes last unless it is there
abbrev pub with_triple : List Triple → Triple → List Triple
with_triple ts t = if is_among ts t then ts else ts ++ t ∷ []

-- the triples with all of these
abbrev pub with_triples : List Triple → List Triple → List Triple
with_triples ts [] = ts
with_triples ts (t ∷ more) = with_triples (with_triple ts t) more

-- the formula with these triples and their arcs
abbrev pub having : Formula → List Triple → Formula
having f ts = record f { triples = ts; net = record f.net { arcs = flat_map arcs_of ts } }

-- the net with an arc more, from one literal to another
abbrev pub with_arc : Net ℕ → Literal → Literal → Net ℕ
with_arc net tail head = record net { arcs = net.arcs ++ (node_of tail, node_of head) ∷ [] }

-- ---- adding a path

-- the literal of a step, that the AS from which it goes is over the one that it reaches
abbrev pub lit_at : EdgeStep → Literal
lit_at s = record { edge = s.edge; over = s.left }

-- the triple of two steps that follow each other, whose middle AS stands at this place of the path
abbrev pub triple_by : ℕ → ℕ → EdgeStep → EdgeStep → Triple
triple_by path at s t = record { path = path; at = at; first = lit_at s; second = lit_at t }

-- whether a triple of these two steps is there, or its reverse, wherever it stands
abbrev pub is_there : List Triple → EdgeStep → EdgeStep → Bool
is_there ts s t = is_among ts (triple_by 0 0 s t)

-- so of all two steps that follow each other, where the second step is behind the first ones, so many, and before this place
abbrev pub AreKnownOn : List Triple → List EdgeStep → ℕ → ℕ → Type 0
AreKnownOn ts steps from to = (k : ℕ) (s t : EdgeStep) → from ≤ k + 1 → k + 1 < to → slice_get steps k ≡ Some s →
    slice_get steps (k + 1) ≡ Some t → is_there ts s t ≡ true

-- no triple of the step at this place and the one before it is there, nor its reverse
abbrev pub IsNewAt : List Triple → List EdgeStep → ℕ → Type 0
IsNewAt ts steps place = (k : ℕ) (s t : EdgeStep) → k + 1 ≡ place → slice_get steps k ≡ Some s → slice_get steps (k + 1) ≡ Some t →
    is_there ts s t ≡ false

-- the triple at this place of the path's, from 0, is new: it is not among these, and those before it are
pub record IsFirstNew (graph : List (List ℕ)) (path : ℕ) (ts : List Triple) (place : ℕ) : Type 0 where
  pub there : place < length (triples_on graph path)
  pub before : AreAmong ts (take place (triples_on graph path))
  pub new : (t : Triple) → slice_get (triples_on graph path) place ≡ Some t → is_among ts t ≡ false

-- the formula with the triples of a path of the graph
abbrev pub with_triples_on : List (List ℕ) → ℕ → Formula → Formula
with_triples_on graph path f = having f (with_triples f.triples (triples_on graph path))

-- with however many of the first triples of the path, there is a number for one more
abbrev pub IsRoomy : List (List ℕ) → ℕ → List Triple → Type 0
IsRoomy graph path ts = (k : ℕ) → length (with_triples ts (take k (triples_on graph path))) < most_triples

-- the second formula has all of the first at its prefix
abbrev pub IsFirst : Formula → Formula → Type 0
IsFirst f g = (length f.triples ≤ length g.triples) × (g ≡ having f g.triples) × (f.triples ≡ take (length f.triples) g.triples)

-- ---- what holds

-- the clause of the triple is satisfied: its second literal holds if its first does
abbrev pub IsSatisfied : List End → Triple → Type 0
IsSatisfied ends t = Holds ends t.first → Holds ends t.second
