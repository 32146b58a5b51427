-- Values of graphs, clauses, numbers, preferences, marks and ties that were worked by hand, by the definitions that public calls promise.
use Rattle.std.proofs.Common.{◌≡◌, ℕ, ◌+◌, ◌==◌, ◌&&◌, ◌⊎◌, true, false, Bool, List, [], ◌∷◌, ◌++◌, Some, None, All, length, map, take, refl, sym, subst, lit<, inl, inr, arith}
use Rattle.std.specs.Prelude.{slice_set, pos, negsuc, if◌then◌else◌}
use Rattle.std.specs.List.{list_any, position_or_len}
use Rattle.std.proofs.lemmas.Bool.{false≢true}
use Rattle.std.proofs.lemmas.Option.{same_Some}
use Rattle.std.proofs.lemmas.List.Elements.{All-nil, All-from_recursion}
use Rattle.relationships.specs.declared.label.End.{End}
use Rattle.relationships.specs.declared.label.Label.{Label}
use Rattle.relationships.specs.declared.given.Given.{Given}
use Rattle.relationships.specs.declared.walk.Link.{Link}
use Rattle.relationships.specs.declared.walk.Walk.{Walk}
use Rattle.relationships.specs.Relationship.{Orientation, Labelling, Up, Down, Flat, is_over, slope, slopes, labels_of, opposite, ValleyFree, Serves}
use Rattle.relationships.specs.Graph.{Edge, edge_of, is_same, edges, degree, labelling}
use Rattle.relationships.specs.Givens.{returns}
use Rattle.relationships.specs.Preference.{lean, lead, wanted, place}
use Rattle.relationships.specs.Selection.{Keeps, IsForced}
use Rattle.relationships.specs.declared.mark.Mark.{Mark}
use Rattle.relationships.specs.Evidence.{Numbered, IsLinked, Refutes, Closure, start}
use Rattle.relationships.specs.Checking.{Claim, IsBorneOut, MarksHold}
use Rattle.relationships.proofs.Closures.{consistency_law}
use Rattle.relationships.proofs.Checked.{keeping_law}
use Rattle.relationships.proofs.Deciding.{EachTriple, goes_on, Closure-within, each_split}
use Rattle.tor_numbers.specs.EdgeNumbers.{number_of_edge, edge_numbered}
use Rattle.tor_numbers.specs.Edges.{edge_at}
use Rattle.tor_digraph.specs.Walks.{Reaches, here, along}
use Rattle.tor_digraph.specs.Leaving.{arcs_below}
use Rattle.tor_digraph.proofs.Vectors.{small, arc_cases}
use Rattle.as_graph.specs.declared.step.Step.{Step}
use Rattle.as_graph.specs.Paths.{path_at, paths_at, is_edge}
use Rattle.as_graph.specs.Steps.{AreSteps}
use Rattle.tor_clauses.specs.declared.triple.Triple.{Triple}
use Rattle.tor_clauses.specs.Literals.{Literal, negated, node_of, lit_of}
use Rattle.tor_clauses.specs.Triples.{triples_on, triples_of, is_among, AreAmong}
use Rattle.tor_clauses.specs.Tables.{IsFirstNew}
use Rattle.ties.specs.declared.tie.Side.{Side}
use Rattle.ties.specs.declared.tie.Tie.{Tie}
use Rattle.ties.specs.Tied.{IsTied, Begins, Joins, AreTies, open_from}

-- ---- edges, and where each is found either way round, pairs that are none, and degrees

abbrev places : List (List ℕ) → List Edge → List ℕ
places paths pairs = map (λ (e : Edge). position_or_len (is_same (edge_of e.0 e.1)) (edges paths)) pairs

abbrev are_edges : List (List ℕ) → List Edge → List Bool
are_edges paths pairs = map (λ (e : Edge). is_edge paths e.0 e.1) pairs

abbrev three : List (List ℕ)
three = (30 ∷ 40 ∷ 20 ∷ 10 ∷ 50 ∷ 60 ∷ []) ∷ (10 ∷ 20 ∷ 30 ∷ 40 ∷ []) ∷ (50 ∷ 60 ∷ 10 ∷ 20 ∷ []) ∷ []

three_edges : edges three ≡ (30, 40) ∷ (20, 40) ∷ (10, 20) ∷ (10, 50) ∷ (50, 60) ∷ (20, 30) ∷ (10, 60) ∷ []
three_edges = refl

three_upwards : places three ((30, 40) ∷ (20, 40) ∷ (10, 20) ∷ (10, 50) ∷ (50, 60) ∷ (20, 30) ∷ (10, 60) ∷ []) ≡ 0 ∷ 1 ∷ 2 ∷ 3 ∷ 4 ∷ 5 ∷ 6 ∷ []
three_upwards = refl

three_downwards : places three ((40, 30) ∷ (40, 20) ∷ (20, 10) ∷ (50, 10) ∷ (60, 50) ∷ (30, 20) ∷ (60, 10) ∷ []) ≡ 0 ∷ 1 ∷ 2 ∷ 3 ∷ 4 ∷ 5 ∷ 6 ∷ []
three_downwards = refl

three_others : are_edges three ((30, 60) ∷ []) ≡ false ∷ []
three_others = refl

three_degrees : map (degree three) (10 ∷ 20 ∷ 30 ∷ 40 ∷ 50 ∷ 60 ∷ 70 ∷ []) ≡ 3 ∷ 3 ∷ 2 ∷ 2 ∷ 2 ∷ 2 ∷ 0 ∷ []
three_degrees = refl

-- the least and the greatest numbers
abbrev outermost : List (List ℕ)
outermost = (4294967295 ∷ 4294967294 ∷ 0 ∷ 1 ∷ []) ∷ []

outermost_edges : edges outermost ≡ (4294967294, 4294967295) ∷ (0, 4294967294) ∷ (0, 1) ∷ []
outermost_edges = refl

outermost_upwards : places outermost ((4294967294, 4294967295) ∷ (0, 4294967294) ∷ (0, 1) ∷ []) ≡ 0 ∷ 1 ∷ 2 ∷ []
outermost_upwards = refl

outermost_downwards : places outermost ((4294967295, 4294967294) ∷ (4294967294, 0) ∷ (1, 0) ∷ []) ≡ 0 ∷ 1 ∷ 2 ∷ []
outermost_downwards = refl

outermost_others : are_edges outermost ((0, 0) ∷ (1, 1) ∷ (0, 4294967295) ∷ (1, 4294967294) ∷ (4294967295, 4294967295) ∷ []) ≡
    false ∷ false ∷ false ∷ false ∷ false ∷ []
outermost_others = refl

outermost_degrees : map (degree outermost) (4294967294 ∷ 1 ∷ []) ≡ 2 ∷ 1 ∷ []
outermost_degrees = refl

-- ---- two paths, and behind these the returns of two of four givens: the other two name no edge

abbrev two : List (List ℕ)
two = (10 ∷ 20 ∷ 30 ∷ []) ∷ (40 ∷ 20 ∷ 30 ∷ []) ∷ []

abbrev given : ℕ → ℕ → Given
given over under = record { over = over; under = under }

abbrev givens : List Given
givens = given 10 20 ∷ given 40 30 ∷ given 30 20 ∷ given 7 9 ∷ []

abbrev with_returns : List (List ℕ)
with_returns = two ++ returns two givens

abbrev two_edges : List Edge
two_edges = (10, 20) ∷ (20, 30) ∷ (20, 40) ∷ []

edges_of_two : edges two ≡ two_edges
edges_of_two = refl

two_upwards : places two two_edges ≡ 0 ∷ 1 ∷ 2 ∷ []
two_upwards = refl

two_downwards : places two ((20, 10) ∷ (30, 20) ∷ (40, 20) ∷ []) ≡ 0 ∷ 1 ∷ 2 ∷ []
two_downwards = refl

two_others : are_edges two ((40, 30) ∷ (7, 9) ∷ []) ≡ false ∷ false ∷ []
two_others = refl

two_degrees : map (degree two) (10 ∷ 20 ∷ 30 ∷ 40 ∷ 7 ∷ 9 ∷ []) ≡ 1 ∷ 3 ∷ 1 ∷ 1 ∷ 0 ∷ 0 ∷ []
two_degrees = refl

-- a return adds no edge and counts in no degree
returns_behind : with_returns ≡ (10 ∷ 20 ∷ 30 ∷ []) ∷ (40 ∷ 20 ∷ 30 ∷ []) ∷ (20 ∷ 10 ∷ 20 ∷ []) ∷ (20 ∷ 30 ∷ 20 ∷ []) ∷ []
returns_behind = refl

edges_with_returns : edges with_returns ≡ two_edges
edges_with_returns = refl

upwards_with_returns : places with_returns two_edges ≡ 0 ∷ 1 ∷ 2 ∷ []
upwards_with_returns = refl

downwards_with_returns : places with_returns ((20, 10) ∷ (30, 20) ∷ (40, 20) ∷ []) ≡ 0 ∷ 1 ∷ 2 ∷ []
downwards_with_returns = refl

others_with_returns : are_edges with_returns ((40, 30) ∷ (7, 9) ∷ []) ≡ false ∷ false ∷ []
others_with_returns = refl

degrees_with_returns : map (degree with_returns) (10 ∷ 20 ∷ 30 ∷ 40 ∷ 7 ∷ 9 ∷ []) ≡ 1 ∷ 3 ∷ 1 ∷ 1 ∷ 0 ∷ 0 ∷ []
degrees_with_returns = refl

abbrev step : ℕ → End → Step
step edge left = record { edge = edge; left = left }

steps_of_first : AreSteps two_edges (path_at with_returns 0) (step 0 End.Low ∷ step 1 End.Low ∷ [])
steps_of_first = ((refl, refl), ((refl, refl), tt))

steps_of_second : AreSteps two_edges (path_at with_returns 1) (step 2 End.High ∷ step 1 End.Low ∷ [])
steps_of_second = ((refl, refl), ((refl, refl), tt))

steps_of_first_return : AreSteps two_edges (path_at with_returns 2) (step 0 End.High ∷ step 0 End.Low ∷ [])
steps_of_first_return = ((refl, refl), ((refl, refl), tt))

steps_of_second_return : AreSteps two_edges (path_at with_returns 3) (step 1 End.Low ∷ step 1 End.High ∷ [])
steps_of_second_return = ((refl, refl), ((refl, refl), tt))

-- ---- labels and ends that are set

label_set : slice_set (Label.High ∷ Label.Peer ∷ []) 1 Label.High ≡ Label.High ∷ Label.High ∷ []
label_set = refl

end_set : slice_set (End.Low ∷ End.Low ∷ []) 1 End.High ≡ End.Low ∷ End.High ∷ []
end_set = refl

-- ---- whether a path is valley-free, by its slopes: two edges that are labelled, and that have providers

abbrev up_path : List ℕ
up_path = 10 ∷ 20 ∷ 30 ∷ []

abbrev two_labels : Label → Label → Labelling
two_labels first second = labelling ((10, 20) ∷ (20, 30) ∷ []) (first ∷ second ∷ [])

-- two peerings, one behind a step up, two steps up, and a valley
two_peerings : slopes (two_labels Label.Peer Label.Peer) up_path ≡ Flat ∷ Flat ∷ []
unfolding slope is_over
two_peerings = refl

up_and_across : ValleyFree (two_labels Label.High Label.Peer) up_path
unfolding slope is_over
up_and_across = (1, 0, inr refl)

up_and_up : ValleyFree (two_labels Label.High Label.High) up_path
unfolding slope is_over
up_and_up = (2, 0, inl refl)

a_valley : slopes (two_labels Label.Low Label.High) up_path ≡ Down ∷ Up ∷ []
unfolding slope is_over
a_valley = refl

-- ---- numbers of edges

number_of_an_edge : number_of_edge (7, 9) ≡ 0x7_0000_0004
number_of_an_edge = refl

an_edge_back : edge_numbered 0x7_0000_0004 ≡ (7, 9)
an_edge_back = refl

greatest_number : number_of_edge (4294967295, 4294967295) ≡ 0xffff_ffff_0000_0002
greatest_number = refl

greatest_back : edge_numbered 0xffff_ffff_0000_0002 ≡ (4294967295, 4294967295)
greatest_back = refl

-- ---- literals and their nodes

abbrev lit : ℕ → End → Literal
lit edge end = record { edge = edge; over = end }

nodes_of_an_edge : map node_of (lit 2 End.Low ∷ lit 2 End.High ∷ []) ≡ 4 ∷ 5 ∷ []
nodes_of_an_edge = refl

literals_back : map lit_of (4 ∷ 5 ∷ []) ≡ lit 2 End.Low ∷ lit 2 End.High ∷ []
literals_back = refl

opposites : map negated (lit 2 End.Low ∷ lit 2 End.High ∷ []) ≡ lit 2 End.High ∷ lit 2 End.Low ∷ []
opposites = refl

-- ---- the first new triple of a path

-- there and back, and one step on
abbrev longer : List (List ℕ)
longer = (10 ∷ 20 ∷ 30 ∷ []) ∷ (30 ∷ 20 ∷ 10 ∷ []) ∷ (10 ∷ 20 ∷ 30 ∷ 40 ∷ []) ∷ []

abbrev of_first : List Triple
of_first = triples_of longer (0 ∷ [])

none_on_second : AreAmong of_first (triples_on longer 1)
none_on_second = All-from_recursion (λ t. is_among of_first t ≡ true) (triples_on longer 1) (refl, tt)

second_on_third : IsFirstNew longer 2 (triples_of longer (0 ∷ 1 ∷ [])) 1
second_on_third = record {
  there = lit< tt;
  before = All-from_recursion (λ t. is_among of_first t ≡ true) (take 1 (triples_on longer 2)) (refl, tt);
  new = λ t e. subst (λ (t : Triple). is_among of_first t ≡ false) (same_Some _ t e) refl;
}

triples_of_all : length (triples_of longer (0 ∷ 1 ∷ 2 ∷ [])) ≡ 2
triples_of_all = refl

-- those that are left when a third path is taken away again
abbrev on : List (List ℕ)
on = (10 ∷ 20 ∷ 30 ∷ []) ∷ (30 ∷ 20 ∷ 10 ∷ []) ∷ (20 ∷ 30 ∷ 40 ∷ []) ∷ []

left_again : take 1 (triples_of on (0 ∷ 1 ∷ 2 ∷ [])) ≡ record { path = 0; at = 2; first = lit 0 End.Low; second = lit 1 End.Low } ∷ []
left_again = refl

before_that : triples_of on (0 ∷ 1 ∷ []) ≡ record { path = 0; at = 2; first = lit 0 End.Low; second = lit 1 End.Low } ∷ []
before_that = refl

-- ---- where the triples of kept paths stand

abbrev link : ℕ → ℕ → Link
link path at = record { path = path; at = at }

abbrev links_of : List (List ℕ) → List ℕ → List Link
links_of paths kept = map (λ (t : Triple). link (t.path + 1) t.at) (triples_of paths kept)

-- the last two of five are lost
links_of_five : links_of ((30 ∷ 40 ∷ 20 ∷ 10 ∷ 50 ∷ 60 ∷ []) ∷ (10 ∷ 20 ∷ 30 ∷ 40 ∷ []) ∷ (40 ∷ 20 ∷ 10 ∷ 60 ∷ []) ∷ (10 ∷ 60 ∷ 50 ∷ []) ∷
    (20 ∷ 10 ∷ 60 ∷ 50 ∷ []) ∷ []) (0 ∷ 1 ∷ 2 ∷ []) ≡ link 1 2 ∷ link 1 3 ∷ link 1 4 ∷ link 1 5 ∷ link 2 2 ∷ link 2 3 ∷ link 3 3 ∷ []
links_of_five = refl

-- a path and its reverse
links_there_and_back : links_of ((10 ∷ 20 ∷ 30 ∷ []) ∷ (40 ∷ 50 ∷ 60 ∷ []) ∷ (30 ∷ 20 ∷ 10 ∷ []) ∷ []) (0 ∷ 1 ∷ 2 ∷ []) ≡ link 1 2 ∷ link 2 2 ∷ []
links_there_and_back = refl

-- the third of four is lost, and its triples with it
links_of_four : links_of ((30 ∷ 40 ∷ 20 ∷ 10 ∷ 50 ∷ 60 ∷ []) ∷ (10 ∷ 20 ∷ 30 ∷ 40 ∷ []) ∷ (50 ∷ 60 ∷ 10 ∷ 20 ∷ []) ∷ (60 ∷ 10 ∷ []) ∷ [])
    (0 ∷ 1 ∷ 3 ∷ []) ≡ link 1 2 ∷ link 1 3 ∷ link 1 4 ∷ link 1 5 ∷ link 2 2 ∷ link 2 3 ∷ []
links_of_four = refl

-- ---- what six paths of a dump as it might be prefer, of which the last is lost

abbrev six : List (List ℕ)
six = (6939 ∷ 174 ∷ 3356 ∷ 1299 ∷ 8220 ∷ 3333 ∷ []) ∷ (397213 ∷ 1299 ∷ 8220 ∷ 3333 ∷ []) ∷ (6939 ∷ 3356 ∷ 2906 ∷ []) ∷
    (397213 ∷ 1299 ∷ 3356 ∷ 2906 ∷ []) ∷ (8220 ∷ 1299 ∷ 3356 ∷ 6939 ∷ 174 ∷ []) ∷ (8220 ∷ 3333 ∷ 1299 ∷ 3356 ∷ []) ∷ []

abbrev five_kept : List (List ℕ)
five_kept = paths_at six (0 ∷ 1 ∷ 2 ∷ 3 ∷ 4 ∷ [])

-- their edges in settling order, by their places
abbrev settled : List Edge
settled = map (edge_at (edges six)) (3 ∷ 4 ∷ 5 ∷ 6 ∷ 7 ∷ 1 ∷ 2 ∷ 0 ∷ 8 ∷ [])

their_leans : map (lean (degree six) five_kept) settled ≡ pos 3 ∷ negsuc 1 ∷ pos 2 ∷ pos 2 ∷ negsuc 1 ∷ negsuc 0 ∷ pos 1 ∷ pos 0 ∷ pos 0 ∷ []
their_leans = refl

their_wishes : map (wanted (degree six) five_kept) settled ≡
    End.Low ∷ End.High ∷ End.Low ∷ End.Low ∷ End.High ∷ End.High ∷ End.Low ∷ End.Low ∷ End.Low ∷ []
their_wishes = refl

-- leads fall, and where they are equal, places rise
their_leads : map (lead (degree six) five_kept) settled ≡ 3 ∷ 2 ∷ 2 ∷ 2 ∷ 2 ∷ 1 ∷ 1 ∷ 0 ∷ 0 ∷ []
their_leads = refl

their_places : map (place (edges six)) settled ≡ 3 ∷ 4 ∷ 5 ∷ 6 ∷ 7 ∷ 1 ∷ 2 ∷ 0 ∷ 8 ∷ []
their_places = refl

all_settled : length (edges six) ≡ 9
all_settled = refl

-- ---- what the edges of three paths prefer, where the first two are kept, in settling order, by their places

abbrev two_of_three : List (List ℕ)
two_of_three = paths_at three (0 ∷ 1 ∷ [])

abbrev settled_of_three : List Edge
settled_of_three = map (edge_at (edges three)) (1 ∷ 3 ∷ 4 ∷ 5 ∷ 0 ∷ 2 ∷ 6 ∷ [])

leans_of_three : map (lean (degree three) two_of_three) settled_of_three ≡ pos 1 ∷ pos 1 ∷ pos 1 ∷ pos 1 ∷ pos 0 ∷ pos 0 ∷ pos 0 ∷ []
leans_of_three = refl

wishes_of_three : map (wanted (degree three) two_of_three) settled_of_three ≡
    End.Low ∷ End.Low ∷ End.Low ∷ End.Low ∷ End.Low ∷ End.Low ∷ End.Low ∷ []
wishes_of_three = refl

-- ---- what is reached in a small digraph, of nodes 0 to 3 and arcs from 0 to 1, 1 to 2, 2 to 1 and 0 to 3

-- from 0 all four nodes
all_from_0 : Reaches small.arcs 0 0 × Reaches small.arcs 0 1 × Reaches small.arcs 0 2 × Reaches small.arcs 0 3
all_from_0 = (here, along here (0, refl), along (along here (0, refl)) (1, refl), along here (3, refl))

from_1_to_2 : Reaches small.arcs 1 2
from_1_to_2 = along here (1, refl)

from_1_to_1 : Reaches small.arcs 1 1
from_1_to_1 = here

-- from 3 itself alone, and so from 1 and 3 three nodes
from_3 : {x : ℕ} → Reaches small.arcs 3 x → x ≡ 3
from_3 here = refl
from_3 (along {b} {c} w arc) = elim (arc_cases arc.0 b c arc.1) [
  | inl p ↦ (let q = from_3 w in absurd (omega arith))
  | inr r ↦ elim r [
    | inl p ↦ (let q = from_3 w in absurd (omega arith))
    | inr r ↦ elim r [
      | inl p ↦ (let q = from_3 w in absurd (omega arith))
      | inr p ↦ (let q = from_3 w in absurd (omega arith))
    ]
  ]
]

-- the arcs of 2 in a row, and of 3, which has none
row_of_2 : arcs_below (λ n. n) small.arcs 2 4 ≡ (2, 1) ∷ []
row_of_2 = refl

row_of_3 : arcs_below (λ n. n) small.arcs 3 4 ≡ []
row_of_3 = refl

-- ---- where no path is kept

serves_nothing : (O : Orientation) → Serves O []
serves_nothing O = All-nil (ValleyFree (labels_of O))

abbrev always : End → Orientation
always end low high = end

low_is_not_high : End.Low ≡ End.High → ⊥
low_is_not_high e = cc

-- so no edge is forced
none_forced : (low high : ℕ) → IsForced [] low high → ⊥
none_forced low high forced = low_is_not_high (forced (always End.Low) (always End.High) (serves_nothing (always End.Low)) (serves_nothing (always End.High)))

-- and none tied: by one orientation they go with each other, and by one against
abbrev by : Edge → End → End → Orientation
by e end other low high = if is_same e (low, high) then end else other

apart : (e f : Edge) → is_same e e ≡ true → is_same e f ≡ false → IsTied [] e f → ⊥
apart e f same differ (inl tied) =
    let t : by e End.Low End.High f.0 f.1 ≡ by e End.Low End.High e.0 e.1 = tied (by e End.Low End.High) (serves_nothing (by e End.Low End.High)) in
    absurd (opposed e f same differ t)
  where
    opposed : (e f : Edge) → is_same e e ≡ true → is_same e f ≡ false → by e End.Low End.High f.0 f.1 ≡ by e End.Low End.High e.0 e.1 → ⊥
    opposed e f same differ t = low_is_not_high (sym (subst (λ b. (if b then End.Low else End.High) ≡ End.Low) differ (subst (λ b. by e End.Low End.High f.0 f.1 ≡ (if b then End.Low else End.High)) same t)))
apart e f same differ (inr tied) =
    let t : by e End.Low End.Low f.0 f.1 ≡ opposite (by e End.Low End.Low e.0 e.1) = tied (by e End.Low End.Low) (serves_nothing (by e End.Low End.Low)) in
    absurd (opposed e f same differ t)
  where
    opposed : (e f : Edge) → is_same e e ≡ true → is_same e f ≡ false → by e End.Low End.Low f.0 f.1 ≡ opposite (by e End.Low End.Low e.0 e.1) → ⊥
    opposed e f same differ t = low_is_not_high (subst (λ b. (if b then End.Low else End.Low) ≡ End.High) differ (subst (λ b. by e End.Low End.Low f.0 f.1 ≡ opposite (if b then End.Low else End.Low)) same t))

-- an open edge of no kept path has the order against its label for a probe
abbrev its_claims : List Claim
its_claims = record { low = 10; high = 20; label = Label.Low; forced = false } ∷ []

abbrev its_probes : List (ℕ × ℕ)
its_probes = (20, 10) ∷ []

abbrev is_probe : ℕ → ℕ → Bool
is_probe y z = list_any (λ (q : ℕ × ℕ). (q.0 == y) && (q.1 == z)) its_probes

borne_out_by_a_probe : MarksHold [] its_claims [] its_probes
borne_out_by_a_probe = record {
  orders = [];
  shown = tt;
  marks = All-from_recursion (IsBorneOut [] [] its_probes) its_claims
      (inr (inr (refl, (20, 10, inl (refl, refl, refl), (0, (20, 10), lit< tt, refl, start)))), tt);
  probes_serve = (
    record {
      consistent = consistency_law [] 20 10
          (λ c. false≢true (Closure-within is_probe [] 20 10 refl (All-nil (EachTriple (λ x y z. goes_on is_probe x y z ≡ true))) c));
      claim = record { low = 10; high = 20; label = Label.Low; forced = false };
      claimed = (0, lit< tt, refl);
      is_open = refl;
      over = 20;
      under = 10;
      other = inl (refl, refl, refl);
      reached = start;
      new = All-nil (λ q. Closure [] q.0 q.1 20 10 → ⊥);
    },
    tt,
  );
}

abbrev ring_edges : List Edge
ring_edges = (10, 20) ∷ (20, 30) ∷ (10, 30) ∷ []

abbrev tie : ℕ → ℕ → Side → Tie
tie edge class side = record { edge = edge; class = class; side = side }

abbrev ring_ties : List Tie
ring_ties = tie 0 1 Side.With ∷ tie 1 2 Side.With ∷ tie 2 3 Side.With ∷ []

abbrev IsPlaced : List Tie → Tie → List Tie → Type 0
IsPlaced before t after = Begins [] ring_edges before t ⊎ Joins [] ring_edges before t

abbrev ApartFrom : Edge → Tie → Type 0
ApartFrom e u = IsTied [] (edge_at ring_edges u.edge) e → ⊥

-- each edge of a ring of three is a class by itself
ring_untied : AreTies [] ring_edges (open_from 0 (Mark.Open ∷ Mark.Open ∷ Mark.Open ∷ [])) ring_ties
ring_untied = record {
  each = refl;
  placed = λ before t after e. each_split IsPlaced [] ring_ties before t after (
    inl (record { apart = All-nil (ApartFrom (10, 20)); next = refl; side = refl }),
    (
      inl (record {
        apart = All-from_recursion (ApartFrom (20, 30)) (tie 0 1 Side.With ∷ []) (apart (10, 20) (20, 30) refl refl, tt);
        next = refl;
        side = refl;
      }),
      (
        inl (record {
          apart = All-from_recursion (ApartFrom (10, 30)) (tie 0 1 Side.With ∷ tie 1 2 Side.With ∷ [])
              (apart (10, 20) (10, 30) refl refl, (apart (20, 30) (10, 30) refl refl, tt));
          next = refl;
          side = refl;
        }),
        tt,
      ),
    ),
  ) e;
}

-- ---- the returns of two givens, offered behind the paths and not in front of them: then the last one is lost, and no path

abbrev front_labels : Labelling
front_labels = labelling two_edges (Label.Low ∷ Label.Low ∷ Label.Low ∷ [])

abbrev front_kept : List (List ℕ)
front_kept = (10 ∷ 20 ∷ 30 ∷ []) ∷ (40 ∷ 20 ∷ 30 ∷ []) ∷ (20 ∷ 10 ∷ 20 ∷ []) ∷ []

front_free : All (ValleyFree front_labels) front_kept
unfolding slope is_over
front_free = All-from_recursion (ValleyFree front_labels) front_kept ((0, 2, inl refl), ((1, 1, inl refl), ((1, 1, inl refl), tt)))

abbrev front_numbered : Numbered
front_numbered = (1, 10 ∷ 20 ∷ 30 ∷ []) ∷ (2, 40 ∷ 20 ∷ 30 ∷ []) ∷ (3, 20 ∷ 10 ∷ 20 ∷ []) ∷ (4, 20 ∷ 30 ∷ 20 ∷ []) ∷ []

abbrev front_walk : Walk
front_walk = record { ases = 20 ∷ 30 ∷ 20 ∷ 10 ∷ 20 ∷ 30 ∷ []; links = link 4 2 ∷ link 1 2 ∷ link 3 2 ∷ link 1 2 ∷ [] }

front_linked : IsLinked front_numbered front_walk.ases front_walk.links
front_linked = (
  (20 ∷ 30 ∷ 20 ∷ [], (3, lit< tt, refl), inl (record { before = []; after = []; whole = refl; place = refl })),
  (
    (10 ∷ 20 ∷ 30 ∷ [], (0, lit< tt, refl), inr (record { before = []; after = []; whole = refl; place = refl })),
    (
      (20 ∷ 10 ∷ 20 ∷ [], (2, lit< tt, refl), inl (record { before = []; after = []; whole = refl; place = refl })),
      ((10 ∷ 20 ∷ 30 ∷ [], (0, lit< tt, refl), inl (record { before = []; after = []; whole = refl; place = refl })), tt),
    ),
  ),
)

front_refuted : Refutes front_numbered front_walk
front_refuted = record {
  x = 20;
  y = 30;
  two = λ e. omega arith;
  walk = front_linked;
  begins = (20 ∷ 10 ∷ 20 ∷ 30 ∷ [], refl);
  flips = (20 ∷ [], 10 ∷ 20 ∷ 30 ∷ [], refl);
  ends = (20 ∷ 30 ∷ 20 ∷ 10 ∷ [], refl);
}

kept_in_front : Keeps with_returns (true ∷ true ∷ true ∷ false ∷ [])
kept_in_front = keeping_law front_labels with_returns (None ∷ None ∷ None ∷ Some front_walk ∷ []) (front_refuted, tt) front_free
