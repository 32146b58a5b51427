-- The triples and arcs of paths that were worked by hand.
use Rattle.std.proofs.Common.{◌≡◌, ℕ, List, [], ◌∷◌, length, map, flat_map, refl}
use Rattle.relationships.specs.declared.label.End.{End}
use Rattle.tor_clauses.specs.declared.triple.Triple.{Triple}
use Rattle.tor_clauses.specs.Literals.{Literal, opposite_node}
use Rattle.tor_clauses.specs.Triples.{arcs_of, triples_on, triples_of}

-- there and back, and on
abbrev paths : List (List ℕ)
paths = (10 ∷ 20 ∷ 30 ∷ []) ∷ (30 ∷ 20 ∷ 10 ∷ []) ∷ (20 ∷ 30 ∷ 40 ∷ []) ∷ []

abbrev lit : ℕ → End → Literal
lit edge end = record { edge = edge; over = end }

abbrev triple : ℕ → ℕ → Literal → Literal → Triple
triple path at first second = record { path = path; at = at; first = first; second = second }

there : triples_of paths (0 ∷ []) ≡ triple 0 2 (lit 0 End.Low) (lit 1 End.Low) ∷ []
there = refl

back : triples_on paths 1 ≡ triple 1 2 (lit 1 End.High) (lit 0 End.High) ∷ []
back = refl

-- the reverse is the same
there_and_back : triples_of paths (0 ∷ 1 ∷ []) ≡ triple 0 2 (lit 0 End.Low) (lit 1 End.Low) ∷ []
there_and_back = refl

-- named by the first path of the list that has it
back_and_there : triples_of paths (1 ∷ 0 ∷ 1 ∷ []) ≡ triple 1 2 (lit 1 End.High) (lit 0 End.High) ∷ []
back_and_there = refl

and_on : triples_of paths (0 ∷ 1 ∷ 2 ∷ []) ≡ triple 0 2 (lit 0 End.Low) (lit 1 End.Low) ∷ triple 2 2 (lit 1 End.Low) (lit 2 End.Low) ∷ []
and_on = refl

their_arcs : flat_map arcs_of (triples_of paths (0 ∷ 1 ∷ 2 ∷ [])) ≡ (0, 2) ∷ (3, 1) ∷ (2, 4) ∷ (5, 3) ∷ []
their_arcs = refl

opposites : map opposite_node (0 ∷ 1 ∷ 2 ∷ 5 ∷ []) ≡ 1 ∷ 0 ∷ 3 ∷ 4 ∷ []
opposites = refl

-- three paths
abbrev three : List (List ℕ)
three = (30 ∷ 40 ∷ 20 ∷ 10 ∷ 50 ∷ 60 ∷ []) ∷ (10 ∷ 20 ∷ 30 ∷ 40 ∷ []) ∷ (50 ∷ 60 ∷ 10 ∷ 20 ∷ []) ∷ []

first_triples : triples_on three 0 ≡
    triple 0 2 (lit 0 End.Low) (lit 1 End.High) ∷ triple 0 3 (lit 1 End.High) (lit 2 End.High) ∷
    triple 0 4 (lit 2 End.High) (lit 3 End.Low) ∷ triple 0 5 (lit 3 End.Low) (lit 4 End.Low) ∷ []
first_triples = refl

all_triples : length (triples_of three (0 ∷ 1 ∷ 2 ∷ [])) ≡ 8
all_triples = refl
