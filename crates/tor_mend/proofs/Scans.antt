-- A search under way: the arcs of one node after the other are passed.
use Rattle.std.proofs.Common.{◌≡◌, ℕ, ◌+◌, ◌<◌, ◌≤◌, inl, inr, List, Option, Some, None, length, sym, ap, ◌∙◌, subst, arith}
use Rattle.std.specs.Prelude.{slice_get, slice_index_or, IfSome}
use Rattle.std.proofs.lemmas.Option.{get_or_from_slice_get, slice_get_within}
use Rattle.std.proofs.lemmas.Bool.{cases_eq, cases_lt}
use Rattle.relationships.specs.declared.label.End.{End}
use Rattle.tor_digraph.specs.Walks.{IsArc}
use Rattle.tor_digraph.specs.Links.{IsLatest}
use Rattle.tor_arena.proofs.Gets.{slice_get-some}
use Rattle.tor_mend.specs.declared.searching.Stop.{Stop}
use Rattle.tor_digraph.specs.Search.{steps_of}
use Rattle.tor_digraph.specs.Trails.{StandsAt}
use Rattle.tor_digraph.specs.Spreading.{Stays}
use Rattle.tor_mend.specs.Searches.{IsPassed, ArePassed, IsStop, IsStopAt, IsLook}
use Rattle.tor_mend.proofs.Passing.{passed_more, all_passed_more}
use Rattle.tor_clauses.proofs.Ways.{some_same}

pub get_at : {X : Type 0} (xs : List X) (k : ℕ) (d : X) → k < length xs → slice_get xs k ≡ Some (slice_index_or xs k d)
get_at xs k d lt = let s = slice_get-some xs k lt in s.1 ∙ ap Some (sym (get_or_from_slice_get xs k s.0 d s.1))

-- ---- one node

-- the arcs from the node at a place, but for the next and those before it, are passed, and all from the nodes before the place
pub record IsScan (arcs : List (ℕ × ℕ)) (ends : List End) (nodes : List ℕ) (place : ℕ) (next : Option ℕ) : Type 0 where
  pub node : ℕ
  pub here : StandsAt nodes place node
  pub passed : ArePassed arcs ends nodes place
  pub high : ℕ
  pub latest : IsLatest (λ a. a) arcs node high next
  pub behind : (a y : ℕ) → high ≤ a → IsArc arcs a node y → IsPassed ends nodes place y

module _ (arcs : List (ℕ × ℕ)) (ends : List End) where
  pub scan_begun : (nodes : List ℕ) (place x : ℕ) (next : Option ℕ) → StandsAt nodes place x → ArePassed arcs ends nodes place →
      IsLatest (λ a. a) arcs x (length arcs) next → IsScan arcs ends nodes place next
  scan_begun nodes place x next at passed latest = record {
    node = x;
    here = at;
    passed = passed;
    high = length arcs;
    latest = latest;
    behind = λ a y le arc. let lt = slice_get_within arcs a (x, y) arc in absurd (omega (arith, le, lt));
  }

  -- the next arc leaves the node at the place
  pub scan_arc : (nodes : List ℕ) (place a : ℕ) (next : Option ℕ) → next ≡ Some a → IsScan arcs ends nodes place next →
      (l m : ℕ) → IsArc arcs a l m → StandsAt nodes place l
  scan_arc nodes place a next is s l m arc =
      let latest = subst (IsLatest (λ b. b) arcs s.node s.high) is s.latest in
      let there : IsArc arcs a s.node latest.1.0 = latest.1.1 in
      let same : s.node ≡ l = ap (λ (e : ℕ × ℕ). e.0) (some_same (sym there ∙ arc)) in
      s.here ∙ ap Some same

  pub scan_there : (nodes : List ℕ) (place a : ℕ) (next : Option ℕ) → next ≡ Some a → IsScan arcs ends nodes place next → a < length arcs
  scan_there nodes place a next is s =
      let latest = subst (IsLatest (λ b. b) arcs s.node s.high) is s.latest in
      slice_get_within arcs a (s.node, latest.1.0) latest.1.1

  pub scan_next : (old new : List ℕ) (place a : ℕ) (next more : Option ℕ) → next ≡ Some a → IsScan arcs ends old place next → Stays old new →
      ((l m : ℕ) → IsArc arcs a l m → IsPassed ends new place m) → ((u v : ℕ) → IsArc arcs a u v → IsLatest (λ b. b) arcs u a more) →
      IsScan arcs ends new place more
  scan_next old new place a next more is s grown looked later =
      let latest = subst (IsLatest (λ b. b) arcs s.node s.high) is s.latest in
      let head : ℕ = latest.1.0 in
      let there : IsArc arcs a s.node head = latest.1.1 in
      let lt : place < length old = slice_get_within old place s.node s.here in
      record {
        node = s.node;
        here = grown place s.node s.here;
        passed = all_passed_more arcs ends old new place (omega (arith, lt)) grown s.passed;
        high = a;
        latest = later s.node head there;
        behind = λ b y le arc. elim (cases_eq b a) [
          | inl same ↦ looked s.node y (subst (λ k. IsArc arcs k s.node y) same arc)
          | inr other ↦ elim (cases_lt b s.high) [
            | inl low ↦ absurd (latest.2 b y (omega (arith, le, other)) low arc)
            | inr high ↦ passed_more arcs ends old new place lt grown y (s.behind b y high arc)
          ]
        ];
      }

  pub scan_done : (nodes : List ℕ) (place : ℕ) (next : Option ℕ) → next ≡ None → IsScan arcs ends nodes place next → ArePassed arcs ends nodes (place + 1)
  scan_done nodes place next is s k x lt at a y arc =
      let none = subst (IsLatest (λ b. b) arcs s.node s.high) is s.latest in
      elim (cases_eq k place) [
        | inl same ↦ (
            let node : x ≡ s.node = some_same (sym at ∙ ap (slice_get nodes) same ∙ s.here) in
            let from : IsArc arcs a s.node y = subst (λ n. IsArc arcs a n y) node arc in
            subst (λ j. IsPassed ends nodes j y) (sym same)
            (elim (cases_lt a s.high) [
              | inl low ↦ absurd (none a y (omega arith) low from)
              | inr high ↦ s.behind a y high from
            ])
            )
        | inr other ↦ s.passed k x (omega (arith, lt, other)) at a y arc
      ]

  pub scan_smaller : (nodes : List ℕ) (place a : ℕ) (next more : Option ℕ) → next ≡ Some a → IsScan arcs ends nodes place next →
      ((u v : ℕ) → IsArc arcs a u v → IsLatest (λ b. b) arcs u a more) → steps_of (λ b. b) more < steps_of (λ b. b) next
  scan_smaller nodes place a next more is s later =
      let latest = subst (IsLatest (λ b. b) arcs s.node s.high) is s.latest in
      let there : IsArc arcs a s.node latest.1.0 = latest.1.1 in
      let below = later s.node latest.1.0 there in
      subst (λ o. steps_of (λ b. b) more < steps_of (λ b. b) o) (sym is) (less s.node more below)
    where
      less : (u : ℕ) (more : Option ℕ) → IsLatest (λ b. b) arcs u a more → steps_of (λ b. b) more < a + 2
      less u None h = omega arith
      less u (Some b) h = let lt = h.0 in omega (arith, lt)

-- ---- stopping

-- what is known of a node that is visited stops the search there
pub stopped : (arcs : List (ℕ × ℕ)) (known : List (Option ℕ)) (nodes : List ℕ) (x place : ℕ) (stop : Option Stop) → StandsAt nodes place x → IfSome stop (IsStopAt known x place) →
    IfSome stop (IsStop arcs known nodes)
stopped arcs known nodes x place None at h = tt
stopped arcs known nodes x place (Some s) at h = subst (IsStop arcs known nodes) (sym h.0) (x, at, h.1)

pub looked_at : (arcs : List (ℕ × ℕ)) (ends : List End) (known : List (Option ℕ)) (nodes : List ℕ) (k y : ℕ) (stop : Option Stop) → IsPassed ends nodes k y →
    IfSome stop (IsStop arcs known nodes) → IsLook arcs ends known nodes k y stop
looked_at arcs ends known nodes k y None passed h = passed
looked_at arcs ends known nodes k y (Some s) passed h = h
