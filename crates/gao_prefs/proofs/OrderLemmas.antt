-- The sorted preferences are those of all edges, in the order of settling.
use Rattle.std.proofs.Common.{◌≡◌, ◌≢◌, ◌↔◌, ℕ, ◌<◌, ◌≤◌, ◌⊎◌, inl, inr, List, length, get_or, map, sym, ap, ap₂, ◌∙◌, subst, arith, All, Contains, Some, slice_get, nat_eq}
use Rattle.std.specs.Prelude.{pos}
use Rattle.std.specs.Int.RustNames.{unsigned_abs}
use Rattle.std.specs.List.{AllPairs, flat_map}
use Rattle.std.specs.List.Sorted.{IsPermutation}
use Rattle.std.proofs.lemmas.Bool.{false_from_ne_true, ne_eqb, cases_eq}
use Rattle.std.proofs.lemmas.Bool.Decides.{Decides-eqb}
use Rattle.std.proofs.lemmas.Option.{slice_get-get_or}
use Rattle.std.proofs.lemmas.List.{length-map, get_or-map, get_or_default}
use Rattle.std.proofs.lemmas.List.Elements.{All-from_get_or}
use Rattle.std.proofs.lemmas.List.Sums.{position_or_len_is}
use Rattle.std.proofs.lemmas.List.Sorted.{IsPermutation-map, All-permutation, Contains-permutation, length_permutation}
use Rattle.std.proofs.lemmas.Map.Keys.{IsDistinct-from_apart, IsDistinct-IsPermutation}
use Rattle.std.proofs.lemmas.Map.Made.{AllPairs-from_IsDistinct}
use Rattle.tor_arena.proofs.Gets.{Contains-map}
use Rattle.tor_arena.specs.Distinct.{AllDistinct}
use Rattle.relationships.specs.declared.label.End.{End}
use Rattle.relationships.specs.Graph.{Edge, is_same, edges_on, edges, degree}
use Rattle.relationships.specs.Preference.{votes, lean, lead, wanted, place, IsSettlingOrder}
use Rattle.relationships.proofs.Edges.{same_edge}
use Rattle.as_graph.specs.Paths.{paths_at}
use Rattle.as_graph.proofs.Labelled.{NoneTwice, NoneTwice-distinct, same_itself}
use Rattle.gao_prefs.specs.declared.per_end.PerEnd.{PerEnd}
use Rattle.gao_prefs.specs.declared.preferring.Pref.{Pref}
use Rattle.gao_prefs.specs.Ends.{degrees_of, votes_of}
use Rattle.gao_prefs.specs.Preferences.{edge_preferred, edges_preferred, lean_by, wanted_by, AreSettled, IsPref, NotAfter}
use Rattle.gao_prefs.proofs.VoteLemmas.{one_place}
use Rattle.gao_prefs.proofs.PrefLemmas.{lead_abs}

-- an edge stands at one place
place_of : (es : List Edge) (k : ℕ) → NoneTwice es → k < length es → place es (get_or es k (0, 0)) ≡ k
place_of es k once lt =
    position_or_len_is (is_same e) es k (0, 0) (omega (arith, lt))
    (λ j j_lt. false_from_ne_true (is_same e (get_or es j (0, 0))) (λ t.
    let there : slice_get es j ≡ Some e = slice_get-get_or es j (0, 0) (omega (arith, lt, j_lt)) ∙ ap Some (sym (same_edge e (get_or es j (0, 0)) t)) in
    let same : j ≡ k = one_place es j k e once there (slice_get-get_or es k (0, 0) lt) in omega (arith, same, j_lt)))
    (λ _. same_itself e)
  where
    e : Edge
    e = get_or es k (0, 0)

abbrev any_pref : Pref
any_pref = record { edge = 0; lean = pos 0; wanted = End.Low }

-- what is said by the place of an edge, and by its votes and degrees
record IsStated (degree : ℕ → ℕ) (kept : List (List ℕ)) (es : List Edge) (pref : Pref) : Type 0 where
  pub inside : pref.edge < length es
  pub leans : pref.lean ≡ lean degree kept (edge_preferred es pref)
  pub wants : pref.wanted ≡ wanted degree kept (edge_preferred es pref)

module _ (paths kept : List (List ℕ)) (es : List Edge) (once : NoneTwice es) (table numbers : List PerEnd)
    (voted : table ≡ map (votes_of (degree paths) kept) es) (known : numbers ≡ map (degrees_of paths) es)
    (prefs : List Pref) (long : length prefs ≡ length table)
    (each : (k : ℕ) (d : Pref) → k < length prefs → IsPref table numbers k (get_or prefs k d)) where
  as_long : length prefs ≡ length es
  as_long = long ∙ ap length voted ∙ length-map es (votes_of (degree paths) kept)

  stated_at : (k : ℕ) → k < length prefs → IsStated (degree paths) kept es (get_or prefs k any_pref)
  stated_at k lt =
      record {
        inside = let i = is.edge in omega (arith, i, within);
        leans = is.lean ∙ ap lean_by votes_there ∙ ap (λ j. lean (degree paths) kept (get_or es j (0, 0))) (sym is.edge);
        wants = is.wanted ∙ ap₂ wanted_by votes_there degrees_there ∙ ap (λ j. wanted (degree paths) kept (get_or es j (0, 0))) (sym is.edge);
      }
    where
      is : IsPref table numbers k (get_or prefs k any_pref)
      is = each k any_pref lt

      within : k < length es
      within = let n = as_long in omega (arith, n, lt)

      votes_there : get_or table k (record { low = 0; high = 0 }) ≡ votes_of (degree paths) kept (get_or es k (0, 0))
      votes_there = ap (λ (t : List PerEnd). get_or t k (record { low = 0; high = 0 })) voted ∙ get_or-map (votes_of (degree paths) kept) es k (0, 0) (record { low = 0; high = 0 }) within

      degrees_there : get_or numbers k (record { low = 0; high = 0 }) ≡ degrees_of paths (get_or es k (0, 0))
      degrees_there = ap (λ (t : List PerEnd). get_or t k (record { low = 0; high = 0 })) known ∙ get_or-map (degrees_of paths) es k (0, 0) (record { low = 0; high = 0 }) within

  all_stated : All (IsStated (degree paths) kept es) prefs
  all_stated = All-from_get_or (IsStated (degree paths) kept es) prefs any_pref stated_at

  edge_number : (k d : ℕ) → k < length prefs → get_or (map (λ (p : Pref). p.edge) prefs) k d ≡ k
  edge_number k d lt = get_or-map (λ (p : Pref). p.edge) prefs k any_pref d lt ∙ (each k any_pref lt).edge

  module _ (sorted : List Pref) (moved : IsPermutation prefs sorted)
      (falls : (i j : ℕ) (d : Pref) → i ≤ j → j < length sorted → NotAfter (get_or sorted i d) (get_or sorted j d)) where
    count_sorted : length sorted ≡ length es
    count_sorted = length_permutation prefs sorted moved ∙ as_long

    stated_sorted : All (IsStated (degree paths) kept es) sorted
    stated_sorted = All-permutation (IsStated (degree paths) kept es) prefs sorted moved all_stated

    apart_sorted : AllDistinct (map (λ (p : Pref). p.edge) sorted)
    apart_sorted =
        let n = length-map prefs (λ (p : Pref). p.edge) in
        AllPairs-from_IsDistinct (λ a b. Decides-eqb a b) (map (λ (p : Pref). p.edge) sorted)
        (IsDistinct-IsPermutation nat_eq flips (map (λ (p : Pref). p.edge) prefs) (map (λ (p : Pref). p.edge) sorted) (IsPermutation-map (λ (p : Pref). p.edge) prefs sorted moved)
        (IsDistinct-from_apart nat_eq (map (λ (p : Pref). p.edge) prefs) (λ i j d lt within.
        let p = edge_number i d (omega (arith, n, lt, within)) in
        let q = edge_number j d (omega (arith, n, within)) in
        ne_eqb (get_or (map (λ (p : Pref). p.edge) prefs) i d) (get_or (map (λ (p : Pref). p.edge) prefs) j d) (λ e. absurd (omega (arith, p, q, e, lt))))))
      where
        flips : (x y : ℕ) → nat_eq x y ≡ nat_eq y x
        flips x y = elim (cases_eq x y) [ inl e ↦ ap₂ nat_eq e (sym e) | inr n ↦ ne_eqb x y n ∙ sym (ne_eqb y x (λ e. n (sym e))) ]

    each_edge : (e : Edge) → Contains es e ↔ Contains (edges_preferred es sorted) e
    each_edge e = (forth, back)
      where
        forth : Contains es e → Contains (edges_preferred es sorted) e
        forth (k, lt, is) =
            let n = as_long in
            let within : k < length prefs = omega (arith, n, lt) in
            let p : Pref = get_or prefs k any_pref in
            let there : edge_preferred es p ≡ e = ap (λ j. get_or es j (0, 0)) (each k any_pref within).edge ∙ get_or_default es k (0, 0) e lt ∙ is in
            subst (Contains (edges_preferred es sorted)) there
            (Contains-map (edge_preferred es) sorted p (Contains-permutation prefs sorted p moved (k, within, get_or_default prefs k p any_pref within)))

        back : Contains (edges_preferred es sorted) e → Contains es e
        back (k, lt, is) =
            let n = length-map sorted (edge_preferred es) in
            let within : k < length sorted = omega (arith, n, lt) in
            let p : Pref = get_or sorted k any_pref in
            let stated = stated_sorted k any_pref within in
            (p.edge, stated.inside, get_or_default es p.edge e (0, 0) stated.inside ∙ sym (get_or-map (edge_preferred es) sorted k any_pref e within) ∙ is)

    lead_there : (p : Pref) → IsStated (degree paths) kept es p → unsigned_abs p.lean ≡ lead (degree paths) kept (edge_preferred es p)
    lead_there p stated =
        let e : Edge = edge_preferred es p in ap unsigned_abs stated.leans ∙ lead_abs (votes (degree paths) kept e.0 e.1) (votes (degree paths) kept e.1 e.0)

    abbrev GoesFirst : Edge → Edge → Type 0
    GoesFirst e f =
        (lead (degree paths) kept f < lead (degree paths) kept e) ⊎
        ((lead (degree paths) kept f ≡ lead (degree paths) kept e) × (place es e < place es f))

    goes_first : (p q : Pref) → IsStated (degree paths) kept es p → IsStated (degree paths) kept es q → p.edge ≢ q.edge → NotAfter p q → GoesFirst (edge_preferred es p) (edge_preferred es q)
    goes_first p q stated stated' ne (inl lt) =
        let a = lead_there p stated in
        let b = lead_there q stated' in inl (omega (arith, lt, a, b))
    goes_first p q stated stated' ne (inr (same, le)) =
        let a = place_of es p.edge once stated.inside in
        let b = place_of es q.edge once stated'.inside in
        inr (sym (lead_there q stated') ∙ same ∙ lead_there p stated, omega (arith, le, ne, a, b))

    settling : IsSettlingOrder (lead (degree paths) kept) es (edges_preferred es sorted)
    settling = record { each = each_edge; falling = falling }
      where
        falling : AllPairs GoesFirst (edges_preferred es sorted)
        falling i j d lt within =
            let n = length-map sorted (edge_preferred es) in
            let m = length-map sorted (λ (p : Pref). p.edge) in
            let i_lt : i < length sorted = omega (arith, n, lt, within) in
            let j_lt : j < length sorted = omega (arith, n, within) in
            let p : Pref = get_or sorted i any_pref in
            let q : Pref = get_or sorted j any_pref in
            let ne : p.edge ≢ q.edge = λ e.
            apart_sorted i j 0 lt (omega (arith, m, j_lt))
            (get_or-map (λ (p : Pref). p.edge) sorted i any_pref 0 i_lt ∙ e ∙ sym (get_or-map (λ (p : Pref). p.edge) sorted j any_pref 0 j_lt)) in
            let first = goes_first p q (stated_sorted i any_pref i_lt) (stated_sorted j any_pref j_lt) ne (falls i j any_pref (omega (arith, lt)) j_lt) in
            subst (λ e. GoesFirst e (get_or (edges_preferred es sorted) j d)) (sym (get_or-map (edge_preferred es) sorted i any_pref d i_lt))
            (subst (GoesFirst (edge_preferred es p)) (sym (get_or-map (edge_preferred es) sorted j any_pref d j_lt)) first)

pub settled : (paths : List (List ℕ)) (kept : List ℕ) (table numbers : List PerEnd) (prefs sorted result : List Pref) →
    table ≡ map (votes_of (degree paths) (paths_at paths kept)) (edges paths) → numbers ≡ map (degrees_of paths) (edges paths) → length prefs ≡ length table →
    ((k : ℕ) (d : Pref) → k < length prefs → IsPref table numbers k (get_or prefs k d)) → IsPermutation prefs sorted →
    ((i j : ℕ) (d : Pref) → i ≤ j → j < length sorted → NotAfter (get_or sorted i d) (get_or sorted j d)) → result ≡ sorted →
    AreSettled paths kept result
settled paths kept table numbers prefs sorted result voted known long each moved falls is =
    subst (AreSettled paths kept) (sym is) (record {
      count = count_sorted paths (paths_at paths kept) (edges paths) once table numbers voted known prefs long each sorted moved falls;
      inside = λ k d lt. (stated k d lt).inside;
      apart = apart_sorted paths (paths_at paths kept) (edges paths) once table numbers voted known prefs long each sorted moved falls;
      order = settling paths (paths_at paths kept) (edges paths) once table numbers voted known prefs long each sorted moved falls;
      leans = λ k d lt. (stated k d lt).leans;
      wants = λ k d lt. (stated k d lt).wants;
    })
  where
    once : NoneTwice (edges paths)
    once = NoneTwice-distinct (flat_map edges_on paths)

    stated : All (IsStated (degree paths) (paths_at paths kept) (edges paths)) sorted
    stated = stated_sorted paths (paths_at paths kept) (edges paths) once table numbers voted known prefs long each sorted moved falls
