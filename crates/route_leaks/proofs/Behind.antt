-- What trying a path behind what a result keeps says of it.
use Rattle.std.proofs.Common.{◌≡◌, ◌↔◌, ℕ, zero, suc, ◌+◌, ◌-◌, ◌==◌, ◌<◌, ◌≤◌, inl, inr, false, List, [], ◌∷◌, ◌++◌, length, map, drop}
use Rattle.std.proofs.Common.{is_none, get_or, refl, sym, ap, ap₂, ◌∙◌, subst, arith, append_assoc, All, Contains, lt-ltb, le-ltb, eq-eqb}
use Rattle.std.specs.List.{AllZip}
use Rattle.std.proofs.lemmas.Bool.{cases_Bool, eqb-true, false≢true}
use Rattle.std.proofs.lemmas.List.{length-map, map-append, take-append-drop}
use Rattle.std.proofs.lemmas.List.Elements.{All-contains, All-from_recursion, All-head, All-tail, Contains-append_cases, Contains-append_left, Contains-append_right}
use Rattle.tor_arena.proofs.Gets.{Contains-one}
use Rattle.relationships.specs.declared.fate.Fate.{Fate}
use Rattle.relationships.specs.declared.given.Given.{Given}
use Rattle.relationships.specs.declared.walk.Link.{Link}
use Rattle.relationships.specs.declared.walk.Walk.{Walk}
use Rattle.relationships.specs.Relationship.{Orientation}
use Rattle.relationships.specs.Evidence.{Fits, IsLinked, Numbered, Refutes, TripleAt, paths_of}
use Rattle.relationships.specs.Selection.{IsServable}
use Rattle.relationships.specs.Givens.{ServesWith, returns}
use Rattle.relationships.specs.GivenEvidence.{AreReturnRows, FitsGiven, FitsWith, IsLinkedWith, RefutesWith, given_link}
use Rattle.relationships.proofs.GivenLemmas.{given_serving_law, three_on}
use Rattle.as_graph.specs.Paths.{path_at, paths_at}
use Rattle.tor_clauses.specs.Formulas.{numbered}
use Rattle.tor_clauses.proofs.Exacts.{numbered_paths}
use Rattle.path_table.specs.Chains.{row_at}
use Rattle.path_offer.specs.Offers.{IsTried}
use Rattle.path_select.specs.Behind.{places_from}
use Rattle.result_text.specs.declared.file.ResultFile.{ResultFile}
use Rattle.result_rules.specs.File.{its_paths, its_walks, its_kept, its_givens}
use Rattle.result_rules.specs.Rules.{Accepts}
use Rattle.rel_infer.specs.Earlier.{BeginsWithPathsOf}
use Rattle.rel_infer.specs.Resumed.{kept_first}
use Rattle.rel_infer.specs.Returns.{numbers_from}
use Rattle.rel_infer.proofs.Linking.{behind_are, returns_at}
use Rattle.rel_infer.proofs.ReturnRows.{are_rows, numbers_below}
use Rattle.route_leaks.specs.declared.meeting.Sighting.{Sighting}
use Rattle.route_leaks.specs.declared.naming.Naming.{Naming}
use Rattle.route_leaks.specs.Inside.{AreTriedFates, IsTriedFate, fate_named, link_named, renumbered}
use Rattle.route_leaks.specs.Leaks.{AreFatesBehind, IsExplained, IsFateBehind, own_number, row_met}
use Rattle.route_leaks.proofs.Explaining.{elsewhere_law}
use Rattle.route_leaks.proofs.Meetings.{length_taken}

-- ---- links that are named anew

module _ (givens : List Given) (A B : Numbered) (f : Link → Link) (fits : (link : Link) (x y z : ℕ) → Fits A link x y z → FitsWith givens B (f link) x y z) where
  linked_anew : (ases : List ℕ) (links : List Link) → IsLinked A ases links → IsLinkedWith givens B ases (map f links)
  linked_anew [] links h = absurd h
  linked_anew (x ∷ []) links h = absurd h
  linked_anew (x ∷ y ∷ []) [] h = tt
  linked_anew (x ∷ y ∷ []) (link ∷ links) h = absurd h
  linked_anew (x ∷ y ∷ z ∷ ases) [] h = absurd h
  linked_anew (x ∷ y ∷ z ∷ ases) (link ∷ links) h = (fits link x y z h.0, linked_anew (y ∷ z ∷ ases) links h.1)

  pub refutes_anew : (w : Walk) → Refutes A w → RefutesWith givens B (record { ases = w.ases; links = map f w.links })
  refutes_anew w r = record { x = r.x; y = r.y; two = r.two; walk = linked_anew w.ases w.links r.walk; begins = r.begins; flips = r.flips; ends = r.ends }

-- a path of a graph has the number of its place
numbered_at : (graph : List (List ℕ)) (places : List ℕ) (m : ℕ) (path : List ℕ) → Contains (numbered graph places) (m, path) → (q : ℕ) × (m ≡ q + 1) × (path ≡ path_at graph q)
numbered_at graph [] m path c = let lt = c.1 in absurd (omega (arith, lt))
numbered_at graph (p ∷ places) m path (zero, lt, e) =
    let one : p + 1 ≡ m = ap (λ (q : ℕ × List ℕ). q.0) e in
    let two : path_at graph p ≡ path = ap (λ (q : ℕ × List ℕ). q.1) e in
    (p, sym one, sym two)
numbered_at graph (p ∷ places) m path (suc k, lt, e) = numbered_at graph places m path (k, omega (arith, lt), e)

renumbered_own : (from to : ℕ) (link : Link) → link.path ≡ from → renumbered from to link ≡ record { path = to; at = link.at }
renumbered_own from to link e = rw (eq-eqb link.path from e) refl

zero_other : (place : ℕ) → (0 == place + 1) ≡ false
zero_other place = elim (cases_Bool (0 == place + 1)) [ inl t ↦ (let e = eqb-true 0 (place + 1) t in absurd (omega (arith, e))) | inr f ↦ f ]

path_of_at : (rows : List (List ℕ)) (k : ℕ) → k < length rows → path_at rows k ≡ row_at rows k
path_of_at [] k lt = absurd (omega (arith, lt))
path_of_at (row ∷ rows) zero lt = refl
path_of_at (row ∷ rows) (suc k) lt = path_of_at rows k (omega (arith, lt))

path_before : (rows more : List (List ℕ)) (k : ℕ) → k < length rows → path_at (rows ++ more) k ≡ path_at rows k
path_before [] more k lt = absurd (omega (arith, lt))
path_before (row ∷ rows) more zero lt = refl
path_before (row ∷ rows) more (suc k) lt = path_before rows more k (omega (arith, lt))

module _ (file : ResultFile) (accepts : Accepts file) (rows graph : List (List ℕ)) (begins : BeginsWithPathsOf rows file)
    (are : graph ≡ rows ++ returns rows (its_givens file)) (kept : List ℕ) (first : numbered graph kept ≡ kept_first graph (length rows) file)
    (naming : Naming) (front : naming.rows ≡ length rows) (named : naming.numbers ≡ numbers_from rows 1 (its_givens file)) (own : naming.own ≡ own_number file)
  where
    abbrev givens : List Given
    givens = its_givens file

    -- the rows of the returns
    abbrev back : Numbered
    back = numbered graph (places_from (length rows) (length graph - length rows))

    back_are : AreReturnRows givens naming.rows naming.numbers back
    back_are =
        subst (λ (n : ℕ). AreReturnRows givens n naming.numbers back) (sym front)
        (subst (λ (ns : List ℕ). AreReturnRows givens (length rows) ns back) (sym named)
        (subst (λ (ps : List ℕ). AreReturnRows givens (length rows) (numbers_from rows 1 givens) (numbered graph ps)) (sym (behind_are givens rows graph are (length rows) refl))
        (subst (λ (ps : List (List ℕ)). AreReturnRows givens (length rows) (numbers_from rows 1 givens) (numbered ps (places_from (length rows) (length (returns rows givens))))) (sym are)
        (are_rows givens rows))))

    kept_paths : paths_at graph kept ≡ returns rows givens ++ paths_of (its_kept file)
    kept_paths =
        sym (numbered_paths graph kept) ∙ ap paths_of first ∙ map-append (λ (p : ℕ × List ℕ). p.1) back (its_kept file) ∙
        ap (λ (ps : List (List ℕ)). ps ++ paths_of (its_kept file))
        (numbered_paths graph (places_from (length rows) (length graph - length rows)) ∙ returns_at givens rows graph are (length rows) (places_from (length rows) (length graph - length rows)) refl refl)

    enough : length file.paths ≤ length rows
    enough =
        let cut = length_taken (length file.paths) rows in
        let same = ap length begins in
        let many = length-map file.paths (λ p. p.path) in
        omega (arith, cut, same, many)

    few_kept : (m : ℕ) (path : List ℕ) → Contains (its_kept file) (m, path) → m ≤ length file.paths
    few_kept m path c =
        let many = length-map file.paths (λ p. p.path) in
        All-contains (λ (p : ℕ × List ℕ). p.0 ≤ length file.paths) (its_kept file) (m, path)
        (All-from_recursion (λ (p : ℕ × List ℕ). p.0 ≤ length file.paths) (its_kept file)
        (numbers_below (length file.paths) 1 (its_paths file) (map is_none (its_walks file)) (omega (arith, many)))) c

    module _ (place : ℕ) (within : place < length rows) where
      abbrev path : List ℕ
      path = row_at rows place

      here : path_at graph place ≡ row_at rows place
      here = ap (λ (ps : List (List ℕ)). path_at ps place) are ∙ path_before rows (returns rows givens) place within ∙ path_of_at rows place within

      with_path : paths_at graph (kept ++ place ∷ []) ≡ returns rows givens ++ (paths_of (its_kept file) ++ row_at rows place ∷ [])
      with_path =
          map-append (path_at graph) kept (place ∷ []) ∙ ap₂ (λ (ps : List (List ℕ)) (p : List ℕ). ps ++ p ∷ []) kept_paths here ∙
          append_assoc (returns rows givens) (paths_of (its_kept file)) (row_at rows place ∷ [])

      -- the rows are the result's paths and others
      split : rows ≡ its_paths file ++ drop (length file.paths) rows
      split = sym (ap (λ (ps : List (List ℕ)). ps ++ drop (length file.paths) rows) (sym begins) ∙ take-append-drop (length file.paths) rows)

      there : Contains rows (row_at rows place)
      there = go rows place within
        where
          go : (ps : List (List ℕ)) (k : ℕ) → k < length ps → Contains ps (row_at ps k)
          go [] k lt = absurd (omega (arith, lt))
          go (p ∷ ps) zero lt = (0, omega arith, refl)
          go (p ∷ ps) (suc k) lt = Contains-append_right (p ∷ []) ps (row_at ps k) (go ps k (omega (arith, lt)))

      pub explained : IsServable (paths_at graph (kept ++ place ∷ [])) ↔ IsExplained file (row_at rows place)
      explained =
          let some = paths_of (its_kept file) ++ path ∷ [] in
          let law = elsewhere_law file path (drop (length file.paths) rows) accepts (subst (λ (ps : List (List ℕ)). Contains ps path) split there) in
          let near : ((O : Orientation) × ServesWith givens rows O some) ↔ IsExplained file path =
          subst (λ (ps : List (List ℕ)). ((O : Orientation) × ServesWith givens ps O some) ↔ IsExplained file path) (sym split) law in
          let same = (given_serving_law givens rows).1 in (
            (λ s. let t = subst IsServable with_path s in near.0 (t.0, (same t.0 some).1 t.1)),
            (λ e. let s = near.1 e in subst IsServable (sym with_path) (s.0, (same s.0 some).0 s.1)),
          )

      abbrev all : Numbered
      all = its_kept file ++ (own_number file, row_at rows place) ∷ []

      fits_own : (link : Link) (x y z : ℕ) → link.path ≡ place + 1 → TripleAt (row_at rows place) link.at x y z → FitsWith givens all (link_named naming (place + 1) link) x y z
      fits_own link x y z e t =
          let low : link.path ≤ naming.rows = omega (arith, e, within, front) in
          let stays : given_link naming.rows naming.numbers link ≡ link = rw (le-ltb naming.rows link.path low) refl in
          let is : link_named naming (place + 1) link ≡ record { path = naming.own; at = link.at } = ap (renumbered (place + 1) naming.own) stays ∙ renumbered_own (place + 1) naming.own link e in
          subst (λ (l : Link). FitsWith givens all l x y z) (sym is)
          (inr (row_at rows place, subst (λ (n : ℕ). Contains all (n, row_at rows place)) (sym own) (Contains-append_right (its_kept file) ((own_number file, path) ∷ []) (own_number file, path) (0, omega arith, refl)), t))

      fits_anew : (link : Link) (x y z : ℕ) → Fits (numbered graph (kept ++ place ∷ [])) link x y z → FitsWith givens all (link_named naming (place + 1) link) x y z
      fits_anew link x y z (p, c, t) =
          elim (Contains-append_cases (numbered graph kept) ((place + 1, path_at graph place) ∷ []) (link.path, p)
          (subst (λ (A : Numbered). Contains A (link.path, p)) (map-append (λ (k : ℕ). (k + 1, path_at graph k)) kept (place ∷ [])) c)) [
            | inl i ↦ in_kept (subst (λ (A : Numbered). Contains A (link.path, p)) first i) (numbered_at graph kept link.path p i)
            | inr i ↦ (
                let e = Contains-one (place + 1, path_at graph place) (link.path, p) i in
                let number : place + 1 ≡ link.path = ap (λ (q : ℕ × List ℕ). q.0) e in
                let same : path_at graph place ≡ p = ap (λ (q : ℕ × List ℕ). q.1) e in
                fits_own link x y z (sym number) (subst (λ (q : List ℕ). TripleAt q link.at x y z) (sym same ∙ here) t)
                )
          ]
        where
          by_given : (g : Given) × FitsGiven givens (given_link naming.rows naming.numbers link) x y z → FitsWith givens all (link_named naming (place + 1) link) x y z
          by_given (g, r) =
              let apart : (given_link naming.rows naming.numbers link).path ≡ 0 = r.apart in
              let not_own : ((given_link naming.rows naming.numbers link).path == place + 1) ≡ false = subst (λ (n : ℕ). (n == place + 1) ≡ false) (sym apart) (zero_other place) in
              let is : link_named naming (place + 1) link ≡ given_link naming.rows naming.numbers link = rw not_own refl in
              subst (λ (l : Link). FitsWith givens all l x y z) (sym is) (inl r)

          in_kept : Contains (kept_first graph (length rows) file) (link.path, p) → (q : ℕ) × (link.path ≡ q + 1) × (p ≡ path_at graph q) → FitsWith givens all (link_named naming (place + 1) link) x y z
          in_kept i (q, number, same) =
              elim (Contains-append_cases back (its_kept file) (link.path, p) i) [
                | inl j ↦ (
                    let (lt, (g, given, e)) = back_are link.path p j in
                    let three = three_on g.under g.over link.at x y z (subst (λ (r : List ℕ). TripleAt r link.at x y z) e t) in
                    let into : given_link naming.rows naming.numbers link ≡ record { path = 0; at = get_or naming.numbers (link.path - (naming.rows + 1)) 0 } = rw (lt-ltb naming.rows link.path lt) refl in
                    by_given (g, subst (λ (l : Link). FitsGiven givens l x y z) (sym into) (record { apart = refl; given = g; named = given; first = three.0; second = three.1; third = three.2 }))
                    )
                | inr j ↦ elim (cases_Bool (link.path == place + 1)) [
                  | inl t₁ ↦ (
                      let e : link.path ≡ place + 1 = eqb-true link.path (place + 1) t₁ in
                      let at : q ≡ place = omega (arith, e, number) in
                      fits_own link x y z e (subst (λ (r : List ℕ). TripleAt r link.at x y z) (same ∙ ap (path_at graph) at ∙ here) t)
                      )
                  | inr f ↦ (
                      let few = few_kept link.path p j in
                      let more = enough in
                      let low : link.path ≤ naming.rows = omega (arith, few, more, front) in
                      let stays : given_link naming.rows naming.numbers link ≡ link = rw (le-ltb naming.rows link.path low) refl in
                      let is : link_named naming (place + 1) link ≡ link = ap (renumbered (place + 1) naming.own) stays ∙ kept_link f in
                      subst (λ (l : Link). FitsWith givens all l x y z) (sym is) (inr (p, Contains-append_left (its_kept file) ((own_number file, path) ∷ []) (link.path, p) j, t))
                      )
                ]
              ]
            where
              kept_link : (link.path == place + 1) ≡ false → renumbered (place + 1) naming.own link ≡ link
              kept_link f = rw f refl

      pub behind : (fate : Fate) → IsTriedFate graph kept naming place fate → IsFateBehind file (row_at rows place) fate
      behind fate (choice, same, (tried, is, named_so)) =
          subst (IsFateBehind file path) (sym named_so) (by tried is)
        where
          by : (tried : Fate) → IsTried graph place choice tried → IsFateBehind file (row_at rows place) (fate_named naming (place + 1) tried)
          by Fate.Kept t = record {
            exact = (
              (λ k. explained.0 (subst (λ (ps : List ℕ). IsServable (paths_at graph (ps ++ place ∷ []))) same (t.exact.0 k))),
              (λ e. refl),
            );
            walk = tt;
          }
          by (Fate.Lost w) t = record {
            exact = (
              (λ k. absurd (false≢true k)),
              (λ e. absurd (false≢true (t.exact.1 (subst (λ (ps : List ℕ). IsServable (paths_at graph (ps ++ place ∷ []))) (sym same) (explained.1 e))))),
            );
            walk = refutes_anew givens (numbered graph (kept ++ place ∷ [])) all (link_named naming (place + 1)) fits_anew w
                (subst (λ (ps : List ℕ). Refutes (numbered graph (ps ++ place ∷ [])) w) same t.walk);
          }

    pub all_behind : (met : List Sighting) (fates : List Fate) → All (λ (m : Sighting). m.place < length rows) met → AreTriedFates graph kept naming met fates →
        AreFatesBehind file (map (row_met rows) met) fates
    all_behind [] [] inside h = tt
    all_behind [] (fate ∷ fates) inside h = absurd h
    all_behind (m ∷ met) [] inside h = absurd h
    all_behind (m ∷ met) (fate ∷ fates) inside h = (
      behind m.place (All-head (λ (m : Sighting). m.place < length rows) m met inside) fate h.0,
      all_behind met fates (All-tail (λ (m : Sighting). m.place < length rows) m met inside) h.1,
    )

-- ---- one more

pub zip_push : {A B : Type 0} (R : A → B → Type 0) (xs : List A) (ys : List B) (x : A) (y : B) → AllZip R xs ys → R x y → AllZip R (xs ++ x ∷ []) (ys ++ y ∷ [])
zip_push R [] [] x y h r = (r, tt)
zip_push R [] (b ∷ ys) x y h r = absurd h
zip_push R (a ∷ xs) [] x y h r = absurd h
zip_push R (a ∷ xs) (b ∷ ys) x y h r = (h.0, zip_push R xs ys x y h.1 r)
