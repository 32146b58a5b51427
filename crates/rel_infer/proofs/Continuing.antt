-- The paths of an earlier result that meets all rules, as the first of more paths.
use Rattle.std.proofs.Common.{◌≡◌, ℕ, ◌+◌, ◌-◌, ◌<◌, ◌≤◌, List, [], ◌∷◌, ◌++◌, length, map, filter, take, is_none, refl, sym, ap, ap₂, ◌∙◌, subst, arith, length-take, All, Contains}
use Rattle.std.specs.List.{list_any}
use Rattle.std.proofs.lemmas.List.{length-map, map-append, take-append-le, take-map}
use Rattle.std.proofs.lemmas.List.Elements.{All-append, All-contains, All-contains_itself, All-from_recursion, All-take, All-weaker}
use Rattle.relationships.specs.declared.fate.Fate.{Fate}
use Rattle.relationships.specs.declared.given.Given.{Given}
use Rattle.relationships.specs.declared.label.End.{End}
use Rattle.relationships.specs.Relationship.{Serves}
use Rattle.relationships.specs.Graph.{Edge, edge_of, is_same, edges, orientation}
use Rattle.relationships.specs.Evidence.{Numbered, paths_of}
use Rattle.relationships.specs.Fates.{walk_of}
use Rattle.relationships.specs.Selection.{KeepsFrom}
use Rattle.relationships.specs.Checking.{kept_of}
use Rattle.relationships.specs.Givens.{return_of, returns, NameTwo, NameOnce}
use Rattle.relationships.specs.GivenEvidence.{LostFromWith}
use Rattle.relationships.proofs.GivenLemmas.{given_serving_law}
use Rattle.as_graph.specs.Paths.{path_at, paths_at}
use Rattle.tor_clauses.specs.Formulas.{IsServed, numbered}
use Rattle.tor_clauses.proofs.Exacts.{numbered_paths}
use Rattle.path_table.specs.Rows.{Counted, row_paths}
use Rattle.path_select.specs.Behind.{places_from}
use Rattle.path_select.proofs.BehindLemmas.{places_all}
use Rattle.result_text.specs.declared.file.PathLine.{PathLine}
use Rattle.result_text.specs.declared.file.ResultFile.{ResultFile}
use Rattle.result_text.specs.Text.{its_givens}
use Rattle.result_rules.specs.declared.rule.Rule.TheVariants.{HeadSound, LostRefuted}
use Rattle.result_rules.specs.File.{its_paths, its_walks, its_kept}
use Rattle.result_rules.specs.Rules.{Accepts}
use Rattle.result_rules.proofs.Acceptance.{acceptance_law}
use Rattle.result_rules.proofs.GivenLines.{name_two, name_once}
use Rattle.result_rules.proofs.WalkLaws.{lost_are_refuted}
use Rattle.rel_infer.specs.Earlier.{BeginsWithPathsOf, IsKeptOrientation}
use Rattle.rel_infer.specs.Resumed.{Continues, decided, its_fates, kept_first}
use Rattle.rel_infer.proofs.AgreeingLaws.{kept_among_more}
use Rattle.rel_infer.proofs.Assembling.{walks_same}
use Rattle.rel_infer.proofs.Linking.{edges_same, returns_at}

-- ---- the givens

pub its_two : (earlier : ResultFile) → Accepts earlier → NameTwo (its_givens earlier)
its_two earlier accepted = name_two earlier (accepted HeadSound)

pub its_once : (earlier : ResultFile) → Accepts earlier → NameOnce (its_givens earlier)
its_once earlier accepted = name_once earlier (accepted HeadSound)

-- ---- the paths

module _ (earlier : ResultFile) (graph : List (List ℕ)) (begins : BeginsWithPathsOf graph earlier) where
  pub enough : length earlier.paths ≤ length graph
  enough =
      let cut = length-take (length earlier.paths) graph in
      let same = ap length begins in
      let many = length-map earlier.paths (λ (p : PathLine). p.path) in
      omega (arith, cut, same, many)

  pub begins_more : (rows : List (List ℕ)) → BeginsWithPathsOf (graph ++ rows) earlier
  begins_more rows = take-append-le (length earlier.paths) graph rows enough ∙ begins

  pub many_fates : length (its_fates earlier) ≡ length earlier.paths
  many_fates = length-map earlier.paths (λ (p : PathLine). p.fate)

  first_paths : take (length (its_fates earlier)) graph ≡ its_paths earlier
  first_paths = ap (λ (n : ℕ). take n graph) many_fates ∙ begins

  kept_same : kept_of (take (length (its_fates earlier)) graph) (map walk_of (its_fates earlier)) ≡ its_kept earlier
  kept_same = ap₂ (λ (ps : List (List ℕ)) ws. kept_of ps ws) first_paths (sym (walks_same earlier.paths))

  first_there : (p : List ℕ) → Contains (its_paths earlier) p → Contains graph p
  first_there p c =
      All-contains (Contains graph) (its_paths earlier) p
      (subst (All (Contains graph)) begins (All-take (Contains graph) (length earlier.paths) graph (All-contains_itself graph))) c

  -- the walks of its lost paths refute
  pub first_lost : Accepts earlier → LostFromWith (its_givens earlier) 1 [] (take (length (its_fates earlier)) graph) (map walk_of (its_fates earlier))
  first_lost accepted =
      subst (λ ps. LostFromWith (its_givens earlier) 1 [] ps (map walk_of (its_fates earlier))) (sym first_paths)
      (subst (LostFromWith (its_givens earlier) 1 [] (its_paths earlier)) (walks_same earlier.paths) (lost_are_refuted earlier (accepted LostRefuted)))

  -- ---- what is kept before a path is offered

  module _ (n : ℕ) (le : n ≤ length graph) where
    pub places_there : (kept : List ℕ) → All (λ path. path < length earlier.paths) kept → All (λ path. path < length graph) (places_from n (length graph - n) ++ kept)
    places_there kept there =
        All-append (λ path. path < length graph) (places_from n (length graph - n)) kept
        (All-from_recursion (λ path. path < length graph) (places_from n (length graph - n))
        (places_all (λ path. path < length graph) n (length graph - n) (λ i low high. omega (arith, high, le))))
        (All-weaker (λ path. path < length earlier.paths) (λ path. path < length graph) (λ path lt. let more = enough in omega (arith, lt, more)) kept there)

    pub places_kept : (kept : List ℕ) → numbered graph kept ≡ its_kept earlier → numbered graph (places_from n (length graph - n) ++ kept) ≡ kept_first graph n earlier
    places_kept kept same =
        map-append (λ (path : ℕ). (path + 1, path_at graph path)) (places_from n (length graph - n)) kept ∙
        ap (λ (K : Numbered). numbered graph (places_from n (length graph - n)) ++ K) same

    pub first_served : (places : List ℕ) (ends : List End) → paths_at graph (places_from n (length graph - n)) ≡ returns graph (its_givens earlier) →
        numbered graph places ≡ kept_first graph n earlier → IsKeptOrientation graph earlier ends → IsServed graph places ends
    first_served places ends behind same k =
        subst (Serves (orientation (edges graph) ends)) (sym paths_are)
        (((given_serving_law (its_givens earlier) graph).1 (orientation (edges graph) ends) (paths_of (its_kept earlier))).0 (k.agrees, k.serves))
      where
        paths_are : paths_at graph places ≡ returns graph (its_givens earlier) ++ paths_of (its_kept earlier)
        paths_are =
            sym (numbered_paths graph places) ∙ ap paths_of same ∙
            map-append (λ (p : ℕ × List ℕ). p.1) (numbered graph (places_from n (length graph - n))) (its_kept earlier) ∙
            ap (λ (ps : List (List ℕ)). ps ++ paths_of (its_kept earlier)) (numbered_paths graph (places_from n (length graph - n)) ∙ behind)

-- ---- in the graph of all paths and the returns behind them

module _ (earlier : ResultFile) (paths graph : List (List ℕ)) (begins : BeginsWithPathsOf paths earlier) (same : graph ≡ paths ++ returns paths (its_givens earlier)) where
  pub graph_begins : BeginsWithPathsOf graph earlier
  graph_begins = subst (λ ps. BeginsWithPathsOf ps earlier) (sym same) (begins_more earlier paths begins (returns paths (its_givens earlier)))

  pub returns_same : returns graph (its_givens earlier) ≡ returns paths (its_givens earlier)
  returns_same =
      ap (λ (es : List Edge). map return_of (filter (λ (g : Given). list_any (is_same (edge_of g.over g.under)) es) (its_givens earlier))) (edges_same (its_givens earlier) paths graph same)

  pub returns_behind : (n : ℕ) → n ≡ length paths → paths_at graph (places_from n (length graph - n)) ≡ returns graph (its_givens earlier)
  returns_behind n all = returns_at (its_givens earlier) paths graph same n (places_from n (length graph - n)) all refl ∙ sym returns_same

  module _ (fates : List Fate) (its : fates ≡ its_fates earlier) (n : ℕ) (all : n ≡ length paths) where
    pub fates_fit : length fates ≤ n
    fates_fit =
        let e = ap length its in
        let many = many_fates earlier paths begins in
        let le = enough earlier paths begins in
        omega (arith, e, many, le, all)

    pub kept_there : (places : List ℕ) → numbered graph places ≡ kept_first graph (length paths) earlier →
        numbered graph places ≡ numbered graph (places_from n (length graph - n)) ++ kept_of (take (length fates) graph) (map walk_of fates)
    kept_there places h =
        subst (λ (fs : List Fate). numbered graph places ≡ numbered graph (places_from n (length graph - n)) ++ kept_of (take (length fs) graph) (map walk_of fs)) (sym its)
        (subst (λ k. numbered graph places ≡
        numbered graph (places_from k (length graph - k)) ++ kept_of (take (length (its_fates earlier)) graph) (map walk_of (its_fates earlier))) (sym all)
        (h ∙ ap (λ (K : Numbered). numbered graph (places_from (length paths) (length graph - length paths)) ++ K) (sym (kept_same earlier graph graph_begins))))

    pub keeps_there : Accepts earlier → KeepsFrom (paths_at graph (places_from n (length graph - n))) (take (length fates) graph) (map is_none (map walk_of fates))
    keeps_there accepted =
        let givens = its_givens earlier in
        let own : KeepsFrom (returns paths givens) (its_paths earlier) (map is_none (its_walks earlier)) =
        kept_among_more givens paths (its_paths earlier) (its_two earlier accepted) (its_once earlier accepted) (first_there earlier paths begins) (map is_none (its_walks earlier))
        (acceptance_law earlier accepted).kept in
        let first = paths_at graph (places_from n (length graph - n)) in
        let at_first : first ≡ returns paths givens = returns_at givens paths graph same n (places_from n (length graph - n)) all refl in
        subst (λ (fs : List Fate). KeepsFrom first (take (length fs) graph) (map is_none (map walk_of fs))) (sym its)
        (subst (λ ps. KeepsFrom first ps (map is_none (map walk_of (its_fates earlier)))) (sym (first_paths earlier graph graph_begins))
        (subst (λ ws. KeepsFrom first (its_paths earlier) (map is_none ws)) (walks_same earlier.paths)
        (subst (λ ps. KeepsFrom ps (its_paths earlier) (map is_none (its_walks earlier))) (sym at_first) own)))

-- ---- the lines

decided_same : (xs ys : List PathLine) → map (λ (p : PathLine). p.path) xs ≡ map (λ (p : PathLine). p.path) ys → map (λ (p : PathLine). p.fate) xs ≡ map (λ (p : PathLine). p.fate) ys →
    map decided xs ≡ map decided ys
decided_same [] [] e h = refl
decided_same [] (y ∷ ys) e h = absurd cc
decided_same (x ∷ xs) [] e h = absurd cc
decided_same (x ∷ xs) (y ∷ ys) e h =
    let path : x.path ≡ y.path = cc in
    let fate : x.fate ≡ y.fate = cc in
    let paths : map (λ (p : PathLine). p.path) xs ≡ map (λ (p : PathLine). p.path) ys = cc in
    let fates : map (λ (p : PathLine). p.fate) xs ≡ map (λ (p : PathLine). p.fate) ys = cc in
    ap₂ (λ (d : List ℕ × Fate) (ds : List (List ℕ × Fate)). d ∷ ds) (ap₂ (λ (p : List ℕ) (f : Fate). (p, f)) path fate) (decided_same xs ys paths fates)

pub continued : (earlier file : ResultFile) (rows : List Counted) (fates : List Fate) → BeginsWithPathsOf (row_paths rows) earlier → its_paths file ≡ row_paths rows → its_fates file ≡ fates →
    take (length earlier.paths) fates ≡ its_fates earlier → Continues earlier file
continued earlier file rows fates begins paths its same =
    let n = length earlier.paths in
    take-map decided n file.paths ∙
    decided_same (take n file.paths) earlier.paths
    (sym (take-map (λ (p : PathLine). p.path) n file.paths) ∙ ap (take n) paths ∙ begins) (sym (take-map (λ (p : PathLine). p.fate) n file.paths) ∙ ap (take n) its ∙ same)
