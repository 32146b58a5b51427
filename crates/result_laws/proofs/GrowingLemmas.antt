-- What is kept, lost and forced stays so where paths are added after those of a result.
use Rattle.std.proofs.Common.{◌≡◌, ◌≢◌, inl, inr, ℕ, List, [], ◌∷◌, ◌++◌, length, map, take, is_none, refl, sym, ap, ap₂, ◌∙◌, subst, Contains}
use Rattle.std.specs.List.{items_where_true}
use Rattle.std.proofs.lemmas.Bool.{cases_Bool}
use Rattle.tor_arena.proofs.Gets.{has-from_Contains, Contains-from_has, Contains-map, slice_get-unmap, slice_get-take}
use Rattle.relationships.specs.declared.label.End.{End}
use Rattle.relationships.specs.declared.label.Label.{Label}
use Rattle.relationships.specs.declared.given.Given.{Given}
use Rattle.relationships.specs.declared.mark.Mark.TheVariants.{Forced}
use Rattle.relationships.specs.Relationship.{Serves}
use Rattle.relationships.specs.Graph.{Edge, edge_of, edges}
use Rattle.relationships.specs.Evidence.{paths_of}
use Rattle.relationships.specs.Givens.{names_edge, return_of, returns}
use Rattle.relationships.specs.Marking.{is_forced, claim_of}
use Rattle.relationships.specs.Selection.{KeepsFrom, IsForced}
use Rattle.relationships.proofs.Checked.{read}
use Rattle.relationships.proofs.GivenLemmas.{all_givens_law, any_there, with_return, without_return}
use Rattle.relationships.proofs.GivenWalks.{any_contains}
use Rattle.relationships.proofs.Neighbours.{edge_law}
use Rattle.relationships.proofs.Selecting.{selection_behind_law}
use Rattle.result_text.specs.declared.file.EdgeLine.{EdgeLine}
use Rattle.result_text.specs.declared.file.ResultFile.{ResultFile}
use Rattle.result_rules.specs.File.{its_givens, its_paths, its_walks, its_kept, its_claims, its_returns, claim_on}
use Rattle.result_rules.specs.Rules.{Accepts}
use Rattle.result_laws.specs.Growing.{GoesOnFrom, ForcedStaysLaw}
use Rattle.result_laws.proofs.AcceptedLemmas.{its_demands, same_kept, by_labels, forced_if, valid, its_two, its_once, its_edges_listed, by_labels_serves, edge_there, provider_read}
use Rattle.result_laws.proofs.KeptLemmas.{Within, within-cons, within-tail, within-append, serves_fewer, keeps_behind_more, keeps_first, first_kept, kept_are_paths}

pub edges_within : (some all : List (List ℕ)) → Within some all → (e : Edge) → Contains (edges some) e → Contains (edges all) e
edges_within some all within e c =
    let n = ((edge_law some).1 e).0 c in ((edge_law all).1 e).1 (n.0, n.1, (n.2.0, within n.2.0 n.2.1, n.2.2), n.3)

-- a given of two neighbours on some paths is one on more
pub returns_within : (some all : List (List ℕ)) → Within some all → (givens : List Given) → Within (returns some givens) (returns all givens)
returns_within some all within [] = λ p c. c
returns_within some all within (g ∷ givens) = elim (cases_Bool (names_edge some g)) [
  | inl t ↦
      let t' = any_there (edges all) (edge_of g.over g.under)
      (edges_within some all within (edge_of g.over g.under) (any_contains (edges some) (edge_of g.over g.under) t)) in
      subst (λ ps. Within ps (returns all (g ∷ givens))) (sym (with_return some g givens t))
      (subst (Within (return_of g ∷ returns some givens)) (sym (with_return all g givens t'))
      (within-cons (return_of g) (returns some givens) (returns all givens) (returns_within some all within givens)))
  | inr f ↦ subst (λ ps. Within ps (returns all (g ∷ givens))) (sym (without_return some g givens f)) (λ p c. behind p (returns_within some all within givens p c))
]
  where
    behind : (p : List ℕ) → Contains (returns all givens) p → Contains (returns all (g ∷ givens)) p
    behind p c = elim (cases_Bool (names_edge all g)) [
      | inl t ↦ subst (λ ps. Contains ps p) (sym (with_return all g givens t)) (within-tail (return_of g) (returns all givens) p c)
      | inr f ↦ subst (λ ps. Contains ps p) (sym (without_return all g givens f)) c
    ]

-- the returns of those givens whose two are neighbours are among those of all
returns_given : (paths : List (List ℕ)) (givens : List Given) → Within (returns paths givens) (map return_of givens)
returns_given paths [] = λ p c. c
returns_given paths (g ∷ givens) = elim (cases_Bool (names_edge paths g)) [
  | inl t ↦ subst (λ ps. Within ps (map return_of (g ∷ givens))) (sym (with_return paths g givens t))
      (within-cons (return_of g) (returns paths givens) (map return_of givens) (returns_given paths givens))
  | inr f ↦ subst (λ ps. Within ps (map return_of (g ∷ givens))) (sym (without_return paths g givens f))
      (λ p c. within-tail (return_of g) (map return_of givens) p (returns_given paths givens p c))
]

-- labels that are read alike, and are no peerings, are the same
read_apart : (l l' : Label) → l ≢ Label.Peer → l' ≢ Label.Peer → read End.Low l ≡ read End.Low l' → l ≡ l'
read_apart Label.Low Label.Low ne ne' e = refl
read_apart Label.Low Label.High ne ne' e = absurd cc
read_apart Label.High Label.Low ne ne' e = absurd cc
read_apart Label.High Label.High ne ne' e = refl
read_apart Label.Peer l' ne ne' e = absurd (ne refl)
read_apart l Label.Peer ne ne' e = absurd (ne' refl)

-- of two results the second asks for all that the first asks for: what the first has forced the second has forced, with the same label
pub forced_too : (file other : ResultFile) → Accepts file → Accepts other → Within (its_demands file) (its_demands other) → (line line' : EdgeLine) → Contains file.edges line →
    Contains other.edges line' → line.low ≡ line'.low → line.high ≡ line'.high → line.mark ≡ Forced → (line'.mark ≡ Forced) × (line.label ≡ line'.label)
forced_too file other accepts accepts' within line line' there there' low high is =
    let forced = ((valid file accepts).forced line there).0 (ap is_forced is) in
    let forced' : IsForced (its_demands other) line.low line.high = λ O O' serves serves'.
    forced O O' (serves_fewer O (its_demands file) (its_demands other) within serves) (serves_fewer O' (its_demands file) (its_demands other) within serves') in
    let own : IsForced (its_demands other) line'.low line'.high =
    subst (λ n. IsForced (its_demands other) n line'.high) low (subst (λ n. IsForced (its_demands other) line.low n) high forced') in
    let marked = ((valid other accepts').forced line' there').1 own in
    let same = forced (by_labels file) (by_labels other) (by_labels_serves file accepts)
    (serves_fewer (by_labels other) (its_demands file) (its_demands other) within (by_labels_serves other accepts')) in
    let reads : read End.Low line.label ≡ read End.Low line'.label =
    sym (provider_read file accepts line there) ∙ same ∙ ap₂ (by_labels other) low high ∙ provider_read other accepts' line' there' in (
      forced_if line'.mark marked,
      read_apart line.label line'.label ((valid file accepts).no_peering line there (ap is_forced is)) ((valid other accepts').no_peering line' there' marked) reads,
    )

-- the line of an edge
pub line_with : (lines : List EdgeLine) (low high : ℕ) → Contains {X = Edge} (map (λ (e : EdgeLine). (e.low, e.high)) lines) (low, high) →
    (line : EdgeLine) × Contains lines line × (line.low ≡ low) × (line.high ≡ high)
line_with lines low high c =
    let h = has-from_Contains (map {B = Edge} (λ (e : EdgeLine). (e.low, e.high)) lines) (low, high) c in
    let l = slice_get-unmap {Y = Edge} (λ (e : EdgeLine). (e.low, e.high)) lines h.0 (low, high) h.1 in
    (l.0, Contains-from_has lines l.0 (h.0, l.1), ap (λ (e : Edge). e.0) l.2, ap (λ (e : Edge). e.1) l.2)

same_claim : (line line' : EdgeLine) → line.low ≡ line'.low → line.high ≡ line'.high → line.label ≡ line'.label → line.mark ≡ line'.mark → claim_on line' ≡ claim_on line
same_claim line line' low high label mark =
    sym (ap (λ n. claim_of (n, line.high) line.label line.mark) low ∙ ap (λ n. claim_of (line'.low, n) line.label line.mark) high ∙
    ap (λ l. claim_of (line'.low, line'.high) l line.mark) label ∙ ap (λ m. claim_of (line'.low, line'.high) line'.label m) mark)

first_within : (n : ℕ) (all some : List (List ℕ)) → take n all ≡ some → Within some all
first_within n all some e p c =
    let h = has-from_Contains (take n all) p (subst (λ ps. Contains ps p) (sym e) c) in
    Contains-from_has all p (h.0, (slice_get-take n all h.0 p h.1).1)

-- what a result keeps it keeps after the returns of its givens on more paths, too
pub kept_among_more : (file : ResultFile) (accepts : Accepts file) (paths : List (List ℕ)) → Within (its_paths file) paths →
    KeepsFrom (returns paths (its_givens file)) (its_paths file) (map is_none (its_walks file))
kept_among_more file accepts paths within =
    let kept = paths_of (its_kept file) in
    let keeps = map is_none (its_walks file) in
    let near = edges_within kept (its_paths file) (subst (λ ps. Within ps (its_paths file)) (sym (same_kept file)) (kept_are_paths (its_paths file) keeps)) in
    let s = (all_givens_law (its_givens file) (its_paths file) kept (its_two file accepts) (its_once file accepts) near).0.0 (by_labels file, by_labels_serves file accepts) in
    let begun = returns paths (its_givens file) in
    keeps_behind_more s.0 (its_returns file) begun (its_paths file) keeps (returns_within (its_paths file) paths within (its_givens file)) (valid file accepts).kept
    (subst (λ ps. Serves s.0 (begun ++ ps)) (same_kept file)
    (serves_fewer s.0 (begun ++ kept) (map return_of (its_givens file) ++ kept)
    (within-append begun kept (map return_of (its_givens file)) kept (returns_given paths (its_givens file)) (λ p c. c)) s.1))

module _ (earlier later : ResultFile) (accepts : Accepts earlier) (accepts' : Accepts later) (on : GoesOnFrom earlier later) where
  paths_within : Within (its_paths earlier) (its_paths later)
  paths_within = first_within (length earlier.paths) (its_paths later) (its_paths earlier) on.paths

  first_ones : KeepsFrom (returns (its_paths later) (its_givens earlier)) (its_paths earlier) (take (length earlier.paths) (map is_none (its_walks later)))
  first_ones =
      let begun = returns (its_paths later) (its_givens earlier) in
      let keeps = map is_none (its_walks later) in
      subst (λ ps. KeepsFrom begun ps (take (length earlier.paths) keeps)) on.paths
      (keeps_first (length earlier.paths) begun (its_paths later) keeps (subst (λ gs. KeepsFrom (returns (its_paths later) gs) (its_paths later) keeps) on.givens (valid later accepts').kept))

  kept_stays : take (length earlier.paths) (map is_none (its_walks later)) ≡ map is_none (its_walks earlier)
  kept_stays =
      (selection_behind_law (returns (its_paths later) (its_givens earlier)) (its_paths earlier) (take (length earlier.paths) (map is_none (its_walks later))) first_ones).0
      (map is_none (its_walks earlier)) (kept_among_more earlier accepts (its_paths later) paths_within)

  kept_within : Within (paths_of (its_kept earlier)) (paths_of (its_kept later))
  kept_within =
      let keeps = map is_none (its_walks later) in
      let n = length earlier.paths in
      subst (λ ps. Within ps (paths_of (its_kept later))) (ap₂ items_where_true kept_stays on.paths ∙ sym (same_kept earlier))
      (subst (Within (items_where_true (take n keeps) (take n (its_paths later)))) (sym (same_kept later)) (first_kept n (its_paths later) keeps))

  demands_within : Within (its_demands earlier) (its_demands later)
  demands_within =
      within-append (its_returns earlier) (paths_of (its_kept earlier)) (its_returns later) (paths_of (its_kept later))
      (subst (λ gs. Within (its_returns earlier) (returns (its_paths later) gs)) (sym on.givens) (returns_within (its_paths earlier) (its_paths later) paths_within (its_givens earlier)))
      kept_within

  forced_stays : (line : EdgeLine) → Contains earlier.edges line → line.mark ≡ Forced → Contains (its_claims later) (claim_on line)
  forced_stays line there is =
      let e : Edge = (line.low, line.high) in
      let on_later = edges_within (its_paths earlier) (its_paths later) paths_within e (edge_there earlier accepts line there) in
      let l = line_with later.edges line.low line.high (subst (λ (es : List Edge). Contains es e) (sym (its_edges_listed later accepts')) on_later) in
      let same = forced_too earlier later accepts accepts' demands_within line l.0 there l.1 (sym l.2) (sym l.3) is in
      subst (Contains (its_claims later)) (same_claim line l.0 (sym l.2) (sym l.3) same.1 (is ∙ sym same.0)) (Contains-map claim_on later.edges l.0 l.1)

pub forced_stays_law : ForcedStaysLaw
forced_stays_law earlier later accepts accepts' on = record {
  kept = kept_stays earlier later accepts accepts' on;
  forced = forced_stays earlier later accepts accepts' on;
}
