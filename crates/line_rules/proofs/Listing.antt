-- The edges of paths, as a table takes them in.
use Rattle.std.proofs.Common.{◌≡◌, ℕ, suc, ap₂, ◌<◌, inl, inr, false, not, ◌||◌, List, [], ◌∷◌, ◌++◌, filter, fold, flat_map, length, max, slice_get, refl, sym, ap, ◌∙◌, subst, arith, append_assoc}
use Rattle.std.proofs.Common.{append-nil}
use Rattle.std.specs.List.{list_any}
use Rattle.std.proofs.lemmas.Bool.{cases_Bool}
use Rattle.std.proofs.lemmas.List.{length-map}
use Rattle.std.proofs.lemmas.Option.{none-some, same_Some}
use Rattle.relationships.specs.Graph.{Edge, is_same, edges_on, distinct, edges}
use Rattle.relationships.proofs.Edges.{same_edge}
use Rattle.relationships.proofs.Places.{distinct-push_new, distinct-push_old}
use Rattle.result_text.specs.declared.file.EdgeLine.{EdgeLine}
use Rattle.result_text.specs.declared.file.ResultFile.{ResultFile}
use Rattle.result_rules.specs.File.{its_paths, its_edges}
use Rattle.result_rules.specs.declared.rule.Rule.TheVariants.{EdgesListed}
use Rattle.result_rules.specs.Rules.{IsMet}
use Rattle.tor_numbers.specs.Edges.{with_edge}

-- ---- what is distinct holds the same edges

filtered-any : (f e : Edge) (es : List Edge) → is_same f e ≡ false → list_any (is_same f) (filter (λ g. not (is_same e g)) es) ≡ list_any (is_same f) es
filtered-any f e [] apart = refl
filtered-any f e (g ∷ es) apart =
    elim (cases_Bool (is_same e g)) [
      | inl t ↦
          let gone : is_same f g ≡ false = subst (λ h. is_same f h ≡ false) (same_edge e g t) apart in
          rw t (filtered-any f e es apart ∙ ap (λ b. b || list_any (is_same f) es) (sym gone))
      | inr n ↦ rw n (ap (λ b. is_same f g || b) (filtered-any f e es apart))
    ]

pub distinct-any : (f : Edge) (es : List Edge) → list_any (is_same f) (distinct es) ≡ list_any (is_same f) es
distinct-any f [] = refl
distinct-any f (e ∷ es) =
    elim (cases_Bool (is_same f e)) [
      | inl t ↦ rw t refl
      | inr n ↦ rw n (filtered-any f e (distinct es) n ∙ distinct-any f es)
    ]

-- ---- one edge more, and more of them

distinct-with : (es : List Edge) (e : Edge) → with_edge (distinct es) e ≡ distinct (es ++ e ∷ [])
distinct-with es e =
    elim (cases_Bool (list_any (is_same e) es)) [
      | inl t ↦ rw (distinct-any e es, t) (sym (distinct-push_old es e t))
      | inr n ↦ rw (distinct-any e es, n) (sym (distinct-push_new es e n))
    ]

distinct-fold : (es fs : List Edge) → fold with_edge (distinct es) fs ≡ distinct (es ++ fs)
distinct-fold es [] = ap distinct (sym (append-nil es))
distinct-fold es (f ∷ fs) =
    ap (λ (l : List Edge). fold with_edge l fs) (distinct-with es f) ∙ distinct-fold (es ++ f ∷ []) fs ∙ ap distinct (append_assoc es (f ∷ []) fs)

flat_map-push : (paths : List (List ℕ)) (path : List ℕ) → flat_map edges_on (paths ++ path ∷ []) ≡ flat_map edges_on paths ++ edges_on path
flat_map-push [] path = append-nil (edges_on path)
flat_map-push (p ∷ paths) path =
    ap (λ l. edges_on p ++ l) (flat_map-push paths path) ∙ sym (append_assoc (edges_on p) (flat_map edges_on paths) (edges_on path))

-- the edges with one path more
pub edges-push : (paths : List (List ℕ)) (path : List ℕ) → fold with_edge (edges paths) (edges_on path) ≡ edges (paths ++ path ∷ [])
edges-push paths path = distinct-fold (flat_map edges_on paths) (edges_on path) ∙ ap distinct (sym (flat_map-push paths path))

-- ---- the edge lines, place by place

same-places : {X : Type 0} (xs ys : List X) → ((k : ℕ) → k < max (length xs) (length ys) → slice_get xs k ≡ slice_get ys k) → xs ≡ ys
same-places [] [] h = refl
same-places [] (y ∷ ys) h = absurd (none-some y (h 0 (omega arith)))
same-places (x ∷ xs) [] h = absurd (none-some x (sym (h 0 (omega arith))))
same-places (x ∷ xs) (y ∷ ys) h = ap₂ (λ v vs. v ∷ vs) (same_Some x y (h 0 (omega arith))) (same-places xs ys (λ k lt. h (suc k) (omega arith)))

-- where the rule is met, the edge lines name the edges of the paths
pub listed : (file : ResultFile) → IsMet file EdgesListed → its_edges file ≡ edges (its_paths file)
listed file met =
    let long : length (its_edges file) ≡ length file.edges = length-map file.edges (λ (e : EdgeLine). (e.low, e.high)) in
    same-places (its_edges file) (edges (its_paths file)) (λ k lt. met k (omega (arith, long, lt)))
