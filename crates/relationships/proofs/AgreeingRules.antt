-- The rules with givens, of which those whose two are no edge bind nothing.
use Rattle.std.proofs.Common.{◌≡◌, ◌≢◌, ◌↔◌, ℕ, min, max, inl, inr, true, false, Bool, List, [], ◌∷◌, ◌++◌, get_or, map, is_none, Option, if◌then◌else◌, refl, sym, ◌∙◌, subst, arith, append_assoc}
use Rattle.std.proofs.Common.{append-nil, All, Contains, IsTrue}
use Rattle.std.specs.List.{list_any, AllByRecursion}
use Rattle.std.proofs.lemmas.Bool.{cases_Bool}
use Rattle.std.proofs.lemmas.List.Elements.{All-append, All-contains, All-contains_itself, All-from_get_or, All-from_recursion, recursion_from_All, Contains-get_or, Contains-append_cases}
use Rattle.tor_arena.proofs.Gets.{Contains-map}
use Rattle.relationships.specs.declared.given.Given.{Given}
use Rattle.relationships.specs.declared.label.Label.{Label}
use Rattle.relationships.specs.declared.walk.Walk.{Walk}
use Rattle.relationships.specs.Relationship.{Labelling, labels_of, ValleyFree}
use Rattle.relationships.specs.Graph.{Edge, is_same, edges}
use Rattle.relationships.specs.Evidence.{paths_of}
use Rattle.relationships.specs.Selection.{KeepsFrom, IsServable, IsForced}
use Rattle.relationships.specs.Checking.{kept_of, Claim, claimed_labels}
use Rattle.relationships.specs.Givens.{names_edge, LabelsSay, return_of, returns, NameTwo, NameOnce, by_givens}
use Rattle.relationships.specs.GivenEvidence.{served_with}
use Rattle.relationships.specs.Laws.GivenEvidence.{AgreeingRulesLaw}
use Rattle.relationships.proofs.Edges.{over_kept, relaxing_law}
use Rattle.relationships.proofs.Neighbours.{edge_law}
use Rattle.relationships.proofs.Checked.{kept_all, label_of_claim}
use Rattle.relationships.proofs.GivenLemmas.{any_there, return_free, ends_hold, each_end, once_all, all_givens_law}
use Rattle.relationships.proofs.GivenWalks.{rules_with}

-- ---- some of the paths have edges of the paths alone

among : (some paths : List (List ℕ)) → ((p : List ℕ) → Contains some p → Contains paths p) → (e : Edge) → Contains (edges some) e → Contains (edges paths) e
among some paths sub e c =
    let n = ((edge_law some).1 e).0 c in ((edge_law paths).1 e).1 (n.0, n.1, (n.2.0, sub n.2.0 n.2.1, n.2.2), n.3)

kept_there : (paths : List (List ℕ)) (walks : List (Option Walk)) (p : List ℕ) → Contains (paths_of (kept_of paths walks)) p → Contains paths p
kept_there paths walks p c =
    All-contains (Contains paths) (paths_of (kept_of paths walks)) p
    (All-from_recursion (Contains paths) (paths_of (kept_of paths walks))
    (kept_all (Contains paths) 1 paths (map is_none walks) (recursion_from_All (Contains paths) paths (All-contains_itself paths)))) c

-- ---- what is kept behind all givens is kept behind those whose two are an edge

module _ (givens : List Given) (paths : List (List ℕ)) (two : NameTwo givens) (once : NameOnce givens) where
  one_more : (some : List (List ℕ)) (path : List ℕ) → ((p : List ℕ) → Contains some p → Contains paths p) → Contains paths path →
      (p : List ℕ) → Contains (some ++ path ∷ []) p → Contains paths p
  one_more some path sub there p c = elim (Contains-append_cases some (path ∷ []) p c) [
    | inl i ↦ sub p i
    | inr i ↦ All-contains (Contains paths) (path ∷ []) p (All-from_recursion (Contains paths) (path ∷ []) (there, tt)) i
  ]

  kept_too : (some : List (List ℕ)) (path : List ℕ) (keep : Bool) → ((p : List ℕ) → Contains (some ++ path ∷ []) p → Contains paths p) →
      (IsTrue keep ↔ IsServable ((map return_of givens ++ some) ++ path ∷ [])) → (IsTrue keep ↔ IsServable ((returns paths givens ++ some) ++ path ∷ []))
  kept_too some path keep sub h =
      let same = (all_givens_law givens paths (some ++ path ∷ []) two once (among (some ++ path ∷ []) paths sub)).0 in
      let all = append_assoc (map return_of givens) some (path ∷ []) in
      let near = append_assoc (returns paths givens) some (path ∷ []) in (
        (λ t. subst IsServable (sym near) (same.1 (subst IsServable all (h.0 t)))),
        (λ s. h.1 (subst IsServable (sym all) (same.0 (subst IsServable near s)))),
      )

  keeps_near : (some rest : List (List ℕ)) (keeps : List Bool) → ((p : List ℕ) → Contains some p → Contains paths p) → AllByRecursion (Contains paths) rest →
      KeepsFrom (map return_of givens ++ some) rest keeps → KeepsFrom (returns paths givens ++ some) rest keeps
  keeps_near some [] [] sub there h = tt
  keeps_near some [] (keep ∷ keeps) sub there h = absurd h
  keeps_near some (path ∷ rest) [] sub there h = absurd h
  keeps_near some (path ∷ rest) (true ∷ keeps) sub there h =
      let more = one_more some path sub there.0 in (
        kept_too some path true more h.0,
        subst (λ ps. KeepsFrom ps rest keeps) (sym (append_assoc (returns paths givens) some (path ∷ [])))
            (keeps_near (some ++ path ∷ []) rest keeps more there.1
            (subst (λ ps. KeepsFrom ps rest keeps) (append_assoc (map return_of givens) some (path ∷ [])) h.1)),
      )
  keeps_near some (path ∷ rest) (false ∷ keeps) sub there h =
      (kept_too some path false (one_more some path sub there.0) h.0, keeps_near some rest keeps sub there.1 h.1)

-- ---- labels that say what the claims say, and what is given where they say nothing

abbrev completed : List Edge → Labelling → List Given → Labelling
completed es L givens low high = if list_any (is_same (low, high)) es then L low high else labels_of (by_givens givens) low high

module _ (givens : List Given) (paths : List (List ℕ)) (L : Labelling) where
  abbrev es : List Edge
  es = edges paths

  abbrev M : Labelling
  M = completed es L givens

  inside : (low high : ℕ) → list_any (is_same (low, high)) es ≡ true → M low high ≡ L low high
  inside low high t = rw t refl

  outside : (low high : ℕ) → list_any (is_same (low, high)) es ≡ false → M low high ≡ labels_of (by_givens givens) low high
  outside low high f = rw f refl

  -- they agree with all givens, if those of the claims do with the givens whose two are an edge
  all_hold : (gs : List Given) → AllByRecursion (λ g. IsTrue (names_edge paths g) → LabelsSay L g) gs → AllByRecursion (LabelsSay (labels_of (by_givens givens))) gs →
      AllByRecursion (LabelsSay M) gs
  all_hold [] h k = tt
  all_hold (g ∷ gs) h k = (
    elim (cases_Bool (names_edge paths g)) [
      | inl t ↦ moved L (sym (inside (min g.over g.under) (max g.over g.under) t)) (h.0 t)
      | inr f ↦ moved (labels_of (by_givens givens)) (sym (outside (min g.over g.under) (max g.over g.under) f)) k.0
    ],
    all_hold gs h.1 k.1,
  )
    where
      moved : (L' : Labelling) → L' (min g.over g.under) (max g.over g.under) ≡ M (min g.over g.under) (max g.over g.under) → LabelsSay L' g → LabelsSay M g
      moved L' same holds = over_kept L' M g.over g.under ((λ h. sym same ∙ h), (λ h. sym same ∙ h)) holds

  all_free : (gs : List Given) → AllByRecursion (LabelsSay M) gs → AllByRecursion (ValleyFree M) (map return_of gs)
  all_free [] h = tt
  all_free (g ∷ gs) h = (return_free M g h.0, all_free gs h.1)

  -- and what is valley-free under the claims' labels is so under them
  still_free : (some : List (List ℕ)) → ((e : Edge) → Contains (edges some) e → Contains es e) → All (ValleyFree L) some → All (ValleyFree M) some
  still_free some near free =
      relaxing_law L M some
      (All-from_get_or (λ (e : Edge). (L e.0 e.1 ≡ Label.Low → M e.0 e.1 ≡ Label.Low) × (L e.0 e.1 ≡ Label.High → M e.0 e.1 ≡ Label.High)) (edges some) (0, 0)
      (λ i within.
      let e = get_or (edges some) i (0, 0) in
      let same = inside e.0 e.1 (any_there es e (near e (Contains-get_or (edges some) i (0, 0) within))) in
      ((λ h. same ∙ h), (λ h. same ∙ h))))
      free

pub agreeing_rules_law : AgreeingRulesLaw
agreeing_rules_law givens paths walks claims whys probes a = (
  subst (λ ps. KeepsFrom ps paths (map is_none walks)) (append-nil (returns paths givens))
      (keeps_near givens paths a.two a.once [] paths (map is_none walks) (λ p c. none p c) (recursion_from_All (Contains paths) paths (All-contains_itself paths))
      (subst (λ ps. KeepsFrom ps paths (map is_none walks)) (sym (append-nil (map return_of givens))) all.0)),
  λ c i.
      let same = (all_givens_law givens paths kept a.two a.once near).1 c.low c.high (on_edge c i) in
      ((λ t. same.1 ((all.1 c i).0 t)), (λ f. (all.1 c i).1 (same.0 f))),
  all.2,
)
  where
    none : (p : List ℕ) → Contains {X = List ℕ} [] p → Contains paths p
    none p c = let lt = c.1 in absurd (omega (arith, lt))

    kept : List (List ℕ)
    kept = paths_of (kept_of paths walks)

    L : Labelling
    L = claimed_labels claims

    near : (e : Edge) → Contains (edges kept) e → Contains (edges paths) e
    near = among kept paths (kept_there paths walks)

    on_edge : (c : Claim) → Contains claims c → Contains (edges paths) (c.low, c.high)
    on_edge c i = subst (λ (es : List Edge). Contains es (c.low, c.high)) a.each_edge (Contains-map (λ (c : Claim). (c.low, c.high)) claims c i)

    hold : AllByRecursion (LabelsSay (completed (edges paths) L givens)) givens
    hold =
        all_hold givens paths L givens (recursion_from_All (λ g. IsTrue (names_edge paths g) → LabelsSay L g) givens a.agrees)
        (ends_hold (by_givens givens) givens (recursion_from_All (λ g. g.over ≢ g.under) givens a.two) (each_end givens (once_all givens a.once)))

    all : KeepsFrom (map return_of givens) paths (map is_none walks) ×
        ((c : Claim) → Contains claims c → IsTrue c.forced ↔ IsForced (served_with givens kept) c.low c.high) ×
        ((c : Claim) → Contains claims c → IsTrue c.forced → c.label ≢ Label.Peer)
    all =
        rules_with (completed (edges paths) L givens) givens paths walks claims whys probes a.two a.neighbours_differ a.lost a.each_edge
        (All-append (ValleyFree (completed (edges paths) L givens)) (map return_of givens) kept
        (All-from_recursion (ValleyFree (completed (edges paths) L givens)) (map return_of givens) (all_free givens paths L givens hold))
        (still_free givens paths L kept near a.valley_free))
        a.marks
        (λ c i. inside givens paths L c.low c.high (any_there (edges paths) (c.low, c.high) (on_edge c i)) ∙ label_of_claim paths claims a.each_edge c i)
