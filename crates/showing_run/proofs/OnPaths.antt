-- An AS is on a path of a result exactly if one of its edges has it.
use Rattle.std.proofs.Common.{◌≡◌, ◌⊎◌, inl, inr, ℕ, ◌+◌, ◌-◌, ◌<◌, ◌≤◌, List, ◌∷◌, length, min, max, Some, refl, sym, ap, subst, arith}
use Rattle.std.specs.Prelude.{Contains, slice_get}
use Rattle.std.proofs.lemmas.Bool.{cases_lt}
use Rattle.std.proofs.lemmas.List.Elements.{Contains-append_right}
use Rattle.std.proofs.lemmas.Option.{slice_get_within}
use Rattle.tor_arena.proofs.Gets.{Contains-from_has, Contains-map, has-from_Contains, slice_get-some, slice_get-unmap}
use Rattle.path_clean.proofs.GraphPaths.{several_if_cleaned}
use Rattle.relationships.specs.Graph.{Edge, edge_of}
use Rattle.relationships.specs.Evidence.{HasPair}
use Rattle.relationships.proofs.Neighbours.{edge_law}
use Rattle.result_text.specs.declared.file.PathLine.{PathLine}
use Rattle.result_text.specs.declared.file.ResultFile.{ResultFile}
use Rattle.result_rules.specs.declared.rule.Rule.TheVariants.{EdgesListed, PathsCleaned}
use Rattle.result_rules.specs.File.{its_edges, its_paths}
use Rattle.result_rules.specs.Rules.{Accepts}
use Rattle.result_rules.proofs.Accepted.{edges_listed}
use Rattle.telling.specs.Told.{edge_on}
use Rattle.telling.proofs.PathLemmas.{listed}
use Rattle.showing_run.specs.Views.{HasEdge}
use Rattle.showing_run.specs.Whys.{IsOnPath}

-- an end of an edge is one of its two, and each of these is an end
module _ (a x y low high : ℕ) (low_is : low ≡ min x y) (high_is : high ≡ max x y) where
  is_one : (low ≡ a) ⊎ (high ≡ a) → (x ≡ a) ⊎ (y ≡ a)
  is_one end = elim (cases_lt x y) [
    | inl lt ↦ elim end [ inl e ↦ inl (omega (arith, lt, e, low_is)) | inr e ↦ inr (omega (arith, lt, e, high_is)) ]
    | inr ge ↦ elim end [ inl e ↦ inr (omega (arith, ge, e, low_is)) | inr e ↦ inl (omega (arith, ge, e, high_is)) ]
  ]

  is_end : (x ≡ a) ⊎ (y ≡ a) → (low ≡ a) ⊎ (high ≡ a)
  is_end one = elim (cases_lt x y) [
    | inl lt ↦ elim one [ inl e ↦ inl (omega (arith, lt, e, low_is)) | inr e ↦ inr (omega (arith, lt, e, high_is)) ]
    | inr ge ↦ elim one [ inl e ↦ inr (omega (arith, ge, e, high_is)) | inr e ↦ inl (omega (arith, ge, e, low_is)) ]
  ]

-- both of a pair stand on the path
both_there : (a x y : ℕ) (path : List ℕ) → HasPair path x y → (x ≡ a) ⊎ (y ≡ a) → Contains path a
both_there a x y path (before, after, is) one = subst (λ p. Contains p a) (sym is) (Contains-append_right before (x ∷ y ∷ after) a (elim one [
  | inl e ↦ subst (Contains (x ∷ y ∷ after)) e (0, omega arith, refl)
  | inr e ↦ subst (Contains (x ∷ y ∷ after)) e (1, omega arith, refl)
]))

module _ (file : ResultFile) (accepts : Accepts file) (a : ℕ) where
  pub edge_on_path : HasEdge file.edges a → IsOnPath file a
  edge_on_path (line, there, end) =
      let known = subst (λ (es : List Edge). Contains es (edge_on line)) (edges_listed file (accepts EdgesListed)) (Contains-map edge_on file.edges line there) in
      let near = ((edge_law (its_paths file)).1 (edge_on line)).0 known in
      let low : line.low ≡ min near.0 near.1 = ap (λ (e : Edge). e.0) near.3 in
      let high : line.high ≡ max near.0 near.1 = ap (λ (e : Edge). e.1) near.3 in
      (near.2.0, near.2.1, both_there a near.0 near.1 near.2.0 near.2.2 (is_one a near.0 near.1 line.low line.high low high end))

  -- an edge of the two is one of the result
  has_edge : (x y : ℕ) → Contains (its_edges file) (edge_of x y) → (x ≡ a) ⊎ (y ≡ a) → HasEdge file.edges a
  has_edge x y there one =
      let k = has-from_Contains (its_edges file) (edge_of x y) there in
      let w = slice_get-unmap {Y = Edge} edge_on file.edges k.0 (edge_of x y) k.1 in
      let low : w.0.low ≡ min x y = ap (λ (e : Edge). e.0) w.2 in
      let high : w.0.high ≡ max x y = ap (λ (e : Edge). e.1) w.2 in
      (w.0, Contains-from_has file.edges w.0 (k.0, w.1), is_end a x y w.0.low w.0.high low high one)

  several : (path : List ℕ) → Contains (its_paths file) path → 2 ≤ length path
  several path there =
      let k = has-from_Contains (its_paths file) path there in
      let w = slice_get-unmap (λ (p : PathLine). p.path) file.paths k.0 path k.1 in
      subst (λ p. 2 ≤ length p) w.2 (several_if_cleaned w.0.path (accepts PathsCleaned k.0 (slice_get_within file.paths k.0 w.0 w.1) w.0 w.1).cleaned)

  pub path_has_edge : IsOnPath file a → HasEdge file.edges a
  path_has_edge (path, there, has) =
      let k = has-from_Contains path a has in
      elim (cases_lt (k.0 + 1) (length path)) [
        | inl lt ↦
            let next = slice_get-some path (k.0 + 1) lt in
            has_edge a next.0 (listed file accepts path there k.0 a next.0 (k.1, next.1)) (inl refl)
        | inr ge ↦
            let within = slice_get_within path k.0 a k.1 in
            let long = several path there in
            let before : k.0 - 1 < length path = omega (arith, within) in
            let back : k.0 ≡ k.0 - 1 + 1 = omega (arith, ge, long) in
            let prior = slice_get-some path (k.0 - 1) before in
            has_edge prior.0 a (listed file accepts path there (k.0 - 1) prior.0 a (prior.1, subst (λ n. slice_get path n ≡ Some a) back k.1)) (inr refl)
      ]
