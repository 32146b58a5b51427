-- Which line is the first that breaks the rule on marks: edge lines, and then open lines.
use Rattle.std.proofs.Common.{◌≡◌, inl, inr, ℕ, ◌+◌, ◌-◌, ◌<◌, ◌≤◌, Some, None, length, subst, arith}
use Rattle.std.proofs.lemmas.Bool.{cases_lt}
use Rattle.std.proofs.lemmas.List.{length-map}
use Rattle.std.proofs.lemmas.Option.{slice_get_within}
use Rattle.relationships.specs.Checking.{IsBorneOut}
use Rattle.relationships.specs.declared.mark.Probe.{Probe}
use Rattle.result_text.specs.declared.file.ResultFile.{ResultFile}
use Rattle.relationships.specs.Graph.{edges}
use Rattle.result_rules.specs.File.{claim_on, its_probes, shown_orders}
use Rattle.result_rules.specs.declared.rule.Rule.TheVariants.{MarksBorneOut}
use Rattle.result_rules.specs.Rules.{Asks, its_served}
use Rattle.line_rules.specs.Breaches.{FindsBreach, First}
use Rattle.line_rules.specs.Serving.{MarkedAt, ServesAt}
use Rattle.tor_arena.proofs.Gets.{slice_get-map, slice_get-unmap}

module _ (file : ResultFile) where
  asks_edge : (k : ℕ) → k < length file.edges → MarkedAt file k → Asks file MarksBorneOut k
  asks_edge k lt m = (
    λ claim at. (let w = slice_get-unmap claim_on file.edges k claim at in subst (λ c. IsBorneOut (its_served file) (shown_orders file.whys) (its_probes file) c) w.2 (m w.0 w.1)),
    λ le probe at. absurd (omega arith),
  )

  edge_asked : (k : ℕ) → Asks file MarksBorneOut k → MarkedAt file k
  edge_asked k a line at = a.0 (claim_on line) (slice_get-map claim_on file.edges k line at)

  asks_open : (k j : ℕ) → k ≡ length file.edges + j → ServesAt file j → Asks file MarksBorneOut k
  asks_open k j e s = (
    λ claim at. (let w = slice_get-unmap claim_on file.edges k claim at in let lt = slice_get_within file.edges k w.0 w.1 in absurd (omega arith)),
    λ le. (let same : j ≡ k - length file.edges = omega arith in subst (ServesAt file) same s),
  )

  open_asked : (k j : ℕ) → k ≡ length file.edges + j → Asks file MarksBorneOut k → ServesAt file j
  open_asked k j e a =
      let same : k - length file.edges ≡ j = omega arith in
      let le : length file.edges ≤ k = omega arith in
      subst (ServesAt file) same (a.1 le)

  many_lines : length (its_probes file) ≡ length file.probes
  many_lines = length-map file.probes (λ (p : Probe). (p.over, p.under))

  pub none_breaks : First (MarkedAt file) (length file.edges) None → First (ServesAt file) (length file.probes) None → FindsBreach file MarksBorneOut None
  none_breaks edges opens k lt = elim (cases_lt k (length file.edges)) [
    | inl less ↦ asks_edge k less (edges k less)
    | inr ge ↦
        let j = k - length file.edges in
        let e : k ≡ length file.edges + j = omega arith in
        let within : j < length file.probes = omega arith in
        asks_open k j e (opens j within)
  ]

  pub edge_breaks : (k : ℕ) → First (MarkedAt file) (length file.edges) (Some k) → FindsBreach file MarksBorneOut (Some k)
  edge_breaks k edges = let within = edges.0 in record {
    within = omega arith;
    breach = λ a. edges.1 (edge_asked k a);
    before = λ j lt. asks_edge j (omega arith) (edges.2 j lt);
  }

  pub open_breaks : (k j : ℕ) → k ≡ length file.edges + j → First (MarkedAt file) (length file.edges) None → First (ServesAt file) (length file.probes) (Some j)
      → FindsBreach file MarksBorneOut (Some k)
  open_breaks k j e edges opens = let within = opens.0 in record {
    within = omega arith;
    breach = λ a. opens.1 (open_asked k j e a);
    before = λ i lt. elim (cases_lt i (length file.edges)) [
      | inl less ↦ asks_edge i less (edges i less)
      | inr ge ↦
          let m = i - length file.edges in
          let e' : i ≡ length file.edges + m = omega arith in
          let less : m < j = omega arith in
          asks_open i m e' (opens.2 m less)
    ];
  }
